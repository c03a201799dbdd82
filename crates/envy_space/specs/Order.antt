-- Segments in an order, each once.
use Rattle.std.specs.Prelude.{◌≡◌, ℕ, ◌^◌, ◌<◌, List, length, slice_index}

pub record IsOrder (segments : List ℕ) : Type 0 where
  pub fit : (k : ℕ) → k < length segments → slice_index segments k < length segments
  pub apart : (i j : ℕ) → i < length segments → j < length segments → slice_index segments i ≡ slice_index segments j → i ≡ j

-- each segment stands at the place that is noted for it
pub record ArePlaces (segments places : List ℕ) : Type 0 where
  pub few : length segments < 2 ^ 32
  pub long : length places ≡ length segments
  pub fit : (k : ℕ) → k < length segments → slice_index segments k < length segments
  pub noted : (k : ℕ) → k < length segments → slice_index places (slice_index segments k) ≡ k
  pub within : (s : ℕ) → s < length segments → slice_index places s < length segments
  pub stands : (s : ℕ) → s < length segments → slice_index segments (slice_index places s) ≡ s
