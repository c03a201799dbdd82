-- Tables from which a register takes in many bits at once.
use Rattle.std.specs.Prelude.{◌≡◌, ℕ, ◌^◌, ◌<◌, List, length, slice_index}
use Rattle.envy_sum.specs.Register.{register_after}

-- what a register has become after n bits 0
abbrev pub after_zeros : ℕ → ℕ → ℕ
after_zeros n register = register_after register (λ i. 0) n

-- a lane: its entry v, for each number v of so many bits, is the register v after n bits 0
pub record IsLane (width n : ℕ) (entries : List ℕ) : Type 0 where
  pub long : length entries ≡ 2 ^ width
  pub each : (v : ℕ) → v < 2 ^ width → slice_index entries v ≡ after_zeros n v
