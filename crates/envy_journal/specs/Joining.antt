-- A put that is joined to the operation before it.
use Rattle.std.specs.Prelude.{◌≡◌, ℕ, ◌+◌, ◌*◌, ◌<◌, ◌≤◌, true, List, [], ◌∷◌, ◌++◌, length, take, drop, slice_index_or}
use Rattle.std.specs.Int.{w32, from_le_bytes}
use Rattle.envy_journal.specs.declared.operation.Operation.{Operation}
use Rattle.envy_journal.specs.Reading.{bytes_of, word_bytes, words_in, Leads}

-- bytes that read as before, and then as this operation, and take no more for it than it takes alone
pub record Gains (operation : Operation) (old new : List ℕ) : Type 0 where
  pub reads : (operations : List Operation) → Leads true 0 old operations true → Leads true 0 new (operations ++ operation ∷ []) true
  pub size : length new ≤ length old + length (bytes_of operation)

-- how many words the operation at a place puts
abbrev pub words_at : ℕ → List ℕ → ℕ
words_at at buffer = words_in (slice_index_or buffer at 0)

-- at a place of a buffer, of which so much is in use, is a put or a run with fewer words than a run has at most, and no
-- more; and this word is next to the last of them
pub record IsNext (w at used : ℕ) (buffer : List ℕ) : Type 0 where
  pub some : 1 ≤ words_at at buffer
  pub few : words_at at buffer < 64
  pub last : used ≡ at + 5 + 8 * words_at at buffer
  pub place : from_le_bytes w32 (take 4 (drop (at + 1) buffer)) + words_at at buffer ≡ w

-- a word was put behind it, and it is a run of one word more
pub record IsLengthened (at used v : ℕ) (old new : List ℕ) : Type 0 where
  pub written : take (used + 8) new ≡ take at old ++ (129 + words_at at old) ∷ (take (4 + 8 * words_at at old) (drop (at + 1) old) ++ word_bytes v)
