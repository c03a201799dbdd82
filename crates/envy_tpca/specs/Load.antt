-- The transfers that a load gives, drawn from a number.
use Rattle.std.specs.Prelude.{ℕ, zero, suc, ◌+◌, ◌*◌, ◌/◌, ◌%◌, ◌^◌, ◌<◌, ◌≤◌, List, [], ◌∷◌, ◌++◌, pos, ◌-ℤ◌}
use Rattle.rand_core.specs.Pcg32Seed.{pcg32_seed}
use Rattle.rand_pcg.specs.Lcg.{Lcg}
use Rattle.rand_pcg.specs.Pcg.{pcg64, pcg64_of_seed}
use Rattle.envy_tpca.specs.declared.transfer.Transfer.{Transfer}
use Rattle.envy_base.specs.declared.shape.TheConstants.{MOST_WORDS}

-- what a load draws from: branches, accounts of each, and the state of its generator
pub record Draws : Type 0 where
  pub branches : ℕ
  pub accounts : ℕ
  pub words : Lcg

-- the generator PCG64 (XSL RR 128/64) whose seed of 32 bytes is expanded from `start`
unfoldable pub seeded : ℕ → Lcg
seeded start = pcg64_of_seed (pcg32_seed 32 start)

-- the transfer of three words: the first draws the teller and so the branch, the second the account, and the third
-- what is added, from -999,999 to 999,999
abbrev pub drawn : ℕ → ℕ → ℕ → ℕ → ℕ → Transfer
drawn branches accounts x y z = record {
  account = y % (branches * accounts);
  teller = x % (10 * branches);
  branch = x % (10 * branches) / 10;
  delta = pos (z % 1999999) -ℤ pos 999999;
}

-- the transfer that the next three words draw, and what is left after it
unfoldable pub next_transfer : Draws → Transfer × Draws
next_transfer d =
    let (x, after_x) = pcg64 d.words in
    let (y, after_y) = pcg64 after_x in
    let (z, after_z) = pcg64 after_y in
    (drawn d.branches d.accounts x y z, record d { words = after_z })

-- what is left after n transfers
unfoldable pub after : ℕ → Draws → Draws
after zero d = d
after (suc n) d = (next_transfer (after n d)).1

-- the first n transfers
unfoldable pub first : ℕ → Draws → List Transfer
first zero d = []
first (suc n) d = first n d ++ (next_transfer (after n d)).0 ∷ []

-- the sizes that a load may have
pub record IsLoad (branches accounts : ℕ) : Type 0 where
  pub some_branches : 1 ≤ branches
  pub some_accounts : 1 ≤ accounts
  pub few : branches * (accounts + 11) < MOST_WORDS
