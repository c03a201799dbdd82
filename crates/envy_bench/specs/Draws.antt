-- The words that a disturbed operation of the flash leaves.
use Rattle.std.specs.Prelude.{ℕ}
use Rattle.rand_core.specs.Stream.{Stream}
use Rattle.rand_core.specs.Steps.{u64_via_u32, steps_u32, stream_of}
use Rattle.rand_core.specs.Pcg32Seed.{pcg32_seed}
use Rattle.rand_pcg.specs.Lcg.{Lcg}
use Rattle.rand_pcg.specs.Pcg.{pcg32, pcg32_of_seed}

-- the generator PCG32 (XSH RR) whose seed of 16 bytes is expanded from g
unfoldable pub seeded : ℕ → Lcg
seeded g = pcg32_of_seed (pcg32_seed 16 g)

-- the next word of 64 bits, which is two words of the generator with the low half first, and the generator after it
unfoldable pub next_word : Lcg → ℕ × Lcg
next_word generator = u64_via_u32 pcg32 generator

-- all that the generator will answer
abbrev pub answers : Lcg → Stream
answers generator = stream_of (steps_u32 pcg32) generator
