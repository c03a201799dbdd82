-- A trace that is written line by line: what is written so far, and what is left.
use Rattle.std.proofs.Common.{◌≡◌, ℕ, suc, List, [], ◌∷◌, ◌++◌, map, refl, sym, ap, ◌∙◌, arith}
use Rattle.rand_core.specs.Pcg32Seed.{pcg32_seed}
use Rattle.rand_core.specs.Steps.{stream_of, steps_u64_low}
use Rattle.rand_core.specs.Stream.{Stream}
use Rattle.rand_pcg.specs.Lcg.{Lcg}
use Rattle.rand_pcg.specs.Pcg.{pcg64, pcg64_of_seed}
use Rattle.envy_io.proofs.WritesLemmas.{Written, with_end-nil}
use Rattle.envy_io.specs.Lines.{newline, spelled}
use Rattle.envy_io.specs.Streams.{Drain}
use Rattle.envy_trace.specs.declared.line.Line.{Line}
use Rattle.envy_trace.specs.Spelling.{line_bytes}
use Rattle.envy_gen.specs.declared.mix.Mix.{Mix}
use Rattle.envy_gen.specs.Traces.{answers_of, next_line, next_lines, trace_bytes}

-- what a generator will answer
abbrev pub answers : Lcg → Stream
answers generator = stream_of (steps_u64_low pcg64) generator

-- the bytes of the next lines
abbrev pub bytes_left : Mix → ℕ → Stream → List ℕ
bytes_left mix left words = spelled (map line_bytes (next_lines mix left words))

-- one line of those that are left
pub bytes_left-line : (mix : Mix) (left less : ℕ) (line : Line) (words rest : Stream) → left ≡ suc less → (line, rest) ≡ next_line mix words
    → bytes_left mix left words ≡ (line_bytes line ++ newline ∷ []) ++ bytes_left mix less rest
unfolding next_lines
bytes_left-line mix left less line words rest is drawn =
    ap (λ (n : ℕ). bytes_left mix n words) is
    ∙ ap (λ (p : Line × Stream). (line_bytes p.0 ++ newline ∷ []) ++ bytes_left mix less p.1) (sym drawn)

-- where no line is left
pub bytes_left-none : (mix : Mix) (words : Stream) → bytes_left mix 0 words ≡ []
unfolding next_lines
bytes_left-none mix words = refl

-- nothing is written yet
pub Written-none : (drain : Drain) (start lines : ℕ) (mix : Mix) (left : ℕ) (generator : Lcg) → generator ≡ pcg64_of_seed (pcg32_seed 32 start) → left ≡ lines
    → Written drain (trace_bytes start lines mix) (bytes_left mix left (answers generator)) drain
unfolding answers_of
Written-none drain start lines mix left generator seeded all = record {
  done = [];
  split = ap (λ (n : ℕ). bytes_left mix n (answers_of start)) (sym all) ∙ ap (λ (g : Lcg). bytes_left mix left (answers g)) (sym seeded);
  written = sym (with_end-nil drain.written);
  faults = omega arith;
  after = refl;
}
