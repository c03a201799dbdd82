-- What is drawn is a line that the grammar can say.
use Rattle.std.proofs.Common.{◌≡◌, ◌≢◌, ℕ, ◌*◌, ◌/◌, ◌%◌, ◌^◌, ◌<◌, ◌≤◌, zero, suc, Bool, true, false, List, [], ◌∷◌, ◌++◌, length, map, refl, sym, ap, subst, ◌∙◌, arith, append-nil, Ok}
use Rattle.std.specs.Prelude.{Result, Option, None, Some, IfSome, ◌+◌, ◌-◌, ◌==◌, ◌||◌, max, if◌then◌else◌, bit_xor}
use Rattle.std.specs.Int.{w64, rotate_right}
use Rattle.std.specs.List.{All, AllByRecursion}
use Rattle.std.proofs.lemmas.Bool.Decides.{nat_tests}
use Rattle.std.proofs.Math.Nat.{div-le_self, mul-le-mul_left}
use Rattle.std.proofs.lemmas.List.Elements.{recursion_from_All}
use Rattle.std.proofs.lemmas.Nat.{or_lt, xor_lt}
use Rattle.rand_core.specs.Steps.{stream_of, steps_u64_low}
use Rattle.rand_core.specs.Stream.{Stream, next_u64}
use Rattle.rand_pcg.specs.Lcg.{Lcg, next_state}
use Rattle.rand_pcg.specs.Pcg.{pcg64, output_xsl_rr, multiplier_128, pcg64_of_seed}
use Rattle.rand_core.specs.Pcg32Seed.{pcg32_seed}
use Rattle.envy_io.proofs.LinesLemmas.{lines_of-spelled, lines_of-nil}
use Rattle.envy_io.specs.Lines.{NoNewline, lines_of, spelled}
use Rattle.envy_trace.specs.declared.fault.LineFault.{LineFault}
use Rattle.envy_trace.specs.declared.line.Line.{Line}
use Rattle.envy_trace.specs.declared.line.Line.TheVariants.{Load, Store, Begin, Put, Commit, Abort, Tick}
use Rattle.envy_trace.specs.Grammar.{line_of}
use Rattle.envy_trace.specs.Spelling.{IsLine, line_bytes}
use Rattle.envy_gen.specs.declared.mix.Mix.{Mix}
use Rattle.envy_gen.specs.declared.mix.Skew.{Skew}
use Rattle.envy_gen.specs.Traces.{IsMix, IsPerCent, address_in, address_of, answers_of, drawn, drawn_by, generated, next_line, next_lines}

-- a word of 64 bits stays one when it is rotated
rotate_right-fits : (n by : ℕ) → n < 2 ^ 64 → rotate_right w64 n by < 2 ^ 64
rotate_right-fits n by fits =
    let high : n / 2 ^ (by % 64) < 2 ^ 64 = omega (arith, div-le_self n (2 ^ (by % 64))) in
    or_lt 64 _ _ high (omega arith)

-- the words of the generator have 64 bits
output-fits : (s : ℕ) → s < 2 ^ 128 → output_xsl_rr s < 2 ^ 64
output-fits s fits =
    let high : s / 2 ^ 64 < 2 ^ 64 = omega arith in
    let low : s % 2 ^ 64 < 2 ^ 64 = omega arith in
    rotate_right-fits (bit_xor (s / 2 ^ 64) (s % 2 ^ 64)) (s / 2 ^ 122) (xor_lt 64 (s / 2 ^ 64) (s % 2 ^ 64) high low)

-- a draw is a word
pub pcg64-fits : (g : Lcg) → (pcg64 g).0 < 2 ^ 64
pcg64-fits g =
    let fits : next_state 128 multiplier_128 g.increment g.state < 2 ^ 128 = omega arith in
    output-fits (next_state 128 multiplier_128 g.increment g.state) fits

-- each choice is a line
chosen : (a t z : ℕ) (load store put begin commit abort : Bool) → a < 2 ^ 32 → t < 256 → z < 2 ^ 64
    → IsLine (if load then Load a else if store then Store a z else if put then Put t a z else if begin then Begin else if commit then Commit t else if abort then Abort t else Tick)
chosen a t z true store put begin commit abort address slot word = address
chosen a t z false true put begin commit abort address slot word = (address, word)
chosen a t z false false true begin commit abort address slot word = (slot, address, word)
chosen a t z false false false true commit abort address slot word = tt
chosen a t z false false false false true abort address slot word = slot
chosen a t z false false false false false true address slot word = slot
chosen a t z false false false false false false address slot word = tt

chosen_of_two : (a z : ℕ) (store : Bool) → a < 2 ^ 32 → z < 2 ^ 64 → IsLine (if store then Store a z else Load a)
chosen_of_two a z true address word = (address, word)
chosen_of_two a z false address word = address

-- an address is one of the array
either-fits : (a b : ℕ) (none hot : Bool) → a < 2 ^ 32 → (none ≡ false → b < 2 ^ 32) → (if none || hot then a else b) < 2 ^ 32
either-fits a b true hot low high = low
either-fits a b false true low high = low
either-fits a b false false low high = high refl

some-cold : (n : ℕ) → (n == 0) ≡ false → 1 ≤ n
some-cold n e = grind (arith, nat_tests)

address_in-fits : (y pages : ℕ) (skew : Option Skew) → 1 ≤ pages → pages ≤ 16777216 → IfSome skew (λ s. IsPerCent s.hot) → address_in y pages skew < 2 ^ 32
address_in-fits y pages None some few hot = omega arith
address_in-fits y pages (Some skew) some few (low, high) =
    let h : ℕ = max 1 (pages * skew.hot / 100) in
    let scaled : pages * skew.hot ≤ pages * 99 = mul-le-mul_left pages high in
    let least : 1 ≤ h = omega arith in
    let most : h ≤ 16777216 = omega arith in
    either-fits (y % (32 * h)) (32 * h + y % (32 * (pages - h))) (pages - h == 0) _ (omega arith)
    (λ cold. let some : 1 ≤ pages - h = some-cold (pages - h) cold in omega arith)

drawn_by-IsLine : (stores : Option ℕ) (x t a z : ℕ) → a < 2 ^ 32 → t < 256 → z < 2 ^ 64 → IsLine (drawn_by stores x t a z)
drawn_by-IsLine None x t a z address slot word = chosen a t z _ _ _ _ _ _ address slot word
drawn_by-IsLine (Some stores) x t a z address slot word = chosen_of_two a z _ address word

drawn-IsLine : (x y z : ℕ) (mix : Mix) → IsMix mix → z < 2 ^ 64 → IsLine (drawn x y z mix)
unfolding drawn
drawn-IsLine x y z mix is word =
    let slot : y / 2 ^ 32 % 4 < 256 = omega arith in
    drawn_by-IsLine mix.stores x (y / 2 ^ 32 % 4) (address_of y mix) z (address_in-fits y mix.pages mix.skew is.some is.few is.hot) slot word

-- the next line of a generator of words, and the words after it
next_line-stream_of : {S : Type 0} (step : S → ℕ × S) (mix : Mix) (s : S)
    → next_line mix (stream_of (steps_u64_low step) s)
    ≡ (drawn (step s).0 (step (step s).1).0 (step (step (step s).1).1).0 mix, stream_of (steps_u64_low step) (step (step (step s).1).1).1)
unfolding next_line next_u64 stream_of
next_line-stream_of step mix s = refl

next_lines-IsLine : {S : Type 0} (step : S → ℕ × S) → ((s : S) → (step s).0 < 2 ^ 64) → (mix : Mix) → IsMix mix
    → (n : ℕ) (s : S) → AllByRecursion IsLine (next_lines mix n (stream_of (steps_u64_low step) s))
unfolding next_lines
next_lines-IsLine step fits mix is zero s = tt
next_lines-IsLine {S} step fits mix is (suc n) s =
    let t : S = (step (step s).1).1 in
    subst (λ (p : Line × Stream). IsLine p.0 × AllByRecursion IsLine (next_lines mix n p.1)) (sym (next_line-stream_of step mix s))
    (drawn-IsLine (step s).0 (step (step s).1).0 (step t).0 mix is (fits t), next_lines-IsLine step fits mix is n (step t).1)

-- every line that is generated is one of the grammar
pub generated-IsLine : (start lines : ℕ) (mix : Mix) → IsMix mix → AllByRecursion IsLine (generated start lines mix)
unfolding answers_of
generated-IsLine start lines mix is = next_lines-IsLine pcg64 pcg64-fits mix is lines (pcg64_of_seed (pcg32_seed 32 start))

next_lines-count : (mix : Mix) (n : ℕ) (words : Stream) → length (next_lines mix n words) ≡ n
unfolding next_lines
next_lines-count mix zero words = refl
next_lines-count mix (suc n) words = ap suc (next_lines-count mix n (next_line mix words).1)

-- and there are as many as were asked for
pub generated-count : (start lines : ℕ) (mix : Mix) → length (generated start lines mix) ≡ lines
generated-count start lines mix = next_lines-count mix lines (answers_of start)

-- no newline stands in a written line
whole_lines : ((line : Line) → IsLine line → All (λ byte. byte ≢ 10) (line_bytes line)) → (lines : List Line) → AllByRecursion IsLine lines → AllByRecursion NoNewline (map line_bytes lines)
whole_lines one_line [] all = tt
whole_lines one_line (line ∷ lines) (is, all) = (recursion_from_All (λ byte. byte ≢ 10) (line_bytes line) (one_line line is), whole_lines one_line lines all)

each_reads : ((line : Line) → IsLine line → line_of (line_bytes line) ≡ Ok line) → (lines : List Line) → AllByRecursion IsLine lines → map line_of (map line_bytes lines) ≡ map (λ line. Ok line) lines
each_reads reads [] all = refl
each_reads reads (line ∷ lines) (is, all) =
    let R : Type 0 = Result Line LineFault in
    ap (λ (r : R). r ∷ map line_of (map line_bytes lines)) (reads line is) ∙ ap (λ (rs : List R). Ok line ∷ rs) (each_reads reads lines all)

-- the lines of what is written are those that were written
pub spelled-reads : ((line : Line) → IsLine line → line_of (line_bytes line) ≡ Ok line) → ((line : Line) → IsLine line → All (λ byte. byte ≢ 10) (line_bytes line))
    → (lines : List Line) → AllByRecursion IsLine lines → map line_of (lines_of (spelled (map line_bytes lines))) ≡ map (λ line. Ok line) lines
spelled-reads reads one_line lines all =
    let texts : List (List ℕ) = map line_bytes lines in
    let split : lines_of (spelled texts) ≡ texts =
    ap lines_of (sym (append-nil (spelled texts)))
    ∙ (lines_of-spelled texts [] (whole_lines one_line lines all) ∙ (ap (λ (none : List (List ℕ)). texts ++ none) lines_of-nil ∙ append-nil texts)) in
    ap (λ (ls : List (List ℕ)). map line_of ls) split ∙ each_reads reads lines all
