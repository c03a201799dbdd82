-- The lines of segments that are left to write.
use Rattle.std.proofs.Common.{◌≡◌, ℕ, suc, ◌+◌, ◌-◌, ◌<◌, List, [], ◌∷◌, ◌++◌, map, refl, sym, ap, subst, ◌∙◌, arith, slice_index, append-nil}
use Rattle.std.specs.List.{range_with_len}
use Rattle.envy_io.specs.Lines.{newline, spelled}
use Rattle.envy_base.specs.declared.shape.Shape.{Shape}
use Rattle.envy_soundness.specs.Sound.{IsSpare}
use Rattle.envy_map.specs.Fields.{Chart}
use Rattle.envy_space.specs.Pool.{Pool, PoolAgrees}
use Rattle.envy_image.specs.Segments.{TellsSegments, heading, line_at, segment_line, segments_text, standing_at, text_of}
use Rattle.envy_image.specs.declared.line.Standing.{Standing}
use Rattle.envy_image.specs.declared.line.Standing.TheVariants.{Spare}
use Rattle.envy_base.specs.Shape.{all_positions_of}

-- n lines from a position on, and that of the spare
abbrev pub next_lines : Pool → List ℕ → ℕ → ℕ → ℕ → List ℕ
next_lines pool wears spare k n = spelled (map (line_at pool wears) (range_with_len k n) ++ segment_line pool wears (text_of Spare) spare ∷ [])

-- those from a position on
abbrev pub lines_left : Pool → List ℕ → ℕ → ℕ → List ℕ
lines_left pool wears spare k = next_lines pool wears spare k (all_positions_of pool.shape - k)

-- the text begins with its heading
pub heading-first : (pool : Pool) (wears : List ℕ) (spare : ℕ) → segments_text pool wears spare ≡ (heading ++ newline ∷ []) ++ lines_left pool wears spare 0
heading-first pool wears spare =
    let all : all_positions_of pool.shape ≡ all_positions_of pool.shape - 0 = omega arith in
    ap (λ n. (heading ++ newline ∷ []) ++ next_lines pool wears spare 0 n) all

-- the next line is that of the next position
pub line-next : (pool : Pool) (wears : List ℕ) (spare k s : ℕ) (standing : Standing) → k < all_positions_of pool.shape → s ≡ slice_index pool.positions k → standing ≡ standing_at pool k
    → lines_left pool wears spare k ≡ (segment_line pool wears (text_of standing) s ++ newline ∷ []) ++ lines_left pool wears spare (k + 1)
line-next pool wears spare k s standing below stands is =
    let more : all_positions_of pool.shape - k ≡ suc (all_positions_of pool.shape - (k + 1)) = omega arith in
    ap (next_lines pool wears spare k) more
    ∙ ap (λ x. (segment_line pool wears (text_of (standing_at pool k)) x ++ newline ∷ []) ++ lines_left pool wears spare (k + 1)) (sym stands)
    ∙ ap (λ (x : Standing). (segment_line pool wears (text_of x) s ++ newline ∷ []) ++ lines_left pool wears spare (k + 1)) (sym is)

-- the last is the spare's
pub spare-last : (pool : Pool) (wears : List ℕ) (spare k : ℕ) → k ≡ all_positions_of pool.shape
    → lines_left pool wears spare k ≡ segment_line pool wears (text_of Spare) spare ++ newline ∷ []
spare-last pool wears spare k all =
    let none : all_positions_of pool.shape - k ≡ 0 = omega arith in
    ap (next_lines pool wears spare k) none ∙ append-nil (segment_line pool wears (text_of Spare) spare ++ newline ∷ [])

-- what a pool that agrees with the board counts is told
pub told : (c : Chart) (pool : Pool) (spare : ℕ) → PoolAgrees c.shape c.fields pool → IsSpare pool.shape pool.positions spare
    → TellsSegments c (segments_text pool c.fields.wears spare)
told c pool spare agrees is = record {
  pool = pool;
  counted = agrees;
  spare = spare;
  is_spare = subst (λ (sh : Shape). IsSpare sh c.fields.positions spare) agrees.shape (subst (λ (ps : List ℕ). IsSpare pool.shape ps spare) agrees.positions is);
  is = refl;
}
