-- What each exit of formatting leaves.
use Rattle.std.proofs.Common.{◌≡◌, ◌⊎◌, inl, inr, ℕ, ◌+◌, ◌-◌, ◌^◌, ◌<◌, ◌≤◌, length, Bool, true, false, refl, sym, ◌∙◌, ap, subst, arith}
use Rattle.std.specs.Prelude.{IsTrue, Result, Ok, Err, IsErrOf, IsErrAnd, slice_index, ◌==◌, if◌then◌else◌}
use Rattle.std.proofs.lemmas.Result.{err_from_is_err_and}
use Rattle.envy_base.specs.Shape.{IsVersionOf, version_of}
use Rattle.envy_base.proofs.Versions.{version-known}
use Rattle.envy_base.specs.State.{State, IsBoard}
use Rattle.envy_base.specs.declared.shape.Shape.{Shape}
use Rattle.envy_base.specs.declared.board.Off.{Off}
use Rattle.envy_base.specs.declared.board.Trouble.{Trouble}
use Rattle.envy_base.specs.declared.board.Trouble.TheVariants.{Off as TroubleOff, Bad}
use Rattle.envy_map.specs.Codes.{the_magic}
use Rattle.envy_map.specs.Fields.{Fields, Chart, chart, map_fields, failed, with_fields}
use Rattle.envy_map.specs.Writes.{Writes, with_magic}
use Rattle.envy_map.proofs.Sizes.{length-sizes, length-slots, length-wears, length-fills, length-positions, length-places, length-undos, length-backs, length-origins, length-frames}
use Rattle.envy_soundness.specs.Formatting.{Formats, Spoils, aside, IsEmpty, IsLaid, IsStopped, IsSpoilt}
use Rattle.envy_soundness.specs.Same.{Counted}
use Rattle.envy_soundness.specs.Sound.{slots_of}
use Rattle.envy_soundness.proofs.Composition.{Counted-trans, Counted-more, Counted-put}
use Rattle.envy_soundness.proofs.Empty.{Lengths, IsEmpty-laid, IsEmpty-failed}

pub Lengths-board : (s : State) → IsBoard s → Lengths s.shape (chart s).fields
Lengths-board s b = record {
  sizes = length-sizes s b;
  slots = length-slots s b;
  wears = length-wears s b;
  fills = length-fills s b;
  positions = length-positions s b;
  places = length-places s b;
  undos = length-undos s b;
  backs = length-backs s b;
  origins = length-origins s b;
  frames = length-frames s b;
}

pub magic-is : (s : State) → (chart s).fields.magic ≡ slice_index s.sram 0
unfolding map_fields
magic-is s = refl

pub Counts-first : (n : ℕ) (c new : Chart) (change : Fields → Fields) (r : Result Unit Off) → Writes change c r new → Counted 0 n c new
Counts-first n c new change r writes = Counted-more 0 0 0 n c new (omega arith) (omega arith) (Counted-put c new change r writes)

pub Counts-last : (n : ℕ) (a b c : Chart) (change : Fields → Fields) (r : Result Unit Off) → Counted 0 n a b → Writes change b r c → Counted 0 n a c
Counts-last n a b c change r counted writes = Counted-more 0 (n + 0) 0 n a c (omega arith) (omega arith) (Counted-trans 0 n 0 0 a b c counted (Counted-put b c change r writes))

pub Formats-fails : (version n : ℕ) (old a b : State) (t : Trouble) → (chart a).fields.magic ≡ 0 → chart a ≡ with_fields (chart old) (with_magic 0 (chart old).fields) → (IsErrOf {T = Unit {0}} (Err t) TroubleOff → IsStopped n (chart a) (chart b)) → (IsErrOf {T = Unit {0}} (Err t) Bad → IsSpoilt n a.shape.reserves (chart a) (chart b)) → Formats version old (Err t) b
Formats-fails version n old a b TroubleOff zero_word first stopped spoilt = let s = stopped refl in (s.off, inl (sym (magic-is b) ∙ s.magic ∙ zero_word))
Formats-fails version n old a b Bad zero_word first stopped spoilt = let s = spoilt refl in (s.on, sym (magic-is b) ∙ s.magic ∙ zero_word, subst (λ (c : Chart). c.bads + c.shape.reserves < 2 ^ 64 - 1 → c.bads + c.shape.reserves < b.bads) first s.bads)

-- the board whose map is laid, once its first word is written
pub Completed : (version : ℕ) (old b : State) → IsBoard b → IsVersionOf old.shape version → b.shape ≡ old.shape → IsLaid old.shape version (chart b).fields b.flash → IsEmpty version (with_fields (chart b) (with_magic the_magic (chart b).fields))
Completed version old b board versions shape laid =
    IsEmpty-laid (chart b) version board.shape (subst (λ (sh : Shape). IsVersionOf sh version) (sym shape) versions) (subst (λ (sh : Shape). IsLaid sh version (chart b).fields b.flash) (sym shape) laid)

pub Formats-done : (version : ℕ) (old b c : State) → IsEmpty version (with_fields (chart b) (with_magic the_magic (chart b).fields)) → Spoils (length (aside b.shape (chart b).fields.fills)) old.bads b.bads → Writes (with_magic the_magic) (chart b) (Ok tt) (chart c) → Formats version old (Ok tt) c
Formats-done version old b c empty spoils (on, is) = (subst (λ (x : Bool). IsTrue x) (sym (ap (λ (x : Chart). x.on) is)) on, subst (λ (x : Chart). IsEmpty version x) (sym is) empty, subst (λ (x : Chart). Spoils (length (aside x.shape x.fields.fills)) old.bads x.bads) (sym is) spoils)

pub Formats-cut : (version : ℕ) (old b c : State) (r : Result Unit Trouble) (off : Off) → IsErrAnd r (λ e. e ≡ TroubleOff) → IsTrue b.on → (chart b).fields.magic ≡ 0 → IsEmpty version (with_fields (chart b) (with_magic the_magic (chart b).fields)) → Writes (with_magic the_magic) (chart b) (Err off) (chart c) → Formats version old r c
Formats-cut version old b c r off is on zero_word empty writes = let p = err_from_is_err_and r is in rw (p.1, p.2) (at writes)
  where
    at : Writes (with_magic the_magic) (chart b) (Err off) (chart c) → Formats version old (Err TroubleOff) c
    at (inl (dark, same)) = absurd (let no = on in cc)
    at (inr (was, f, inl e, same)) = (ap (λ (x : Chart). x.on) same, inl (sym (magic-is c) ∙ ap (λ (x : Chart). x.fields.magic) same ∙ ap (λ (g : Fields). g.magic) e ∙ zero_word))
    at (inr (was, f, inr e, same)) = (ap (λ (x : Chart). x.on) same, inr (inr (subst (λ (x : Chart). IsEmpty version x) (sym (same ∙ ap (λ (g : Fields). failed (with_fields (chart b) g)) e)) (IsEmpty-failed (with_fields (chart b) (with_magic the_magic (chart b).fields)) version empty))))

pub slots-few : (version : ℕ) → slots_of version ≤ 64
slots-few version = elim (version == 1) as (λ (b : Bool). (if b then 16 else 64) ≤ 64) [ true ↦ omega arith | false ↦ omega arith ]

-- the counts over a first word cleared, all segments erased, and a last put
pub Counts-middle : (old a b c : Chart) (change : Fields → Fields) (r : Result Unit Off) → Writes (with_magic 0) old (Ok tt) a → Counted 0 a.shape.segments a b → Writes change b r c → Counted 0 old.shape.segments old c
Counts-middle old a b c change r first counted last =
    let segments : a.shape.segments ≡ old.shape.segments = ap (λ (x : Chart). x.shape.segments) first.1 in
    Counted-more 0 (0 + a.shape.segments) 0 old.shape.segments old c (omega arith) (omega arith) (Counted-trans 0 0 0 a.shape.segments old a c (Counted-put old a (with_magic 0) (Ok tt) first) (Counts-last a.shape.segments a b c change r counted last))

-- but for version 1 a board has all slots
pub slots-all : (sh : Shape) (version : ℕ) → version ≡ version_of sh → 64 ≡ slots_of version
slots-all sh version is = at (version-known sh)
  where
    at : (version_of sh ≡ 2) ⊎ (version_of sh ≡ 3) → 64 ≡ slots_of version
    at (inl two) = rw (is, two) refl
    at (inr three) = rw (is, three) refl
