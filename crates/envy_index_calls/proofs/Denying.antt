-- Calls that aren't made.
use Rattle.std.proofs.Common.{◌≡◌, ◌⊎◌, inl, inr, ℕ, true, false, refl, sym, ◌∙◌, ap, subst, arith}
use Rattle.std.specs.Prelude.{Option, None, Some, Result, Ok, Err}
use Rattle.envy_memory.specs.Picture.{Picture}
use Rattle.envy_calls.specs.Codes.{number_of}
use Rattle.envy_calls.specs.declared.code.Code.{Code}
use Rattle.envy_calls.specs.declared.code.Code.TheVariants.{Done, Empty, Off, Range, Held, Full, Busy, Closed, Bad, NoMemory, Open, Zero, Dead, Powered, FlashSize, SramSize, ErasesSize, Policy, Unformatted, Older, OtherShape, Setup, Broken as CodeBroken, Small, ImageShort, ImageMark, ImageOther, ImageShape, Absent, MapFull, SlotOpen, MapSetup, BrokenMap, BadAborted}
use Rattle.envy_index_calls.specs.Indexed.{Loses, Pairs, Works}
use Rattle.envy_index_calls.specs.Ranged.{Calls}
use Rattle.envy_index_calls.specs.Ranges.{Denies, LendsFor}
use Rattle.envy_index_calls.specs.declared.ranges.EnvyMap.{EnvyMap}
use Rattle.envy_index_calls.specs.declared.ranges.Whose.{Whose}
use Rattle.envy_index_calls.specs.declared.ranges.Whose.TheVariants.{New, Any}

-- there are four reasons
denies-four : (whose : Whose) (range : Option EnvyMap) (p : Picture) (code : Code) → Denies whose range p code → (code ≡ Off) ⊎ (code ≡ SlotOpen) ⊎ (code ≡ Closed) ⊎ (code ≡ Range)
denies-four whose range p Done why = absurd why
denies-four whose range p Empty why = absurd why
denies-four whose range p Off why = inl refl
denies-four whose range p Range why = inr (inr (inr refl))
denies-four whose range p Held why = absurd why
denies-four whose range p Full why = absurd why
denies-four whose range p Busy why = absurd why
denies-four whose range p Closed why = inr (inr (inl refl))
denies-four whose range p Bad why = absurd why
denies-four whose range p NoMemory why = absurd why
denies-four whose range p Open why = absurd why
denies-four whose range p Zero why = absurd why
denies-four whose range p Dead why = absurd why
denies-four whose range p Powered why = absurd why
denies-four whose range p FlashSize why = absurd why
denies-four whose range p SramSize why = absurd why
denies-four whose range p ErasesSize why = absurd why
denies-four whose range p Policy why = absurd why
denies-four whose range p Unformatted why = absurd why
denies-four whose range p Older why = absurd why
denies-four whose range p OtherShape why = absurd why
denies-four whose range p (Setup f) why = absurd why
denies-four whose range p (CodeBroken r) why = absurd why
denies-four whose range p Small why = absurd why
denies-four whose range p ImageShort why = absurd why
denies-four whose range p ImageMark why = absurd why
denies-four whose range p ImageOther why = absurd why
denies-four whose range p (ImageShape f) why = absurd why
denies-four whose range p Absent why = absurd why
denies-four whose range p MapFull why = absurd why
denies-four whose range p SlotOpen why = inr (inl refl)
denies-four whose range p MapSetup why = absurd why
denies-four whose range p BrokenMap why = absurd why
denies-four whose range p BadAborted why = absurd why

pub works-none : (puts : ℕ) (p : Picture) → Works puts p p
works-none puts p = record {
  shape = refl;
  cuts = omega arith;
  bads = omega arith;
  cut = λ on off. absurd (let e : true ≡ false = sym on ∙ off in cc);
  fixed = refl;
  notes = refl;
  programs = omega arith;
  erases = omega arith;
}

-- what a call says of a memory that it leaves as it is, for each of them
pub record Stays (Left : Picture → Picture → Code → Type 0) (whose : Whose) (range : Option EnvyMap) (p : Picture) : Type 0 where
  pub off : Loses p p → Left p p Off
  pub others : Denies whose range p SlotOpen → Left p p SlotOpen
  pub closed : Denies whose range p Closed → Left p p Closed
  pub past : Denies whose range p Range → Left p p Range

pub denied : (puts : ℕ) (Left : Picture → Picture → Code → Type 0) (whose : Whose) (range : Option EnvyMap) (old new : Option Picture) (code : Code) → ((p : Picture) → Stays Left whose range p) → LendsFor whose range old new (Err code) → Calls puts Left old new (number_of code)
denied puts Left whose range None new code stays (is, empty) = (is, ap number_of empty)
denied puts Left whose range (Some p) new code stays (same, why) = (p, code, same, refl, works-none puts p, at (denies-four whose range p code why))
  where
    at : (code ≡ Off) ⊎ (code ≡ SlotOpen) ⊎ (code ≡ Closed) ⊎ (code ≡ Range) → Left p p code
    at (inl is) = subst (Left p p) (sym is) ((stays p).off (subst (Denies whose range p) is why, refl))
    at (inr (inl is)) = subst (Left p p) (sym is) ((stays p).others (subst (Denies whose range p) is why))
    at (inr (inr (inl is))) = subst (Left p p) (sym is) ((stays p).closed (subst (Denies whose range p) is why))
    at (inr (inr (inr is))) = subst (Left p p) (sym is) ((stays p).past (subst (Denies whose range p) is why))

-- a call without a slot isn't refused for it
pub never-closed : (range : Option EnvyMap) (p : Picture) → Denies Any range p Closed → ⊥
never-closed range p e = e

pub never-closed-new : (range : Option EnvyMap) (p : Picture) → Denies New range p Closed → ⊥
never-closed-new range p e = e

pub never-range : (whose : Whose) (p : Picture) → Denies whose None p Range → ⊥
never-range whose p e = e
