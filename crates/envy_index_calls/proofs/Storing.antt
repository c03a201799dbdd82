-- A bulk load through a view of a range, and what it leaves of the memory.
use Rattle.std.proofs.Common.{◌≡◌, ◌⊎◌, inl, inr, ℕ, ◌<◌, ◌≤◌, ◌*◌, Bool, true, false, IsTrue, List, length, drop, refl, sym, ◌∙◌, ap, subst, arith}
use Rattle.std.specs.Prelude.{◌&&◌, Result, Ok, Err}
use Rattle.envy_array.specs.Words.{Sheet, IsSheet, Keeps}
use Rattle.envy_memory.specs.Picture.{Picture}
use Rattle.envy_memory.specs.Sheets.{sheet_of, words_read}
use Rattle.envy_range.specs.Ranges.{inside, outside, within, Stays}
use Rattle.envy_range.proofs.Staying.{stays-shut}
use Rattle.envy_btree.specs.Index.{IsIndex}
use Rattle.envy_btree.specs.declared.fault.TreeFault.{TreeFault}
use Rattle.envy_btree.specs.declared.fault.TreeFault.TheVariants.{Off as FaultOff, Full as FaultFull, Bad as FaultBad}
use Rattle.envy_calls.specs.declared.code.Code.{Code}
use Rattle.envy_calls.specs.declared.code.Code.TheVariants.{Done, Empty, Off, Range, Held, Full, Busy, Closed, Bad, NoMemory, Open, Zero, Dead, Powered, FlashSize, SramSize, ErasesSize, Policy, Unformatted, Older, OtherShape, Setup, Broken as CodeBroken, Small, ImageShort, ImageMark, ImageOther, ImageShape, Absent, MapFull, SlotOpen, MapSetup, BrokenMap, BadAborted}
use Rattle.envy_index_calls.specs.Attempts.{Steady, view_of}
use Rattle.envy_index_calls.specs.Indexed.{Pairs}
use Rattle.envy_index_calls.specs.Loaded.{LoadsIn, Rests, TellsLoaded, Unfit}
use Rattle.envy_index_calls.specs.Loading.{LoadsNew}
use Rattle.envy_index_calls.specs.declared.ranges.EnvyMap.{EnvyMap}
use Rattle.envy_index_calls.proofs.Ranging.{Back}

-- what calls that begin and end transactions in a view of a range leave below it
pub record Kept (range : EnvyMap) (old mid view : Sheet) : Type 0 where
  pub steady : Steady old mid
  pub beside : outside range.first range.words mid.kept ≡ outside range.first range.words old.kept
  pub same : view ≡ view_of range mid

pub kept-through : (range : EnvyMap) (first count : ℕ) (old mid ahead : Sheet) → ahead ≡ view_of range old → IsSheet old → IsSheet mid → old.started ≡ false → Keeps ahead (within first count mid) → Kept range old mid (within first count mid)
kept-through range first count old mid ahead is law then shut keeps =
    let k = subst (λ (s : Sheet). Keeps s (within first count mid)) is keeps in
    let s = stays-shut range.first range.words first count old mid law then shut k in
    record {
      steady = record { fixed = ap (λ (ns : List ℕ). drop 3 ns) k.fixed; notes = k.notes; cuts = k.cuts; bads = k.bads; cut = k.cut };
      beside = Stays.kept s.2;
      same = ap (λ (n : ℕ). within n count mid) s.0 ∙ ap (λ (n : ℕ). within range.first n mid) s.1;
    }

-- by the code of a load
pub load-back : (range : EnvyMap) (ps : Pairs) (p q : Picture) (b d : Bool) (r : Result Unit TreeFault) (code : Code) → Back q d → (sheet_of q d).started ≡ false → outside range.first range.words (sheet_of q d).kept ≡ outside range.first range.words (sheet_of p b).kept → LoadsNew ps (view_of range (sheet_of p b)) r (view_of range (sheet_of q d)) → TellsLoaded r code → LoadsIn range ps p q code
load-back range ps p q b d (Ok u) code back shut beside s tells =
    let rests : Rests range p q = record { shut = back.shut s.0 shut; beside = beside } in
    subst (λ (k : Code). LoadsIn range ps p q k) (sym tells) (rests, subst (λ (ws : List ℕ). IsIndex ws ps) (ap (λ (x : Bool). inside range.first range.words (words_read x q.chart)) shut) s.1)
load-back range ps p q b d (Err FaultOff) code back shut beside s tells = subst (λ (k : Code). LoadsIn range ps p q k) (sym tells) (s.0, beside, s.1)
load-back range ps p q b d (Err FaultFull) code back shut beside s tells = absurd s
load-back range ps p q b d (Err FaultBad) code back shut beside s tells =
    let rests : Rests range p q = record { shut = back.shut s.0 shut; beside = beside } in
    subst (λ (k : Code). LoadsIn range ps p q k) (sym tells) (rests, s.1, s.2)

-- by that of a refusal
pub unfit-back : (room : ℕ) (range : EnvyMap) (ps : Pairs) (p : Picture) (code : Code) → room ≡ p.chart.shape.shadows → Unfit room range ps code → LoadsIn range ps p p code
unfit-back room range ps p Done is why = absurd why
unfit-back room range ps p Empty is why = absurd why
unfit-back room range ps p Off is why = absurd why
unfit-back room range ps p Range is why = (refl, inr why)
unfit-back room range ps p Held is why = absurd why
unfit-back room range ps p Full is why = absurd why
unfit-back room range ps p Busy is why = absurd why
unfit-back room range ps p Closed is why = absurd why
unfit-back room range ps p Bad is why = absurd why
unfit-back room range ps p NoMemory is why = absurd why
unfit-back room range ps p Open is why = absurd why
unfit-back room range ps p Zero is why = absurd why
unfit-back room range ps p Dead is why = absurd why
unfit-back room range ps p Powered is why = absurd why
unfit-back room range ps p FlashSize is why = absurd why
unfit-back room range ps p SramSize is why = absurd why
unfit-back room range ps p ErasesSize is why = absurd why
unfit-back room range ps p Policy is why = absurd why
unfit-back room range ps p Unformatted is why = absurd why
unfit-back room range ps p Older is why = absurd why
unfit-back room range ps p OtherShape is why = absurd why
unfit-back room range ps p (Setup f) is why = absurd why
unfit-back room range ps p (CodeBroken r) is why = absurd why
unfit-back room range ps p Small is why = absurd why
unfit-back room range ps p ImageShort is why = absurd why
unfit-back room range ps p ImageMark is why = absurd why
unfit-back room range ps p ImageOther is why = absurd why
unfit-back room range ps p (ImageShape f) is why = absurd why
unfit-back room range ps p Absent is why = absurd why
unfit-back room range ps p MapFull is why = (refl, inr why)
unfit-back room range ps p SlotOpen is why = absurd why
unfit-back room range ps p MapSetup is why = (refl, inr (subst (λ (n : ℕ). n < 32) is why))
unfit-back room range ps p BrokenMap is why = absurd why
unfit-back room range ps p BadAborted is why = absurd why
