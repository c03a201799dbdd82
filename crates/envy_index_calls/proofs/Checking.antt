-- A check through a view of a range: what it leaves of the memory, and what its answer tells of the words.
use Rattle.std.proofs.Common.{◌≡◌, ◌≢◌, ◌⊎◌, inl, inr, ℕ, ◌≤◌, Bool, IsTrue, List, length, refl, sym, ◌∙◌, ap, subst, arith}
use Rattle.std.specs.Prelude.{Option, Result, Ok, Err, IfErr, OnOk}
use Rattle.envy_array.specs.Words.{Sheet}
use Rattle.envy_memory.specs.Picture.{Picture}
use Rattle.envy_memory.specs.Sheets.{sheet_of}
use Rattle.envy_btree.specs.Index.{IsIndex}
use Rattle.envy_tree_check.specs.Faults.{Causes}
use Rattle.envy_tree_check.specs.Grown.{Dims, Powers}
use Rattle.envy_tree_check.specs.declared.fault.MapFault.{MapFault}
use Rattle.envy_tree_check.specs.declared.fault.MapFault.TheVariants.{Off as MapOff, Short, Used, Many, FreeList, Deep, Node, Head, Level, Few, Keys, Freed, Lost, Count}
use Rattle.envy_calls.specs.declared.code.Code.{Code}
use Rattle.envy_calls.specs.declared.code.Code.TheVariants.{BrokenMap}
use Rattle.envy_index_calls.specs.Attempts.{view_of}
use Rattle.envy_index_calls.specs.Checked.{AreNone, Checks, TellsCheck}
use Rattle.envy_index_calls.specs.Indexed.{Pairs}
use Rattle.envy_index_calls.specs.Ranges.{words_in}
use Rattle.envy_index_calls.specs.declared.ranges.EnvyMap.{EnvyMap}
use Rattle.envy_index_calls.proofs.Attempting.{least-in}
use Rattle.envy_index_calls.proofs.Viewing.{Looked, keeps}

-- power is on after every fault but Off
on-after : (ws : List ℕ) (fault : MapFault) (s : Sheet) → fault ≢ MapOff → Dims ws fault s → 640 ≤ length ws → IsTrue s.on
on-after ws MapOff s ne d long = absurd (ne refl)
on-after ws Short s ne d long = d long
on-after ws Used s ne d long = d long
on-after ws Many s ne d long = d long
on-after ws FreeList s ne d long = d long
on-after ws Deep s ne d long = d long
on-after ws Node s ne d long = d long
on-after ws Head s ne d long = d long
on-after ws Level s ne d long = d long
on-after ws Few s ne d long = d long
on-after ws Keys s ne d long = d long
on-after ws Freed s ne d long = d long
on-after ws Lost s ne d long = d long
on-after ws Count s ne d long = d long

-- what a check tells, of the words of the range as they are called here
pub checked : (old : Option Picture) (range : EnvyMap) (p q : Picture) (b d : Bool) (x : Result Unit MapFault) (code : Code) (before after : ℕ) → Looked old range p q b d → (view_of range (sheet_of p b)).words ≡ words_in range p → TellsCheck x code before after → Powers (view_of range (sheet_of p b)).words x (view_of range (sheet_of q d)) → OnOk x ((es : Pairs) × IsIndex (view_of range (sheet_of p b)).words es) → IfErr x (λ e. Causes (view_of range (sheet_of p b)).words e) → IfErr x (λ e. e ≢ MapOff → (es : Pairs) → IsIndex (view_of range (sheet_of p b)).words es → ⊥) → Checks range after p q code
checked old range p q b d (Ok done) code before after l same tells on stands causes none =
    subst (Checks range after p q) (sym tells.0) (keeps old range p q b d l on, subst (λ (ws : List ℕ). (es : Pairs) × IsIndex ws es) same stands)
checked old range p q b d (Err fault) code before after l same (inl (is, off, stays)) power stands causes none =
    let dark = subst (λ (f : MapFault). Dims (view_of range (sheet_of p b)).words f (view_of range (sheet_of q d))) is power in
    subst (Checks range after p q) (sym off) (dark, l.viewed.kept)
checked old range p q b d (Err fault) code before after l same (inr (told, broken, number)) power stands causes none =
    let on = on-after (view_of range (sheet_of p b)).words fault (view_of range (sheet_of q d)) told power (least-in range (sheet_of p b) l.fits) in
    let answer : AreNone (words_in range p) after = record {
      fault = fault;
      told = told;
      number = number;
      cause = subst (λ (ws : List ℕ). Causes ws fault) same causes;
      none = subst (λ (ws : List ℕ). (es : Pairs) → IsIndex ws es → ⊥) same (none told);
    } in
    subst (Checks range after p q) (sym broken) (keeps old range p q b d l on, answer)

-- the caller's number stays after every other answer
pub check-stays : (x : Result Unit MapFault) (code : Code) (before after : ℕ) → TellsCheck x code before after → code ≢ BrokenMap → after ≡ before
check-stays (Ok done) code before after tells ne = tells.1
check-stays (Err fault) code before after (inl (is, off, same)) ne = same
check-stays (Err fault) code before after (inr (told, broken, number)) ne = absurd (ne broken)
