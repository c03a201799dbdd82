-- A look-up through a view of a range: what it leaves of the memory, and what it tells of a map there.
use Rattle.std.proofs.Common.{◌≡◌, ◌≢◌, ◌⊎◌, inl, inr, ℕ, ◌≤◌, Bool, true, false, IsTrue, List, length, refl, sym, ◌∙◌, ap, subst, arith}
use Rattle.std.specs.Prelude.{◌&&◌, Option, None, Some, Result, Ok, Err}
use Rattle.envy_array.specs.Words.{IsSheet, Sheet, Works as SheetWorks, Spends}
use Rattle.envy_soundness.specs.Words.{live}
use Rattle.envy_memory.specs.Picture.{Picture}
use Rattle.envy_memory.specs.Sheets.{sheet_of}
use Rattle.envy_btree.specs.Answers.{Gets as TreeGets, Counts as TreeCounts}
use Rattle.envy_btree.specs.Index.{IsIndex}
use Rattle.envy_btree.specs.Looking.{Powers, Sees}
use Rattle.envy_btree.specs.declared.fault.LookFault.{LookFault}
use Rattle.envy_btree.specs.declared.fault.LookFault.TheVariants.{Off as LookOff, Broken}
use Rattle.envy_calls.specs.declared.code.Code.{Code}
use Rattle.envy_calls.specs.declared.code.Code.TheVariants.{Done, Off, Absent, BrokenMap}
use Rattle.envy_index_calls.specs.Attempts.{view_of}
use Rattle.envy_index_calls.specs.Indexed.{Pairs, TellsCount, TellsValue, Works, look_code}
use Rattle.envy_index_calls.specs.Ranged.{Keeps, KeepsIn}
use Rattle.envy_index_calls.specs.Ranges.{HasFirst, IsRange, words_in}
use Rattle.envy_index_calls.specs.declared.ranges.EnvyMap.{EnvyMap}
use Rattle.envy_index_calls.specs.declared.ranges.Whose.TheVariants.{Any}
use Rattle.envy_index_calls.proofs.Attempting.{Through, Viewed, all-stay, least-in}
use Rattle.envy_index_calls.proofs.Ranging.{Back, Given, and-on, back-held, both-ways, neither-way, on-held, words-live}
use Rattle.envy_index_calls.proofs.Returning.{in-range, steady-back}

-- a look at the words of a memory through a view, which is back in its place
pub record Looked (old : Option Picture) (range : EnvyMap) (p q : Picture) (b d : Bool) : Type 0 where
  pub given : Given old Any (Some range) p b
  pub fits : IsRange range (length (sheet_of p b).words)
  pub viewed : Viewed range (sheet_of p b) (sheet_of q d)
  pub works : SheetWorks 0 (view_of range (sheet_of p b)) (view_of range (sheet_of q d))
  pub same : IsTrue q.chart.on → (view_of range (sheet_of q d)).words ≡ (view_of range (sheet_of p b)).words
  pub back : Back q d

-- as a call through a view tells of it
pub looked : (old : Option Picture) (range : EnvyMap) (p q : Picture) (b d : Bool) (ahead view below : Sheet) → Given old Any (Some range) p b → IsRange range (length (sheet_of p b).words) → ahead ≡ view_of range (sheet_of p b) → Through range 0 (sheet_of p b) below view → below ≡ sheet_of q d → (IsTrue view.on → view.words ≡ ahead.words) → Back q d → Looked old range p q b d
looked old range p q b d ahead view below g fits entry t came same back =
    let th = subst (λ (s : Sheet). Through range 0 (sheet_of p b) s view) came t in
    record {
      given = g;
      fits = fits;
      viewed = Through.viewed th;
      works = Through.works th;
      same = λ on. ap (λ (s : Sheet). s.words) (sym (Through.same th)) ∙ same (ap (λ (s : Sheet). s.on) (Through.same th) ∙ on) ∙ ap (λ (s : Sheet). s.words) entry;
      back = back;
    }

-- its view afterwards
pub view-then : (range : EnvyMap) (old view below now : Sheet) → Through range 0 old below view → below ≡ now → view ≡ view_of range now
view-then range old view below now t came = Through.same t ∙ ap (view_of range) came

pub works-then : (range : EnvyMap) (p q : Picture) (b d : Bool) (view below : Sheet) → Through range 0 (sheet_of p b) below view → below ≡ sheet_of q d → Spends 0 (sheet_of p b) below → Works 0 p q
works-then range p q b d view below t came spends =
    let th = subst (λ (s : Sheet). Through range 0 (sheet_of p b) s view) came t in
    steady-back 0 p q b d (Viewed.steady (Through.viewed th)) (subst (λ (s : Sheet). Spends 0 (sheet_of p b) s) came spends)

off-and : (on : Bool) → (on && false) ≡ false
off-and true = refl
off-and false = refl

pub keeps : (old : Option Picture) (range : EnvyMap) (p q : Picture) (b d : Bool) → Looked old range p q b d → IsTrue q.chart.on → Keeps p q
keeps old range p q b d l on = record {
  words = sym (words-live d q (back-held q d l.back on)) ∙ all-stay range (sheet_of p b) (sheet_of q d) l.fits on l.viewed (l.same on) ∙ words-live b p l.given.held;
  kept = l.viewed.kept;
  opened = λ first. l.back.opened (l.works.still on ∙ and-on p.chart.on b (on-held b p l.given.held) (both-ways b p.chart l.given.first first));
  shut = λ none. l.back.shut on (l.works.still on ∙ ap (λ (x : Bool). p.chart.on && x) (neither-way b p.chart l.given.first none) ∙ off-and p.chart.on);
}

failed-look : (T : Type 0) (old : Option Picture) (range : EnvyMap) (p q : Picture) (b d : Bool) (fault : LookFault) → Looked old range p q b d → Powers {T = T} (Err fault) (view_of range (sheet_of q d)) → (fault ≡ Broken → (es : Pairs) → IsIndex (words_in range p) es → ⊥) → KeepsIn range p q (look_code fault)
failed-look T old range p q b d LookOff l dark bad = (dark, l.viewed.kept)
failed-look T old range p q b d Broken l power bad = (keeps old range p q b d l (power (omega (arith, least-in range (sheet_of p b) l.fits, l.works.long))), bad refl)

-- by its answer: of a value,
pub value-keeps : (old : Option Picture) (range : EnvyMap) (p q : Picture) (b d : Bool) (x : Result (Option ℕ) LookFault) (code : Code) (before after : ℕ) → Looked old range p q b d → TellsValue x code before after → Powers x (view_of range (sheet_of q d)) → (x ≡ Err Broken → (es : Pairs) → IsIndex (words_in range p) es → ⊥) → KeepsIn range p q code
value-keeps old range p q b d (Ok (Some v)) code before after l tells on bad = subst (KeepsIn range p q) (sym tells.0) (keeps old range p q b d l on)
value-keeps old range p q b d (Ok None) code before after l tells on bad = subst (KeepsIn range p q) (sym tells.0) (keeps old range p q b d l on)
value-keeps old range p q b d (Err fault) code before after l tells power bad = subst (KeepsIn range p q) (sym tells.0) (failed-look (Option ℕ) old range p q b d fault l power (λ e. bad (ap Err e)))

-- and of a number
pub count-keeps : (old : Option Picture) (range : EnvyMap) (p q : Picture) (b d : Bool) (x : Result ℕ LookFault) (code : Code) (before after : ℕ) → Looked old range p q b d → TellsCount x code before after → Powers x (view_of range (sheet_of q d)) → (x ≡ Err Broken → (es : Pairs) → IsIndex (words_in range p) es → ⊥) → KeepsIn range p q code
count-keeps old range p q b d (Ok n) code before after l tells on bad = subst (KeepsIn range p q) (sym tells.0) (keeps old range p q b d l on)
count-keeps old range p q b d (Err fault) code before after l tells power bad = subst (KeepsIn range p q) (sym tells.0) (failed-look ℕ old range p q b d fault l power (λ e. bad (ap Err e)))

-- the map is in the words of the view
pub index-in : (old : Option Picture) (range : EnvyMap) (p : Picture) (b : Bool) (es : Pairs) → Given old Any (Some range) p b → IsIndex (words_in range p) es → IsIndex (view_of range (sheet_of p b)).words es
index-in old range p b es g map = subst (λ (ws : List ℕ). IsIndex ws es) (sym (in-range range b p (words-live b p g.held))) map

-- words that are broken are those of no map
pub never-value : (key : ℕ) (es : Pairs) (s t : Sheet) (x : Result (Option ℕ) LookFault) → TreeGets key es s x t → x ≡ Err Broken → ⊥
never-value key es s t x says is = subst (λ r. TreeGets key es s r t) is says

pub never-count : (es : Pairs) (s t : Sheet) (x : Result ℕ LookFault) → TreeCounts es s x t → x ≡ Err Broken → ⊥
never-count es s t x says is = subst (λ r. TreeCounts es s r t) is says

pub never-scan : (P : ℕ → Type 0) (x : Result ℕ LookFault) → Sees P x → x ≡ Err Broken → ⊥
never-scan P x says is = subst (λ r. Sees P r) is says
