-- How a relocation that power stopped is ended.
use Rattle.std.proofs.Common.{◌≡◌, ◌⊎◌, inl, inr, ℕ, ◌<◌, ◌≤◌, List, length, get_or, set, replicate, Option, Some, None, sym, ◌∙◌, ap, subst, arith}
use Rattle.std.specs.Prelude.{false, IsTrue, OnOk, Result, Ok, Err}
use Rattle.std.proofs.lemmas.Bool.{cases_lt}
use Rattle.std.proofs.lemmas.List.{get_or_past, get_or-replicate, length-replicate}
use Rattle.envy_base.specs.declared.board.Off.{Off}
use Rattle.envy_base.specs.declared.fields.Job.TheVariants.{Switch, Erase}
use Rattle.envy_base.specs.declared.fields.Place.{Place}
use Rattle.envy_base.specs.declared.fields.Undo.{Undo}
use Rattle.envy_base.specs.declared.fields.Undo.TheVariants.{Clear, Shadow}
use Rattle.envy_base.specs.declared.shape.Shape.{Shape}
use Rattle.envy_map.specs.Fields.{Fields, Chart, undo}
use Rattle.envy_map.specs.Writes.{Writes, with_job, with_position}
use Rattle.envy_soundness.specs.Jobs.{IsClear}
use Rattle.envy_soundness.specs.Naming.{AreParted}
use Rattle.envy_soundness.specs.Sound.{Sound, Jobs, IsSound, IsPlaced, IsSpare}
use Rattle.envy_soundness.proofs.References.{copy-segment}
use Rattle.envy_reloc.specs.Settling.{KeepsOthers, Finishes}
use Rattle.envy_reloc.specs.Switching.{SwitchesPlace, SwitchesRows}
use Rattle.envy_reloc.proofs.SwitchLemmas.{IsClear-rows}
use Rattle.envy_base.specs.Shape.{positions_of}

-- what holds of a map, and of the map that a put makes of it, holds wherever the put is cut
pub fields-written : (old new : Chart) (change : Fields → Fields) (r : Result Unit Off) (P : Fields → Type 0) → P old.fields → P (change old.fields) → Writes change old r new → P new.fields
fields-written old new change (Ok done) P before after (on, is) = subst P (sym (ap (λ (c : Chart). c.fields) is)) after
fields-written old new change (Err off) P before after (inl (idle, is)) = subst P (sym (ap (λ (c : Chart). c.fields) is)) before
fields-written old new change (Err off) P before after (inr (on, f, inl e, is)) = subst P (sym (ap (λ (c : Chart). c.fields) is ∙ e)) before
fields-written old new change (Err off) P before after (inr (on, f, inr e, is)) = subst P (sym (ap (λ (c : Chart). c.fields) is ∙ e)) after

pub KeepsOthers-trans : (f g h : Fields) → KeepsOthers f g → KeepsOthers g h → KeepsOthers f h
KeepsOthers-trans f g h a b = b ∙ ap (λ (x : Fields). record x { job = Fields.job h; positions = Fields.positions h; places = Fields.places h }) a

pub keeps-written : (f : Fields) (old new : Chart) (change : Fields → Fields) (r : Result Unit Off) → KeepsOthers f old.fields → KeepsOthers old.fields (change old.fields) → Writes change old r new → KeepsOthers f new.fields
keeps-written f old new change r before step writes = fields-written old new change r (KeepsOthers f) before (KeepsOthers-trans f old.fields (change old.fields) before step) writes

-- a segment that is being switched and stands at no position in use is the spare
pub freed-spare : (c : Chart) (v : ℕ) → IsSound c → c.fields.job ≡ Some (Switch v) → (IsPlaced c.shape c.fields.positions v → ⊥) → IsSpare c.shape c.fields.positions v
freed-spare c v sound switching none = at (Jobs.switching (Sound.job sound) v switching)
  where
    at : IsPlaced c.shape c.fields.positions v ⊎ IsSpare c.shape c.fields.positions v → IsSpare c.shape c.fields.positions v
    at (inl placed) = absurd (none placed)
    at (inr spare) = spare

-- where each undo is clear, none names a row
pub parted-clear : (sh : Shape) (f : Fields) → length f.undos ≡ sh.pages → ((p : ℕ) → p < sh.pages → undo f p ≡ Some Clear) → AreParted f.slots f.undos f.places
parted-clear sh f long clear p t q shadow active here = at (cases_lt p sh.pages)
  where
    at : (p < sh.pages) ⊎ (sh.pages ≤ p) → ⊥
    at (inl lt) = let both : Some Clear ≡ Some (Shadow t q) = sym (clear p lt) ∙ shadow in cc
    at (inr past) = let none : undo f p ≡ None = get_or_past f.undos p None (omega arith) in let both : None ≡ Some (Shadow t q) = sym none ∙ shadow in cc

-- once all rows are switched, no row of the segment is kept
pub IsClear-kept : (old now : Chart) (v e n : ℕ) → IsSound old → old.fields.job ≡ Some (Switch v) → IsPlaced old.shape old.fields.positions v → IsSpare old.shape old.fields.positions e → now.shape ≡ old.shape → SwitchesRows now.shape e n old.fields now.fields → get_or old.fields.fills e 0 ≡ n → IsClear now.shape now.fields v
IsClear-kept old now v e n sound switching placed spare shape rows filled =
    subst (λ (sh : Shape). IsClear sh now.fields v) (sym shape)
    (IsClear-rows old.shape old.fields now.fields old.flash v e n (Jobs.copies (Sound.job sound) v e switching placed spare) placed spare (sym filled)
    (λ i lt. copy-segment old.shape old.fields old.flash e i sound (omega (arith, filled, lt)))
    (subst (λ (sh : Shape). SwitchesRows sh e n old.fields now.fields) shape rows))

-- the switch is finished: the spare stands at the position, and the job is to erase
pub Finishes-made : (old now new : Chart) (v k e n : ℕ) → k < positions_of old.shape → get_or old.fields.positions k 0 ≡ v → IsSpare old.shape old.fields.positions e → now.shape ≡ old.shape → SwitchesRows now.shape e n old.fields now.fields → now.fields.undos ≡ old.fields.undos → get_or old.fields.fills e 0 ≡ n → new.fields ≡ with_job (Some Erase) (with_position k e now.fields) → Finishes old.shape v old.fields new.fields
Finishes-made old now new v k e n low here spare shape rows undos filled is = record {
  k = k;
  e = e;
  position = low;
  here = here;
  spare = spare;
  fields = is ∙ ap (λ (x : Fields). record x { job = Some Erase; positions = set x.positions k e; places = now.fields.places }) (SwitchesRows.fields rows)
      ∙ ap (λ (us : List (Option Undo)). record old.fields { job = Some Erase; positions = set old.fields.positions k e; places = now.fields.places; undos = us }) undos
      ∙ ap (λ (ps : List (Option Place)). record old.fields { job = Some Erase; positions = set old.fields.positions k e; places = ps }) (sym places);
  switched = λ p. subst (λ (ps : List (Option Place)). Switched_by p ps) (sym places) (subst (λ (n : ℕ). Goes p n now.fields.places) (sym filled) (by_shape p));
}
  where
    places : new.fields.places ≡ now.fields.places
    places = ap (λ (x : Fields). x.places) is

    Goes : ℕ → ℕ → List (Option Place) → Type 0
    Goes p m ps = SwitchesPlace old.shape e m old.fields (record old.fields { places = ps }) p

    Switched_by : ℕ → List (Option Place) → Type 0
    Switched_by p ps = SwitchesPlace old.shape e (get_or old.fields.fills e 0) old.fields (record old.fields { places = ps }) p

    by_shape : (p : ℕ) → Goes p n now.fields.places
    by_shape p = subst (λ (sh : Shape). SwitchesPlace sh e n old.fields now.fields p) shape (SwitchesRows.by_place rows p)

-- of no segment it was noted that it stands at a position
pub none-placed : (n s : ℕ) → IsTrue (get_or (replicate n false) s false) → ⊥
none-placed n s is = at (cases_lt s n)
  where
    at : (s < n) ⊎ (n ≤ s) → ⊥
    at (inl lt) = let no : IsTrue false = subst IsTrue (get_or-replicate n s false false lt) is in cc
    at (inr past) = let no : IsTrue false = subst IsTrue (get_or_past (replicate n false) s false (let long = length-replicate n false in omega arith)) is in cc

pub ok-map : {T E : Type 0} (r : Result T E) (P Q : Type 0) → OnOk r P → (P → Q) → OnOk r Q
ok-map (Ok x) P Q p f = f p
ok-map (Err e) P Q p f = p
