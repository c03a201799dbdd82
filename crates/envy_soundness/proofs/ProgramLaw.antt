-- A program of a row that no page names: at each exit, whatever the row holds then.
use Rattle.std.proofs.Common.{◌≡◌, ◌≢◌, ◌⊎◌, inl, inr, ℕ, ◌+◌, ◌*◌, ◌/◌, ◌%◌, ◌<◌, ◌≤◌, List, [], length, get_or, set, Option, None, Some, refl, sym, ◌∙◌, ap, subst, arith}
use Rattle.std.specs.Prelude.{IsTrue, OnOk, Result, Ok, Err}
use Rattle.std.proofs.lemmas.List.{get_or-set_same, get_or-set_other}
use Rattle.envy_base.specs.declared.board.Trouble.{Trouble}
use Rattle.envy_base.specs.declared.board.Trouble.TheVariants.{Off as TroubleOff, Bad}
use Rattle.envy_base.specs.declared.shape.Shape.{Shape}
use Rattle.envy_base.specs.declared.fields.Job.TheVariants.{Erase}
use Rattle.envy_base.specs.declared.fields.Place.{Place}
use Rattle.envy_base.specs.declared.fields.Place.TheVariants.{Absent, Row, Frame}
use Rattle.envy_base.specs.Counting.{up}
use Rattle.envy_base.proofs.Counting.{up-least, up-most}
use Rattle.envy_base.specs.State.{State, AreWords, Programs, IsBoard, IsOnes, ones, ands, row_of}
use Rattle.envy_map.specs.Fields.{Fields, Chart, chart, failed, place}
use Rattle.envy_soundness.specs.Claims.{MayProgram}
use Rattle.envy_soundness.specs.Words.{kept, word_at}
use Rattle.envy_soundness.specs.Sound.{Sound, Blanks, Jobs, IsSound, Names, IsSpare}
use Rattle.envy_soundness.specs.Same.{Same}
use Rattle.envy_soundness.proofs.References.{copy-segment}
use Rattle.envy_soundness.proofs.WordLists.{words-same}
use Rattle.envy_soundness.proofs.Composition.{Grows-refl, Wears-refl, Wears-failed, Keeps-refl, Stays-failed, Same-refl, Same-trans, Same-more}
use Rattle.envy_base.proofs.Rows.{ands_ones}

Sound-programmed : (sh : Shape) (f : Fields) (flash : List (List ℕ)) (q : ℕ) (xs : List ℕ) → MayProgram sh f q → Sound sh f flash → Sound sh f (set flash q xs)
Sound-programmed sh f flash q xs may s = record {
  head = s.head;
  slots = s.slots;
  places = s.places;
  rows = s.rows;
  numbers = s.numbers;
  blanks = record {
    above = λ r range free. subst (λ (row : List ℕ). (row ≡ ones) ⊎ ((f.job ≡ Some Erase) × IsSpare sh f.positions (r / sh.rows))) (sym (stays r (λ same. unfilled r same free))) (Blanks.above s.blanks r range free);
    idle = Blanks.idle s.blanks;
  };
  homes = s.homes;
  job = record {
    decodes = Jobs.decodes s.job;
    copying = Jobs.copying s.job;
    switching = Jobs.switching s.job;
    copies = λ v e is placed spare. let c = Jobs.copies s.job v e is placed spare in record {
      rows = c.rows;
      apart = c.apart;
      all = c.all;
      same = λ p i lt names. stays (e * sh.rows + i) (λ same. may.unswitched v is placed (subst (λ (x : ℕ). IsSpare sh f.positions x) (sym (copy-segment sh f flash e i s lt) ∙ ap (λ (x : ℕ). x / sh.rows) same) spare)) ∙ c.same p i lt names ∙ sym (stays (get_or f.origins i 0) (λ same. may.unnamed p (subst (λ (x : ℕ). Names f p x) same names)));
      backs_same = c.backs_same;
      once = c.once;
    };
  };
}
  where
    stays : (r : ℕ) → r ≢ q → get_or (set flash q xs) r [] ≡ get_or flash r []
    stays r other = get_or-set_other flash q r xs [] other

    unfilled : (r : ℕ) → r ≡ q → get_or f.fills (r / sh.rows) 0 ≤ r % sh.rows → ⊥
    unfilled r same free = let below = may.filled in let le : get_or f.fills (q / sh.rows) 0 ≤ q % sh.rows = subst (λ (x : ℕ). get_or f.fills (x / sh.rows) 0 ≤ x % sh.rows) same free in omega arith

word_at-programmed : (frames : List ℕ) (flash : List (List ℕ)) (q : ℕ) (xs : List ℕ) (x : Option Place) (j : ℕ) → x ≢ Some (Row q) → word_at frames (set flash q xs) x j ≡ word_at frames flash x j
word_at-programmed frames flash q xs None j other = refl
word_at-programmed frames flash q xs (Some Absent) j other = refl
word_at-programmed frames flash q xs (Some (Frame k)) j other = refl
word_at-programmed frames flash q xs (Some (Row r)) j other = ap (λ (row : List ℕ). get_or row j 0) (get_or-set_other flash q r xs [] (λ same. other (ap (λ (n : ℕ). Some (Row n)) same)))

-- a program has begun, and the row holds this
abbrev programmed : Chart → ℕ → List ℕ → Chart
programmed c q xs = record c { flash = set c.flash q xs; begun = up c.begun }

abbrev spoilt : Chart → Chart
spoilt c = record c { bads = up c.bads }

Same-written : (c : Chart) (q : ℕ) (xs : List ℕ) → IsSound c → MayProgram c.shape c.fields q → Same 1 0 c (programmed c q xs)
Same-written c q xs sound may = record {
  stays = record {
    framed = record { shape = refl; magic = refl; version = refl; slots = refl; owners = λ p. refl };
    sound = Sound-programmed c.shape c.fields c.flash q xs may sound;
    live = words-same c.shape.pages _ _ (λ r j lt. word_at-programmed c.fields.frames c.flash q xs (place c.fields r) j (λ e. may.unnamed r (inl e)));
    durable = words-same c.shape.pages _ _ (λ r j lt. word_at-programmed c.fields.frames c.flash q xs (kept c.fields r) j (λ e. may.unnamed r (inr e)));
    counted = record { power = inl (refl, refl); cuts = omega arith; bads = omega arith; begun = up-least c.begun; few = up-most c.begun; erases = Grows-refl _; pulled = refl; plans = refl; last_plan = refl; lives = refl; given = refl; notes = refl };
  };
  worn = Wears-refl c;
}

-- power fails, or the operation does
Same-cut : (c : Chart) → IsTrue c.on → IsSound c → Same 0 0 c (failed c)
Same-cut c on sound = record { stays = Stays-failed c c.fields on (Keeps-refl c sound); worn = Wears-failed c c.fields refl }

Same-spoilt : (c : Chart) → IsSound c → Same 0 0 c (spoilt c)
Same-spoilt c sound = record {
  stays = record {
    framed = record { shape = refl; magic = refl; version = refl; slots = refl; owners = λ p. refl };
    sound = sound;
    live = refl;
    durable = refl;
    counted = record { power = inl (refl, refl); cuts = omega arith; bads = up-least c.bads; begun = omega arith; few = omega arith; erases = Grows-refl _; pulled = refl; plans = refl; last_plan = refl; lives = refl; given = refl; notes = refl };
  };
  worn = Wears-refl c;
}

pub Same-programmed : (old new : State) (q : ℕ) (x : List ℕ) (r : Result Unit Trouble) → IsSound (chart old) → (IsTrue old.on → MayProgram old.shape (chart old).fields q) → Programs old q x r new → Same 1 0 (chart old) (chart new)
Same-programmed old new q x (Ok done) sound may (on, is) = subst (λ (s : State). Same 1 0 (chart old) (chart s)) (sym is) (Same-written (chart old) q (ands (row_of old q) x) sound (may on))
Same-programmed old new q x (Err TroubleOff) sound may (inl (off, is)) = subst (λ (s : State). Same 1 0 (chart old) (chart s)) (sym is) (Same-more 0 0 1 0 (chart old) (chart old) (omega arith) (omega arith) (Same-refl (chart old) sound))
Same-programmed old new q x (Err TroubleOff) sound may (inr (on, xs, page, is)) =
    let written = Same-written (chart old) q xs sound (may on) in
    subst (λ (s : State). Same 1 0 (chart old) (chart s)) (sym is) (Same-trans 1 0 0 0 (chart old) (programmed (chart old) q xs) (failed (programmed (chart old) q xs)) written (Same-cut (programmed (chart old) q xs) on (Sound-programmed old.shape (chart old).fields old.flash q xs (may on) sound)))
Same-programmed old new q x (Err Bad) sound may (on, xs, page, is) =
    let written = Same-written (chart old) q xs sound (may on) in
    subst (λ (s : State). Same 1 0 (chart old) (chart s)) (sym is) (Same-trans 1 0 0 0 (chart old) (programmed (chart old) q xs) (spoilt (programmed (chart old) q xs)) written (Same-spoilt (programmed (chart old) q xs) (Sound-programmed old.shape (chart old).fields old.flash q xs (may on) sound)))

pub written-programmed : (old new : State) (q : ℕ) (x : List ℕ) (r : Result Unit Trouble) → IsBoard old → q < old.shape.segments * old.shape.rows → length x ≡ 32 → AreWords x → Programs old q x r new → OnOk r (IsOnes (row_of old q) → row_of new q ≡ x)
written-programmed old new q x (Ok done) board range long words (on, is) = λ erased. ap (λ (s : State). row_of s q) is ∙ get_or-set_same old.flash q (ands (row_of old q) x) [] (rw board.rows range) ∙ ap (λ (row : List ℕ). ands row x) erased ∙ ands_ones 32 x long words
written-programmed old new q x (Err e) board range long words is = tt
