-- What is said of references, where a write leaves fewer of them, adds one, or switches one to a copy.
use Rattle.std.proofs.Common.{◌≡◌, ◌≢◌, ◌⊎◌, inl, inr, ℕ, ◌+◌, ◌*◌, ◌/◌, ◌%◌, ◌<◌, List, get_or, Option, Some, sym, ◌∙◌, ap, subst, arith}
use Rattle.std.proofs.lemmas.Nat.{div-mul-add, mod-mul-add}
use Rattle.envy_base.specs.declared.shape.Shape.{Shape}
use Rattle.envy_base.specs.declared.fields.Job.TheVariants.{Switch}
use Rattle.envy_base.specs.declared.fields.Place.{Place}
use Rattle.envy_base.specs.declared.fields.Slot.{Slot}
use Rattle.envy_base.specs.declared.fields.Undo.{Undo}
use Rattle.envy_map.specs.Fields.{Fields}
use Rattle.envy_soundness.specs.Sound.{Sound, Rows, Homes, Jobs, Copies, Numbers, Names, IsPlaced, IsSpare}
use Rattle.envy_soundness.specs.May.{MayName, MayRefer, IsCopied}

-- the groups that read references
pub record References (sh : Shape) (f : Fields) (flash : List (List ℕ)) : Type 0 where
  pub rows : Rows sh f.slots f.undos f.places f.fills f.backs
  pub homes : Homes sh f.job f.positions f.slots f.undos f.places
  pub job : Jobs sh f.job f.positions f.slots f.undos f.places f.fills f.backs f.origins flash

-- only slots, undos and places differ
abbrev pub Referring : Fields → List (Option Slot) → List (Option Undo) → List (Option Place) → Fields
Referring f slots undos places = record f { slots = slots; undos = undos; places = places }

-- a spare is no position
pub apart-spare : (sh : Shape) (positions : List ℕ) (s : ℕ) → IsPlaced sh positions s → IsSpare sh positions s → ⊥
apart-spare sh positions s (k, lt, is) spare = spare.nowhere k (omega (arith, lt)) is

-- row i of a segment
pub row-of : (rows e i : ℕ) → i < rows → ((e * rows + i) / rows ≡ e) × ((e * rows + i) % rows ≡ i)
row-of rows e i lt = (div-mul-add e rows i lt, mod-mul-add e rows i lt)

pub copy-low : (sh : Shape) (f : Fields) (flash : List (List ℕ)) (e i : ℕ) → Sound sh f flash → i < get_or f.fills e 0 → i < sh.rows
copy-low sh f flash e i s lt = let fits = Numbers.fills_fit s.numbers e in omega arith

pub copy-segment : (sh : Shape) (f : Fields) (flash : List (List ℕ)) (e i : ℕ) → Sound sh f flash → i < get_or f.fills e 0 → (e * sh.rows + i) / sh.rows ≡ e
copy-segment sh f flash e i s lt = (row-of sh.rows e i (copy-low sh f flash e i s lt)).0

pub References-fewer : (sh : Shape) (f : Fields) (flash : List (List ℕ)) (slots : List (Option Slot)) (undos : List (Option Undo)) (places : List (Option Place)) → Sound sh f flash → ((p q : ℕ) → Names (Referring f slots undos places) p q → Names f p q) → References sh (Referring f slots undos places) flash
References-fewer sh f flash slots undos places s was = record {
  rows = record {
    apart = λ p r q n m. Rows.apart s.rows p r q (was p q n) (was r q m);
    filled = λ p q n. Rows.filled s.rows p q (was p q n);
    claimed = λ p q n. Rows.claimed s.rows p q (was p q n);
  };
  homes = record { kept = λ p q n. Homes.kept s.homes p q (was p q n) };
  job = record {
    decodes = Jobs.decodes s.job;
    copying = Jobs.copying s.job;
    switching = Jobs.switching s.job;
    copies = λ v e is placed spare. let c = Jobs.copies s.job v e is placed spare in record {
      rows = c.rows;
      apart = c.apart;
      all = λ p q n at. c.all p q (was p q n) at;
      same = λ p i lt n. c.same p i lt (was p _ n);
      backs_same = λ p i lt n. c.backs_same p i lt (was p _ n);
      once = λ p r i lt n m. c.once p r i lt (was p _ n) (was r _ m);
    };
  };
}

-- a reference that was, or one of page p to row q
abbrev pub Added : Fields → ℕ → ℕ → ℕ → ℕ → Type 0
Added f p q r x = Names f r x ⊎ ((r ≡ p) × (x ≡ q))

References-named : (sh : Shape) (f : Fields) (flash : List (List ℕ)) (slots : List (Option Slot)) (undos : List (Option Undo)) (places : List (Option Place)) (p q : ℕ) → Sound sh f flash → MayName sh f p q → ((r x : ℕ) → Names (Referring f slots undos places) r x → Added f p q r x) → References sh (Referring f slots undos places) flash
References-named sh f flash slots undos places p q s may added = record {
  rows = record {
    apart = λ r t x n m. apart r t x (added r x n) (added t x m);
    filled = λ r x n. below r x (added r x n);
    claimed = λ r x n. mine r x (added r x n);
  };
  homes = record { kept = λ r x n. home r x (added r x n) };
  job = record {
    decodes = Jobs.decodes s.job;
    copying = Jobs.copying s.job;
    switching = Jobs.switching s.job;
    copies = λ v e is placed spare. copies v e is spare (Jobs.copies s.job v e is placed spare);
  };
}
  where
    apart : (r t x : ℕ) → Added f p q r x → Added f p q t x → r ≡ t
    apart r t x (inl n) (inl m) = Rows.apart s.rows r t x n m
    apart r t x (inl n) (inr (same, is)) = may.alone r (subst (λ (y : ℕ). Names f r y) is n) ∙ sym same
    apart r t x (inr (same, is)) (inl m) = same ∙ sym (may.alone t (subst (λ (y : ℕ). Names f t y) is m))
    apart r t x (inr (same, is)) (inr (other, at)) = same ∙ sym other

    below : (r x : ℕ) → Added f p q r x → x % sh.rows < get_or f.fills (x / sh.rows) 0
    below r x (inl n) = Rows.filled s.rows r x n
    below r x (inr (same, is)) = rw is may.filled

    mine : (r x : ℕ) → Added f p q r x → get_or f.backs x 0 ≡ r
    mine r x (inl n) = Rows.claimed s.rows r x n
    mine r x (inr (same, is)) = rw is may.claimed ∙ sym same

    home : (r x : ℕ) → Added f p q r x → IsPlaced sh f.positions (x / sh.rows) ⊎ ((v : ℕ) × (f.job ≡ Some (Switch v)) × IsPlaced sh f.positions v × IsSpare sh f.positions (x / sh.rows))
    home r x (inl n) = Homes.kept s.homes r x n
    home r x (inr (same, is)) = inl (subst (λ (y : ℕ). IsPlaced sh f.positions (y / sh.rows)) (sym is) may.home)

    copies : (v e : ℕ) → f.job ≡ Some (Switch v) → IsSpare sh f.positions e → Copies sh f.slots f.undos f.places f.fills f.backs f.origins flash v e → Copies sh slots undos places f.fills f.backs f.origins flash v e
    copies v e switch spare c = record {
      rows = c.rows;
      apart = c.apart;
      all = λ r x n at. found r x at (added r x n);
      same = λ r i lt n. c.same r i lt (old r i lt n);
      backs_same = λ r i lt n. c.backs_same r i lt (old r i lt n);
      once = λ r t i lt n m. c.once r t i lt (copy r i lt (added r _ n)) (old t i lt m);
    }
      where
        found : (r x : ℕ) → x / sh.rows ≡ v → Added f p q r x → (i : ℕ) × (i < get_or f.fills e 0) × (get_or f.origins i 0 ≡ x)
        found r x at (inl n) = c.all r x n at
        found r x at (inr (same, is)) = absurd (may.unswitched v switch (ap (λ (y : ℕ). y / sh.rows) (sym is) ∙ at))

        was : (r i : ℕ) → i < get_or f.fills e 0 → Added f p q r (get_or f.origins i 0) → Names f r (get_or f.origins i 0)
        was r i lt (inl n) = n
        was r i lt (inr (same, is)) = absurd (may.unswitched v switch (ap (λ (y : ℕ). y / sh.rows) (sym is) ∙ c.rows i lt))

        old : (r i : ℕ) → i < get_or f.fills e 0 → Names (Referring f slots undos places) r (get_or f.origins i 0) → Names f r (get_or f.origins i 0)
        old r i lt n = was r i lt (added r _ n)

        copy : (r i : ℕ) → i < get_or f.fills e 0 → Added f p q r (e * sh.rows + i) → Names f r (e * sh.rows + i)
        copy r i lt (inl n) = n
        copy r i lt (inr (same, is)) = absurd (apart-spare sh f.positions (q / sh.rows) may.home (subst (λ (y : ℕ). IsSpare sh f.positions y) (sym (copy-segment sh f flash e i s lt) ∙ ap (λ (y : ℕ). y / sh.rows) is) spare))

-- one reference more
pub References-more : (sh : Shape) (f : Fields) (flash : List (List ℕ)) (slots : List (Option Slot)) (undos : List (Option Undo)) (places : List (Option Place)) (p q : ℕ) → Sound sh f flash → MayRefer sh f p q → ((r x : ℕ) → Names (Referring f slots undos places) r x → Added f p q r x) → References sh (Referring f slots undos places) flash
References-more sh f flash slots undos places p q s (inr may) added = References-named sh f flash slots undos places p q s may added
References-more sh f flash slots undos places p q s (inl named) added = References-fewer sh f flash slots undos places s (λ r x n. was r x (added r x n))
  where
    was : (r x : ℕ) → Added f p q r x → Names f r x
    was r x (inl n) = n
    was r x (inr (same, is)) = rw (same, is) named

-- Page p goes from the row origin(i) to its copy, row i of the spare.
pub References-switched : (sh : Shape) (f : Fields) (flash : List (List ℕ)) (slots : List (Option Slot)) (undos : List (Option Undo)) (places : List (Option Place)) (e i p : ℕ) → Sound sh f flash → IsCopied sh f e i → Names f p (get_or f.origins i 0) → ((r x : ℕ) → Names (Referring f slots undos places) r x → (x ≢ get_or f.origins i 0) × Added f p (e * sh.rows + i) r x) → References sh (Referring f slots undos places) flash
References-switched sh f flash slots undos places e i p s can named moved = from can.switching
  where
    segment : (e * sh.rows + i) / sh.rows ≡ e
    segment = copy-segment sh f flash e i s can.row

    from : (v : ℕ) × (f.job ≡ Some (Switch v)) × IsPlaced sh f.positions v → References sh (Referring f slots undos places) flash
    from (v, switch, placed) = record {
      rows = record {
        apart = λ r t x n m. apart r t x (moved r x n).1 (moved t x m).1;
        filled = λ r x n. below r x (moved r x n).1;
        claimed = λ r x n. mine r x (moved r x n).1;
      };
      homes = record { kept = λ r x n. home r x (moved r x n).1 };
      job = record {
        decodes = Jobs.decodes s.job;
        copying = Jobs.copying s.job;
        switching = Jobs.switching s.job;
        copies = λ w d is at spare. copies w d at spare (Jobs.copies s.job w d is at spare);
      };
    }
      where
        c : Copies sh f.slots f.undos f.places f.fills f.backs f.origins flash v e
        c = Jobs.copies s.job v e switch placed can.spare

        alone : (r : ℕ) → Names f r (e * sh.rows + i) → ⊥
        alone r n = Copies.once (Jobs.copies s.job v e switch placed can.spare) r p i can.row n named

        apart : (r t x : ℕ) → Added f p (e * sh.rows + i) r x → Added f p (e * sh.rows + i) t x → r ≡ t
        apart r t x (inl n) (inl m) = Rows.apart s.rows r t x n m
        apart r t x (inl n) (inr (same, is)) = absurd (alone r (subst (λ (y : ℕ). Names f r y) is n))
        apart r t x (inr (same, is)) (inl m) = absurd (alone t (subst (λ (y : ℕ). Names f t y) is m))
        apart r t x (inr (same, is)) (inr (other, at)) = same ∙ sym other

        below : (r x : ℕ) → Added f p (e * sh.rows + i) r x → x % sh.rows < get_or f.fills (x / sh.rows) 0
        below r x (inl n) = Rows.filled s.rows r x n
        below r x (inr (same, is)) = let at = row-of sh.rows e i (copy-low sh f flash e i s can.row) in rw (is, at.0, at.1) can.row

        mine : (r x : ℕ) → Added f p (e * sh.rows + i) r x → get_or f.backs x 0 ≡ r
        mine r x (inl n) = Rows.claimed s.rows r x n
        mine r x (inr (same, is)) = rw is (Copies.backs_same (Jobs.copies s.job v e switch placed can.spare) p i can.row named) ∙ Rows.claimed s.rows p (get_or f.origins i 0) named ∙ sym same

        home : (r x : ℕ) → Added f p (e * sh.rows + i) r x → IsPlaced sh f.positions (x / sh.rows) ⊎ ((w : ℕ) × (f.job ≡ Some (Switch w)) × IsPlaced sh f.positions w × IsSpare sh f.positions (x / sh.rows))
        home r x (inl n) = Homes.kept s.homes r x n
        home r x (inr (same, is)) = inr (v, switch, placed, subst (λ (y : ℕ). IsSpare sh f.positions y) (sym (ap (λ (y : ℕ). y / sh.rows) is ∙ segment)) can.spare)

        copies : (w d : ℕ) → IsPlaced sh f.positions w → IsSpare sh f.positions d → Copies sh f.slots f.undos f.places f.fills f.backs f.origins flash w d → Copies sh slots undos places f.fills f.backs f.origins flash w d
        copies w d at spare c = record {
          rows = c.rows;
          apart = c.apart;
          all = λ r x n is. found r x is (moved r x n).1;
          same = λ r j lt n. c.same r j lt (old r j lt (moved r _ n).1);
          backs_same = λ r j lt n. c.backs_same r j lt (old r j lt (moved r _ n).1);
          once = λ r t j lt n m. one r t j lt (moved r _ n).1 (moved t _ m);
        }
          where
            -- no row of a position is a row of the spare
            clash : (x : ℕ) → x / sh.rows ≡ w → x ≡ e * sh.rows + i → ⊥
            clash x is new = apart-spare sh f.positions w at (subst (λ (y : ℕ). IsSpare sh f.positions y) (sym (sym is ∙ ap (λ (y : ℕ). y / sh.rows) new ∙ segment)) can.spare)

            found : (r x : ℕ) → x / sh.rows ≡ w → Added f p (e * sh.rows + i) r x → (j : ℕ) × (j < get_or f.fills d 0) × (get_or f.origins j 0 ≡ x)
            found r x is (inl n) = c.all r x n is
            found r x is (inr (same, new)) = absurd (clash x is new)

            old : (r j : ℕ) → j < get_or f.fills d 0 → Added f p (e * sh.rows + i) r (get_or f.origins j 0) → Names f r (get_or f.origins j 0)
            old r j lt (inl n) = n
            old r j lt (inr (same, new)) = absurd (clash (get_or f.origins j 0) (c.rows j lt) new)

            one : (r t j : ℕ) → j < get_or f.fills d 0 → Added f p (e * sh.rows + i) r (d * sh.rows + j) → (get_or f.origins j 0 ≢ get_or f.origins i 0) × Added f p (e * sh.rows + i) t (get_or f.origins j 0) → ⊥
            one r t j lt (inl n) m = c.once r t j lt n (old t j lt m.1)
            one r t j lt (inr (same, is)) m =
                let low : j < sh.rows = copy-low sh f flash d j s lt in
                let under : i < sh.rows = copy-low sh f flash e i s can.row in
                let rest : j ≡ i = sym (row-of sh.rows d j low).1 ∙ ap (λ (y : ℕ). y % sh.rows) is ∙ (row-of sh.rows e i under).1 in
                m.0 (ap (λ (y : ℕ). get_or f.origins y 0) rest)
