-- A word that is stored after steps that leave the array.
use Rattle.std.proofs.Common.{◌≡◌, ◌⊎◌, inl, inr, ℕ, ◌+◌, ◌≤◌, Bool, true, false, List, refl, ◌∙◌, ap, set}
use Rattle.std.specs.Prelude.{Result, Ok, Err}
use Rattle.envy_base.specs.declared.board.Trouble.{Trouble}
use Rattle.envy_base.specs.declared.board.Trouble.TheVariants.{Off as TroubleOff, Bad}
use Rattle.envy_map.specs.Fields.{Chart, undo}
use Rattle.envy_soundness.specs.Sound.{owned_by}
use Rattle.envy_soundness.specs.Words.{durable}
use Rattle.envy_soundness.specs.Same.{Counted, Framed, Stays, Same, Stored, Interrupted, Shadowed, Dropped}
use Rattle.envy_soundness.proofs.Composition.{Counted-trans, Counted-more, Framed-trans, Wears-trans}
use Rattle.envy_reloc.specs.Phases.{SameOnce}
use Rattle.envy_engine.specs.Storing.{Wrote, Shaded, Leaves}

pub Stored-after : (i j k l : ℕ) (a b c : Chart) (x w : ℕ) → Same i j a b → Stored k l b c x w → Stored (i + k) (j + l) a c x w
Stored-after i j k l a b c x w s t =
    let y = s.stays in record {
      on = t.on;
      framed = Framed-trans a b c y.framed t.framed;
      sound = t.sound;
      live = t.live ∙ ap (λ (ws : List ℕ). set ws x w) y.live;
      durable = t.durable ∙ ap (λ (ws : List ℕ). set ws x w) y.durable;
      counted = Counted-trans i j k l a b c y.counted t.counted;
      worn = Wears-trans k l a b c (Framed.shape y.framed) t.counted s.worn t.worn;
    }

pub Stored-more : (i j k l : ℕ) (a b : Chart) (x w : ℕ) → i ≤ k → j ≤ l → Stored i j a b x w → Stored k l a b x w
Stored-more i j k l a b x w le less s = record { on = s.on; framed = s.framed; sound = s.sound; live = s.live; durable = s.durable; counted = Counted-more i j k l a b le less s.counted; worn = s.worn }

pub Interrupted-after : (i j k l : ℕ) (a b c : Chart) (x w : ℕ) → Same i j a b → Interrupted k l b c x w → Interrupted (i + k) (j + l) a c x w
Interrupted-after i j k l a b c x w s t =
    let y = s.stays in record {
      off = t.off;
      framed = Framed-trans a b c y.framed t.framed;
      sound = t.sound;
      durable = at y t.durable;
      counted = Counted-trans i j k l a b c y.counted t.counted;
      worn = Wears-trans k l a b c (Framed.shape y.framed) t.counted s.worn t.worn;
    }
  where
    at : Stays i j a b → (durable c ≡ durable b) ⊎ (durable c ≡ set (durable b) x w) → (durable c ≡ durable a) ⊎ (durable c ≡ set (durable a) x w)
    at y (inl e) = inl (e ∙ y.durable)
    at y (inr e) = inr (e ∙ ap (λ (ws : List ℕ). set ws x w) y.durable)

pub Interrupted-more : (i j k l : ℕ) (a b : Chart) (x w : ℕ) → i ≤ k → j ≤ l → Interrupted i j a b x w → Interrupted k l a b x w
Interrupted-more i j k l a b x w le less s = record { off = s.off; framed = s.framed; sound = s.sound; durable = s.durable; counted = Counted-more i j k l a b le less s.counted; worn = s.worn }

pub Interrupted-same : (k j : ℕ) (a b : Chart) (x w : ℕ) → b.on ≡ false → Same k j a b → Interrupted k j a b x w
Interrupted-same k j a b x w off s = let y = s.stays in record { off = off; framed = y.framed; sound = y.sound; durable = inl y.durable; counted = y.counted; worn = s.worn }

pub Shadowed-after : (i j k l : ℕ) (a b c : Chart) (x w : ℕ) → Same i j a b → Shadowed k l b c x w → Shadowed (i + k) (j + l) a c x w
Shadowed-after i j k l a b c x w s t =
    let y = s.stays in record {
      on = t.on;
      framed = Framed-trans a b c y.framed t.framed;
      sound = t.sound;
      live = t.live ∙ ap (λ (ws : List ℕ). set ws x w) y.live;
      durable = t.durable ∙ y.durable;
      counted = Counted-trans i j k l a b c y.counted t.counted;
      worn = Wears-trans k l a b c (Framed.shape y.framed) t.counted s.worn t.worn;
    }

pub Dropped-same : (k j : ℕ) (a b : Chart) → b.on ≡ false → Same k j a b → Dropped k j a b
Dropped-same k j a b off s = let y = s.stays in record { off = off; framed = y.framed; sound = y.sound; durable = y.durable; counted = y.counted; worn = s.worn }

pub Shadowed-more : (i j k l : ℕ) (a b : Chart) (x w : ℕ) → i ≤ k → j ≤ l → Shadowed i j a b x w → Shadowed k l a b x w
Shadowed-more i j k l a b x w le less s = record { on = s.on; framed = s.framed; sound = s.sound; live = s.live; durable = s.durable; counted = Counted-more i j k l a b le less s.counted; worn = s.worn }

leaves-same : (k j : ℕ) (c new : Chart) → Same k j c new → Leaves k j c new
leaves-same k j c new s = let y = s.stays in record { framed = y.framed; sound = y.sound; counted = y.counted; worn = s.worn }

pub Leaves-wrote : (k j : ℕ) (c new : Chart) (a w p : ℕ) (r : Result Unit Trouble) → (owned_by c.fields.slots (undo c.fields p) ≡ false → Wrote k j c a w r new) → (owned_by c.fields.slots (undo c.fields p) ≡ true → Shaded k j c a w r new) → Leaves k j c new
Leaves-wrote k j c new a w p r free owned = at (owned_by c.fields.slots (undo c.fields p)) refl
  where
    wrote : (x : Result Unit Trouble) → Wrote k j c a w x new → Leaves k j c new
    wrote (Ok done) s = record { framed = s.framed; sound = s.sound; counted = s.counted; worn = s.worn }
    wrote (Err TroubleOff) s = record { framed = s.framed; sound = s.sound; counted = s.counted; worn = s.worn }
    wrote (Err Bad) s = leaves-same k j c new s.0

    shaded : (x : Result Unit Trouble) → Shaded k j c a w x new → Leaves k j c new
    shaded (Ok done) s = record { framed = s.framed; sound = s.sound; counted = s.counted; worn = s.worn }
    shaded (Err TroubleOff) s = record { framed = s.framed; sound = s.sound; counted = s.counted; worn = s.worn }
    shaded (Err Bad) s = leaves-same k j c new s.0

    at : (b : Bool) → owned_by c.fields.slots (undo c.fields p) ≡ b → Leaves k j c new
    at false none = wrote r (free none)
    at true some = shaded r (owned some)

pub shape-step : (c new : Chart) → SameOnce c new → new.shape ≡ c.shape
shape-step c new (inl s) = Framed.shape (Stays.framed s.stays)
shape-step c new (inr s) = Framed.shape (Stays.framed s.stays)

pub begun-step : (c new : Chart) → SameOnce c new → c.begun ≤ new.begun
begun-step c new (inl s) = Counted.begun (Stays.counted s.stays)
begun-step c new (inr s) = Counted.begun (Stays.counted s.stays)
