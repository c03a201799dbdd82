-- A put that changes one word, at every exit.
use Rattle.std.proofs.Common.{◌≡◌, ◌⊎◌, inl, inr, ℕ, ◌+◌, ◌≤◌, false, List, set, refl, ◌∙◌, ap}
use Rattle.std.specs.Prelude.{IsTrue, Result, MatchResult}
use Rattle.envy_base.specs.declared.board.Off.{Off}
use Rattle.envy_map.specs.Fields.{Fields, Chart, with_fields}
use Rattle.envy_map.specs.Writes.{Writes}
use Rattle.envy_soundness.specs.Sound.{IsSound}
use Rattle.envy_soundness.specs.Words.{live, durable}
use Rattle.envy_soundness.specs.Same.{Framed, Stays, Same, Stored, Interrupted, Shadowed, Dropped}
use Rattle.envy_soundness.proofs.Composition.{Counted-refl, Counted-trans, Counted-more, Counted-fields, Counted-failed, Wears-refl, Wears-trans, Wears-fields, Wears-failed, Framed-refl, Framed-trans, Framed-failed, exits}

-- what a law says of the fields, where a word of both kinds changes
pub record Changes (c : Chart) (f : Fields) (a w : ℕ) : Type 0 where
  pub framed : Framed c (with_fields c f)
  pub wears : f.wears ≡ c.fields.wears
  pub sound : IsSound (with_fields c f)
  pub live : live (with_fields c f) ≡ set (live c) a w
  pub durable : durable (with_fields c f) ≡ set (durable c) a w

pub Stored-put : (c new : Chart) (change : Fields → Fields) (r : Result Unit Off) (a w : ℕ) → IsSound c → (IsTrue c.on → Changes c (change c.fields) a w) → Writes change c r new → MatchResult r (λ _. Stored 0 0 c new a w) (λ _. Interrupted 0 0 c new a w)
Stored-put c new change r a w sound law writes = exits c new change r (λ (x : Chart). Stored 0 0 c x a w) (λ (x : Chart). Interrupted 0 0 c x a w)
    (λ on. let k = law on in record { on = on; framed = k.framed; sound = k.sound; live = k.live; durable = k.durable; counted = Counted-fields c (change c.fields); worn = Wears-fields c (change c.fields) k.wears })
    (λ off. record { off = off; framed = Framed-refl c; sound = sound; durable = inl refl; counted = Counted-refl c; worn = Wears-refl c })
    (λ on. record { off = refl; framed = Framed-failed c c.fields (Framed-refl c); sound = sound; durable = inl refl; counted = Counted-failed c c.fields on; worn = Wears-failed c c.fields refl })
    (λ on. let k = law on in record { off = refl; framed = Framed-failed c (change c.fields) k.framed; sound = k.sound; durable = inr k.durable; counted = Counted-failed c (change c.fields) on; worn = Wears-failed c (change c.fields) k.wears })
    writes

-- where a word changes that a restart takes back
pub record Shadows (c : Chart) (f : Fields) (a w : ℕ) : Type 0 where
  pub framed : Framed c (with_fields c f)
  pub wears : f.wears ≡ c.fields.wears
  pub sound : IsSound (with_fields c f)
  pub live : live (with_fields c f) ≡ set (live c) a w
  pub durable : durable (with_fields c f) ≡ durable c

pub Shadowed-put : (c new : Chart) (change : Fields → Fields) (r : Result Unit Off) (a w : ℕ) → IsSound c → (IsTrue c.on → Shadows c (change c.fields) a w) → Writes change c r new → MatchResult r (λ _. Shadowed 0 0 c new a w) (λ _. Dropped 0 0 c new)
Shadowed-put c new change r a w sound law writes = exits c new change r (λ (x : Chart). Shadowed 0 0 c x a w) (λ (x : Chart). Dropped 0 0 c x)
    (λ on. let k = law on in record { on = on; framed = k.framed; sound = k.sound; live = k.live; durable = k.durable; counted = Counted-fields c (change c.fields); worn = Wears-fields c (change c.fields) k.wears })
    (λ off. record { off = off; framed = Framed-refl c; sound = sound; durable = refl; counted = Counted-refl c; worn = Wears-refl c })
    (λ on. record { off = refl; framed = Framed-failed c c.fields (Framed-refl c); sound = sound; durable = refl; counted = Counted-failed c c.fields on; worn = Wears-failed c c.fields refl })
    (λ on. let k = law on in record { off = refl; framed = Framed-failed c (change c.fields) k.framed; sound = k.sound; durable = k.durable; counted = Counted-failed c (change c.fields) on; worn = Wears-failed c (change c.fields) k.wears })
    writes

-- such a change after steps that leave the array as it is
pub Stored-after : (i j k l : ℕ) (a b c : Chart) (n w : ℕ) → Same i j a b → Stored k l b c n w → Stored (i + k) (j + l) a c n w
Stored-after i j k l a b c n w s t =
    let r = s.stays in
    record {
      on = t.on;
      framed = Framed-trans a b c r.framed t.framed;
      sound = t.sound;
      live = t.live ∙ ap (λ (ws : List ℕ). set ws n w) r.live;
      durable = t.durable ∙ ap (λ (ws : List ℕ). set ws n w) r.durable;
      counted = Counted-trans i j k l a b c r.counted t.counted;
      worn = Wears-trans k l a b c (Framed.shape r.framed) t.counted s.worn t.worn;
    }

pub Interrupted-after : (i j k l : ℕ) (a b c : Chart) (n w : ℕ) → Same i j a b → Interrupted k l b c n w → Interrupted (i + k) (j + l) a c n w
Interrupted-after i j k l a b c n w s t = record {
  off = t.off;
  framed = Framed-trans a b c (Stays.framed s.stays) t.framed;
  sound = t.sound;
  durable = at t.durable;
  counted = Counted-trans i j k l a b c (Stays.counted s.stays) t.counted;
  worn = Wears-trans k l a b c (Framed.shape (Stays.framed s.stays)) t.counted s.worn t.worn;
}
  where
    at : (durable c ≡ durable b) ⊎ (durable c ≡ set (durable b) n w) → (durable c ≡ durable a) ⊎ (durable c ≡ set (durable a) n w)
    at (inl e) = inl (e ∙ Stays.durable s.stays)
    at (inr e) = inr (e ∙ ap (λ (ws : List ℕ). set ws n w) (Stays.durable s.stays))

pub Shadowed-after : (i j k l : ℕ) (a b c : Chart) (n w : ℕ) → Same i j a b → Shadowed k l b c n w → Shadowed (i + k) (j + l) a c n w
Shadowed-after i j k l a b c n w s t =
    let r = s.stays in
    record {
      on = t.on;
      framed = Framed-trans a b c r.framed t.framed;
      sound = t.sound;
      live = t.live ∙ ap (λ (ws : List ℕ). set ws n w) r.live;
      durable = t.durable ∙ r.durable;
      counted = Counted-trans i j k l a b c r.counted t.counted;
      worn = Wears-trans k l a b c (Framed.shape r.framed) t.counted s.worn t.worn;
    }

pub Dropped-after : (i j k l : ℕ) (a b c : Chart) → Same i j a b → Dropped k l b c → Dropped (i + k) (j + l) a c
Dropped-after i j k l a b c s t =
    let r = s.stays in
    record {
      off = t.off;
      framed = Framed-trans a b c r.framed t.framed;
      sound = t.sound;
      durable = t.durable ∙ r.durable;
      counted = Counted-trans i j k l a b c r.counted t.counted;
      worn = Wears-trans k l a b c (Framed.shape r.framed) t.counted s.worn t.worn;
    }

-- power failed before it
pub Interrupted-same : (k j : ℕ) (a b : Chart) (n w : ℕ) → Same k j a b → b.on ≡ false → Interrupted k j a b n w
Interrupted-same k j a b n w s off = let r = s.stays in record { off = off; framed = r.framed; sound = r.sound; durable = inl r.durable; counted = r.counted; worn = s.worn }

pub Dropped-same : (k j : ℕ) (a b : Chart) → Same k j a b → b.on ≡ false → Dropped k j a b
Dropped-same k j a b s off = let r = s.stays in record { off = off; framed = r.framed; sound = r.sound; durable = r.durable; counted = r.counted; worn = s.worn }

-- within larger bounds
pub Stored-more : (i j k l : ℕ) (a b : Chart) (n w : ℕ) → i ≤ k → j ≤ l → Stored i j a b n w → Stored k l a b n w
Stored-more i j k l a b n w le less s = record { on = s.on; framed = s.framed; sound = s.sound; live = s.live; durable = s.durable; counted = Counted-more i j k l a b le less s.counted; worn = s.worn }

pub Interrupted-more : (i j k l : ℕ) (a b : Chart) (n w : ℕ) → i ≤ k → j ≤ l → Interrupted i j a b n w → Interrupted k l a b n w
Interrupted-more i j k l a b n w le less s = record { off = s.off; framed = s.framed; sound = s.sound; durable = s.durable; counted = Counted-more i j k l a b le less s.counted; worn = s.worn }

pub Shadowed-more : (i j k l : ℕ) (a b : Chart) (n w : ℕ) → i ≤ k → j ≤ l → Shadowed i j a b n w → Shadowed k l a b n w
Shadowed-more i j k l a b n w le less s = record { on = s.on; framed = s.framed; sound = s.sound; live = s.live; durable = s.durable; counted = Counted-more i j k l a b le less s.counted; worn = s.worn }

pub Dropped-more : (i j k l : ℕ) (a b : Chart) → i ≤ k → j ≤ l → Dropped i j a b → Dropped k l a b
Dropped-more i j k l a b le less s = record { off = s.off; framed = s.framed; sound = s.sound; durable = s.durable; counted = Counted-more i j k l a b le less s.counted; worn = s.worn }
