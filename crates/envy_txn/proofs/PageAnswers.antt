-- A page that an open slot owns: what its undo names, that its frame is held, and what the pool keeps.
use Rattle.std.proofs.Common.{◌≡◌, ℕ, List, get_or, Option, None, Some, refl, ◌∙◌, ap}
use Rattle.std.specs.List.{Any}
use Rattle.envy_base.specs.declared.fields.Place.{Place}
use Rattle.envy_base.specs.declared.fields.Place.TheVariants.{Absent, Row, Frame}
use Rattle.envy_base.specs.declared.fields.Undo.{Undo}
use Rattle.envy_base.specs.declared.fields.Undo.TheVariants.{Clear, Blank, Shadow}
use Rattle.envy_base.specs.declared.shape.Shape.{Shape}
use Rattle.envy_soundness.specs.May.{named_by}
use Rattle.envy_soundness.specs.Sound.{slot_named}
use Rattle.envy_frames.specs.Agreement.{AreHeld}
use Rattle.envy_frames.specs.declared.held.Held.{Held}
use Rattle.envy_space.specs.Pool.{Pool}
use Rattle.envy_txn.specs.Turns.{left_pool}

pub named-some : (u : Undo) (t : ℕ) → slot_named (Some u) ≡ Some t → named_by u ≡ None → ⊥
named-some Clear t named none = let no : None ≡ Some t = named in cc
named-some (Blank y) t named none = let no : Some Absent ≡ None = none in cc
named-some (Shadow y q) t named none = let no : Some (Row q) ≡ None = none in cc

pub frame-held : (sh : Shape) (places : List (Option Place)) (held : List Held) (p : ℕ) (now : Place) → AreHeld sh places held → get_or places p None ≡ Some now → (k : ℕ) → now ≡ Frame k → Any (λ h. h.frame ≡ k) held
frame-held sh places held p now a here k is =
    let any = a.named p k (here ∙ ap (λ (x : Place). Some x) is) in
    (any.0, any.1, any.2, any.3, any.4.1)

pub left_pool-shape : (now : Place) (pool : Pool) → (left_pool now pool).shape ≡ pool.shape
left_pool-shape Absent pool = refl
left_pool-shape (Row q) pool = refl
left_pool-shape (Frame k) pool = refl
