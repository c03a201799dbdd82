use Rattle.std.proofs.Common.{◌≡◌, ◌⊎◌, inl, inr, ◌∙◌, ℕ, ◌*◌, ◌<◌, ap, Option, None, Some, refl, sym, subst}
use Rattle.std.specs.Prelude.{IfSome}
use Rattle.std.proofs.lemmas.Result.{IfOk-from_err}
use Rattle.envy_base.specs.declared.fields.Place.{Place}
use Rattle.envy_base.specs.declared.fields.Place.TheVariants.{Row}
use Rattle.envy_map.specs.Fields.{Fields, chart, place}
use Rattle.envy_soundness.specs.Words.{kept}
use Rattle.envy_map.proofs.Going.{OnErr-any}
use Rattle.envy_space.specs.Pool.{Pool, IsShadow}
use Rattle.envy_space.proofs.CountLemmas.{HasPlaced-page, HasCounted-shadow, HasCounted-no_shadow, Notes, room-row, room-shadow}
use Rattle.envy_space.proofs.space.Space.count_page.Goals as goal
use Rattle.envy_space.proofs.space.Space.count_page.Goals.{in-Row, in_default}

pub note_kept-requires-clause-room : goal.note_kept-requires-clause-room
note_kept-requires-clause-room g c =
    let now = chart (g.B.Board.state c.args.board.now) in
    room-row now.shape now.fields now.flash c.args.page c.in-Row.row c.args.self.now c.requires.sound c.requires.shape c.requires.counted (c.in_ok-now.ensures.value.1 ∙ ap (λ (x : Place). Some x) c.in-Row.is) c.requires.room

none_left : (o : Option ℕ) → ((q : ℕ) → o ≡ Some q → ⊥) → o ≡ None
none_left None none = refl
none_left (Some q) none = absurd (none q refl)

-- the shadow that was found
shadow_at : (f : Fields) (p : ℕ) (now : Place) (seen is : Option ℕ) → place f p ≡ Some now → seen ≡ is → IsShadow (Some now) (kept f p) seen → IsShadow (place f p) (kept f p) is
shadow_at f p now seen is here same shadow = subst (λ (o : Option ℕ). IsShadow (place f p) (kept f p) o) same (subst (λ (x : Option Place). IsShadow x (kept f p) seen) (sym here) shadow)

pub note_kept-requires-in-Some-clause-room : goal.note_kept-requires-in-Some-clause-room
note_kept-requires-in-Some-clause-room g c =
    let now = chart (g.B.Board.state c.args.board.now) in
    let noted : ((q : ℕ) × (c.in_ok-now.now ≡ Row q) × Notes q c.args.self.now c.match-now.self) ⊎ (((q : ℕ) → c.in_ok-now.now ≡ Row q → ⊥) × (c.match-now.self ≡ c.args.self.now)) =
    elim c.match-now.branch [ in-Row w ↦ inl (w.in-Row.row, w.in-Row.is, w.self-is ∙ w.note_kept.ensures) | in_default w ↦ inr (w.in_default.not-Row, w.self-is) ] in
    let placed = HasPlaced-page now.shape now.fields now.flash c.args.page c.in_ok-now.now c.args.self.now c.match-now.self c.requires.sound c.requires.shape c.requires.counted c.in_ok-now.ensures.value.1 noted in
    let shadow = shadow_at now.fields c.args.page c.in_ok-now.now _ (Some c.in-Some.row) c.in_ok-now.ensures.value.1 c.in-Some.is c.in_ok-shadow.ensures.shadow in
    let range = subst (λ (o : Option ℕ). IfSome o (λ (q : ℕ). q < now.shape.segments * now.shape.rows)) c.in-Some.is c.in_ok-shadow.ensures.range in
    room-shadow now.shape now.fields c.args.page c.in-Some.row c.args.self.now.fills c.match-now.self placed shadow range c.requires.room

pub returns-in-Some-clause-counted : goal.returns-in-Some-clause-counted
returns-in-Some-clause-counted g c =
    let now = chart (g.B.Board.state c.args.board.now) in
    let noted : ((q : ℕ) × (c.in_ok-now.now ≡ Row q) × Notes q c.args.self.now c.match-now.self) ⊎ (((q : ℕ) → c.in_ok-now.now ≡ Row q → ⊥) × (c.match-now.self ≡ c.args.self.now)) =
    elim c.match-now.branch [ in-Row w ↦ inl (w.in-Row.row, w.in-Row.is, w.self-is ∙ w.note_kept.ensures) | in_default w ↦ inr (w.in_default.not-Row, w.self-is) ] in
    let placed = HasPlaced-page now.shape now.fields now.flash c.args.page c.in_ok-now.now c.args.self.now c.match-now.self c.requires.sound c.requires.shape c.requires.counted c.in_ok-now.ensures.value.1 noted in
    let shadow = shadow_at now.fields c.args.page c.in_ok-now.now _ (Some c.in-Some.row) c.in_ok-now.ensures.value.1 c.in-Some.is c.in_ok-shadow.ensures.shadow in
    let range = subst (λ (o : Option ℕ). IfSome o (λ (q : ℕ). q < now.shape.segments * now.shape.rows)) c.in-Some.is c.in_ok-shadow.ensures.range in
    HasCounted-shadow now.shape now.fields c.args.page c.in-Some.row c.args.self.now.fills c.match-now.self c.note_kept-in-Some.new.self placed shadow range c.note_kept-in-Some.ensures

pub returns-in_default-shadow-clause-counted : goal.returns-in_default-shadow-clause-counted
returns-in_default-shadow-clause-counted g c =
    let now = chart (g.B.Board.state c.args.board.now) in
    let noted : ((q : ℕ) × (c.in_ok-now.now ≡ Row q) × Notes q c.args.self.now c.match-now.self) ⊎ (((q : ℕ) → c.in_ok-now.now ≡ Row q → ⊥) × (c.match-now.self ≡ c.args.self.now)) =
    elim c.match-now.branch [ in-Row w ↦ inl (w.in-Row.row, w.in-Row.is, w.self-is ∙ w.note_kept.ensures) | in_default w ↦ inr (w.in_default.not-Row, w.self-is) ] in
    let placed = HasPlaced-page now.shape now.fields now.flash c.args.page c.in_ok-now.now c.args.self.now c.match-now.self c.requires.sound c.requires.shape c.requires.counted c.in_ok-now.ensures.value.1 noted in
    let shadow = shadow_at now.fields c.args.page c.in_ok-now.now _ None c.in_ok-now.ensures.value.1 (none_left c.in_ok-shadow.shadow c.in_default-shadow.not-Some) c.in_ok-shadow.ensures.shadow in
    HasCounted-no_shadow now.shape now.fields c.args.page c.args.self.now.fills c.match-now.self placed shadow

pub returns-in_err-now-clause-counted : goal.returns-in_err-now-clause-counted
returns-in_err-now-clause-counted g c = IfOk-from_err c.from_residual.result _ c.from_residual.ensures.0

pub returns-in_err-now-clause-off : goal.returns-in_err-now-clause-off
returns-in_err-now-clause-off g c = OnErr-any c.from_residual.result c.in_err-now.ensures.value

pub returns-in_err-shadow-clause-counted : goal.returns-in_err-shadow-clause-counted
returns-in_err-shadow-clause-counted g c = IfOk-from_err c.from_residual-in_err-shadow.result _ c.from_residual-in_err-shadow.ensures.0

pub returns-in_err-shadow-clause-off : goal.returns-in_err-shadow-clause-off
returns-in_err-shadow-clause-off g c = OnErr-any c.from_residual-in_err-shadow.result c.in_err-shadow.ensures.off

pub returns-in-Some-clause-shape : goal.returns-in-Some-clause-shape
returns-in-Some-clause-shape g c =
    ap (λ (p : Pool). p.shape) c.note_kept-in-Some.ensures
    ∙ elim c.match-now.branch [ in-Row w ↦ ap (λ (p : Pool). p.shape) (w.self-is ∙ w.note_kept.ensures) | in_default w ↦ ap (λ (p : Pool). p.shape) w.self-is ]

pub returns-in-Some-clause-fills : goal.returns-in-Some-clause-fills
returns-in-Some-clause-fills g c =
    ap (λ (p : Pool). p.fills) c.note_kept-in-Some.ensures
    ∙ elim c.match-now.branch [ in-Row w ↦ ap (λ (p : Pool). p.fills) (w.self-is ∙ w.note_kept.ensures) | in_default w ↦ ap (λ (p : Pool). p.fills) w.self-is ]

pub returns-in-Some-clause-positions : goal.returns-in-Some-clause-positions
returns-in-Some-clause-positions g c =
    ap (λ (p : Pool). p.positions) c.note_kept-in-Some.ensures
    ∙ elim c.match-now.branch [ in-Row w ↦ ap (λ (p : Pool). p.positions) (w.self-is ∙ w.note_kept.ensures) | in_default w ↦ ap (λ (p : Pool). p.positions) w.self-is ]

pub returns-in_default-shadow-clause-shape : goal.returns-in_default-shadow-clause-shape
returns-in_default-shadow-clause-shape g c = elim c.match-now.branch [ in-Row w ↦ ap (λ (p : Pool). p.shape) (w.self-is ∙ w.note_kept.ensures) | in_default w ↦ ap (λ (p : Pool). p.shape) w.self-is ]

pub returns-in_default-shadow-clause-fills : goal.returns-in_default-shadow-clause-fills
returns-in_default-shadow-clause-fills g c = elim c.match-now.branch [ in-Row w ↦ ap (λ (p : Pool). p.fills) (w.self-is ∙ w.note_kept.ensures) | in_default w ↦ ap (λ (p : Pool). p.fills) w.self-is ]

pub returns-in_default-shadow-clause-positions : goal.returns-in_default-shadow-clause-positions
returns-in_default-shadow-clause-positions g c = elim c.match-now.branch [ in-Row w ↦ ap (λ (p : Pool). p.positions) (w.self-is ∙ w.note_kept.ensures) | in_default w ↦ ap (λ (p : Pool). p.positions) w.self-is ]
