use Rattle.std.proofs.Common.{◌≡◌, ℕ, [], ◌∷◌, sym, ap}
use Rattle.std.proofs.lemmas.List.Quantifiers.{Any-push}
use Rattle.envy_frames.specs.declared.held.Held.{Held}
use Rattle.envy_frames.specs.Order.{Order}
use Rattle.envy_frames.proofs.Lists.{Any-left}
use Rattle.test_singles.proofs.frames.after_giving_back.Goals as goal
use Rattle.test_singles.proofs.frames.after_giving_back.Goals.{in-10, in-11, in_default-given}

-- each of the three is held
pub home-requires : goal.home-requires
home-requires c =
    let has : Held → Type 0 = λ h. h.frame ≡ c.match-given.frame.0 in
    let first : Held = record { frame = c.in-Some.first; page = 10; home = 3 } in
    let second : Held = record { frame = c.in-Some-take.second; page = 11; home = 4 } in
    let third : Held = record { frame = c.in-Some-take-2.third; page = 12; home = 5 } in
    record {
      held = rw (ap (λ (o : Order). o.held) c.in-Some-take-2.ensures.newest) (elim c.match-given.branch [
        | in-10 w ↦ Any-left has c.take-2.new.self.held (third ∷ []) (rw (ap (λ (o : Order). o.held) c.in-Some-take.ensures.newest) (Any-left has c.take.new.self.held (second ∷ []) (rw (ap (λ (o : Order). o.held) c.in-Some.ensures.newest) (Any-push has _ first (sym (ap (λ (p : ℕ × ℕ). p.0) w.frame-is))))))
        | in-11 w ↦ Any-left has c.take-2.new.self.held (third ∷ []) (rw (ap (λ (o : Order). o.held) c.in-Some-take.ensures.newest) (Any-push has c.take.new.self.held second (sym (ap (λ (p : ℕ × ℕ). p.0) w.frame-is))))
        | in_default-given w ↦ Any-push has c.take-2.new.self.held third (sym (ap (λ (p : ℕ × ℕ). p.0) w.frame-is))
      ]);
    }
