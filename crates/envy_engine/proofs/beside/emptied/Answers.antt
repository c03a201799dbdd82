use Rattle.std.proofs.Common.{ℕ, Option, subst}
use Rattle.envy_map.specs.Fields.{chart}
use Rattle.envy_engine.proofs.AvailLemmas.{Spares, Takes, emptied-none, emptied-some, others-none, others-some, relocated-placed}
use Rattle.envy_engine.proofs.beside.emptied.Goals as goal

pub position_of-requires : goal.position_of-requires
position_of-requires g c =
    let now = chart (g.B.Board.state c.args.board.now) in
    let r = c.requires.ready in
    relocated-placed now c.args.parts.now c.in-Some.segment r.sound r.agrees (c.in_ok-segment.ensures.named c.in-Some.segment c.in-Some.is)

pub returns-in-Some-clause-emptied : goal.returns-in-Some-clause-emptied
returns-in-Some-clause-emptied g c =
    let now = chart (g.B.Board.state c.args.board.now) in
    let takes = subst (λ (o : Option ℕ). Takes now o) c.in-Some.is c.in_ok-segment.ensures.is in
    emptied-some now c.args.parts.now.space c.in-Some.segment c.position_of.result c.requires.ready.agrees.pool takes c.position_of.ensures.within c.position_of.ensures.stands

pub returns-in-Some-clause-others : goal.returns-in-Some-clause-others
returns-in-Some-clause-others g c =
    let now = chart (g.B.Board.state c.args.board.now) in
    let spares = subst (λ (o : Option ℕ). Spares now o) c.in-Some.is c.in_ok-segment.ensures.others in
    others-some now c.args.parts.now.space c.in-Some.segment c.position_of.result c.requires.ready.agrees.pool c.position_of.ensures.pool spares c.position_of.ensures.within c.position_of.ensures.stands

pub returns-in-None-clause-emptied : goal.returns-in-None-clause-emptied
returns-in-None-clause-emptied g c =
    let now = chart (g.B.Board.state c.args.board.now) in
    emptied-none now (subst (λ (o : Option ℕ). Spares now o) c.in-None.is c.in_ok-segment.ensures.others)

pub returns-in-None-clause-others : goal.returns-in-None-clause-others
returns-in-None-clause-others g c =
    let now = chart (g.B.Board.state c.args.board.now) in
    others-none now c.args.parts.now.space (subst (λ (o : Option ℕ). Spares now o) c.in-None.is c.in_ok-segment.ensures.others)
