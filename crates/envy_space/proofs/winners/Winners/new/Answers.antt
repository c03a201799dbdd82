use Rattle.std.proofs.Common.{◌∙◌, length, drop, sym}
use Rattle.std.proofs.lemmas.List.{take_at}
use Rattle.envy_space.proofs.winners.Winners.new.Goals as goal

pub lay-requires-clause-long : goal.lay-requires-clause-long
lay-requires-clause-long c = c.deref_mut.ensures.len ∙ c.in_ok-nodes.ensures.len

pub invariant_of-result : goal.invariant_of-result
invariant_of-result c =
    let all = take_at c.lay.new.nodes (drop (length c.lay.new.nodes) c.in_ok-nodes.nodes.items) c.in_ok-nodes.nodes.len (c.lay.ensures.tree.are.long ∙ sym c.in_ok-nodes.ensures.len) in
    record { tree = rw all c.lay.ensures.tree; within = c.requires.some }

pub returns : goal.returns
returns c =
    let all = take_at c.lay.new.nodes (drop (length c.lay.new.nodes) c.in_ok-nodes.nodes.items) c.in_ok-nodes.nodes.len (c.lay.ensures.tree.are.long ∙ sym c.in_ok-nodes.ensures.len) in
    rw all c.lay.ensures.late
