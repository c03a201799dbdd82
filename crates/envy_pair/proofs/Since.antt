-- What a pair did in a trace, from what it does in one line.
use Rattle.std.proofs.Common.{ℕ, List, ◌∷◌, refl, arith}
use Rattle.envy_io.specs.Streams.{Drain}
use Rattle.envy_mirror.specs.Pair.{Pair}
use Rattle.envy_serve.specs.declared.service.LineOutcome.{LineOutcome}
use Rattle.envy_serve.specs.declared.service.LineOutcome.TheVariants.{Done, WriteFault, Dead}
use Rattle.envy_serve.specs.Obeys.{Obeys}
use Rattle.envy_trace.specs.declared.mirror_line.MirrorLine.{MirrorLine}
use Rattle.envy_trace.specs.declared.mirror_reply.MirrorReply.{MirrorReply}
use Rattle.envy_pair.specs.Bills.{Bill}
use Rattle.envy_pair.specs.MirrorRun.{MirrorTurn, mirror_grammar, before_restart}
use Rattle.envy_pair.specs.Serving.{Known, Costs, LineDone, LineDead, ObeysMirror, Start, MirroredSince, FellSince, sums_since}
use Rattle.envy_pair.proofs.Charging.{add_tolls, Charged-trans}

-- a line's bill joins that of the lines before it
bill-joins : (turns : List MirrorTurn) (turn : MirrorTurn) (k : Known) (f g : ℕ) (start old new : Pair) → Bill (sums_since turns k.first.falls k.second.falls) start old → Costs turn.line turn.replies k old f g new → Bill (sums_since (turn ∷ turns) f g) start new
bill-joins turns turn k f g start old new b c =
    let d = c.bill in
    record {
      first = add_tolls b.first d.first;
      second = add_tolls b.second d.second;
      to_first = Charged-trans b.first d.first start.first.memory old.first.memory new.first.memory b.to_first d.to_first;
      to_second = Charged-trans b.second d.second start.second.memory old.second.memory new.second.memory b.to_second d.to_second;
      pulls = let x = b.pulls in let y = d.pulls in omega arith;
      faults = let x = b.faults in let y = d.faults in omega arith;
      losts = let x = b.losts in let y = d.losts in omega arith;
      plans = let x = b.plans in let y = d.plans in omega arith;
      first_falls = let x = b.first_falls in let y = d.first_falls in let e = c.first in omega arith;
      second_falls = let x = b.second_falls in let y = d.second_falls in let e = c.second in omega arith;
      few_pulls = let x = b.few_pulls in let y = d.few_pulls in omega arith;
      few_faults = let x = b.few_faults in let y = d.few_faults in omega arith;
      few_losts = let x = b.few_losts in let y = d.few_losts in omega arith;
      few_first = let x = b.few_first in let y = d.few_first in let e = c.first in omega arith;
      few_second = let x = b.few_second in let y = d.few_second in let e = c.second in omega arith;
    }

-- a line joins the turns
joins-done : (start : Start) (old new : Pair) (side new_side : ℕ) (turns : List MirrorTurn) (t : MirroredSince start old side turns) (line : MirrorLine) (replies : List MirrorReply) (left : Known) → LineDone (MirroredSince.known t) line replies left old side new new_side → MirroredSince start new new_side (record { line = line; replies = replies } ∷ turns)
joins-done start old new side new_side turns t line replies left d = record {
  known = left;
  run = (_, MirroredSince.run t, d.does);
  serves = d.serves;
  within = d.within;
  bill = bill-joins turns (record { line = line; replies = replies }) (MirroredSince.known t) left.first.falls left.second.falls start.pair old new (MirroredSince.bill t) d.costs;
  told = d.told;
}

joins-dead : (start : Start) (old new : Pair) (side : ℕ) (turns : List MirrorTurn) (t : MirroredSince start old side turns) (line : MirrorLine) → LineDead (MirroredSince.known t) line old side new → FellSince start new (record { line = line; replies = before_restart line } ∷ turns)
joins-dead start old new side turns t line d = record {
  before = _;
  run = MirroredSince.run t;
  replies = refl;
  mid = d.mid;
  fails = d.fails;
  board = d.board;
  spent_first = d.spent_first;
  spent_second = d.spent_second;
  bill = bill-joins turns (record { line = line; replies = before_restart line }) (MirroredSince.known t) d.mid.first.falls d.mid.second.falls start.pair old new (MirroredSince.bill t) d.costs;
}

pub obeys-since : (start : Start) (old new : Pair) (side new_side : ℕ) (turns : List MirrorTurn) (line : MirrorLine) (obeyed : LineOutcome) (sink then_sink : Drain) (t : MirroredSince start old side turns) → ObeysMirror (MirroredSince.known t) line obeyed old side new new_side sink then_sink → Obeys obeyed mirror_grammar (MirroredSince start new new_side) (FellSince start new) turns line sink then_sink
obeys-since start old new side new_side turns line Done sink then_sink t (replies, left, done, told) = (replies, joins-done start old new side new_side turns t line replies left done, told)
obeys-since start old new side new_side turns line WriteFault sink then_sink t (replies, left, done, told) = (replies, joins-done start old new side new_side turns t line replies left done, told)
obeys-since start old new side new_side turns line Dead sink then_sink t (dead, told) = (before_restart line, joins-dead start old new side turns t line dead, told)
