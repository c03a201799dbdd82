use Rattle.std.proofs.Common.{refl, arith}
use Rattle.envy_run.proofs.IndexLines.{map-in, size-in, calls-keeps, out-told, out-bad, out-lost, told-licence, licence-calm, licence-fault, licence-lost}
use Rattle.envy_run.proofs.IndexSpent.{puts-removed}
use Rattle.envy_run.specs.IndexServing.{Serving}
use Rattle.envy_btree.specs.declared.line.IndexLine.TheVariants.{Remove}
use Rattle.envy_run.proofs.index_answers.take_out.Goals as goal

pub remove-requires-clause-size : goal.remove-requires-clause-size
remove-requires-clause-size g c = let w = c.args.words.now in omega (arith, size-in w.memory w.begun c.requires.0 c.requires.1)

pub remove-requires-clause-map : goal.remove-requires-clause-map
remove-requires-clause-map g c = let w = c.args.words.now in (c.requires.0, map-in w.memory w.begun c.requires.0 c.requires.1)

pub returns-in-Ok-clause-step : goal.returns-in-Ok-clause-step
returns-in-Ok-clause-step g c es s =
    let w = c.args.words.now in
    let v = c.remove.new.words in
    let k = calls-keeps w.memory v.memory w.begun v.begun c.remove.ensures.keeps c.remove.ensures.shut in
    out-told w.memory v.memory w.begun v.begun c.args.key es c.in-Ok.before c.tell.result s k (c.in-Ok.ensures.removes es (map-in w.memory w.begun es s)) c.tell.ensures

pub returns-in-Ok-clause-licence : goal.returns-in-Ok-clause-licence
returns-in-Ok-clause-licence g c =
    let w = c.args.words.now in
    let v = c.remove.new.words in
    let k = calls-keeps w.memory v.memory w.begun v.begun c.remove.ensures.keeps c.remove.ensures.shut in
    told-licence (Remove c.args.key) c.in-Ok.before c.tell.result w.memory.chart v.memory.chart refl c.tell.ensures (licence-calm w.memory.chart v.memory.chart k.fixed k.cuts k.bads)

pub returns-in-Err-Bad-clause-step : goal.returns-in-Err-Bad-clause-step
returns-in-Err-Bad-clause-step g c es s =
    let w = c.args.words.now in
    let v = c.remove.new.words in
    let k = calls-keeps w.memory v.memory w.begun v.begun c.remove.ensures.keeps c.remove.ensures.shut in
    let e = rw c.in-Err-Bad.field-0-is at c.in-Err-Bad.ensures in
    out-bad w.memory v.memory w.begun v.begun c.args.key es s k (e.removes es (map-in w.memory w.begun es s))

pub returns-in-Err-Bad-clause-licence : goal.returns-in-Err-Bad-clause-licence
returns-in-Err-Bad-clause-licence g c =
    let w = c.args.words.now in
    let v = c.remove.new.words in
    let k = calls-keeps w.memory v.memory w.begun v.begun c.remove.ensures.keeps c.remove.ensures.shut in
    let e = rw c.in-Err-Bad.field-0-is at c.in-Err-Bad.ensures in
    licence-fault w.memory.chart v.memory.chart k.fixed k.cuts k.bads (e.removes c.requires.0 (map-in w.memory w.begun c.requires.0 c.requires.1)).1

pub returns-in-Err-Off-clause-step : goal.returns-in-Err-Off-clause-step
returns-in-Err-Off-clause-step g c es s =
    let w = c.args.words.now in
    let v = c.remove.new.words in
    let k = calls-keeps w.memory v.memory w.begun v.begun c.remove.ensures.keeps c.remove.ensures.shut in
    let e = rw c.in-Err-Off.field-0-is at c.in-Err-Off.ensures in
    out-lost w.memory v.memory w.begun v.begun c.args.key es (e.removes es (map-in w.memory w.begun es s))

pub returns-in-Err-Off-clause-licence : goal.returns-in-Err-Off-clause-licence
returns-in-Err-Off-clause-licence g c =
    let w = c.args.words.now in
    let v = c.remove.new.words in
    let k = calls-keeps w.memory v.memory w.begun v.begun c.remove.ensures.keeps c.remove.ensures.shut in
    let e = rw c.in-Err-Off.field-0-is at c.in-Err-Off.ensures in
    licence-lost w.memory.chart v.memory.chart k.fixed k.cuts k.bads (k.cut (Serving.on c.requires.1) (e.removes c.requires.0 (map-in w.memory w.begun c.requires.0 c.requires.1)).0)

pub unreachable-requires : goal.unreachable-requires
unreachable-requires g c =
    let w = c.args.words.now in
    let e = rw c.in-Err-Full.field-0-is at c.in-Err-Full.ensures in
    e.removes c.requires.0 (map-in w.memory w.begun c.requires.0 c.requires.1)

pub returns-in-Ok-clause-spent : goal.returns-in-Ok-clause-spent
returns-in-Ok-clause-spent g c = let w = c.args.words.now in let v = c.remove.new.words in puts-removed w.memory v.memory w.begun v.begun (size-in w.memory w.begun c.requires.0 c.requires.1) c.remove.ensures.spends

pub returns-in-Err-Bad-clause-spent : goal.returns-in-Err-Bad-clause-spent
returns-in-Err-Bad-clause-spent g c = let w = c.args.words.now in let v = c.remove.new.words in puts-removed w.memory v.memory w.begun v.begun (size-in w.memory w.begun c.requires.0 c.requires.1) c.remove.ensures.spends

pub returns-in-Err-Off-clause-spent : goal.returns-in-Err-Off-clause-spent
returns-in-Err-Off-clause-spent g c = let w = c.args.words.now in let v = c.remove.new.words in puts-removed w.memory v.memory w.begun v.begun (size-in w.memory w.begun c.requires.0 c.requires.1) c.remove.ensures.spends
