use Rattle.std.proofs.Common.{refl, arith}
use Rattle.envy_run.proofs.IndexLines.{map-in, size-in, calls-keeps, set-told, set-full, set-bad, set-lost, told-licence, licence-calm, licence-fault, licence-lost}
use Rattle.envy_run.proofs.IndexSpent.{puts-set}
use Rattle.envy_run.specs.IndexServing.{Serving}
use Rattle.envy_btree.specs.declared.line.IndexLine.TheVariants.{Insert}
use Rattle.envy_run.proofs.index_answers.set.Goals as goal

pub insert-requires-clause-size : goal.insert-requires-clause-size
insert-requires-clause-size g c = let w = c.args.words.now in omega (arith, size-in w.memory w.begun c.requires.0 c.requires.1)

pub insert-requires-clause-map : goal.insert-requires-clause-map
insert-requires-clause-map g c = let w = c.args.words.now in (c.requires.0, map-in w.memory w.begun c.requires.0 c.requires.1)

pub returns-in-Ok-clause-step : goal.returns-in-Ok-clause-step
returns-in-Ok-clause-step g c es s =
    let w = c.args.words.now in
    let v = c.insert.new.words in
    let k = calls-keeps w.memory v.memory w.begun v.begun c.insert.ensures.keeps c.insert.ensures.shut in
    set-told w.memory v.memory w.begun v.begun c.args.key c.args.value es c.in-Ok.before c.tell.result s k (c.in-Ok.ensures.inserts es (map-in w.memory w.begun es s)) c.tell.ensures

pub returns-in-Ok-clause-licence : goal.returns-in-Ok-clause-licence
returns-in-Ok-clause-licence g c =
    let w = c.args.words.now in
    let v = c.insert.new.words in
    let k = calls-keeps w.memory v.memory w.begun v.begun c.insert.ensures.keeps c.insert.ensures.shut in
    told-licence (Insert c.args.key c.args.value) c.in-Ok.before c.tell.result w.memory.chart v.memory.chart refl c.tell.ensures (licence-calm w.memory.chart v.memory.chart k.fixed k.cuts k.bads)

pub returns-in-Err-Full-clause-step : goal.returns-in-Err-Full-clause-step
returns-in-Err-Full-clause-step g c es s =
    let w = c.args.words.now in
    let v = c.insert.new.words in
    let k = calls-keeps w.memory v.memory w.begun v.begun c.insert.ensures.keeps c.insert.ensures.shut in
    let e = rw c.in-Err-Full.field-0-is at c.in-Err-Full.ensures in
    set-full w.memory v.memory w.begun v.begun c.args.key c.args.value es s k (e.inserts es (map-in w.memory w.begun es s))

pub returns-in-Err-Full-clause-licence : goal.returns-in-Err-Full-clause-licence
returns-in-Err-Full-clause-licence g c =
    let w = c.args.words.now in
    let v = c.insert.new.words in
    let k = calls-keeps w.memory v.memory w.begun v.begun c.insert.ensures.keeps c.insert.ensures.shut in
    let e = rw c.in-Err-Full.field-0-is at c.in-Err-Full.ensures in
    licence-calm w.memory.chart v.memory.chart k.fixed k.cuts k.bads

pub returns-in-Err-Bad-clause-step : goal.returns-in-Err-Bad-clause-step
returns-in-Err-Bad-clause-step g c es s =
    let w = c.args.words.now in
    let v = c.insert.new.words in
    let k = calls-keeps w.memory v.memory w.begun v.begun c.insert.ensures.keeps c.insert.ensures.shut in
    let e = rw c.in-Err-Bad.field-0-is at c.in-Err-Bad.ensures in
    set-bad w.memory v.memory w.begun v.begun c.args.key c.args.value es s k (e.inserts es (map-in w.memory w.begun es s))

pub returns-in-Err-Bad-clause-licence : goal.returns-in-Err-Bad-clause-licence
returns-in-Err-Bad-clause-licence g c =
    let w = c.args.words.now in
    let v = c.insert.new.words in
    let k = calls-keeps w.memory v.memory w.begun v.begun c.insert.ensures.keeps c.insert.ensures.shut in
    let e = rw c.in-Err-Bad.field-0-is at c.in-Err-Bad.ensures in
    licence-fault w.memory.chart v.memory.chart k.fixed k.cuts k.bads (e.inserts c.requires.0 (map-in w.memory w.begun c.requires.0 c.requires.1)).1

pub returns-in-Err-Off-clause-step : goal.returns-in-Err-Off-clause-step
returns-in-Err-Off-clause-step g c es s =
    let w = c.args.words.now in
    let v = c.insert.new.words in
    let k = calls-keeps w.memory v.memory w.begun v.begun c.insert.ensures.keeps c.insert.ensures.shut in
    let e = rw c.in-Err-Off.field-0-is at c.in-Err-Off.ensures in
    set-lost w.memory v.memory w.begun v.begun c.args.key c.args.value es k (e.inserts es (map-in w.memory w.begun es s))

pub returns-in-Err-Off-clause-licence : goal.returns-in-Err-Off-clause-licence
returns-in-Err-Off-clause-licence g c =
    let w = c.args.words.now in
    let v = c.insert.new.words in
    let k = calls-keeps w.memory v.memory w.begun v.begun c.insert.ensures.keeps c.insert.ensures.shut in
    let e = rw c.in-Err-Off.field-0-is at c.in-Err-Off.ensures in
    licence-lost w.memory.chart v.memory.chart k.fixed k.cuts k.bads (k.cut (Serving.on c.requires.1) (e.inserts c.requires.0 (map-in w.memory w.begun c.requires.0 c.requires.1)).0)

pub returns-in-Ok-clause-spent : goal.returns-in-Ok-clause-spent
returns-in-Ok-clause-spent g c = let w = c.args.words.now in let v = c.insert.new.words in puts-set w.memory v.memory w.begun v.begun (size-in w.memory w.begun c.requires.0 c.requires.1) c.insert.ensures.spends

pub returns-in-Err-Full-clause-spent : goal.returns-in-Err-Full-clause-spent
returns-in-Err-Full-clause-spent g c = let w = c.args.words.now in let v = c.insert.new.words in puts-set w.memory v.memory w.begun v.begun (size-in w.memory w.begun c.requires.0 c.requires.1) c.insert.ensures.spends

pub returns-in-Err-Bad-clause-spent : goal.returns-in-Err-Bad-clause-spent
returns-in-Err-Bad-clause-spent g c = let w = c.args.words.now in let v = c.insert.new.words in puts-set w.memory v.memory w.begun v.begun (size-in w.memory w.begun c.requires.0 c.requires.1) c.insert.ensures.spends

pub returns-in-Err-Off-clause-spent : goal.returns-in-Err-Off-clause-spent
returns-in-Err-Off-clause-spent g c = let w = c.args.words.now in let v = c.insert.new.words in puts-set w.memory v.memory w.begun v.begun (size-in w.memory w.begun c.requires.0 c.requires.1) c.insert.ensures.spends
