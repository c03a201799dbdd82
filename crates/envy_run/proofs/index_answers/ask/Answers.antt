use Rattle.std.proofs.Common.{refl, arith}
use Rattle.envy_run.proofs.IndexLines.{map-in, size-in, calls-works, ask-told, ask-lost, ask-off, told-licence, licence-calm, licence-lost}
use Rattle.envy_run.proofs.IndexSpent.{puts-sheet}
use Rattle.envy_memory.specs.Sheets.{sheet_of}
use Rattle.envy_run.specs.IndexServing.{Serving}
use Rattle.envy_btree.specs.declared.line.IndexLine.TheVariants.{Get}
use Rattle.envy_run.proofs.index_answers.ask.Goals as goal

pub get-requires : goal.get-requires
get-requires g c = let w = c.args.words.now in record { size = omega (arith, size-in w.memory w.begun c.requires.0 c.requires.1) }

pub returns-in-Ok-clause-step : goal.returns-in-Ok-clause-step
returns-in-Ok-clause-step g c es s =
    let w = c.args.words.now in
    let v = c.get.new.words in
    ask-told w.memory v.memory w.begun v.begun c.args.key es c.in-Ok.value c.tell.result s (calls-works w.memory v.memory w.begun v.begun c.get.ensures.works (c.get.ensures.shut (Serving.shut c.requires.1))) (c.in-Ok.ensures.gets es (map-in w.memory w.begun es s)) c.tell.ensures

pub returns-in-Ok-clause-licence : goal.returns-in-Ok-clause-licence
returns-in-Ok-clause-licence g c =
    let w = c.args.words.now in
    let v = c.get.new.words in
    let k = calls-works w.memory v.memory w.begun v.begun c.get.ensures.works (c.get.ensures.shut (Serving.shut c.requires.1)) in
    told-licence (Get c.args.key) c.in-Ok.value c.tell.result w.memory.chart v.memory.chart refl c.tell.ensures (licence-calm w.memory.chart v.memory.chart k.fixed k.cuts k.bads)

pub returns-in-Err-clause-step : goal.returns-in-Err-clause-step
returns-in-Err-clause-step g c es s =
    let w = c.args.words.now in
    let v = c.get.new.words in
    ask-lost w.memory v.memory w.begun v.begun c.args.key es c.in-Err.field-0 (Serving.shut c.requires.1) (c.in-Err.ensures.gets es (map-in w.memory w.begun es s))

pub returns-in-Err-clause-licence : goal.returns-in-Err-clause-licence
returns-in-Err-clause-licence g c =
    let w = c.args.words.now in
    let v = c.get.new.words in
    let k = calls-works w.memory v.memory w.begun v.begun c.get.ensures.works (c.get.ensures.shut (Serving.shut c.requires.1)) in
    let off = ask-off c.args.key c.requires.0 (sheet_of w.memory w.begun) (sheet_of v.memory v.begun) c.in-Err.field-0 (c.in-Err.ensures.gets c.requires.0 (map-in w.memory w.begun c.requires.0 c.requires.1)) in
    licence-lost w.memory.chart v.memory.chart k.fixed k.cuts k.bads (k.cut (Serving.on c.requires.1) off)

pub returns-in-Ok-clause-spent : goal.returns-in-Ok-clause-spent
returns-in-Ok-clause-spent g c = let w = c.args.words.now in let v = c.get.new.words in puts-sheet 0 w.memory v.memory w.begun v.begun c.get.ensures.spends

pub returns-in-Err-clause-spent : goal.returns-in-Err-clause-spent
returns-in-Err-clause-spent g c = let w = c.args.words.now in let v = c.get.new.words in puts-sheet 0 w.memory v.memory w.begun v.begun c.get.ensures.spends
