use Rattle.std.proofs.Common.{◌≡◌, ◌+◌, ◌-◌, [], ◌∷◌, ◌++◌, refl, suc, arith, ap, ◌∙◌}
use Rattle.std.proofs.lemmas.Result.{err_from_is_err_and}
use Rattle.envy_io.specs.Lines.{newline}
use Rattle.envy_trace.specs.Spelling.{line_bytes}
use Rattle.envy_io.proofs.Pieces.{Written-piece, Written-all, Written-front}
use Rattle.envy_gen.proofs.Pieces.{answers, bytes_left, bytes_left-line, bytes_left-none, Written-none}
use Rattle.envy_gen.proofs.trace.generate.Goals as goal

pub loop-line-init : goal.loop-line-init
loop-line-init g c = record {
  written = Written-none (g.K.Sink.drain c.args.sink.now) c.args.start c.args.lines c.args.mix.now _ c.seed_from_u64-words.result c.seed_from_u64-words.ensures (omega arith);
  uncalled = λ _. refl;
}

pub loop-line-preserved : goal.loop-line-preserved
loop-line-preserved g c = record {
  written =
      let counted : c.args.lines - c.loop-line._line ≡ suc (c.args.lines - (c.loop-line._line + 1)) = omega arith in
      Written-piece _ (g.K.Sink.drain c.loop-line.sink) _ _ _ (line_bytes c.next_line-line.result ++ newline ∷ []) _ _
      (bytes_left-line c.args.mix.now _ _ c.next_line-line.result (answers c.loop-line.words) (answers c.next_line-line.new.words) counted c.next_line-line.ensures.line)
      c.loop-line.invariant.written c.in_ok-write_line.ensures;
  uncalled = λ none. absurd (omega arith);
}

pub returns-in_err-write_line-clause-writes : goal.returns-in_err-write_line-clause-writes
returns-in_err-write_line-clause-writes g c =
    let p = err_from_is_err_and c.from_residual.result c.from_residual.ensures.1 in
    let counted : c.args.lines - c.loop-line._line ≡ suc (c.args.lines - (c.loop-line._line + 1)) = omega arith in
    rw p.1
    (Written-front _ (g.K.Sink.drain c.loop-line.sink) (g.K.Sink.drain c.write_line.new.sink) _ _ (line_bytes c.next_line-line.result ++ newline ∷ []) _ _
    (bytes_left-line c.args.mix.now _ _ c.next_line-line.result (answers c.loop-line.words) (answers c.next_line-line.new.words) counted c.next_line-line.ensures.line)
    c.loop-line.invariant.written c.in_err-write_line.ensures)

pub returns-clause-writes : goal.returns-clause-writes
returns-clause-writes g c =
    let none : c.args.lines - c.loop-line._line ≡ 0 = omega arith in
    Written-all (g.K.Sink.drain c.args.sink.now) (g.K.Sink.drain c.loop-line.sink) _ _ tt
    (ap (λ n. bytes_left c.args.mix.now n (answers c.loop-line.words)) none ∙ bytes_left-none c.args.mix.now (answers c.loop-line.words))
    c.loop-line.invariant.written
