-- Replies written one after another.
use Rattle.std.proofs.Common.{◌≡◌, ◌⊎◌, inl, inr, ℕ, ◌+◌, ◌-◌, ◌^◌, ◌<◌, ◌≤◌, List, [], ◌∷◌, ◌++◌, length, take, sym, ◌∙◌, ap, arith}
use Rattle.std.proofs.lemmas.Bool.{cases_lt}
use Rattle.std.proofs.Math.Seq.{take-append-add}
use Rattle.std.proofs.lemmas.List.{append-nil, take-append-le}
use Rattle.std.specs.Prelude.{Ok, Err}
use Rattle.envy_io.specs.declared.source.Failed.{Failed}
use Rattle.envy_io.specs.Lines.{newline}
use Rattle.envy_io.specs.Streams.{Drain, Rises, WritesAll, with_end}
use Rattle.envy_io.proofs.WritesLemmas.{with_end-with_end, with_end-nil}
use Rattle.envy_serve.specs.Streams.{Written, FrontWritten}
use Rattle.envy_serve.specs.Turns.{texts}
use Rattle.envy_trace.specs.Mirror.{mirror_bytes}
use Rattle.envy_trace.specs.declared.mirror_reply.MirrorReply.{MirrorReply}
use Rattle.envy_pair.specs.MirrorRun.{mirror_grammar}

texts-one : (reply : MirrorReply) → texts mirror_grammar (reply ∷ []) ≡ mirror_bytes reply ++ newline ∷ []
texts-one reply = append-nil (mirror_bytes reply ++ newline ∷ [])

-- one reply, whole
pub told-one : (reply : MirrorReply) (sink then_sink : Drain) → WritesAll sink (mirror_bytes reply ++ newline ∷ []) (Ok tt) then_sink → Written (texts mirror_grammar (reply ∷ [])) sink then_sink
told-one reply sink then_sink (whole, faults, after) = record { whole = whole ∙ ap (with_end sink.written) (sym (texts-one reply)); faults = faults }

-- a front of it
pub front-one : (reply : MirrorReply) (sink then_sink : Drain) (failed : Failed) → WritesAll sink (mirror_bytes reply ++ newline ∷ []) (Err failed) then_sink → FrontWritten (texts mirror_grammar (reply ∷ [])) sink then_sink
front-one reply sink then_sink failed (n, lt, front, faults) = record { count = n; front = front ∙ ap (λ (t : List ℕ). with_end sink.written (take n t)) (sym (texts-one reply)); faults = faults }

pub told-none : (sink : Drain) → Written [] sink sink
told-none sink = record { whole = sym (with_end-nil sink.written); faults = omega arith }

-- two replies, of which the first was written whole
pub told-both : (one two : MirrorReply) (sink mid then_sink : Drain) → WritesAll sink (mirror_bytes one ++ newline ∷ []) (Ok tt) mid → Written (texts mirror_grammar (two ∷ [])) mid then_sink → Written (texts mirror_grammar (one ∷ two ∷ [])) sink then_sink
told-both one two sink mid then_sink (whole, faults, after) told = record {
  whole = told.whole ∙ ap (λ (w : _). with_end w (texts mirror_grammar (two ∷ []))) whole ∙ with_end-with_end sink.written (mirror_bytes one ++ newline ∷ []) (texts mirror_grammar (two ∷ []));
  faults = let later = told.faults in omega arith;
}

-- and a front of the second
pub front-second : (one two : MirrorReply) (sink mid then_sink : Drain) → WritesAll sink (mirror_bytes one ++ newline ∷ []) (Ok tt) mid → FrontWritten (texts mirror_grammar (two ∷ [])) mid then_sink → FrontWritten (texts mirror_grammar (one ∷ two ∷ [])) sink then_sink
front-second one two sink mid then_sink (whole, faults, after) part =
    let first : List ℕ = mirror_bytes one ++ newline ∷ [] in
    let second : List ℕ = texts mirror_grammar (two ∷ []) in
    record {
      count = length first + part.count;
      front = part.front ∙ ap (λ (w : _). with_end w (take part.count second)) whole ∙ with_end-with_end sink.written first (take part.count second) ∙ ap (with_end sink.written) (sym (take-append-add first second part.count));
      faults = let later = part.faults in record { kept = omega (arith, Rises.kept later); more = λ lt. rises lt };
    }
  where
    rises : sink.faults < 2 ^ 64 - 1 → sink.faults < then_sink.faults
    rises lt = at (cases_lt mid.faults (2 ^ 64 - 1))
      where
        at : (mid.faults < 2 ^ 64 - 1) ⊎ (2 ^ 64 - 1 ≤ mid.faults) → sink.faults < then_sink.faults
        at (inl below) = let more = Rises.more part.faults below in omega arith
        at (inr top) = let kept = Rises.kept part.faults in omega arith

-- or of the first alone
pub front-first : (one two : MirrorReply) (sink mid : Drain) (failed : Failed) → WritesAll sink (mirror_bytes one ++ newline ∷ []) (Err failed) mid → FrontWritten (texts mirror_grammar (one ∷ two ∷ [])) sink mid
front-first one two sink mid failed (n, lt, front, faults) =
    let first : List ℕ = mirror_bytes one ++ newline ∷ [] in
    let second : List ℕ = texts mirror_grammar (two ∷ []) in
    record {
      count = n;
      front = front ∙ ap (with_end sink.written) (sym (take-append-le n first second (omega arith)));
      faults = faults;
    }
