-- A mirrored run where nothing goes wrong.
use Rattle.std.proofs.Common.{◌≡◌, ◌⊎◌, inl, inr, ℕ, ◌<◌, false, List, [], ◌∷◌, refl, subst, arith}
use Rattle.std.specs.Prelude.{Some}
use Rattle.envy_array.specs.Array.{Array, zeros}
use Rattle.envy_mirror.specs.declared.standing.Which.{Which}
use Rattle.envy_mirror.specs.declared.standing.Which.TheVariants.{First, Second}
use Rattle.envy_pair.specs.Ending.{Boards, board_at, HasFallen}
use Rattle.envy_pair.specs.MirrorRun.{MirrorTurn, mirror_grammar}
use Rattle.envy_pair.specs.Serving.{long_mirror}
use Rattle.envy_policy.specs.declared.setup.Setup.{Setup}
use Rattle.envy_serve.specs.declared.server.End.{End}
use Rattle.envy_serve.specs.declared.server.End.TheVariants.{Done as EndDone, ReadFault, WriteFault, FlushFault, Refused, Dead as EndDead, TooLong}
use Rattle.envy_serve.specs.Ends.{Serves, Ends, HasServed}
use Rattle.envy_serve.specs.GoodTrace.{IsGoodTrace}
use Rattle.envy_serve.specs.Streams.{Streams}
use Rattle.envy_serve.specs.Turns.{Turn}
use Rattle.envy_serve.proofs.GoodTraces.{good-ends}
use Rattle.envy_trace.specs.declared.mirror_line.MirrorLine.{MirrorLine}
use Rattle.envy_trace.specs.declared.mirror_reply.MirrorReply.{MirrorReply}
use Rattle.envy_run.specs.Complete.{IsComplete}
use Rattle.envy_run.specs.MirrorTask.{AreHandedBack, OfEither, IsOffForGood, IsPairOutOfMemory, IsEitherSpoilt, IsEitherDark, IsMirrorUnready, mirror_task, AreWell, HasDiedOut}
use Rattle.envy_run.specs.Outcome.{Outcome, EndsBy, IsQuiet, ending_of}
use Rattle.envy_run.specs.Task.{Task}
use Rattle.envy_run.specs.Unserved.{IsUnread}
use Rattle.envy_run.specs.declared.endings.Ending.TheVariants.{Done, PowerLost}
use Rattle.envy_run.proofs.Accounts.{Did, Died, WasDone, WasServed}

-- what is said of an end at which power didn't return, where it is this end
named : {Line Reply : Type 0} (e end : End) (Did_so Died_so : List (Turn Line Reply) → Type 0) (turns : List (Turn Line Reply)) → e ≡ end → HasServed end Did_so Died_so turns → HasServed end Did_so (λ t. e ≡ EndDead) turns
named e EndDead Did_so Died_so turns is served = is
named e EndDone Did_so Died_so turns is served = served
named e ReadFault Did_so Died_so turns is served = served
named e WriteFault Did_so Died_so turns is served = served
named e FlushFault Did_so Died_so turns is served = served
named e (Refused fault) Did_so Died_so turns is served = served
named e TooLong Did_so Died_so turns is served = served

-- a task that served a good trace is done, or power didn't return
task-ends : (setup : Setup) (returns : ℕ) (turns : List MirrorTurn) (o : Outcome) (io : Streams) → WasServed (mirror_task setup returns) turns o io → IsGoodTrace mirror_grammar 0 io → EndsBy Done o ⊎ (EndsBy PowerLost o × Died (mirror_task setup returns) o turns)
task-ends setup returns turns o io s good = at (good-ends s.end o.lines o.taken mirror_grammar 0 (Did w o) (λ t. s.end ≡ EndDead) (w.tail o) turns io long_mirror renamed good)
  where
    w : Task MirrorLine MirrorReply Boards
    w = mirror_task setup returns

    renamed : Serves s.end o.lines o.taken mirror_grammar 0 (Did w o) (λ t. s.end ≡ EndDead) (w.tail o) turns io
    renamed = record {
      lines_are = Serves.lines_are s.serves;
      reader = Serves.reader s.serves;
      taken_are = Serves.taken_are s.serves;
      cap = Serves.cap s.serves;
      ends = record {
        served = named s.end s.end (Did w o) (Died w o) turns refl (Ends.served (Serves.ends s.serves));
        read = Ends.read (Serves.ends s.serves);
        told = Ends.told (Serves.ends s.serves);
      };
    }

    at : (s.end ≡ EndDone) ⊎ (s.end ≡ EndDead) → EndsBy Done o ⊎ (EndsBy PowerLost o × Died w o turns)
    at (inl done) = inl (subst (λ (e : End). EndsBy (ending_of e) o) done s.ending)
    at (inr dead) = inr (subst (λ (e : End). EndsBy (ending_of e) o) dead s.ending, subst (λ (e : End). HasServed e (Did w o) (Died w o) turns) dead (Ends.served (Serves.ends s.serves)))

-- the board of the side that was Good last is off for good
fallen-off : (one : Which) (o : Outcome) (boards : Boards) → o.board ≡ Some boards.first → o.second ≡ Some boards.second → (board_at one boards).on ≡ false → (board_at one boards).lives ≡ 0 → OfEither IsOffForGood o
fallen-off First o boards e f off none = (boards.first, inl e, (off, none))
fallen-off Second o boards e f off none = (boards.second, inr f, (off, none))

-- of a pair that fell one board is off for good
fallen-either : (first : Array) (count : ℕ) (o : Outcome) (boards : Boards) (turns : List MirrorTurn) → o.board ≡ Some boards.first → o.second ≡ Some boards.second → HasFallen first count boards turns → OfEither IsOffForGood o
fallen-either first count o boards [] e f never = absurd never
fallen-either first count o boards (turn ∷ earlier) e f d = fallen-off d.mid.last o boards e f d.off d.dead

-- formatting failed on one of the boards
spoilt-well : (o : Outcome) → AreWell o → o.taken ≡ 0 → OfEither (λ now. 0 < now.bads) o → ⊥
spoilt-well o well none (now, inl is, some) = let clean = well.first now is none in omega arith
spoilt-well o well none (now, inr is, some) = let clean = well.second now is none in omega arith

-- a mirrored run that goes well is done to its end, or its power is off for good
pub completes-mirror : (setup : Setup) (returns : ℕ) (o : Outcome) (io : Streams) (d : WasDone (mirror_task setup returns) o io) → IsGoodTrace mirror_grammar 0 io → AreWell o → IsComplete o ⊎ HasDiedOut o
completes-mirror setup returns o io d good well = at d.answers
  where
    ended : EndsBy Done o ⊎ (EndsBy PowerLost o × Died (mirror_task setup returns) o d.turns) → IsComplete o ⊎ HasDiedOut o
    ended (inl done) = inl (inl done)
    ended (inr (ending, (boards, fallen, back))) = inr (record { ending = ending; cause = fallen-either (zeros setup.shape.pages setup.shape.shadows) setup.shape.pages o boards d.turns (AreHandedBack.first back) (AreHandedBack.second back) fallen })

    at : WasServed (mirror_task setup returns) d.turns o io ⊎ ((d.turns ≡ []) × IsUnread o io × IsMirrorUnready o) → IsComplete o ⊎ HasDiedOut o
    at (inl served) = ended (task-ends setup returns d.turns o io served good)
    at (inr (none, unread, inl out)) = inl (inr (IsPairOutOfMemory.ending out))
    at (inr (none, (quiet, ending), inr (inl spoilt))) = absurd (spoilt-well o well (IsQuiet.taken quiet) (IsEitherSpoilt.cause spoilt))
    at (inr (none, unread, inr (inr dark))) = inr (record { ending = IsEitherDark.ending dark; cause = IsEitherDark.cause dark })
