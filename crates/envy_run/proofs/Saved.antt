-- A trace whose replies go nowhere, and an image that is written behind it.
use Rattle.std.proofs.Common.{◌≡◌, ◌⊎◌, inl, inr, ℕ, List, [], ◌∷◌, ◌++◌, refl, sym, ◌∙◌, ap, subst, arith}
use Rattle.std.specs.Prelude.{IsTrue, Option, None, Some, Result, Ok, Err}
use Rattle.std.specs.Option.{option_map}
use Rattle.envy_base.specs.State.{State}
use Rattle.envy_io.specs.declared.source.Failed.{Failed}
use Rattle.envy_io.specs.Streams.{Drain, Rises}
use Rattle.envy_meaning.specs.Stands.{Stands}
use Rattle.envy_map.specs.Fields.{Chart, chart}
use Rattle.envy_pair.proofs.Writing.{told-none}
use Rattle.envy_policy.specs.declared.setup.Setup.{Setup}
use Rattle.envy_serve.specs.declared.server.End.{End}
use Rattle.envy_serve.specs.declared.server.End.TheVariants.{Done as EndDone, ReadFault, WriteFault, FlushFault, Refused, Dead as EndDead, TooLong}
use Rattle.envy_serve.specs.Ends.{Serves, Ends, HasServed, HasReadTo, HasTold}
use Rattle.envy_serve.specs.Grammar.{Grammar, silent}
use Rattle.envy_serve.specs.Streams.{Streams, Written, FrontWritten}
use Rattle.envy_serve.specs.Turns.{Turn, lines_done, texts, written}
use Rattle.envy_run.specs.Headline.{run_task, save_task, image_in}
use Rattle.envy_run.specs.Outcome.{Outcome, EndsBy, ending_after, ending_of, numbers_of}
use Rattle.envy_run.specs.Task.{DoesTask}
use Rattle.envy_run.specs.Unserved.{IsUnread, IsUnready}
use Rattle.envy_run.specs.declared.endings.Ending.TheVariants.{Done}
use Rattle.envy_run.proofs.Accounts.{Did, Died, WasDone, WasServed, account_of, done_of, never-unready}
use Rattle.envy_run.specs.Turns.{TraceTurn, trace_grammar}
use Rattle.envy_run.specs.Writing.{WritesOut}

silent-texts : {Line Reply : Type 0} (g : Grammar Line Reply) (replies : List Reply) → texts (silent g) replies ≡ []
silent-texts g [] = refl
silent-texts g (reply ∷ replies) = silent-texts g replies

silent-all : {Line Reply : Type 0} (g : Grammar Line Reply) (turns : List (Turn Line Reply)) → written (silent g) turns ≡ []
silent-all g [] = refl
silent-all g (turn ∷ earlier) = ap (λ (w : List ℕ). w ++ texts (silent g) turn.replies) (silent-all g earlier) ∙ silent-texts g turn.replies

nothing-told : {Line Reply : Type 0} (g : Grammar Line Reply) (turns : List (Turn Line Reply)) (d : Drain) → Written (written (silent g) turns) d d
nothing-told g turns d = subst (λ (w : List ℕ). Written w d d) (sym (silent-all g turns)) (told-none d)

-- a sink that never failed has no front written
never-front : (text : List ℕ) (mid sink : Drain) → sink.faults ≡ 0 → FrontWritten text mid sink → ⊥
never-front text mid sink none front = let kept = Rises.kept front.faults in let more = Rises.more front.faults (omega arith) in omega arith

-- what is told to nobody, by the end, but for the end of a trace that was done
quiet-told : (end : End) (turns : List TraceTurn) (tail : List ℕ) (to sink d : Drain) → sink.faults ≡ 0 → (end ≡ EndDone → ⊥) → HasTold end trace_grammar turns [] to sink → HasTold end (silent trace_grammar) turns tail d d
quiet-told EndDone turns tail to sink d none other told = absurd (other refl)
quiet-told FlushFault turns tail to sink d none other (mid, before, front) = absurd (never-front [] mid sink none front)
quiet-told WriteFault [] tail to sink d none other told = absurd told
quiet-told WriteFault (turn ∷ earlier) tail to sink d none other (mid, before, front) = absurd (never-front _ mid sink none front)
quiet-told EndDead [] tail to sink d none other told = absurd told
quiet-told EndDead (turn ∷ earlier) tail to sink d none other told = (d, nothing-told trace_grammar earlier d, inl (subst (λ (t : List ℕ). Written t d d) (sym (silent-texts trace_grammar turn.replies)) (told-none d)))
quiet-told ReadFault turns tail to sink d none other told = nothing-told trace_grammar turns d
quiet-told (Refused fault) turns tail to sink d none other told = nothing-told trace_grammar turns d
quiet-told TooLong turns tail to sink d none other told = nothing-told trace_grammar turns d

-- a trace that wasn't done to its end
module _ (setup : Setup) (returns : ℕ) (o : Outcome) (io : Streams) (does : DoesTask (run_task setup returns) o io) (none : io.sink.faults ≡ 0) where
  task : WasDone (run_task setup returns) o io
  task = done_of (run_task setup returns) o io does

  pub saves-nothing : (d : Drain) → (EndsBy Done o → ⊥) → DoesTask (save_task setup returns) o (record io { to = d; sink = d })
  saves-nothing d undone = account_of (save_task setup returns) o (record io { to = d; sink = d }) (record { turns = task.turns; answers = at task.answers; licences = task.licences })
    where
      at : WasServed (run_task setup returns) task.turns o io ⊎ ((task.turns ≡ []) × IsUnread o io × IsUnready o) → WasServed (save_task setup returns) task.turns o (record io { to = d; sink = d }) ⊎ ((task.turns ≡ []) × IsUnread o (record io { to = d; sink = d }) × IsUnready o)
      at (inl s) = inl (record {
        end = s.end;
        serves = record {
          lines_are = Serves.lines_are s.serves;
          reader = Serves.reader s.serves;
          taken_are = Serves.taken_are s.serves;
          cap = Serves.cap s.serves;
          ends = record {
            served = Ends.served (Serves.ends s.serves);
            read = Ends.read (Serves.ends s.serves);
            told = quiet-told s.end task.turns (image_in o.state) io.to io.sink d none (λ done. undone (subst (λ (end : End). EndsBy (ending_of end) o) done s.ending)) (Ends.told (Serves.ends s.serves));
          };
        };
        ending = s.ending;
      })
      at (inr (empty, (quiet, ending), cause)) = inr (empty, (record { lines = quiet.lines; taken = quiet.taken; source = quiet.source; sink = refl }, ending), cause)

  -- a trace that was done
  done-end : (end : End) → EndsBy Done o → EndsBy (ending_of end) o → end ≡ EndDone
  done-end EndDone done ends = refl
  done-end ReadFault done ends = let zero = done.status in let other = ends.status in absurd (omega arith)
  done-end WriteFault done ends = let zero = done.status in let other = ends.status in absurd (omega arith)
  done-end FlushFault done ends = let zero = done.status in let other = ends.status in absurd (omega arith)
  done-end (Refused fault) done ends = let zero = done.status in let other = ends.status in absurd (omega arith)
  done-end EndDead done ends = let zero = done.status in let other = ends.status in absurd (omega arith)
  done-end TooLong done ends = let zero = done.status in let other = ends.status in absurd (omega arith)

  served-done : EndsBy Done o → (s : WasServed (run_task setup returns) task.turns o io) × (s.end ≡ EndDone)
  served-done done = at task.answers
    where
      at : WasServed (run_task setup returns) task.turns o io ⊎ ((task.turns ≡ []) × IsUnread o io × IsUnready o) → (s : WasServed (run_task setup returns) task.turns o io) × (s.end ≡ EndDone)
      at (inl s) = (s, done-end s.end done s.ending)
      at (inr (empty, unread, why)) = absurd (never-unready o (EndsBy.status done) why)

  done-turns : EndsBy Done o → Did (run_task setup returns) o task.turns
  done-turns done =
      let (s, is) = served-done done in
      subst (λ (end : End). HasServed end (Did (run_task setup returns) o) (Died (run_task setup returns) o) task.turns) is (Ends.served (Serves.ends s.serves))

  -- then there is a board with power
  pub board-done : EndsBy Done o → (now : Chart) × (o.board ≡ Some now) × IsTrue now.on
  board-done done = let (m, run, (now, is, stands)) = done-turns done in (now, is, Stands.on stands)

  -- the image is written behind a trace that was done
  pub saves-image : (to sink : Drain) (r : Result Unit Failed) → EndsBy Done o → WritesOut (image_in o.state) r to sink → DoesTask (save_task setup returns) (record o { status = (numbers_of (ending_after r)).0; why = (numbers_of (ending_after r)).1 }) (record io { to = to; sink = sink })
  saves-image to sink (Ok ok) done (whole, flushed) =
      let (s, end) = served-done done in
      account_of (save_task setup returns) (record o { status = 0; why = 0 }) (record io { to = to; sink = sink }) (record {
        turns = task.turns;
        answers = inl (record {
          end = EndDone;
          serves = record {
            lines_are = Serves.lines_are s.serves;
            reader = Serves.reader s.serves;
            taken_are = Serves.taken_are s.serves;
            cap = Serves.cap s.serves;
            ends = record {
              served = done-turns done;
              read = subst (λ (e : End). HasReadTo e (Grammar.reads trace_grammar) 0 io.from io.feed (Serves.reader s.serves) (lines_done task.turns)) end (Ends.read (Serves.ends s.serves));
              told = (subst (λ (w : List ℕ). Written (w ++ image_in o.state) to sink) (sym (silent-all trace_grammar task.turns)) whole, flushed);
            };
          };
          ending = record { status = refl; why = refl };
        });
        licences = task.licences;
      })
  saves-image to sink (Err failed) done front =
      let (s, end) = served-done done in
      account_of (save_task setup returns) (record o { status = 4; why = 0 }) (record io { to = to; sink = sink }) (record {
        turns = task.turns;
        answers = inl (record {
          end = FlushFault;
          serves = record {
            lines_are = Serves.lines_are s.serves;
            reader = Serves.reader s.serves;
            taken_are = Serves.taken_are s.serves;
            cap = Serves.cap s.serves;
            ends = record {
              served = done-turns done;
              read = subst (λ (e : End). HasReadTo e (Grammar.reads trace_grammar) 0 io.from io.feed (Serves.reader s.serves) (lines_done task.turns)) end (Ends.read (Serves.ends s.serves));
              told = (to, nothing-told trace_grammar task.turns to, front);
            };
          };
          ending = record { status = refl; why = refl };
        });
        licences = task.licences;
      })

-- the board of a trace that was done
pub saved-on : {B : Type 0} (state : B → State) (board : B) (found : Option B) → found ≡ Some board → (now : Chart) × (option_map (λ b. chart (state b)) found ≡ Some now) × IsTrue now.on → IsTrue (state board).on
saved-on {B} state board found is (now, same, on) =
    let both : Some (chart (state board)) ≡ Some now = ap (option_map (λ (b : B). chart (state b))) (sym is) ∙ same in
    let one : chart (state board) ≡ now = cc in
    subst (λ (c : Chart). IsTrue c.on) (sym one) on

pub saved-some : {B : Type 0} (state : B → State) (found : Option B) → found ≡ None → (now : Chart) × (option_map (λ b. chart (state b)) found ≡ Some now) × IsTrue now.on → ⊥
saved-some {B} state found is (now, same, on) = absurd (let never = ap (option_map (λ (b : B). chart (state b))) (sym is) ∙ same in cc)
