-- From a trace that was served, with what is said of the boards then, to the account of it, and back.
use Rattle.std.proofs.Common.{◌≡◌, ◌⊎◌, inl, inr, ℕ, List, [], refl, ap, subst, arith}
use Rattle.std.specs.Prelude.{Option, None, Some, Result, Ok, Err}
use Rattle.envy_base.specs.State.{State}
use Rattle.envy_io.specs.declared.source.Failed.{Failed}
use Rattle.envy_io.specs.Streams.{Drain}
use Rattle.envy_map.specs.Fields.{Chart}
use Rattle.envy_serve.specs.declared.server.End.{End}
use Rattle.envy_serve.specs.declared.server.End.TheVariants.{Done as EndDone, ReadFault as EndReadFault, WriteFault as EndWriteFault, FlushFault, Refused, Dead as EndDead, TooLong as EndTooLong}
use Rattle.envy_serve.specs.Ends.{Serves, Ends, HasServed}
use Rattle.envy_serve.specs.Streams.{Streams}
use Rattle.envy_serve.specs.Turns.{Turn}
use Rattle.envy_run.specs.Outcome.{Outcome, EndsBy, IsQuiet, ending_after, ending_of, numbers_of, outcome_of}
use Rattle.envy_run.specs.Task.{Task, Session, MaybeServed, MaybeHeld, DoesTask, turns_of}
use Rattle.envy_run.specs.Writing.{WritesAs, WritesOut, WritesTrace}
use Rattle.envy_run.specs.declared.endings.Ending.{Ending}
use Rattle.envy_run.specs.declared.endings.Ending.TheVariants.{Done, WordsRefused, ReadFault, WriteFault, LineRefused, PowerLost, FlashFailed, OutOfMemory, TooLong, ImageRefused, NotInstalled}
use Rattle.envy_run.specs.declared.endings.Finished.{Finished}
use Rattle.envy_run.specs.Unserved.{IsDark, IsOutOfMemory, IsSpoilt, IsUnread, IsUnready}

-- the lines lead to something that the boards hold
abbrev pub Did : {Line Reply Left : Type 0} → Task Line Reply Left → Outcome → List (Turn Line Reply) → Type 0
Did {Left = Left} w o turns = (left : Left) × w.Leads turns left × w.HoldsLeft o left

-- or power failed in the last of them for good
abbrev pub Died : {Line Reply Left : Type 0} → Task Line Reply Left → Outcome → List (Turn Line Reply) → Type 0
Died {Left = Left} w o turns = (left : Left) × w.Dies turns left × w.HoldsDead o left

-- a trace was served to one of its ends
pub record WasServed {Line Reply Left : Type 0} (w : Task Line Reply Left) (turns : List (Turn Line Reply)) (o : Outcome) (io : Streams) : Type 0 where
  pub end : End
  pub serves : Serves end o.lines o.taken w.grammar w.skipped (Did w o) (Died w o) (w.tail o) turns io
  pub ending : EndsBy (ending_of end) o

-- the turns are the lines that were accepted, with their replies
pub record WasDone {Line Reply Left : Type 0} (w : Task Line Reply Left) (o : Outcome) (io : Streams) : Type 0 where
  pub turns : List (Turn Line Reply)
  pub answers : WasServed w turns o io ⊎ ((turns ≡ []) × w.Unread o io × w.WhyUnread o)
  pub licences : w.Licences o turns

-- what is said at an end, in two parts
parted : {Line Reply Left : Type 0} (w : Task Line Reply Left) (o : Outcome) (end : End) (turns : List (Turn Line Reply)) → HasServed end (Did w o) (Died w o) turns → (left : Left) × HasServed end (λ t. w.Leads t left) (λ t. w.Dies t left) turns × HasServed end (λ t. w.HoldsLeft o left) (λ t. w.HoldsDead o left) turns
parted w o EndDone turns s = s
parted w o EndReadFault turns s = s
parted w o EndWriteFault turns s = s
parted w o FlushFault turns s = s
parted w o (Refused fault) turns s = s
parted w o EndDead turns s = s
parted w o EndTooLong turns s = s

-- what a trace leads to and what the board holds then are one account
joined : {Line Reply Left : Type 0} (w : Task Line Reply Left) (o : Outcome) (end : End) (turns : List (Turn Line Reply)) (left : Left) → HasServed end (λ t. w.Leads t left) (λ t. w.Dies t left) turns → HasServed end (λ t. w.HoldsLeft o left) (λ t. w.HoldsDead o left) turns → HasServed end (Did w o) (Died w o) turns
joined w o EndDone turns left did holds = (left, did, holds)
joined w o EndReadFault turns left did holds = (left, did, holds)
joined w o EndWriteFault turns left did holds = (left, did, holds)
joined w o FlushFault turns left did holds = (left, did, holds)
joined w o (Refused fault) turns left did holds = (left, did, holds)
joined w o EndDead turns left did holds = (left, did, holds)
joined w o EndTooLong turns left did holds = (left, did, holds)

-- the account of a trace that was served, or of which no line was read
pub account_of : {Line Reply Left : Type 0} (w : Task Line Reply Left) (o : Outcome) (io : Streams) → WasDone w o io → DoesTask w o io
account_of {Line} {Reply} {Left} w o io d = at d.answers
  where
    at : WasServed w d.turns o io ⊎ ((d.turns ≡ []) × w.Unread o io × w.WhyUnread o) → DoesTask w o io
    at (inl s) =
        let (left, leads, holds) = parted w o s.end d.turns (Ends.served (Serves.ends s.serves)) in
        record {
          account = Some (record { turns = d.turns; end = s.end; left = left });
          printed = record {
            serves = record {
              lines_are = Serves.lines_are s.serves;
              reader = Serves.reader s.serves;
              taken_are = Serves.taken_are s.serves;
              cap = Serves.cap s.serves;
              ends = record { served = leads; read = Ends.read (Serves.ends s.serves); told = Ends.told (Serves.ends s.serves) };
            };
            ending = s.ending;
          };
          board = holds;
          licences = d.licences;
        }
    at (inr (none, unread, why)) = record { account = None; printed = unread; board = why; licences = subst (λ (turns : List (Turn Line Reply)). w.Licences o turns) none d.licences }

pub done_of : {Line Reply Left : Type 0} (w : Task Line Reply Left) (o : Outcome) (io : Streams) → DoesTask w o io → WasDone w o io
done_of {Line} {Reply} {Left} w o io d = at d.account d.printed d.board d.licences
  where
    at : (account : Option (Session Line Reply Left)) → MaybeServed w account o io → MaybeHeld w account o → w.Licences o (turns_of account) → WasDone w o io
    at None unread why licences = record { turns = []; answers = inr (refl, unread, why); licences = licences }
    at (Some s) served holds licences = record {
      turns = s.turns;
      answers = inl (record {
        end = s.end;
        serves = record {
          lines_are = Serves.lines_are served.serves;
          reader = Serves.reader served.serves;
          taken_are = Serves.taken_are served.serves;
          cap = Serves.cap served.serves;
          ends = record { served = joined w o s.end s.turns s.left (Ends.served (Serves.ends served.serves)) holds; read = Ends.read (Serves.ends served.serves); told = Ends.told (Serves.ends served.serves) };
        };
        ending = served.ending;
      });
      licences = licences;
    }

-- the outcome of a trace that was served to this end
abbrev pub served_outcome : End → ℕ → ℕ → Chart → State → Outcome
served_outcome end lines taken now whole = record {
  status = (numbers_of (ending_of end)).0;
  why = (numbers_of (ending_of end)).1;
  lines = lines;
  taken = taken;
  board = Some now;
  state = Some whole;
  second = None;
}

-- the ending of a run that read no line
pub unread : (o : Outcome) (io : Streams) → IsQuiet o io → IsUnready o → IsUnread o io
unread o io quiet (inl out) = (quiet, inl (IsOutOfMemory.ending out))
unread o io quiet (inr (inl spoilt)) = (quiet, inr (inl (IsSpoilt.ending spoilt)))
unread o io quiet (inr (inr dark)) = (quiet, inr (inr (IsDark.ending dark)))

-- what was the cause of reading no line has another status
pub never-unready : (o : Outcome) → o.status ≡ 0 → IsUnready o → ⊥
never-unready o zero (inl out) = let other = EndsBy.status (IsOutOfMemory.ending out) in omega arith
never-unready o zero (inr (inl spoilt)) = let other = EndsBy.status (IsSpoilt.ending spoilt) in omega arith
never-unready o zero (inr (inr dark)) = let other = EndsBy.status (IsDark.ending dark) in omega arith

-- a run that has ended so tells it
pub ends-as : {B : Type 0} (state : B → State) (finished : Finished B) (ending : Ending) → finished.ending ≡ ending → EndsBy ending (outcome_of state finished)
ends-as state finished ending is = record { status = ap (λ (e : Ending). (numbers_of e).0) is; why = ap (λ (e : Ending). (numbers_of e).1) is }

-- and tells no other
pub done-alone : {B : Type 0} (state : B → State) (finished : Finished B) → EndsBy Done (outcome_of state finished) → finished.ending ≡ Done
done-alone state finished ends = at finished.ending ends.status
  where
    at : (ending : Ending) → (numbers_of ending).0 ≡ 0 → ending ≡ Done
    at Done is = refl
    at (WordsRefused rule) is = absurd (omega arith)
    at ReadFault is = absurd (omega arith)
    at WriteFault is = absurd (omega arith)
    at (LineRefused fault) is = absurd (omega arith)
    at PowerLost is = absurd (omega arith)
    at FlashFailed is = absurd (omega arith)
    at OutOfMemory is = absurd (omega arith)
    at TooLong is = absurd (omega arith)
    at (ImageRefused fault) is = absurd (omega arith)
    at NotInstalled is = absurd (omega arith)

-- a text that was written, or that the sink failed at
pub written-as : {B : Type 0} (state : B → State) (finished : Finished B) (text : List ℕ) (to sink : Drain) → WritesAs text finished.ending to sink → WritesTrace text (outcome_of state finished) to sink
written-as state finished text to sink (inl (is, whole, flushed)) = inl (ends-as state finished Done is, whole, flushed)
written-as state finished text to sink (inr (is, front)) = inr (ends-as state finished WriteFault is, front)

pub writes-as : (text : List ℕ) (r : Result Unit Failed) (to sink : Drain) → WritesOut text r to sink → WritesAs text (ending_after r) to sink
writes-as text (Ok done) to sink (whole, flushed) = inl (refl, whole, flushed)
writes-as text (Err failed) to sink front = inr (refl, front)
