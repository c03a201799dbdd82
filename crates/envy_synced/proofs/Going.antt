-- How a kept board goes on.
use Rattle.std.specs.Prelude.{IsTrue, Result, OnOk}
use Rattle.std.proofs.Common.{◌≡◌, ◌⊎◌, ◌∙◌, inl, inr, ⊎_elim, ℕ, ◌≤◌, Bool, true, false, List, Ok, Err, refl, sym, ap, subst, arith}
use Rattle.std.proofs.Math.Logic.{∥∥₁_map}
use Rattle.std.proofs.lemmas.Bool.{false≢true}
use Rattle.envy_base.specs.declared.board.Off.{Off}
use Rattle.envy_base.specs.declared.board.Trouble.{Trouble}
use Rattle.envy_base.specs.declared.board.Trouble.TheVariants.{Off as TroubleOff, Bad}
use Rattle.envy_base.specs.declared.shape.Shape.{Shape}
use Rattle.envy_base.specs.Counting.{up}
use Rattle.envy_base.specs.State.{Notes, State, Puts, Programs, Erases, cut}
use Rattle.envy_device.specs.Device.{LeavesOnly}
use Rattle.envy_journal.specs.declared.log.Log.{Log}
use Rattle.envy_journal.specs.declared.operation.Operation.{Operation}
use Rattle.envy_journal.specs.Content.{content_of, holds}
use Rattle.envy_journal.specs.Head.{HasHead, StandsFor}
use Rattle.envy_journal.proofs.Logged.{crash_kept}
use Rattle.envy_journal.specs.Journal.{IsFileOf, IsLogged, journal_state, kept}
use Rattle.envy_journal.specs.Reading.{operations}
use Rattle.envy_journal.specs.Steady.{IsSteady}
use Rattle.envy_journal.proofs.Redone.{bads-never}
use Rattle.envy_disk.specs.Disk.{Syncs, with_notes}
use Rattle.envy_synced.specs.Disk.{Ends, IsKept}

-- a journaled board is off though its board is on only where it has ended
pub journal_off : (dead : Bool) (s : State) → IsTrue s.on → (journal_state dead s).on ≡ false → IsTrue dead
journal_off true s on off = refl
journal_off false s on off = absurd (false≢true (sym off ∙ on))

journal_bads : (dead : Bool) (s : State) → (journal_state dead s).bads ≡ s.bads
journal_bads true s = refl
journal_bads false s = refl

-- nothing is ever bad on it
pub never-bad : (d e : Bool) (s t : State) → IsSteady s → IsSteady t → (journal_state e t).bads ≡ up (journal_state d s).bads → ⊥
never-bad d e s t was is rose = bads-never s t was is (sym (journal_bads e t) ∙ rose ∙ ap up (journal_bads d s))

-- What an operation says of the sizes and of power. `K` is what holds where it succeeded.
pub record Goes (K : Type 0) (s t : State) : Type 0 where
  pub shape : t.shape ≡ s.shape
  pub still : s.on ≡ false → t ≡ s
  pub on : IsTrue t.on → K

module _ (K : Type 0) where
  -- a put changes no size, leaves a board that was off as it was, and holds what it promised where power stays on
  pub puts_go : (s t : State) (w v : ℕ) (r : Result Unit Off) → Puts s w v r t → OnOk r K → Goes K s t
  puts_go s t w v (Ok done) (on, is) k = record { shape = ap (λ (x : State). x.shape) is; still = λ off. absurd (false≢true (sym off ∙ on)); on = λ lit. k }
  puts_go s t w v (Err off) (inl (dark, is)) k = record { shape = ap (λ (x : State). x.shape) is; still = λ off. is; on = λ lit. absurd (false≢true (sym dark ∙ ap (λ (x : State). x.on) (sym is) ∙ lit)) }
  puts_go s t w v (Err off) (inr (on, inl is)) k = record { shape = ap (λ (x : State). x.shape) is; still = λ off. absurd (false≢true (sym off ∙ on)); on = λ lit. absurd (false≢true (sym (ap (λ (x : State). x.on) is) ∙ lit)) }
  puts_go s t w v (Err off) (inr (on, inr is)) k = record { shape = ap (λ (x : State). x.shape) is; still = λ off. absurd (false≢true (sym off ∙ on)); on = λ lit. absurd (false≢true (sym (ap (λ (x : State). x.on) is) ∙ lit)) }

  module _ (d e : Bool) (a b : State) (was : IsSteady a) (now : IsSteady b) where
    abbrev s : State
    s = journal_state d a

    abbrev t : State
    t = journal_state e b

    -- a program does, too
    pub programs_go : (q : ℕ) (page : List ℕ) (r : Result Unit Trouble) → Programs s q page r t → OnOk r K → Goes K s t
    programs_go q page (Ok done) (on, is) k = record { shape = ap (λ (x : State). x.shape) is; still = λ off. absurd (false≢true (sym off ∙ on)); on = λ lit. k }
    programs_go q page (Err TroubleOff) (inl (dark, is)) k = record { shape = ap (λ (x : State). x.shape) is; still = λ off. is; on = λ lit. absurd (false≢true (sym dark ∙ ap (λ (x : State). x.on) (sym is) ∙ lit)) }
    programs_go q page (Err TroubleOff) (inr (on, xs, fits, is)) k = record { shape = ap (λ (x : State). x.shape) is; still = λ off. absurd (false≢true (sym off ∙ on)); on = λ lit. absurd (false≢true (sym (ap (λ (x : State). x.on) is) ∙ lit)) }
    programs_go q page (Err Bad) (on, xs, fits, is) k = absurd (never-bad d e a b was now (ap (λ (x : State). x.bads) is))

    -- an erase does, too
    pub erases_go : (n : ℕ) (r : Result Unit Trouble) → Erases s n r t → OnOk r K → Goes K s t
    erases_go n (Ok done) (on, rows, only, is) k = record { shape = ap (λ (x : State). x.shape) is; still = λ off. absurd (false≢true (sym off ∙ on)); on = λ lit. k }
    erases_go n (Err TroubleOff) (inl (dark, is)) k = record { shape = ap (λ (x : State). x.shape) is; still = λ off. is; on = λ lit. absurd (false≢true (sym dark ∙ ap (λ (x : State). x.on) (sym is) ∙ lit)) }
    erases_go n (Err TroubleOff) (inr (on, rows, only, is)) k = record { shape = ap (λ (x : State). x.shape) is; still = λ off. absurd (false≢true (sym off ∙ on)); on = λ lit. absurd (false≢true (sym (ap (λ (x : State). x.on) is) ∙ lit)) }
    erases_go n (Err Bad) (on, rows, only, is) k = absurd (never-bad d e a b was now (ap (λ (x : State). x.bads) is))

-- the same operation on the board that tells
module _ (notes : Notes) (s t : State) where
  abbrev told : State → State
  told x = with_notes x notes

  -- what is told of syncs beside a board changes nothing about a put
  pub puts_told : (w v : ℕ) (r : Result Unit Off) → Puts s w v r t → Puts (told s) w v r (told t)
  puts_told w v (Ok done) (on, is) = (on, ap told is)
  puts_told w v (Err off) (inl (dark, is)) = inl (dark, ap told is)
  puts_told w v (Err off) (inr (on, inl is)) = inr (on, inl (ap told is))
  puts_told w v (Err off) (inr (on, inr is)) = inr (on, inr (ap told is))

  -- nothing about a program
  pub programs_told : (q : ℕ) (page : List ℕ) (r : Result Unit Trouble) → Programs s q page r t → Programs (told s) q page r (told t)
  programs_told q page (Ok done) (on, is) = (on, ap told is)
  programs_told q page (Err TroubleOff) (inl (dark, is)) = inl (dark, ap told is)
  programs_told q page (Err TroubleOff) (inr (on, xs, fits, is)) = inr (on, xs, fits, ap told is)
  programs_told q page (Err Bad) (on, xs, fits, is) = (on, xs, fits, ap told is)

  -- nothing about an erase
  pub erases_told : (e : ℕ) (r : Result Unit Trouble) → Erases s e r t → Erases (told s) e r (told t)
  erases_told e (Ok done) (on, rows, only, is) = (on, rows, only, ap told is)
  erases_told e (Err TroubleOff) (inl (dark, is)) = inl (dark, ap told is)
  erases_told e (Err TroubleOff) (inr (on, rows, only, is)) = inr (on, rows, only, ap told is)
  erases_told e (Err Bad) (on, rows, only, is) = (on, rows, only, ap told is)

-- what a crash leaves now, of a board whose power is on
pub stands_now : {D : Type 0} (seen : D → List ℕ) (may_leave : D → List ℕ → Type 0) (moment : D → ℕ) (left_since : D → ℕ → List ℕ → Type 0) (last : D → ℕ) (log : Log D) (s : State)
    → ((file : List ℕ) → left_since log.device (moment log.device) file → may_leave log.device file) → IsLogged seen may_leave left_since last log s
    → (file : List ℕ) → left_since log.device (moment log.device) file → StandsFor s.shape (kept seen log) file
stands_now seen may_leave moment left_since last log s only is file left = crash_kept seen may_leave left_since last log s is file (is.sound.durable file (only file left))

module _ {D : Type 0} (seen : D → List ℕ) (moment hindered : D → ℕ) (left_since : D → ℕ → List ℕ → Type 0) where
  -- just made or opened
  pub kept_new : (log : Log D) (s : State) → ((file : List ℕ) → left_since log.device (moment log.device) file → StandsFor s.shape (kept seen log) file) → IsKept seen moment hindered left_since log log log s
  kept_new log s stands = record {
    same = λ on. refl;
    unhindered = λ on. refl;
    later = omega arith;
    earlier = omega arith;
    each = λ file left. ∣ inl (stands file left) ∣₁;
    since = λ file left. ∣ inl (stands file left) ∣₁;
  }

  module _ (now was before : Log D) (s : State) (is : IsKept seen moment hindered left_since now was before s) (on : IsTrue s.on) where
    -- while power is on, only what the syncs brought to the disk
    lit : (t : State) (file : List ℕ) → t.shape ≡ s.shape → Ends s (kept seen was) file → Ends t (kept seen was) file
    lit t file shape (inl stands) = inl (subst (λ (sh : Shape). StandsFor sh (kept seen was) file) (sym shape) stands)
    lit t file shape (inr dark) = absurd (false≢true (sym dark.0 ∙ on))

    lit_before : (t : State) (file : List ℕ) → t.shape ≡ s.shape → StandsFor s.shape (kept seen before) file ⊎ Ends s (kept seen was) file → StandsFor t.shape (kept seen before) file ⊎ Ends t (kept seen was) file
    lit_before t file shape (inl stands) = inl (subst (λ (sh : Shape). StandsFor sh (kept seen before) file) (sym shape) stands)
    lit_before t file shape (inr ends) = inr (lit t file shape ends)

    last : (file : List ℕ) → StandsFor s.shape (kept seen now) file → StandsFor s.shape (kept seen was) file
    last file stands = subst (λ (p : List Operation). StandsFor s.shape p file) (is.same on) stands

    earliest : moment before.device ≤ moment now.device
    earliest = omega (arith, is.later, is.earlier)

    -- an operation
    operated : (new : Log D) (t : State) → t.shape ≡ s.shape → hindered new.device ≡ hindered now.device → LeavesOnly moment left_since now.device new.device (StandsFor s.shape (kept seen now)) → (IsTrue t.on → kept seen new ≡ kept seen now) → IsKept seen moment hindered left_since new was before t
    operated new t shape still only more = record {
      same = λ up. more up ∙ is.same on;
      unhindered = λ up. still ∙ is.unhindered on;
      later = omega (arith, is.later, only.later);
      earlier = is.earlier;
      each = λ file left. ⊎_elim (λ old. ∥∥₁_map (is.each file old) (λ e. lit t file shape e)) (λ stands. ∣ lit t file shape (inl (last file stands)) ∣₁) (only.before (moment was.device) file is.later left);
      since = λ file left. ⊎_elim (λ old. ∥∥₁_map (is.since file old) (λ e. lit_before t file shape e)) (λ stands. ∣ inr (lit t file shape (inl (last file stands))) ∣₁) (only.before (moment before.device) file earliest left);
    }

    only_last : (file : List ℕ) (new : Log D) → Ends s (kept seen was) file → StandsFor s.shape (kept seen was) file ⊎ Ends s (kept seen new) file
    only_last file new (inl stands) = inl stands
    only_last file new (inr dark) = absurd (false≢true (sym dark.0 ∙ on))

    -- a sync that succeeded
    pub synced : (new : Log D) → LeavesOnly moment left_since now.device new.device (λ file. StandsFor s.shape (kept seen now) file ⊎ StandsFor s.shape (kept seen new) file)
        → ((file : List ℕ) → left_since new.device (moment new.device) file → StandsFor s.shape (kept seen new) file) → IsKept seen moment hindered left_since new new was s
    synced new only stands = record {
      same = λ up. refl;
      unhindered = λ up. refl;
      later = omega arith;
      earlier = omega (arith, is.later, only.later);
      each = λ file left. ∣ inl (stands file left) ∣₁;
      since = λ file left. ⊎_elim (λ old. ∥∥₁_map (is.each file old) (λ e. only_last file new e)) (λ p. ∣ ⊎_elim (λ k. inl (last file k)) (λ d. inr (inl d)) p ∣₁) (only.before (moment was.device) file is.later left);
    }

    -- a sync that failed
    module _ (new : Log D) (t : State) (shape : t.shape ≡ s.shape) (content : content_of t ≡ content_of s) (off : t.on ≡ false) where
      all_of : (file : List ℕ) → IsFileOf s file → IsFileOf t file
      all_of file has = record {
        head = subst (λ (sh : Shape). HasHead sh file) (sym shape) has.head;
        content = content ∙ has.content ∙ ap (λ (sh : Shape). holds sh (operations file)) (sym shape);
        ends = has.ends;
      }

      either : (file : List ℕ) → StandsFor s.shape (kept seen now) file ⊎ IsFileOf s file → Ends t (kept seen was) file
      either file (inl stands) = lit t file shape (inl (last file stands))
      either file (inr has) = inr (off, all_of file has)

      -- after a call that syncs nothing the last sync stays the last
      pub unsynced : LeavesOnly moment left_since now.device new.device (λ file. StandsFor s.shape (kept seen now) file ⊎ IsFileOf s file) → IsKept seen moment hindered left_since new was before t
      unsynced only = record {
        same = λ up. absurd (false≢true (sym off ∙ up));
        unhindered = λ up. absurd (false≢true (sym off ∙ up));
        later = omega (arith, is.later, only.later);
        earlier = is.earlier;
        each = λ file left. ⊎_elim (λ old. ∥∥₁_map (is.each file old) (λ e. lit t file shape e)) (λ p. ∣ either file p ∣₁) (only.before (moment was.device) file is.later left);
        since = λ file left. ⊎_elim (λ old. ∥∥₁_map (is.since file old) (λ e. lit_before t file shape e)) (λ p. ∣ inr (either file p) ∣₁) (only.before (moment before.device) file earliest left);
      }

  -- an operation on a board whose power may be off
  pub went : (dead : Bool) (a : State) (now new was before : Log D) (t : State) → IsTrue a.on → IsKept seen moment hindered left_since now was before (journal_state dead a) → Goes (kept seen new ≡ kept seen now) (journal_state dead a) t
      → hindered new.device ≡ hindered now.device → (dead ≡ false → LeavesOnly moment left_since now.device new.device (StandsFor a.shape (kept seen now))) → (IsTrue dead → new ≡ now) → IsKept seen moment hindered left_since new was before t
  went true a now new was before t on is goes same only still =
      subst (λ (l : Log D). IsKept seen moment hindered left_since l was before t) (sym (still refl)) (subst (λ (x : State). IsKept seen moment hindered left_since now was before x) (sym (goes.still refl)) is)
  went false a now new was before t on is goes same only still = operated now was before a is on new t goes.shape same (only refl) goes.on

  -- a sync that failed, on a board whose power may be off
  pub failed : (dead : Bool) (a : State) (now new was before : Log D) → IsTrue a.on → IsKept seen moment hindered left_since now was before (journal_state dead a)
      → (dead ≡ false → LeavesOnly moment left_since now.device new.device (λ file. StandsFor a.shape (kept seen now) file ⊎ IsFileOf a file))
      → (IsTrue dead → new ≡ now) → IsKept seen moment hindered left_since new was before (cut a)
  failed true a now new was before on is only still = subst (λ (l : Log D). IsKept seen moment hindered left_since l was before (cut a)) (sym (still refl)) is
  failed false a now new was before on is only still = unsynced now was before a is on new (cut a) refl refl refl (only refl)

-- a sync that fails cuts power and leaves what was told
pub fails_told : (T : Type 0) (notes : Notes) (dead : Bool) (a : State) (off : Off) → IsTrue a.on → Syncs {T = T} (with_notes (journal_state dead a) notes) (Err off) (with_notes (cut a) notes)
fails_told T notes true a off on = inl (refl, refl)
fails_told T notes false a off on = inr (on, refl)
