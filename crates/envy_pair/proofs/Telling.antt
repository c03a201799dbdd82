-- A line with its replies, from what was heard, written and asked for.
use Rattle.std.proofs.Common.{◌≡◌, ◌⊎◌, inl, inr, ℕ, ◌<◌, Bool, true, false, List, [], ◌∷◌, ◌++◌, refl, sym, ◌∙◌, subst}
use Rattle.std.specs.Prelude.{Result, Ok, Err, ◌||◌}
use Rattle.envy_io.specs.declared.source.Failed.{Failed}
use Rattle.envy_io.specs.Lines.{newline}
use Rattle.envy_io.specs.Streams.{Drain, WritesAll}
use Rattle.envy_mirror.specs.Mirroring.{Mirrors}
use Rattle.envy_mirror.specs.Pair.{Pair, is_good, IsDark, IsPair}
use Rattle.envy_mirror.specs.Reviving.{which, cut_pair, LeavesCut}
use Rattle.envy_serve.specs.declared.service.LineOutcome.{LineOutcome}
use Rattle.envy_serve.specs.declared.service.LineOutcome.TheVariants.{Done, WriteFault, Dead}
use Rattle.envy_serve.specs.Streams.{Written, FrontWritten}
use Rattle.envy_serve.specs.Turns.{texts}
use Rattle.envy_trace.specs.Mirror.{IsMirrorLine, mirror_bytes}
use Rattle.envy_trace.specs.declared.line.Line.TheVariants.{Empty, Power}
use Rattle.envy_trace.specs.declared.mirror_line.MirrorLine.{MirrorLine}
use Rattle.envy_trace.specs.declared.mirror_line.MirrorLine.TheVariants.{Array as OfArray}
use Rattle.envy_trace.specs.declared.reply.Reply.TheVariants.{Lost, Restarted}
use Rattle.envy_trace.specs.declared.mirror_reply.MirrorReply.{MirrorReply}
use Rattle.envy_trace.specs.declared.mirror_reply.MirrorReply.TheVariants.{Array as Plain, Gone}
use Rattle.envy_pair.specs.Hearing.{Hears}
use Rattle.envy_pair.specs.MirrorRun.{mirror_grammar, before_restart}
use Rattle.envy_pair.specs.Restarting.{Recovers}
use Rattle.envy_pair.specs.Serving.{Known, Serves, LineDone, ObeysMirror}
use Rattle.envy_pair.proofs.Sides.{neither}
use Rattle.envy_pair.proofs.Commanded.{both-false}
use Rattle.envy_pair.proofs.Failing.{HeardLine, DarkLine, dark-done, dark-dead, power-lit, power-dark}
use Rattle.envy_pair.proofs.Lines.{heard, empty-done}
use Rattle.envy_pair.proofs.Writing.{told-one, front-one, told-none, told-both, front-second, front-first}

-- which of two isn't so
pub dark-of : (p : Pair) → (is_good p.first || is_good p.second) ≡ false → IsDark p
dark-of p none = at (is_good p.first) (is_good p.second) none
  where
    at : (a b : Bool) → (a || b) ≡ false → (a ≡ false) × (b ≡ false)
    at true b e = cc
    at false b e = (refl, e)

-- ---- a line that is one call

-- it leaves some side Good
lit-heard : (k : Known) (line : MirrorLine) (reply : MirrorReply) (old new : Pair) (side new_side : ℕ) → (is_good new.first || is_good new.second) ≡ true → HeardLine k line reply old side new new_side → (left : Known) × LineDone k line (reply ∷ []) left old side new new_side
lit-heard k line reply old new side new_side good (inl done) = done
lit-heard k line reply old new side new_side good (inr (lost, dark, stays)) =
    absurd (let never = both-false (is_good new.first) (is_good new.second) dark.fallen.dark.0 dark.fallen.dark.1 in let clash : true ≡ false = sym good ∙ never in cc)

pub call-done : (k : Known) (line : MirrorLine) (reply : MirrorReply) (old new : Pair) (side new_side : ℕ) (sink then_sink : Drain) → IsMirrorLine line → side < 2 → IsPair new → (is_good new.first || is_good new.second) ≡ true → Serves k old → Hears line reply old side new new_side → WritesAll sink (mirror_bytes reply ++ newline ∷ []) (Ok tt) then_sink → ObeysMirror k line Done old side new new_side sink then_sink
call-done k line reply old new side new_side sink then_sink call within i good s hears writes =
    let (left, done) = lit-heard k line reply old new side new_side good (heard line reply k old new side new_side call within i s hears) in
    (reply ∷ [], left, done, told-one reply sink then_sink writes)

pub call-failed : (k : Known) (line : MirrorLine) (reply : MirrorReply) (old new : Pair) (side new_side : ℕ) (sink then_sink : Drain) (failed : Failed) → IsMirrorLine line → side < 2 → IsPair new → (is_good new.first || is_good new.second) ≡ true → Serves k old → Hears line reply old side new new_side → WritesAll sink (mirror_bytes reply ++ newline ∷ []) (Err failed) then_sink → ObeysMirror k line WriteFault old side new new_side sink then_sink
call-failed k line reply old new side new_side sink then_sink failed call within i good s hears writes =
    let (left, done) = lit-heard k line reply old new side new_side good (heard line reply k old new side new_side call within i s hears) in
    (reply ∷ [], left, done, front-one reply sink then_sink failed writes)

-- it leaves none: a done line has a pair with a Good side
dark-heard : (k : Known) (line : MirrorLine) (reply : MirrorReply) (old new : Pair) (side new_side : ℕ) → IsDark new → HeardLine k line reply old side new new_side → (reply ≡ Plain Lost) × DarkLine (Plain Lost ∷ []) k line old new (which side) × (new_side ≡ side)
dark-heard k line reply old new side new_side dark (inl (left, done)) = absurd (neither (is_good new.first) (is_good new.second) dark.0 dark.1 (Mirrors.some (Serves.mirrors (LineDone.serves done))))
dark-heard k line reply old new side new_side dark (inr lost) = lost

-- the replies before the restart, written or not
before-told : (k : Known) (line : MirrorLine) (old mid : Pair) (side : ℕ) (sink mid_sink then_sink : Drain) (wrote : Result Unit Failed) → before_restart line ≡ Plain Lost ∷ [] → then_sink ≡ mid_sink → WritesAll sink (mirror_bytes (Plain Lost) ++ newline ∷ []) wrote mid_sink → Written (texts mirror_grammar (before_restart line)) sink then_sink ⊎ FrontWritten (texts mirror_grammar (before_restart line)) sink then_sink
before-told k line old mid side sink mid_sink then_sink (Ok done) before same writes =
    inl (subst (λ (rs : List MirrorReply). Written (texts mirror_grammar rs) sink then_sink) (sym before) (subst (λ (d : Drain). Written (texts mirror_grammar (Plain Lost ∷ [])) sink d) (sym same) (told-one (Plain Lost) sink mid_sink writes)))
before-told k line old mid side sink mid_sink then_sink (Err failed) before same writes =
    inr (subst (λ (rs : List MirrorReply). FrontWritten (texts mirror_grammar rs) sink then_sink) (sym before) (subst (λ (d : Drain). FrontWritten (texts mirror_grammar (Plain Lost ∷ [])) sink d) (sym same) (front-one (Plain Lost) sink mid_sink failed writes)))

lost-so : (k : Known) (line : MirrorLine) (old mid new : Pair) (side : ℕ) (sink mid_sink then_sink : Drain) (wrote : Result Unit Failed) (obeyed : LineOutcome) → side < 2 → DarkLine (Plain Lost ∷ []) k line old mid (which side) → WritesAll sink (mirror_bytes (Plain Lost) ++ newline ∷ []) wrote mid_sink → Recovers wrote obeyed mid new mid_sink then_sink → ObeysMirror k line obeyed old side new side sink then_sink
lost-so k line old mid new side sink mid_sink then_sink (Ok done) Done within d writes (ok, back, told) =
    let (left, is) = dark-done (Plain Lost ∷ []) k line old mid new side within d back in
    (Plain Lost ∷ Plain Restarted ∷ [], left, is, told-both (Plain Lost) (Plain Restarted) sink mid_sink then_sink writes told)
lost-so k line old mid new side sink mid_sink then_sink (Err failed) Done within d writes (ok, back, told) = absurd (let never = ok in cc)
lost-so k line old mid new side sink mid_sink then_sink (Ok done) WriteFault within d writes (back, inl (err, same)) = absurd (let never = err in cc)
lost-so k line old mid new side sink mid_sink then_sink (Ok done) WriteFault within d writes (back, inr (ok, part)) =
    let (left, is) = dark-done (Plain Lost ∷ []) k line old mid new side within d back in
    (Plain Lost ∷ Plain Restarted ∷ [], left, is, front-second (Plain Lost) (Plain Restarted) sink mid_sink then_sink writes part)
lost-so k line old mid new side sink mid_sink then_sink (Err failed) WriteFault within d writes (back, inl (err, same)) =
    let (left, is) = dark-done (Plain Lost ∷ []) k line old mid new side within d back in
    (Plain Lost ∷ Plain Restarted ∷ [], left, is, subst (λ (e : Drain). FrontWritten (texts mirror_grammar (Plain Lost ∷ Plain Restarted ∷ [])) sink e) (sym same) (front-first (Plain Lost) (Plain Restarted) sink mid_sink failed writes))
lost-so k line old mid new side sink mid_sink then_sink (Err failed) WriteFault within d writes (back, inr (ok, part)) = absurd (let never = ok in cc)
lost-so k line old mid new side sink mid_sink then_sink wrote Dead within d writes (good, same) =
    (dark-dead (Plain Lost ∷ []) k line old mid new side d good, before-told k line old mid side sink mid_sink then_sink wrote d.before same writes)

pub call-recovers : (k : Known) (line : MirrorLine) (reply : MirrorReply) (old mid new : Pair) (side new_side : ℕ) (sink mid_sink then_sink : Drain) (wrote : Result Unit Failed) (obeyed : LineOutcome) → IsMirrorLine line → side < 2 → IsPair mid → IsDark mid → Serves k old → Hears line reply old side mid new_side → WritesAll sink (mirror_bytes reply ++ newline ∷ []) wrote mid_sink → Recovers wrote obeyed mid new mid_sink then_sink → ObeysMirror k line obeyed old side new new_side sink then_sink
call-recovers k line reply old mid new side new_side sink mid_sink then_sink wrote obeyed call within i dark s hears writes recovers =
    let (lost, d, stays) = dark-heard k line reply old mid side new_side dark (heard line reply k old mid side new_side call within i s hears) in
    subst (λ (n : ℕ). ObeysMirror k line obeyed old side new n sink then_sink) (sym stays)
    (lost-so k line old mid new side sink mid_sink then_sink wrote obeyed within d (subst (λ (r : MirrorReply). WritesAll sink (mirror_bytes r ++ newline ∷ []) wrote mid_sink) lost writes) recovers)

-- ---- power cut by hand

pub power-done : (k : Known) (old new : Pair) (side : ℕ) (sink then_sink : Drain) → side < 2 → (is_good new.first || is_good new.second) ≡ true → Serves k old → new ≡ cut_pair (which side) old → LeavesCut k.array new → WritesAll sink (mirror_bytes Gone ++ newline ∷ []) (Ok tt) then_sink → ObeysMirror k (OfArray Power) Done old side new side sink then_sink
power-done k old new side sink then_sink within good s is leaves writes =
    let (left, done) = power-lit k old new side within s is leaves good in
    (Gone ∷ [], left, done, told-one Gone sink then_sink writes)

pub power-failed : (k : Known) (old new : Pair) (side : ℕ) (sink then_sink : Drain) (failed : Failed) → side < 2 → (is_good new.first || is_good new.second) ≡ true → Serves k old → new ≡ cut_pair (which side) old → LeavesCut k.array new → WritesAll sink (mirror_bytes Gone ++ newline ∷ []) (Err failed) then_sink → ObeysMirror k (OfArray Power) WriteFault old side new side sink then_sink
power-failed k old new side sink then_sink failed within good s is leaves writes =
    let (left, done) = power-lit k old new side within s is leaves good in
    (Gone ∷ [], left, done, front-one Gone sink then_sink failed writes)

pub power-recovers : (k : Known) (old mid new : Pair) (side : ℕ) (sink then_sink : Drain) (obeyed : LineOutcome) → side < 2 → IsPair mid → IsDark mid → Serves k old → mid ≡ cut_pair (which side) old → LeavesCut k.array mid → Recovers (Ok tt) obeyed mid new sink then_sink → ObeysMirror k (OfArray Power) obeyed old side new side sink then_sink
power-recovers k old mid new side sink then_sink obeyed within i dark s is leaves recovers = at obeyed recovers
  where
    d : DarkLine [] k (OfArray Power) old mid (which side)
    d = power-dark k old mid side i s is leaves dark

    at : (obeyed : LineOutcome) → Recovers (Ok tt) obeyed mid new sink then_sink → ObeysMirror k (OfArray Power) obeyed old side new side sink then_sink
    at Done (ok, back, told) =
        let (left, done) = dark-done [] k (OfArray Power) old mid new side within d back in
        (Plain Restarted ∷ [], left, done, told)
    at WriteFault (back, inl (err, same)) = absurd (let never = err in cc)
    at WriteFault (back, inr (ok, part)) =
        let (left, done) = dark-done [] k (OfArray Power) old mid new side within d back in
        (Plain Restarted ∷ [], left, done, part)
    at Dead (good, same) = (dark-dead [] k (OfArray Power) old mid new side d good, inl (subst (λ (e : Drain). Written [] sink e) (sym same) (told-none sink)))

-- ---- an empty line does nothing

pub empty-obeys : (k : Known) (line : MirrorLine) (p : Pair) (side : ℕ) (sink : Drain) → line ≡ OfArray Empty → side < 2 → Serves k p → ObeysMirror k line Done p side p side sink sink
empty-obeys k line p side sink is within s = subst (λ (l : MirrorLine). ObeysMirror k l Done p side p side sink sink) (sym is) ([], k, empty-done k p side within s, told-none sink)
