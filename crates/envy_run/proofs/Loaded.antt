-- Images that are taken from a source, and boards that hold them.
use Rattle.std.proofs.Common.{◌≡◌, ◌≢◌, inl, inr, ℕ, Bool, true, false, ◌+◌, ◌*◌, ◌<◌, ◌≤◌, List, [], ◌++◌, length, refl, sym, ◌∙◌, ap, subst, arith, length-append}
use Rattle.std.specs.Prelude.{MatchBool, IsTrue, Ok, Err, Option, None, Some, slice_index, IfSome}
use Rattle.std.specs.Option.{option_map}
use Rattle.std.proofs.lemmas.List.{append-nil}
use Rattle.envy_base.specs.Counting.{up}
use Rattle.envy_base.specs.Shape.{IsShape, checked}
use Rattle.envy_base.specs.State.{State, IsBoard, IsMade}
use Rattle.envy_base.specs.declared.shape.Shape.{Shape}
use Rattle.envy_audit.specs.Judging.{Judges}
use Rattle.envy_audit.specs.declared.verdict.Verdict.{Verdict}
use Rattle.envy_image.specs.Image.{head_of, head_size, head_with, is_extended, numbers_size, body_of, image_of}
use Rattle.envy_image.specs.Reading.{Consumes, Ends}
use Rattle.envy_image.specs.Installing.{Goes, Upsets, IsUpset, Installed, StopsAs, FailsInBody, body_size, count_after}
use Rattle.envy_image.specs.declared.installation.InFault.TheVariants.{Short as InShort, Failed as InFailed, Spent as InSpent}
use Rattle.envy_image.proofs.Backwards.{fit-numbers, head-whole, length-head, never-bare, same-head, some-numbers}
use Rattle.envy_io.specs.Streams.{Feed, Drain, with_front}
use Rattle.envy_io.specs.Taking.{Taking}
use Rattle.envy_io.proofs.Counts.{Rises-after}
use Rattle.envy_io.proofs.TakesLemmas.{with_front-with_front}
use Rattle.envy_map.specs.Fields.{Chart, chart}
use Rattle.envy_serve.specs.Ends.{most_bytes}
use Rattle.envy_run.specs.Audits.{Judged, Refused, TooLarge, audit_lives, judging}
use Rattle.envy_run.specs.Loading.{Cause, HasFailed, HasTaken, IsFlawless, IsInstalled, IsTooLarge, IsUnharmed, IsWithin, Loaded, ReachesBehindHead, RefusesImage, StopsBehindHead, StopsInHead, StopsWithin, Unloaded, ending_for}
use Rattle.envy_run.specs.Meaning.{Does}
use Rattle.envy_run.specs.Outcome.{outcome_of}
use Rattle.envy_run.specs.Writing.{WritesAs}
use Rattle.envy_run.specs.declared.endings.Ending.{Ending}
use Rattle.envy_run.specs.declared.endings.Finished.{Finished}
use Rattle.envy_run.specs.declared.image_input.Refusal.{Refusal}
use Rattle.envy_run.specs.declared.image_input.Refusal.TheVariants.{Failed, Memory, Early, Unmarked, Misshapen, Upset}
use Rattle.envy_run.proofs.Accounts.{written-as}
use Rattle.envy_run.proofs.Checked.{shape-is}

-- more bytes are taken behind those that were
pub taken-more : (a b : List ℕ) (from feed to : Feed) (was now : Taking) → HasTaken a from was feed → Consumes was feed b now to → HasTaken (a ++ b) from now to
taken-more a b from feed to was now t c =
    let all : c.got ≡ b ++ now.held = ap (λ (held : List ℕ). held ++ c.got) (sym t.held) ∙ c.all in
    let none : now.held ≡ [] = c.nothing_over t.held in
    let same : c.got ≡ b = all ∙ (ap (λ (held : List ℕ). b ++ held) none ∙ append-nil b) in
    record {
      left = t.left ∙ (ap (with_front a) c.draws.left ∙ (with_front-with_front a c.got to.left ∙ ap (λ (g : List ℕ). with_front (a ++ g) to.left) same));
      taken = let x = t.taken in let y = c.draws.taken in let z = ap length same in omega (arith, length-append a b);
      cap = c.draws.cap ∙ t.cap;
      within = c.draws.within;
      held = none;
      faults = let x = t.faults in let y = c.draws.faults in omega arith;
      below = c.draws.below;
      dry = c.draws.dry t.dry;
    }

pub taken-ends : (a b : List ℕ) (from feed to : Feed) (was now : Taking) → HasTaken a from was feed → Ends was feed b now to → HasTaken (a ++ b) from now to
taken-ends a b from feed to was now t e =
    let same : e.got ≡ b = ap (λ (held : List ℕ). held ++ e.got) (sym t.held) ∙ e.all in
    record {
      left = t.left ∙ (ap (with_front a) e.draws.left ∙ (with_front-with_front a e.got to.left ∙ ap (λ (g : List ℕ). with_front (a ++ g) to.left) same));
      taken = let x = t.taken in let y = e.draws.taken in let z = ap length same in omega (arith, length-append a b);
      cap = e.draws.cap ∙ t.cap;
      within = e.draws.within;
      held = e.used;
      faults = let x = t.faults in let y = e.draws.faults in omega arith;
      below = e.draws.below;
      dry = e.draws.dry t.dry;
    }

-- an image is shorter than what may be taken
pub body-short : (sh : Shape) → IsShape sh → head_size sh + body_size sh < 1099511627776
body-short sh s = short (is_extended sh)
  where
    short : (b : Bool) → 8 + numbers_size b + body_size sh < 1099511627776
    short false =
        let a = s.few_segments in
        let b = s.few_rows in
        let c = s.few_pages in
        let d = s.few_frames in
        let e = s.few in
        omega arith
    short true =
        let a = s.few_segments in
        let b = s.few_rows in
        let c = s.few_pages in
        let d = s.few_frames in
        let e = s.few in
        omega arith

-- memory ran out before a byte behind the head was taken
pub memory-unmade : (sh : Shape) (returns : ℕ) (from feed : Feed) (was : Taking) → checked sh ≡ Ok tt → HasTaken (head_of sh) from was feed → Unloaded sh returns from None Memory was feed
memory-unmade sh returns from feed was checks head = record { shape = tt; bytes = head_of sh; head = ([], sym (append-nil (head_of sh))); taken = head; cause = (sh, checks, refl, tt); unharmed = tt }

unharmed-goes : (sh : Shape) (returns : ℕ) (old new : State) → IsMade sh returns old → Goes old new → IsUnharmed returns (chart new)
unharmed-goes sh returns old new made goes = record {
  given = ap (λ (s : State). s.given) goes.same ∙ made.given;
  lives = ap (λ (s : State). s.lives) goes.same ∙ made.lives;
  pulled = ap (λ (s : State). s.pulled) goes.same ∙ made.pulled;
  plans = ap (λ (s : State). s.plans) goes.same ∙ made.plans;
  last_plan = ap (λ (s : State). s.last_plan) goes.same ∙ made.last_plan;
}

module _ (sh : Shape) (returns : ℕ) (from feed to : Feed) (old new : State) (was now : Taking) (shape : IsShape sh) (made : IsMade sh returns old) (head : HasTaken (head_of sh) from was feed) where
  fewer : (n : ℕ) → n < body_size old.shape → n < body_size sh
  fewer n lt = subst (λ (x : Shape). n < body_size x) made.shape lt

  went : Goes old new → new.shape ≡ sh
  went goes = ap (λ (s : State). s.shape) goes.same ∙ made.shape

  flawless : Goes old new → IsFlawless (chart new)
  flawless goes = record {
    on = subst (λ (s : State). IsTrue s.on) (sym goes.same) goes.on;
    cuts = ap (λ (s : State). s.cuts) goes.same ∙ made.cuts;
    bads = ap (λ (s : State). s.bads) goes.same ∙ made.bads;
  }

  within : Goes old new → (bytes : List ℕ) → length bytes < body_size old.shape → StopsWithin (head_of sh ++ bytes) (Some (chart new))
  within goes bytes few =
      let (sizes, stops) = subst (λ (x : Shape). IsShape x × StopsBehindHead x (head_of sh ++ bytes)) (sym (went goes)) (shape, (bytes, refl, fewer (length bytes) few)) in
      (sizes, stops, flawless goes)

  pub short-unloaded : StopsAs InShort (body_size old.shape) old was feed new now to → Unloaded sh returns from (Some new) Early now to
  short-unloaded s =
      let taken = taken-ends (head_of sh) s.bytes from feed to was now head s.ends in
      record {
        shape = went s.goes;
        bytes = head_of sh ++ s.bytes;
        head = (s.bytes, refl);
        taken = taken;
        cause = (taken.dry s.stops, within s.goes s.bytes s.few);
        unharmed = unharmed-goes sh returns old new made s.goes;
      }

  pub failed-unloaded : StopsAs InFailed (body_size old.shape) old was feed new now to → Unloaded sh returns from (Some new) Failed now to
  failed-unloaded s =
      let (going, below, rises) = s.stops in
      record {
        shape = went s.goes;
        bytes = head_of sh ++ s.bytes;
        head = (s.bytes, refl);
        taken = taken-ends (head_of sh) s.bytes from feed to was now head s.ends;
        cause = (Rises-after from.faults feed.faults to.faults head.faults rises, within s.goes s.bytes s.few);
        unharmed = unharmed-goes sh returns old new made s.goes;
      }

  pub spent-never : StopsAs InSpent (body_size old.shape) old was feed new now to → ⊥
  spent-never s =
      let (going, full) = s.stops in
      let taken = taken-ends (head_of sh) s.bytes from feed to was now head s.ends in
      let count = taken.taken in
      let cap = taken.cap in
      let few = fewer (length s.bytes) s.few in
      let short = body-short sh shape in
      omega (arith, length-append (head_of sh) s.bytes, length-head sh)

  upset-cause : IsUpset old new → HasFailed (chart new)
  upset-cause (inl (off, rose, same)) = inl (off, (let none = made.cuts in let more = rose (omega arith) in omega arith), same ∙ made.bads)
  upset-cause (inr (on, same, rose)) = inr (on, same ∙ made.cuts, (let none = made.bads in let more = rose (omega arith) in omega arith))

  upset-shape : (f : FailsInBody (body_size old.shape) old was feed new now to) → new.shape ≡ sh
  upset-shape f = ap (λ (s : State). s.shape) (Upsets.same f.upset) ∙ made.shape

  upset-reach : (f : FailsInBody (body_size old.shape) old was feed new now to) → ReachesBehindHead new.shape (head_of sh ++ f.bytes)
  upset-reach f =
      subst (λ (x : Shape). ReachesBehindHead x (head_of sh ++ f.bytes)) (sym (upset-shape f)) (f.bytes, refl, subst (λ (x : Shape). length f.bytes ≤ body_size x) made.shape f.few)

  pub upset-unloaded : FailsInBody (body_size old.shape) old was feed new now to → Unloaded sh returns from (Some new) Upset now to
  upset-unloaded f = record {
    shape = upset-shape f;
    bytes = head_of sh ++ f.bytes;
    head = (f.bytes, refl);
    taken = taken-more (head_of sh) f.bytes from feed to was now head f.read;
    cause = (chart new, refl, upset-reach f, upset-cause (Upsets.failed f.upset));
    unharmed = record {
      given = ap (λ (s : State). s.given) (Upsets.same f.upset) ∙ made.given;
      lives = ap (λ (s : State). s.lives) (Upsets.same f.upset) ∙ made.lives;
      pulled = ap (λ (s : State). s.pulled) (Upsets.same f.upset) ∙ made.pulled;
      plans = ap (λ (s : State). s.plans) (Upsets.same f.upset) ∙ made.plans;
      last_plan = ap (λ (s : State). s.last_plan) (Upsets.same f.upset) ∙ made.last_plan;
    };
  }

  count-zero : (n count : ℕ) → n ≤ 16777216 → count ≡ 0 → count_after n count ≡ n
  unfolding count_after
  count-zero n count few none = omega arith

  up-zero : (count : ℕ) → count ≡ 0 → up count ≡ 1
  unfolding up
  up-zero count none = omega arith

  pub loaded : (verdict : Verdict) → IsBoard new → Installed old was feed new now to → Judges verdict (chart new) → Loaded sh returns from new verdict now to
  unfolding image_of
  loaded verdict whole i judges =
      let same : new.shape ≡ sh = ap (λ (s : State). s.shape) (Goes.same i.goes) ∙ made.shape in
      record {
        taken = subst (λ (x : Shape). HasTaken (head_of x ++ body_of new.flash new.sram) from now to) (sym same) (taken-more (head_of sh) (body_of new.flash new.sram) from feed to was now head i.bytes);
        installed = record {
          whole = whole;
          on = subst (λ (s : State). IsTrue s.on) (sym (Goes.same i.goes)) (Goes.on i.goes);
          shape = same;
          given = ap (λ (s : State). s.given) (Goes.same i.goes) ∙ made.given;
          lives = ap (λ (s : State). s.lives) (Goes.same i.goes) ∙ made.lives;
          pulled = ap (λ (s : State). s.pulled) (Goes.same i.goes) ∙ made.pulled;
          plans = ap (λ (s : State). s.plans) (Goes.same i.goes) ∙ made.plans;
          last_plan = ap (λ (s : State). s.last_plan) (Goes.same i.goes) ∙ made.last_plan;
          cuts = ap (λ (s : State). s.cuts) (Goes.same i.goes) ∙ made.cuts;
          bads = ap (λ (s : State). s.bads) (Goes.same i.goes) ∙ made.bads;
          begun = i.begun ∙ (ap (λ (x : Shape). count_after (x.segments * x.rows) old.begun) made.shape ∙ count-zero (sh.segments * sh.rows) old.begun shape.few made.begun);
          erases = λ e lt. i.erases e (subst (λ (x : Shape). e < x.segments) (sym made.shape) lt) ∙ up-zero (slice_index old.erases e) (made.erases e);
        };
        judges = judges;
      }

-- the shape of a board that an image was installed on is its own
pub installed-itself : (sh : Shape) (returns : ℕ) (s : State) → IsInstalled sh returns s → IsInstalled s.shape returns s
installed-itself sh returns s i = subst (λ (x : Shape). IsInstalled x returns s) (sym i.shape) i

no-stop : (bytes : List ℕ) → StopsInHead bytes → (sh : Shape) (rest : List ℕ) → bytes ≡ head_of sh ++ rest → ⊥
no-stop bytes (inl short) sh rest is = omega (arith, ap length is, length-append (head_of sh) rest, length-head sh)
no-stop bytes (inr (extended, behind, marked, short)) sh rest is = head-whole extended sh bytes behind [] rest marked short (append-nil bytes ∙ is) (omega (arith, ap length is, length-append (head_of sh) rest))

-- no image was taken up
pub image-refused : {B : Type 0} (state : B → State) (sh : Shape) (refusal : Refusal) (returns taken : ℕ) (board : Option B) (from feed : Feed) (sink : Drain) (now : Taking) → taken ≡ now.taken → (u : Unloaded sh returns from (option_map state board) refusal now feed) → RefusesImage refusal (Unloaded.bytes u) (outcome_of state (record { ending = ending_for refusal; lines = 0; taken = taken; board = board; second = None })) (record { from = from; feed = feed; to = sink; sink = sink })
image-refused {B} state sh refusal returns taken None from feed sink now same u = record { ending = record { status = refl; why = refl }; took = record { lines = refl; taken = same ∙ u.taken.taken; source = u.taken.left; sink = refl }; cause = u.cause }
image-refused {B} state sh refusal returns taken (Some board) from feed sink now same u = record { ending = record { status = refl; why = refl }; took = record { lines = refl; taken = same ∙ u.taken.taken; source = u.taken.left; sink = refl }; cause = u.cause }

-- the board of an image that is refused has not failed
pub refused-unharmed : {B : Type 0} (state : B → State) (sh : Shape) (refusal : Refusal) (returns : ℕ) (board : Option B) (from feed : Feed) (now : Taking) → Unloaded sh returns from (option_map state board) refusal now feed → IfSome (option_map (λ b. chart (state b)) board) (IsUnharmed returns)
refused-unharmed {B} state sh refusal returns None from feed now u = u.unharmed
refused-unharmed {B} state sh refusal returns (Some board) from feed now u = u.unharmed

-- bytes that stop in the head, or don't begin with the mark, or tell a shape that doesn't check, hold no head that serves
pub no-head : (refusal : Refusal) (bytes : List ℕ) (from feed : Feed) → refusal ≢ Memory → Cause refusal bytes None from feed → (sh : Shape) (rest : List ℕ) → bytes ≡ head_of sh ++ rest → checked sh ≡ Ok tt → ⊥
no-head Failed bytes from feed other (rose, stops) sh rest is ok = no-stop bytes stops sh rest is
no-head Memory bytes from feed other cause sh rest is ok = other refl
no-head Early bytes from feed other (dry, stops) sh rest is ok = no-stop bytes stops sh rest is
no-head Unmarked bytes from feed other (none, eight, unmarked) sh rest is ok = omega (arith, eight, ap length is, length-append (head_of sh) rest, length-head sh, some-numbers (is_extended sh))
no-head Misshapen bytes from feed other (none, fault, (bad, fit, inr (told, two, bare))) sh rest is ok =
    never-bare sh bad rest [] (fit-numbers sh (shape-is sh ok)) fit two (sym is ∙ (told ∙ sym (append-nil (head_with true bad))))
no-head Misshapen bytes from feed other (none, fault, (bad, fit, inl (told, fails))) sh rest is ok =
    let same : bad ≡ sh = same-head bad sh [] rest fit (fit-numbers sh (shape-is sh ok)) (append-nil (head_of bad) ∙ (sym told ∙ is)) in
    let clash : Ok tt ≡ Err fault = sym ok ∙ (ap checked (sym same) ∙ fails) in
    cc
no-head Upset bytes from feed other (now, none, reach, failed) sh rest is ok = let clash : Option Chart = None in cc

-- where no more was taken than may be, the end tells no more
pub refused-within : {B : Type 0} {ending : Ending} {taken : ℕ} (e : Finished B) (board : Option B) (now : Taking) → e ≡ record { ending = ending; lines = 0; taken = taken; board = board; second = None }
    → taken ≡ now.taken → now.taken ≤ now.cap → now.cap ≡ most_bytes → e.taken ≤ most_bytes
refused-within {B} {ending} {taken} e board now is same below cap =
    let told : e.taken ≡ taken = ap (λ (x : Finished B). x.taken) is in omega (arith, told, same, below, cap)

-- what a look at the rows of a board says
pub is-small : (b : Bool) (most rows : ℕ) → MatchBool b (most < rows) (rows ≤ most) → b ≡ false → rows ≤ most
is-small false most rows says e = says
is-small true most rows says e = absurd (let never = e in cc)

pub is-large : (b : Bool) (most rows : ℕ) → MatchBool b (most < rows) (rows ≤ most) → b ≡ true → most < rows
is-large true most rows says e = says
is-large false most rows says e = absurd (let never = e in cc)

-- bytes that begin with a head of so many rows
pub within-head : (most : ℕ) (sh : Shape) (bytes rest : List ℕ) → bytes ≡ head_of sh ++ rest → checked sh ≡ Ok tt → sh.segments * sh.rows ≤ most → IsWithin most bytes
within-head most sh bytes rest is checks few = λ other more told ok.
    subst (λ (x : Shape). x.segments * x.rows ≤ most) (same-head sh other rest more (fit-numbers sh (shape-is sh checks)) (fit-numbers other (shape-is other ok)) (sym is ∙ told)) few

-- a head of more rows
pub too-large : {B : Type 0} (state : B → State) (most : ℕ) (sh : Shape) (taken : ℕ) (from feed : Feed) (sink : Drain) (now : Taking) → taken ≡ now.taken → checked sh ≡ Ok tt → most < sh.segments * sh.rows → HasTaken (head_of sh) from now feed
    → IsTooLarge most sh (outcome_of state (record { ending = ending_for Misshapen; lines = 0; taken = taken; board = None; second = None })) (record { from = from; feed = feed; to = sink; sink = sink })
too-large state most sh taken from feed sink now same checks many t = record {
  ending = record { status = refl; why = refl };
  shape = checks;
  rows = many;
  took = record { lines = refl; taken = same ∙ t.taken; source = t.left; sink = refl };
}

-- the words `audit` and `map`

pub tells-large : {B : Type 0} (most : ℕ) (Says : Verdict → Chart → List ℕ → Type 0) (state : B → State) (sh : Shape) (taken : ℕ) (e : Finished B) (from feed : Feed) (sink : Drain) (now : Taking) → e ≡ record { ending = ending_for Misshapen; lines = 0; taken = taken; board = None; second = None } → taken ≡ now.taken → checked sh ≡ Ok tt → most < sh.segments * sh.rows → HasTaken (head_of sh) from now feed → Does (judging most Says) (outcome_of state e) (record { from = from; feed = feed; to = sink; sink = sink })
tells-large {B} most Says state sh taken e from feed sink now is same checks many t =
    subst (λ (x : Finished B). Does (judging most Says) (outcome_of state x) (record { from = from; feed = feed; to = sink; sink = sink })) (sym is)
    (record { account = TooLarge sh; printed = too-large state most sh taken from feed sink now same checks many t; board = refl; licences = tt })

-- and the run tells so
pub tells-refused : {B : Type 0} (most : ℕ) (Says : Verdict → Chart → List ℕ → Type 0) (state : B → State) (sh : Shape) (refusal : Refusal) (taken : ℕ) (board : Option B) (e : Finished B) (from feed : Feed) (sink : Drain) (now : Taking) → e ≡ record { ending = ending_for refusal; lines = 0; taken = taken; board = board; second = None } → taken ≡ now.taken → checked sh ≡ Ok tt → sh.segments * sh.rows ≤ most → Unloaded sh audit_lives from (option_map state board) refusal now feed → Does (judging most Says) (outcome_of state e) (record { from = from; feed = feed; to = sink; sink = sink })
tells-refused {B} most Says state sh refusal taken board e from feed sink now is same checks few u =
    subst (λ (x : Finished B). Does (judging most Says) (outcome_of state x) (record { from = from; feed = feed; to = sink; sink = sink })) (sym is)
    (record {
      account = Refused refusal u.bytes;
      printed = (image-refused state sh refusal audit_lives taken board from feed sink now same u, within-head most sh u.bytes u.head.0 u.head.1 checks few);
      board = refused-unharmed state sh refusal audit_lives board from feed now u;
      licences = tt;
    })

-- an image that was judged, and the run tells the verdict
pub tells-judged : {B : Type 0} (most : ℕ) (Says : Verdict → Chart → List ℕ → Type 0) (state : B → State) (sh : Shape) (verdict : Verdict) (text : List ℕ) (ending : Ending) (taken : ℕ) (board : B) (e : Finished B) (from feed : Feed) (to sink : Drain) (now : Taking) → e ≡ record { ending = ending; lines = 0; taken = taken; board = Some board; second = None } → taken ≡ now.taken → sh.segments * sh.rows ≤ most → Loaded sh audit_lives from (state board) verdict now feed → Says verdict (chart (state board)) text → WritesAs text ending to sink → Does (judging most Says) (outcome_of state e) (record { from = from; feed = feed; to = to; sink = sink })
tells-judged {B} most Says state sh verdict text ending taken board e from feed to sink now is same few l says writes =
    subst (λ (x : Finished B). Does (judging most Says) (outcome_of state x) (record { from = from; feed = feed; to = to; sink = sink })) (sym is)
    (record {
      account = Judged (state board) verdict text;
      printed = record {
        source = l.taken.left;
        taken = same ∙ l.taken.taken;
        lines = refl;
        few = subst (λ (x : Shape). x.segments * x.rows ≤ most) (sym l.installed.shape) few;
        judges = l.judges;
        says = says;
        writes = written-as state (record { ending = ending; lines = 0; taken = taken; board = Some board; second = None }) text to sink writes;
      };
      board = record { installed = installed-itself sh audit_lives (state board) l.installed; board = refl; state = refl };
      licences = tt;
    })
