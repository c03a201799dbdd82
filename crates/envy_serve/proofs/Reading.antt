-- From one line read to the next.
use Rattle.std.proofs.Common.{subst, ◌≡◌, ◌⊎◌, inl, inr, ℕ, ◌+◌, ◌-◌, ◌^◌, ◌<◌, ◌≤◌, List, [], ◌∷◌, ◌++◌, length, take, drop, map, sym, ◌∙◌, ap, arith}
use Rattle.std.specs.Prelude.{IsTrue, Result, Ok, Err}
use Rattle.std.proofs.lemmas.Bool.{cases_lt}
use Rattle.std.proofs.lemmas.List.{map-append, length-append, length-take-le, take-append-drop}
use Rattle.envy_io.specs.declared.lines.Next.{Next}
use Rattle.envy_io.specs.declared.lines.Next.TheVariants.{Line as NextIsLine, End as NextIsEnd, Long, Failed as NextFailed, Spent}
use Rattle.envy_io.specs.Lines.{NoNewline, lines_of, spelled}
use Rattle.envy_io.specs.Streams.{Feed, Rises, IsDry, with_front}
use Rattle.envy_io.specs.Taking.{Taking, HasGiven, NextLine, Takes, Reads, Wants, IsOpen, Keeps}
use Rattle.envy_io.proofs.TakesLemmas.{with_front-with_front}
use Rattle.envy_io.proofs.ReadsLemmas.{each-push}
use Rattle.envy_trace.specs.declared.fault.LineFault.{LineFault}
use Rattle.envy_trace.specs.declared.fault.LineFault.TheVariants.{Long as TooLongLine}
use Rattle.envy_serve.specs.Reading.{HasRead, IsMet, ReadAll, ReadBetween, ReadStuck}

-- what is known of the bytes taken once the reader has answered
pub record HasMet {Line : Type 0} (reads : List ℕ → Result Line LineFault) (skipped : ℕ) (from feed : Feed) (reader : Taking) (lines : List Line) (answer : Next) (piece : List ℕ) : Type 0 where
  pub bytes : List ℕ
  pub pieces : List (List ℕ)
  pub source : from.left ≡ with_front bytes feed.left
  pub faults : from.faults ≤ feed.faults
  pub dry : IsTrue reader.ended → IsDry feed.left
  pub count : skipped + length bytes ≡ reader.taken
  pub met_reads : Reads answer bytes pieces piece reader
  pub says : map reads pieces ≡ map Ok lines

pub met : {Line : Type 0} (reads : List ℕ → Result Line LineFault) (skipped : ℕ) (from feed then_feed : Feed) (reader then_reader : Taking) (lines : List Line) (answer : Next) (piece : List ℕ) → HasRead reads skipped from feed reader lines → NextLine reader feed answer piece then_reader then_feed → HasMet reads skipped from then_feed then_reader lines answer piece
met reads skipped from feed then_feed reader then_reader lines answer piece read next =
    let got = next.got in
    let left = Takes.left next.takes in
    record {
      bytes = read.bytes ++ got;
      pieces = read.pieces;
      source = HasRead.source read ∙ ap (with_front read.bytes) left ∙ with_front-with_front read.bytes got then_feed.left;
      faults = let before = HasRead.faults read in let after = Takes.faults next.takes in omega arith;
      dry = Takes.dry next.takes (HasRead.dry read);
      count = let before = HasRead.count read in let more = Takes.taken next.takes in let both = length-append read.bytes next.got in omega arith;
      met_reads = next.reads read.bytes read.pieces (HasRead.given read);
      says = HasRead.says read;
    }

says-more : {Line : Type 0} (reads : List ℕ → Result Line LineFault) (pieces : List (List ℕ)) (piece : List ℕ) (lines : List Line) (line : Line) → map reads pieces ≡ map Ok lines → reads piece ≡ Ok line → map reads (pieces ++ piece ∷ []) ≡ map Ok (lines ++ line ∷ [])
says-more reads pieces piece lines line e is = map-append reads pieces (piece ∷ []) ∙ ap (λ (x : _). x ++ reads piece ∷ []) e ∙ ap (λ (x : _). map Ok lines ++ x ∷ []) is ∙ sym (map-append Ok lines (line ∷ []))

-- the piece says a line, which joins the others
pub read-more : {Line : Type 0} (reads : List ℕ → Result Line LineFault) (skipped : ℕ) (from feed : Feed) (reader : Taking) (lines : List Line) (piece : List ℕ) (line : Line) → HasMet reads skipped from feed reader lines NextIsLine piece → reads piece ≡ Ok line → HasRead reads skipped from feed reader (lines ++ line ∷ [])
read-more reads skipped from feed reader lines piece line m is = record {
  bytes = m.bytes;
  pieces = m.pieces ++ piece ∷ [];
  source = m.source;
  faults = m.faults;
  dry = m.dry;
  given = m.met_reads;
  count = m.count;
  says = says-more reads m.pieces piece lines line m.says is;
}

whole-met : (bytes piece : List ℕ) (pieces : List (List ℕ)) (reader : Taking) → HasGiven bytes (pieces ++ piece ∷ []) reader → IsMet bytes pieces piece reader
whole-met bytes piece pieces reader g = at g.split
  where
    at : (bytes ≡ spelled (pieces ++ piece ∷ []) ++ reader.held) ⊎ (IsTrue reader.ended × (reader.held ≡ []) × (lines_of bytes ≡ pieces ++ piece ∷ [])) → IsMet bytes pieces piece reader
    at (inl e) = inl (reader.held, e)
    at (inr (ended, none, all)) = inr (inl (ended, all))

pub read-refused : {Line : Type 0} (reads : List ℕ → Result Line LineFault) (skipped : ℕ) (from feed : Feed) (reader : Taking) (lines : List Line) (piece : List ℕ) (fault : LineFault) → HasMet reads skipped from feed reader lines NextIsLine piece → reads piece ≡ Err fault → ReadStuck fault reads skipped from feed reader lines
read-refused reads skipped from feed reader lines piece fault m is = record { bytes = m.bytes; pieces = m.pieces; piece = piece; source = m.source; dry = m.dry; count = m.count; each = HasGiven.each m.met_reads; met = whole-met m.bytes piece m.pieces reader m.met_reads; says = m.says; refused = is }

-- what is held stands behind the lines given, where anything is held
held-behind : (bytes : List ℕ) (pieces : List (List ℕ)) (reader : Taking) → HasGiven bytes pieces reader → 0 < length reader.held → bytes ≡ spelled pieces ++ reader.held
held-behind bytes pieces reader g some = at g.split
  where
    at : (bytes ≡ spelled pieces ++ reader.held) ⊎ (IsTrue reader.ended × (reader.held ≡ []) × (lines_of bytes ≡ pieces)) → bytes ≡ spelled pieces ++ reader.held
    at (inl e) = e
    at (inr (ended, none, all)) = absurd (let same = ap length none in omega arith)

pub read-long : {Line : Type 0} (reads : List ℕ → Result Line LineFault) (skipped : ℕ) (from feed then_feed : Feed) (reader then_reader : Taking) (lines : List Line) (piece : List ℕ) → ((p : List ℕ) → 120 < length p → reads p ≡ Err TooLongLine) → HasRead reads skipped from feed reader lines → NextLine reader feed Long piece then_reader then_feed → ReadStuck TooLongLine reads skipped from then_feed then_reader lines
read-long reads skipped from feed then_feed reader then_reader lines piece refuses read next =
    let m = met reads skipped from feed then_feed reader then_reader lines Long piece read next in
    let given : HasGiven m.bytes m.pieces then_reader = (HasMet.met_reads m).0 in
    let (keeps, far, plain) = next.answers in
    let held : then_reader.held ≡ reader.held ++ next.got = Keeps.held keeps in
    let front : List ℕ = take 121 then_reader.held in
    let long : length front ≡ 121 = length-take-le 121 then_reader.held (omega (arith, ap length held)) in
    record {
      bytes = m.bytes;
      pieces = m.pieces;
      piece = front;
      source = m.source;
      dry = m.dry;
      count = m.count;
      each = each-push m.pieces front (HasGiven.each given) (subst (λ (h : List ℕ). NoNewline (take 121 h)) (sym held) plain);
      met = inr (inr (omega (arith, long), drop 121 then_reader.held, held-behind m.bytes m.pieces then_reader given (omega (arith, ap length held)) ∙ ap (λ (h : List ℕ). spelled m.pieces ++ h) (sym (take-append-drop 121 then_reader.held))));
      says = m.says;
      refused = refuses front (omega (arith, long));
    }

pub read-ended : {Line : Type 0} (reads : List ℕ → Result Line LineFault) (skipped : ℕ) (from feed then_feed : Feed) (reader then_reader : Taking) (lines : List Line) (piece : List ℕ) → HasRead reads skipped from feed reader lines → NextLine reader feed NextIsEnd piece then_reader then_feed → ReadAll reads skipped from then_feed then_reader lines
read-ended reads skipped from feed then_feed reader then_reader lines piece read next =
    let m = met reads skipped from feed then_feed reader then_reader lines NextIsEnd piece read next in
    let (given, all) = HasMet.met_reads m in
    let (keeps, none, ended) = next.answers in
    record {
      read = record { bytes = m.bytes; pieces = m.pieces; source = m.source; faults = m.faults; dry = m.dry; given = given; count = m.count; says = m.says };
      ended = ended;
      below = Takes.below next.takes ended;
      all_lines = all;
    }

pub rises-from : (from feed then_feed : Feed) → from.faults ≤ feed.faults → Rises feed.faults then_feed.faults → Rises from.faults then_feed.faults
rises-from from feed then_feed le r = record { kept = let more = r.kept in omega arith; more = λ lt. at lt (cases_lt feed.faults (2 ^ 64 - 1)) }
  where
    at : from.faults < 2 ^ 64 - 1 → (feed.faults < 2 ^ 64 - 1) ⊎ (2 ^ 64 - 1 ≤ feed.faults) → from.faults < then_feed.faults
    at lt (inl below) = let more = r.more below in omega arith
    at lt (inr top) = let more = r.kept in omega arith

pub read-failed : {Line : Type 0} (reads : List ℕ → Result Line LineFault) (skipped : ℕ) (from feed then_feed : Feed) (reader then_reader : Taking) (lines : List Line) (piece : List ℕ) → HasRead reads skipped from feed reader lines → NextLine reader feed NextFailed piece then_reader then_feed → ReadBetween reads skipped from then_feed then_reader lines × Rises from.faults then_feed.faults × (then_reader.taken < then_reader.cap)
read-failed reads skipped from feed then_feed reader then_reader lines piece read next =
    let m = met reads skipped from feed then_feed reader then_reader lines NextFailed piece read next in
    let (given, rest, open_rest) = HasMet.met_reads m in
    let (keeps, wants, rises) = next.answers in (
      record {
        read = record { bytes = m.bytes; pieces = m.pieces; source = m.source; faults = m.faults; dry = m.dry; given = given; count = m.count; says = m.says };
        rest = rest;
        open_rest = open_rest;
        short_rest = (Wants.line wants).short;
      },
      rises-from from feed then_feed (HasRead.faults read) rises,
      Wants.below wants,
    )

pub read-spent : {Line : Type 0} (reads : List ℕ → Result Line LineFault) (skipped : ℕ) (from feed then_feed : Feed) (reader then_reader : Taking) (lines : List Line) (piece : List ℕ) → HasRead reads skipped from feed reader lines → NextLine reader feed Spent piece then_reader then_feed → ReadBetween reads skipped from then_feed then_reader lines × (then_reader.taken ≡ then_reader.cap)
read-spent reads skipped from feed then_feed reader then_reader lines piece read next =
    let m = met reads skipped from feed then_feed reader then_reader lines Spent piece read next in
    let (given, rest, open_rest) = HasMet.met_reads m in
    let (keeps, whole, going, spent) = next.answers in (
      record {
        read = record { bytes = m.bytes; pieces = m.pieces; source = m.source; faults = m.faults; dry = m.dry; given = given; count = m.count; says = m.says };
        rest = rest;
        open_rest = open_rest;
        short_rest = subst (λ (h : List ℕ). length h ≤ 120) (sym (Keeps.held keeps)) (IsOpen.short whole);
      },
      spent,
    )
