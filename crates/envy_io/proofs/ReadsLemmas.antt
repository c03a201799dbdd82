-- What the lines given and the bytes held say of all lines of the bytes taken.
use Rattle.std.proofs.Common.{◌≡◌, ◌⊎◌, ℕ, ◌<◌, ◌≤◌, false, IsTrue, List, [], ◌∷◌, ◌++◌, length, take, refl, ap, sym, ◌∙◌, inl, inr, arith, length-append, subst}
use Rattle.std.proofs.lemmas.Bool.{false≢true}
use Rattle.std.proofs.lemmas.List.{append_assoc, append-nil}
use Rattle.std.specs.List.{AllByRecursion}
use Rattle.envy_io.specs.declared.lines.Next.{Next}
use Rattle.envy_io.specs.declared.lines.Next.TheVariants.{Line, End, Long, Failed, Spent}
use Rattle.envy_io.specs.Streams.{Feed}
use Rattle.envy_io.specs.Lines.{NoNewline, newline, lines_of, spelled}
use Rattle.envy_io.specs.Taking.{Taking, Takes, Answers, HasGiven, Reads, NextLine, IsWhole, IsLast, Keeps}
use Rattle.envy_io.specs.Asking.{Gathers}
use Rattle.envy_io.proofs.LinesLemmas.{lines_of-nil, lines_of-spelled, lines_of-last, lines_of-long}

-- no line has a newline, nor has the next
pub each-push : (lines : List (List ℕ)) (line : List ℕ) → AllByRecursion NoNewline lines → NoNewline line → AllByRecursion NoNewline (lines ++ line ∷ [])
each-push [] line each plain = (plain, tt)
each-push (first ∷ lines) line (here, each) plain = (here, each-push lines line each plain)

spelled-push : (lines : List (List ℕ)) (line rest : List ℕ) → spelled (lines ++ line ∷ []) ++ rest ≡ spelled lines ++ (line ++ newline ∷ rest)
spelled-push [] line rest = ap (λ (bytes : List ℕ). bytes ++ rest) (append-nil (line ++ newline ∷ [])) ∙ append_assoc line (newline ∷ []) rest
spelled-push (first ∷ lines) line rest =
    let head = first ++ newline ∷ [] in
    append_assoc head (spelled (lines ++ line ∷ [])) rest ∙ (ap (λ (bytes : List ℕ). head ++ bytes) (spelled-push lines line rest) ∙ sym (append_assoc head (spelled lines) (line ++ newline ∷ rest)))

module _ (old new : Taking) (from to : Feed) (got bytes line : List ℕ) (lines : List (List ℕ)) (takes : Takes old from got new to) (given : HasGiven bytes lines old) where
  -- what is held stands behind the lines given
  abbrev Behind : Type 0
  Behind = bytes ++ got ≡ spelled lines ++ (old.held ++ got)

  -- the last line was given, and there is nothing behind it
  record Over : Type 0 where
    ended : IsTrue new.ended
    none : old.held ++ got ≡ []
    no_more : lines_of (bytes ++ got) ≡ lines

  still-over : IsTrue old.ended × (old.held ≡ []) × (lines_of bytes ≡ lines) → Over
  still-over (ended, none, is) =
      let nothing : got ≡ [] = (takes.ended ended).1 in
      record {
        ended = (takes.ended ended).0;
        none = rw (none, nothing) refl;
        no_more = rw nothing (ap lines_of (append-nil bytes) ∙ is);
      }

  either-from : (bytes ≡ spelled lines ++ old.held) ⊎ (IsTrue old.ended × (old.held ≡ []) × (lines_of bytes ≡ lines)) → Behind ⊎ Over
  either-from (inl is) = inl (ap (λ (all : List ℕ). all ++ got) is ∙ append_assoc (spelled lines) old.held got)
  either-from (inr over) = inr (still-over over)

  either : Behind ⊎ Over
  either = either-from given.split

  all-lines : Behind → lines_of (bytes ++ got) ≡ lines ++ lines_of (old.held ++ got)
  all-lines is = ap lines_of is ∙ lines_of-spelled lines (old.held ++ got) given.each

  after-keep : Keeps (old.held ++ got) line new → Behind ⊎ Over → HasGiven (bytes ++ got) lines new
  after-keep keeps (inl is) = record { each = given.each; split = inl (is ∙ ap (λ (held : List ℕ). spelled lines ++ held) (sym keeps.held)) }
  after-keep keeps (inr over) = record { each = given.each; split = inr (over.ended, keeps.held ∙ over.none, over.no_more) }

  after-line : NoNewline line → IsWhole (old.held ++ got) line new ⊎ IsLast (old.held ++ got) line new → Behind ⊎ Over → HasGiven (bytes ++ got) (lines ++ line ∷ []) new
  after-line plain (inl whole) (inl is) = record {
    each = each-push lines line given.each plain;
    split = inl (is ∙ (ap (λ (all : List ℕ). spelled lines ++ all) whole.split ∙ sym (spelled-push lines line new.held)));
  }
  after-line plain (inr last) (inl is) = record {
    each = each-push lines line given.each plain;
    split = inr (last.ended, last.none_held, all-lines is ∙ ap (λ (rest : List (List ℕ)). lines ++ rest) (ap lines_of last.all_bytes ∙ lines_of-last line plain last.some));
  }
  after-line plain (inl whole) (inr over) = absurd (omega (arith, ap length (sym over.none ∙ whole.split), length-append line (newline ∷ new.held)))
  after-line plain (inr last) (inr over) = absurd (omega (arith, ap length (sym over.none ∙ last.all_bytes), last.some))

  after-end : old.held ++ got ≡ [] → Behind ⊎ Over → lines_of (bytes ++ got) ≡ lines
  after-end none (inl is) = all-lines is ∙ (ap (λ (all : List ℕ). lines ++ lines_of all) none ∙ (ap (λ (rest : List (List ℕ)). lines ++ rest) lines_of-nil ∙ append-nil lines))
  after-end none (inr over) = over.no_more

  after-long : 121 ≤ length (old.held ++ got) → NoNewline (take 121 (old.held ++ got)) → Behind ⊎ Over → (long : List ℕ) × (more : List (List ℕ)) × (lines_of (bytes ++ got) ≡ lines ++ long ∷ more) × (120 < length long)
  after-long far plain (inl is) =
      let (long, more, first, far') = lines_of-long 120 (old.held ++ got) far plain in
      (long, more, all-lines is ∙ ap (λ (rest : List (List ℕ)). lines ++ rest) first, far')
  after-long far plain (inr over) = absurd (omega (arith, ap length over.none))

  after-stop : Keeps (old.held ++ got) line new → new.ended ≡ false → Behind ⊎ Over → bytes ++ got ≡ spelled lines ++ new.held
  after-stop keeps going (inl is) = is ∙ ap (λ (held : List ℕ). spelled lines ++ held) (sym keeps.held)
  after-stop keeps going (inr over) = absurd (false≢true (sym going ∙ over.ended))

  pub reads : (answer : Next) → Answers answer (old.held ++ got) line new from to → Reads answer (bytes ++ got) lines line new
  reads Line (plain, short, how) = after-line plain how either
  reads End (keeps, none, ended) = (after-keep keeps either, after-end none either)
  reads Long (keeps, far, plain) = (after-keep keeps either, after-long far plain either)
  reads Failed (keeps, wants, rises) = (after-keep keeps either, after-stop keeps wants.going either, wants.line.unbroken)
  reads Spent (keeps, line_open, going, full) =
      (after-keep keeps either, after-stop keeps going either, subst NoNewline (sym keeps.held) line_open.unbroken)

-- a call that gathered bytes and then gave a line of them
pub NextLine-given : (old mid new : Taking) (from to : Feed) (line : List ℕ) (answer : Next) → Gathers old from mid to → new ≡ record mid { held = new.held } → Answers answer mid.held line new from to → NextLine old from answer line new to
NextLine-given old mid new from to line answer g same given =
    let taken : new.taken ≡ mid.taken = ap (λ (t : Taking). t.taken) same in
    let cap : new.cap ≡ mid.cap = ap (λ (t : Taking). t.cap) same in
    let ended : new.ended ≡ mid.ended = ap (λ (t : Taking). t.ended) same in
    let takes : Takes old from g.got new to = record {
      cap = cap ∙ g.takes.cap;
      taken = taken ∙ g.takes.taken;
      within = omega (arith, g.takes.within);
      left = g.takes.left;
      faults = g.takes.faults;
      ended = λ was. (ended ∙ (g.takes.ended was).0, (g.takes.ended was).1);
      dry = λ dry is. g.takes.dry dry (sym ended ∙ is);
      below = λ is. omega (arith, g.takes.below (sym ended ∙ is));
      needed = g.takes.needed;
    } in
    let answers : Answers answer (old.held ++ g.got) line new from to = subst (λ (all : List ℕ). Answers answer all line new from to) g.held given in
    record {
      got = g.got;
      takes = takes;
      answers = answers;
      reads = λ bytes lines so_far. reads old new from to g.got bytes line lines takes so_far answer answers;
    }
