-- A restart reads no dead row.
use Rattle.std.proofs.Common.{◌≡◌, ◌∙◌, ◌⊎◌, inl, inr, ℕ, ◌+◌, ◌*◌, ◌/◌, ◌%◌, ◌<◌, ◌≤◌, List, [], get_or, Option, None, Some, refl, sym, ap, subst, arith}
use Rattle.envy_audit.specs.Judging.{Judges, Holds, Before, BreaksFirst}
use Rattle.envy_audit.specs.Points.{Decodes, JobStands, Switches}
use Rattle.envy_audit.specs.declared.verdict.Rule.{Rule}
use Rattle.envy_audit.specs.declared.verdict.Rule.TheVariants.{A, B, C, D, E, F, G, H, I, J, K, L, M}
use Rattle.envy_audit.specs.declared.verdict.Verdict.{Verdict}
use Rattle.envy_audit.specs.declared.verdict.Verdict.TheVariants.{Sound as IsFoundSound, Unformatted, Broken}
use Rattle.envy_base.specs.State.{ones}
use Rattle.envy_base.specs.declared.fields.Job.TheVariants.{Erase}
use Rattle.envy_base.specs.declared.fields.Place.{Place}
use Rattle.envy_base.specs.declared.fields.Place.TheVariants.{Absent, Row, Frame}
use Rattle.envy_soundness.specs.Sound.{Blanks, Jobs, IsSound, Names, IsSpare}
use Rattle.envy_soundness.specs.Words.{kept, word_at, durable}
use Rattle.envy_soundness.proofs.References.{copy-segment, row-of}
use Rattle.envy_soundness.proofs.WordLists.{words-same}
use Rattle.envy_map.specs.Fields.{Chart}
use Rattle.envy_part.specs.Dead.{IsDead, OnlyDeadDiffer, AreAlike, with_flash}

-- two lists of rows that differ in dead ones of a board alone
abbrev Differ : Chart → List (List ℕ) → List (List ℕ) → Type 0
Differ c old new = (q : ℕ) → (get_or new q [] ≡ get_or old q []) ⊎ IsDead c q

turned : (c : Chart) (old new : List (List ℕ)) → Differ c old new → Differ c new old
turned c old new only q = at (only q)
  where
    at : (get_or new q [] ≡ get_or old q []) ⊎ IsDead c q → (get_or old q [] ≡ get_or new q []) ⊎ IsDead c q
    at (inl same) = inl (sym same)
    at (inr dead) = inr dead

-- a row that a page names is the same
named_same : (c : Chart) (old new : List (List ℕ)) → Differ c old new → (p q : ℕ) → Names c.fields p q → get_or new q [] ≡ get_or old q []
named_same c old new only p q names = at (only q)
  where
    at : (get_or new q [] ≡ get_or old q []) ⊎ IsDead c q → get_or new q [] ≡ get_or old q []
    at (inl same) = same
    at (inr dead) = absurd (dead.unnamed p names)

-- a copy that a segment is being switched to is the same
copy_same : (c : Chart) (old new : List (List ℕ)) → Differ c old new → (v e i : ℕ) → Switches c v → IsSpare c.shape c.fields.positions e → (e * c.shape.rows + i) / c.shape.rows ≡ e
    → get_or new (e * c.shape.rows + i) [] ≡ get_or old (e * c.shape.rows + i) []
copy_same c old new only v e i switches spare within = at (only (e * c.shape.rows + i))
  where
    at : (get_or new (e * c.shape.rows + i) [] ≡ get_or old (e * c.shape.rows + i) []) ⊎ IsDead c (e * c.shape.rows + i) → get_or new (e * c.shape.rows + i) [] ≡ get_or old (e * c.shape.rows + i) []
    at (inl same) = same
    at (inr dead) = absurd (dead.no_copy v switches.0 switches.1 (subst (λ (x : ℕ). IsSpare c.shape c.fields.positions x) (sym within) spare))

-- a free row is the same, or lies in the spare while that is being erased
free_same : (c : Chart) (old new : List (List ℕ)) → Differ c old new → (q : ℕ) → get_or c.fields.fills (q / c.shape.rows) 0 ≤ q % c.shape.rows
    → (get_or old q [] ≡ ones) ⊎ ((c.fields.job ≡ Some Erase) × IsSpare c.shape c.fields.positions (q / c.shape.rows))
    → (get_or new q [] ≡ ones) ⊎ ((c.fields.job ≡ Some Erase) × IsSpare c.shape c.fields.positions (q / c.shape.rows))
free_same c old new only q free was = at (only q)
  where
    erased : (q % c.shape.rows < get_or c.fields.fills (q / c.shape.rows) 0) ⊎ ((c.fields.job ≡ Some Erase) × IsSpare c.shape c.fields.positions (q / c.shape.rows))
        → (c.fields.job ≡ Some Erase) × IsSpare c.shape c.fields.positions (q / c.shape.rows)
    erased (inl below) = absurd (omega (free, below, arith))
    erased (inr erasing) = erasing

    at : (get_or new q [] ≡ get_or old q []) ⊎ IsDead c q → (get_or new q [] ≡ ones) ⊎ ((c.fields.job ≡ Some Erase) × IsSpare c.shape c.fields.positions (q / c.shape.rows))
    at (inl same) = subst (λ (row : List ℕ). (row ≡ ones) ⊎ ((c.fields.job ≡ Some Erase) × IsSpare c.shape c.fields.positions (q / c.shape.rows))) (sym same) was
    at (inr dead) = inr (erased dead.used)

decodes_same : (c : Chart) (old new : List (List ℕ)) → Decodes (with_flash old c) → Decodes (with_flash new c)
decodes_same c old new h = record {
  sizes = h.sizes;
  version = h.version;
  reserves = h.reserves;
  sums = h.sums;
  job = h.job;
  slots = h.slots;
  undos = h.undos;
  places = h.places;
  fills = h.fills;
  positions = h.positions;
  backs = h.backs;
  origins = h.origins;
}

job_same : (c : Chart) (old new : List (List ℕ)) → Differ c old new → Decodes (with_flash old c) → JobStands (with_flash old c) → JobStands (with_flash new c)
job_same c old new only decodes h = record {
  copied = h.copied;
  switched = h.switched;
  copies = λ v e switches spare. let was = h.copies v e switches spare in record {
    rows = was.rows;
    differ = was.differ;
    all = was.all;
    same = λ i lt is. (
      copy_same c old new only v e i switches spare (segment e i spare lt) ∙ (was.same i lt is).0 ∙ sym (named_same c old new only is.0 (get_or c.fields.origins i 0) is.1),
      (was.same i lt is).1,
    );
  };
}
  where
    segment : (e i : ℕ) → IsSpare c.shape c.fields.positions e → i < get_or c.fields.fills e 0 → (e * c.shape.rows + i) / c.shape.rows ≡ e
    segment e i spare lt = (row-of c.shape.rows e i (let fits = decodes.fills e spare.segment in omega (fits, lt, arith))).0

-- a point of an audit holds of both
point_same : (c : Chart) (old new : List (List ℕ)) → Differ c old new → (x : Rule) → Decodes (with_flash old c) → Holds x (with_flash old c) → Holds x (with_flash new c)
point_same c old new only A decodes h = decodes_same c old new h
point_same c old new only B decodes h = h
point_same c old new only C decodes h = h
point_same c old new only D decodes h = h
point_same c old new only E decodes h = h
point_same c old new only F decodes h = λ q range free. free_same c old new only q free (h q range free)
point_same c old new only G decodes h = h
point_same c old new only H decodes h = h
point_same c old new only I decodes h = job_same c old new only decodes h
point_same c old new only J decodes h = h
point_same c old new only K decodes h = h
point_same c old new only L decodes h = h
point_same c old new only M decodes h = h

-- each point comes after the first one, or is it
decodes_first : (x : Rule) (c : Chart) → Before x c → Holds x c → Decodes c
decodes_first A c before h = h
decodes_first B c before h = before A (omega arith)
decodes_first C c before h = before A (omega arith)
decodes_first D c before h = before A (omega arith)
decodes_first E c before h = before A (omega arith)
decodes_first F c before h = before A (omega arith)
decodes_first G c before h = before A (omega arith)
decodes_first H c before h = before A (omega arith)
decodes_first I c before h = before A (omega arith)
decodes_first J c before h = before A (omega arith)
decodes_first K c before h = before A (omega arith)
decodes_first L c before h = before A (omega arith)
decodes_first M c before h = before A (omega arith)

before_same : (c : Chart) (old new : List (List ℕ)) → Differ c old new → (x : Rule) → Before x (with_flash old c) → Before x (with_flash new c)
before_same c old new only x before y lt =
    point_same c old new only y (decodes_first y (with_flash old c) (λ z less. before z (omega (less, lt, arith))) (before y lt)) (before y lt)

breaks_same : (c : Chart) (old new : List (List ℕ)) → Differ c old new → (x : Rule) → BreaksFirst x (with_flash old c) → BreaksFirst x (with_flash new c)
breaks_same c old new only x was =
    let before : Before x (with_flash new c) = before_same c old new only x was.before in
    record {
      formatted = was.formatted;
      before = before;
      fails = λ h. was.fails (point_same c new old (turned c old new only) x (decodes_first x (with_flash new c) before h) h);
    }

sound_same : (c : Chart) (old new : List (List ℕ)) → Differ c old new → IsSound (with_flash old c) → IsSound (with_flash new c)
sound_same c old new only s = record {
  head = s.head;
  slots = s.slots;
  places = s.places;
  rows = s.rows;
  numbers = s.numbers;
  blanks = record {
    above = λ q range free. free_same c old new only q free (Blanks.above s.blanks q range free);
    idle = Blanks.idle s.blanks;
  };
  homes = s.homes;
  job = record {
    decodes = Jobs.decodes s.job;
    copying = Jobs.copying s.job;
    switching = Jobs.switching s.job;
    copies = λ v e is placed spare. let was = Jobs.copies s.job v e is placed spare in record {
      rows = was.rows;
      apart = was.apart;
      all = was.all;
      same = λ p i lt names. copy_same c old new only v e i (is, placed) spare (copy-segment c.shape c.fields old e i s lt) ∙ was.same p i lt names ∙ sym (named_same c old new only p (get_or c.fields.origins i 0) names);
      backs_same = was.backs_same;
      once = was.once;
    };
  };
}

judged_same : (c : Chart) (old new : List (List ℕ)) → Differ c old new → (found : Verdict) → Judges found (with_flash old c) → Judges found (with_flash new c)
judged_same c old new only IsFoundSound (formatted, sound) = (formatted, sound_same c old new only sound)
judged_same c old new only Unformatted unformatted = unformatted
judged_same c old new only (Broken x) breaks = breaks_same c old new only x breaks

word_same : (frames : List ℕ) (old new : List (List ℕ)) (x : Option Place) (j : ℕ) → ((q : ℕ) → x ≡ Some (Row q) → get_or new q [] ≡ get_or old q []) → word_at frames new x j ≡ word_at frames old x j
word_same frames old new None j same = refl
word_same frames old new (Some Absent) j same = refl
word_same frames old new (Some (Frame k)) j same = refl
word_same frames old new (Some (Row q)) j same = ap (λ (row : List ℕ). get_or row j 0) (same q refl)

durable_same : (c : Chart) (old new : List (List ℕ)) → Differ c old new → durable (with_flash new c) ≡ durable (with_flash old c)
durable_same c old new only = words-same c.shape.pages _ _ (λ p j lt. word_same c.fields.frames old new (kept c.fields p) j (λ q is. named_same c old new only p q (inr is)))

pub alike : (c : Chart) (rows : List (List ℕ)) → OnlyDeadDiffer c rows → AreAlike c (with_flash rows c)
alike c rows only = record {
  verdict = λ found. (judged_same c c.flash rows only found, judged_same c rows c.flash (turned c c.flash rows only) found);
  words = durable_same c c.flash rows only;
}
