-- Lines of a trace for a memory that is kept: by their command words, and exactly from their spellings.
use Rattle.std.proofs.Common.{◌≡◌, ℕ, ◌<◌, ◌≤◌, Bool, true, false, ◌||◌, cond, ◌==◌, List, [], ◌∷◌, ◌++◌, length, codes, Option, None, Some, Result, Ok, Err, refl, sym, ap, ◌∙◌, subst, ◌⊎◌, inl, inr, arith}
use Rattle.std.specs.List.{AllZip, All, starts_with}
use Rattle.std.specs.Str.{bytes_eq}
use Rattle.std.proofs.lemmas.Bool.{cond-true, cond-false, cases_lt, cases_Bool}
use Rattle.std.proofs.lemmas.Slice.Eq.{bytes_eq-Decides}
use Rattle.envy_trace.specs.declared.fault.LineFault.{LineFault}
use Rattle.envy_trace.specs.declared.fault.LineFault.TheVariants.{Long, Word}
use Rattle.envy_trace.specs.declared.line.Line.{Line}
use Rattle.envy_trace.specs.declared.line.Line.TheVariants.{Empty, Load, Look, Store, Begin, Put, Commit, Abort, Tick, Power, Cut, Bad, Stat}
use Rattle.envy_trace.specs.Grammar.{Entry, ◌takes◌, line_of, fields_of, command_in, says, look_up, commands, none, one, two, three, slot, address, word, place}
use Rattle.envy_trace.specs.Spelling.{parts, IsLine, IsNumeralOf, Spells, Reads, line_bytes, written, written_parts}
use Rattle.envy_trace.proofs.Faults.{no_numbers}
use Rattle.envy_trace.proofs.Written.{HasForm, Prints, form, spells_written, prints}
use Rattle.envy_trace.proofs.Lines.{line-short, long-only}
use Rattle.envy_trace.proofs.Tables.{by-long, by-short, eq-flip, look-up-as, made_as, made-ok, made-long, of_command, same-word}
use Rattle.envy_trace.proofs.Numerals.{none_ok, none_read}
use Rattle.envy_trace.proofs.Readings.{line-read, line-spelled}
use Rattle.envy_trace.specs.declared.keep_line.KeepLine.{KeepLine}
use Rattle.envy_trace.specs.declared.keep_line.KeepLine.TheVariants.{Trace, Sync}
use Rattle.envy_trace.specs.Keep.{kept_commands, keep_commands, keep_line_of, names_failure, keep_parts, keep_line_bytes, IsKeepLine, ReadsKeep}

-- a line of one array, as one of the kept memory
abbrev pub as_trace : Result Line LineFault → Result KeepLine LineFault
as_trace = made_as Trace

pub keep-long : (bs : List ℕ) → 120 < length bs → keep_line_of bs ≡ Err Long
unfolding keep_line_of
keep-long = by-long (Trace Empty) keep_commands

pub keep-short : (bs : List ℕ) → length bs ≤ 120 → keep_line_of bs ≡ says (Trace Empty) keep_commands (command_in (fields_of bs))
unfolding keep_line_of
keep-short = by-short (Trace Empty) keep_commands

-- tables with the same front
over : (front one-end other : List (Entry Line)) (name : List ℕ) (fs : List (List ℕ)) → look_up one-end name fs ≡ look_up other name fs → look_up (front ++ one-end) name fs ≡ look_up (front ++ other) name fs
over [] one-end other name fs e = e
over (entry ∷ front) one-end other name fs e = ap (λ rest. cond (bytes_eq entry.name name) (entry.read fs) rest) (over front one-end other name fs e)

abbrev front_commands : List (Entry Line)
front_commands =
    (codes "load" takes one address Load)
    ∷ (codes "look" takes one address Look)
    ∷ (codes "store" takes two address word Store)
    ∷ (codes "begin" takes none Begin)
    ∷ (codes "put" takes three slot address word Put)
    ∷ (codes "commit" takes one slot Commit)
    ∷ (codes "abort" takes one slot Abort)
    ∷ (codes "tick" takes none Tick)
    ∷ []

-- none of the three words
pub record IsKept (name : List ℕ) : Type 0 where
  pub power : bytes_eq (codes "power") name ≡ false
  pub cut : bytes_eq (codes "cut") name ≡ false
  pub bad : bytes_eq (codes "bad") name ≡ false

keeps-table : (name : List ℕ) (fs : List (List ℕ)) → IsKept name → look_up kept_commands name fs ≡ look_up commands name fs
keeps-table name fs is =
    over front_commands ((codes "stat" takes none Stat) ∷ []) ((codes "power" takes none Power) ∷ (codes "cut" takes two place word Cut) ∷ (codes "bad" takes two place word Bad) ∷ (codes "stat" takes none Stat) ∷ []) name fs
    (sym (cond-false _ _ _ is.power ∙ cond-false _ _ _ is.cut ∙ cond-false _ _ _ is.bad))

pub word-sync : (name : List ℕ) (fs : List (List ℕ)) → bytes_eq (codes "sync") name ≡ true → look_up keep_commands name fs ≡ none Sync fs
word-sync name fs e = cond-true _ _ _ e

pub word-trace : (name : List ℕ) (fs : List (List ℕ)) → bytes_eq (codes "sync") name ≡ false → IsKept name → look_up keep_commands name fs ≡ as_trace (look_up commands name fs)
word-trace name fs e is = cond-false _ _ _ e ∙ look-up-as Trace kept_commands name fs ∙ ap as_trace (keeps-table name fs is)

or-false : (a b : Bool) → (a || b) ≡ false → (a ≡ false) × (b ≡ false)
or-false true b e = absurd (let never : ⊥ = cc in never)
or-false false b e = (refl, e)

or-true : (a b : Bool) → (a || b) ≡ true → (a ≡ true) ⊎ (b ≡ true)
or-true true b e = inl refl
or-true false b e = inr e

pub is-kept : (name : List ℕ) → names_failure name ≡ false → IsKept name
is-kept name e =
    let p = or-false (bytes_eq name (codes "power")) (bytes_eq name (codes "cut") || bytes_eq name (codes "bad")) e in
    let q = or-false (bytes_eq name (codes "cut")) (bytes_eq name (codes "bad")) p.1 in
    record {
      power = eq-flip (codes "power") name ∙ p.0;
      cut = eq-flip (codes "cut") name ∙ q.0;
      bad = eq-flip (codes "bad") name ∙ q.1;
    }

pub word-failure : (name : List ℕ) (fs : List (List ℕ)) → names_failure name ≡ true → look_up keep_commands name fs ≡ Err Word
word-failure name fs e = at (or-true (bytes_eq name (codes "power")) (bytes_eq name (codes "cut") || bytes_eq name (codes "bad")) e)
  where
    refused : (w : List ℕ) → bytes_eq name w ≡ true → look_up keep_commands w fs ≡ Err Word → look_up keep_commands name fs ≡ Err Word
    refused w is r = subst (λ (n : List ℕ). look_up keep_commands n fs ≡ Err Word) (sym ((bytes_eq-Decides name w).0 is)) r

    at : (bytes_eq name (codes "power") ≡ true) ⊎ ((bytes_eq name (codes "cut") || bytes_eq name (codes "bad")) ≡ true) → look_up keep_commands name fs ≡ Err Word
    at (inl is) = refused (codes "power") is refl
    at (inr more) = go (or-true (bytes_eq name (codes "cut")) (bytes_eq name (codes "bad")) more)
      where
        go : (bytes_eq name (codes "cut") ≡ true) ⊎ (bytes_eq name (codes "bad") ≡ true) → look_up keep_commands name fs ≡ Err Word
        go (inl is) = refused (codes "cut") is refl
        go (inr is) = refused (codes "bad") is refl

-- ---- both ways

-- a word that is read as before
abbrev IsTraceWord : List ℕ → Type 0
IsTraceWord name = (bytes_eq (codes "sync") name ≡ false) × IsKept name

-- a line of one array reads as before
pub keep-trace : (bs : List ℕ) → length bs ≤ 120 → (found : Option (List ℕ × List (List ℕ))) → command_in (fields_of bs) ≡ found → ((c : List ℕ × List (List ℕ)) → found ≡ Some c → IsTraceWord c.0) → keep_line_of bs ≡ as_trace (line_of bs)
keep-trace bs short None is words =
    keep-short bs short ∙ ap (says (Trace Empty) keep_commands) is ∙ ap as_trace (sym (line-short bs short ∙ ap (says Empty commands) is))
keep-trace bs short (Some c) is words =
    let w = words c refl in
    keep-short bs short ∙ ap (says (Trace Empty) keep_commands) is ∙ word-trace c.0 c.1 w.0 w.1 ∙ ap as_trace (sym (line-short bs short ∙ ap (says Empty commands) is))

pub keep-trace-named : (bs : List ℕ) → length bs ≤ 120 → (c : List ℕ × List (List ℕ)) → command_in (fields_of bs) ≡ Some c → bytes_eq (codes "sync") c.0 ≡ false → IsKept c.0 → keep_line_of bs ≡ as_trace (line_of bs)
keep-trace-named bs short c is e k = keep-trace bs short (Some c) is (λ d same. let it : c ≡ d = cc in subst (λ (x : List ℕ × List (List ℕ)). IsTraceWord x.0) it (e, k))

-- of a line's command, where it has one, this is so
abbrev Named : List ℕ → (List ℕ → Type 0) → Type 0
Named bs P = (c : List ℕ × List (List ℕ)) → command_in (fields_of bs) ≡ Some c → P c.0

pub data Cases (bs : List ℕ) : Type 0 where
  IsTrace : keep_line_of bs ≡ as_trace (line_of bs) → Named bs IsTraceWord → Cases bs
  IsSync : (fs : List (List ℕ)) → command_in (fields_of bs) ≡ Some (codes "sync", fs) → keep_line_of bs ≡ none Sync fs → Cases bs
  IsFailure : keep_line_of bs ≡ Err Word → Cases bs

pub cases : (bs : List ℕ) → length bs ≤ 120 → Cases bs
cases bs short = at (command_in (fields_of bs)) refl
  where
    some-in : (c : List ℕ × List (List ℕ)) → command_in (fields_of bs) ≡ Some c → Cases bs
    some-in c is = go (cases_Bool (bytes_eq (codes "sync") c.0)) (cases_Bool (names_failure c.0))
      where
        read : keep_line_of bs ≡ look_up keep_commands c.0 c.1
        read = keep-short bs short ∙ ap (says (Trace Empty) keep_commands) is

        go : (bytes_eq (codes "sync") c.0 ≡ true) ⊎ (bytes_eq (codes "sync") c.0 ≡ false) → (names_failure c.0 ≡ true) ⊎ (names_failure c.0 ≡ false) → Cases bs
        go (inl e) f = IsSync c.1 (is ∙ ap (λ (w : List ℕ). Some (w, c.1)) (sym ((bytes_eq-Decides (codes "sync") c.0).0 e))) (read ∙ word-sync c.0 c.1 e)
        go (inr e) (inl f) = IsFailure (read ∙ word-failure c.0 c.1 f)
        go (inr e) (inr f) =
            IsTrace (keep-trace-named bs short c is e (is-kept c.0 f))
            (λ d same. let it : c ≡ d = cc (sym is ∙ same) in subst (λ (x : List ℕ × List (List ℕ)). IsTraceWord x.0) it (e, is-kept c.0 f))

    at : (found : Option (List ℕ × List (List ℕ))) → command_in (fields_of bs) ≡ found → Cases bs
    at None is = IsTrace (keep-trace bs short None is (λ c e. absurd (let never : ⊥ = cc in never))) (λ c e. absurd (let never : ⊥ = cc (sym is ∙ e) in never))
    at (Some c) is = some-in c is

abbrev HasOf : List ℕ → KeepLine → Type 0
HasOf bs line = Spells (fields_of bs) (keep_parts line) × IsKeepLine line

-- the command of fields that begin with a word which isn't a comment
command-of : (fs : List (List ℕ)) (name : List ℕ) (others : List (List ℕ)) → fs ≡ name ∷ others → starts_with ◌==◌ name (codes "#") ≡ false → command_in fs ≡ Some (name, others)
command-of fs name others e plain = ap command_in e ∙ cond-false _ _ _ plain

-- a line of one array with such a word isn't one of a failure
keep-range : (bs : List ℕ) (line : Line) → Named bs IsTraceWord → Reads bs line → IsKeepLine (Trace line)
keep-range bs Empty words r = r.ranges
keep-range bs (Load a) words r = r.ranges
keep-range bs (Look a) words r = r.ranges
keep-range bs (Store a w) words r = r.ranges
keep-range bs Begin words r = r.ranges
keep-range bs (Put t a w) words r = r.ranges
keep-range bs (Commit t) words r = r.ranges
keep-range bs (Abort t) words r = r.ranges
keep-range bs Tick words r = r.ranges
keep-range bs Power words r = let no : true ≡ false = (words (codes "power", r.fields.0) (command-of (fields_of bs) (codes "power") r.fields.0 r.fields.1 refl)).1.power in absurd (let never : ⊥ = cc in never)
keep-range bs (Cut k g) words r = let no : true ≡ false = (words (codes "cut", r.fields.0) (command-of (fields_of bs) (codes "cut") r.fields.0 r.fields.1 refl)).1.cut in absurd (let never : ⊥ = cc in never)
keep-range bs (Bad k g) words r = let no : true ≡ false = (words (codes "bad", r.fields.0) (command-of (fields_of bs) (codes "bad") r.fields.0 r.fields.1 refl)).1.bad in absurd (let never : ⊥ = cc in never)
keep-range bs Stat words r = r.ranges

of-case : (bs : List ℕ) (line : KeepLine) → Cases bs → keep_line_of bs ≡ Ok line → HasOf bs line
of-case bs line (IsTrace read words) e =
    let a = made-ok Trace (line_of bs) line (sym read ∙ e) in
    let r = line-read bs a.0 a.1 in
    subst (λ (l : KeepLine). HasOf bs l) a.2 (r.fields, keep-range bs a.0 words r)
of-case bs line (IsSync fs is read) e =
    let a = none_ok Sync line fs (sym read ∙ e) in
    subst (λ (l : KeepLine). HasOf bs l) a.1 ((fs, of_command (fields_of bs) (codes "sync", fs) is, subst (λ (gs : List (List ℕ)). AllZip IsNumeralOf gs []) (sym a.0) tt), tt)
of-case bs line (IsFailure read) e = absurd (let never : ⊥ = cc (sym read ∙ e) in never)

pub keep-read : (bs : List ℕ) (line : KeepLine) → keep_line_of bs ≡ Ok line → ReadsKeep bs line
keep-read bs line e = go (cases_lt 120 (length bs))
  where
    go : (120 < length bs) ⊎ (length bs ≤ 120) → ReadsKeep bs line
    go (inl long) = let fault = keep-long bs long in absurd (let never : ⊥ = cc in never)
    go (inr short) = let h = of-case bs line (cases bs short) e in record { short = short; fields = h.0; ranges = h.1 }

abbrev all_false : {name : List ℕ} → bytes_eq (codes "power") name ≡ false → bytes_eq (codes "cut") name ≡ false → bytes_eq (codes "bad") name ≡ false → IsKept name
all_false p c b = record { power = p; cut = c; bad = b }

-- a line that is kept has none of the other words
trace-words : (bs : List ℕ) (line : Line) → length bs ≤ 120 → IsKeepLine (Trace line) → Spells (fields_of bs) (parts line) → Named bs IsTraceWord
trace-words bs Empty short r s c is = let no : None ≡ Some c = sym s ∙ is in absurd (let never : ⊥ = cc in never)
trace-words bs (Load a) short r s c is = same-word IsTraceWord bs c is (codes "load") s.0 s.1 refl (refl, all_false refl refl refl)
trace-words bs (Look a) short r s c is = same-word IsTraceWord bs c is (codes "look") s.0 s.1 refl (refl, all_false refl refl refl)
trace-words bs (Store a w) short r s c is = same-word IsTraceWord bs c is (codes "store") s.0 s.1 refl (refl, all_false refl refl refl)
trace-words bs Begin short r s c is = same-word IsTraceWord bs c is (codes "begin") s.0 s.1 refl (refl, all_false refl refl refl)
trace-words bs (Put t a w) short r s c is = same-word IsTraceWord bs c is (codes "put") s.0 s.1 refl (refl, all_false refl refl refl)
trace-words bs (Commit t) short r s c is = same-word IsTraceWord bs c is (codes "commit") s.0 s.1 refl (refl, all_false refl refl refl)
trace-words bs (Abort t) short r s c is = same-word IsTraceWord bs c is (codes "abort") s.0 s.1 refl (refl, all_false refl refl refl)
trace-words bs Tick short r s c is = same-word IsTraceWord bs c is (codes "tick") s.0 s.1 refl (refl, all_false refl refl refl)
trace-words bs Power short r s c is = absurd r
trace-words bs (Cut k g) short r s c is = absurd r
trace-words bs (Bad k g) short r s c is = absurd r
trace-words bs Stat short r s c is = same-word IsTraceWord bs c is (codes "stat") s.0 s.1 refl (refl, all_false refl refl refl)

pub is-line : (line : Line) → IsKeepLine (Trace line) → IsLine line
is-line Empty r = r
is-line (Load a) r = r
is-line (Look a) r = r
is-line (Store a w) r = r
is-line Begin r = r
is-line (Put t a w) r = r
is-line (Commit t) r = r
is-line (Abort t) r = r
is-line Tick r = r
is-line Power r = absurd r
is-line (Cut k g) r = absurd r
is-line (Bad k g) r = absurd r
is-line Stat r = r

pub keep-spelled : (bs : List ℕ) (line : KeepLine) → ReadsKeep bs line → keep_line_of bs ≡ Ok line
keep-spelled bs (Trace line) r =
    let e = line-spelled bs line (record { short = r.short; fields = r.fields; ranges = is-line line r.ranges }) in
    keep-trace bs r.short (command_in (fields_of bs)) refl (trace-words bs line r.short r.ranges r.fields) ∙ ap as_trace e
keep-spelled bs Sync r =
    keep-short bs r.short ∙ ap (λ (gs : List (List ℕ)). says (Trace Empty) keep_commands (command_in gs)) r.fields.1 ∙ none_read Sync r.fields.0 r.fields.2

long-case : (bs : List ℕ) → Cases bs → keep_line_of bs ≡ Err Long → length bs ≤ 120 → ⊥
long-case bs (IsTrace read words) e short = let long = long-only bs (made-long Trace (line_of bs) (sym read ∙ e)) in omega arith
long-case bs (IsSync fs is read) e short = no_numbers Sync fs (sym read ∙ e)
long-case bs (IsFailure read) e short = let never : ⊥ = cc (sym read ∙ e) in never

pub keep-long-only : (bs : List ℕ) → keep_line_of bs ≡ Err Long → 120 < length bs
keep-long-only bs e = go (cases_lt 120 (length bs))
  where
    go : (120 < length bs) ⊎ (length bs ≤ 120) → 120 < length bs
    go (inl long) = long
    go (inr short) = absurd (long-case bs (cases bs short) e short)

-- ---- the written form

pub record PrintsKeep (line : KeepLine) (bytes : List ℕ) : Type 0 where
  pub reads : ReadsKeep bytes line
  pub above : All (λ b. 32 ≤ b) bytes

printed-parts : (line : KeepLine) (w ns : List ℕ) → keep_parts line ≡ Some (w, ns) → HasForm (w, ns) → IsKeepLine line → PrintsKeep line (keep_line_bytes line)
unfolding keep_line_bytes
printed-parts line w ns e f is =
    let h = spells_written (w, ns) f in
    let fields = subst (λ (p : Option (List ℕ × List ℕ)). Spells (fields_of (written w ns)) p) (sym e) h.1 in
    subst (λ (p : Option (List ℕ × List ℕ)). PrintsKeep line (written_parts p)) (sym e)
    (record { reads = record { short = h.0; fields = fields; ranges = is }; above = h.2 })

pub prints-keep : (line : KeepLine) → IsKeepLine line → PrintsKeep line (keep_line_bytes line)
unfolding keep_line_bytes line_bytes
prints-keep (Trace line) is = let p = prints line (is-line line is) in let r = Prints.reads p in record { reads = record { short = r.short; fields = r.fields; ranges = is }; above = Prints.above p }
prints-keep Sync is = printed-parts Sync (codes "sync") [] refl (form (codes "sync") [] (omega arith) refl (omega arith) tt (omega arith)) is
