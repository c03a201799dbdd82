-- Lines of a trace for a pair of boards: by their command words, and exactly from their spellings.
use Rattle.std.proofs.Common.{◌≡◌, ℕ, ◌<◌, ◌≤◌, true, false, List, [], ◌∷◌, length, codes, Option, None, Some, Result, Ok, Err, refl, sym, ap, ◌∙◌, subst, ◌⊎◌, inl, inr, arith}
use Rattle.std.specs.List.{AllZip, All}
use Rattle.std.specs.Str.{bytes_eq}
use Rattle.std.proofs.lemmas.Bool.{cond-true, cond-false, cases_lt, cases_Bool}
use Rattle.std.proofs.lemmas.Slice.Eq.{bytes_eq-Decides}
use Rattle.envy_trace.specs.declared.fault.LineFault.{LineFault}
use Rattle.envy_trace.specs.declared.fault.LineFault.TheVariants.{Long}
use Rattle.envy_trace.specs.declared.line.Line.{Line}
use Rattle.envy_trace.specs.declared.line.Line.TheVariants.{Empty, Load, Look, Store, Begin, Put, Commit, Abort, Tick, Power, Cut, Bad, Stat}
use Rattle.envy_trace.specs.declared.mirror_line.MirrorLine.{MirrorLine}
use Rattle.envy_trace.specs.declared.mirror_line.MirrorLine.TheVariants.{Array, Side, Catch}
use Rattle.envy_trace.specs.Grammar.{◌>>=◌, line_of, fields_of, command_in, says, look_up, commands, number_in, none, one}
use Rattle.envy_trace.specs.Mirror.{side, mirror_commands, mirror_line_of, mirror_parts, mirror_line_bytes, IsMirrorLine, ReadsMirror}
use Rattle.envy_trace.specs.Spelling.{parts, IsNumeralOf, Spells, line_bytes, written, written_parts}
use Rattle.envy_trace.proofs.Faults.{no_numbers, one_number}
use Rattle.envy_trace.proofs.Written.{HasForm, Prints, form, spells_written, prints}
use Rattle.envy_trace.proofs.Lines.{line-short, long-only}
use Rattle.envy_trace.proofs.Tables.{by-long, by-short, look-up-as, made_as, made-ok, made-long, of_command, same-word}
use Rattle.envy_trace.proofs.Numerals.{Fits, none_ok, one_ok, none_read, one_read}
use Rattle.envy_trace.proofs.Readings.{line-read, line-spelled}

-- a line of one array, as one of the pair
abbrev pub as_array : Result Line LineFault → Result MirrorLine LineFault
as_array = made_as Array

pub mirror-long : (bs : List ℕ) → 120 < length bs → mirror_line_of bs ≡ Err Long
unfolding mirror_line_of
mirror-long = by-long (Array Empty) mirror_commands

pub mirror-short : (bs : List ℕ) → length bs ≤ 120 → mirror_line_of bs ≡ says (Array Empty) mirror_commands (command_in (fields_of bs))
unfolding mirror_line_of
mirror-short = by-short (Array Empty) mirror_commands

pub word-side : (name : List ℕ) (fs : List (List ℕ)) → bytes_eq (codes "side") name ≡ true → look_up mirror_commands name fs ≡ one side Side fs
word-side name fs e = cond-true _ _ _ e

pub word-catch : (name : List ℕ) (fs : List (List ℕ)) → bytes_eq (codes "side") name ≡ false → bytes_eq (codes "catch") name ≡ true → look_up mirror_commands name fs ≡ none Catch fs
word-catch name fs e f = cond-false _ _ _ e ∙ cond-true _ _ _ f

pub word-array : (name : List ℕ) (fs : List (List ℕ)) → bytes_eq (codes "side") name ≡ false → bytes_eq (codes "catch") name ≡ false → look_up mirror_commands name fs ≡ as_array (look_up commands name fs)
word-array name fs e f = cond-false _ _ _ e ∙ cond-false _ _ _ f ∙ look-up-as Array commands name fs

-- ---- both ways

abbrev IsArrayWord : List ℕ → Type 0
IsArrayWord name = (bytes_eq (codes "side") name ≡ false) × (bytes_eq (codes "catch") name ≡ false)

-- a line of one array reads as before
pub mirror-array : (bs : List ℕ) → length bs ≤ 120 → (found : Option (List ℕ × List (List ℕ))) → command_in (fields_of bs) ≡ found → ((c : List ℕ × List (List ℕ)) → found ≡ Some c → IsArrayWord c.0) → mirror_line_of bs ≡ as_array (line_of bs)
mirror-array bs short None is words =
    mirror-short bs short ∙ ap (says (Array Empty) mirror_commands) is ∙ ap as_array (sym (line-short bs short ∙ ap (says Empty commands) is))
mirror-array bs short (Some c) is words =
    let w = words c refl in
    mirror-short bs short ∙ ap (says (Array Empty) mirror_commands) is ∙ word-array c.0 c.1 w.0 w.1 ∙ ap as_array (sym (line-short bs short ∙ ap (says Empty commands) is))

pub mirror-array-named : (bs : List ℕ) → length bs ≤ 120 → (c : List ℕ × List (List ℕ)) → command_in (fields_of bs) ≡ Some c → bytes_eq (codes "side") c.0 ≡ false → bytes_eq (codes "catch") c.0 ≡ false → mirror_line_of bs ≡ as_array (line_of bs)
mirror-array-named bs short c is e f = mirror-array bs short (Some c) is (λ d same. let it : c ≡ d = cc in subst (λ (x : List ℕ × List (List ℕ)). IsArrayWord x.0) it (e, f))

pub data Cases (bs : List ℕ) : Type 0 where
  IsArray : mirror_line_of bs ≡ as_array (line_of bs) → Cases bs
  IsSide : (fs : List (List ℕ)) → command_in (fields_of bs) ≡ Some (codes "side", fs) → mirror_line_of bs ≡ one side Side fs → Cases bs
  IsCatch : (fs : List (List ℕ)) → command_in (fields_of bs) ≡ Some (codes "catch", fs) → mirror_line_of bs ≡ none Catch fs → Cases bs

none-in : (bs : List ℕ) → length bs ≤ 120 → command_in (fields_of bs) ≡ None → Cases bs
none-in bs short is = IsArray (mirror-array bs short None is (λ c e. absurd (let never : ⊥ = cc in never)))

some-in : (bs : List ℕ) → length bs ≤ 120 → (c : List ℕ × List (List ℕ)) → command_in (fields_of bs) ≡ Some c → Cases bs
some-in bs short c is = at (cases_Bool (bytes_eq (codes "side") c.0)) (cases_Bool (bytes_eq (codes "catch") c.0))
  where
    read : mirror_line_of bs ≡ look_up mirror_commands c.0 c.1
    read = mirror-short bs short ∙ ap (says (Array Empty) mirror_commands) is

    at : (bytes_eq (codes "side") c.0 ≡ true) ⊎ (bytes_eq (codes "side") c.0 ≡ false) → (bytes_eq (codes "catch") c.0 ≡ true) ⊎ (bytes_eq (codes "catch") c.0 ≡ false) → Cases bs
    at (inl e) f = IsSide c.1 (is ∙ ap (λ (w : List ℕ). Some (w, c.1)) (sym ((bytes_eq-Decides (codes "side") c.0).0 e))) (read ∙ word-side c.0 c.1 e)
    at (inr e) (inl f) = IsCatch c.1 (is ∙ ap (λ (w : List ℕ). Some (w, c.1)) (sym ((bytes_eq-Decides (codes "catch") c.0).0 f))) (read ∙ word-catch c.0 c.1 e f)
    at (inr e) (inr f) = IsArray (mirror-array bs short (Some c) is (λ d same. let it : c ≡ d = cc in subst (λ (x : List ℕ × List (List ℕ)). IsArrayWord x.0) it (e, f)))

pub cases : (bs : List ℕ) → length bs ≤ 120 → Cases bs
cases bs short = at (command_in (fields_of bs)) refl
  where
    at : (found : Option (List ℕ × List (List ℕ))) → command_in (fields_of bs) ≡ found → Cases bs
    at None is = none-in bs short is
    at (Some c) is = some-in bs short c is

abbrev HasOf : List ℕ → MirrorLine → Type 0
HasOf bs line = Spells (fields_of bs) (mirror_parts line) × IsMirrorLine line

of-case : (bs : List ℕ) (line : MirrorLine) → Cases bs → mirror_line_of bs ≡ Ok line → HasOf bs line
of-case bs line (IsArray read) e =
    let a = made-ok Array (line_of bs) line (sym read ∙ e) in
    let r = line-read bs a.0 a.1 in
    subst (λ (l : MirrorLine). HasOf bs l) a.2 (r.fields, r.ranges)
of-case bs line (IsSide fs is read) e =
    let a = one_ok side Side line fs (sym read ∙ e) in
    subst (λ (l : MirrorLine). HasOf bs l) a.made ((fs, of_command (fields_of bs) (codes "side", fs) is, a.numerals), Fits.high a.fits)
of-case bs line (IsCatch fs is read) e =
    let a = none_ok Catch line fs (sym read ∙ e) in
    subst (λ (l : MirrorLine). HasOf bs l) a.1 ((fs, of_command (fields_of bs) (codes "catch", fs) is, subst (λ (gs : List (List ℕ)). AllZip IsNumeralOf gs []) (sym a.0) tt), tt)

pub mirror-read : (bs : List ℕ) (line : MirrorLine) → mirror_line_of bs ≡ Ok line → ReadsMirror bs line
mirror-read bs line e = go (cases_lt 120 (length bs))
  where
    go : (120 < length bs) ⊎ (length bs ≤ 120) → ReadsMirror bs line
    go (inl long) = let fault = mirror-long bs long in absurd (let never : ⊥ = cc in never)
    go (inr short) = let h = of-case bs line (cases bs short) e in record { short = short; fields = h.0; ranges = h.1 }

-- a number that is read, and what is made of it
bind-as : {A B : Type 0} (r : Result A LineFault) (make : A → B) → (r >>= λ x. Ok (make x)) ≡ ((r >>= λ x. Ok x) >>= λ x. Ok (make x))
bind-as (Ok x) make = refl
bind-as (Err fault) make = refl

pub one-as : (fs : List (List ℕ)) → one side Side fs ≡ (one side (λ x. x) fs >>= λ x. Ok (Side x))
one-as [] = refl
one-as (f ∷ []) = bind-as (number_in side f) Side
one-as (f ∷ g ∷ fs) = refl

-- a line of one array is none of the two others
array-words : (bs : List ℕ) (line : Line) → length bs ≤ 120 → Spells (fields_of bs) (parts line) → (c : List ℕ × List (List ℕ)) → command_in (fields_of bs) ≡ Some c → IsArrayWord c.0
array-words bs Empty short s c is = let no : None ≡ Some c = sym s ∙ is in absurd (let never : ⊥ = cc in never)
array-words bs (Load a) short s c is = same-word IsArrayWord bs c is (codes "load") s.0 s.1 refl (refl, refl)
array-words bs (Look a) short s c is = same-word IsArrayWord bs c is (codes "look") s.0 s.1 refl (refl, refl)
array-words bs (Store a w) short s c is = same-word IsArrayWord bs c is (codes "store") s.0 s.1 refl (refl, refl)
array-words bs Begin short s c is = same-word IsArrayWord bs c is (codes "begin") s.0 s.1 refl (refl, refl)
array-words bs (Put t a w) short s c is = same-word IsArrayWord bs c is (codes "put") s.0 s.1 refl (refl, refl)
array-words bs (Commit t) short s c is = same-word IsArrayWord bs c is (codes "commit") s.0 s.1 refl (refl, refl)
array-words bs (Abort t) short s c is = same-word IsArrayWord bs c is (codes "abort") s.0 s.1 refl (refl, refl)
array-words bs Tick short s c is = same-word IsArrayWord bs c is (codes "tick") s.0 s.1 refl (refl, refl)
array-words bs Power short s c is = same-word IsArrayWord bs c is (codes "power") s.0 s.1 refl (refl, refl)
array-words bs (Cut k g) short s c is = same-word IsArrayWord bs c is (codes "cut") s.0 s.1 refl (refl, refl)
array-words bs (Bad k g) short s c is = same-word IsArrayWord bs c is (codes "bad") s.0 s.1 refl (refl, refl)
array-words bs Stat short s c is = same-word IsArrayWord bs c is (codes "stat") s.0 s.1 refl (refl, refl)

pub mirror-spelled : (bs : List ℕ) (line : MirrorLine) → ReadsMirror bs line → mirror_line_of bs ≡ Ok line
mirror-spelled bs (Array line) r =
    let e = line-spelled bs line (record { short = r.short; fields = r.fields; ranges = r.ranges }) in
    mirror-array bs r.short (command_in (fields_of bs)) refl (array-words bs line r.short r.fields) ∙ ap as_array e
mirror-spelled bs (Side s) r =
    mirror-short bs r.short ∙ ap (λ (gs : List (List ℕ)). says (Array Empty) mirror_commands (command_in gs)) r.fields.1 ∙ one_read side Side r.fields.0 s (record { low = omega arith; high = r.ranges }) r.fields.2
mirror-spelled bs Catch r =
    mirror-short bs r.short ∙ ap (λ (gs : List (List ℕ)). says (Array Empty) mirror_commands (command_in gs)) r.fields.1 ∙ none_read Catch r.fields.0 r.fields.2

long-case : (bs : List ℕ) → Cases bs → mirror_line_of bs ≡ Err Long → length bs ≤ 120 → ⊥
long-case bs (IsArray read) e short = let long = long-only bs (made-long Array (line_of bs) (sym read ∙ e)) in omega arith
long-case bs (IsSide fs is read) e short = one_number side Side fs (sym read ∙ e)
long-case bs (IsCatch fs is read) e short = no_numbers Catch fs (sym read ∙ e)

pub mirror-long-only : (bs : List ℕ) → mirror_line_of bs ≡ Err Long → 120 < length bs
mirror-long-only bs e = go (cases_lt 120 (length bs))
  where
    go : (120 < length bs) ⊎ (length bs ≤ 120) → 120 < length bs
    go (inl long) = long
    go (inr short) = absurd (long-case bs (cases bs short) e short)

-- ---- the written form

pub record PrintsMirror (line : MirrorLine) (bytes : List ℕ) : Type 0 where
  pub reads : ReadsMirror bytes line
  pub above : All (λ b. 32 ≤ b) bytes

printed-parts : (line : MirrorLine) (w ns : List ℕ) → mirror_parts line ≡ Some (w, ns) → HasForm (w, ns) → IsMirrorLine line → PrintsMirror line (mirror_line_bytes line)
unfolding mirror_line_bytes
printed-parts line w ns e f is =
    let h = spells_written (w, ns) f in
    let fields = subst (λ (p : Option (List ℕ × List ℕ)). Spells (fields_of (written w ns)) p) (sym e) h.1 in
    subst (λ (p : Option (List ℕ × List ℕ)). PrintsMirror line (written_parts p)) (sym e)
    (record { reads = record { short = h.0; fields = fields; ranges = is }; above = h.2 })

pub prints-mirror : (line : MirrorLine) → IsMirrorLine line → PrintsMirror line (mirror_line_bytes line)
unfolding mirror_line_bytes line_bytes
prints-mirror (Array line) is = let p = prints line is in let r = Prints.reads p in record { reads = record { short = r.short; fields = r.fields; ranges = is }; above = Prints.above p }
prints-mirror (Side s) is = printed-parts (Side s) (codes "side") (s ∷ []) refl (form (codes "side") (s ∷ []) (omega arith) refl (omega arith) (omega arith, tt) (omega arith)) is
prints-mirror Catch is = printed-parts Catch (codes "catch") [] refl (form (codes "catch") [] (omega arith) refl (omega arith) tt (omega arith)) is
