-- Lines by a table of commands, whatever the lines are: by their length and their command word, and exactly from their
-- spellings.
use Rattle.std.proofs.Common.{◌≡◌, ℕ, ◌<◌, ◌≤◌, Bool, true, false, cond, ◌==◌, List, [], ◌∷◌, length, find, map, codes, Option, None, Some, Result, Ok, Err, refl, sym, ap, ◌∙◌, subst, ◌⊎◌, inl, inr}
use Rattle.std.specs.List.{AllZip, AllByRecursion, starts_with}
use Rattle.std.specs.Str.{bytes_eq}
use Rattle.std.proofs.lemmas.Bool.{cond-true, cond-false, cases_lt, cases_Bool, lt-ltb, le-ltb}
use Rattle.std.proofs.lemmas.Slice.Eq.{bytes_eq-Decides}
use Rattle.envy_trace.specs.declared.bounds.Bounds.{Bounds}
use Rattle.envy_trace.specs.declared.fault.LineFault.{LineFault}
use Rattle.envy_trace.specs.declared.fault.LineFault.TheVariants.{Long, Word}
use Rattle.envy_trace.specs.Grammar.{Entry, ◌takes◌, ◌>>=◌, fields_of, command_in, says, look_up, read_by, none, one, two, three}
use Rattle.envy_trace.specs.Spelling.{IsNumeralOf, Spells}
use Rattle.envy_trace.proofs.Faults.{IsNotLong}
use Rattle.envy_trace.proofs.Numerals.{Fits, none_ok, one_ok, two_ok, three_ok}

-- By its length

pub by-long : {L : Type 0} (empty : L) (table : List (Entry L)) (bs : List ℕ) → 120 < length bs → read_by empty table bs ≡ Err Long
by-long empty table bs long = cond-true _ _ _ (lt-ltb 120 (length bs) long)

pub by-short : {L : Type 0} (empty : L) (table : List (Entry L)) (bs : List ℕ) → length bs ≤ 120 → read_by empty table bs ≡ says empty table (command_in (fields_of bs))
by-short empty table bs short = cond-false _ _ _ (le-ltb 120 (length bs) short)

-- what an entry reads isn't refused for its length
abbrev pub ReadsShort : {L : Type 0} → Entry L → Type 0
ReadsShort entry = (fs : List (List ℕ)) → IsNotLong (entry.read fs)

short_up : {L : Type 0} (table : List (Entry L)) → AllByRecursion ReadsShort table → (name : List ℕ) (fs : List (List ℕ)) → IsNotLong (look_up table name fs)
short_up [] all name fs e = let never : ⊥ = cc in never
short_up (entry ∷ table) all name fs e = go (bytes_eq entry.name name) (all.0 fs) (short_up table all.1 name fs) e
  where
    go : (v : Bool) → IsNotLong (entry.read fs) → IsNotLong (look_up table name fs) → IsNotLong (cond v (entry.read fs) (look_up table name fs))
    go true p q = p
    go false p q = q

said : {L : Type 0} (empty : L) (table : List (Entry L)) → AllByRecursion ReadsShort table → (found : Option (List ℕ × List (List ℕ))) → IsNotLong (says empty table found)
said empty table all None e = let never : ⊥ = cc in never
said empty table all (Some c) e = short_up table all c.0 c.1 e

-- nothing but its length makes a line too long
pub by-long-only : {L : Type 0} (empty : L) (table : List (Entry L)) → AllByRecursion ReadsShort table → (bs : List ℕ) → read_by empty table bs ≡ Err Long → 120 < length bs
by-long-only empty table all bs e = go (cases_lt 120 (length bs))
  where
    go : (120 < length bs) ⊎ (length bs ≤ 120) → 120 < length bs
    go (inl long) = long
    go (inr short) = absurd (said empty table all (command_in (fields_of bs)) (sym (by-short empty table bs short) ∙ e))

-- By its command word

-- a word that names no command stands in no row of the table
pub by-none : {L K : Type 0} (name_of : K → List ℕ) (name : List ℕ) (others : List (List ℕ)) (rows : List (Entry L)) (known : List K) → AllZip (λ (row : Entry L) (k : K). row.name ≡ name_of k) rows known → find (λ k. bytes_eq (name_of k) name) known ≡ None → look_up rows name others ≡ Err Word
by-none name_of name others [] [] same none = refl
by-none name_of name others [] (k ∷ known) same none = absurd same
by-none name_of name others (row ∷ rows) [] same none = absurd same
by-none {L} {K} name_of name others (row ∷ rows) (k ∷ known) same none = go (bytes_eq (name_of k) name) refl (λ h. by-none name_of name others rows known same.1 h)
  where
    go : (v : Bool) → bytes_eq (name_of k) name ≡ v → (find (λ (j : K). bytes_eq (name_of j) name) known ≡ None → look_up rows name others ≡ Err Word) → look_up (row ∷ rows) name others ≡ Err Word
    go true e more = absurd (let never : ⊥ = cc (cond-true _ (Some k) (find (λ (j : K). bytes_eq (name_of j) name) known) e) in never)
    go false e more = cond-false _ _ _ (ap (λ w. bytes_eq w name) same.0 ∙ e) ∙ more (sym (cond-false _ (Some k) _ e) ∙ none)

-- a word that names a command is its word
pub by-some : {K : Type 0} (name_of : K → List ℕ) (name : List ℕ) (known : List K) (k : K) → find (λ j. bytes_eq (name_of j) name) known ≡ Some k → name ≡ name_of k
by-some name_of name [] k some = absurd (let never : ⊥ = cc in never)
by-some {K} name_of name (j ∷ known) k some = go (bytes_eq (name_of j) name) refl (λ h. by-some name_of name known k h)
  where
    go : (v : Bool) → bytes_eq (name_of j) name ≡ v → (find (λ (i : K). bytes_eq (name_of i) name) known ≡ Some k → name ≡ name_of k) → name ≡ name_of k
    go true e more =
        let found = sym (cond-true _ (Some j) (find (λ (i : K). bytes_eq (name_of i) name) known) e) ∙ some in
        let same : j ≡ k = cc in
        sym ((bytes_eq-Decides (name_of j) name).0 e) ∙ ap name_of same
    go false e more = more (sym (cond-false _ (Some j) _ e) ∙ some)

-- a comparison of bytes does not depend on which side is first
pub eq-flip : (a b : List ℕ) → bytes_eq a b ≡ bytes_eq b a
eq-flip a b = at (cases_Bool (bytes_eq a b)) (cases_Bool (bytes_eq b a))
  where
    at : (bytes_eq a b ≡ true) ⊎ (bytes_eq a b ≡ false) → (bytes_eq b a ≡ true) ⊎ (bytes_eq b a ≡ false) → bytes_eq a b ≡ bytes_eq b a
    at (inl e) f = let same = (bytes_eq-Decides a b).0 e in rw same refl
    at (inr e) (inr f) = e ∙ sym f
    at (inr e) (inl f) = let same = (bytes_eq-Decides b a).0 f in rw same refl

-- a comparison that the code made, of a word that stands first
pub is-word : (name word slice : List ℕ) (r v : Bool) → r ≡ bytes_eq name slice → slice ≡ word → r ≡ v → bytes_eq word name ≡ v
is-word name word slice r v e same is = eq-flip word name ∙ ap (bytes_eq name) (sym same) ∙ sym e ∙ is

-- the fields of a line that isn't empty
pub of_command : (fs : List (List ℕ)) (c : List ℕ × List (List ℕ)) → command_in fs ≡ Some c → fs ≡ c.0 ∷ c.1
of_command [] c e = absurd (let never : ⊥ = cc in never)
of_command (f ∷ fs) c e = go (starts_with ◌==◌ f (codes "#")) e
  where
    go : (v : Bool) → cond v None (Some (f, fs)) ≡ Some c → f ∷ fs ≡ c.0 ∷ c.1
    go true h = absurd (let never : ⊥ = cc in never)
    go false h = let same : (f, fs) ≡ c = cc in ap (λ (p : List ℕ × List (List ℕ)). p.0 ∷ p.1) same

-- the command of fields that begin with a word which isn't a comment is that word
pub same-word : (P : List ℕ → Type 0) (bs : List ℕ) (c : List ℕ × List (List ℕ)) → command_in (fields_of bs) ≡ Some c → (name : List ℕ) (others : List (List ℕ)) → fields_of bs ≡ name ∷ others → starts_with ◌==◌ name (codes "#") ≡ false → P name → P c.0
same-word P bs c is name others fields plain word =
    let found : command_in (name ∷ others) ≡ Some c = subst (λ (fs : List (List ℕ)). command_in fs ≡ Some c) fields is in
    let some : Some (name, others) ≡ Some c = sym (cond-false _ _ _ plain) ∙ found in
    let same : (name, others) ≡ c = cc in
    subst (λ (d : List ℕ × List (List ℕ)). P d.0) same word

-- What was read, made a line of another kind

abbrev pub made_as : {L M : Type 0} → (L → M) → Result L LineFault → Result M LineFault
made_as make r = r >>= λ line. Ok (make line)

abbrev pub entry_as : {L M : Type 0} → (L → M) → Entry L → Entry M
entry_as make entry = entry.name takes (λ fields. made_as make (entry.read fields))

pub look-up-as : {L M : Type 0} (make : L → M) (table : List (Entry L)) (name : List ℕ) (fs : List (List ℕ)) → look_up (map (entry_as make) table) name fs ≡ made_as make (look_up table name fs)
look-up-as make [] name fs = refl
look-up-as make (entry ∷ table) name fs = at (bytes_eq entry.name name) (look-up-as make table name fs)
  where
    at : (b : Bool) → look_up (map (entry_as make) table) name fs ≡ made_as make (look_up table name fs) → cond b (made_as make (entry.read fs)) (look_up (map (entry_as make) table) name fs) ≡ made_as make (cond b (entry.read fs) (look_up table name fs))
    at true rest = refl
    at false rest = rest

pub made-ok : {L M : Type 0} (make : L → M) (r : Result L LineFault) (line : M) → made_as make r ≡ Ok line → (x : L) × (r ≡ Ok x) × (make x ≡ line)
made-ok make (Ok x) line e = (x, refl, cc)
made-ok make (Err fault) line e = absurd (let never : ⊥ = cc in never)

pub made-long : {L M : Type 0} (make : L → M) (r : Result L LineFault) → made_as make r ≡ Err Long → r ≡ Err Long
made-long make (Ok x) e = absurd (let never : ⊥ = cc in never)
made-long make (Err fault) e = let same : fault ≡ Long = cc in ap (λ (f : LineFault). Err f) same

-- a command without numbers, and what is made of it
pub none-as : {M : Type 0} (line : M) (fs : List (List ℕ)) → none line fs ≡ made_as (λ u. line) (none {L = Unit {0}} tt fs)
none-as line [] = refl
none-as line (f ∷ fs) = refl

-- From what was read to its spelling

pub fits : (r : Bounds) (n : ℕ) → r.least ≤ n → n ≤ r.greatest → Fits r n
fits r n low high = record { low = low; high = high }

-- the fields of a command word and what follows it spell the line
pub record Says {L : Type 0} (parts : L → Option (List ℕ × List ℕ)) (IsLine : L → Type 0) (name : List ℕ) (fs : List (List ℕ)) (line : L) : Type 0 where
  pub numbers : List ℕ
  pub spells : parts line ≡ Some (name, numbers)
  pub numerals : AllZip IsNumeralOf fs numbers
  pub ranges : IsLine line

abbrev pub SaysSo : {L : Type 0} → (L → Option (List ℕ × List ℕ)) → (L → Type 0) → Entry L → Type 0
SaysSo {L} parts IsLine row = (fs : List (List ℕ)) (line : L) → row.read fs ≡ Ok line → Says parts IsLine row.name fs line

module _ {L : Type 0} (parts : L → Option (List ℕ × List ℕ)) (IsLine : L → Type 0) where
  pub row_none : (name : List ℕ) (made : L) → (parts made ≡ Some (name, [])) × IsLine made → SaysSo parts IsLine (record { name = name; read = none made })
  row_none name made is fs line e =
      let h = none_ok made line fs e in
      subst (λ (l : L). Says parts IsLine name fs l) h.1
      (record { numbers = []; spells = is.0; numerals = subst (λ (gs : List (List ℕ)). AllZip IsNumeralOf gs []) (sym h.0) tt; ranges = is.1 })

  pub row_one : (name : List ℕ) (r : Bounds) (make : ℕ → L) → ((x : ℕ) → Fits r x → (parts (make x) ≡ Some (name, x ∷ [])) × IsLine (make x)) → SaysSo parts IsLine (record { name = name; read = one r make })
  row_one name r make is fs line e =
      let h = one_ok r make line fs e in
      let m = is h.x h.fits in
      subst (λ (l : L). Says parts IsLine name fs l) h.made (record { numbers = h.x ∷ []; spells = m.0; numerals = h.numerals; ranges = m.1 })

  pub row_two : (name : List ℕ) (r s : Bounds) (make : ℕ → ℕ → L) → ((x y : ℕ) → Fits r x → Fits s y → (parts (make x y) ≡ Some (name, x ∷ y ∷ [])) × IsLine (make x y)) → SaysSo parts IsLine (record { name = name; read = two r s make })
  row_two name r s make is fs line e =
      let h = two_ok r s make line fs e in
      let m = is h.x h.y h.fits h.fits_too in
      subst (λ (l : L). Says parts IsLine name fs l) h.made (record { numbers = h.x ∷ h.y ∷ []; spells = m.0; numerals = h.numerals; ranges = m.1 })

  pub row_three : (name : List ℕ) (r s t : Bounds) (make : ℕ → ℕ → ℕ → L) → ((x y z : ℕ) → Fits r x → Fits s y → Fits t z → (parts (make x y z) ≡ Some (name, x ∷ y ∷ z ∷ [])) × IsLine (make x y z)) → SaysSo parts IsLine (record { name = name; read = three r s t make })
  row_three name r s t make is fs line e =
      let h = three_ok r s t make line fs e in
      let m = is h.x h.y h.z h.fits h.fits_too h.fits_last in
      subst (λ (l : L). Says parts IsLine name fs l) h.made (record { numbers = h.x ∷ h.y ∷ h.z ∷ []; spells = m.0; numerals = h.numerals; ranges = m.1 })

  says_up : (table : List (Entry L)) → AllByRecursion (SaysSo parts IsLine) table → (name : List ℕ) (fs : List (List ℕ)) (line : L) → look_up table name fs ≡ Ok line → Says parts IsLine name fs line
  says_up [] all name fs line e = absurd (let never : ⊥ = cc in never)
  says_up (row ∷ table) all name fs line e = go (bytes_eq row.name name) refl (λ h. says_up table all.1 name fs line h)
    where
      go : (v : Bool) → bytes_eq row.name name ≡ v → (look_up table name fs ≡ Ok line → Says parts IsLine name fs line) → Says parts IsLine name fs line
      go true same more = subst (λ (w : List ℕ). Says parts IsLine w fs line) ((bytes_eq-Decides row.name name).0 same) (all.0 fs line (sym (cond-true _ _ _ same) ∙ e))
      go false other more = more (sym (cond-false _ _ _ other) ∙ e)

  pub read_spells : (empty : L) (table : List (Entry L)) → AllByRecursion (SaysSo parts IsLine) table → parts empty ≡ None → IsLine empty → (fs : List (List ℕ)) (line : L) → says empty table (command_in fs) ≡ Ok line → Spells fs (parts line) × IsLine line
  read_spells empty table all blank is_line fs line = go (command_in fs) refl
    where
      go : (found : Option (List ℕ × List (List ℕ))) → command_in fs ≡ found → says empty table found ≡ Ok line → Spells fs (parts line) × IsLine line
      go None is e =
          let same : empty ≡ line = cc in
          subst (λ (l : L). Spells fs (parts l) × IsLine l) same (subst (λ (p : Option (List ℕ × List ℕ)). Spells fs p) (sym blank) is, is_line)
      go (Some c) is e =
          let h = says_up table all c.0 c.1 line e in
          (subst (λ (p : Option (List ℕ × List ℕ)). Spells fs p) (sym h.spells) (c.1, of_command fs c is, h.numerals), h.ranges)

  -- the line, by its length, its fields and its ranges
  pub by-read : (empty : L) (table : List (Entry L)) → AllByRecursion (SaysSo parts IsLine) table → parts empty ≡ None → IsLine empty → (bs : List ℕ) (line : L) → read_by empty table bs ≡ Ok line → (length bs ≤ 120) × Spells (fields_of bs) (parts line) × IsLine line
  by-read empty table all blank is_line bs line e = go (cases_lt 120 (length bs))
    where
      go : (120 < length bs) ⊎ (length bs ≤ 120) → (length bs ≤ 120) × Spells (fields_of bs) (parts line) × IsLine line
      go (inl long) = let fault = by-long empty table bs long in absurd (let never : ⊥ = cc in never)
      go (inr short) =
          let h = read_spells empty table all blank is_line (fields_of bs) line (sym (by-short empty table bs short) ∙ e) in
          (short, h.0, h.1)
