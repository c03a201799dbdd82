-- Options that are known have values of their own where each of the names can be read.
use Rattle.std.proofs.Common.{◌≡◌, ◌∙◌, Bool, true, false, not, ◌||◌, ap, sym, refl, subst, List, [], ◌∷◌, None, true≢false}
use Rattle.std.specs.Option.{option_map_or}
use Rattle.std.specs.Str.{bytes_eq}
use Rattle.std.proofs.lemmas.Bool.{and_from, and_parts, false_from_ne_true, not-true, or_parts}
use Rattle.std.proofs.lemmas.Slice.Eq.{bytes_eq-Decides}
use Rattle.envy_args.specs.Words.{Options, Text, are_known, has, have_values, is_value, value_of}
use Rattle.envy_args.specs.Reading.{are_readable, is_readable}
use Rattle.envy_args.proofs.Finds.{is_among, same}

other-way : (a b : Text) → bytes_eq a b ≡ false → bytes_eq b a ≡ false
other-way a b e = false_from_ne_true _ (λ is. true≢false (sym ((bytes_eq-Decides a b).1 (sym (same b a is))) ∙ e))

-- ---- each that is given can be read

one-readable : (name : Text) (o : Options) → have_values o ≡ true → is_readable o name ≡ true
one-readable name [] valued = refl
one-readable name (x ∷ o) valued =
    let parts = and_parts (is_value x.0 x.1) _ valued in go (bytes_eq x.0 name) refl parts.0 (one-readable name o parts.1)
  where
    go : (b : Bool) → bytes_eq x.0 name ≡ b → is_value x.0 x.1 ≡ true → is_readable o name ≡ true → is_readable (x ∷ o) name ≡ true
    go true is here others = rw is (ap (λ n. is_value n x.1) (sym (same x.0 name is)) ∙ here)
    go false is here others = rw is others

pub all-readable : (names : List Text) (o : Options) → have_values o ≡ true → are_readable names o ≡ true
all-readable [] o valued = refl
all-readable (n ∷ names) o valued = and_from (is_readable o n) _ (one-readable n o valued) (all-readable names o valued)

-- ---- and the other way round

absent : (name : Text) (o : Options) → has name o ≡ false → value_of o name ≡ None
absent name [] e = refl
absent name (x ∷ o) e =
    let parts = or_parts (bytes_eq name x.0) _ e in
    rw (other-way name x.0 parts.0) (absent name o parts.1)

-- an option that is given once leaves the others as they are
other-readable : (name : Text) (x : Text × Text) (o : Options) → has x.0 o ≡ false → is_readable (x ∷ o) name ≡ true → is_readable o name ≡ true
other-readable name x o once readable = go (bytes_eq x.0 name) refl
  where
    go : (b : Bool) → bytes_eq x.0 name ≡ b → is_readable o name ≡ true
    go true is =
        let none = absent name o (subst (λ (n : Text). has n o ≡ false) (same x.0 name is) once) in
        ap (λ v. option_map_or (is_value name) v true) none
    go false is = rw is at readable

others-readable : (names : List Text) (x : Text × Text) (o : Options) → has x.0 o ≡ false → are_readable names (x ∷ o) ≡ true → are_readable names o ≡ true
others-readable [] x o once e = refl
others-readable (n ∷ names) x o once e =
    let parts = and_parts (is_readable (x ∷ o) n) _ e in
    and_from (is_readable o n) _ (other-readable n x o once parts.0) (others-readable names x o once parts.1)

first-valued : (names : List Text) (x : Text × Text) (o : Options) → is_among x.0 names ≡ true → are_readable names (x ∷ o) ≡ true → is_value x.0 x.1 ≡ true
first-valued [] x o among e = absurd (true≢false (sym among))
first-valued (n ∷ names) x o among e =
    let parts = and_parts (is_readable (x ∷ o) n) _ e in go (bytes_eq n x.0) refl parts.0 (λ others. first-valued names x o others parts.1)
  where
    go : (b : Bool) → bytes_eq n x.0 ≡ b → is_readable (x ∷ o) n ≡ true → (is_among x.0 names ≡ true → is_value x.0 x.1 ≡ true) → is_value x.0 x.1 ≡ true
    go true is here others =
        let itself : bytes_eq x.0 x.0 ≡ true = (bytes_eq-Decides x.0 x.0).1 refl in
        let there : is_readable (x ∷ o) x.0 ≡ true = ap (is_readable (x ∷ o)) (sym (same n x.0 is)) ∙ here in
        rw itself at there
    go false is here others = others (sym (ap (λ b. b || is_among x.0 names) is) ∙ among)

pub have-values : (names : List Text) (o : Options) → are_known names o ≡ true → are_readable names o ≡ true → have_values o ≡ true
unfolding are_known
have-values names [] known e = refl
have-values names (x ∷ o) known e =
    let parts = and_parts (is_among x.0 names) _ known in
    let others = and_parts (not (has x.0 o)) _ parts.1 in
    let once = not-true (has x.0 o) others.0 in
    and_from (is_value x.0 x.1) _ (first-valued names x o parts.0 e) (have-values names o others.1 (others-readable names x o once e))
