-- Which numerals a field may have, and how many fields a command has.
use Rattle.std.proofs.Common.{◌≡◌, ℕ, ◌≤◌, Bool, true, false, cond, ◌&&◌, List, [], ◌∷◌, length, Result, Ok, Err, nat_lt, nat_le, refl, sym, ap, ◌∙◌, subst, arith}
use Rattle.std.specs.List.{AllZip}
use Rattle.std.specs.Cmp.Derive.{both_true}
use Rattle.std.specs.Str.{all_ascii_digits}
use Rattle.std.specs.Str.Parse.{digits_value}
use Rattle.std.proofs.lemmas.Bool.{cond-true, lt-ltb, ltb-true}
use Rattle.std.proofs.lemmas.Bool.Decides.{nat_tests}
use Rattle.envy_trace.specs.declared.bounds.Bounds.{Bounds}
use Rattle.envy_trace.specs.declared.fault.LineFault.{LineFault}
use Rattle.envy_trace.specs.declared.fault.LineFault.TheVariants.{Number}
use Rattle.envy_trace.specs.Grammar.{number_in, lies_in, ◌>>=◌, none, one, two, three}
use Rattle.envy_trace.specs.Spelling.{IsNumeralOf}
use Rattle.envy_trace.proofs.Digits.{own}

pub record Fits (b : Bounds) (n : ℕ) : Type 0 where
  pub low : b.least ≤ n
  pub high : n ≤ b.greatest

pub both : (x y : Bool) → (x && y) ≡ true → (x ≡ true) × (y ≡ true)
both true y e = (refl, e)
both false y e = absurd (let never : ⊥ = cc in never)

chosen : (t : Bool) (v n : ℕ) → ◌≡◌ {A = Result ℕ LineFault} (cond t (Ok v) (Err Number)) (Ok n) → (t ≡ true) × (v ≡ n)
chosen true v n e = (refl, cc)
chosen false v n e = absurd (let never : ⊥ = cc in never)

pub number_ok : (b : Bounds) (f : List ℕ) (n : ℕ) → number_in b f ≡ Ok n → IsNumeralOf f n × Fits b n
number_ok b f n e =
    let v = digits_value 10 f in
    let got = chosen (nat_lt 0 (length f) && all_ascii_digits f && lies_in b v) v n e in
    let split = both (nat_lt 0 (length f) && all_ascii_digits f) (lies_in b v) got.0 in
    let front = both (nat_lt 0 (length f)) (all_ascii_digits f) split.0 in
    let ends = both (nat_le b.least v) (nat_le v b.greatest) split.1 in (
      ((ltb-true 0 (length f) front.0, own.to f front.1), got.1),
      record { low = grind (arith, nat_tests); high = grind (arith, nat_tests) },
    )

pub number-most : (b : Bounds) (f : List ℕ) (n : ℕ) → number_in b f ≡ Ok n → n ≤ b.greatest
number-most b f n e = Fits.high (number_ok b f n e).1

within : (b : Bounds) (n : ℕ) → Fits b n → lies_in b n ≡ true
within b n fits = let low = fits.low in let high = fits.high in grind (arith, nat_tests)

pub number_read : (b : Bounds) (f : List ℕ) (n : ℕ) → IsNumeralOf f n → Fits b n → number_in b f ≡ Ok n
number_read b f n is fits =
    let v = digits_value 10 f in
    let test : (nat_lt 0 (length f) && all_ascii_digits f && lies_in b v) ≡ true =
    both_true (both_true (lt-ltb 0 (length f) is.0.0) (own.from f is.0.1)) (within b v (subst (λ (k : ℕ). Fits b k) (sym is.1) fits)) in
    cond-true _ _ _ test ∙ ap (λ k. Ok k) is.1

pub none_ok : {L : Type 0} (made line : L) (fs : List (List ℕ)) → none made fs ≡ Ok line → (fs ≡ []) × (made ≡ line)
none_ok made line [] e = (refl, cc)
none_ok made line (f ∷ fs) e = absurd (let never : ⊥ = cc in never)

pub none_read : {L : Type 0} (made : L) (fs : List (List ℕ)) → AllZip IsNumeralOf fs [] → none made fs ≡ Ok made
none_read made [] z = refl
none_read made (f ∷ fs) z = absurd z

pub one_read : {L : Type 0} (r : Bounds) (make : ℕ → L) (fs : List (List ℕ)) (x : ℕ) → Fits r x → AllZip IsNumeralOf fs (x ∷ []) → one r make fs ≡ Ok (make x)
one_read r make [] x p z = absurd z
one_read r make (f ∷ []) x p z = rw (number_read r f x z.0 p)
one_read r make (f ∷ g ∷ fs) x p z = absurd z.1

pub two_read : {L : Type 0} (r s : Bounds) (make : ℕ → ℕ → L) (fs : List (List ℕ)) (x y : ℕ) → Fits r x → Fits s y → AllZip IsNumeralOf fs (x ∷ y ∷ []) → two r s make fs ≡ Ok (make x y)
two_read r s make [] x y p q z = absurd z
two_read r s make (f ∷ []) x y p q z = absurd z.1
two_read r s make (f ∷ g ∷ []) x y p q z = rw (number_read r f x z.0 p, number_read s g y z.1.0 q)
two_read r s make (f ∷ g ∷ h ∷ fs) x y p q z = absurd z.1.1

pub three_read : {L : Type 0} (r s t : Bounds) (make : ℕ → ℕ → ℕ → L) (fs : List (List ℕ)) (x y w : ℕ) → Fits r x → Fits s y → Fits t w → AllZip IsNumeralOf fs (x ∷ y ∷ w ∷ []) → three r s t make fs ≡ Ok (make x y w)
three_read r s t make [] x y w p q o z = absurd z
three_read r s t make (f ∷ []) x y w p q o z = absurd z.1
three_read r s t make (f ∷ g ∷ []) x y w p q o z = absurd z.1.1
three_read r s t make (f ∷ g ∷ h ∷ []) x y w p q o z = rw (number_read r f x z.0 p, number_read s g y z.1.0 q, number_read t h w z.1.1.0 o)
three_read r s t make (f ∷ g ∷ h ∷ i ∷ fs) x y w p q o z = absurd z.1.1.1

-- the other way: what was read is spelled so
pub record OneOk {L : Type 0} (r : Bounds) (make : ℕ → L) (fs : List (List ℕ)) (line : L) : Type 0 where
  pub x : ℕ
  pub fits : Fits r x
  pub numerals : AllZip IsNumeralOf fs (x ∷ [])
  pub made : make x ≡ line

pub record TwoOk {L : Type 0} (r s : Bounds) (make : ℕ → ℕ → L) (fs : List (List ℕ)) (line : L) : Type 0 where
  pub x : ℕ
  pub y : ℕ
  pub fits : Fits r x
  pub fits_too : Fits s y
  pub numerals : AllZip IsNumeralOf fs (x ∷ y ∷ [])
  pub made : make x y ≡ line

pub record ThreeOk {L : Type 0} (r s t : Bounds) (make : ℕ → ℕ → ℕ → L) (fs : List (List ℕ)) (line : L) : Type 0 where
  pub x : ℕ
  pub y : ℕ
  pub z : ℕ
  pub fits : Fits r x
  pub fits_too : Fits s y
  pub fits_last : Fits t z
  pub numerals : AllZip IsNumeralOf fs (x ∷ y ∷ z ∷ [])
  pub made : make x y z ≡ line

bind_ok : {A L : Type 0} (r : Result A LineFault) (f : A → Result L LineFault) (line : L) → (r >>= f) ≡ Ok line → (x : A) × (r ≡ Ok x) × (f x ≡ Ok line)
bind_ok (Ok x) f line e = (x, refl, e)
bind_ok (Err fault) f line e = absurd (let never : ⊥ = cc in never)

pub one_ok : {L : Type 0} (r : Bounds) (make : ℕ → L) (line : L) (fs : List (List ℕ)) → one r make fs ≡ Ok line → OneOk r make fs line
one_ok r make line [] e = absurd (let never : ⊥ = cc in never)
one_ok r make line (f ∷ []) e =
    let a = bind_ok (number_in r f) (λ x. Ok (make x)) line e in
    let x = number_ok r f a.0 a.1 in
    let last = a.2 in
    record { x = a.0; fits = x.1; numerals = (x.0, tt); made = cc }
one_ok r make line (f ∷ g ∷ fs) e = absurd (let never : ⊥ = cc in never)

pub two_ok : {L : Type 0} (r s : Bounds) (make : ℕ → ℕ → L) (line : L) (fs : List (List ℕ)) → two r s make fs ≡ Ok line → TwoOk r s make fs line
two_ok r s make line [] e = absurd (let never : ⊥ = cc in never)
two_ok r s make line (f ∷ []) e = absurd (let never : ⊥ = cc in never)
two_ok r s make line (f ∷ g ∷ []) e =
    let a = bind_ok (number_in r f) (λ x. number_in s g >>= λ y. Ok (make x y)) line e in
    let b = bind_ok (number_in s g) (λ y. Ok (make a.0 y)) line a.2 in
    let x = number_ok r f a.0 a.1 in
    let y = number_ok s g b.0 b.1 in
    let last = b.2 in
    record { x = a.0; y = b.0; fits = x.1; fits_too = y.1; numerals = (x.0, (y.0, tt)); made = cc }
two_ok r s make line (f ∷ g ∷ h ∷ fs) e = absurd (let never : ⊥ = cc in never)

pub three_ok : {L : Type 0} (r s t : Bounds) (make : ℕ → ℕ → ℕ → L) (line : L) (fs : List (List ℕ)) → three r s t make fs ≡ Ok line → ThreeOk r s t make fs line
three_ok r s t make line [] e = absurd (let never : ⊥ = cc in never)
three_ok r s t make line (f ∷ []) e = absurd (let never : ⊥ = cc in never)
three_ok r s t make line (f ∷ g ∷ []) e = absurd (let never : ⊥ = cc in never)
three_ok r s t make line (f ∷ g ∷ h ∷ []) e =
    let a = bind_ok (number_in r f) (λ x. number_in s g >>= λ y. (number_in t h >>= λ z. Ok (make x y z))) line e in
    let b = bind_ok (number_in s g) (λ y. number_in t h >>= λ z. Ok (make a.0 y z)) line a.2 in
    let c = bind_ok (number_in t h) (λ z. Ok (make a.0 b.0 z)) line b.2 in
    let x = number_ok r f a.0 a.1 in
    let y = number_ok s g b.0 b.1 in
    let z = number_ok t h c.0 c.1 in
    let last = c.2 in
    record { x = a.0; y = b.0; z = c.0; fits = x.1; fits_too = y.1; fits_last = z.1; numerals = (x.0, (y.0, (z.0, tt))); made = cc }
three_ok r s t make line (f ∷ g ∷ h ∷ i ∷ fs) e = absurd (let never : ⊥ = cc in never)
