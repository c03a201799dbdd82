-- Fields and numbers make no line too long.
use Rattle.std.proofs.Common.{◌≡◌, ℕ, Bool, true, false, cond, ◌&&◌, nat_lt, List, [], ◌∷◌, length, Result, Ok, Err, ap}
use Rattle.std.specs.Str.{all_ascii_digits}
use Rattle.std.specs.Str.Parse.{digits_value}
use Rattle.envy_trace.specs.declared.bounds.Bounds.{Bounds}
use Rattle.envy_trace.specs.declared.fault.LineFault.{LineFault}
use Rattle.envy_trace.specs.declared.fault.LineFault.TheVariants.{Long, Number}
use Rattle.envy_trace.specs.Grammar.{number_in, lies_in, ◌>>=◌, none, one, two, three}

abbrev pub IsNotLong : {A : Type 0} → Result A LineFault → Type 0
IsNotLong r = r ≡ Err Long → ⊥

pub number : (b : Bounds) (f : List ℕ) → IsNotLong (number_in b f)
number b f = go (nat_lt 0 (length f) && all_ascii_digits f && lies_in b (digits_value 10 f))
  where
    go : (t : Bool) → IsNotLong (cond t (Ok (digits_value 10 f)) (Err Number))
    go true e = let never : ⊥ = cc in never
    go false e = let never : ⊥ = cc in never

pub bind : {A B : Type 0} (r : Result A LineFault) (f : A → Result B LineFault) → IsNotLong r → ((x : A) → IsNotLong (f x)) → IsNotLong (r >>= f)
bind (Ok x) f p q = q x
bind (Err fault) f p q = λ e. let same : fault ≡ Long = cc in p (ap (λ x. Err x) same)

pub no_numbers : {L : Type 0} (line : L) (fs : List (List ℕ)) → IsNotLong (none line fs)
no_numbers line [] e = let never : ⊥ = cc in never
no_numbers line (f ∷ fs) e = let never : ⊥ = cc in never

pub one_number : {L : Type 0} (r : Bounds) (line : ℕ → L) (fs : List (List ℕ)) → IsNotLong (one r line fs)
one_number r line [] e = let never : ⊥ = cc in never
one_number r line (f ∷ []) e = bind (number_in r f) (λ x. Ok (line x)) (number r f) (λ x h. let never : ⊥ = cc in never) e
one_number r line (f ∷ g ∷ fs) e = let never : ⊥ = cc in never

pub two_numbers : {L : Type 0} (r s : Bounds) (line : ℕ → ℕ → L) (fs : List (List ℕ)) → IsNotLong (two r s line fs)
two_numbers r s line [] e = let never : ⊥ = cc in never
two_numbers r s line (f ∷ []) e = let never : ⊥ = cc in never
two_numbers r s line (f ∷ g ∷ []) e =
    bind (number_in r f) (λ x. number_in s g >>= λ y. Ok (line x y)) (number r f)
    (λ x. bind (number_in s g) (λ y. Ok (line x y)) (number s g) (λ y h. let never : ⊥ = cc in never)) e
two_numbers r s line (f ∷ g ∷ h ∷ fs) e = let never : ⊥ = cc in never

pub three_numbers : {L : Type 0} (r s t : Bounds) (line : ℕ → ℕ → ℕ → L) (fs : List (List ℕ)) → IsNotLong (three r s t line fs)
three_numbers r s t line [] e = let never : ⊥ = cc in never
three_numbers r s t line (f ∷ []) e = let never : ⊥ = cc in never
three_numbers r s t line (f ∷ g ∷ []) e = let never : ⊥ = cc in never
three_numbers r s t line (f ∷ g ∷ h ∷ []) e =
    bind (number_in r f) (λ x. number_in s g >>= λ y. (number_in t h >>= λ z. Ok (line x y z))) (number r f)
    (λ x. bind (number_in s g) (λ y. number_in t h >>= λ z. Ok (line x y z)) (number s g)
    (λ y. bind (number_in t h) (λ z. Ok (line x y z)) (number t h) (λ z h. let never : ⊥ = cc in never))) e
three_numbers r s t line (f ∷ g ∷ h ∷ i ∷ fs) e = let never : ⊥ = cc in never
