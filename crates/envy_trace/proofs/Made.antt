-- A line made of the numbers that were read.
use Rattle.std.proofs.Common.{◌≡◌, ℕ, List, [], ◌∷◌, Result, Ok, Err, refl, sym, ap, ◌∙◌, subst}
use Rattle.envy_trace.specs.declared.bounds.Bounds.{Bounds}
use Rattle.envy_trace.specs.declared.command.Command.{Command}
use Rattle.envy_trace.specs.declared.fault.LineFault.{LineFault}
use Rattle.envy_trace.specs.declared.line.Line.{Line}
use Rattle.envy_trace.specs.Commands.{name_of}
use Rattle.envy_trace.specs.Grammar.{number_in, ◌>>=◌, none, one, two, three, commands, look_up}

bind-made : {A L : Type 0} (r : Result A LineFault) (f : A → L) → (r >>= λ x. Ok (f x)) ≡ ((r >>= λ x. Ok x) >>= λ x. Ok (f x))
bind-made (Ok x) f = refl
bind-made (Err e) f = refl

abbrev two_of : {A B : Type 0} → Result A LineFault → Result B LineFault → Result (A × B) LineFault
two_of r s = r >>= λ x. (s >>= λ y. Ok (x, y))

abbrev three_of : {A B C : Type 0} → Result A LineFault → Result B LineFault → Result C LineFault → Result (A × B × C) LineFault
three_of r s t = r >>= λ x. (s >>= λ y. (t >>= λ z. Ok (x, y, z)))

two-bind : {A B L : Type 0} (r : Result A LineFault) (s : Result B LineFault) (f : A → B → L) → (r >>= λ x. (s >>= λ y. Ok (f x y))) ≡ (two_of r s >>= λ p. Ok (f p.0 p.1))
two-bind (Ok x) (Ok y) f = refl
two-bind (Ok x) (Err e) f = refl
two-bind (Err e) s f = refl

three-bind : {A B C L : Type 0} (r : Result A LineFault) (s : Result B LineFault) (t : Result C LineFault) (f : A → B → C → L) → (r >>= λ x. (s >>= λ y. (t >>= λ z. Ok (f x y z)))) ≡ (three_of r s t >>= λ p. Ok (f p.0 p.1 p.2))
three-bind (Ok x) (Ok y) (Ok z) f = refl
three-bind (Ok x) (Ok y) (Err e) f = refl
three-bind (Ok x) (Err e) t f = refl
three-bind (Err e) s t f = refl

none-made : {L : Type 0} (line : L) (fs : List (List ℕ)) → none line fs ≡ (none {L = Unit {0}} tt fs >>= λ u. Ok line)
none-made line [] = refl
none-made line (f ∷ fs) = refl

one-made : {L : Type 0} (r : Bounds) (line : ℕ → L) (fs : List (List ℕ)) → one r line fs ≡ (one r (λ x. x) fs >>= λ x. Ok (line x))
one-made r line [] = refl
one-made r line (f ∷ []) = bind-made (number_in r f) line
one-made r line (f ∷ g ∷ fs) = refl

two-made : {L : Type 0} (r s : Bounds) (line : ℕ → ℕ → L) (fs : List (List ℕ)) → two r s line fs ≡ (two {L = ℕ × ℕ} r s (λ x y. (x, y)) fs >>= λ p. Ok (line p.0 p.1))
two-made r s line [] = refl
two-made r s line (f ∷ []) = refl
two-made r s line (f ∷ g ∷ []) = two-bind (number_in r f) (number_in s g) line
two-made r s line (f ∷ g ∷ h ∷ fs) = refl

three-made : {L : Type 0} (r s t : Bounds) (line : ℕ → ℕ → ℕ → L) (fs : List (List ℕ)) → three r s t line fs ≡ (three {L = ℕ × ℕ × ℕ} r s t (λ x y z. (x, y, z)) fs >>= λ p. Ok (line p.0 p.1 p.2))
three-made r s t line [] = refl
three-made r s t line (f ∷ []) = refl
three-made r s t line (f ∷ g ∷ []) = refl
three-made r s t line (f ∷ g ∷ h ∷ []) = three-bind (number_in r f) (number_in s g) (number_in t h) line
three-made r s t line (f ∷ g ∷ h ∷ i ∷ fs) = refl

-- what was read, and the line or the fault that it makes
pub none-read : {L : Type 0} (line : L) (fs : List (List ℕ)) (r : Result (Unit {0}) LineFault) → r ≡ none (tt {0}) fs → (r >>= λ u. Ok line) ≡ none line fs
none-read line fs r is = ap (λ q. q >>= λ u. Ok line) is ∙ sym (none-made line fs)

pub one-read : {L : Type 0} (b : Bounds) (line : ℕ → L) (fs : List (List ℕ)) (r : Result ℕ LineFault) → r ≡ one b (λ x. x) fs → (r >>= λ x. Ok (line x)) ≡ one b line fs
one-read b line fs r is = ap (λ q. q >>= λ x. Ok (line x)) is ∙ sym (one-made b line fs)

pub two-read : {L : Type 0} (b s : Bounds) (line : ℕ → ℕ → L) (fs : List (List ℕ)) (r : Result (ℕ × ℕ) LineFault) → r ≡ two b s (λ x y. (x, y)) fs → (r >>= λ p. Ok (line p.0 p.1)) ≡ two b s line fs
two-read b s line fs r is = ap (λ q. q >>= λ p. Ok (line p.0 p.1)) is ∙ sym (two-made b s line fs)

pub three-read : {L : Type 0} (b s t : Bounds) (line : ℕ → ℕ → ℕ → L) (fs : List (List ℕ)) (r : Result (ℕ × ℕ × ℕ) LineFault) → r ≡ three b s t (λ x y z. (x, y, z)) fs → (r >>= λ p. Ok (line p.0 p.1 p.2)) ≡ three b s t line fs
three-read b s t line fs r is = ap (λ q. q >>= λ p. Ok (line p.0 p.1 p.2)) is ∙ sym (three-made b s t line fs)

pub by-command : (command known : Command) (fs : List (List ℕ)) (w : Result Line LineFault) → command ≡ known → w ≡ look_up commands (name_of known) fs → w ≡ look_up commands (name_of command) fs
by-command command known fs w is read = subst (λ (k : Command). w ≡ look_up commands (name_of k) fs) (sym is) read
