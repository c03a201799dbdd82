-- How many fields are left.
use Rattle.std.proofs.Common.{◌≡◌, ℕ, List, [], ◌∷◌, Result, Ok, Err, IfOk, IsErrAnd, sym, ap, ◌∙◌, subst}
use Rattle.envy_trace.specs.declared.bounds.Bounds.{Bounds}
use Rattle.envy_trace.specs.declared.fault.LineFault.{LineFault}
use Rattle.envy_trace.specs.declared.fault.LineFault.TheVariants.{Count}
use Rattle.envy_trace.specs.Grammar.{none, two, three}

-- nothing is left after three fields
pub three-exact : (f g h : List ℕ) (fs gs hs rest : List (List ℕ)) → fs ≡ f ∷ gs → gs ≡ g ∷ hs → hs ≡ h ∷ rest → ◌≡◌ {A = Result (Unit {0}) LineFault} (Ok (tt {0})) (none (tt {0}) rest) → fs ≡ f ∷ g ∷ h ∷ []
three-exact f g h fs gs hs [] one two last ok = one ∙ ap (λ ps. f ∷ ps) (two ∙ ap (λ ps. g ∷ ps) last)
three-exact f g h fs gs hs (p ∷ ps) one two last ok = absurd (let never : ⊥ = cc in never)

-- a field is left
pub three-more : {L : Type 0} (r s t : Bounds) (line : ℕ → ℕ → ℕ → L) (f g h : List ℕ) (fs gs hs rest : List (List ℕ)) → fs ≡ f ∷ gs → gs ≡ g ∷ hs → hs ≡ h ∷ rest → (e : LineFault) → ◌≡◌ {A = Result (Unit {0}) LineFault} (Err e) (none (tt {0}) rest) → Err e ≡ three r s t line fs
three-more r s t line f g h fs gs hs [] one two last e more = absurd (let never : ⊥ = cc in never)
three-more {L} r s t line f g h fs gs hs (p ∷ ps) one two last e more =
    let all : fs ≡ f ∷ g ∷ h ∷ p ∷ ps = one ∙ ap (λ qs. f ∷ qs) (two ∙ ap (λ qs. g ∷ qs) last) in
    let same : e ≡ Count = cc in
    subst (λ (qs : List (List ℕ)). ◌≡◌ {A = Result L LineFault} (Err e) (three r s t line qs)) (sym all) (ap (λ x. Err x) same)

-- a failure, handed on as it is
pub handed-on : {T : Type 0} (r w : Result T LineFault) (e : LineFault) → IsErrAnd r (λ x. x ≡ e) → Err e ≡ w → r ≡ w
handed-on (Ok x) w e h is = absurd h
handed-on (Err x) w e h is = ap (λ y. Err y) h ∙ is

pub no-value : {T : Type 0} (r : Result T LineFault) (Q : LineFault → Type 0) (P : T → Type 0) → IsErrAnd r Q → IfOk r P
no-value (Ok x) Q P h = absurd h
no-value (Err e) Q P h = tt

-- of two fields, none is left, or one
pub two-none : {L : Type 0} (r s : Bounds) (line : ℕ → ℕ → L) (fs : List (List ℕ)) (e : LineFault) → e ≡ Count → fs ≡ [] → Err e ≡ two r s line fs
two-none {L} r s line fs e same none = subst (λ (qs : List (List ℕ)). ◌≡◌ {A = Result L LineFault} (Err e) (two r s line qs)) (sym none) (ap (λ x. Err x) same)

pub two-one : {L : Type 0} (r s : Bounds) (line : ℕ → ℕ → L) (f : List ℕ) (fs gs : List (List ℕ)) (e : LineFault) → fs ≡ f ∷ gs → e ≡ Count → gs ≡ [] → Err e ≡ two r s line fs
two-one {L} r s line f fs gs e one same none =
    subst (λ (qs : List (List ℕ)). ◌≡◌ {A = Result L LineFault} (Err e) (two r s line qs)) (sym (one ∙ ap (λ ps. f ∷ ps) none)) (ap (λ x. Err x) same)

-- more are left
pub two-more : {L : Type 0} (r s : Bounds) (line : ℕ → ℕ → L) (f g : List ℕ) (fs gs rest : List (List ℕ)) → fs ≡ f ∷ gs → gs ≡ g ∷ rest → (e : LineFault) → ◌≡◌ {A = Result (Unit {0}) LineFault} (Err e) (none (tt {0}) rest) → Err e ≡ two r s line fs
two-more r s line f g fs gs [] one last e more = absurd (let never : ⊥ = cc in never)
two-more {L} r s line f g fs gs (p ∷ ps) one last e more =
    let all : fs ≡ f ∷ g ∷ p ∷ ps = one ∙ ap (λ qs. f ∷ qs) last in
    let same : e ≡ Count = cc in
    subst (λ (qs : List (List ℕ)). ◌≡◌ {A = Result L LineFault} (Err e) (two r s line qs)) (sym all) (ap (λ x. Err x) same)

pub two-exact : (f g : List ℕ) (fs gs rest : List (List ℕ)) → fs ≡ f ∷ gs → gs ≡ g ∷ rest → ◌≡◌ {A = Result (Unit {0}) LineFault} (Ok (tt {0})) (none (tt {0}) rest) → fs ≡ f ∷ g ∷ []
two-exact f g fs gs [] one last ok = one ∙ ap (λ ps. f ∷ ps) last
two-exact f g fs gs (p ∷ ps) one last ok = absurd (let never : ⊥ = cc in never)

-- of three, none is left, or one, or two
pub three-none : {L : Type 0} (r s t : Bounds) (line : ℕ → ℕ → ℕ → L) (fs : List (List ℕ)) (e : LineFault) → e ≡ Count → fs ≡ [] → Err e ≡ three r s t line fs
three-none {L} r s t line fs e same none = subst (λ (qs : List (List ℕ)). ◌≡◌ {A = Result L LineFault} (Err e) (three r s t line qs)) (sym none) (ap (λ x. Err x) same)

pub three-one : {L : Type 0} (r s t : Bounds) (line : ℕ → ℕ → ℕ → L) (f : List ℕ) (fs gs : List (List ℕ)) (e : LineFault) → fs ≡ f ∷ gs → e ≡ Count → gs ≡ [] → Err e ≡ three r s t line fs
three-one {L} r s t line f fs gs e one same none =
    subst (λ (qs : List (List ℕ)). ◌≡◌ {A = Result L LineFault} (Err e) (three r s t line qs)) (sym (one ∙ ap (λ ps. f ∷ ps) none)) (ap (λ x. Err x) same)

pub three-two : {L : Type 0} (r s t : Bounds) (line : ℕ → ℕ → ℕ → L) (f g : List ℕ) (fs gs hs : List (List ℕ)) (e : LineFault) → fs ≡ f ∷ gs → gs ≡ g ∷ hs → e ≡ Count → hs ≡ [] → Err e ≡ three r s t line fs
three-two {L} r s t line f g fs gs hs e one two same none =
    subst (λ (qs : List (List ℕ)). ◌≡◌ {A = Result L LineFault} (Err e) (three r s t line qs)) (sym (one ∙ ap (λ ps. f ∷ ps) (two ∙ ap (λ ps. g ∷ ps) none))) (ap (λ x. Err x) same)
