-- What every command leaves of an array, and what a failure of power leaves of it.
use Rattle.std.proofs.Common.{◌≡◌, inl, inr, ℕ, refl, sym, ap, subst}
use Rattle.envy_array.specs.Array.{Array, undone}
use Rattle.envy_array.specs.Step.{Command, Answer, Step, Lost as LostAs, Load, Look, Store, Begin, Put, Commit, Abort, Tick}
use Rattle.envy_array.specs.Step.{Word as IsWord, Done as IsDone, Started as IsStarted, Range as IsRange, Held as IsHeld, Closed as IsClosed, Full as IsFull, Busy as IsBusy}
use Rattle.envy_memory.specs.Calls.{fresh}

-- no command changes how many pages may be owned
step-shadows : (m : Array) (command : Command) (answer : Answer) (n : Array) → Step m command answer n → n.shadows ≡ m.shadows
step-shadows m (Load a) (IsWord v) n (lt, w_is, e) = ap (λ (x : Array). x.shadows) e
step-shadows m (Load a) IsRange n (le, e) = ap (λ (x : Array). x.shadows) e
step-shadows m (Look a) (IsWord v) n (lt, w_is, e) = ap (λ (x : Array). x.shadows) e
step-shadows m (Look a) IsRange n (le, e) = ap (λ (x : Array). x.shadows) e
step-shadows m (Store a w) IsRange n (le, e) = ap (λ (x : Array). x.shadows) e
step-shadows m (Store a w) (IsHeld u) n (lt, own, e) = ap (λ (x : Array). x.shadows) e
step-shadows m (Store a w) IsDone n (lt, own, e) = ap (λ (x : Array). x.shadows) e
step-shadows m Begin IsBusy n (none, e) = ap (λ (x : Array). x.shadows) e
step-shadows m Begin (IsStarted t) n (some, e) = ap (λ (x : Array). x.shadows) e
step-shadows m (Put t a w) IsRange n (le, e) = ap (λ (x : Array). x.shadows) e
step-shadows m (Put t a w) IsClosed n (lt, none, e) = ap (λ (x : Array). x.shadows) e
step-shadows m (Put t a w) (IsHeld u) n (lt, some, own, ne, e) = ap (λ (x : Array). x.shadows) e
step-shadows m (Put t a w) IsFull n (lt, some, own, full, e) = ap (λ (x : Array). x.shadows) e
step-shadows m (Put t a w) IsDone n (lt, may, saved, some, e) = ap (λ (x : Array). x.shadows) e
step-shadows m (Commit t) IsClosed n (none, e) = ap (λ (x : Array). x.shadows) e
step-shadows m (Commit t) IsDone n (some, e) = ap (λ (x : Array). x.shadows) e
step-shadows m (Abort t) IsClosed n (none, e) = ap (λ (x : Array). x.shadows) e
step-shadows m (Abort t) IsDone n (saved, some, e) = ap (λ (x : Array). x.shadows) e
step-shadows m Tick IsDone n e = ap (λ (x : Array). x.shadows) e
step-shadows m command answer n never = absurd never

-- after a failure of power the array is what a restart makes of its words
pub lost-fresh : (m : Array) (command : Command) (n : Array) → LostAs m command n → fresh m.shadows n.words ≡ n
lost-fresh m command n (k, (answer, step, accepted), inl is) = subst (λ (x : Array). fresh m.shadows x.words ≡ x) (sym is) refl
lost-fresh m command n (k, (answer, step, accepted), inr is) =
    subst (λ (x : Array). fresh m.shadows x.words ≡ x) (sym is) (ap (λ (s : ℕ). fresh s (undone k)) (sym (step-shadows m command answer k step)))
