-- Bytes that are held and given on in pieces.
use Rattle.std.proofs.Common.{◌≡◌, ◌∙◌, ℕ, ◌+◌, ◌-◌, ◌<◌, ◌≤◌, List, ◌++◌, length, take, drop, min, Option, Some, None, Ok, sym, ap, subst, refl, arith}
use Rattle.std.proofs.lemmas.List.{take-append-drop, append_assoc, drop-drop, drop-take, length-append, length-take-le, length-drop, take_at, take_all}
use Rattle.envy_io.specs.Streams.{Feed, Fills, with_front}
use Rattle.envy_io.specs.Asked.{Asked, MakesSome, Gives, feed_of}

front_split : (left : Option (List ℕ)) (n : ℕ) (held : List ℕ) → with_front held left ≡ with_front (take n held) (with_front (drop n held) left)
front_split None n held = refl
front_split (Some bytes) n held = ap Some (ap (λ (h : List ℕ). h ++ bytes) (sym (take-append-drop n held)) ∙ append_assoc (take n held) (drop n held) bytes)

-- what was given on of what is held
pub fills_given : (old mid new : Asked) (slice filled : List ℕ) (n : ℕ) → MakesSome old (Ok tt) mid → Gives mid slice n new filled → 0 < length slice → Fills (feed_of old) filled (Ok n) (feed_of new)
fills_given old mid new slice filled n (bytes, (fits, left, dry, faults), same) gave some =
    let many = gave.many in
    let long = gave.long in
    let inner : new.inner ≡ mid.inner = ap (λ (s : Asked). s.inner) gave.rest in
    let held : new.held ≡ drop n mid.held = ap (λ (s : Asked). s.held) gave.rest in
    let whole : with_front old.held old.inner.left ≡ with_front mid.held mid.inner.left = left ∙ ap (λ (h : List ℕ). with_front h mid.inner.left) (sym same) in
    let split : with_front mid.held mid.inner.left ≡ with_front (take n filled) (with_front new.held new.inner.left) =
    front_split mid.inner.left n mid.held ∙ ap (λ (h : List ℕ). with_front h (with_front (drop n mid.held) mid.inner.left)) (sym gave.given)
    ∙ ap (with_front (take n filled)) (ap (λ (h : List ℕ). with_front h mid.inner.left) (sym held) ∙ ap (λ (f : Feed). with_front new.held f.left) (sym inner)) in
    let counted : new.inner.faults ≡ old.inner.faults = ap (λ (f : Feed). f.faults) inner ∙ faults in (
      omega arith,
      whole ∙ split,
      λ none. dry (omega arith),
      counted,
    )

-- what is held is there already
makes-some : (s : Asked) → 0 < length s.held → MakesSome s (Ok tt) s
makes-some s some =
    let all : take (length s.held) s.held ≡ s.held = take_all (length s.held) s.held (omega arith) in
    (s.held, (omega arith, ap (λ (h : List ℕ). with_front h s.inner.left) (sym all), λ none. absurd (omega arith), refl), sym all)

-- bytes were held, and are given on without asking
pub given-alone : (inner : Feed) (buffer : List ℕ) (start end : ℕ) (old new : Asked) (slice filled : List ℕ) (n : ℕ) → record { inner = inner; held = take (end - start) (drop start buffer) } ≡ old → start < end → end ≤ length buffer → Gives old slice n new filled → 0 < length slice → Fills (feed_of old) filled (Ok n) (feed_of new)
given-alone inner buffer start end old new slice filled n is lt within gave some =
    let size : length old.held ≡ end - start = ap (λ (s : Asked). length s.held) (sym is) ∙ length-take-le (end - start) (drop start buffer) (let rest = length-drop start buffer in omega arith) in
    fills_given old old new slice filled n (makes-some old (omega arith)) gave some

-- the bytes behind those that were given on
held_rest : (buffer : List ℕ) (start end n : ℕ) → n ≤ end - start → take (end - (start + n)) (drop (start + n) buffer) ≡ drop n (take (end - start) (drop start buffer))
held_rest buffer start end n le =
    let more : end - start ≡ n + (end - (start + n)) = omega arith in
    ap (take (end - (start + n))) (sym (drop-drop n start buffer)) ∙ sym (drop-take n (end - (start + n)) (drop start buffer)) ∙ ap (λ k. drop n (take k (drop start buffer))) (sym more)

-- a front of the bytes held, copied to the slice's front
pub gives_front : (inner : Feed) (buffer held : List ℕ) (start end : ℕ) (old : Asked) (slice copied : List ℕ) (n : ℕ) → record { inner = inner; held = take (end - start) (drop start buffer) } ≡ old → held ≡ take (end - start) (drop start buffer)
    → n ≡ min (length held) (length slice) → copied ≡ take n held → start ≤ end → end ≤ length buffer → Gives old slice n (record { inner = inner; held = take (end - (start + n)) (drop (start + n) buffer) }) (copied ++ drop n slice)
gives_front inner buffer held start end old slice copied n is of_held many given order within =
    let size : length held ≡ end - start = ap length of_held ∙ length-take-le (end - start) (drop start buffer) (let rest = length-drop start buffer in omega arith) in
    let le : n ≤ length held = omega arith in
    let le_slice : n ≤ length slice = omega arith in
    let short : n ≤ end - start = omega arith in
    let copied_long : length copied ≡ n = ap length given ∙ length-take-le n held le in
    subst (λ (o : Asked). Gives o slice n (record { inner = inner; held = take (end - (start + n)) (drop (start + n) buffer) }) (copied ++ drop n slice)) is (record {
      many = rw (← of_held) many;
      given = take_at copied (drop n slice) n copied_long ∙ given ∙ ap (take n) of_held;
      long = let rest = length-drop n slice in let all = length-append copied (drop n slice) in omega arith;
      rest = ap (λ (h : List ℕ). record { inner = inner; held = h }) (held_rest buffer start end n short);
    })
