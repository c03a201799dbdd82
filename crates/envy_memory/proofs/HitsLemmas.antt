-- A cache counts the hits and the misses of what happened.
use Rattle.std.proofs.Common.{◌≡◌, ◌≢◌, ◌⊎◌, inl, inr, Bool, true, false, ℕ, ◌+◌, ◌-◌, ◌%◌, ◌^◌, ◌<◌, List, [], ◌∷◌, length, Option, None, Some, refl, sym, ◌∙◌, ap, arith}
use Rattle.std.specs.Prelude.{◌==◌, if◌then◌else◌}
use Rattle.std.proofs.Math.Nat.{mod-lt}
use Rattle.std.proofs.lemmas.Bool.{cases_eq, eq-eqb, ne_eqb}
use Rattle.envy_base.specs.Counting.{up}
use Rattle.envy_base.proofs.Counting.{up-least, up-below}
use Rattle.envy_table.specs.Entries.{Entry, Translations, entry, is_hit, holds}
use Rattle.envy_table.specs.Hits.{page_in, page_at, Accesses, Rests, Empties}
use Rattle.envy_memory.specs.Hits.{Event, Access, Power, LastWas, last_in, is_page, hits_of, misses_of, Tracks}

-- the two ways to say it are one
pub last-was : (c p : ℕ) (past : List Event) → LastWas c p past → last_in c (p % c) past ≡ Some p
last-was c p [] was = absurd was
last-was c p (Power ∷ past) was = absurd was
last-was c p (Access r ∷ past) (inl same) = rw (eq-eqb (p % c) (r % c) (ap (λ (n : ℕ). n % c) (sym same))) (ap (λ (n : ℕ). Some n) same)
last-was c p (Access r ∷ past) (inr (other, rest)) = rw (ne_eqb (p % c) (r % c) (λ e. other (sym e))) (last-was c p past rest)

pub was-last : (c p : ℕ) (past : List Event) → last_in c (p % c) past ≡ Some p → LastWas c p past
was-last c p [] is = cc
was-last c p (Power ∷ past) is = cc
was-last c p (Access r ∷ past) is = at (cases_eq (p % c) (r % c)) (λ e. was-last c p past e)
  where
    at : (p % c ≡ r % c) ⊎ (p % c ≡ r % c → ⊥) → (last_in c (p % c) past ≡ Some p → LastWas c p past) → (r ≡ p) ⊎ ((r % c ≢ p % c) × LastWas c p past)
    at (inl same) rest = inl (let e : Some r ≡ Some p = rw (eq-eqb (p % c) (r % c) same) at is in cc)
    at (inr other) rest = inr ((λ e. other (sym e)), rest (rw (ne_eqb (p % c) (r % c) other) at is))

holds-page : (e : Entry) (p : ℕ) → holds e p ≡ is_page (page_in e) p
holds-page None p = refl
holds-page (Some kept) p = refl

-- an access hits exactly where the last to a congruent page was to this one
pub hit-tracked : (c p : ℕ) (past : List Event) (t : Translations) → 0 < c → Tracks c past t → is_hit t.entries p ≡ is_page (last_in c (p % c) past) p
hit-tracked c p past t some k =
    holds-page (entry t.entries (p % length t.entries)) p
    ∙ ap (λ (n : ℕ). is_page (page_at t.entries (p % n)) p) k.size
    ∙ ap (λ (x : Option ℕ). is_page x p) (k.pages (p % c) (mod-lt p some))

counted : (b : Bool) (old new n : ℕ) → new ≡ (if b then up old else old) → (old < 2 ^ 64 - 1 → old ≡ n) → new < 2 ^ 64 - 1 → new ≡ n + (if b then 1 else 0)
counted true old new n is was lt = let least = up-least old in let low : up old < 2 ^ 64 - 1 = rw (← is) lt in let e = up-below old low in let before = was (omega arith) in omega arith
counted false old new n is was lt = let before = was (omega arith) in omega arith

missed : (b : Bool) (old new n : ℕ) → new ≡ (if b then old else up old) → (old < 2 ^ 64 - 1 → old ≡ n) → new < 2 ^ 64 - 1 → new ≡ n + (if b then 0 else 1)
missed false old new n is was lt = let least = up-least old in let low : up old < 2 ^ 64 - 1 = rw (← is) lt in let e = up-below old low in let before = was (omega arith) in omega arith
missed true old new n is was lt = let before = was (omega arith) in omega arith

pub Tracks-access : (c p : ℕ) (past : List Event) (t new : Translations) → 0 < c → Tracks c past t → Accesses p t new → Tracks c (Access p ∷ past) new
Tracks-access c p past t new some k a =
    let hit = hit-tracked c p past t some k in
    record {
      size = a.size ∙ k.size;
      pages = λ i lt. a.pages i ∙ ap (λ (n : ℕ). if i == p % n then Some p else page_at t.entries i) k.size ∙ ap (λ (x : Option ℕ). if i == p % c then Some p else x) (k.pages i lt);
      hits = counted (is_page (last_in c (p % c) past) p) t.hits new.hits (hits_of c past) (a.hits ∙ ap (λ (b : Bool). if b then up t.hits else t.hits) hit) k.hits;
      misses = missed (is_page (last_in c (p % c) past) p) t.misses new.misses (misses_of c past) (a.misses ∙ ap (λ (b : Bool). if b then t.misses else up t.misses) hit) k.misses;
    }

pub Tracks-rest : (c : ℕ) (past : List Event) (t new : Translations) → Tracks c past t → Rests t new → Tracks c past new
Tracks-rest c past t new k r = record { size = r.size ∙ k.size; pages = λ i lt. r.pages i ∙ k.pages i lt; hits = λ lt. rw r.hits (k.hits (rw (← r.hits) lt)); misses = λ lt. rw r.misses (k.misses (rw (← r.misses) lt)) }

pub Tracks-power : (c : ℕ) (past : List Event) (t new : Translations) → Tracks c past t → Empties t new → Tracks c (Power ∷ past) new
Tracks-power c past t new k e = record { size = e.size ∙ k.size; pages = λ i lt. e.pages i; hits = λ lt. rw e.hits (k.hits (rw (← e.hits) lt)); misses = λ lt. rw e.misses (k.misses (rw (← e.misses) lt)) }
