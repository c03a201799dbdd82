-- The ring of entries with the stamps and the homes, as a whole.
use Rattle.std.proofs.Common.{◌≡◌, ℕ, ◌*◌, ◌<◌, ◌≤◌, List, [], ◌∷◌, ◌++◌, map, length, get_or, replicate, set, refl, sym, ◌∙◌, ap, subst, arith}
use Rattle.std.specs.List.{filter, All}
use Rattle.std.proofs.lemmas.Bool.{eq-eqb}
use Rattle.std.proofs.lemmas.List.{get_or-replicate, length-map, length-replicate, length-set}
use Rattle.std.proofs.lemmas.List.Elements.{All-filter, All-map}
use Rattle.circular_buffer.specs.Buffer.{Buffer, buffer}
use Rattle.envy_frames.specs.declared.entry.Entry.{Entry}
use Rattle.envy_frames.specs.declared.held.Held.{Held}
use Rattle.envy_frames.specs.Entries.{AreHomes, AreStamped, IsLiveFirst, IsRing, held_in, unstamped}
use Rattle.envy_frames.specs.Order.{IsUnheld, is_other}
use Rattle.envy_frames.proofs.Live.{held-unstamped, homes-joined}

-- an empty ring
pub IsRing-none : (entries : Buffer Entry) (stamps homes : List ℕ) (n : ℕ) → entries ≡ buffer [] (2 * n) → length stamps ≡ n → length homes ≡ n → IsRing entries stamps homes
IsRing-none entries stamps homes n is long homes_long = rw is (record {
  stamped = record { below = λ k d lt. absurd (omega arith); past = λ k d lt. absurd (omega arith); fits = omega arith };
  live = tt;
  twice = omega arith;
  under = λ k d lt. absurd (omega arith);
  long = omega arith;
})

-- a page joins the held ones, and its home is noted
pub IsRing-taken : (entries new : Buffer Entry) (stamps homes : List ℕ) (h : Held) → IsRing entries stamps homes → h.frame < length stamps → IsUnheld (held_in stamps entries.items) h.frame
    → AreStamped new stamps → held_in stamps new.items ≡ held_in stamps entries.items ++ h ∷ [] → IsLiveFirst stamps new.items → new.capacity ≡ entries.capacity → IsRing new stamps (set homes h.frame h.home)
IsRing-taken entries new stamps homes h r lt unheld stamped held live cap = record {
  stamped = stamped;
  live = live;
  twice = cap ∙ r.twice;
  under = subst (AreHomes (set homes h.frame h.home)) (sym held) (homes-joined homes (held_in stamps entries.items) h r.under unheld (let long = r.long in omega arith));
  long = length-set homes h.frame h.home ∙ r.long;
}

-- a frame is given back
pub IsRing-given : (entries new : Buffer Entry) (stamps then_stamps homes : List ℕ) (f : ℕ) → IsRing entries stamps homes → length then_stamps ≡ length stamps
    → AreStamped new then_stamps → held_in then_stamps new.items ≡ filter (is_other f) (held_in stamps entries.items) → IsLiveFirst then_stamps new.items → new.capacity ≡ entries.capacity → IsRing new then_stamps homes
IsRing-given entries new stamps then_stamps homes f r long stamped held live cap = record {
  stamped = stamped;
  live = live;
  twice = let twice = r.twice in omega arith;
  under = subst (AreHomes homes) (sym held) (All-filter (is_other f) (λ h. get_or homes h.frame 0 ≡ h.home) (held_in stamps entries.items) r.under);
  long = r.long ∙ sym long;
}

pub held-of-unstamped : (hs : List Held) → map (λ (e : Entry). e.held) (map unstamped hs) ≡ hs
held-of-unstamped [] = refl
held-of-unstamped (h ∷ hs) = ap (λ (r : List Held). h ∷ r) (held-of-unstamped hs)

pub zeros : (stamps : List ℕ) (n : ℕ) → stamps ≡ replicate n 0 → (k : ℕ) → k < length stamps → get_or stamps k 0 ≡ 0
zeros stamps n is k lt = ap (λ (ss : List ℕ). get_or ss k 0) is ∙ get_or-replicate n k 0 0 (omega (arith, ap length is, length-replicate {A = ℕ} n 0))

-- the ring after a restart: each entry is live
module _ (stamps : List ℕ) (hs : List Held) (zero : (k : ℕ) → k < length stamps → get_or stamps k 0 ≡ 0) (below : All (λ h. h.frame < length stamps) hs) where
  pub held-rebuilt : held_in stamps (map unstamped hs) ≡ hs
  held-rebuilt = held-unstamped stamps hs (λ k d lt. zero (get_or hs k d).frame (below k d lt))

  -- a ring of what the map says
  pub IsRing-rebuilt : (entries : Buffer Entry) (homes : List ℕ) → entries.items ≡ map unstamped hs → entries.capacity ≡ 2 * length stamps → length hs ≤ length stamps → AreHomes homes hs → length homes ≡ length stamps → IsRing entries stamps homes
  IsRing-rebuilt entries homes is cap few are long = record {
    stamped = record {
      below = subst (All (λ e. e.held.frame < length stamps)) (sym is) low;
      past = subst (All (λ e. e.stamp ≤ get_or stamps e.held.frame 0)) (sym is) (All-map (λ e. e.stamp ≤ get_or stamps e.held.frame 0) unstamped hs (λ k d lt. omega arith));
      fits = omega (arith, ap length is, length-map hs unstamped);
    };
    live = subst (IsLiveFirst stamps) (sym is) (first hs (λ h lt. zero h.frame lt) below);
    twice = cap;
    under = subst (AreHomes homes) (sym (ap (held_in stamps) is ∙ held-rebuilt)) are;
    long = long;
  }
    where
      low : All (λ e. e.held.frame < length stamps) (map unstamped hs)
      low = All-map (λ e. e.held.frame < length stamps) unstamped hs below

      first : (xs : List Held) → ((h : Held) → h.frame < length stamps → get_or stamps h.frame 0 ≡ 0) → All (λ h. h.frame < length stamps) xs → IsLiveFirst stamps (map unstamped xs)
      first [] none all = tt
      first (h ∷ rest) none all = eq-eqb (get_or stamps h.frame 0) 0 (none h (all 0 h (omega arith)))

-- the ring has room for all frames
pub ring-room : (cleared room n frames : ℕ) → cleared ≡ room → room ≡ 2 * n → n ≡ frames → frames ≤ cleared
ring-room cleared room n frames same twice count = omega arith
