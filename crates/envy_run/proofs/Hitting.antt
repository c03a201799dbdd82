-- The cache and the counters follow the turns.
use Rattle.std.proofs.Common.{◌≡◌, subst, ℕ, ◌+◌, ◌%◌, ◌≤◌, Bool, true, false, List, [], ◌∷◌, length, refl, sym, ◌∙◌, ap, arith}
use Rattle.std.specs.Prelude.{not, if◌then◌else◌, ◌==◌, Option, None, Some, IfSome}
use Rattle.std.proofs.lemmas.Nat.{mod_below}
use Rattle.envy_base.proofs.Counting.{up-least}
use Rattle.envy_base.specs.Counting.{Tally, up}
use Rattle.envy_array.specs.declared.counts.Counts.{Counts}
use Rattle.envy_base.specs.declared.shape.Shape.{Shape}
use Rattle.envy_engine.proofs.CountLemmas.{Tallies-trans}
use Rattle.envy_engine.specs.Counts.{Tallies, Tally3}
use Rattle.envy_memory.specs.Picture.{Picture, counts_of}
use Rattle.envy_serve.specs.Turns.{one_if}
use Rattle.envy_table.specs.Entries.{Entry, Translations, entry, holds, is_hit as is_held}
use Rattle.envy_table.specs.Hits.{page_at, page_in}
use Rattle.envy_trace.specs.declared.line.Line.{Line}
use Rattle.envy_trace.specs.declared.reply.Reply.{Reply}
use Rattle.envy_run.specs.Counters.{NoneFell, counter, is_empty, just_told, last_told, or_else, told_in}
use Rattle.envy_run.specs.Hits.{accessed, counted, decides, hits_in, is_hit, is_restarted, misses_in}
use Rattle.envy_run.specs.Tells.{CanTell, Notes, Telling, Tracks, Translates, hits_after, last_in, misses_after, placed}
use Rattle.envy_run.specs.Turns.{TraceTurn}

abbrev pub is_page : ℕ → Option ℕ → Bool
is_page page None = false
is_page page (Some other) = other == page

-- an access hits where its page was the last at its entry
hit-is : (entries page : ℕ) (turns : List TraceTurn) → is_hit entries page turns ≡ is_page page (last_in entries (page % entries) turns)
hit-is entries page [] = refl
hit-is entries page (turn ∷ earlier) = at (is_restarted turn.replies) (accessed turn.line turn.replies) (hit-is entries page earlier)
  where
    some : (other : ℕ) (t : Bool) → is_hit entries page earlier ≡ is_page page (last_in entries (page % entries) earlier) → (if t then other == page else is_hit entries page earlier) ≡ is_page page (if t then Some other else last_in entries (page % entries) earlier)
    some other true e = refl
    some other false e = e

    at : (t : Bool) (o : Option ℕ) → is_hit entries page earlier ≡ is_page page (last_in entries (page % entries) earlier) → (if t then false else decides entries page o (is_hit entries page earlier)) ≡ is_page page (if t then None else placed entries (page % entries) o (last_in entries (page % entries) earlier))
    at true o e = refl
    at false None e = e
    at false (Some other) e = some other ((page % entries) == (other % entries)) e

holds-is : (e : Entry) (page : ℕ) → holds e page ≡ is_page page (page_in e)
holds-is None page = refl
holds-is (Some kept) page = refl

held-is : (entries page : ℕ) (turns : List TraceTurn) (cache : Translations) → Tracks entries turns cache → is_held cache.entries page ≡ is_hit entries page turns
held-is entries page turns cache t =
    holds-is (entry cache.entries (page % length cache.entries)) page
    ∙ ap (λ (n : ℕ). is_page page (page_at cache.entries (page % n))) t.size
    ∙ ap (is_page page) (t.pages (page % entries) (mod_below page entries t.some))
    ∙ sym (hit-is entries page turns)

-- a counter that is raised shows one more
counter-up : (n : ℕ) → up (counter n) ≡ counter (n + 1)
unfolding up
counter-up n = omega arith

counter-none : (n : ℕ) → counter n ≡ counter (n + 0)
counter-none n = ap counter (omega arith)

-- the hits counted are those of the turns, and of this access
hits-so : (entries : ℕ) (turns : List TraceTurn) (cache : Translations) (page : Option ℕ) → Tracks entries turns cache → hits_after page cache.entries cache.hits ≡ counter (hits_in entries turns + counted (λ hit. hit) entries page turns)
hits-so entries turns cache None t = t.hits ∙ counter-none (hits_in entries turns)
hits-so entries turns cache (Some page) t = rw (held-is entries page turns cache t) (at (is_hit entries page turns))
  where
    at : (b : Bool) → (if b then up cache.hits else cache.hits) ≡ counter (hits_in entries turns + one_if b)
    at true = ap up t.hits ∙ counter-up (hits_in entries turns)
    at false = t.hits ∙ counter-none (hits_in entries turns)

-- and the misses
misses-so : (entries : ℕ) (turns : List TraceTurn) (cache : Translations) (page : Option ℕ) → Tracks entries turns cache → misses_after page cache.entries cache.misses ≡ counter (misses_in entries turns + counted not entries page turns)
misses-so entries turns cache None t = t.misses ∙ counter-none (misses_in entries turns)
misses-so entries turns cache (Some page) t = rw (held-is entries page turns cache t) (at (is_hit entries page turns))
  where
    at : (b : Bool) → (if b then cache.misses else up cache.misses) ≡ counter (misses_in entries turns + one_if (not b))
    at true = t.misses ∙ counter-none (misses_in entries turns)
    at false = ap up t.misses ∙ counter-up (misses_in entries turns)

-- one line more
tracks-more : (entries : ℕ) (turn : TraceTurn) (turns : List TraceTurn) (old new : Translations) → Tracks entries turns old → Translates turn.line turn.replies old new → Tracks entries (turn ∷ turns) new
tracks-more entries turn turns old new t does = record {
  some = t.some;
  size = does.size ∙ t.size;
  pages = λ i lt. does.pages i ∙ ap (λ (n : ℕ). if is_restarted turn.replies then None else placed n i (accessed turn.line turn.replies) (page_at old.entries i)) t.size ∙ ap (λ (before : Option ℕ). if is_restarted turn.replies then None else placed entries i (accessed turn.line turn.replies) before) (t.pages i lt);
  hits = does.hits ∙ hits-so entries turns old (accessed turn.line turn.replies) t;
  misses = does.misses ∙ misses-so entries turns old (accessed turn.line turn.replies) t;
}

-- no counter falls
after-least : (page : Option ℕ) (entries : List Entry) (n : ℕ) → (n ≤ hits_after page entries n) × (n ≤ misses_after page entries n)
after-least None entries n = (omega arith, omega arith)
after-least (Some page) entries n = at (is_held entries page)
  where
    at : (b : Bool) → (n ≤ (if b then up n else n)) × (n ≤ (if b then n else up n))
    at true = (up-least n, omega arith)
    at false = (omega arith, up-least n)

fell-none : (line : Line) (replies : List Reply) (old new : Picture) → Notes line replies old new → NoneFell (counts_of old.parts) (counts_of new.parts)
fell-none line replies old new notes =
    let does = notes.cache in
    let (hits, misses) = after-least (accessed line replies) old.parts.cache.entries old.parts.cache.hits in
    let (hits2, misses2) = after-least (accessed line replies) old.parts.cache.entries old.parts.cache.misses in
    let more = Translates.hits does in
    let missed = Translates.misses does in
    record {
      hits = omega arith;
      misses = omega arith;
      flushes = Tally3.first (Tallies.programs notes.tallies);
      copies = Tally3.second (Tallies.programs notes.tallies);
      moves = Tally3.third (Tallies.programs notes.tallies);
      erases = Tally.second (Tallies.erases notes.tallies);
      swaps = notes.swaps;
    }

fell-trans : (a b c : Counts) → NoneFell a b → NoneFell b c → NoneFell a c
fell-trans a b c x y = record {
  hits = let p = x.hits in let q = y.hits in omega arith;
  misses = let p = x.misses in let q = y.misses in omega arith;
  flushes = let p = x.flushes in let q = y.flushes in omega arith;
  copies = let p = x.copies in let q = y.copies in omega arith;
  moves = let p = x.moves in let q = y.moves in omega arith;
  erases = let p = x.erases in let q = y.erases in omega arith;
  swaps = let p = x.swaps in let q = y.swaps in omega arith;
}

fell-refl : (a : Counts) → NoneFell a a
fell-refl a = record { hits = omega arith; misses = omega arith; flushes = omega arith; copies = omega arith; moves = omega arith; erases = omega arith; swaps = omega arith }

-- what was told last, by this line or before it
fell-more : (told before : Option Counts) (old new : Counts) → NoneFell old new → IfSome told (λ c. c ≡ new) → IfSome before (λ c. NoneFell c old) → IfSome (or_else told before) (λ c. NoneFell c new)
fell-more None None old new fell told never = tt
fell-more None (Some counts) old new fell told never = fell-trans counts old new never fell
fell-more (Some counts) before old new fell told never = subst (λ (c : Counts). NoneFell c new) (sym told) (fell-refl new)

-- what the last line told is what is counted now
last-more : (first : Picture) (turn : TraceTurn) (turns : List TraceTurn) (old new : Picture) → IfSome (just_told turns) (λ c. c ≡ counts_of old.parts) → Notes turn.line turn.replies old new → IfSome (just_told (turn ∷ turns)) (λ c. c ≡ counts_of new.parts)
last-more first turn turns old new last notes = at (is_empty turn.line) notes.empty
  where
    at : (b : Bool) → (b ≡ true → new ≡ old) → IfSome (if b then just_told turns else told_in turn.replies) (λ c. c ≡ counts_of new.parts)
    at true same = subst (λ (p : Picture). IfSome (just_told turns) (λ c. c ≡ counts_of p.parts)) (sym (same refl)) last
    at false same = notes.tells

-- and so from line to line
pub telling-more : (first : Picture) (turn : TraceTurn) (turns : List TraceTurn) (old new : Picture) → Telling first turns old → new.chart.shape ≡ old.chart.shape → Notes turn.line turn.replies old new → Telling first (turn ∷ turns) new
telling-more first turn turns old new t shape notes = record {
  can = record {
    tracks = subst (λ (sh : Shape). Tracks sh.entries (turn ∷ turns) new.parts.cache) (sym shape) (tracks-more old.chart.shape.entries turn turns old.parts.cache new.parts.cache (CanTell.tracks t.can) notes.cache);
    never_fell = fell-more (told_in turn.replies) (last_told turns) (counts_of old.parts) (counts_of new.parts) (fell-none turn.line turn.replies old new notes) notes.tells (CanTell.never_fell t.can);
  };
  last = last-more first turn turns old new t.last notes;
  tallies = Tallies-trans _ _ _ _ _ _ t.tallies notes.tallies;
}
