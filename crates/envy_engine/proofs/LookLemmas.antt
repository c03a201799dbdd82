-- What a store or a put says, once the page was looked up, by what came before the look.
use Rattle.std.proofs.Common.{◌≡◌, ◌≢◌, inl, inr, ℕ, List, Option, None, Some, refl, sym, ◌∙◌, ap, subst}
use Rattle.std.specs.Prelude.{Result, OnOk, slice_get, Any}
use Rattle.envy_base.specs.declared.board.Trouble.{Trouble}
use Rattle.envy_base.specs.declared.fields.Place.{Place}
use Rattle.envy_base.specs.declared.fields.Place.TheVariants.{Absent, Row, Frame}
use Rattle.envy_frames.specs.Agreement.{IsElsewhere}
use Rattle.envy_frames.specs.declared.held.Held.{Held}
use Rattle.envy_map.specs.Fields.{Chart, place, undo}
use Rattle.envy_policy.specs.declared.choice.Choice.{Choice}
use Rattle.envy_policy.specs.declared.choice.Choice.TheVariants.{Free, Clean}
use Rattle.envy_policy.specs.History.{History, claimed, cleaned}
use Rattle.envy_space.specs.Pool.{Pool}
use Rattle.envy_table.specs.Entries.{Translations}
use Rattle.envy_victims.specs.Choosing.{ChoiceFor}
use Rattle.envy_engine.specs.Counts.{Counting}
use Rattle.envy_engine.specs.Flushing.{NotesBad, ChoosesBad, MakesRoom, IsProgrammed, StopsFor, Stops}
use Rattle.envy_engine.specs.Putting.{undo_for, PutsBy}
use Rattle.envy_engine.specs.Storing.{Brings, StoresBy}
use Rattle.envy_engine.specs.declared.parts.Parts.{Parts}
use Rattle.envy_engine.proofs.FlushLemmas.{on-ok}

NotesBad-same : (choice : Choice) (page : ℕ) (x y now : Parts) → x.chooser ≡ y.chooser → NotesBad choice page x now → NotesBad choice page y now
NotesBad-same (Free k) page x y now same noted = subst (λ (h : History). now.chooser ≡ claimed h k page) same noted
NotesBad-same (Clean k aside) page x y now same (inl noted) = inl (subst (λ (h : History). now.chooser ≡ cleaned h k) same noted)
NotesBad-same (Clean k aside) page x y now same (inr noted) = inr (subst (λ (h : History). now.chooser ≡ claimed (cleaned h k) k page) same noted)

ChoosesBad-same : (home page : ℕ) (old : Chart) (x y now : Parts) → x ≡ record y { cache = x.cache } → ChoosesBad home page old x now → ChoosesBad home page old y now
ChoosesBad-same home page old x y now is noted idle none =
    let chooser : x.chooser ≡ y.chooser = ap (λ (z : Parts). z.chooser) is in
    let space : x.space ≡ y.space = ap (λ (z : Parts). z.space) is in
    let c = noted idle (ap (λ (z : Parts). z.stages) is ∙ none) in
    (c.0, subst (λ (h : History). ChoiceFor h y.space home page c.0) chooser (subst (λ (s : Pool). ChoiceFor x.chooser s home page c.0) space c.1), NotesBad-same c.0 page x y now chooser c.2)

pub Stops-framed : (p k : ℕ) (old : Chart) (was x : Parts) (new : Chart) (now : Parts) → x ≡ record was { cache = x.cache } → place old.fields p ≡ Some (Frame k) → now.frames ≡ x.frames → ((home : ℕ) × Any (λ h. (h.frame ≡ k) × (h.home ≡ home)) x.frames.held × StopsFor home p old x new now) → Stops p old was new now
Stops-framed p k old was x new now looked here frames (home, held, stops) = record {
  frames = frames ∙ ap (λ (z : Parts). z.frames) looked;
  home = home;
  page = p;
  programmed = subst (λ (y : Option Place). IsProgrammed p y was.frames.held home p) (sym here)
      (subst (λ (hs : List Held). Any (λ h. (h.frame ≡ k) × (h.home ≡ home)) hs) (ap (λ (z : Parts). z.frames.held) looked) held, refl);
  noted = ChoosesBad-same home p old x was now looked stops.noted;
  looked = x;
  after_look = looked;
  halted = stops.halted;
}

programmed-oldest : (p : ℕ) (from : Place) (hs : List Held) (h : Held) → IsElsewhere (Some from) → slice_get hs 0 ≡ Some h → IsProgrammed p (Some from) hs h.home h.page
programmed-oldest p Absent hs h elsewhere first = (h, first, refl, refl)
programmed-oldest p (Row q) hs h elsewhere first = (h, first, refl, refl)
programmed-oldest p (Frame k) hs h elsewhere first = absurd (elsewhere k refl)

pub Stops-elsewhere : (p : ℕ) (from : Place) (old : Chart) (was x : Parts) (new : Chart) (now : Parts) → x ≡ record was { cache = x.cache } → place old.fields p ≡ Some from → IsElsewhere (place old.fields p) → now.frames ≡ x.frames → ((h : Held) × (slice_get x.frames.held 0 ≡ Some h) × StopsFor h.home h.page old x new now) → Stops p old was new now
Stops-elsewhere p from old was x new now looked here elsewhere frames (h, first, stops) = record {
  frames = frames ∙ ap (λ (z : Parts). z.frames) looked;
  home = h.home;
  page = h.page;
  programmed = subst (λ (y : Option Place). IsProgrammed p y was.frames.held h.home h.page) (sym here)
      (programmed-oldest p from was.frames.held h (subst (λ (y : Option Place). IsElsewhere y) here elsewhere) (subst (λ (hs : List Held). slice_get hs 0 ≡ Some h) (ap (λ (z : Parts). z.frames.held) looked) first));
  noted = ChoosesBad-same h.home h.page old x was now looked stops.noted;
  looked = x;
  after_look = looked;
  halted = stops.halted;
}

pub Stores-fetched : (p : ℕ) (old : Chart) (was x : Parts) (new : Chart) (now : Parts) (r : Result Unit Trouble) → x ≡ record was { cache = x.cache } → IsElsewhere (place old.fields p) → OnOk r ((mid : Chart) × (between : Parts) × MakesRoom old x mid between × Brings p mid between new now) → OnOk r (StoresBy p old was new now)
Stores-fetched p old was x new now r looked elsewhere makes =
    on-ok r _ _ (λ all. inr (record { elsewhere = elsewhere; looked = x; after_look = looked; mid = all.0; between = all.1; room = all.2; brings = all.3 })) makes

pub Puts-fetched : (t p : ℕ) (old : Chart) (was x : Parts) (new : Chart) (now : Parts) (r : Result Unit Trouble) → x ≡ record was { cache = x.cache } → IsElsewhere (place old.fields p) → OnOk r ((mid : Chart) × (between : Parts) × MakesRoom old x mid between × (b : Brings p mid between new now) × (undo new.fields p ≡ undo_for t b.from)) → OnOk r (PutsBy t p old was new now)
Puts-fetched t p old was x new now r looked elsewhere makes =
    on-ok r _ _ (λ all. inr (record { fetches = record { elsewhere = elsewhere; looked = x; after_look = looked; mid = all.0; between = all.1; room = all.2; brings = all.3 }; shadow = all.4 })) makes

value : Place → Option Place → Place
value from None = from
value from (Some x) = x

pub elsewhere-of : (x : Option Place) (from : Place) → x ≡ Some from → ((k : ℕ) → from ≢ Frame k) → IsElsewhere x
unfolding value
elsewhere-of x from is other k at = other k (ap (λ (o : Option Place). value from o) (sym is ∙ at))

-- the entries of the cache are no count of flash work
pub Counting-looked : (c d : Chart) (y z : Parts) (t : Translations) → Counting c (record y { cache = t }) d z → Counting c y d z
Counting-looked c d y z t w = record { tallies = record { programs = w.tallies.programs; erases = w.tallies.erases }; since = w.since; swaps = w.swaps; wearing = record { on = w.wearing.on; most = w.wearing.most } }
