-- When a put gives which answer.
use Rattle.std.proofs.Common.{Bool, ◌≡◌, ◌≢◌, false, true, ℕ, ◌*◌, ◌/◌, ◌<◌, ◌≤◌, length, Some, None, Ok, Err, refl, sym, ◌∙◌, ap, subst, arith, rules}
use Rattle.std.specs.Prelude.{IsTrue, IsErrOf, Result, ◌↔◌}
use Rattle.envy_base.specs.declared.board.Trouble.{Trouble}
use Rattle.envy_base.specs.declared.board.Trouble.TheVariants.{Off as TroubleOff, Bad as TroubleBad}
use Rattle.envy_base.specs.declared.fields.Slot.TheVariants.{Active}
use Rattle.std.proofs.lemmas.List.{get_or_past}
use Rattle.envy_soundness.specs.Sound.{Sound, Slots, IsSound}
use Rattle.envy_map.specs.Fields.{Chart, slot}
use Rattle.envy_txn.specs.Owners.{owner_of}
use Rattle.envy_memory.specs.Below.{PutsBelow, IsPast, IsShutTo, IsKeptFrom, IsFull}
use Rattle.envy_memory.specs.Calls.{IsCut, HasFailed, Undisturbed}
use Rattle.envy_soundness.specs.Power.{power_after}
use Rattle.envy_memory.specs.Effects.{PutVisits}
use Rattle.envy_memory.specs.Faults.{put_fault, IsNoRefusal}
use Rattle.envy_memory.specs.Picture.{Picture}
use Rattle.envy_memory.specs.declared.faults.PutFault.{PutFault}
use Rattle.envy_memory.specs.declared.faults.PutFault.TheVariants.{Off, Range, Closed, Held, Full, Bad}

abbrev pub Answer : Type 0
Answer = Result Unit PutFault

-- the refusals of a put that met picture p
pub record Refuses (t a : ℕ) (r : Result Unit PutFault) (p : Picture) : Type 0 where
  pub range : (r ≡ Err Range) ↔ IsPast a p
  pub closed : (r ≡ Err Closed) ↔ IsShutTo t a p
  pub held : (u : ℕ) → (r ≡ Err (Held u)) ↔ IsKeptFrom u t a p
  pub full : (r ≡ Err Full) ↔ IsFull t a p

pub dark : (p : Picture) → p.chart.on ≡ false → IsTrue p.chart.on → ⊥
dark p off on = let no : false ≡ true = sym off ∙ on in cc

never : (a n : ℕ) → n ≤ a → a < n → ⊥
never a n le lt = omega arith

pub past-of : (a n pages : ℕ) → n ≡ pages → n ≤ a / 32 → 32 * pages ≤ a
past-of a n pages is le = omega arith

pub inside-of : (a n pages : ℕ) → n ≡ pages → a / 32 < n → a < 32 * pages
inside-of a n pages is lt = omega arith

pub beyond-slots : (c : Chart) (t : ℕ) → IsSound c → 64 ≤ t → slot c.fields t ≢ Some Active
beyond-slots c t sound le is =
    let past = get_or_past c.fields.slots t None (rw (Slots.long (Sound.slots sound)) le) in
    let no : None ≡ Some Active = sym past ∙ is in
    cc

pub refuses-off : (t a : ℕ) (p : Picture) → p.chart.on ≡ false → Refuses t a (Err Off) p
refuses-off t a p off = record {
  range = ((λ e. cc), (λ x. absurd (dark p off x.0)));
  closed = ((λ e. cc), (λ x. absurd (dark p off x.0)));
  held = λ u. ((λ e. cc), (λ x. absurd (dark p off x.0)));
  full = ((λ e. cc), (λ x. absurd (dark p off x.0)));
}

pub refuses-past : (t a : ℕ) (p : Picture) → IsPast a p → Refuses t a (Err Range) p
refuses-past t a p is = record {
  range = ((λ e. is), (λ x. refl));
  closed = ((λ e. cc), (λ x. absurd (never a (32 * p.chart.shape.pages) is.1 x.1)));
  held = λ u. ((λ e. cc), (λ x. absurd (never a (32 * p.chart.shape.pages) is.1 x.1)));
  full = ((λ e. cc), (λ x. absurd (never a (32 * p.chart.shape.pages) is.1 x.1)));
}

pub refuses-shut : (t a : ℕ) (p : Picture) → IsShutTo t a p → Refuses t a (Err Closed) p
refuses-shut t a p is = record {
  range = ((λ e. cc), (λ x. absurd (never a (32 * p.chart.shape.pages) x.1 is.1)));
  closed = ((λ e. is), (λ x. refl));
  held = λ u. ((λ e. cc), (λ x. absurd (is.2 x.2)));
  full = ((λ e. cc), (λ x. absurd (is.2 x.2)));
}

pub refuses-kept : (t a v : ℕ) (p : Picture) → IsKeptFrom v t a p → Refuses t a (Err (Held v)) p
refuses-kept t a v p is = record {
  range = ((λ e. cc), (λ x. absurd (never a (32 * p.chart.shape.pages) x.1 is.1)));
  closed = ((λ e. cc), (λ x. absurd (x.2 is.2)));
  held = λ u. ((λ e. let same : v ≡ u = cc in subst (λ (w : ℕ). IsKeptFrom w t a p) same is), (λ x. let own = is.3 in let its = x.3 in let same : v ≡ u = cc in ap (λ (w : ℕ). Err (Held w)) same));
  full = ((λ e. cc), (λ x. let own = is.3 in let its = x.3 in cc));
}

pub refuses-full : (t a : ℕ) (p : Picture) → IsFull t a p → Refuses t a (Err Full) p
refuses-full t a p is = record {
  range = ((λ e. cc), (λ x. absurd (never a (32 * p.chart.shape.pages) x.1 is.1)));
  closed = ((λ e. cc), (λ x. absurd (x.2 is.2)));
  held = λ u. ((λ e. cc), (λ x. let own = is.3 in let its = x.3 in cc));
  full = ((λ e. is), (λ x. refl));
}

-- a put that was taken up: its slot owns the page, or nobody does, and there is room
pub taken-own : (t a : ℕ) (r : Result Unit PutFault) (p : Picture) → IsNoRefusal r → a < 32 * p.chart.shape.pages → slot p.chart.fields t ≡ Some Active → owner_of p.owned.pairs (a / 32) ≡ Some t → Refuses t a r p
taken-own t a r p done lt active own = record {
  range = ((λ e. absurd (subst IsNoRefusal e done)), (λ x. absurd (never a (32 * p.chart.shape.pages) x.1 lt)));
  closed = ((λ e. absurd (subst IsNoRefusal e done)), (λ x. absurd (x.2 active)));
  held = λ u. ((λ e. absurd (subst IsNoRefusal e done)), (λ x. let its = x.3 in let same : u ≡ t = cc in absurd (x.4 same)));
  full = ((λ e. absurd (subst IsNoRefusal e done)), (λ x. let its = x.3 in cc));
}

pub taken-first : (t a : ℕ) (r : Result Unit PutFault) (p : Picture) → IsNoRefusal r → a < 32 * p.chart.shape.pages → slot p.chart.fields t ≡ Some Active → owner_of p.owned.pairs (a / 32) ≡ None → length p.owned.pairs < p.chart.shape.shadows → Refuses t a r p
taken-first t a r p done lt active none room = record {
  range = ((λ e. absurd (subst IsNoRefusal e done)), (λ x. absurd (never a (32 * p.chart.shape.pages) x.1 lt)));
  closed = ((λ e. absurd (subst IsNoRefusal e done)), (λ x. absurd (x.2 active)));
  held = λ u. ((λ e. absurd (subst IsNoRefusal e done)), (λ x. let its = x.3 in cc));
  full = ((λ e. absurd (subst IsNoRefusal e done)), (λ x. absurd (filled (length p.owned.pairs) p.chart.shape.shadows x.4 room)));
}
  where
    filled : (n m : ℕ) → n ≡ m → n < m → ⊥
    filled n m is lt = omega arith

pub no-refusal : (e : Trouble) → IsNoRefusal (Err (put_fault e))
no-refusal TroubleOff = tt
no-refusal TroubleBad = tt

-- what a refusal leaves: all
pub lit-cut : (p : Picture) → IsCut p.chart p.chart
lit-cut p on off low = absurd (dark p off on)

pub below-refused : (t a : ℕ) (f : PutFault) (p : Picture) → PutVisits (a / 32) (Err f) p p → (IsNoRefusal (Err f) → ⊥) → PutsBelow t a (Err f) p p
below-refused t a f p visits rejects = record {
  unpowered = λ off. refl;
  works = search rules;
  counts = search rules;
  visits = visits;
  flushes = tt;
  does = tt;
  ends = tt;
  stops = λ is. absurd (rejects (subst IsNoRefusal (sym is) tt));
  kept = refl;
}

pub off-both : (p : Picture) → p.chart.on ≡ false → (◌≡◌ {A = Answer} (Err Off) (Err Off)) ↔ (p.chart.on ≡ false)
off-both p off = ((λ e. off), (λ x. refl))

pub lit-off : (f : PutFault) (p : Picture) → (IsNoRefusal (Err f) → ⊥) → IsTrue p.chart.on → (◌≡◌ {A = Answer} (Err f) (Err Off)) ↔ (p.chart.on ≡ false)
lit-off f p rejects on = ((λ e. absurd (rejects (subst IsNoRefusal (sym e) tt))), (λ x. absurd (dark p x on)))

pub lit-bad : (f : PutFault) (p : Picture) → (IsNoRefusal (Err f) → ⊥) → IsErrOf {T = Unit {0}} (Err f) Bad → HasFailed p.chart p.chart
lit-bad f p rejects is = absurd (rejects (subst IsNoRefusal (sym is) tt))

pub lit-complete : (f : PutFault) (p : Picture) → (IsNoRefusal (Err f) → ⊥) → Undisturbed p.chart p.chart → (◌≢◌ {A = Answer} (Err f) (Err Off)) × (◌≢◌ {A = Answer} (Err f) (Err Bad))
lit-complete f p rejects calm = ((λ e. rejects (subst IsNoRefusal (sym e) tt)), (λ e. rejects (subst IsNoRefusal (sym e) tt)))

pub off-complete : (p : Picture) → p.chart.on ≡ false → Undisturbed p.chart p.chart → (◌≢◌ {A = Answer} (Err Off) (Err Off)) × (◌≢◌ {A = Answer} (Err Off) (Err Bad))
off-complete p off calm = absurd (dark p off (Undisturbed.on calm))

pub done-off : (on : Bool) → on ≡ true → (◌≡◌ {A = Answer} (Ok tt) (Err Off)) ↔ (on ≡ false)
done-off on is = ((λ e. absurd (let no : Ok tt ≡ Err Off = e in cc)), (λ x. absurd (let no : false ≡ true = sym x ∙ is in cc)))

pub ended-off : (e : Trouble) (on : Bool) → on ≡ power_after {A = Unit {0}} (Err e) → (◌≡◌ {A = Answer} (Err (put_fault e)) (Err Off)) ↔ (on ≡ false)
ended-off TroubleOff on is = ((λ e. is), (λ x. refl))
ended-off TroubleBad on is = ((λ e. absurd (let no : Err Bad ≡ Err Off = e in cc)), (λ x. absurd (let no : false ≡ true = sym x ∙ is in cc)))

pub ended-bad : (e : Trouble) → IsErrOf {T = Unit {0}} (Err (put_fault e)) Bad → IsErrOf {T = Unit {0}} (Err e) TroubleBad
ended-bad TroubleBad is = refl
ended-bad TroubleOff is = absurd (let no : Err Off ≡ Err Bad = is in cc)

pub done-cut : (old new : Chart) → new.on ≡ true → IsCut old new
done-cut old new lit on off = absurd (let no : false ≡ true = sym off ∙ lit in cc)

pub done-complete : (◌≢◌ {A = Answer} (Ok tt) (Err Off)) × (◌≢◌ {A = Answer} (Ok tt) (Err Bad))
done-complete = ((λ e. absurd (let no : Ok tt ≡ Err Off = e in cc)), (λ e. absurd (let no : Ok tt ≡ Err Bad = e in cc)))

pub done-bad : (old new : Chart) → IsErrOf {T = Unit {0}} (Ok tt) Bad → HasFailed old new
done-bad old new is = absurd (let no : Ok tt ≡ Err Bad = is in cc)

pub off-bad : (p : Picture) → IsErrOf {T = Unit {0}} (Err Off) Bad → HasFailed p.chart p.chart
off-bad p is = absurd (let no : Err Off ≡ Err Bad = is in cc)
