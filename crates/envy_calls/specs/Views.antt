-- What a transaction sees, by a number: its own puts, and else what is committed.
use Rattle.std.specs.Prelude.{◌≡◌, ◌≢◌, ◌⊎◌, ◌↔◌, ◌*◌, ◌/◌, ◌<◌, ◌≤◌, ℕ, false, IsTrue, IfOk, OnOk, OnErr, length, slice_index, Option, None, Some, Result, Err}
use Rattle.envy_array.specs.Array.{Array, owner, page_of, undone}
use Rattle.envy_map.specs.Fields.{undo}
use Rattle.envy_soundness.specs.Sound.{slot_named as slot_of_undo}
use Rattle.envy_meaning.specs.Stands.{Stands}
use Rattle.envy_memory.specs.Picture.{Picture}
use Rattle.envy_memory.specs.declared.faults.LoadFault.{LoadFault}
use Rattle.envy_memory.specs.declared.faults.LoadFault.TheVariants.{Off as LoadOff, Range as LoadRange}
use Rattle.envy_calls.specs.Answers.{LoadsTo, LooksAt, slot_named}
use Rattle.envy_calls.specs.Codes.{number_of, load_code, loaded}
use Rattle.envy_calls.specs.declared.code.Code.TheVariants.{Empty}
use Rattle.envy_base.specs.declared.page.TheConstants.{PAGE_WORDS}

-- the word at an address for slot t: the array's where t owns its page, else the one that an undoing of all open
-- transactions would leave
abbrev pub Sees : Array → ℕ → ℕ → ℕ → Type 0
Sees m t a w =
    (a < length m.words)
    × (((owner m (page_of a) ≡ Some t) × (w ≡ slice_index m.words a))
    ⊎ ((owner m (page_of a) ≢ Some t) × (w ≡ slice_index (undone m) a)))

-- the page's undo names the slot
abbrev pub IsOwn : Picture → ℕ → ℕ → Type 0
IsOwn p t a = slot_of_undo (undo p.chart.fields (a / PAGE_WORDS)) ≡ Some t

-- A load where the slot owns the page, and else a look, which is no access to it.
pub record ViewsTo (p q : Picture) (t a code before after : ℕ) : Type 0 where
  pub answer : Result ℕ LoadFault
  pub coded : code ≡ number_of (load_code answer)
  pub written : after ≡ loaded before answer
  pub sees : IfOk answer (λ w. (m : Array) → Stands p.chart m → Sees m t a w)
  pub off : (answer ≡ Err LoadOff) ↔ (p.chart.on ≡ false)
  pub range : (answer ≡ Err LoadRange) ↔ (IsTrue p.chart.on × (PAGE_WORDS * p.chart.shape.pages ≤ a))
  pub own : OnOk answer (IsOwn p t a → LoadsTo p q a code before after)
  pub other : OnOk answer ((IsOwn p t a → ⊥) → (q ≡ p) × LooksAt p a code before after)
  pub refused : OnErr answer (q ≡ p)

abbrev pub DoesView : Option Picture → Option Picture → ℕ → ℕ → ℕ → ℕ → ℕ → Type 0
DoesView None new t a code before after = (new ≡ None) × (code ≡ number_of Empty) × (after ≡ before)
DoesView (Some p) new t a code before after = (q : Picture) × (new ≡ Some q) × ViewsTo p q (slot_named t) a code before after
