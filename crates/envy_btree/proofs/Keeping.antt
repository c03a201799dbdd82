-- What a change keeps, after look-ups.
use Rattle.std.proofs.Common.{◌≡◌, ◌⊎◌, ℕ, ◌+◌, ◌-◌, ◌^◌, ◌<◌, ◌≤◌, Bool, true, false, IsTrue, [], length, Result, Ok, Err, refl, ap, sym, ◌∙◌, inl, inr, arith}
use Rattle.std.proofs.lemmas.Bool.{cases_lt}
use Rattle.envy_base.specs.declared.board.Trouble.{Trouble}
use Rattle.envy_base.specs.declared.board.Trouble.TheVariants.{Off, Bad}
use Rattle.envy_array.specs.Words.{Sheet, Works, Keeps, Fails}
use Rattle.envy_base.specs.Counting.{Rose}
use Rattle.envy_btree.specs.Answers.{Tried}

on_or_off : (b : Bool) → IsTrue b ⊎ (b ≡ false)
on_or_off true = inl refl
on_or_off false = inr refl

rose-low : (a b c : ℕ) → Rose a b → b ≤ c → Rose a c
rose-low a b c r le lt = let h = r lt in omega arith

pub rose-high : (a b c : ℕ) → a ≤ b → b ≤ c → Rose b c → Rose a c
rose-high a b c ab bc r lt = elim (cases_lt b (2 ^ 64 - 1)) [ inl l ↦ (let h : b < c = r l in omega arith) | inr g ↦ omega arith ]

-- words beside that are all kept stay
stays-beside : (k : ℕ) (a b : Sheet) → Works k a b → a.beside ≡ a.kept_beside → b.beside ≡ a.beside
stays-beside k a b w calm = elim w.beside [ inl same ↦ same | inr gone ↦ gone.1 ∙ sym calm ]

-- calls that keep words beside, one after another
beside-on : (a b c : Sheet) → (a.beside ≡ a.kept_beside → (b.beside ≡ a.beside) × (b.kept_beside ≡ a.kept_beside)) → (b.beside ≡ b.kept_beside → (c.beside ≡ b.beside) × (c.kept_beside ≡ b.kept_beside)) → a.beside ≡ a.kept_beside → (c.beside ≡ a.beside) × (c.kept_beside ≡ a.kept_beside)
beside-on a b c v w calm = let s = v calm in let t = w (s.0 ∙ calm ∙ sym s.1) in (t.0 ∙ s.0, t.1 ∙ s.1)

-- work keeps what calls keep
pub keeps-works : (k : ℕ) (a b : Sheet) → Works k a b → Keeps a b
keeps-works k a b w = record { long = w.long; room = w.room; fixed = w.fixed; notes = w.notes; cuts = w.cuts; bads = w.bads; dark = w.dark; cut = w.cut; beside = λ calm. (stays-beside k a b w calm, w.kept_beside) }

-- and so does a call after it
pub works-keep : (k : ℕ) (a b c : Sheet) → Works k a b → Keeps b c → Keeps a c
works-keep k a b c v w = record {
  long = w.long ∙ v.long;
  room = w.room ∙ v.room;
  fixed = w.fixed ∙ v.fixed;
  notes = w.notes ∙ v.notes;
  cuts = omega (arith, v.cuts, w.cuts);
  bads = omega (arith, v.bads, w.bads);
  dark = λ e. w.dark (v.dark e);
  cut = λ on off. elim (on_or_off b.on) [ inl y ↦ rose-high a.cuts b.cuts c.cuts v.cuts w.cuts (w.cut y off) | inr n ↦ rose-low a.cuts b.cuts c.cuts (v.cut on n) w.cuts ];
  beside = beside-on a b c (Keeps.beside (keeps-works k a b v)) w.beside;
}

-- a call, work in the transaction that it began, and the call that ends it
pub keeps-through : (k : ℕ) (a b c d : Sheet) → Keeps a b → Works k b c → Keeps c d → Keeps a d
keeps-through k a b c d u v w =
    let z = works-keep k b c d v w in
    record {
      long = z.long ∙ u.long;
      room = z.room ∙ u.room;
      fixed = z.fixed ∙ u.fixed;
      notes = z.notes ∙ u.notes;
      cuts = omega (arith, u.cuts, z.cuts);
      bads = omega (arith, u.bads, z.bads);
      dark = λ e. z.dark (u.dark e);
      cut = λ on off. elim (on_or_off b.on) [ inl y ↦ rose-high a.cuts b.cuts d.cuts u.cuts z.cuts (z.cut y off) | inr n ↦ rose-low a.cuts b.cuts d.cuts (u.cut on n) z.cuts ];
      beside = beside-on a b d u.beside z.beside;
    }

pub tried-of : (k : ℕ) (a b : Sheet) (r : Result Unit Trouble) → IsTrue a.started → Works k a b → Fails a r b → Tried r b
tried-of k a b (Ok u) begun w f = w.still f ∙ begun
tried-of k a b (Err Off) begun w f = f
tried-of k a b (Err Bad) begun w f = w.still f.0 ∙ begun

pub begun-room : (n : ℕ) (a b : Sheet) → b.pages ≡ [] → b.room ≡ a.room → n ≤ a.room → length b.pages + n ≤ b.room
begun-room n a b none same enough = omega (arith, ap length none, same)
