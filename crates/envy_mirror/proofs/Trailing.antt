-- A side that is Behind while the other does commands.
use Rattle.std.proofs.Common.{◌≡◌, ◌≢◌, ◌⊎◌, inl, inr, ℕ, ◌*◌, ◌/◌, ◌<◌, Bool, true, false, List, [], length, get_or, set, None, Some, sym, ◌∙◌, ap, subst, arith}
use Rattle.std.proofs.lemmas.Bool.{cases_eq}
use Rattle.std.proofs.lemmas.List.{get_or-set_same, get_or-set_other}
use Rattle.envy_array.specs.Array.{Array, page_of, slot_of, with_slot, stored, put, aborted}
use Rattle.envy_array.specs.Step.{Command, Answer, Load, Look, Store, Begin, Put, Commit, Abort, Tick, Word, Done, Started, Range, Held, Closed, Full, Busy, Step}
use Rattle.envy_array.proofs.Keeping.{first-closed}
use Rattle.envy_array.proofs.Owning.{owner-None, owner-begun, owner-alike, owner-put_there}
use Rattle.envy_array.proofs.Undoing.{has, has-unowned, put_back-unsaved}
use Rattle.envy_map.specs.Fields.{Chart}
use Rattle.envy_mirror.specs.Mirroring.{IsFreshAt, Trails, is_stale}
use Rattle.envy_mirror.specs.Replies.{Said, marked}

-- a page that isn't stale once another was marked wasn't, and isn't the other
apart : (stale : List Bool) (p q : ℕ) → p < length stale → get_or (set stale p true) q false ≡ false → (q ≢ p) × (get_or stale q false ≡ false)
apart stale p q lt un = at (cases_eq q p)
  where
    at : (q ≡ p) ⊎ (q ≡ p → ⊥) → (q ≢ p) × (get_or stale q false ≡ false)
    at (inl same) =
        let hit : get_or (set stale p true) q false ≡ true = rw same (get_or-set_same stale p true false lt) in
        let clash : true ≡ false = sym hit ∙ un in cc
    at (inr other) = (other, sym (get_or-set_other stale p q true false other) ∙ un)

fresh-same : (c : Chart) (m n : Array) (x : ℕ) → n ≡ m → IsFreshAt c m x → IsFreshAt c n x
fresh-same c m n x same = subst (λ (k : Array). IsFreshAt c k x) (sym same)

fresh-closed : (c : Chart) (m : Array) (t x : ℕ) → IsFreshAt c m x → IsFreshAt c (with_slot m t None) x
fresh-closed c m t x f = record { free = owner-alike m t (page_of x) None (sym (owner-None m (page_of x) f.free t)) ∙ f.free; same = f.same }

fresh-step : (c : Chart) (stale : List Bool) (m n : Array) (command : Command) (answer : Answer) (x : ℕ) → length m.words ≡ 32 * length stale → Step m command answer n → is_stale (marked command (Said answer) stale) (x / 32) ≡ false → (is_stale stale (x / 32) ≡ false → IsFreshAt c m x) → IsFreshAt c n x
fresh-step c stale m n (Load a) (Word w) x long (lt, is, same) un old = fresh-same c m n x same (old un)
fresh-step c stale m n (Load a) Range x long (le, same) un old = fresh-same c m n x same (old un)
fresh-step c stale m n (Look a) (Word w) x long (lt, is, same) un old = fresh-same c m n x same (old un)
fresh-step c stale m n (Look a) Range x long (le, same) un old = fresh-same c m n x same (old un)
fresh-step c stale m n (Store a w) Range x long (le, same) un old = fresh-same c m n x same (old un)
fresh-step c stale m n (Store a w) (Held u) x long (lt, is, same) un old = fresh-same c m n x same (old un)
fresh-step c stale m n (Store a w) Done x long (lt, free, same) un old =
    let far = apart stale (a / 32) (x / 32) (omega arith) un in
    let f = old far.1 in
    fresh-same c (stored m a w) n x same (record { free = f.free; same = f.same ∙ sym (get_or-set_other m.words a x w 0 (λ e. far.0 (ap page_of e))) })
fresh-step c stale m n Begin Busy x long (none, same) un old = fresh-same c m n x same (old un)
fresh-step c stale m n Begin (Started t) x long (first, same) un old =
    let f = old un in
    fresh-same c (with_slot m t (Some [])) n x same (record { free = owner-begun m t (page_of x) (first-closed m t first).1 ∙ f.free; same = f.same })
fresh-step c stale m n (Put t a w) Range x long (le, same) un old = fresh-same c m n x same (old un)
fresh-step c stale m n (Put t a w) Closed x long (lt, closed, same) un old = fresh-same c m n x same (old un)
fresh-step c stale m n (Put t a w) (Held u) x long (lt, is_open, is, other, same) un old = fresh-same c m n x same (old un)
fresh-step c stale m n (Put t a w) Full x long (lt, is_open, free, full, same) un old = fresh-same c m n x same (old un)
fresh-step c stale m n (Put t a w) Done x long (lt, may, saved, is, same) un old =
    let far = apart stale (a / 32) (x / 32) (omega arith) un in
    let f = old far.1 in
    fresh-same c (put m t saved a w) n x same (record { free = owner-put_there m t (page_of x) a w saved is far.0 ∙ f.free; same = f.same ∙ sym (get_or-set_other m.words a x w 0 (λ e. far.0 (ap page_of e))) })
fresh-step c stale m n (Commit t) Closed x long (closed, same) un old = fresh-same c m n x same (old un)
fresh-step c stale m n (Commit t) Done x long (is_open, same) un old = fresh-same c (with_slot m t None) n x same (fresh-closed c m t x (old un))
fresh-step c stale m n (Abort t) Closed x long (closed, same) un old = fresh-same c m n x same (old un)
fresh-step c stale m n (Abort t) Done x long (saved, is, same) un old =
    let f = old un in
    let none : has x (Some saved) ≡ false = rw is at (has-unowned x (slot_of m t) (owner-None m (page_of x) f.free t)) in
    fresh-same c (aborted m t saved) n x same (record { free = IsFreshAt.free (fresh-closed c m t x f); same = f.same ∙ sym (put_back-unsaved saved m.words x 0 none) })
fresh-step c stale m n Tick Done x long same un old = fresh-same c m n x same (old un)
fresh-step c stale m n command answer x long never un old = absurd never

-- a side that is Behind goes on to trail the array
pub Trails-step : (c : Chart) (stale : List Bool) (m n : Array) (command : Command) (answer : Answer) → length m.words ≡ 32 * length stale → Step m command answer n → length (marked command (Said answer) stale) ≡ length stale → Trails c stale m → Trails c (marked command (Said answer) stale) n
Trails-step c stale m n command answer long step size t = record {
  closed = t.closed;
  fresh = λ x lt un. fresh-step c stale m n command answer x long step un (λ before. t.fresh x (rw (← size) lt) before);
}
