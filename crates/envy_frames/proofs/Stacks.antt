-- The stack of the frames that no held item has, and what `take` and `give_back` make of it.
use Rattle.std.proofs.Common.{◌≡◌, ◌≢◌, ◌⊎◌, inl, inr, ℕ, suc, ◌+◌, ◌*◌, ◌^◌, ◌<◌, ◌≤◌, Bool, true, false, cond, not, ◌&&◌, ◌||◌, List, [], ◌∷◌, ◌++◌, length, get_or, zero-add, Some, refl, sym, ◌∙◌, ap, subst, arith}
use Rattle.std.specs.Prelude.{◌==◌, ◌↔◌, IsNone}
use Rattle.std.specs.List.{filter, All, AllPairs, Any, range_with_len}
use Rattle.std.proofs.lemmas.List.{length_push, get_or_default}
use Rattle.std.proofs.lemmas.List.Elements.{All-filter, All-push, filter_passes, filter_agree, filter-append}
use Rattle.std.proofs.lemmas.List.Sums.{length-filter, count_by-le-length}
use Rattle.std.proofs.lemmas.List.Folds.{list_any-from_Any, list_any_none}
use Rattle.std.proofs.lemmas.List.FromFn.{length-range_with_len}
use Rattle.std.proofs.lemmas.List.Kept.{AllPairs-filter}
use Rattle.std.proofs.lemmas.List.Quantifiers.{all_pairs_push}
use Rattle.std.proofs.lemmas.Bool.{both_ways, cases_eq, eq-eqb, ne_eqb, not-true}
use Rattle.envy_frames.specs.declared.held.Held.{Held}
use Rattle.envy_frames.specs.Order.{Order, IsApart, IsOrder, IsFrames, IsUnheld, is_other, has_frame, others_of}
use Rattle.envy_frames.proofs.Lists.{AllPairs-head, AllPairs-tail, All-left, AllPairs-left, AllPairs-last, All-last, Any-filter, filter_all, filter-filter, length-without, range_more, range_apart, range_below, range_has}

-- the frame of another item is another
pub other-frame : (k : ℕ) (h : Held) → is_other k h ≡ true → h.frame ≢ k
other-frame k h e same = both_ways (h.frame == k) (not-true (h.frame == k) e) (eq-eqb h.frame k same)

pub unheld-from_test : (held : List Held) (f : ℕ) → has_frame held f ≡ false → IsUnheld held f
unheld-from_test held f none k d lt same = both_ways (has_frame held f) none (list_any-from_Any (λ (h : Held). h.frame == f) held (k, get_or held k d, lt, get_or_default held k (get_or held k d) d lt, eq-eqb (get_or held k d).frame f same))

pub test-from_unheld : (held : List Held) (f : ℕ) → IsUnheld held f → has_frame held f ≡ false
test-from_unheld held f unheld = list_any_none (λ (h : Held). h.frame == f) held (λ k d lt. ne_eqb (get_or held k d).frame f (unheld k d lt))

-- a held frame is no unheld one
pub held-differs : (held : List Held) (f k : ℕ) → IsUnheld held f → Any (λ h. h.frame ≡ k) held → f ≢ k
held-differs held f k unheld (i, h, lt, is, same) e = unheld i h lt (ap (λ (x : Held). x.frame) is ∙ same ∙ sym e)

not-either : (k f : ℕ) (b : Bool) → not ((k == f) || b) ≡ (not (f == k) && not b)
not-either k f b = at (cases_eq k f)
  where
    at : (k ≡ f) ⊎ (k ≡ f → ⊥) → not ((k == f) || b) ≡ (not (f == k) && not b)
    at (inl same) = rw (eq-eqb k f same, eq-eqb f k (sym same)) refl
    at (inr other) = rw (ne_eqb k f other, ne_eqb f k (λ e. other (sym e))) refl

-- each frame is held or not
pub length-others : (held : List Held) (n : ℕ) → All (λ h. h.frame < n) held → AllPairs IsApart held → length (others_of held n) + length held ≡ n
length-others [] n below apart =
    omega (arith, ap length (filter_all (λ (f : ℕ). true) (range_with_len 0 n) (λ k d lt. refl)), length-range_with_len 0 n)
length-others (h ∷ held) n below apart =
    let rest : length (others_of held n) + length held ≡ n = length-others held n (λ k d lt. below (suc k) d (omega arith)) (AllPairs-tail IsApart h held apart) in
    let twice : filter (λ f. not (f == h.frame)) (others_of held n) ≡ filter (λ f. not (f == h.frame) && not (has_frame held f)) (range_with_len 0 n) = filter-filter (λ (f : ℕ). not (f == h.frame)) (λ (f : ℕ). not (has_frame held f)) (range_with_len 0 n) in
    let same : others_of (h ∷ held) n ≡ filter (λ f. not (f == h.frame) && not (has_frame held f)) (range_with_len 0 n) = filter_agree (λ (f : ℕ). not (has_frame (h ∷ held) f)) (λ (f : ℕ). not (f == h.frame) && not (has_frame held f)) (λ f. not-either h.frame f (has_frame held f)) (range_with_len 0 n) in
    let alone : IsUnheld held h.frame = λ k d lt e. AllPairs-head IsApart h held apart k d lt (sym e) in
    let there : Any (λ f. f ≡ h.frame) (others_of held n) = Any-filter (λ (f : ℕ). not (has_frame held f)) (λ (f : ℕ). f ≡ h.frame) (range_with_len 0 n) (λ f e. ap not (test-from_unheld held f (subst (IsUnheld held) (sym e) alone))) (range_has n h.frame (below 0 h (omega arith))) in
    let one = length-without (λ (f : ℕ). f) h.frame (others_of held n) (AllPairs-filter (λ x y. x ≢ y) (λ (f : ℕ). not (has_frame held f)) (range_with_len 0 n) (range_apart 0 n)) there in
    omega (arith, ap length (same ∙ sym twice))

-- nothing is held at first
pub IsOrder-none : (n : ℕ) → IsOrder (record { held = []; count = n })
IsOrder-none n = record { below = λ k d lt. absurd (omega arith); apart = λ i j d less lt. absurd (omega arith); few = omega arith }

-- the frames that the ring doesn't hold make a stack
pub IsFrames-made : (held : List Held) (n m room : ℕ) (free : List ℕ) (marks : List Bool) → IsOrder (record { held = held; count = n }) → free ≡ others_of held m → m ≡ n → n ≤ room → length marks ≡ n → n < 2 ^ 32 → IsFrames (record { held = held; count = n }) free room marks
IsFrames-made held n m room free marks order is all fits marked few = rw (is, all) (record {
  order = order;
  below = All-filter test (λ f. f < n) (range_with_len 0 n) (range_below n);
  unheld = λ k d lt. unheld-from_test held (get_or (others_of held n) k d) (not-true (has_frame held (get_or (others_of held n) k d)) (filter_passes test (range_with_len 0 n) k d lt));
  once = AllPairs-filter (λ x y. x ≢ y) test (range_with_len 0 n) (range_apart 0 n);
  whole = length-others held n order.below order.apart;
  fits = fits;
  marked = marked;
  few = few;
})
  where
    test : ℕ → Bool
    test f = not (has_frame held f)

-- the frame on top of the stack becomes the newest
pub IsFrames-taken : (o : Order) (free rest : List ℕ) (room : ℕ) (marks : List Bool) (k page home : ℕ) → free ≡ rest ++ k ∷ [] → IsFrames o free room marks → IsFrames (record o { held = o.held ++ (record { frame = k; page = page; home = home }) ∷ [] }) rest room marks
IsFrames-taken o free rest room marks k page home top f =
    let below : All (λ x. x < o.count) (rest ++ k ∷ []) = subst (All (λ x. x < o.count)) top f.below in
    let unheld : All (IsUnheld o.held) (rest ++ k ∷ []) = subst (All (IsUnheld o.held)) top f.unheld in
    let once : AllPairs (λ x y. x ≢ y) (rest ++ k ∷ []) = subst (AllPairs (λ x y. x ≢ y)) top f.once in
    let mine : IsUnheld o.held k = All-last (IsUnheld o.held) rest k unheld in
    let long = ap length top ∙ length_push rest k in
    let new : Held = record { frame = k; page = page; home = home } in
    record {
      order = record {
        below = All-push (λ h. h.frame < o.count) o.held new f.order.below (All-last (λ x. x < o.count) rest k below);
        apart = all_pairs_push IsApart o.held new f.order.apart mine;
        few = omega (arith, f.whole, long, length_push o.held new);
      };
      below = All-left (λ x. x < o.count) rest (k ∷ []) below;
      unheld = λ i d lt. All-push (λ h. h.frame ≢ get_or rest i d) o.held new (All-left (IsUnheld o.held) rest (k ∷ []) unheld i d lt) (λ e. AllPairs-last (λ x y. x ≢ y) rest k once i d lt (sym e));
      once = AllPairs-left (λ x y. x ≢ y) rest (k ∷ []) once;
      whole = omega (arith, f.whole, long, length_push o.held new);
      fits = f.fits;
      marked = f.marked;
      few = f.few;
    }

-- a held frame goes on top of the stack
pub IsFrames-given : (o : Order) (free : List ℕ) (room more : ℕ) (marks : List Bool) (k : ℕ) → Any (λ h. h.frame ≡ k) o.held → room ≤ more → IsFrames o free room marks → IsFrames (record o { held = filter (is_other k) o.held }) (free ++ k ∷ []) more marks
IsFrames-given o free room more marks k held le f =
    let fewer = length-without (λ (h : Held). h.frame) k o.held f.order.apart held in
    record {
      order = record {
        below = All-filter (is_other k) (λ h. h.frame < o.count) o.held f.order.below;
        apart = AllPairs-filter IsApart (is_other k) o.held f.order.apart;
        few = omega (arith, f.order.few, fewer);
      };
      below = All-push (λ x. x < o.count) free k f.below (at held);
      unheld = All-push (IsUnheld (filter (is_other k) o.held)) free k
          (λ i d lt. All-filter (is_other k) (λ h. h.frame ≢ get_or free i d) o.held (f.unheld i d lt))
          (λ i d lt. other-frame k (get_or (filter (is_other k) o.held) i d) (filter_passes (is_other k) o.held i d lt));
      once = all_pairs_push (λ x y. x ≢ y) free k f.once (λ i d lt. held-differs o.held (get_or free i d) k (f.unheld i d lt) held);
      whole = omega (arith, f.whole, fewer, length_push free k);
      fits = omega (arith, f.fits);
      marked = f.marked;
      few = f.few;
    }
  where
    at : Any (λ h. h.frame ≡ k) o.held → k < o.count
    at (i, h, lt, is, same) = let low : h.frame < o.count = subst (λ (x : Held). x.frame < o.count) is (f.order.below i h lt) in omega arith

-- whether the next frame is free
pub others_more : (held : List Held) (n : ℕ) → others_of held (n + 1) ≡ others_of held n ++ cond (not (has_frame held n)) (n ∷ []) []
others_more held n =
    let test : ℕ → Bool = λ f. not (has_frame held f) in
    ap (filter test) (range_more 0 n ∙ ap (λ (m : ℕ). range_with_len 0 n ++ m ∷ []) (zero-add n)) ∙ filter-append test (range_with_len 0 n) (n ∷ [])

pub length-others-le : (held : List Held) (n : ℕ) → length (others_of held n) ≤ n
length-others-le held n =
    let test : ℕ → Bool = λ f. not (has_frame held f) in
    omega (arith, length-filter test (range_with_len 0 n), count_by-le-length test (range_with_len 0 n), length-range_with_len 0 n)

-- where a frame is free, not all are held, and the ring has room for the page that is put there
pub free-some : (o : Order) (free left : List ℕ) (room f : ℕ) (marks : List Bool) → free ≡ left ++ f ∷ [] → IsFrames o free room marks → length o.held < o.count
free-some o free left room f marks is frames = let more : length free ≡ length left + 1 = ap length is ∙ length_push left f in let whole = frames.whole in omega arith

pub room-taken : (held count n : ℕ) → held < count → n ≡ 2 * count → held < n
room-taken held count n few twice = omega arith

pub not-all : (o : Order) (f : ℕ) → length o.held < o.count → IsNone (Some f) ↔ (length o.held ≡ o.count)
not-all o f few = (λ none. absurd (cc), λ full. absurd (omega arith))
