-- The calls leave words that they may be made of again.
use Rattle.std.proofs.Common.{◌≡◌, ℕ, ◌^◌, ◌≤◌, false, [], length, replicate, refl, arith, Result, Ok, Err, IfOk, sym, subst, inl}
use Rattle.std.proofs.lemmas.List.{length-replicate}
use Rattle.envy_array.specs.Words.{Sheet}
use Rattle.envy_btree.specs.Index.{IsIndex}
use Rattle.envy_btree.specs.Testing.{IsReady}
use Rattle.envy_heap.proofs.Heaps.{IsHeap-zeros, handed-zeros, zero-at}

pub zeros-index : (size : ℕ) → 640 ≤ size → IsIndex (replicate size 0) []
zeros-index size le = record {
  planted = record { free = []; heap = IsHeap-zeros size le; tree = inl (zero-at size 0, refl, λ q. handed-zeros size q) };
  count = zero-at size 3;
  few = omega arith;
}

pub ready-new : {T E : Type 0} (f : T → Sheet) (size : ℕ) (r : Result T E) → IfOk r (λ v. (f v).words ≡ replicate size 0) → IfOk r (λ v. (f v).started ≡ false) → IfOk r (λ v. (f v).room ≡ 32) → 640 ≤ size → size ≤ 2 ^ 29 → IfOk r (λ v. IsReady (f v))
ready-new f size (Ok v) words shut room least most = record {
  shut = shut;
  room = omega (arith, room);
  size = subst (λ w. length w ≤ 2 ^ 29) (sym words) (omega (arith, length-replicate {A = ℕ} size 0));
  map = ([], subst (λ w. IsIndex w []) (sym words) (zeros-index size least));
}
ready-new f size (Err e) words shut room least most = tt
