use Rattle.std.proofs.Common.{ℕ, ◌≤◌, List, length, take, inl, inr, refl, arith}
use Rattle.std.specs.Prelude.{replicate}
use Rattle.std.proofs.lemmas.List.{length-map, length-replicate, length-take-le}
use Rattle.envy_btree.specs.Index.{IsIndex}
use Rattle.envy_btree.specs.Looking.{pairs_by}
use Rattle.envy_btree.proofs.Calls.{planted-rising}
use Rattle.envy_index_calls.specs.Scanned.{pair_in, pairs_in}
use Rattle.envy_index_calls.proofs.Parts.{part-last, part-next}
use Rattle.envy_index_calls.proofs.pair_buffer.fill_part.Goals as goal

pub returns-then-count-room-clause-shown : goal.returns-then-count-room-clause-shown
returns-then-count-room-clause-shown g c es x =
    let blank : List (ℕ × ℕ) = replicate 64 (0, 0) in
    let size = length-take-le c.min-room.result blank (omega (arith, c.min-room.ensures, length-replicate {A = ℕ × ℕ} 64 (0, 0))) in
    part-last (pairs_by c.args.way c.args.key es) _ c.walk.new.out _ (pairs_in c.args.out.now) (pairs_in c.copy.new.out) c.args.filled c.in_ok-count.count c.min-room.result (c.in_ok-count.ensures.scans es x) size refl c.copy.ensures.list (omega (arith, c.min-room.ensures, c.copy.auto.out, c.requires.room, length-map c.copy.new.out pair_in)) (omega (arith, c.requires.room, length-map c.args.out.now pair_in))
    (elim c.then-count-room.either [
      | inl less ↦ inl less
      | inr full ↦ inr (omega (arith, full.1, c.copy.auto.out, length-map c.copy.new.out pair_in))
    ])

pub returns-clause-shown : goal.returns-clause-shown
returns-clause-shown g c es x =
    let blank : List (ℕ × ℕ) = replicate 64 (0, 0) in
    let size = length-take-le c.min-room.result blank (omega (arith, c.min-room.ensures, length-replicate {A = ℕ × ℕ} 64 (0, 0))) in
    let few : c.in_ok-count.count ≤ length (take c.min-room.result blank) = c.in_ok-count.ensures.few in
    part-next c.args.way es _ c.walk.new.out _ (pairs_in c.args.out.now) (pairs_in c.copy.new.out) c.args.key c.args.filled c.in_ok-count.count c.min-room.result c.key_after-next.result (planted-rising _ es (IsIndex.planted x)) (c.in_ok-count.ensures.scans es x) size refl c.copy.ensures.list (omega (arith, c.min-room.ensures, c.copy.auto.out, c.requires.room, length-map c.copy.new.out pair_in)) (omega (arith, c.requires.room, length-map c.args.out.now pair_in))
    c.if-count-room.false (omega (arith, c.min-room.ensures, c.if-filled-out.false, c.copy.auto.out, c.requires.room, few, size)) c.key_after-next.ensures
