use Rattle.std.proofs.Common.{rules, ◌≡◌, ◌<◌, ◌≤◌, ℕ, true, length, get_or, take, arith, refl}
use Rattle.envy_base.specs.declared.shape.Shape.{Shape}
use Rattle.envy_journal.specs.Version.{mark, is_known}
use Rattle.envy_journal.proofs.Headed.{pieces, byte_back, number_back, older_known, version_known, head_here}
use Rattle.envy_journal.proofs.head.read_head.Goals.{else-bytes-ne-VERSION-via-then-bytes-ne-VERSION+else-bytes-ne-OLDER_VERSION, else-bytes-ne-VERSION-via-else-bytes-ne-VERSION}
use Rattle.envy_journal.proofs.head.read_head.Goals as goal

pub returns-clause-sizes : goal.returns-clause-sizes
returns-clause-sizes c =
    let bytes = c.args.bytes.now in
    let long : 33 ≤ length bytes = omega (arith, c.if-bytes-lt-HEAD.false) in
    let named : take 8 bytes ≡ mark = search rules in
    let v = get_or bytes 8 0 in
    let small : (i : ℕ) → get_or bytes i 0 < 256 = λ i. omega (arith, c.type_inv.bytes i) in
    let sh : Shape =
    record { segments = c.number_at.result; rows = c.number_at-2.result; pages = c.number_at-3.result; shadows = c.number_at-4.result; frames = c.number_at-5.result; entries = c.number_at-6.result; reserves = 0; sums = 0 } in
    let known : is_known v ≡ true = elim c.else-bytes-ne-VERSION.branch [
      | else-bytes-ne-VERSION-via-then-bytes-ne-VERSION+else-bytes-ne-OLDER_VERSION w ↦ older_known v w.if-bytes-ne-OLDER_VERSION.false
      | else-bytes-ne-VERSION-via-else-bytes-ne-VERSION w ↦ version_known v w.if-bytes-ne-VERSION.false
    ] in
    head_here sh v bytes refl known
    (pieces v sh (take 8 bytes) (take 9 bytes) (take 13 bytes) (take 17 bytes) (take 21 bytes) (take 25 bytes) (take 29 bytes) (take 33 bytes)
    named
    (byte_back bytes 8 v (omega (arith, long)) refl)
    (number_back bytes small 9 sh.segments (omega (arith, long)) c.number_at.ensures)
    (number_back bytes small 13 sh.rows (omega (arith, long)) c.number_at-2.ensures)
    (number_back bytes small 17 sh.pages (omega (arith, long)) c.number_at-3.ensures)
    (number_back bytes small 21 sh.shadows (omega (arith, long)) c.number_at-4.ensures)
    (number_back bytes small 25 sh.frames (omega (arith, long)) c.number_at-5.ensures)
    (number_back bytes small 29 sh.entries (omega (arith, long)) c.number_at-6.ensures))
