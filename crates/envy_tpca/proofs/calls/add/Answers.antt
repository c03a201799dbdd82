use Rattle.std.proofs.Common.{◌∙◌, ◌≡◌, subst, ℕ}
use Rattle.std.specs.Prelude.{slice_set, ◌+ℤ◌}
use Rattle.envy_tpca.specs.Tpc.{as_word}
use Rattle.envy_array.specs.Array.{page_of}
use Rattle.envy_tpca.specs.Trying.{AfterPut}
use Rattle.envy_tpca.proofs.Loading.{accessed-more, where-done}
use Rattle.envy_tpca.proofs.Calling.{load-none, load-ok, added}
use Rattle.envy_tpca.proofs.calls.add.Goals as goal

pub returns-in_err-load_word-clause-after : goal.returns-in_err-load_word-clause-after
returns-in_err-load_word-clause-after g c = λ n first before now most more last x r lt widens is small sum. absurd (load-none n first before now c.args.t most last c.args.a c.load_word.result c.load_word.new.memory c.in_err-load_word.field-0.0 (c.load_word.ensures.after n first before now c.args.t most last r lt) c.in_err-load_word.was)

pub returns-clause-after : goal.returns-clause-after
returns-clause-after g c = λ n first before now most more last x r lt widens is small sum.
    let l = load-ok n first before now c.args.t most last c.args.a c.load_word.result c.load_word.new.memory c.in_ok-load_word.field-0 (c.load_word.ensures.after n first before now c.args.t most last r lt) c.in_ok-load_word.was in
    let e1 = c.cast_signed-balance.ensures in
    let e2 = c.cast_unsigned.ensures in
    let word : c.cast_unsigned.result ≡ as_word (x +ℤ c.args.delta) = e2 ∙ added c.in_ok-load_word.field-0 c.cast_signed-balance.result x c.args.delta e1 (l.0 ∙ is) small (record { sfits = c.ranges.delta.sfits }) sum in
    subst (λ (w : ℕ). AfterPut n first before (slice_set now c.args.a w) c.args.t more (page_of c.args.a) c.put_word.result c.put_word.new.memory) word (c.put_word.ensures.after n first before now most more last l.1 lt widens)

pub returns-clause-accessed : goal.returns-clause-accessed
returns-clause-accessed g c = where-done c.put_word.result (accessed-more 1 1 c.args.memory.now.parts.cache c.load_word.new.memory.parts.cache c.put_word.new.memory.parts.cache c.in_ok-load_word.ensures.accessed) c.put_word.ensures.accessed
