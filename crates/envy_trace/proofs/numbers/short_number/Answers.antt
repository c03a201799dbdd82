use Rattle.std.proofs.Common.{ℕ, ◌≡◌, ◌<◌, true, List, length, take, drop, get_or, refl, sym, ap, ◌∙◌, length-take, arith}
use Rattle.std.specs.Str.Parse.{digits_value}
use Rattle.envy_trace.specs.Grammar.{is_blank}
use Rattle.envy_trace.proofs.Digits.{own}
use Rattle.envy_trace.proofs.Pieces.{pieces-digits}
use Rattle.envy_trace.proofs.numbers.short_number.Goals as goal

pub returns : goal.returns
returns c =
    let rest = c.split_at.result.1.now in
    let k = c.front_number-value.result.1 in
    let ends : k < length rest → is_blank (get_or rest k 0) ≡ true = λ lt. c.if-not-ends_at.ensures refl lt in
    let parts = pieces-digits c.args.bytes.now rest c.in_ok-start.start k (sym c.in_ok-start.ensures) c.split_at.ensures.back c.front_number-value.ensures.digits c.front_number-value.ensures.within ends in
    let field : c.split_at-2.result.0.now ≡ take k rest = c.split_at-2.ensures.front in
    let after : c.split_at-2.result.1.now ≡ drop k rest = c.split_at-2.ensures.back in (
      rw (field, after) parts,
      omega (arith, ap length field, length-take k rest, c.front_number-value.ensures.within, c.if-end-eq0.false),
      rw field (own.from (take k rest) c.front_number-value.ensures.digits),
      c.front_number-value.ensures.value ∙ ap (λ (ds : List ℕ). digits_value 10 ds) (sym field),
    )
