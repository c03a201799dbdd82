use Rattle.std.proofs.Common.{◌≡◌, refl, ap}
use Rattle.envy_base.specs.State.{State, IsBoard}
use Rattle.envy_map.specs.Fields.{chart}
use Rattle.envy_audit.specs.declared.verdict.Verdict.{Verdict}
use Rattle.envy_audit.specs.declared.verdict.Verdict.TheVariants.{Sound, Unformatted, Broken}
use Rattle.envy_audit.specs.Judging.{Judges}
use Rattle.envy_audit.proofs.Order.{first-same}
use Rattle.envy_audit.proofs.Sounding.{sound-points}
use Rattle.envy_audit.proofs.laws.a_board_has_one_verdict.Goals as goal

one : (v w : Verdict) (s : State) → IsBoard s → Judges v (chart s) → Judges w (chart s) → v ≡ w
one Sound Sound s board a b = refl
one Sound Unformatted s board a b = absurd (b a.0)
one Sound (Broken y) s board a b = absurd (b.fails (sound-points s board a.1 y))
one Unformatted Sound s board a b = absurd (a b.0)
one Unformatted Unformatted s board a b = refl
one Unformatted (Broken y) s board a b = absurd (a b.formatted)
one (Broken x) Sound s board a b = absurd (a.fails (sound-points s board b.1 x))
one (Broken x) Unformatted s board a b = absurd (b a.formatted)
one (Broken x) (Broken y) s board a b = ap Broken (first-same x y (chart s) a b)

pub returns : goal.returns
returns c v w s board a b = one v w s board a b
