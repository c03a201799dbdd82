-- A row that is shown by its kind.
use Rattle.std.proofs.Common.{◌≡◌, ℕ, ◌*◌, ◌<◌, IsTrue, inl, inr, subst}
use Rattle.std.specs.Prelude.{Option, Some}
use Rattle.envy_map.specs.Fields.{Chart}
use Rattle.envy_memory.specs.Picture.{Picture}
use Rattle.envy_calls.specs.Codes.{number_of}
use Rattle.envy_calls.specs.declared.code.Code.TheVariants.{Done}
use Rattle.envy_picture.specs.Kinds.{IsKind}
use Rattle.envy_picture.specs.declared.kinds.RowKind.{RowKind}
use Rattle.envy_shown.specs.Shown.{ShowsRow, row_for_c}
use Rattle.envy_shown.specs.declared.shapes.EnvyRow.{EnvyRow}

-- what is known of the board is known of the memory's chart
pub row_shown : (slot : Option Picture) (p : Picture) (board : Chart) (q code : ℕ) (kind : RowKind) (before after : EnvyRow) → slot ≡ Some p → board ≡ p.chart → IsTrue board.on → q < board.shape.segments * board.shape.rows → code ≡ number_of Done → IsKind board.shape board.fields q kind → after ≡ row_for_c kind → ShowsRow slot q code before after
row_shown slot p board q code kind before after is same on range done kinds shown =
    rw is (inl (
      subst (λ (c : Chart). q < c.shape.segments * c.shape.rows) same range,
      inr (subst (λ (c : Chart). IsTrue c.on) same on, done, (kind, subst (λ (c : Chart). IsKind c.shape c.fields q kind) same kinds, shown)),
    ))
