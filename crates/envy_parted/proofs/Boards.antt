-- A board over a part has the sizes of its shape, and why one that is formatted or taken up isn't.
use Rattle.std.proofs.Common.{◌≡◌, ◌∙◌, ◌<◌, ◌+◌, ◌-◌, ◌^◌, ℕ, List, true, false, IsTrue, Option, None, Some, Ok, Err, MatchOption, inl, inr, refl, sym, ap, subst, arith}
use Rattle.std.proofs.lemmas.List.{length-map}
use Rattle.envy_bank.specs.Lanes.{row_from}
use Rattle.envy_base.specs.Shape.{IsShape}
use Rattle.envy_base.specs.State.{State, IsBoard}
use Rattle.envy_base.specs.declared.shape.Shape.{Shape}
use Rattle.envy_map.specs.Fields.{chart}
use Rattle.envy_part.specs.Making.{HasSizes, new_part}
use Rattle.envy_part.specs.Placing.{ArePlaced}
use Rattle.envy_policy.specs.Setup.{checked}
use Rattle.envy_policy.specs.declared.setup.Setup.{Setup as OfSetup}
use Rattle.envy_memory.specs.Formats.{Refuses, CountsFormat}
use Rattle.envy_memory.specs.declared.faults.FormatFault.{FormatFault}
use Rattle.envy_memory.specs.declared.faults.FormatFault.TheVariants.{Off, Setup, OtherShape, Memory, Bad}
use Rattle.envy_calls.specs.Codes.{format_code}
use Rattle.envy_calls.specs.declared.code.Code.TheVariants.{NoMemory, Bad as BadCode}
use Rattle.envy_calls.specs.Setups.{setup_of}
use Rattle.envy_memory.specs.Formats.{Makes}
use Rattle.envy_memory.specs.Picture.{Picture}
use Rattle.envy_parted.specs.Opening.{Given, Formatted, LeavesPart, NoBoard, RefusesFormat, board_of}
use Rattle.envy_parted.specs.declared.code.PartCode.{PartCode}
use Rattle.envy_parted.specs.declared.code.PartCode.TheVariants.{Of}

-- a board over a part has the sizes of its shape
pub has_sizes : (sh : Shape) (flash : List (List ℕ)) (sram : List ℕ) (board : State) → IsBoard board → board ≡ new_part sh flash sram → HasSizes sh flash sram
has_sizes sh flash sram board is same =
    let made : IsBoard (new_part sh flash sram) = subst IsBoard same is in
    record { flash = sym (length-map flash row_from) ∙ made.rows; sram = made.sram }

-- what formatting left of a board has its cause
pub format_refused : (given : Given) (setup : OfSetup) (fault : FormatFault) (old left : State) → setup_of given.setup ≡ Some setup → checked setup ≡ Ok tt → IsShape setup.shape → ArePlaced setup.shape given.places
    → HasSizes setup.shape given.flash given.sram → old ≡ board_of setup.shape given → IsTrue left.on → Refuses old setup fault left → CountsFormat (chart old) (chart left) → LeavesPart given left (Of (format_code fault))
format_refused given setup Off old left is checks shape placed sizes same on refuses counts = absurd (let clash : true ≡ false = sym on ∙ refuses.0 in cc)
format_refused given setup (Setup fault) old left is checks shape placed sizes same on refuses counts = absurd (let clash : Ok tt ≡ Err fault = sym checks ∙ refuses.1 in cc)
format_refused given setup OtherShape old left is checks shape placed sizes same on refuses counts = absurd (refuses.2 (ap (λ (s : State). s.shape) same))
format_refused given setup Memory old left is checks shape placed sizes same on refuses counts = (NoMemory, refl, (setup, is, checks, (placed, (sizes, inl (refl, refuses.1 ∙ same)))))
format_refused given setup Bad old left is checks shape placed sizes same on refuses counts =
    let none : old.bads ≡ 0 = ap (λ (s : State). s.bads) same in
    let reserves : old.shape.reserves ≡ setup.shape.reserves = ap (λ (s : State). s.shape.reserves) same in
    let room = shape.reserves in
    let sized = shape.few_segments in
    let few : old.bads + old.shape.reserves < 2 ^ 64 - 1 = omega (none, reserves, room, sized, arith) in
    let more : old.bads + old.shape.reserves < left.bads = refuses.3 few in (
      BadCode,
      refl,
      (
        setup,
        is,
        checks,
        (
          placed,
          (
            sizes,
            inr (
              refl,
              record {
                failed = subst (λ (s : State). s.shape.reserves < left.bads) same (omega (none, more, arith));
                unformatted = refuses.2;
                on = on;
                counts = subst (λ (s : State). CountsFormat (chart s) (chart left)) same counts;
              },
            ),
          ),
        ),
      ),
    )

-- why no memory was made, for a caller to whom the board isn't given back
pub format_without_board : (given : Given) (code : PartCode) → NoBoard given code → RefusesFormat given code
unfolding RefusesFormat
format_without_board given code none = inl none

pub format_left : (given : Given) (code : PartCode) (left : State) → LeavesPart given left code → RefusesFormat given code
unfolding RefusesFormat
format_left given code left ends = inr (left, ends)

pub format_answered : {B : Type 0} {P : B → Type 0} (given : Given) (code : PartCode) (left : Option B) → MatchOption left (NoBoard given code) P → ((board : B) → P board → RefusesFormat given code) → RefusesFormat given code
format_answered given code None none ends = format_without_board given code none
format_answered given code (Some board) left ends = ends board left

-- what is formatted is a memory over the part
pub formatted_part : (given : Given) (setup : OfSetup) (old : State) (p : Picture) → setup_of given.setup ≡ Some setup → ArePlaced setup.shape given.places → HasSizes setup.shape given.flash given.sram
    → old ≡ board_of setup.shape given → Makes old setup p → CountsFormat (chart old) p.chart → Formatted given p
formatted_part given setup old p is placed sizes same makes counts = record {
  setup = setup;
  is = is;
  placed = placed;
  sizes = sizes;
  makes = subst (λ (s : State). Makes s setup p) same makes;
  counts = subst (λ (s : State). CountsFormat (chart s) p.chart) same counts;
}
