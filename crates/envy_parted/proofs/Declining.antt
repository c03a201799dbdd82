-- A board that isn't taken up is why attaching to a part is refused.
use Rattle.std.proofs.Common.{◌≡◌, ◌∙◌, true, false, IsTrue, Some, Ok, inl, inr, refl, sym, subst}
use Rattle.envy_base.specs.State.{State}
use Rattle.envy_map.specs.Fields.{chart}
use Rattle.envy_part.specs.Making.{HasSizes}
use Rattle.envy_part.specs.Placing.{ArePlaced}
use Rattle.envy_policy.specs.Setup.{checked}
use Rattle.envy_policy.specs.declared.setup.Setup.{Setup as OfSetup}
use Rattle.envy_memory.specs.Attaching.{Attaches}
use Rattle.envy_memory.specs.Picture.{Picture}
use Rattle.envy_calls.specs.Making.{Declined, Forbids, IsWhole}
use Rattle.envy_calls.specs.Setups.{setup_of}
use Rattle.envy_calls.specs.declared.code.Code.{Code}
use Rattle.envy_calls.specs.declared.code.Code.TheVariants.{Done, Empty, Off, Range, Held, Full, Busy, Closed, Bad, NoMemory, Open, Zero, Dead, Powered, FlashSize, SramSize, ErasesSize, Policy, Unformatted, Older, OtherShape, Setup, Broken, Small, ImageShort, ImageMark, ImageOther, ImageShape, Absent, MapFull, SlotOpen, MapSetup, BrokenMap, BadAborted}
use Rattle.envy_parted.specs.Opening.{Attached, Given, NoBoard, RefusesAttach, board_of}
use Rattle.envy_parted.specs.declared.code.PartCode.{PartCode}
use Rattle.envy_parted.specs.declared.code.PartCode.TheVariants.{Of}

forbidden : (given : Given) (setup : OfSetup) (code : Code) (old : State) → setup_of given.setup ≡ Some setup → checked setup ≡ Ok tt → ArePlaced setup.shape given.places
    → HasSizes setup.shape given.flash given.sram → old ≡ board_of setup.shape given → Forbids code (chart old) setup → RefusesAttach given (Of code)
unfolding RefusesAttach
forbidden given setup code old is checks placed sizes same found =
    inr (code, refl, (setup, is, checks, (placed, (sizes, subst (λ (s : State). Forbids code (chart s) setup) same found))))

-- an attachment that is refused has its cause
pub attach_refused : (given : Given) (setup : OfSetup) (code : Code) (old left : State) → setup_of given.setup ≡ Some setup → checked setup ≡ Ok tt → ArePlaced setup.shape given.places
    → HasSizes setup.shape given.flash given.sram → old ≡ board_of setup.shape given → IsTrue left.on → Declined code old setup left → RefusesAttach given (Of code)
attach_refused given setup Off old left is checks placed sizes same on declined = absurd (let clash : true ≡ false = sym on ∙ declined.0 in cc)
attach_refused given setup Done old left is checks placed sizes same on declined = forbidden given setup Done old is checks placed sizes same declined.1
attach_refused given setup Empty old left is checks placed sizes same on declined = forbidden given setup Empty old is checks placed sizes same declined.1
attach_refused given setup Range old left is checks placed sizes same on declined = forbidden given setup Range old is checks placed sizes same declined.1
attach_refused given setup Held old left is checks placed sizes same on declined = forbidden given setup Held old is checks placed sizes same declined.1
attach_refused given setup Full old left is checks placed sizes same on declined = forbidden given setup Full old is checks placed sizes same declined.1
attach_refused given setup Busy old left is checks placed sizes same on declined = forbidden given setup Busy old is checks placed sizes same declined.1
attach_refused given setup Closed old left is checks placed sizes same on declined = forbidden given setup Closed old is checks placed sizes same declined.1
attach_refused given setup Bad old left is checks placed sizes same on declined = forbidden given setup Bad old is checks placed sizes same declined.1
attach_refused given setup NoMemory old left is checks placed sizes same on declined = forbidden given setup NoMemory old is checks placed sizes same declined.1
attach_refused given setup Open old left is checks placed sizes same on declined = forbidden given setup Open old is checks placed sizes same declined.1
attach_refused given setup Zero old left is checks placed sizes same on declined = forbidden given setup Zero old is checks placed sizes same declined.1
attach_refused given setup Dead old left is checks placed sizes same on declined = forbidden given setup Dead old is checks placed sizes same declined.1
attach_refused given setup Powered old left is checks placed sizes same on declined = forbidden given setup Powered old is checks placed sizes same declined.1
attach_refused given setup FlashSize old left is checks placed sizes same on declined = forbidden given setup FlashSize old is checks placed sizes same declined.1
attach_refused given setup SramSize old left is checks placed sizes same on declined = forbidden given setup SramSize old is checks placed sizes same declined.1
attach_refused given setup ErasesSize old left is checks placed sizes same on declined = forbidden given setup ErasesSize old is checks placed sizes same declined.1
attach_refused given setup Policy old left is checks placed sizes same on declined = forbidden given setup Policy old is checks placed sizes same declined.1
attach_refused given setup Unformatted old left is checks placed sizes same on declined = forbidden given setup Unformatted old is checks placed sizes same declined.1
attach_refused given setup Older old left is checks placed sizes same on declined = forbidden given setup Older old is checks placed sizes same declined.1
attach_refused given setup OtherShape old left is checks placed sizes same on declined = forbidden given setup OtherShape old is checks placed sizes same declined.1
attach_refused given setup (Setup fault) old left is checks placed sizes same on declined = forbidden given setup (Setup fault) old is checks placed sizes same declined.1
attach_refused given setup (Broken rule) old left is checks placed sizes same on declined = forbidden given setup (Broken rule) old is checks placed sizes same declined.1
attach_refused given setup Small old left is checks placed sizes same on declined = forbidden given setup Small old is checks placed sizes same declined.1
attach_refused given setup ImageShort old left is checks placed sizes same on declined = forbidden given setup ImageShort old is checks placed sizes same declined.1
attach_refused given setup ImageMark old left is checks placed sizes same on declined = forbidden given setup ImageMark old is checks placed sizes same declined.1
attach_refused given setup ImageOther old left is checks placed sizes same on declined = forbidden given setup ImageOther old is checks placed sizes same declined.1
attach_refused given setup (ImageShape fault) old left is checks placed sizes same on declined = forbidden given setup (ImageShape fault) old is checks placed sizes same declined.1
attach_refused given setup Absent old left is checks placed sizes same on declined = forbidden given setup Absent old is checks placed sizes same declined.1
attach_refused given setup MapFull old left is checks placed sizes same on declined = forbidden given setup MapFull old is checks placed sizes same declined.1
attach_refused given setup SlotOpen old left is checks placed sizes same on declined = forbidden given setup SlotOpen old is checks placed sizes same declined.1
attach_refused given setup MapSetup old left is checks placed sizes same on declined = forbidden given setup MapSetup old is checks placed sizes same declined.1
attach_refused given setup BrokenMap old left is checks placed sizes same on declined = forbidden given setup BrokenMap old is checks placed sizes same declined.1
attach_refused given setup BadAborted old left is checks placed sizes same on declined = forbidden given setup BadAborted old is checks placed sizes same declined.1

-- where there is no board nothing is attached
pub attach_without_board : (given : Given) (code : PartCode) → NoBoard given code → RefusesAttach given code
unfolding RefusesAttach
attach_without_board given code none = inl none

-- what is attached is a memory over the part
pub attached_part : (given : Given) (setup : OfSetup) (old : State) (p : Picture) → setup_of given.setup ≡ Some setup → ArePlaced setup.shape given.places → HasSizes setup.shape given.flash given.sram
    → old ≡ board_of setup.shape given → IsWhole (chart old) setup × Attaches (chart old) setup p → Attached given p
attached_part given setup old p is placed sizes same made = record {
  setup = setup;
  is = is;
  placed = placed;
  sizes = sizes;
  whole = subst (λ (s : State). IsWhole (chart s) setup) same made.0;
  attaches = subst (λ (s : State). Attaches (chart s) setup p) same made.1;
}
