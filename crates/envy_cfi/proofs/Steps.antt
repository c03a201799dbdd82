-- What each step of the driver makes of a chip that is known.
use Rattle.std.proofs.Common.{◌≡◌, ◌≢◌, ◌⊎◌, inl, inr, ◌+◌, ◌/◌, ◌<◌, ◌≤◌, ◌==◌, ℕ, Bool, true, false, if◌then◌else◌, List, Option, None, Some, Result, Ok, Err, length, slice_index, slice_set, bit_and, subst, refl, sym, ◌∙◌, ap, arith, eqb-true}
use Rattle.std.proofs.lemmas.Bool.{eqb-false}
use Rattle.std.proofs.lemmas.Grind.{common_steps}
use Rattle.std.proofs.lemmas.List.{length-set}
use Rattle.envy_bank.specs.Commands.{ChipState, written, commanded, programmed, with_erased_block}
use Rattle.envy_bank.specs.declared.chip.Mode.TheVariants.{Status, ProgramSetup, EraseSetup}
use Rattle.envy_cfi.specs.Driving.{Writes, Ends, EndsAs, IsCalm, IsIdle, at_rest, Settles, ByteAs, Holds, RowAs, EraseAs, Leaves, OrdersByte, OrdersRow, Rests, ProgramsByte, ProgramsRow, Erases}
use Rattle.envy_cfi.specs.declared.driver.DriverFault.{DriverFault}
use Rattle.envy_cfi.specs.declared.driver.DriverFault.TheVariants.{Failed, Late}

-- a byte that comes where a command is waited for is one
idle_write : (c : ChipState) (addr byte : ℕ) → IsIdle c → written c addr byte ≡ commanded c byte
idle_write c addr byte (inl m) = rw m refl
idle_write c addr byte (inr m) = rw m refl

-- whether a byte is the one that was wanted is what the error tells
compared : (x y : ℕ) (f : Bool) → f ≡ false → ((x ≡ y) × ((if x == y then f else true) ≡ false)) ⊎ ((x ≢ y) × ((if x == y then f else true) ≡ true))
compared x y f quiet = go (x == y) refl where
  go : (b : Bool) → (x == y) ≡ b → ((x ≡ y) × ((if x == y then f else true) ≡ false)) ⊎ ((x ≢ y) × ((if x == y then f else true) ≡ true))
  go true e = inl (eqb-true x y e, rw e quiet)
  go false e = inr (λ same. eqb-false x y e same, rw e refl)

-- what a byte becomes
abbrev cleared : ChipState → ℕ → ℕ → ℕ
cleared c addr byte = bit_and (slice_index c.bytes addr) byte

-- what the bytes are after the program of one, by what the status told of it
byte_as : (c : ChipState) (addr byte : ℕ) (r : Result Unit DriverFault) → IsCalm c → EndsAs (programmed (record c { mode = ProgramSetup }) addr byte) r
    → ByteAs addr byte c.bytes r (slice_set c.bytes addr (cleared c addr byte))
byte_as c addr byte (Ok done) calm ends = elim (compared (cleared c addr byte) byte c.program_error calm.program) [
  | inl (same, quiet) ↦ (same, ap (slice_set c.bytes addr) same)
  | inr (other, tells) ↦ absurd (let no : true ≡ false = sym tells ∙ ends.program in cc)
]
byte_as c addr byte (Err Failed) calm ends = elim (compared (cleared c addr byte) byte c.program_error calm.program) [
  | inl (same, quiet) ↦ absurd (elim ends [
    | inl erase ↦ (let no : true ≡ false = sym erase ∙ calm.erase in cc)
    | inr program ↦ (let no : true ≡ false = sym program ∙ quiet in cc)
  ])
  | inr (other, tells) ↦ (other, refl)
]
byte_as c addr byte (Err Late) calm ends = ends

pub byte_step : (a b b2 b3 : Option ChipState) (addr byte : ℕ) (r : Result Unit DriverFault) → Writes a addr 0x40 b → Writes b addr byte b2 → Ends b2 addr r → b3 ≡ b2 → OrdersByte a addr byte r b3
byte_step None b b2 b3 addr byte r first second ends same = tt
byte_step (Some c) b b2 b3 addr byte r first second ends same = λ lt idle calm.
    let s : ChipState = record c { mode = ProgramSetup } in
    let one : b ≡ Some s = first lt ∙ ap Some (idle_write c addr 0x40 idle) in
    let two : b2 ≡ Some (programmed s addr byte) = subst (λ x. Writes x addr byte b2) one second lt in
    let long : length (slice_set c.bytes addr (cleared c addr byte)) ≡ length c.bytes = length-set c.bytes addr (cleared c addr byte) in
    let how : EndsAs (programmed s addr byte) r = subst (λ x. Ends x addr r) two ends (omega arith) refl in
    record { left = programmed s addr byte; is = same ∙ two; rows = refl; long = long; idle = inr refl; told = how; made = byte_as c addr byte r calm how }

-- the first k bytes of a row are programmed
abbrev pub Going : ChipState → Option ChipState → ℕ → ℕ → List ℕ → Type 0
Going c new addr k row = Leaves c (Ok tt) new (Holds addr k row c.bytes)

row_fails : (c : ChipState) (a b : Option ChipState) (addr k : ℕ) (row : List ℕ) (fault : DriverFault) → addr + 256 ≤ length c.bytes → k < 256
    → Going c a addr k row → OrdersByte a (addr + k) (slice_index row k) (Err fault) b → Leaves c (Err fault) b (RowAs addr row c.bytes (Err fault))
row_fails c a b addr k row Failed fits low at order =
    let step : Leaves at.left (Err Failed) b (ByteAs (addr + k) (slice_index row k) at.left.bytes (Err Failed))
    = subst (λ x. OrdersByte x (addr + k) (slice_index row k) (Err Failed) b) at.is order (let long = at.long in omega arith) at.idle at.told in
    let old : slice_index at.left.bytes (addr + k) ≡ slice_index c.bytes (addr + k) = at.made.above (addr + k) (omega arith) in
    let both : bit_and (slice_index at.left.bytes (addr + k)) (slice_index row k) ≡ bit_and (slice_index c.bytes (addr + k)) (slice_index row k) = ap (λ n. bit_and n (slice_index row k)) old in
    record {
      left = step.left;
      is = step.is;
      rows = step.rows ∙ at.rows;
      long = step.long ∙ at.long;
      idle = step.idle;
      told = step.told;
      made = record {
        k = k;
        low = low;
        sets = λ e. step.made.0 (both ∙ e);
        held = at.left.bytes;
        before = at.made;
        there = step.made.1 ∙ ap (slice_set at.left.bytes (addr + k)) both;
      };
    }
row_fails c a b addr k row Late fits low at order =
    let step : Leaves at.left (Err Late) b (ByteAs (addr + k) (slice_index row k) at.left.bytes (Err Late))
    = subst (λ x. OrdersByte x (addr + k) (slice_index row k) (Err Late) b) at.is order (let long = at.long in omega arith) at.idle at.told in
    absurd step.made

-- what is so of a row under way
abbrev pub RowGoes : Option ChipState → Option ChipState → ℕ → ℕ → List ℕ → Type 0
RowGoes a b addr k row = (c : ChipState) → a ≡ Some c → addr + 256 ≤ length c.bytes → IsIdle c → IsCalm c → Going c b addr k row

-- behind 256 bytes a row is ordered
pub row_whole : (a b : Option ChipState) (addr k : ℕ) (row : List ℕ) → k ≡ 256 → RowGoes a b addr k row → OrdersRow a addr row (Ok tt) b
row_whole None b addr k row e going = tt
row_whole (Some c) b addr k row e going = λ fits idle calm. subst (λ n. Going c b addr n row) e (going c refl fits idle calm)

-- one that breaks off is ordered so far
pub row_broken : (a b d : Option ChipState) (addr k : ℕ) (row : List ℕ) (fault : DriverFault) → k < 256 → RowGoes a b addr k row
    → OrdersByte b (addr + k) (slice_index row k) (Err fault) d → OrdersRow a addr row (Err fault) d
row_broken None b d addr k row fault low going order = tt
row_broken (Some c) b d addr k row fault low going order = λ fits idle calm. row_fails c b d addr k row fault fits low (going c refl fits idle calm) order

-- what an order leaves, once it is at rest
rests : (c : ChipState) (r : Result Unit DriverFault) (d e : Option ChipState) (addr : ℕ) (Made : List ℕ → Type 0) → addr < length c.bytes
    → Leaves (at_rest c.rows c.bytes) r d Made → Settles d addr e → Rests c e Made
rests c r d e addr Made lt at ends =
    let there : e ≡ Some (at_rest at.left.rows at.left.bytes) = subst (λ x. Settles x addr e) at.is ends (let long = at.long in omega arith) at.idle in
    record { bytes = at.left.bytes; is = there ∙ ap (λ n. Some (at_rest n at.left.bytes)) at.rows; made = at.made }

-- an order between two settings of the part is a call
pub byte_made : (a b d e : Option ChipState) (addr byte : ℕ) (r : Result Unit DriverFault) → Settles a addr b → OrdersByte b addr byte r d → Settles d addr e → ProgramsByte a addr byte r e
byte_made None b d e addr byte r begins order ends = tt
byte_made (Some c) b d e addr byte r begins order ends = λ lt m.
    rests c r d e addr (ByteAs addr byte c.bytes r) lt (subst (λ x. OrdersByte x addr byte r d) (begins lt (inl m)) order lt (inl refl) (record { erase = refl; program = refl })) ends

-- of a row
pub row_made : (a b d e : Option ChipState) (addr : ℕ) (row : List ℕ) (r : Result Unit DriverFault) → Settles a addr b → OrdersRow b addr row r d → Settles d addr e → ProgramsRow a addr row r e
row_made None b d e addr row r begins order ends = tt
row_made (Some c) b d e addr row r begins order ends = λ fits m.
    let lt : addr < length c.bytes = omega arith in
    rests c r d e addr (RowAs addr row c.bytes r) lt (subst (λ x. OrdersRow x addr row r d) (begins lt (inl m)) order fits (inl refl) (record { erase = refl; program = refl })) ends

erased_long : (rows addr : ℕ) (bytes : List ℕ) → addr < length bytes → addr < length (with_erased_block rows (addr / rows) bytes)
erased_long rows addr bytes lt = grind (arith, common_steps)

erase_as : (rows addr : ℕ) (old : List ℕ) (c : ChipState) (r : Result Unit DriverFault) → c.erase_error ≡ false → c.program_error ≡ false → EndsAs c r
    → EraseAs rows addr old r (with_erased_block rows (addr / rows) old)
erase_as rows addr old c (Ok done) erase program ends = refl
erase_as rows addr old c (Err Failed) erase program ends = elim ends [
  | inl told ↦ (let no : true ≡ false = sym told ∙ erase in cc)
  | inr told ↦ (let no : true ≡ false = sym told ∙ program in cc)
]
erase_as rows addr old c (Err Late) erase program ends = ends

-- of an erase
pub erase_made : (a b d e f g : Option ChipState) (addr : ℕ) (r : Result Unit DriverFault) → Settles a addr b → Writes b addr 0x20 d → Writes d addr 0xD0 e → Ends e addr r → f ≡ e → Settles f addr g → Erases a addr r g
erase_made None b d e f g addr r begins setup confirm how same ends = tt
erase_made (Some c) b d e f g addr r begins setup confirm how same ends = λ lt m.
    let now : ChipState = at_rest c.rows c.bytes in
    let new : List ℕ = with_erased_block c.rows (addr / c.rows) c.bytes in
    let long : addr < length new = erased_long c.rows addr c.bytes lt in
    let one : b ≡ Some now = begins lt (inl m) in
    let two : d ≡ Some (record now { mode = EraseSetup }) = subst (λ x. Writes x addr 0x20 d) one setup lt in
    let three : e ≡ Some (record now { bytes = new; mode = Status }) = subst (λ x. Writes x addr 0xD0 e) two confirm lt in
    let last : g ≡ Some (at_rest c.rows new) = subst (λ x. Settles x addr g) (same ∙ three) ends long (inr refl) in
    let told : EndsAs (record now { bytes = new; mode = Status }) r = subst (λ x. Ends x addr r) three how long refl in
    record { bytes = new; is = last; made = erase_as c.rows addr c.bytes (record now { bytes = new; mode = Status }) r refl refl told }
