-- A setup that breaks no rule has the sizes of a board.
use Rattle.std.proofs.Common.{◌≡◌, ℕ, ◌+◌, ◌-◌, ◌*◌, ◌≤◌, Bool, true, false, ◌||◌, refl, arith}
use Rattle.std.specs.Prelude.{Result, Ok, Err, nat_lt, not, ◌==◌, if◌then◌else◌}
use Rattle.std.proofs.lemmas.Bool.Decides.{nat_tests}
use Rattle.std.proofs.lemmas.Nat.{mul-le}
use Rattle.envy_base.specs.Shape.{IsShape, checked as shape_checked, checked_within}
use Rattle.envy_base.specs.declared.shape.Shape.{Shape}
use Rattle.envy_base.specs.declared.shape.ShapeFault.{ShapeFault}
use Rattle.envy_base.specs.declared.shape.ShapeFault.TheVariants.{Segments, Reserves, Sums, Rows, Pages, Frames, Entries, Share, Total}
use Rattle.envy_policy.specs.Setup.{checked, checked_within as setup_within, shape_first}
use Rattle.envy_policy.specs.declared.setup.Setup.{Setup}
use Rattle.envy_policy.specs.declared.setup.SetupFault.{SetupFault}

-- the rule that was asked first holds, and so do the others
passed : (breaks : Bool) (fault : ShapeFault) (others : Result Unit ShapeFault) → (if breaks then Err fault else others) ≡ Ok tt → (breaks ≡ false) × (others ≡ Ok tt)
passed true fault others e = absurd (let never = e in cc)
passed false fault others e = (refl, e)

neither : (a b : Bool) → (a || b) ≡ false → (a ≡ false) × (b ≡ false)
neither true b e = absurd (let never = e in cc)
neither false b e = (refl, e)

not-below : (a b : ℕ) → nat_lt a b ≡ false → b ≤ a
not-below a b e = grind (arith, nat_tests)

not-none : (a : ℕ) → (a == 0) ≡ false → 1 ≤ a
not-none a e = grind (arith, nat_tests)

none : (a : ℕ) → not (a == 0) ≡ false → a ≡ 0
none a e = grind (arith, nat_tests)

-- the sizes of a shape that checks where a board has so many rows at most
shape-within : (most : ℕ) (sh : Shape) → most ≤ 16777216 → checked_within most sh ≡ Ok tt → IsShape sh × (sh.segments * sh.rows ≤ most)
unfolding checked_within
shape-within most sh low e =
    let segments = passed (nat_lt sh.segments 4 || nat_lt 4096 sh.segments) Segments _ e in
    let reserves = passed (nat_lt (sh.segments - 4) sh.reserves) Reserves _ segments.1 in
    let sums = passed (not (sh.sums == 0)) Sums _ reserves.1 in
    let rows = passed (nat_lt sh.rows 2 || nat_lt 65536 sh.rows) Rows _ sums.1 in
    let pages = passed (sh.pages == 0) Pages _ rows.1 in
    let frames = passed (nat_lt sh.frames 2 || nat_lt 65536 sh.frames) Frames _ pages.1 in
    let entries = passed (sh.entries == 0 || nat_lt 65536 sh.entries) Entries _ frames.1 in
    let share = passed (nat_lt ((sh.segments - 2 - sh.reserves) * sh.rows) (sh.pages + sh.shadows)) Share _ entries.1 in
    let total = passed (nat_lt most (sh.segments * sh.rows)) Total _ share.1 in
    let s = neither (nat_lt sh.segments 4) (nat_lt 4096 sh.segments) segments.0 in
    let r = neither (nat_lt sh.rows 2) (nat_lt 65536 sh.rows) rows.0 in
    let f = neither (nat_lt sh.frames 2) (nat_lt 65536 sh.frames) frames.0 in
    let n = neither (sh.entries == 0) (nat_lt 65536 sh.entries) entries.0 in
    let within = not-below ((sh.segments - 2 - sh.reserves) * sh.rows) (sh.pages + sh.shadows) share.0 in
    let all = not-below most (sh.segments * sh.rows) total.0 in
    let fewer = mul-le (sh.segments - 2 - sh.reserves) sh.rows sh.segments sh.rows (omega arith) (omega arith) in
    let reserved = not-below (sh.segments - 4) sh.reserves reserves.0 in
    let four = not-below sh.segments 4 s.0 in (
      record {
        segments = four;
        few_segments = not-below 4096 sh.segments s.1;
        reserves = omega arith;
        unsummed = none sh.sums sums.0;
        rows = not-below sh.rows 2 r.0;
        few_rows = not-below 65536 sh.rows r.1;
        pages = not-none sh.pages pages.0;
        frames = not-below sh.frames 2 f.0;
        few_frames = not-below 65536 sh.frames f.1;
        entries = not-none sh.entries n.0;
        few_entries = not-below 65536 sh.entries n.1;
        share = within;
        few = omega arith;
        few_pages = omega arith;
      },
      all,
    )

pub shape-is : (sh : Shape) → shape_checked sh ≡ Ok tt → IsShape sh
shape-is sh e = (shape-within 16777216 sh (omega arith) e).0

-- a test after which all is well under a lower limit, and so under the higher
under : (breaks : Bool) (fault : ShapeFault) (low high : Result Unit ShapeFault) → (low ≡ Ok tt → high ≡ Ok tt) → (if breaks then Err fault else low) ≡ Ok tt → (if breaks then Err fault else high) ≡ Ok tt
under true fault low high more e = absurd (let never = e in cc)
under false fault low high more e = more e

passing : (breaks : Bool) (fault : ShapeFault) (others : Result Unit ShapeFault) → breaks ≡ false → others ≡ Ok tt → (if breaks then Err fault else others) ≡ Ok tt
passing true fault others holds well = absurd (let never = holds in cc)
passing false fault others holds well = well

none-above : (most rows : ℕ) → most ≤ 16777216 → rows ≤ most → nat_lt 16777216 rows ≡ false
none-above most rows low fits = grind (arith, nat_tests)

last-under : (most rows : ℕ) (others : Result Unit ShapeFault) → most ≤ 16777216 → (if nat_lt most rows then Err Total else others) ≡ Ok tt → (if nat_lt 16777216 rows then Err Total else others) ≡ Ok tt
last-under most rows others low e =
    let p = passed (nat_lt most rows) Total others e in
    passing (nat_lt 16777216 rows) Total others (none-above most rows low (not-below most rows p.0)) p.1

shape-more : (most : ℕ) (sh : Shape) → most ≤ 16777216 → checked_within most sh ≡ Ok tt → shape_checked sh ≡ Ok tt
unfolding checked_within
shape-more most sh low =
    under _ Segments _ _ (under _ Reserves _ _ (under _ Sums _ _ (under _ Rows _ _ (under _ Pages _ _ (under _ Frames _ _ (under _ Entries _ _ (under _ Share _ _ (last-under most (sh.segments * sh.rows) _ low))))))))

shape-first-is : (r : Result Unit ShapeFault) (others : Result Unit SetupFault) → shape_first r others ≡ Ok tt → r ≡ Ok tt
shape-first-is (Ok tt) others e = refl
shape-first-is (Err fault) others e = absurd (let never = e in cc)

first-more : (r q : Result Unit ShapeFault) (others : Result Unit SetupFault) → (r ≡ Ok tt → q ≡ Ok tt) → shape_first r others ≡ Ok tt → shape_first q others ≡ Ok tt
first-more (Ok tt) q others more e = rw (more refl) e
first-more (Err fault) q others more e = absurd (let never = e in cc)

-- a setup that keeps the rules under a lower limit keeps them
pub checked-more : (most : ℕ) (setup : Setup) → most ≤ 16777216 → setup_within most setup ≡ Ok tt → checked setup ≡ Ok tt
unfolding setup_within
checked-more most setup low = first-more (checked_within most setup.shape) (shape_checked setup.shape) _ (shape-more most setup.shape low)

-- and its pages are no more than so many rows
pub pages-within : (most : ℕ) (setup : Setup) → most ≤ 16777216 → setup_within most setup ≡ Ok tt → setup.shape.pages ≤ most
unfolding setup_within
pages-within most setup low e =
    let (sizes, all) = shape-within most setup.shape low (shape-first-is (checked_within most setup.shape) _ e) in
    let within = sizes.share in
    let some = sizes.segments in
    let fewer = mul-le (setup.shape.segments - 2 - setup.shape.reserves) setup.shape.rows setup.shape.segments setup.shape.rows (omega arith) (omega arith) in
    omega arith

-- the shape of a setup that was checked
pub shape-of-checked : (setup : Setup) → checked setup ≡ Ok tt → IsShape setup.shape
unfolding setup_within
shape-of-checked setup e = shape-is setup.shape (shape-first-is (shape_checked setup.shape) _ e)
