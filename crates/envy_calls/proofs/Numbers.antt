-- A number tells its answer.
use Rattle.std.proofs.Common.{◌≡◌, ◌⊎◌, inl, inr, ◌<◌, ◌≤◌, ℕ, ◌==◌, if◌then◌else◌, refl, sym, ◌∙◌, ap, arith}
use Rattle.envy_base.specs.declared.shape.ShapeFault.TheVariants.{Segments, Reserves, Sums, Rows, Pages, Frames, Entries, Share, Total}
use Rattle.envy_audit.specs.declared.verdict.Rule.TheVariants.{A, B, C, D, E, F, G, H, I, J, K, L, M}
use Rattle.envy_policy.specs.declared.setup.SetupFault.TheVariants.{Shape as OfShape, Part, Limit, Mark}
use Rattle.envy_calls.specs.Codes.{number_of}
use Rattle.envy_calls.specs.declared.code.Code.{Code}
use Rattle.envy_calls.specs.declared.code.Code.TheVariants.{Done, Empty, Off, Range, Held, Full, Busy, Closed, Bad, NoMemory, Open, Zero, Dead, Powered, FlashSize, SramSize, ErasesSize, Policy, Unformatted, Older, OtherShape, Setup, Broken, Small, ImageShort, ImageMark, ImageOther, ImageShape, Absent, MapFull, SlotOpen, MapSetup, BrokenMap, BadAborted}

abbrev code_at : ℕ → Code
code_at n =
    if n == 0 then Done
    else (if n == 1 then Empty
    else (if n == 2 then Off
    else (if n == 3 then Range
    else (if n == 4 then Held
    else (if n == 5 then Full
    else (if n == 6 then Busy
    else (if n == 7 then Closed
    else (if n == 8 then Bad
    else (if n == 9 then NoMemory
    else (if n == 10 then Open
    else (if n == 11 then Zero
    else (if n == 12 then Dead
    else (if n == 13 then Powered
    else (if n == 14 then FlashSize
    else (if n == 15 then SramSize
    else (if n == 16 then ErasesSize
    else (if n == 17 then Policy
    else (if n == 18 then Unformatted
    else (if n == 19 then Older
    else (if n == 20 then OtherShape
    else (if n == 21 then Setup (OfShape Segments)
    else (if n == 22 then Setup (OfShape Rows)
    else (if n == 23 then Setup (OfShape Pages)
    else (if n == 24 then Setup (OfShape Frames)
    else (if n == 25 then Setup (OfShape Entries)
    else (if n == 26 then Setup (OfShape Share)
    else (if n == 27 then Setup (OfShape Total)
    else (if n == 28 then Setup Part
    else (if n == 29 then Setup Limit
    else (if n == 30 then Setup Mark
    else (if n == 31 then Broken A
    else (if n == 32 then Broken B
    else (if n == 33 then Broken C
    else (if n == 34 then Broken D
    else (if n == 35 then Broken E
    else (if n == 36 then Broken F
    else (if n == 37 then Broken G
    else (if n == 38 then Broken H
    else (if n == 39 then Broken I
    else (if n == 40 then Broken J
    else (if n == 41 then Broken K
    else (if n == 42 then Broken L
    else (if n == 43 then Small
    else (if n == 44 then ImageShort
    else (if n == 45 then ImageMark
    else (if n == 46 then ImageOther
    else (if n == 47 then ImageShape Segments
    else (if n == 48 then ImageShape Rows
    else (if n == 49 then ImageShape Pages
    else (if n == 50 then ImageShape Frames
    else (if n == 51 then ImageShape Entries
    else (if n == 52 then ImageShape Share
    else (if n == 53 then ImageShape Total
    else (if n == 54 then Absent
    else (if n == 55 then MapFull
    else (if n == 56 then SlotOpen
    else (if n == 57 then MapSetup
    else (if n == 58 then Setup (OfShape Reserves)
    else (if n == 59 then Setup (OfShape Sums)
    else (if n == 60 then ImageShape Reserves
    else (if n == 61 then ImageShape Sums
    else (if n == 62 then BrokenMap
    else (if n == 63 then Broken M
    else BadAborted)))))))))))))))))))))))))))))))))))))))))))))))))))))))))))))))

code_at-number_of : (x : Code) → code_at (number_of x) ≡ x
code_at-number_of Done = refl
code_at-number_of Empty = refl
code_at-number_of Off = refl
code_at-number_of Range = refl
code_at-number_of Held = refl
code_at-number_of Full = refl
code_at-number_of Busy = refl
code_at-number_of Closed = refl
code_at-number_of Bad = refl
code_at-number_of NoMemory = refl
code_at-number_of Open = refl
code_at-number_of Zero = refl
code_at-number_of Dead = refl
code_at-number_of Powered = refl
code_at-number_of FlashSize = refl
code_at-number_of SramSize = refl
code_at-number_of ErasesSize = refl
code_at-number_of Policy = refl
code_at-number_of Unformatted = refl
code_at-number_of Older = refl
code_at-number_of OtherShape = refl
code_at-number_of (Setup (OfShape Segments)) = refl
code_at-number_of (Setup (OfShape Rows)) = refl
code_at-number_of (Setup (OfShape Pages)) = refl
code_at-number_of (Setup (OfShape Frames)) = refl
code_at-number_of (Setup (OfShape Entries)) = refl
code_at-number_of (Setup (OfShape Share)) = refl
code_at-number_of (Setup (OfShape Total)) = refl
code_at-number_of (Setup Part) = refl
code_at-number_of (Setup Limit) = refl
code_at-number_of (Setup Mark) = refl
code_at-number_of (Broken A) = refl
code_at-number_of (Broken B) = refl
code_at-number_of (Broken C) = refl
code_at-number_of (Broken D) = refl
code_at-number_of (Broken E) = refl
code_at-number_of (Broken F) = refl
code_at-number_of (Broken G) = refl
code_at-number_of (Broken H) = refl
code_at-number_of (Broken I) = refl
code_at-number_of (Broken J) = refl
code_at-number_of (Broken K) = refl
code_at-number_of (Broken L) = refl
code_at-number_of (Broken M) = refl
code_at-number_of Small = refl
code_at-number_of ImageShort = refl
code_at-number_of ImageMark = refl
code_at-number_of ImageOther = refl
code_at-number_of (ImageShape Segments) = refl
code_at-number_of (ImageShape Rows) = refl
code_at-number_of (ImageShape Pages) = refl
code_at-number_of (ImageShape Frames) = refl
code_at-number_of (ImageShape Entries) = refl
code_at-number_of (ImageShape Share) = refl
code_at-number_of (ImageShape Total) = refl
code_at-number_of Absent = refl
code_at-number_of MapFull = refl
code_at-number_of SlotOpen = refl
code_at-number_of MapSetup = refl
code_at-number_of (Setup (OfShape Reserves)) = refl
code_at-number_of (Setup (OfShape Sums)) = refl
code_at-number_of (ImageShape Reserves) = refl
code_at-number_of (ImageShape Sums) = refl
code_at-number_of BrokenMap = refl
code_at-number_of BadAborted = refl

pub same_number : (x y : Code) → number_of x ≡ number_of y → x ≡ y
same_number x y is = sym (code_at-number_of x) ∙ (ap code_at is ∙ code_at-number_of y)

-- further answers, as of a library of its own, have numbers from 64 to 79
pub below : (x : Code) → (number_of x < 64) ⊎ (80 ≤ number_of x)
below Done = inl (omega arith)
below Empty = inl (omega arith)
below Off = inl (omega arith)
below Range = inl (omega arith)
below Held = inl (omega arith)
below Full = inl (omega arith)
below Busy = inl (omega arith)
below Closed = inl (omega arith)
below Bad = inl (omega arith)
below NoMemory = inl (omega arith)
below Open = inl (omega arith)
below Zero = inl (omega arith)
below Dead = inl (omega arith)
below Powered = inl (omega arith)
below FlashSize = inl (omega arith)
below SramSize = inl (omega arith)
below ErasesSize = inl (omega arith)
below Policy = inl (omega arith)
below Unformatted = inl (omega arith)
below Older = inl (omega arith)
below OtherShape = inl (omega arith)
below (Setup (OfShape Segments)) = inl (omega arith)
below (Setup (OfShape Rows)) = inl (omega arith)
below (Setup (OfShape Pages)) = inl (omega arith)
below (Setup (OfShape Frames)) = inl (omega arith)
below (Setup (OfShape Entries)) = inl (omega arith)
below (Setup (OfShape Share)) = inl (omega arith)
below (Setup (OfShape Total)) = inl (omega arith)
below (Setup Part) = inl (omega arith)
below (Setup Limit) = inl (omega arith)
below (Setup Mark) = inl (omega arith)
below (Broken A) = inl (omega arith)
below (Broken B) = inl (omega arith)
below (Broken C) = inl (omega arith)
below (Broken D) = inl (omega arith)
below (Broken E) = inl (omega arith)
below (Broken F) = inl (omega arith)
below (Broken G) = inl (omega arith)
below (Broken H) = inl (omega arith)
below (Broken I) = inl (omega arith)
below (Broken J) = inl (omega arith)
below (Broken K) = inl (omega arith)
below (Broken L) = inl (omega arith)
below (Broken M) = inl (omega arith)
below Small = inl (omega arith)
below ImageShort = inl (omega arith)
below ImageMark = inl (omega arith)
below ImageOther = inl (omega arith)
below (ImageShape Segments) = inl (omega arith)
below (ImageShape Rows) = inl (omega arith)
below (ImageShape Pages) = inl (omega arith)
below (ImageShape Frames) = inl (omega arith)
below (ImageShape Entries) = inl (omega arith)
below (ImageShape Share) = inl (omega arith)
below (ImageShape Total) = inl (omega arith)
below Absent = inl (omega arith)
below MapFull = inl (omega arith)
below SlotOpen = inl (omega arith)
below MapSetup = inl (omega arith)
below (Setup (OfShape Reserves)) = inl (omega arith)
below (Setup (OfShape Sums)) = inl (omega arith)
below (ImageShape Reserves) = inl (omega arith)
below (ImageShape Sums) = inl (omega arith)
below BrokenMap = inl (omega arith)
below BadAborted = inr (omega arith)
