-- States of a board on which nothing failed but perhaps the last operation.
use Rattle.std.proofs.Common.{inl, inr, ℕ, List, refl, sym, ◌∙◌, ap, subst, arith}
use Rattle.std.specs.Prelude.{IsTrue, Err}
use Rattle.envy_base.specs.Counting.{up}
use Rattle.envy_base.proofs.Counting.{up-least, up-rises}
use Rattle.envy_base.specs.State.{State, cut, with_word, with_row, with_segment, Erases, Programs, Puts}
use Rattle.envy_base.specs.declared.board.Off.{Off}
use Rattle.envy_base.specs.declared.board.Trouble.{Trouble}
use Rattle.envy_base.specs.declared.board.Trouble.TheVariants.{Off as TroubleOff, Bad}
use Rattle.envy_image.specs.Installing.{Goes, Upsets}

pub goes-none : (s : State) → IsTrue s.on → Goes s s
goes-none s on = record { on = on; same = refl }

pub goes-both : (a b c : State) → Goes a b → Goes b c → Goes a c
goes-both a b c first second = record {
  on = first.on;
  same = second.same ∙ ap (λ (s : State). record s { flash = c.flash; sram = c.sram; begun = c.begun; erases = c.erases }) first.same;
}

-- power is still on
pub still-on : (a b : State) → Goes a b → IsTrue b.on
still-on a b goes = subst (λ (s : State). IsTrue s.on) (sym goes.same) goes.on

-- what upsets a board later upsets it from the start
pub upsets-later : (a b c : State) → Goes a b → Upsets b c → Upsets a c
upsets-later a b c goes upset =
    let u = subst (λ (s : State). Upsets s c) goes.same upset in
    record { on = goes.on; failed = u.failed; cuts = u.cuts; bads = u.bads; same = u.same }

-- power fails, or a flash operation does, where nothing failed before
cut-upsets : (s : State) → IsTrue s.on → Upsets s (cut s)
cut-upsets s on = record { on = on; failed = inl (refl, up-rises s.cuts, refl); cuts = up-least s.cuts; bads = omega arith; same = refl }

bad-upsets : (s : State) → IsTrue s.on → Upsets s (record s { bads = up s.bads })
bad-upsets s on = record { on = on; failed = inr (on, refl, up-rises s.bads); cuts = omega arith; bads = up-least s.bads; same = refl }

goes-cut : (a b : State) → Goes a b → Upsets a (cut b)
goes-cut a b goes = upsets-later a b (cut b) goes (cut-upsets b (still-on a b goes))

goes-bad : (a b : State) → Goes a b → Upsets a (record b { bads = up b.bads })
goes-bad a b goes = upsets-later a b (record b { bads = up b.bads }) goes (bad-upsets b (still-on a b goes))

pub goes-segment : (a b : State) (e : ℕ) (rows : List (List ℕ)) → Goes a b → Goes a (with_segment b e rows)
goes-segment a b e rows goes = goes-both a b (with_segment b e rows) goes (record { on = still-on a b goes; same = refl })

pub goes-row : (a b : State) (q : ℕ) (row : List ℕ) → Goes a b → Goes a (with_row b q row)
goes-row a b q row goes = goes-both a b (with_row b q row) goes (record { on = still-on a b goes; same = refl })

pub goes-word : (a b : State) (w v : ℕ) → Goes a b → Goes a (with_word b w v)
goes-word a b w v goes = goes-both a b (with_word b w v) goes (record { on = still-on a b goes; same = refl })

-- an erase that fails upsets the board
pub erase-upset : (a b c : State) (e : ℕ) (trouble : Trouble) → Goes a b → Erases b e (Err trouble) c → Upsets a c
erase-upset a b c e TroubleOff goes (inl (off, is)) = absurd (let on = still-on a b goes in cc)
erase-upset a b c e TroubleOff goes (inr (on, rows, only, is)) = subst (λ (s : State). Upsets a s) (sym is) (goes-cut a (with_segment b e rows) (goes-segment a b e rows goes))
erase-upset a b c e Bad goes (on, rows, only, is) = subst (λ (s : State). Upsets a s) (sym is) (goes-bad a (with_segment b e rows) (goes-segment a b e rows goes))

-- a program that fails does
pub program-upset : (a b c : State) (q : ℕ) (page : List ℕ) (trouble : Trouble) → Goes a b → Programs b q page (Err trouble) c → Upsets a c
program-upset a b c q page TroubleOff goes (inl (off, is)) = absurd (let on = still-on a b goes in cc)
program-upset a b c q page TroubleOff goes (inr (on, row, whole, is)) = subst (λ (s : State). Upsets a s) (sym is) (goes-cut a (with_row b q row) (goes-row a b q row goes))
program-upset a b c q page Bad goes (on, row, whole, is) = subst (λ (s : State). Upsets a s) (sym is) (goes-bad a (with_row b q row) (goes-row a b q row goes))

-- a put that fails does
pub put-upset : (a b c : State) (w v : ℕ) (off : Off) → Goes a b → Puts b w v (Err off) c → Upsets a c
put-upset a b c w v off goes (inl (dark, is)) = absurd (let on = still-on a b goes in cc)
put-upset a b c w v off goes (inr (on, inl is)) = subst (λ (s : State). Upsets a s) (sym is) (goes-cut a b goes)
put-upset a b c w v off goes (inr (on, inr is)) = subst (λ (s : State). Upsets a s) (sym is) (goes-cut a (with_word b w v) (goes-word a b w v goes))
