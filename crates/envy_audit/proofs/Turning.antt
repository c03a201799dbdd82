-- What a turn of a loop finds.
use Rattle.std.proofs.Common.{◌≡◌, ◌⊎◌, ◌↔◌, ℕ, suc, ◌+◌, ◌-◌, ◌*◌, ◌/◌, ◌%◌, ◌^◌, ◌<◌, ◌≤◌, Bool, true, false, IsTrue, List, [], length, get_or, refl, sym, ◌∙◌, ap, subst, inl, inr, arith, Option, Some, None, is_some, not, Result, Ok, Err}
use Rattle.std.specs.Prelude.{slice_index, slice_index_or}
use Rattle.std.proofs.lemmas.Bool.{cases_lt, false≢true}
use Rattle.std.proofs.lemmas.Nat.{mul-add-lt, div-mul-add, div-add-mod'}
use Rattle.std.proofs.lemmas.List.{ext_get_or, get_or-replicate, length-replicate}
use Rattle.std.proofs.Math.Nat.{div-lt_iff_lt-mul, mod-lt}
use Rattle.envy_base.specs.declared.board.Off.{Off}
use Rattle.envy_base.specs.declared.shape.Shape.{Shape}
use Rattle.std.proofs.lemmas.Option.{same_Some}
use Rattle.envy_base.specs.declared.fields.Job.{Job}
use Rattle.envy_base.specs.declared.fields.Job.TheVariants.{Copy, Switch}
use Rattle.envy_base.specs.State.{ones}
use Rattle.envy_map.specs.Fields.{Chart}
use Rattle.envy_base.specs.Shape.{all_positions_of, positions_of}
use Rattle.envy_soundness.specs.Sound.{IsPlaced, IsReserved, IsSpare}
use Rattle.envy_audit.specs.Finding.{FindsSwitch, IsSwitching, Tells}
use Rattle.envy_audit.specs.Copying.{OriginsStand, KeptAreCopied, CopiesAreSame}
use Rattle.envy_audit.specs.Points.{rows_of, Stands, Switches, CopiesOf, JobStands, PositionsDiffer, Decodes, IsJobOf}
use Rattle.envy_audit.specs.Tables.{MarksPlaced, MarksUsed}

pub not-so : {P : Type 0} (b : Bool) → IsTrue b ↔ P → b ≡ false → P → ⊥
not-so b tells is fact = false≢true (sym is ∙ tells.1 fact)

pub refuted : {P : Type 0} → (P → ⊥) → IsTrue false ↔ P
refuted wrong = (λ sure. absurd (false≢true sure), λ fact. absurd (wrong fact))

pub shown : {P : Type 0} → P → IsTrue true ↔ P
shown fact = (λ _. fact, λ _. refl)

pub no-owner : {P : Type 0} (owner p : ℕ) → owner ≡ 0 → owner ≡ suc p → P
no-owner owner p none told = absurd (omega (arith, none, told))

pub some-owner : (owner : ℕ) → (owner ≡ 0 → ⊥) → owner ≡ suc (owner - 1)
some-owner owner some = omega (arith, some)

module _ (c : Chart) (placed : List Bool) (marks : MarksPlaced c placed) (s : ℕ) (within : s < c.shape.segments) where
  pub is-spare : slice_index_or placed s false ≡ false → IsSpare c.shape c.fields.positions s
  is-spare none = record { segment = within; nowhere = λ k below is. false≢true (sym none ∙ (marks.marks s within).1 (k, below, is)) }

  pub not-spare : {P : Type 0} → slice_index_or placed s false ≡ true → IsSpare c.shape c.fields.positions s → P
  not-spare there spare = let (k, below, is) = (marks.marks s within).0 there in absurd (spare.nowhere k below is)

  pub spare-unmarked : IsSpare c.shape c.fields.positions s → slice_index_or placed s false ≡ false
  spare-unmarked spare = by_mark (slice_index_or placed s false) refl
    where
      by_mark : (b : Bool) → slice_index_or placed s false ≡ b → slice_index_or placed s false ≡ false
      by_mark true e = not-spare e spare
      by_mark false e = e

module _ (c : Chart) (used : List Bool) (marks : MarksUsed c used) (s : ℕ) (within : s < c.shape.segments) where
  pub is-placed : slice_index_or used s false ≡ true → IsPlaced c.shape c.fields.positions s
  is-placed there = (marks.marks s within).0 there

  pub not-placed : {P : Type 0} → slice_index_or used s false ≡ false → IsPlaced c.shape c.fields.positions s → P
  not-placed none placed = absurd (false≢true (sym none ∙ (marks.marks s within).1 placed))

pub in-rows : (sh told : Shape) (q row : ℕ) → told ≡ sh → told.segments * told.rows ≤ row → q < rows_of sh → q < row
in-rows sh told q row is past within = omega (arith, ap (λ (x : Shape). x.segments * x.rows) is)

pub segment-of : (sh : Shape) (q : ℕ) → 0 < sh.rows → q < rows_of sh → q / sh.rows < sh.segments
segment-of sh q some within = (div-lt_iff_lt-mul some).1 within

-- lists of words
pub all-ones : (xs : List ℕ) → length xs ≡ 32 → ((k : ℕ) → k < 32 → get_or xs k 0 ≡ 2 ^ 64 - 1) → xs ≡ ones
all-ones xs long each =
    ext_get_or 0 xs ones (long ∙ sym (length-replicate 32 (2 ^ 64 - 1)))
    (λ k below. each k (omega (arith, below, long)) ∙ sym (get_or-replicate 32 k (2 ^ 64 - 1) 0 (omega (arith, below, long))))

pub not-ones : (xs : List ℕ) (k w : ℕ) → k < 32 → w ≡ get_or xs k 0 → (w ≡ 2 ^ 64 - 1 → ⊥) → xs ≡ ones → ⊥
not-ones xs k w below read other is = other (read ∙ (ap (λ (ys : List ℕ). get_or ys k 0) is ∙ get_or-replicate 32 k (2 ^ 64 - 1) 0 below))

pub same-words : (xs ys : List ℕ) → length xs ≡ 32 → length ys ≡ 32 → ((k : ℕ) → k < 32 → get_or xs k 0 ≡ get_or ys k 0) → xs ≡ ys
same-words xs ys long long' each = ext_get_or 0 xs ys (long ∙ sym long') (λ k below. each k (omega (arith, below, long)))

-- where a kept row may lie
module _ (c : Chart) (placed : List Bool) (marks : MarksPlaced c placed) (switching : Bool) (switches : IsTrue switching ↔ IsSwitching c)
    (s : ℕ) (within : s < c.shape.segments) (home : Bool) (tells : IsTrue home ↔ (IsTrue (slice_index_or placed s false) ⊎ IsTrue switching)) where
  abbrev IsHome : Type 0
  IsHome = Stands c.shape c.fields.positions s ⊎ ((v : ℕ) × (c.fields.job ≡ Some (Switch v)) × Stands c.shape c.fields.positions v × IsSpare c.shape c.fields.positions s)

  pub is-home : home ≡ true → IsHome
  is-home sure = elim (tells.0 sure) [
    | inl there ↦ inl ((marks.marks s within).0 there)
    | inr goes ↦ by_mark goes (slice_index_or placed s false) refl
  ]
    where
      by_mark : IsTrue switching → (b : Bool) → slice_index_or placed s false ≡ b → IsHome
      by_mark goes true there = inl ((marks.marks s within).0 there)
      by_mark goes false none = let (v, job, stands) = switches.0 goes in inr (v, job, stands, is-spare c placed marks s within none)

  pub no-home : {P : Type 0} → home ≡ false → IsHome → P
  no-home none (inl here) = absurd (false≢true (sym none ∙ tells.1 (inl ((marks.marks s within).1 here))))
  no-home none (inr (v, job, stands, spare)) = absurd (false≢true (sym none ∙ tells.1 (inr (switches.1 (v, job, stands)))))

-- whether a segment is at a position in reserve
module _ (c : Chart) (placed used : List Bool) (marks : MarksPlaced c placed) (in_use : MarksUsed c used) (apart : PositionsDiffer c) (s : ℕ) (within : s < c.shape.segments) (reserved : Bool)
    (tells : IsTrue reserved ↔ (IsTrue (slice_index_or placed s false) × (slice_index_or used s false ≡ false))) where
  pub is-reserved : reserved ≡ true → IsReserved c.shape c.fields.positions s
  is-reserved sure =
      let (there, unused) = tells.0 sure in
      let (k, below, is) = (marks.marks s within).0 there in
      by_place unused k below is (cases_lt k (positions_of c.shape))
    where
      by_place : slice_index_or used s false ≡ false → (k : ℕ) → k < all_positions_of c.shape → slice_index c.fields.positions k ≡ s → (k < positions_of c.shape) ⊎ (positions_of c.shape ≤ k) → IsReserved c.shape c.fields.positions s
      by_place unused k below is (inl less) = not-placed c used in_use s within unused (k, less, is)
      by_place unused k below is (inr more) = (k, more, below, is)

  pub not-reserved : {P : Type 0} → reserved ≡ false → IsReserved c.shape c.fields.positions s → P
  not-reserved none (k, more, below, is) = by_mark (slice_index_or used s false) refl
    where
      by_mark : {P : Type 0} → (b : Bool) → slice_index_or used s false ≡ b → P
      by_mark true there =
          let (j, less, at) = is-placed c used in_use s within there in
          let same : j ≡ k = apart j k (omega (arith, less)) below (at ∙ sym is) in
          absurd (omega (arith, less, more, same))
      by_mark false unused = absurd (false≢true (sym none ∙ tells.1 ((marks.marks s within).1 (k, below, is), unused)))

pub of-rows : (sh told : Shape) (row : ℕ) → told ≡ sh → row < told.segments * told.rows → row < rows_of sh
of-rows sh told row is within = omega (arith, ap (λ (x : Shape). x.segments * x.rows) is)

pub at-rows : (xs : List Bool) (sh told : Shape) (row : ℕ) (b : Bool) → told ≡ sh → slice_index_or xs (row / told.rows) false ≡ b → slice_index_or xs (row / sh.rows) false ≡ b
at-rows xs sh told row b is at = ap (λ (x : Shape). slice_index_or xs (row / x.rows) false) (sym is) ∙ at

-- whether it is one where a kept row may lie, by the board's own numbers
pub home-at : (placed : List Bool) (sh told : Shape) (row : ℕ) (switching home : Bool) → told ≡ sh
    → IsTrue home ↔ (IsTrue (slice_index_or placed (row / told.rows) false) ⊎ IsTrue switching)
    → IsTrue home ↔ (IsTrue (slice_index_or placed (row / sh.rows) false) ⊎ IsTrue switching)
home-at placed sh told row switching home is tells =
    subst (λ (x : Shape). IsTrue home ↔ (IsTrue (slice_index_or placed (row / x.rows) false) ⊎ IsTrue switching)) is tells

-- and whether it is one in reserve
pub reserved-at : (placed used : List Bool) (sh told : Shape) (row : ℕ) (reserved : Bool) → told ≡ sh
    → IsTrue reserved ↔ (IsTrue (slice_index_or placed (row / told.rows) false) × (slice_index_or used (row / told.rows) false ≡ false))
    → IsTrue reserved ↔ (IsTrue (slice_index_or placed (row / sh.rows) false) × (slice_index_or used (row / sh.rows) false ≡ false))
reserved-at placed used sh told row reserved is tells =
    subst (λ (x : Shape). IsTrue reserved ↔ (IsTrue (slice_index_or placed (row / x.rows) false) × (slice_index_or used (row / x.rows) false ≡ false))) is tells

-- row i of a segment
pub row-in : (sh : Shape) (v i : ℕ) → v < sh.segments → i < sh.rows → v * sh.rows + i < rows_of sh
row-in sh v i below within = omega (arith, mul-add-lt v sh.rows i sh.segments below within)

pub segment-is : (sh : Shape) (v i : ℕ) → i < sh.rows → (v * sh.rows + i) / sh.rows ≡ v
segment-is sh v i within = div-mul-add v sh.rows i within

pub place-in : (sh : Shape) (q v : ℕ) → 0 < sh.rows → q / sh.rows ≡ v → q ≡ v * sh.rows + q % sh.rows
place-in sh q v some is = sym (div-add-mod' q sh.rows) ∙ ap (λ (s : ℕ). s * sh.rows + q % sh.rows) is

pub rest-less : (sh : Shape) (q : ℕ) → 0 < sh.rows → q % sh.rows < sh.rows
rest-less sh q some = mod-lt q some

-- the parts of what the spare of a switch holds
pub tells-copies : (c : Chart) (v e fill : ℕ) (r : Result Bool Off) → fill ≡ slice_index c.fields.fills e → OriginsStand c v fill → KeptAreCopied c v fill → Tells c.on (CopiesAreSame c e fill) r → Tells c.on (CopiesOf c v e) r
tells-copies c v e fill (Err off) is stand all same = same
tells-copies c v e fill (Ok answer) is stand all same = (
  λ sure. whole (same.0 sure),
  λ copies. same.1 (λ i below kept. copies.same i (omega (arith, below)) kept),
)
  where
    whole : CopiesAreSame c e fill → CopiesOf c v e
    whole are_same = record {
      rows = λ i below. stand.rows i (omega (arith, below));
      differ = λ i j bi bj. stand.differ i j (omega (arith, bi)) (omega (arith, bj));
      all = λ p q named there. let (i, below, from) = all p q named there in (i, omega (arith, below), from);
      same = λ i below kept. are_same i (omega (arith, below)) kept;
    }

-- a copy, as it was told by the board's own numbers, and as the map knows it
module _ (c : Chart) (e i from : ℕ) (told : Shape) (rows : told.rows ≡ c.shape.rows) (is : from ≡ slice_index c.fields.origins i) where
  abbrev IsCopy : ℕ → ℕ → Type 0
  IsCopy n q = (slice_index_or c.flash n [] ≡ slice_index_or c.flash q []) × (slice_index c.fields.backs n ≡ slice_index c.fields.backs q)

  -- a copied row is as its original
  pub copy-known : (slice_index_or c.flash (e * told.rows + i) [] ≡ slice_index_or c.flash from []) × (slice_index c.fields.backs (e * told.rows + i) ≡ slice_index c.fields.backs from)
      → (slice_index_or c.flash (e * c.shape.rows + i) [] ≡ slice_index_or c.flash (slice_index c.fields.origins i) []) × (slice_index c.fields.backs (e * c.shape.rows + i) ≡ slice_index c.fields.backs (slice_index c.fields.origins i))
  copy-known same = subst (λ (n : ℕ). IsCopy (e * n + i) (slice_index c.fields.origins i)) rows (subst (λ (q : ℕ). IsCopy (e * told.rows + i) q) is same)

  -- by the shape that was told
  pub copy-told : (slice_index_or c.flash (e * c.shape.rows + i) [] ≡ slice_index_or c.flash (slice_index c.fields.origins i) []) × (slice_index c.fields.backs (e * c.shape.rows + i) ≡ slice_index c.fields.backs (slice_index c.fields.origins i))
      → (slice_index_or c.flash (e * told.rows + i) [] ≡ slice_index_or c.flash from []) × (slice_index c.fields.backs (e * told.rows + i) ≡ slice_index c.fields.backs from)
  copy-told same = subst (λ (n : ℕ). IsCopy (e * n + i) from) (sym rows) (subst (λ (q : ℕ). IsCopy (e * c.shape.rows + i) q) (sym is) same)

-- where one is found there is one
pub found-some : (c : Chart) (o : Option ℕ) (b : Bool) → FindsSwitch c (Ok o) → is_some o ≡ not b → b ≡ false → (v : ℕ) × Switches c v
found-some c None b finds is some = absurd (false≢true (is ∙ ap not some))
found-some c (Some v) b finds is some = (v, finds)

switch-same : (v w : ℕ) → Switch v ≡ Switch w → v ≡ w
switch-same v w is = cc

switch-copy : (v w : ℕ) → Switch v ≡ Copy w → ⊥
switch-copy v w is = cc

-- the job of a segment at a position that is switched
pub tells-job : (c : Chart) (v : ℕ) (r : Result Bool Off) → c.fields.job ≡ Some (Switch v) → IsPlaced c.shape c.fields.positions v → Tells c.on ((e : ℕ) → IsSpare c.shape c.fields.positions e → CopiesOf c v e) r → Tells c.on (JobStands c) r
tells-job c v (Err off) job placed tells = tells
tells-job c v (Ok answer) job placed tells = (
  λ sure. record {
    copied = λ w is. absurd (switch-copy v w (same_Some (Switch v) (Copy w) (sym job ∙ is)));
    switched = λ w is. inl (subst (λ (x : ℕ). IsPlaced c.shape c.fields.positions x) (switch-same v w (same_Some (Switch v) (Switch w) (sym job ∙ is))) placed);
    copies = λ w e switches spare. subst (λ (x : ℕ). CopiesOf c x e) (switch-same v w (same_Some (Switch v) (Switch w) (sym job ∙ switches.0))) (tells.0 sure e spare);
  },
  λ stands. tells.1 (λ e spare. stands.copies v e (job, placed) spare),
)

-- and its segment is one of those there are
pub switch-within : (c : Chart) (v : ℕ) → Decodes c → c.fields.job ≡ Some (Switch v) → v < c.shape.segments
switch-within c v d job = subst (λ (j : Option Job). IsJobOf c.shape j) job d.job
