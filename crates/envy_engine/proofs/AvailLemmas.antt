-- The lowest position of a home's partition with a free row that the job leaves free.
use Rattle.std.proofs.Common.{◌≡◌, ◌≢◌, ◌⊎◌, inl, inr, ℕ, ◌-◌, ◌<◌, List, get_or, Option, None, Some, IfSome, MatchOption, refl, sym, ◌∙◌, ap, subst, arith}
use Rattle.envy_base.specs.declared.shape.Shape.{Shape}
use Rattle.envy_map.specs.Fields.{Chart}
use Rattle.envy_policy.specs.Choice.{IsLeast}
use Rattle.envy_base.specs.declared.fields.Job.TheVariants.{Copy, Switch}
use Rattle.envy_soundness.specs.Sound.{IsPlaced, IsSound, Jobs, Sound}
use Rattle.envy_policy.specs.History.{History, partition_of}
use Rattle.envy_policy.specs.Lifetime.{HasRoom}
use Rattle.envy_policy.specs.Notes.{Notes}
use Rattle.envy_reloc.specs.Plan.{IsFreeOf}
use Rattle.envy_space.specs.Pool.{Pool, IsPool, PoolAgrees, free_at}
use Rattle.envy_victims.specs.Choosing.{IsFreeBeside, counts_in}
use Rattle.envy_victims.proofs.PooledLemmas.{at}
use Rattle.envy_victims.proofs.ChoosingLemmas.{long}
use Rattle.envy_engine.specs.Agreement.{PartsAgree}
use Rattle.envy_engine.specs.declared.parts.Parts.{Parts}
use Rattle.envy_engine.specs.Flushing.{IsAvailable, IsNoneNear, IsLowestNear, GoesBeside, IsEmptied, IsNoneAvailable, IsLowestAvailable}
use Rattle.envy_base.specs.Shape.{positions_of}

-- what the job leaves free is where another segment stands than the one that it relocates
abbrev pub Spares : Chart → Option ℕ → Type 0
Spares c avoided = (s : ℕ) → avoided ≢ Some s → IsFreeOf c.fields.job s

abbrev pub Takes : Chart → Option ℕ → Type 0
Takes c avoided = (s : ℕ) → avoided ≡ Some s → IsFreeOf c.fields.job s → ⊥

pub available : (h : History) (home : ℕ) (c : Chart) (pool : Pool) (avoided : Option ℕ) (k : ℕ) → PoolAgrees c.shape c.fields pool → Spares c avoided → IsFreeBeside h pool (partition_of h home) avoided k → IsAvailable h home c k
available h home c pool avoided k agrees spares is =
    let at : get_or pool.positions k 0 ≡ get_or c.fields.positions k 0 = ap (λ (xs : List ℕ). get_or xs k 0) agrees.positions in
    let fill : get_or pool.fills (get_or pool.positions k 0) 0 ≡ get_or c.fields.fills (get_or c.fields.positions k 0) 0 = ap (λ (xs : List ℕ). get_or xs (get_or pool.positions k 0) 0) agrees.fills ∙ ap (λ (s : ℕ). get_or c.fields.fills s 0) at in
    let segments = ap (λ (sh : Shape). sh.segments) agrees.shape in
    let reserves = ap (λ (sh : Shape). sh.reserves) agrees.shape in
    let rows = ap (λ (sh : Shape). sh.rows) agrees.shape in
    record {
      position = let low = is.position in omega arith;
      near = is.near;
      room = let some = is.free in omega arith;
      free = subst (λ (s : ℕ). IsFreeOf c.fields.job s) at (spares (get_or pool.positions k 0) is.other);
    }

pub beside : (h : History) (home : ℕ) (c : Chart) (pool : Pool) (avoided : Option ℕ) (k : ℕ) → PoolAgrees c.shape c.fields pool → Takes c avoided → IsAvailable h home c k → IsFreeBeside h pool (partition_of h home) avoided k
beside h home c pool avoided k agrees takes is =
    let at : get_or pool.positions k 0 ≡ get_or c.fields.positions k 0 = ap (λ (xs : List ℕ). get_or xs k 0) agrees.positions in
    let fill : get_or pool.fills (get_or pool.positions k 0) 0 ≡ get_or c.fields.fills (get_or c.fields.positions k 0) 0 = ap (λ (xs : List ℕ). get_or xs (get_or pool.positions k 0) 0) agrees.fills ∙ ap (λ (s : ℕ). get_or c.fields.fills s 0) at in
    let segments = ap (λ (sh : Shape). sh.segments) agrees.shape in
    let reserves = ap (λ (sh : Shape). sh.reserves) agrees.shape in
    let rows = ap (λ (sh : Shape). sh.rows) agrees.shape in
    record {
      position = let low = is.position in omega arith;
      near = is.near;
      free = let room = is.room in omega arith;
      other = λ e. takes (get_or pool.positions k 0) e (subst (λ (s : ℕ). IsFreeOf c.fields.job s) (sym at) is.free);
    }

-- the answer of the pool, said of the board
pub found-available : (h : History) (home : ℕ) (c : Chart) (pool : Pool) (avoided found : Option ℕ) → PoolAgrees c.shape c.fields pool → Spares c avoided → Takes c avoided → MatchOption found ((k : ℕ) → IsFreeBeside h pool (partition_of h home) avoided k → ⊥) (IsLeast (IsFreeBeside h pool (partition_of h home) avoided) (λ k. k)) → MatchOption found (IsNoneNear h home c) (IsLowestNear h home c)
found-available h home c pool avoided None agrees spares takes none = λ k is. none k (beside h home c pool avoided k agrees takes is)
found-available h home c pool avoided (Some k) agrees spares takes least = record {
  is = available h home c pool avoided k agrees spares least.holds;
  lowest = λ j less is. let at_least = least.least j (beside h home c pool avoided j agrees takes is) in omega arith;
}

-- what a job relocates stands at a position
pub relocated-placed : (c : Chart) (x : Parts) (s : ℕ) → IsSound c → PartsAgree c x → (c.fields.job ≡ Some (Copy s)) ⊎ (c.fields.job ≡ Some (Switch s)) → IsPlaced x.space.shape x.space.positions s
relocated-placed c x s sound agrees is = (here.0, subst (λ (sh : Shape). here.0 < positions_of sh) (sym agrees.pool.shape) here.1, ap (λ (xs : List ℕ). get_or xs here.0 0) agrees.pool.positions ∙ here.2)
  where
    placed : (c.fields.job ≡ Some (Copy s)) ⊎ (c.fields.job ≡ Some (Switch s)) → IsPlaced c.shape c.fields.positions s
    placed (inl e) = Jobs.copying (Sound.job sound) s e
    placed (inr e) = agrees.job.switched.placed s e

    here : IsPlaced c.shape c.fields.positions s
    here = placed is

pub emptied-some : (c : Chart) (pool : Pool) (s k : ℕ) → PoolAgrees c.shape c.fields pool → Takes c (Some s) → k < positions_of pool.shape → get_or pool.positions k 0 ≡ s → IsEmptied c (Some k)
emptied-some c pool s k agrees takes below is =
    let at : get_or pool.positions k 0 ≡ get_or c.fields.positions k 0 = ap (λ (xs : List ℕ). get_or xs k 0) agrees.positions in
    (subst (λ (sh : Shape). k < positions_of sh) agrees.shape below, λ free. takes s refl (subst (λ (n : ℕ). IsFreeOf c.fields.job n) (sym at ∙ is) free))

pub emptied-none : (c : Chart) → Spares c None → IsEmptied c None
emptied-none c spares = λ k below. spares (get_or c.fields.positions k 0) (λ e. cc)

-- another position is left free
pub others-some : (c : Chart) (pool : Pool) (s k : ℕ) → PoolAgrees c.shape c.fields pool → IsPool pool → Spares c (Some s) → k < positions_of pool.shape → get_or pool.positions k 0 ≡ s → (j : ℕ) → j < positions_of c.shape → Some k ≢ Some j → IsFreeOf c.fields.job (get_or pool.positions j 0)
others-some c pool s k agrees whole spares below is j inside other = spares (get_or pool.positions j 0) (λ e.
    let same : s ≡ get_or pool.positions j 0 = cc in
    let met = whole.apart k j (omega (arith, below)) (omega (arith, subst (λ (sh : Shape). j < positions_of sh) (sym agrees.shape) inside)) (is ∙ same) in
    other (ap (λ (n : ℕ). Some n) met))

pub others-none : (c : Chart) (pool : Pool) → Spares c None → (j : ℕ) → j < positions_of c.shape → None ≢ Some j → IsFreeOf c.fields.job (get_or pool.positions j 0)
others-none c pool spares j inside other = spares (get_or pool.positions j 0) (λ e. cc)

-- the position for a page has room, and is left free
pub beside-room : (pool : Pool) (rows : ℕ) (emptied found : Option ℕ) → pool.shape.rows ≡ rows → IfSome found (λ k. k < positions_of pool.shape) → IfSome found (λ k. HasRoom (counts_in pool) emptied k) → IfSome found (λ k. get_or pool.fills (get_or pool.positions k 0) 0 < rows)
beside-room pool rows emptied None same below room = tt
beside-room pool rows emptied (Some k) same below room =
    let is = at (free_at pool) (positions_of pool.shape) k (omega (arith, below, long (free_at pool) (positions_of pool.shape))) in
    omega (arith, is, room.0, same)

pub beside-free : (c : Chart) (pool : Pool) (emptied found : Option ℕ) → PoolAgrees c.shape c.fields pool → ((j : ℕ) → j < positions_of c.shape → emptied ≢ Some j → IsFreeOf c.fields.job (get_or pool.positions j 0)) → IfSome found (λ k. k < positions_of pool.shape) → IfSome found (λ k. HasRoom (counts_in pool) emptied k) → IfSome found (λ k. IsFreeOf c.fields.job (get_or pool.positions k 0))
beside-free c pool emptied None agrees others below room = tt
beside-free c pool emptied (Some k) agrees others below room = others k (subst (λ (sh : Shape). k < positions_of sh) agrees.shape below) room.1

pub beside-within : (sh sh2 : Shape) (found : Option ℕ) → sh ≡ sh2 → IfSome found (λ k. k < positions_of sh) → IfSome found (λ k. k < positions_of sh2)
beside-within sh sh2 found same below = subst (λ (z : Shape). IfSome found (λ k. k < positions_of z)) same below

-- by the home, or by the lives
pub available-near : (x : Parts) (home page : ℕ) (c : Chart) (found : Option ℕ) → x.chooser.lives ≡ None → MatchOption found (IsNoneNear x.chooser home c) (IsLowestNear x.chooser home c) → MatchOption found (IsNoneAvailable x home page c) (λ k. IsLowestAvailable x home page c k)
available-near x home page c None e is = subst (λ (l : Option Notes). MatchOption l (IsNoneNear x.chooser home c) (λ n. GoesBeside n x.space page c None)) (sym e) is
available-near x home page c (Some k) e is = subst (λ (l : Option Notes). MatchOption l (IsLowestNear x.chooser home c k) (λ n. GoesBeside n x.space page c (Some k))) (sym e) is

pub available-lives : (x : Parts) (n : Notes) (home page : ℕ) (c : Chart) (found : Option ℕ) → x.chooser.lives ≡ Some n → GoesBeside n x.space page c found → MatchOption found (IsNoneAvailable x home page c) (λ k. IsLowestAvailable x home page c k)
available-lives x n home page c None e is = subst (λ (l : Option Notes). MatchOption l (IsNoneNear x.chooser home c) (λ m. GoesBeside m x.space page c None)) (sym e) is
available-lives x n home page c (Some k) e is = subst (λ (l : Option Notes). MatchOption l (IsLowestNear x.chooser home c k) (λ m. GoesBeside m x.space page c (Some k))) (sym e) is
