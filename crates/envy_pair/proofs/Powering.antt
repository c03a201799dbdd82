-- Power of the chosen side cut by hand, seen without the boards.
use Rattle.std.proofs.Common.{◌≡◌, ℕ, ◌+◌, ◌≤◌, Bool, true, false, [], ◌∷◌, refl, sym, ap, subst, arith}
use Rattle.std.specs.Prelude.{IsTrue, ◌&&◌, if◌then◌else◌}
use Rattle.envy_memory.specs.Picture.{Picture}
use Rattle.envy_mirror.specs.Pair.{Side, Pair, is_good}
use Rattle.envy_mirror.specs.Reviving.{cut_side_by, cut_pair, other_than}
use Rattle.envy_mirror.specs.declared.standing.Standing.{Standing}
use Rattle.envy_mirror.specs.declared.standing.Standing.TheVariants.{Good, Behind, Gone as IsGone}
use Rattle.envy_mirror.specs.declared.standing.Which.{Which}
use Rattle.envy_mirror.specs.declared.standing.Which.TheVariants.{First, Second}
use Rattle.envy_trace.specs.declared.reply.Reply.TheVariants.{Restarted}
use Rattle.envy_trace.specs.declared.mirror_reply.MirrorReply.TheVariants.{Array as Plain, Gone}
use Rattle.envy_pair.specs.Bills.{Toll, Charged, Sums, Bill}
use Rattle.envy_pair.specs.MirrorRun.{If, Powers, undo_all_in}
use Rattle.envy_pair.specs.Restarting.{no_toll}
use Rattle.envy_pair.specs.Serving.{Past, Known, side_of, state_of, IsSpent, Serves}
use Rattle.envy_pair.specs.State.{SideState, MirrorState, cut_by, cut_chosen, has_good, revived}
use Rattle.envy_pair.proofs.Charging.{one_pull, Charged-refl, Charged-pulled}
use Rattle.envy_pair.proofs.Commanding.{past_if, spent-kept}
use Rattle.envy_pair.proofs.Following.{plus-none}

-- ---- one side

-- a side that has power goes Gone
abbrev pub past_cut : Standing → Past → Past
past_cut Good k = past_if true k
past_cut Behind k = past_if true k
past_cut IsGone k = k

abbrev pub cut_toll : Standing → Toll
cut_toll Good = one_pull
cut_toll Behind = one_pull
cut_toll IsGone = no_toll

side-cut : (g : Standing) (m : Picture) (k : Past) → side_of (cut_side_by g (record { memory = m; standing = g })) (past_cut g k) ≡ cut_by g (record { standing = g; falls = k.falls; dead = k.dead })
side-cut Good m k = refl
side-cut Behind m k = refl
side-cut IsGone m k = refl

charged-cut : (g : Standing) (s : Side) → Charged (cut_toll g) s.memory (cut_side_by g s).memory
charged-cut Good s = Charged-pulled s.memory
charged-cut Behind s = Charged-pulled s.memory
charged-cut IsGone s = Charged-refl s.memory

spent-cut : (g : Standing) (k : Past) (s : Side) → IsSpent k s → IsSpent (past_cut g k) (cut_side_by g s)
spent-cut Good k s spent = spent-kept one_pull true k s (cut_side_by Good s) (Charged-pulled s.memory) spent
spent-cut Behind k s spent = spent-kept one_pull true k s (cut_side_by Behind s) (Charged-pulled s.memory) spent
spent-cut IsGone k s spent = spent

abbrev pub fell_cut : Standing → ℕ
fell_cut Good = 1
fell_cut Behind = 1
fell_cut IsGone = 0

falls-cut : (g : Standing) (k : Past) → (past_cut g k).falls ≡ k.falls + fell_cut g
falls-cut Good k = refl
falls-cut Behind k = refl
falls-cut IsGone k = plus-none k.falls

-- at most one cut by hand, which makes it Gone
pub record CutPays (g : Standing) : Type 0 where
  pub pulls : (cut_toll g).pulls ≤ 1
  pub few : fell_cut g ≤ 1
  pub plans : (cut_toll g).plans ≡ 0
  pub falls : fell_cut g ≤ (cut_toll g).pulls + (cut_toll g).fails

cut-pays : (g : Standing) → CutPays g
cut-pays Good = record { pulls = omega arith; few = omega arith; plans = refl; falls = omega arith }
cut-pays Behind = record { pulls = omega arith; few = omega arith; plans = refl; falls = omega arith }
cut-pays IsGone = record { pulls = omega arith; few = omega arith; plans = refl; falls = omega arith }

-- ---- the pair

abbrev pub cut_known : Which → Known → Pair → Known
cut_known First k p = record { array = k.array; first = past_cut p.first.standing k.first; second = k.second }
cut_known Second k p = record { array = k.array; first = k.first; second = past_cut p.second.standing k.second }

pub state-cut : (w : Which) (k : Known) (p : Pair) → state_of (cut_known w k p) (cut_pair w p) w ≡ cut_chosen (state_of k p w)
state-cut First k p =
    let with_first : SideState → MirrorState = λ s. record { array = k.array; first = s; second = side_of p.second k.second; stale = p.stale; last = if is_good p.first && is_good p.second then other_than First else p.last; chosen = First } in
    ap with_first (side-cut p.first.standing p.first.memory k.first)
state-cut Second k p =
    let with_second : SideState → MirrorState = λ s. record { array = k.array; first = side_of p.first k.first; second = s; stale = p.stale; last = if is_good p.first && is_good p.second then other_than Second else p.last; chosen = Second } in
    ap with_second (side-cut p.second.standing p.second.memory k.second)

abbrev pub power_sums : ℕ → ℕ → Sums
power_sums first second = record { lines = 1; powers = 1; plans = 0; losts = 0; faults = 0; first_falls = first; second_falls = second }

-- what was known and paid once power was cut
pub record Cut (k : Known) (old new : Pair) (w : Which) : Type 0 where
  pub left : Known
  pub state : state_of left new w ≡ cut_chosen (state_of k old w)
  pub array : left.array ≡ k.array
  pub spent_first : IsSpent left.first new.first
  pub spent_second : IsSpent left.second new.second
  pub first_falls : ℕ
  pub second_falls : ℕ
  pub bill : Bill (power_sums first_falls second_falls) old new
  pub first : left.first.falls ≡ k.first.falls + first_falls
  pub second : left.second.falls ≡ k.second.falls + second_falls

cut-so : (w : Which) (k : Known) (old : Pair) → Serves k old → Cut k old (cut_pair w old) w
cut-so First k old s =
    let g = old.first.standing in
    let pays = cut-pays g in
    record {
      left = cut_known First k old;
      state = state-cut First k old;
      array = refl;
      spent_first = spent-cut g k.first old.first s.first;
      spent_second = s.second;
      first_falls = fell_cut g;
      second_falls = 0;
      bill = record {
        first = cut_toll g;
        second = no_toll;
        to_first = charged-cut g old.first;
        to_second = Charged-refl old.second.memory;
        pulls = let e = pays.pulls in omega arith;
        faults = omega arith;
        losts = omega arith;
        plans = let e = pays.plans in omega arith;
        first_falls = pays.falls;
        second_falls = omega arith;
        few_pulls = let e = pays.pulls in omega arith;
        few_faults = omega arith;
        few_losts = omega arith;
        few_first = pays.few;
        few_second = omega arith;
      };
      first = falls-cut g k.first;
      second = plus-none k.second.falls;
    }
cut-so Second k old s =
    let g = old.second.standing in
    let pays = cut-pays g in
    record {
      left = cut_known Second k old;
      state = state-cut Second k old;
      array = refl;
      spent_first = s.first;
      spent_second = spent-cut g k.second old.second s.second;
      first_falls = 0;
      second_falls = fell_cut g;
      bill = record {
        first = no_toll;
        second = cut_toll g;
        to_first = Charged-refl old.first.memory;
        to_second = charged-cut g old.second;
        pulls = let e = pays.pulls in omega arith;
        faults = omega arith;
        losts = omega arith;
        plans = let e = pays.plans in omega arith;
        first_falls = omega arith;
        second_falls = pays.falls;
        few_pulls = let e = pays.pulls in omega arith;
        few_faults = omega arith;
        few_losts = omega arith;
        few_first = omega arith;
        few_second = pays.few;
      };
      first = plus-none k.first.falls;
      second = falls-cut g k.second;
    }

pub cut-known : (w : Which) (k : Known) (old new : Pair) → Serves k old → new ≡ cut_pair w old → Cut k old new w
cut-known w k old new s is = subst (λ (p : Pair). Cut k old p w) (sym is) (cut-so w k old s)

-- ---- the replies

pub powers-lit : (s t : MirrorState) → t ≡ cut_chosen s → IsTrue (has_good t) → Powers s (Gone ∷ []) t
powers-lit s t is good =
    let e : has_good (cut_chosen s) ≡ true = subst (λ (x : MirrorState). has_good x ≡ true) is good in
    subst (λ (b : Bool). If b ((Gone ∷ [] ≡ Gone ∷ []) × (t ≡ cut_chosen s)) ((Gone ∷ [] ≡ Plain Restarted ∷ []) × (t ≡ revived (undo_all_in (cut_chosen s))))) (sym e) (refl, is)

pub powers-dark : (s t : MirrorState) → has_good (cut_chosen s) ≡ false → t ≡ revived (undo_all_in (cut_chosen s)) → Powers s (Plain Restarted ∷ []) t
powers-dark s t dark is =
    subst (λ (b : Bool). If b ((Plain Restarted ∷ [] ≡ Gone ∷ []) × (t ≡ cut_chosen s)) ((Plain Restarted ∷ [] ≡ Plain Restarted ∷ []) × (t ≡ revived (undo_all_in (cut_chosen s))))) (sym dark) (refl, is)
