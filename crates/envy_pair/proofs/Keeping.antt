-- A side that never went Gone is Good.
use Rattle.std.proofs.Common.{◌≡◌, inl, inr, ℕ, Bool, true, false, List, [], ◌∷◌, refl, sym, ◌∙◌, ap, subst, arith}
use Rattle.envy_array.specs.Array.{Array}
use Rattle.envy_array.specs.Step.{Command}
use Rattle.envy_mirror.specs.declared.standing.Standing.{Standing}
use Rattle.envy_mirror.specs.declared.standing.Standing.TheVariants.{Good, Behind, Gone as IsGone}
use Rattle.envy_mirror.specs.declared.standing.Which.{Which}
use Rattle.envy_mirror.specs.declared.standing.Which.TheVariants.{First, Second}
use Rattle.envy_trace.specs.declared.line.Line.{Line}
use Rattle.envy_trace.specs.declared.line.Line.TheVariants.{Empty, Load, Look, Store, Begin, Put, Commit, Abort, Tick, Power, Cut, Bad, Stat}
use Rattle.envy_trace.specs.declared.mirror_line.MirrorLine.{MirrorLine}
use Rattle.envy_trace.specs.declared.mirror_line.MirrorLine.TheVariants.{Array as OfArray, Side, Catch}
use Rattle.envy_trace.specs.declared.reply.Reply.TheVariants.{Fault, Restarted}
use Rattle.envy_trace.specs.declared.mirror_reply.MirrorReply.{MirrorReply}
use Rattle.envy_trace.specs.declared.mirror_reply.MirrorReply.TheVariants.{Array as Plain, Gone, Waiting, Woken, Copied, Joined, Dead, Slipped}
use Rattle.envy_pair.specs.MirrorRun.{If, MirrorTurn, MirrorRun, DoesMirror, DoesLine, Commands, Powers, Follows, CatchesBy, undo_all_in}
use Rattle.envy_pair.specs.State.{SideState, MirrorState, MayFall, Falls, gone, cut_by, cut_chosen, has_good, is_up, revived, side_in, with_side_in, begun}

-- a side that wasn't Gone yet is Good
abbrev pub IsFirm : SideState → Type 0
IsFirm side = side.falls ≡ 0 → side.standing ≡ Good

pub record AreFirm (s : MirrorState) : Type 0 where
  pub first : IsFirm s.first
  pub second : IsFirm s.second

firm-gone : (side : SideState) → IsFirm (gone side)
firm-gone side none = absurd (omega arith)

firm-fall : (old new : SideState) → MayFall old new → IsFirm old → IsFirm new
firm-fall old new (inl same) firm = subst IsFirm (sym same) firm
firm-fall old new (inr (good, same)) firm = subst IsFirm (sym same) (firm-gone old)

firm-falls : (s t : MirrorState) → Falls s t → AreFirm s → AreFirm t
firm-falls s t f a = record { first = firm-fall s.first t.first f.first a.first; second = firm-fall s.second t.second f.second a.second }

firm-same : (s t : MirrorState) → t ≡ s → AreFirm s → AreFirm t
firm-same s t same a = subst AreFirm (sym same) a

firm-revived-by : (one : Which) (s : MirrorState) (left : List Bool) → AreFirm s → AreFirm (record (with_side_in one (record (side_in one s) { standing = Good }) s) { stale = left })
firm-revived-by First s left a = record { first = λ none. refl; second = a.second }
firm-revived-by Second s left a = record { first = a.first; second = λ none. refl }

firm-revived : (s t : MirrorState) → t ≡ revived s → AreFirm s → AreFirm t
firm-revived s t is a = firm-same (revived s) t is (firm-revived-by s.last s _ a)

firm-cut : (g : Standing) (side : SideState) → IsFirm side → IsFirm (cut_by g side)
firm-cut Good side firm = firm-gone side
firm-cut Behind side firm = firm-gone side
firm-cut IsGone side firm = firm

firm-cut-by : (one last : Which) (s : MirrorState) → AreFirm s → AreFirm (record (with_side_in one (cut_by (side_in one s).standing (side_in one s)) s) { last = last })
firm-cut-by First last s a = record { first = firm-cut s.first.standing s.first a.first; second = a.second }
firm-cut-by Second last s a = record { first = a.first; second = firm-cut s.second.standing s.second a.second }

firm-chosen : (s : MirrorState) → AreFirm s → AreFirm (cut_chosen s)
firm-chosen s a = firm-cut-by s.chosen _ s a

firm-undone : (s : MirrorState) → AreFirm s → AreFirm (undo_all_in s)
firm-undone s a = record { first = a.first; second = a.second }

firm-commands : (s : MirrorState) (command : Command) (replies : List MirrorReply) (t : MirrorState) → Commands s command replies t → AreFirm s → AreFirm t
firm-commands s command replies t (inl told) a = firm-falls s t told.falls a
firm-commands s command replies t (inr (says, mid, dark, is)) a = firm-revived mid t is (firm-falls s mid dark.falls a)

firm-powers : (s : MirrorState) (replies : List MirrorReply) (t : MirrorState) → Powers s replies t → AreFirm s → AreFirm t
firm-powers s replies t powers a = at (has_good (cut_chosen s)) powers
  where
    at : (b : Bool) → If b ((replies ≡ Gone ∷ []) × (t ≡ cut_chosen s)) ((replies ≡ Plain Restarted ∷ []) × (t ≡ revived (undo_all_in (cut_chosen s)))) → AreFirm t
    at true (says, is) = firm-same (cut_chosen s) t is (firm-chosen s a)
    at false (says, is) = firm-revived (undo_all_in (cut_chosen s)) t is (firm-undone (cut_chosen s) (firm-chosen s a))

behind-firm : (old new : SideState) → new ≡ old → IsFirm old → IsFirm new
behind-firm old new same firm = subst IsFirm (sym same) firm

-- a Gone side was Gone before
gone-firm : (old new : SideState) (n : ℕ) → old.standing ≡ IsGone → new.falls ≡ old.falls → IsFirm old → IsFirm new
gone-firm old new n is same firm = λ none. let good = firm (sym same ∙ none) in let clash : IsGone ≡ Good = sym is ∙ good in cc

firm-follows : (m : Array) (reply : MirrorReply) (old new : SideState) (stale left : List Bool) → Follows m reply old stale new left → IsFirm old → IsFirm new
firm-follows m Dead old new stale left (is, same, marks) firm = gone-firm old new 0 is (ap (λ (x : SideState). x.falls) same) firm
firm-follows m Woken old new stale left (may, same, marks) firm = gone-firm old new 0 may.0 (ap (λ (x : SideState). x.falls) same) firm
firm-follows m (Waiting t) old new stale left (is, low, (same, marks)) firm = behind-firm old new same firm
firm-follows m (Copied p) old new stale left (may, same, marks) firm = behind-firm old new same firm
firm-follows m Slipped old new stale left (why, same, marks) firm = subst IsFirm (sym same) (firm-gone old)
firm-follows m Joined old new stale left (is, none, fresh, same, marks) firm = subst IsFirm (sym same) (λ zero_falls. refl)
firm-follows m (Plain Fault) old new stale left (p, may, (same, marks)) firm = behind-firm old new same firm
firm-follows m reply old new stale left never firm = absurd never

firm-catches : (s : MirrorState) (reply : MirrorReply) (t : MirrorState) (b c : Bool) → CatchesBy b c s reply t → AreFirm s → AreFirm t
firm-catches s reply t true true (says, is) a = firm-same s t is a
firm-catches s reply t true false (follows, is) a = record { first = subst IsFirm (sym (ap (λ (x : MirrorState). x.first) is)) a.first; second = firm-follows s.array reply s.second t.second s.stale t.stale follows a.second }
firm-catches s reply t false true (follows, is) a = record { first = firm-follows s.array reply s.first t.first s.stale t.stale follows a.first; second = subst IsFirm (sym (ap (λ (x : MirrorState). x.second) is)) a.second }
firm-catches s reply t false false never a = absurd never

firm-line : (line : Line) (s : MirrorState) (replies : List MirrorReply) (t : MirrorState) → DoesLine s line replies t → AreFirm s → AreFirm t
firm-line Empty s replies t (says, is) a = firm-same s t is a
firm-line (Load x) s replies t (answer, step, says, is) a = firm-same s t is a
firm-line (Look x) s replies t (answer, step, says, is) a = firm-same s t is a
firm-line (Store x w) s replies t does a = firm-commands s _ replies t does a
firm-line Begin s replies t does a = firm-commands s _ replies t does a
firm-line (Put u x w) s replies t does a = firm-commands s _ replies t does a
firm-line (Commit u) s replies t does a = firm-commands s _ replies t does a
firm-line (Abort u) s replies t does a = firm-commands s _ replies t does a
firm-line Tick s replies t does a = firm-commands s _ replies t does a
firm-line Power s replies t does a = firm-powers s replies t does a
firm-line (Cut k g) s replies t (says, is) a = firm-same s t is a
firm-line (Bad k g) s replies t (says, is) a = firm-same s t is a
firm-line Stat s replies t (counts, (says, is)) a = firm-same s t is a

firm-does : (line : MirrorLine) (s : MirrorState) (replies : List MirrorReply) (t : MirrorState) → DoesMirror s line replies t → AreFirm s → AreFirm t
firm-does (OfArray line) s replies t does a = firm-line line s replies t does a
firm-does (Side x) s replies t (says, is) a = subst AreFirm (sym is) (record { first = a.first; second = a.second })
firm-does Catch s replies t (reply, says, catches) a = firm-catches s reply t (is_up s.first) (is_up s.second) catches a

pub firm-run : (first : MirrorState) (turns : List MirrorTurn) (s : MirrorState) → AreFirm first → MirrorRun first turns s → AreFirm s
firm-run first [] s a run = firm-same first s run a
firm-run first (turn ∷ earlier) s a (mid, before, does) = firm-does turn.line mid turn.replies s does (firm-run first earlier mid a before)

pub firm-begun : (m : Array) (count : ℕ) → AreFirm (begun m count)
firm-begun m count = record { first = λ none. refl; second = λ none. refl }
