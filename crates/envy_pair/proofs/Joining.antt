-- After `joined` both sides are Good.
use Rattle.std.proofs.Common.{◌≡◌, ◌⊎◌, inl, inr, Bool, true, false, List, [], ◌∷◌, refl, sym, ◌∙◌, ap, subst}
use Rattle.std.specs.Prelude.{IsTrue}
use Rattle.envy_array.specs.Array.{Array}
use Rattle.envy_array.specs.Step.{Command}
use Rattle.envy_trace.specs.declared.line.Line.{Line}
use Rattle.envy_trace.specs.declared.line.Line.TheVariants.{Empty, Load, Look, Store, Begin, Put, Commit, Abort, Tick, Power, Cut, Bad, Stat}
use Rattle.envy_trace.specs.declared.mirror_line.MirrorLine.{MirrorLine}
use Rattle.envy_trace.specs.declared.mirror_line.MirrorLine.TheVariants.{Array as OfArray, Side, Catch}
use Rattle.envy_trace.specs.declared.reply.Reply.TheVariants.{Restarted}
use Rattle.envy_trace.specs.declared.mirror_reply.MirrorReply.{MirrorReply}
use Rattle.envy_trace.specs.declared.mirror_reply.MirrorReply.TheVariants.{Array as Plain, Gone, Whole, Waiting, Woken, Copied, Joined, Dead, Slipped}
use Rattle.envy_pair.specs.Ending.{says_joined, just_joined}
use Rattle.envy_pair.specs.MirrorRun.{If, MirrorTurn, MirrorRun, DoesMirror, DoesLine, Commands, IsAnswered, IsFaulted, Powers, Follows, CatchesBy, undo_all_in}
use Rattle.envy_pair.specs.State.{SideState, MirrorState, cut_chosen, has_good, is_up, revived}

-- these replies don't say so
not-joined : (replies wanted : List MirrorReply) → replies ≡ wanted → says_joined wanted ≡ false → IsTrue (says_joined replies) → ⊥
not-joined replies wanted is none says = let clash : true ≡ false = sym says ∙ ap says_joined is ∙ none in cc

-- a command never does
not-commands : (s : MirrorState) (command : Command) (replies : List MirrorReply) (t : MirrorState) → Commands s command replies t → IsTrue (says_joined replies) → ⊥
not-commands s command replies t (inl told) = at told.told
  where
    at : IsAnswered s command replies t ⊎ IsFaulted s command replies t → IsTrue (says_joined replies) → ⊥
    at (inl a) = not-joined replies _ a.says refl
    at (inr f) = not-joined replies _ f.says refl
not-commands s command replies t (inr (is, mid, dark, back)) = not-joined replies _ is refl

not-powers : (s : MirrorState) (replies : List MirrorReply) (t : MirrorState) → Powers s replies t → IsTrue (says_joined replies) → ⊥
not-powers s replies t powers says = at (has_good (cut_chosen s)) powers
  where
    at : (b : Bool) → If b ((replies ≡ Gone ∷ []) × (t ≡ cut_chosen s)) ((replies ≡ Plain Restarted ∷ []) × (t ≡ revived (undo_all_in (cut_chosen s)))) → ⊥
    at true (is, same) = not-joined replies _ is refl says
    at false (is, same) = not-joined replies _ is refl says

not-line : (line : Line) (s : MirrorState) (replies : List MirrorReply) (t : MirrorState) → DoesLine s line replies t → IsTrue (says_joined replies) → ⊥
not-line Empty s replies t (is, same) = not-joined replies _ is refl
not-line (Load x) s replies t (answer, step, is, same) = not-joined replies _ is refl
not-line (Look x) s replies t (answer, step, is, same) = not-joined replies _ is refl
not-line (Store x w) s replies t does = not-commands s _ replies t does
not-line Begin s replies t does = not-commands s _ replies t does
not-line (Put u x w) s replies t does = not-commands s _ replies t does
not-line (Commit u) s replies t does = not-commands s _ replies t does
not-line (Abort u) s replies t does = not-commands s _ replies t does
not-line Tick s replies t does = not-commands s _ replies t does
not-line Power s replies t does = not-powers s replies t does
not-line (Cut k g) s replies t (is, same) = not-joined replies _ is refl
not-line (Bad k g) s replies t (is, same) = not-joined replies _ is refl
not-line Stat s replies t (counts, (is, same)) = not-joined replies _ is refl

-- both sides are Good
abbrev pub BothUp : MirrorState → Type 0
BothUp t = IsTrue (is_up t.first) × IsTrue (is_up t.second)

joined-follows : (m : Array) (reply : MirrorReply) (old new : SideState) (stale left : List Bool) → Follows m reply old stale new left → IsTrue (says_joined (reply ∷ [])) → IsTrue (is_up new)
joined-follows m Joined old new stale left (is, none, fresh, same, marks) says = ap is_up same
joined-follows m Dead old new stale left f says = cc
joined-follows m Woken old new stale left f says = cc
joined-follows m (Waiting t) old new stale left f says = cc
joined-follows m (Copied p) old new stale left f says = cc
joined-follows m Slipped old new stale left f says = cc
joined-follows m (Plain reply) old new stale left f says = cc
joined-follows m Whole old new stale left f says = absurd f
joined-follows m Gone old new stale left f says = absurd f

joined-catch : (s : MirrorState) (reply : MirrorReply) (t : MirrorState) (b c : Bool) → is_up s.first ≡ b → is_up s.second ≡ c → CatchesBy b c s reply t → IsTrue (says_joined (reply ∷ [])) → BothUp t
joined-catch s reply t true true up_first up_second (is, same) says = absurd (not-joined (reply ∷ []) (Whole ∷ []) (ap (λ (r : MirrorReply). r ∷ []) is) refl says)
joined-catch s reply t true false up_first up_second (follows, is) says = (ap (λ (x : MirrorState). is_up x.first) is ∙ up_first, joined-follows s.array reply s.second t.second s.stale t.stale follows says)
joined-catch s reply t false true up_first up_second (follows, is) says = (joined-follows s.array reply s.first t.first s.stale t.stale follows says, ap (λ (x : MirrorState). is_up x.second) is ∙ up_second)
joined-catch s reply t false false up_first up_second never says = absurd never

joined-does : (line : MirrorLine) (s : MirrorState) (replies : List MirrorReply) (t : MirrorState) → DoesMirror s line replies t → IsTrue (says_joined replies) → BothUp t
joined-does (OfArray line) s replies t does says = absurd (not-line line s replies t does says)
joined-does (Side x) s replies t (is, same) says = absurd (not-joined replies _ is refl says)
joined-does Catch s replies t (reply, is, catches) says = joined-catch s reply t (is_up s.first) (is_up s.second) refl refl catches (subst (λ (rs : List MirrorReply). IsTrue (says_joined rs)) is says)

pub joined-good : (first : MirrorState) (turns : List MirrorTurn) (s : MirrorState) → MirrorRun first turns s → IsTrue (just_joined turns) → BothUp s
joined-good first [] s run says = cc
joined-good first (turn ∷ earlier) s (mid, before, does) says = joined-does turn.line mid turn.replies s does says
