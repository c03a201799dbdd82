-- One call more is again a struct of no bytes. Both arguments are only looked at.
use Rattle.std.proofs.Common.{[], ◌∷◌, refl}
use mir.Syntax.{named}
use mir.Val.{Val, vptr, vstruct, vnil}
use base.Logic.{SProp}
use types.Kit.{‵, raw, ◌⊛◌, ◌$◌, ◌∵◌, !, qed, move, keep, split, suffices, done}
use types.Run.{no_more, returns, enter}
use types.ByLocal.{alloc_all, pass_all, free_all, look_at, sets}
use types.Part.{agg}
use contract.Running.{tables}
use denote.Exit.{yes}
use denote.RattleType.{owns}
use denote.Ref.{shr_vals, shr_Tells}
use denote.Shadow.{pure_i}
use denote.Signature.{plain, types_at, named_lft}
use denote.Triple.Entry.{alive}
use denote.Triple.Walked.{says, stay_none_ref, Stays, walk_of, ends_at, Goes-none_ref}
use Rattle.std.proofs.raw_atomic.Walks.{proved}
use Rattle.envy_device.specs.Noted.{call_of}
use Rattle.envy_device.specs.contracts.made.Made as asked
use Rattle.envy_device.specs.contracts.record.Record as noted
use Rattle.envy_device.specs.contracts.record.Record.and.{ended, clauses}
use Rattle.envy_device.specs.contracts.record.Record.and.Key.{name as #self}
use Rattle.envy_device.proofs.record.Record.and.Statement.{statement}
use Rattle.envy_device.proofs.record.Record.and.Code as code

pub and_spec : {M : Type 1} → statement M
and_spec 𝓤 𝓛 𝓜 𝓡 wired =
    let H = 𝓛.H in let 𝓣 = tables 𝓤 H 𝓜 𝓡 𝓡.env in let c = clauses 𝓛 𝓜.mem 𝓡.returns in
    let before = plain (λ _. noted.the_row) in let call = plain (λ κs. asked.the_row (named_lft 3 2 tt κs)) in
    let hs : Stays (ended).signature.params (ended).kept = (stay_none_ref (0 ∷ []) tt before yes, (stay_none_ref (1 ∷ []) tt call yes, tt)) in
    proved 𝓛 ended hs c 𝓜 𝓡 (Goes-none_ref 𝓛 3 (0 ∷ []) tt before yes, (Goes-none_ref 𝓛 3 (1 ∷ []) tt call yes, tt)) #self code.function (code.unfolded 𝓤 H 𝓜 𝓡 wired)
    (λ κs. (shr_vals, (shr_vals, tt))) (λ κs. (shr_Tells (named 0) κs.0 noted.the_row, (shr_Tells (named 1) κs.1.0 (asked.the_row (named_lft 3 2 tt κs)), tt))) (λ κs qs bounds a gh are.
    let p : Val = vptr a.0.ref_ptr.0 a.0.ref_ptr.1 in let q : Val = vptr a.1.0.ref_ptr.0 a.1.0.ref_ptr.1 in
    let y : (walk_of 𝓛 ended hs c).Ghost = ((κs, qs, bounds, a, (p ∷ [], (q ∷ [], tt))), gh) in let Post : Val → SProp 𝓤 = (walk_of 𝓛 ended hs c).post y in
    let made : (noted.the_row).Denot = record { calls = call_of a.1.0.now ∷ a.0.now.calls } in
    qed 𝓛 ((raw (alive 𝓛 (ended).signature κs qs) ⊛ ‵ (owns (types_at (ended).signature.params κs) a y.0.4)) ∷ raw ((c κs a).requires gh) ∷ []) ∵
    keep ! (0 ∷ []) $ split ! $
    enter ! 𝓣.C 𝓣.Λ code.function (p ∷ q ∷ []) Post $ alloc_all ! (λ l. pass_all ! refl ((tt, tt), ((tt, tt), tt)) $
    sets ! (agg ! (no_more !)) refl (tt, tt) $
    returns ! (look_at ! 0 refl) $ free_all ! refl $
    suffices ! _ (ends_at 𝓛 ended hs c y (vstruct vnil) made (tt, (tt, tt)) (tt, (tt, tt))) $ says ! refl $
    pure_i ! ((noted.the_row).own_val made (vstruct vnil ∷ [])) ((λ vss. (tt, tt)), tt) ((tt, (refl, tt)), tt) $
    move ! (1 ∷ 2 ∷ 0 ∷ []) $ done !))
