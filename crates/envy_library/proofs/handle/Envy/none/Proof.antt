-- `none` is null, and owns nothing.
use Rattle.std.proofs.Common.{List, [], ◌∷◌, refl}
use lib.Dec.{lit<}
use mir.Val.{Val, vnull, vstruct, vcons, vnil}
use base.Logic.{SProp}
use base.Fml.{ftrue}
use types.Kit.{‵, raw, ◌⊛◌, ◌$◌, ◌∵◌, !, qed, by, keep, fjoin, fpack, feq_i}
use types.Run.{lit, no_more, and_then, returns, enter}
use types.ByLocal.{alloc_all, pass_all, free_all, look_at, sets}
use types.Part.{agg}
use contract.Running.{tables}
use denote.RattleType.{Valss, owns}
use denote.Signature.{types_at}
use denote.Builtin.{RawPtr}
use denote.RawPtr.{null_ptr}
use denote.Steps.{nothing}
use denote.Struct.Struct.{within}
use denote.Struct.Owning.{shape}
use denote.Triple.Walked.{Stays, walk_of}
use Rattle.std.proofs.raw_atomic.Walks.{proved, leaves}
use Rattle.envy_library.specs.contracts.handle.Envy as handle
use Rattle.envy_library.specs.contracts.handle.Envy.none.{ended, clauses}
use Rattle.envy_library.specs.contracts.handle.Envy.none.Key.{name as #self}
use Rattle.envy_library.specs.Held.{no_place}
use Rattle.envy_library.proofs.handle.Envy.none.Statement.{statement}
use Rattle.envy_library.proofs.handle.Envy.none.Code as code

pub none_spec : {M : Type 1} → statement M
none_spec 𝓤 𝓛 𝓜 𝓡 wired =
    let H = 𝓛.H in let 𝓣 = tables 𝓤 H 𝓜 𝓡 𝓡.env in let c = clauses 𝓛 𝓜.mem 𝓡.returns in let hs : Stays (ended).signature.params (ended).kept = tt in
    proved 𝓛 ended hs c 𝓜 𝓡 tt #self code.function (code.unfolded 𝓤 H 𝓜 𝓡 wired) (λ κs. tt) (λ κs. tt) (λ κs qs bounds a gh are.
    let y : (walk_of 𝓛 ended hs c).Ghost = ((κs, qs, bounds, a, tt), gh) in let Post : Val → SProp 𝓤 = (walk_of 𝓛 ended hs c).post y in
    let w : Val = vstruct (vcons vnull vnil) in let d : (handle.the_row).Denot = record { at = null_ptr; place = no_place } in
    qed 𝓛 ((‵ ftrue ⊛ ‵ (owns (types_at (ended).signature.params κs) a y.0.4)) ∷ raw ((c κs a).requires gh) ∷ []) ∵ keep ! [] $
    enter ! 𝓣.C 𝓣.Λ code.function [] Post $ alloc_all ! (λ l. pass_all ! refl tt $
    sets ! (agg ! (and_then ! (lit ! tt) (no_more !))) refl (tt, (record { fits = lit< tt }, tt)) $
    nothing ! $ nothing ! $ feq_i ! (List Val) (vnull ∷ []) (vnull ∷ []) refl $ fjoin ! $ feq_i ! (List Val) (w ∷ []) (w ∷ []) refl $ fjoin ! $
    fpack ! (Valss (RawPtr ∷ [])) (within (shape handle.the_type) (null_ptr, tt) (w ∷ [])) (vnull ∷ [], tt) $ fjoin ! $
    nothing ! $ nothing ! $ nothing ! $
    returns ! (look_at ! 0 refl) $ free_all ! refl $ keep ! (0 ∷ 1 ∷ 3 ∷ 2 ∷ []) $ by ! (leaves 𝓛 ended hs c y w d tt tt)))
