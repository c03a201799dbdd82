-- `of` keeps the reference's pointer, and what C holds owns what the reference owned.
use Rattle.std.proofs.Common.{◌≡◌, ℕ, List, [], ◌∷◌, refl}
use mir.Syntax.{static}
use mir.Val.{Val, vptr, vstruct, vcons, vnil}
use base.Logic.{SProp, emp}
use base.Fml.{ftrue}
use types.Kit.{‵, raw, ◌⊛◌, ◌$◌, ◌∵◌, !, qed, by, move, keep, split, join, fsplit, fjoin, fpack, use0, feq_i}
use types.Run.{stop, addr, of_opd, no_more, and_then, returns, enter}
use types.ByLocal.{alloc_all, pass_all, free_all, look_at, get, through, sets}
use types.Part.{agg}
use contract.Monad.{fact, fact_i}
use contract.Running.{tables}
use denote.Exit.{no}
use denote.RattleType.{Valss, owns}
use denote.Signature.{types_at, plain}
use denote.Builtin.{RawPtr, RefMutOf}
use denote.RawPtr.{block_ptr, InBlock}
use denote.Ref.{mut_vals, mut_Tells}
use denote.Steps.{nothing}
use denote.Struct.Struct.{within}
use denote.Struct.Owning.{shape}
use denote.Triple.Walked.{Stays, stay_dropped, walk_of, Goes-dropped}
use Rattle.std.proofs.raw_atomic.Walks.{proved, leaves}
use Rattle.envy_library.specs.Held.{place_row}
use Rattle.envy_library.specs.contracts.handle.Envy as handle
use Rattle.envy_library.specs.contracts.handle.Envy.of.{ended, clauses}
use Rattle.envy_library.specs.contracts.handle.Envy.of.Key.{name as #self}
use Rattle.envy_library.proofs.handle.Envy.of.Statement.{statement}
use Rattle.envy_library.proofs.handle.Envy.of.Code as code

pub of_spec : {M : Type 1} → statement M
of_spec 𝓤 𝓛 𝓜 𝓡 wired =
    let H = 𝓛.H in let 𝓣 = tables 𝓤 H 𝓜 𝓡 𝓡.env in let c = clauses 𝓛 𝓜.mem 𝓡.returns in let s = RefMutOf [] tt (plain (λ _. place_row)) (λ _. tt) in
    let hs : Stays (ended).signature.params (ended).kept = (stay_dropped s no, tt) in
    proved 𝓛 ended hs c 𝓜 𝓡 (Goes-dropped 𝓛 0 s no (λ κs x f. refl), tt) #self code.function (code.unfolded 𝓤 H 𝓜 𝓡 wired)
    (λ κs. (mut_vals, tt)) (λ κs. (mut_Tells static [] place_row, tt)) (λ κs qs bounds a gh are.
    let r = a.0 in let b : ℕ = r.ref_ptr.0 in let o : ℕ = r.ref_ptr.1 in let y : (walk_of 𝓛 ended hs c).Ghost = ((κs, qs, bounds, a, (vptr b o ∷ [], tt)), gh) in let Post : Val → SProp 𝓤 = (walk_of 𝓛 ended hs c).post y in
    let w : Val = vstruct (vcons (vptr b o) vnil) in let d : (handle.the_row).Denot = record { at = block_ptr b o; place = r } in
    qed 𝓛 ((‵ ftrue ⊛ ‵ (owns (types_at (ended).signature.params κs) a y.0.4)) ∷ raw ((c κs a).requires gh) ∷ []) ∵
    split ! $ move ! (1 ∷ []) $ fsplit ! $ keep ! (0 ∷ []) $
    enter ! 𝓣.C 𝓣.Λ code.function (vptr b o ∷ []) Post $ alloc_all ! (λ l. pass_all ! refl ((tt, tt), tt) $
    sets ! (addr ! (through ! refl (stop !))) refl (tt, tt) $ sets ! (of_opd ! (get ! refl)) refl (tt, tt) $ sets ! (agg ! (and_then ! (get ! refl) (no_more !))) refl (tt, (tt, tt)) $
    nothing ! $ feq_i ! (List Val) (vptr b o ∷ []) (vptr b o ∷ []) refl $ fjoin ! $ feq_i ! (List Val) (w ∷ []) (w ∷ []) refl $ fjoin ! $
    fpack ! (Valss (RawPtr ∷ [])) (within (shape handle.the_type) (block_ptr b o, tt) (w ∷ [])) (vptr b o ∷ [], tt) $ fjoin ! $
    use0 𝓛 (raw (fact 𝓤 (InBlock (block_ptr b o)))) (fact_i 𝓤 (InBlock (block_ptr b o)) (emp 𝓤) tt) $ use0 𝓛 (raw (fact 𝓤 (r ≡ r))) (fact_i 𝓤 (r ≡ r) (emp 𝓤) refl) $ join ! $
    nothing ! $ nothing ! $ fjoin ! $ nothing ! $
    returns ! (look_at ! 0 refl) $ free_all ! refl $ keep ! (0 ∷ 1 ∷ 3 ∷ 2 ∷ []) $ by ! (leaves 𝓛 ended hs c y w d (tt, tt) (tt, tt))))
