-- A box becomes its address, and the handle owns what the box owned. Assumes `Logic`.
use Rattle.std.proofs.Common.{List, [], ◌∷◌, ◌++◌, refl, sym, ap, subst}
use mir.Syntax.{impl, method, no_args, tnil, dnil}
use mir.Val.{Val}
use base.Fraction.{full_share}
use base.Logic.{SProp, ent, emp, id⊢}
use base.Fml.{ftrue, fsep, flft}
use contract.BorrowLft.{◌⊑◌, ⊑_refl}
use contract.Monad.{fact, fact_i}
use contract.Running.{tables}
use prog.Wp.{WpFn}
use types.Kit.{‵, raw, ◌⊛◌, some, later, ◌$◌, ◌∵◌, !, qed, done, move, keep, drop, use0, use1, split, join, fsplit, fjoin, feq_l, pick, await, suffices}
use types.Run.{enter, of_opd, no_more, and_then, returns}
use types.Part.{agg}
use types.ByLocal.{alloc_all, pass_all, free_all, look_at, get, sets, lands_as}
use denote.RawPtr.{Ptr, RawPtr}
use denote.Signature.{plain}
use denote.Steps.{nothing, only}
use denote.Param.NoDrop.{glues}
use denote.Triple.Call.{calls_at}
use denote.Triple.Clauses.{Lasts, lasts}
use denote.Triple.Entry.{alive}
use denote.Triple.Spec.{triple_of}
use denote.Triple.Table.{framed}
use denote.Triple.Walked.{Stays, walk_of, stay_dropped, says, ends_at}
use Rattle.std.proofs.alloc.Calls.{Goes-blank}
use Rattle.std.proofs.raw_atomic.Walks.{proved_at}
use Rattle.std.specs.Prelude.{Some}
use Rattle.std_alloc.proofs.BoxSteps.Form as box
use Rattle.std_alloc.proofs.BoxSteps.Steps.{box_out, box_in}
use Rattle.std_alloc.specs.contracts.boxed.Box.into_raw as g
use Rattle.std_alloc.proofs.boxed.Box.into_raw.Met as g-thm
use Rattle.std_heap.proofs.GlobalAllocator.TheImpl.Met as heap-thm
use Rattle.vmosim_c.specs.contracts.vmosim_c++opening++KeptVm+Destruct.drop as drops
use Rattle.vmosim_c.proofs.vmosim_c++opening++KeptVm+Destruct.drop.Met as kept-thm
use Rattle.vmosim_c.proofs.vmosim_c++opening++KeptVm+Destruct.drop.Symbol as kept-symbol
use Rattle.vmosim_c.proofs.Destruct++none.drop.Code.{code as none_code}
use Rattle.vmosim_c.proofs.Letting.{lets_go}
use Rattle.vmosim_c.specs.Owning.{handle_owns}
use Rattle.vmosim_c.proofs.Crossing.{word, word_fits, ptr_fits, handle_made, Boxed, Bare, Handed}
use Rattle.vmosim_c.specs.contracts.handle.Handle.seal as f
use Rattle.vmosim_c.proofs.handle.Handle.seal.Statement.{statement}
use Rattle.vmosim_c.proofs.handle.Handle.seal.Code as code

abbrev stayed : Stays (f.ended).signature.params (f.ended).kept
stayed = (stay_dropped (plain (λ _. Boxed)) (f.ended).kept.0, tt)

pub seal_spec : {M : Type 1} → statement M
unfolding none_code
seal_spec 𝓤 𝓛 𝓜 𝓡 wired =
    let c = f.clauses 𝓛 𝓜.mem 𝓡.returns in let 𝓣 = tables 𝓤 𝓛.H 𝓜 𝓡 𝓡.env in
    let R = Handed.row in let Z = Handed.al.row in let ghosts = Handed.al.g in let d = Handed.al.d in let dd = Handed.al.drops in let dx = impl ("vmosim_c::vmosim_c++opening++KeptVm+Destruct::drop" ∷ []) tnil dnil in
    let G = triple_of 𝓛 (g.signature R Z ghosts d dd dx) (g.spec R Z ghosts d dd dx 𝓛 𝓜.mem 𝓡.returns) in
    let Ended = g.ended R Z ghosts d dd dx in
    let heap = heap-thm.passed 𝓡.env (code.calls-std_heap::GlobalAllocator::allocate 𝓡.env wired) (code.calls-std_heap::GlobalAllocator::deallocate 𝓡.env wired) (code.calls-std_heap::GlobalAllocator::grow 𝓡.env wired) (code.calls-std_heap::GlobalAllocator::shrink 𝓡.env wired) _ 𝓤 𝓛 𝓜 𝓡 in
    let known = g-thm.met 𝓤 𝓛 𝓜 𝓡 (code.calls-std_alloc::boxed::Box::into_raw 𝓡.env wired) R Z Handed.laws Handed.al.laws ghosts d dd dx
    (record { allocate = heap.allocate; deallocate = heap.deallocate; grow = heap.grow; shrink = heap.shrink })
    (glues "vmosim_c::Destruct++none::drop" 𝓡.env (code.calls-vmosim_c::Destruct++none::drop 𝓡.env wired) Z Handed.al.laws _ 𝓤 𝓛 𝓜 𝓡)
    (lets_go 𝓛 𝓜 𝓡 R dx (𝓡.env drops.Key.name) (kept-symbol.as_method 𝓡.env (code.calls-vmosim_c::vmosim_c++opening++KeptVm+Destruct::drop 𝓡.env wired) (method dx 0 no_args) refl)
    (kept-thm.met 𝓤 𝓛 𝓜 𝓡 (code.calls-vmosim_c::vmosim_c++opening++KeptVm+Destruct::drop 𝓡.env wired))) in
    proved_at 𝓛 f.ended stayed c 𝓜 𝓡 (Goes-blank 𝓛 0 (plain (λ _. Boxed)) (f.ended).kept.0 (λ κs x e. tt), tt)
    f.Key.name code.function (code.unfolded 𝓤 𝓛.H 𝓜 𝓡 wired) (λ y are.
    let v = y.0.3.0 in let vs = y.0.4.0 in
    let Goes : List Val → SProp 𝓤 = λ us. WpFn 𝓤 𝓛.H 𝓣.C 𝓣.Λ code.function us ((walk_of 𝓛 f.ended stayed c).post y) in
    let static = [] ⊑ R.lives in let static' = [] ⊑ Z.lives in let token = ‵ (flft [] full_share) in
    qed 𝓛 ((raw (alive 𝓛 f.signature y.0.0 y.0.1) ⊛ ‵ (fsep (Boxed.own_val v vs) ftrue)) ∷ raw ((c y.0.0 y.0.3).requires y.1) ∷ []) ∵
    split ! $ move ! (1 ∷ []) $ fsplit ! $ box_out Bare ! v vs (λ b o hv e is fits. box_in Bare ! v b o v.value e refl $ keep ! (0 ∷ []) $ use1 𝓛 (‵ ((box.B Handed).own_val v (box.word Bare hv b o ∷ []))) (id⊢ 𝓤 _) $
    let w = box.word Bare hv b o in let typed = box.box_typed Bare hv b o fits in
    suffices ! (Goes (w ∷ [])) (subst (λ (us : List Val). ent 𝓤 (Goes (w ∷ [])) (Goes (us ++ []))) (sym is) (id⊢ 𝓤 _)) $
    enter ! 𝓣.C 𝓣.Λ code.function (w ∷ []) _ $ alloc_all ! (λ l. pass_all ! refl (typed, tt) $
    -- [the box; the locals]
    sets ! (of_opd ! (get ! refl)) refl typed $
    let z : G.Ghost = ((([], ([], tt)), (full_share, (full_share, tt)), tt, (v, tt), (w ∷ [], tt)), tt) in
    nothing ! $ use0 𝓛 (raw (fact 𝓤 static')) (fact_i 𝓤 static' (emp 𝓤) (⊑_refl [])) $ join ! $
    use0 𝓛 (raw (fact 𝓤 static)) (fact_i 𝓤 static (emp 𝓤) (⊑_refl [])) $ join ! $
    nothing ! $ move ! (2 ∷ 0 ∷ []) $ fjoin ! $
    nothing ! $ use0 𝓛 token (𝓛.lfts.lft-nil full_share) $ join ! $ use0 𝓛 token (𝓛.lfts.lft-nil full_share) $ join ! $ join ! $ join ! $
    use1 𝓛 (raw (G.pre z)) (id⊢ 𝓤 _) $
    calls_at ! (framed 𝓤 𝓛.H 𝓜 𝓣) G known z (and_then ! (get ! refl) (no_more !)) (λ u.
    use1 𝓛 (later (some (λ (p : Ptr). ((token ⊛ token ⊛ ‵ ftrue) ⊛ ‵ (RawPtr.own_val p (u ∷ []))) ⊛
    some (λ (ws : Lasts Ended z.0.0 z.0.3). ‵ (lasts Ended z.0.0 z.0.3 ws) ⊛ ‵ (handle_owns R p (Some v.value)))))) (id⊢ 𝓤 _) $
    await ! tt $ pick ! (λ p. split ! $ split ! $ drop ! $ feq_l ! (λ is_address. pick ! (λ ws. split ! $ drop ! $
    lands_as ! (ap only is_address) refl (ptr_fits p) $
    sets ! (of_opd ! (get ! refl)) refl (ptr_fits p) $
    sets ! (agg ! (and_then ! (get ! refl) (no_more !))) refl (word_fits p) $
    returns ! (look_at ! 0 refl) $ free_all ! refl $
    suffices ! _ (ends_at 𝓛 f.ended stayed c y (word p) (record { at = p; value = Some v.value }) (tt, tt) (tt, tt)) $ says ! refl $
    handle_made ! p (Some v.value) $ nothing ! $ nothing ! $ join ! $ nothing ! $ done !)))))))
