-- A handle with a box is taken apart, and the box is made of what it owns. Assumes `Logic`.
use Rattle.std.proofs.Common.{◌≡◌, List, [], ◌∷◌, ◌++◌, refl, sym, ap, subst, ◌∙◌}
use mir.Val.{Val}
use base.Fraction.{full_share}
use base.Logic.{SProp, ent, emp, id⊢}
use base.Fml.{ftrue, fsep, flft}
use contract.BorrowLft.{◌⊑◌, ⊑_refl}
use contract.Monad.{fact, fact_i}
use contract.Running.{tables}
use prog.Wp.{WpFn}
use types.Kit.{‵, raw, ◌⊛◌, some, later, at_ret, ◌$◌, ◌∵◌, !, qed, done, move, keep, drop, use0, use1, split, join, fsplit, fjoin, feq_i, pick, await, rewrite, suffices}
use types.Run.{enter, of_opd, no_more, and_then, first, blocks, exec, stop, fld, returns}
use types.Part.{whole, sub}
use types.ByLocal.{alloc_all, pass_all, free_all, look_at, get, get_in, sets, lands_last, is, env}
use denote.RawPtr.{ptr_val}
use denote.Signature.{plain}
use denote.Steps.{nothing, only, heard}
use denote.Param.NoDrop.{glues}
use denote.Triple.Call.{calls_at_last}
use denote.Triple.Clauses.{Lasts, lasts}
use denote.Triple.Entry.{alive}
use denote.Triple.Spec.{triple_of}
use denote.Triple.Table.{framed}
use denote.Triple.Walked.{Stays, walk_of, stay_dropped, says, ends_at}
use Rattle.std.proofs.alloc.Calls.{Goes-blank, handle_tells}
use Rattle.std.proofs.raw_atomic.Walks.{proved_at}
use Rattle.std.specs.Prelude.{Option, Some, IsSome}
use Rattle.std_alloc.proofs.BoxSteps.Form as box
use Rattle.std_alloc.proofs.BoxSteps.Steps.{box_out, box_in}
use Rattle.std_alloc.specs.contracts.boxed.Box.from_raw as g
use Rattle.std_alloc.proofs.boxed.Box.from_raw.Met as g-thm
use Rattle.std_heap.proofs.GlobalAllocator.TheImpl.Met as heap-thm
use Rattle.vmosim_c.proofs.Destruct++none.drop.Code.{code as none_code}
use Rattle.vmosim_c.specs.Owning.{handle_owns}
use Rattle.vmosim_c.proofs.Crossing.{word, word_fits, ptr_fits, value_of, handle_parts, Bare, Handed}
use Rattle.vmosim_c.specs.contracts.handle.Handle.{the_row as Row}
use Rattle.vmosim_c.specs.contracts.handle.Handle.unseal as f
use Rattle.vmosim_c.proofs.handle.Handle.unseal.Statement.{statement}
use Rattle.vmosim_c.proofs.handle.Handle.unseal.Code as code

abbrev stayed : Stays (f.ended).signature.params (f.ended).kept
stayed = (stay_dropped (plain (λ _. Row)) (f.ended).kept.0, (stay_dropped (plain (λ _. Bare.al.row)) (f.ended).kept.1.0, tt))

pub unseal_spec : {M : Type 1} → statement M
unfolding none_code
unseal_spec 𝓤 𝓛 𝓜 𝓡 wired =
    let c = f.clauses 𝓛 𝓜.mem 𝓡.returns in let 𝓣 = tables 𝓤 𝓛.H 𝓜 𝓡 𝓡.env in
    let R = Handed.row in let Z = Handed.al.row in let ghosts = Handed.al.g in let d = Handed.al.d in let dd = Handed.al.drops in
    let G = triple_of 𝓛 (g.signature R Z ghosts d dd) (g.spec R Z ghosts d dd 𝓛 𝓜.mem 𝓡.returns) in
    let Ended = g.ended R Z ghosts d dd in
    let heap = heap-thm.passed 𝓡.env (code.calls-std_heap::GlobalAllocator::allocate 𝓡.env wired) (code.calls-std_heap::GlobalAllocator::deallocate 𝓡.env wired) (code.calls-std_heap::GlobalAllocator::grow 𝓡.env wired) (code.calls-std_heap::GlobalAllocator::shrink 𝓡.env wired) _ 𝓤 𝓛 𝓜 𝓡 in
    let known = g-thm.met 𝓤 𝓛 𝓜 𝓡 (code.calls-std_alloc::boxed::Box::from_raw 𝓡.env wired) R Z Handed.laws Handed.al.laws ghosts d dd
    (record { allocate = heap.allocate; deallocate = heap.deallocate; grow = heap.grow; shrink = heap.shrink })
    (glues "vmosim_c::Destruct++none::drop" 𝓡.env (code.calls-vmosim_c::Destruct++none::drop 𝓡.env wired) Z Handed.al.laws _ 𝓤 𝓛 𝓜 𝓡) in
    proved_at 𝓛 f.ended stayed c 𝓜 𝓡
    (Goes-blank 𝓛 0 (plain (λ _. Row)) (f.ended).kept.0 (λ κs x e. tt), (Goes-blank 𝓛 0 (plain (λ _. Bare.al.row)) (f.ended).kept.1.0 (λ κs x e. tt), tt))
    f.Key.name code.function (code.unfolded 𝓤 𝓛.H 𝓜 𝓡 wired) (λ y are.
    let h = y.0.3.0 in let a = y.0.3.1.0 in let p = h.at in
    let Goes : List Val → SProp 𝓤 = λ us. WpFn 𝓤 𝓛.H 𝓣.C 𝓣.Λ code.function us ((walk_of 𝓛 f.ended stayed c).post y) in
    let static = [] ⊑ R.lives in let static' = [] ⊑ Z.lives in let token = ‵ (flft [] full_share) in
    qed 𝓛 ((raw (alive 𝓛 f.signature y.0.0 y.0.1) ⊛ ‵ (fsep (Row.own_val h y.0.4.0) (fsep (Z.own_val a y.0.4.1.0) ftrue))) ∷ raw (fact 𝓤 (IsSome h.value)) ∷ []) ∵
    move ! (1 ∷ []) $ heard ! (IsSome h.value) (λ some_value. let kept = value_of h.value some_value in let x = kept.0 in
    split ! $ move ! (1 ∷ []) $ fsplit ! $ handle_parts ! h y.0.4.0 (λ is_word.
    rewrite ! 0 (λ (k : Option R.Denot). ‵ (handle_owns R p k)) kept.1 refl $
    move ! (1 ∷ []) $ fsplit ! $ handle_tells Bare.al ! a y.0.4.1.0 (λ hv is_heap fits. move ! (0 ∷ 2 ∷ []) $ keep ! (0 ∷ 1 ∷ []) $
    suffices ! (Goes (word p ∷ hv ∷ []))
    (subst (λ (us : List Val × List Val). ent 𝓤 (Goes (word p ∷ hv ∷ [])) (Goes (us.0 ++ (us.1 ++ [])))) (λ i. (sym is_word i, sym is_heap i)) (id⊢ 𝓤 _)) $
    enter ! 𝓣.C 𝓣.Λ code.function (word p ∷ hv ∷ []) _ $ alloc_all ! (λ l. pass_all ! refl (word_fits p, (fits, tt)) $
    -- [the allocator; what the box owns; the locals]
    sets ! (of_opd ! (get_in ! (fld ! refl (stop !)) (sub ! 0 refl (whole !)))) refl (ptr_fits p) $
    first ! $ blocks ! $ sets ! (of_opd ! (get ! refl)) refl (ptr_fits p) $
    let z : G.Ghost = ((([], ([], tt)), (full_share, (full_share, tt)), tt, (a, (p, tt)), (hv ∷ [], (ptr_val p ∷ [], tt))), x) in
    move ! (1 ∷ []) $ use0 𝓛 (raw (fact 𝓤 static')) (fact_i 𝓤 static' (emp 𝓤) (⊑_refl [])) $ join ! $
    use0 𝓛 (raw (fact 𝓤 static)) (fact_i 𝓤 static (emp 𝓤) (⊑_refl [])) $ join ! $
    -- [what is required; the allocator]
    nothing ! $ feq_i ! (List Val) (ptr_val p ∷ []) (ptr_val p ∷ []) refl $ fjoin ! $ move ! (2 ∷ 0 ∷ []) $ fjoin ! $
    nothing ! $ use0 𝓛 token (𝓛.lfts.lft-nil full_share) $ join ! $ use0 𝓛 token (𝓛.lfts.lft-nil full_share) $ join ! $ join ! $ join ! $
    use1 𝓛 (raw (G.pre z)) (id⊢ 𝓤 _) $
    calls_at_last ! (framed 𝓤 𝓛.H 𝓜 𝓣) G known z (and_then ! (get ! refl) (and_then ! (get ! refl) (no_more !))) (λ u.
    use1 𝓛 (later (some (λ (m : (box.B Handed).Denot). ((token ⊛ token ⊛ ‵ ftrue) ⊛ ‵ ((box.B Handed).own_val m (u ∷ []))) ⊛
    some (λ (ws : Lasts Ended z.0.0 z.0.3). ‵ (lasts Ended z.0.0 z.0.3 ws) ⊛ (raw (fact 𝓤 (m.value ≡ x)) ⊛ raw (fact 𝓤 (m.alloc ≡ a))))))) (id⊢ 𝓤 _) $
    await ! tt $ pick ! (λ m. split ! $ split ! $ drop ! $ move ! (1 ∷ []) $ pick ! (λ ws. split ! $ drop ! $ split ! $ heard ! (m.value ≡ x) (λ same. drop ! $
    use1 𝓛 (‵ ((box.B Bare).own_val m (u ∷ []))) (id⊢ 𝓤 _) $ box_out Bare ! m (u ∷ []) (λ b o hv' e is_box fits'. box_in Bare ! m b o m.value e refl $
    let w = box.word Bare hv' b o in let typed = box.box_typed Bare hv' b o fits' in
    lands_last ! refl (subst (λ (v : Val). lib.Dec.T (mir.Val.has_ty (box.box_ty Bare) v) × mir.Val.WT v) (sym (ap only is_box)) typed) $
    exec ! 𝓣.C 𝓣.Λ (env code.Mir.locals l) code.Mir.t-3 (at_ret _ ((walk_of 𝓛 f.ended stayed c).post y)) $
    sets ! (is ! (of_opd ! (get ! refl)) (ap only is_box)) refl typed $
    returns ! (look_at ! 0 refl) $ free_all ! refl $
    suffices ! _ (ends_at 𝓛 f.ended stayed c y w m (tt, (tt, tt)) (tt, (tt, tt))) $ says ! (kept.1 ∙ ap Some (sym same)) $
    nothing ! $ nothing ! $ join ! $ nothing ! $ join ! $ nothing ! $ done !))))))))))
