-- `of` makes the empty struct, with the bytes that its clause names. Assumes `Logic`.
use Rattle.std.proofs.Common.{List, [], ◌∷◌, refl}
use mir.Syntax.{named}
use mir.Val.{Val, vstruct, vnil}
use types.Kit.{‵, raw, ◌⊛◌, ◌$◌, ◌∵◌, !, qed, done, keep, move, drop, split, suffices, fjoin, feq_i, fpack}
use types.Run.{enter, no_more, returns}
use types.Part.{agg}
use types.ByLocal.{alloc_all, pass_all, free_all, look_at, sets}
use denote.Builtin.{SliceRefOf, u8}
use denote.Exit.{yes}
use denote.RattleType.{Valss, owns}
use denote.Signature.{plain, types_at}
use denote.Slice.{shr_slice_vals, shr_slice_Tells}
use denote.Steps.{nothing}
use denote.Struct.Owning.{shape}
use denote.Struct.Struct.{within}
use denote.Triple.Entry.{alive}
use denote.Triple.Walked.{Stays, stay_dropped, walk_of, says, ends_at, Goes-dropped}
use Rattle.std.proofs.raw_atomic.Walks.{proved}
use Rattle.script_io.specs.contracts.noted.Noted as noted
use Rattle.script_io.specs.contracts.noted.Noted.of as f
use Rattle.script_io.proofs.noted.Noted.of.Statement.{statement}
use Rattle.script_io.proofs.noted.Noted.of.Code as code

abbrev stayed : Stays (f.ended).signature.params (f.ended).kept
stayed = (stay_dropped (SliceRefOf (0 ∷ []) tt (plain (λ _. u8)) (λ _. tt)) yes, tt)

abbrev empty : Val
empty = vstruct vnil

pub of_spec : {M : Type 1} → statement M
of_spec 𝓤 𝓛 𝓜 𝓡 wired =
    let c = f.clauses 𝓛 𝓜.mem 𝓡.returns in let W = walk_of 𝓛 f.ended stayed c in
    proved 𝓛 f.ended stayed c 𝓜 𝓡 (Goes-dropped 𝓛 1 (SliceRefOf (0 ∷ []) tt (plain (λ _. u8)) (λ _. tt)) yes (λ κs x e. refl), tt)
    f.Key.name code.function (code.unfolded 𝓤 𝓛.H 𝓜 𝓡 wired)
    (λ κs. (shr_slice_vals, tt)) (λ κs. (shr_slice_Tells (named 0) κs.0 u8, tt)) (λ κs qs bounds a n are.
    let y : W.Ghost = ((κs, qs, bounds, a, (shr_slice_vals a.0, tt)), n) in
    qed 𝓛 ((raw (alive 𝓛 f.signature κs qs) ⊛ ‵ (owns (types_at f.signature.params κs) a y.0.4)) ∷ raw ((c κs a).requires n) ∷ []) ∵
    keep ! (0 ∷ []) $ split ! $ move ! (1 ∷ []) $ drop ! $
    enter ! _ _ _ _ _ $ alloc_all ! (λ l. pass_all ! refl ((tt, (tt, (record { fits = are.0.0.1.0 }, tt))), tt) $
    sets ! (agg ! (no_more !)) refl (tt, tt) $
    returns ! (look_at ! 0 refl) $ free_all ! refl $
    suffices ! _ (ends_at 𝓛 f.ended stayed c y empty (record { bytes = a.0.now }) (tt, tt) (tt, tt)) $ says ! refl $
    nothing ! $ nothing ! $ feq_i ! (List Val) (empty ∷ []) (empty ∷ []) refl $ fjoin ! $
    fpack ! (Valss []) (within (shape noted.the_type) tt (empty ∷ [])) tt $ fjoin ! $
    nothing ! $ nothing ! $ fjoin ! $ move ! (2 ∷ 0 ∷ 1 ∷ []) $ done !))
