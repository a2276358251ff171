-- A handle that C keeps is one machine value, the address of a box, and owns what that box does. Assumes `Logic`.
use Rattle.std.proofs.Common.{◌≡◌, List, [], ◌∷◌, ◌++◌, refl, subst, lit<}
use lib.Dec.{T}
use seplogic.Ra.Ura.{Ura}
use mir.Syntax.{Dict, impl, tcons, tnil, dnil}
use mir.Raw.{raw}
use mir.Val.{Val, vstruct, vcons, vnil, of_list, has_ty, WT}
use types.Logic.{Logic}
use types.Kit.{Item, Goal, Seq, Step, step, ‵, ◌$◌, drop, fsplit, fjoin, fpick, fpack, feq_i, feq_l}
use denote.RattleType.{RattleType, Valss}
use denote.RawPtr.{Ptr, RawPtr, block_ptr, null_ptr, ptr_val}
use denote.Exit.{no}
use denote.Param.{layout, arg}
use denote.Param.Laws.{arg_laws}
use denote.Steps.{nothing}
use denote.Struct.Struct.{within}
use denote.Struct.Owning.{shape}
use Rattle.std.specs.Prelude.{Option, Some, None, IsSome}
use Rattle.std_alloc.proofs.BoxSteps.Form.{Bx}
use Rattle.std_alloc.specs.contracts.boxed.Box.{the_row as Box}
use Rattle.std_heap.specs.contracts.Global.{the_row as Heap}
use Rattle.std_heap.specs.contracts.GlobalAllocator.TheImpl.{ghosts, dict}
use Rattle.std_heap.proofs.Global.TheLaws.{the_row_laws as HeapLaws}
use Rattle.vmosim_c.specs.Owning.{handle_owns}
use Rattle.vmosim_c.specs.declared.handle.Handle.{Handle}
use Rattle.vmosim_c.specs.contracts.opening.KeptVm.{the_row as Kept}
use Rattle.vmosim_c.specs.contracts.handle.Handle as handle
use Rattle.vmosim_c.proofs.opening.KeptVm.TheLaws.{the_row_laws as KeptLaws}

-- the machine value of a handle
abbrev pub word : Ptr → Val
word p = vstruct (vcons (ptr_val p) vnil)

pub word_fits : (p : Ptr) → T (has_ty (layout handle.the_row) (word p)) × WT (word p)
word_fits (block_ptr b o) = (tt, (tt, tt))
word_fits null_ptr = (tt, (record { fits = lit< tt }, tt))

pub ptr_fits : (p : Ptr) → T (has_ty (layout RawPtr) (ptr_val p)) × WT (ptr_val p)
ptr_fits (block_ptr b o) = (tt, tt)
ptr_fits null_ptr = (tt, record { fits = lit< tt })

-- the value of a handle that has one
pub value_of : {X : Type 0} (kept : Option X) → IsSome kept → (x : X) × (kept ≡ Some x)
value_of (Some x) some = (x, refl)
value_of None some = absurd cc

module _ {M : Type 1} {𝓤 : Ura M} {𝓛 : Logic 𝓤} {K : Type 0} {Γ : List (Item 𝓤)} {G : Goal 𝓤 𝓛.H} where
  -- a handle is taken apart
  pub handle_parts : K → (h : Handle) (vs : List Val)
      → (vs ≡ word h.at ∷ [] → Seq K 𝓛 (‵ (handle_owns Kept h.at h.value) ∷ Γ) G)
      → Seq K 𝓛 (‵ ((handle.the_row).own_val h vs) ∷ Γ) G
  handle_parts t h vs next =
      fsplit t $ fpick t (λ vss. fsplit t $ feq_l t (λ whole. fsplit t $ feq_l t (λ address. drop t $
      next (subst (λ (us : List Val). vs ≡ vstruct (of_list (us ++ [])) ∷ []) address whole))))

  -- a handle is made of its address and of what it owns
  pub handle_made : K → (p : Ptr) (kept : Option Kept.Denot)
      → Step K 𝓛 (‵ ((handle.the_row).own_val (record { at = p; value = kept }) (word p ∷ [])) ∷ Γ) G (‵ (handle_owns Kept p kept) ∷ Γ) G
  handle_made t p kept = step (λ next.
      nothing t $ feq_i t (List Val) (ptr_val p ∷ []) (ptr_val p ∷ []) refl $ fjoin t $
      feq_i t (List Val) (word p ∷ []) (word p ∷ []) refl $ fjoin t $
      fpack t (Valss (RawPtr ∷ [])) (within (shape handle.the_type) (p, tt) (word p ∷ [])) (ptr_val p ∷ [], tt) $ fjoin t $ next)

-- a type as a call hands it on for a type parameter, by its layout without names
abbrev pub handed : RattleType → RattleType
handed R = arg (raw (layout R)) no R

abbrev pub no_drop : RattleType → Dict
no_drop R = impl ("vmosim_c::Destruct++none::drop" ∷ []) (tcons (layout R) tnil) dnil

-- a box of a machine
abbrev pub Boxed : RattleType
Boxed = Box Kept Heap ghosts

-- ---- the box of a machine, as std's lemmas on boxes take it: its allocator, which needs no drop, and its row

-- as it stands in a signature
abbrev pub Bare : Bx
Bare = record {
  row = Kept;
  laws = KeptLaws;
  al = record { row = Heap; laws = HeapLaws; g = ghosts; d = dict; drops = no_drop Heap };
}

-- As a call hands it on for a type parameter: by its layout without names
abbrev pub Handed : Bx
Handed = record {
  row = handed Kept;
  laws = arg_laws (raw (layout Kept)) no Kept KeptLaws refl;
  al = record { row = handed Heap; laws = arg_laws (raw (layout Heap)) no Heap HeapLaws refl; g = ghosts; d = dict; drops = no_drop (handed Heap) };
}
