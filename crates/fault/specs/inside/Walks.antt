-- How translations change over a list or a range, and what the searches for the next page answer.
use Rattle.std.specs.Prelude.{◌≡◌, ℕ, ◌<◌, ◌≤◌, ◌&&◌, ◌==◌, Bool, true, not, if◌then◌else◌, Option, None, Some, is_some, IfSome}
use Rattle.vm_base.specs.declared.names.Tag.{Tag}
use Rattle.vm_model.specs.declared.space.Readiness.TheVariants.{Read}
use Rattle.vm_model.specs.Space.Readiness.{is_same_frame}
use Rattle.fault.specs.declared.translation.Translation.{Translation}
use Rattle.fault.specs.declared.translation.Change.{Change}
use Rattle.fault.specs.declared.translation.Change.TheVariants.{Forget, Restrict}
use Rattle.fault.specs.Table.{Places, translated_frame}

-- what becomes of the translation of a page: it is changed if it passes
abbrev pub become : (Translation → Option Translation) → (Translation → Bool) → Option Translation → Option Translation
become change test None = None
become change test (Some x) = if test x then change x else Some x

-- the translations, those that pass changed
unfoldable pub changed_where : (Translation → Option Translation) → (ℕ → ℕ → Translation → Bool) → Places → Places
changed_where change test places root p = become change (test root p) (places root p)

-- the translation is forgotten
abbrev pub dropped : Translation → Option Translation
dropped x = None

-- the translation is left for reading alone
abbrev pub left_read_only : Translation → Option Translation
left_read_only x = Some (record x { readiness = Read })

-- the page is page p of an address space
abbrev pub is_place : (root p : ℕ) → ℕ → ℕ → Bool
is_place root p r q = (r == root) && (q == p)

-- the translation holds another frame than this one
abbrev pub holds_other : Option ℕ → Translation → Bool
holds_other frame x = not (is_same_frame (translated_frame x) frame)

-- the translation of a page, if it has one, holds another frame than this one
abbrev pub HoldsOther : Option ℕ → Option Translation → Type 0
HoldsOther frame place = IfSome place (λ x. holds_other frame x ≡ true)

-- what a change makes of the translation of a page
abbrev pub change_by : Change → Translation → Option Translation
change_by Forget = dropped
change_by Restrict = left_read_only

-- page p of an address space is translated
abbrev pub is_translated : Places → (root p : ℕ) → Bool
is_translated places root p = is_some (places root p)

-- the translation is of a page of the VMO from `from` to below `end`
pub record IsOf (v from end : ℕ) (x : Translation) : Type 0 where
  pub koid : x.entry.koid.0 ≡ v
  pub order : from ≤ x.entry.page
  pub below : x.entry.page < end

-- no page of the VMO from `from` to below `end` has a translation
abbrev pub HasNoList : Places → (v from end : ℕ) → Type 0
HasNoList places v from end = (root p : ℕ) (x : Translation) → places root p ≡ Some x → IsOf v from end x → ⊥

-- each translation of page p of the VMO v holds this frame
abbrev pub HasFrame : Places → (v p : ℕ) → Option Tag → Type 0
HasFrame places v p frame = (root q : ℕ) (x : Translation) → places root q ≡ Some x → x.entry.koid.0 ≡ v → x.entry.page ≡ p → x.frame ≡ frame

-- each translation of the page of the VMO that a translation shows, but that of page p of an address space, holds its frame
abbrev pub HoldElsewhere : Places → (root p : ℕ) → Translation → Type 0
HoldElsewhere places root p t = (r q : ℕ) (x : Translation) → places r q ≡ Some x → (r ≡ root → q ≡ p → ⊥) → x.entry.koid.0 ≡ t.entry.koid.0 → x.entry.page ≡ t.entry.page
    → x.frame ≡ t.frame

-- the page is the first of the VMO from `from` to below `end` that has translations
pub record IsNextList (places : Places) (v from end page : ℕ) : Type 0 where
  pub order : from ≤ page
  pub below : page < end
  pub least : (root p : ℕ) (x : Translation) → places root p ≡ Some x → IsOf v from page x → ⊥
