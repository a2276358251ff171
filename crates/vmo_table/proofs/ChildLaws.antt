-- The rows of children are pairs of a parent and a child.
use Rattle.std.proofs.Common.{◌≡◌, inl, inr, ℕ, ◌<◌, ◌^◌, Bool, true, false, ◌&&◌, ◌==◌, cond}
use Rattle.std.proofs.Common.{[], Option, None, Some, IsSome, IfSome, is_some, refl, sym, ap, ◌∙◌, subst, arith}
use Rattle.std.specs.Option.{IsNone}
use Rattle.std.proofs.lemmas.Bool.{cases_lt}
use Rattle.std.proofs.lemmas.Grind.{common_steps}
use Rattle.balanced_tree.specs.Row.{plain}
use Rattle.balanced_tree.specs.Rows.{Rows, row_at, with_row, without_rank}
use Rattle.balanced_tree.specs.Pairs.{pair_rank, value_at, ArePairs, with_pair}
use Rattle.balanced_tree.proofs.PairLaws.{value-past, values-none, values-put, values-taken, row-absent, row-there}
use Rattle.vm_base.specs.Entries.{passes}
use Rattle.vm_base.specs.declared.names.Koid.{Koid}
use Rattle.vm_model.specs.Naming.Names.{is_parent}
use Rattle.vmo_table.specs.declared.child_rows.ChildRow.{ChildRow}
use Rattle.vmo_table.specs.inside.ChildRows.{child_row_functions, parent_in_row, child_in, child_row_of, is_under, IsChange}

pub row_pairs : ArePairs child_row_functions parent_in_row child_in child_in
row_pairs = record { rank_is = λ x. refl; rank_kept = λ x. refl; value_kept = λ x. refl }

pub under-below : (t : Rows ChildRow) (p v : ℕ) → is_under t p v ≡ true → v < 2 ^ 64
unfolding is_under
under-below t p v e = elim (cases_lt v (2 ^ 64)) [
  | inl h ↦ h
  | inr h ↦ absurd (let past = ap is_some (value-past row_pairs t.rows p v h) in cc)
]

-- v is under p where it is a value of p
pub under-value : (t : Rows ChildRow) (p v : ℕ) (o : Option ℕ) → value_at child_row_functions child_in t.rows p v ≡ o → is_under t p v ≡ is_some o
unfolding is_under
under-value t p v o e = ap is_some e

-- no rows, no children
pub under-none : (t : Rows ChildRow) (p v : ℕ) → t.rows ≡ [] → is_under t p v ≡ false
unfolding is_under
under-none t p v e = ap (λ m. is_some (m p v)) (values-none row_pairs t.rows e)

pub under-same : (t new : Rows ChildRow) (p v : ℕ) → new.rows ≡ t.rows → is_under new p v ≡ is_under t p v
unfolding is_under
under-same t new p v e = ap (λ rows. is_some (value_at child_row_functions child_in rows p v)) e

-- one child has a row, or none, where the values are so
change : (old new : Rows ChildRow) (p v : ℕ) (o : Option ℕ) →
    value_at child_row_functions child_in new.rows ≡ with_pair (value_at child_row_functions child_in old.rows) p v o →
    IsChange old new (Some p) v (is_some o)
unfolding with_pair passes is_under
change old new p v o e q w =
    ap (λ m. is_some (m q w)) e ∙ of ((q == p) && (w == v)) ((p == q) && (w == v)) (grind (arith, common_steps))
  where
    of : (a b : Bool) → a ≡ b →
        is_some (cond a o (value_at child_row_functions child_in old.rows q w)) ≡ cond b (is_some o) (is_under old q w)
    of true b same = subst (λ c. is_some o ≡ cond c (is_some o) (is_under old q w)) same refl
    of false b same = subst (λ c. is_under old q w ≡ cond c (is_some o) (is_under old q w)) same refl

pub changed-added : (old new : Rows ChildRow) (p v : ℕ) (row : ChildRow) → v < 2 ^ 64 → row ≡ child_row_of p v →
    new.rows ≡ with_row child_row_functions (plain child_row_functions row) old.rows → IsChange old new (Some p) v true
changed-added old new p v row few is e =
    change old new p v (Some (child_in row))
    (values-put row_pairs old.rows old.rows refl p v (pair_rank p v) few refl new.rows row (ap child_row_functions.rank is) e)

pub changed-removed : (old new : Rows ChildRow) (p v n : ℕ) → v < 2 ^ 64 → n ≡ pair_rank p v →
    new.rows ≡ without_rank child_row_functions n old.rows → IsChange old new (Some p) v false
changed-removed old new p v n few is e =
    change old new p v None (values-taken row_pairs old.rows old.rows refl p v n few is new.rows e)

pub changed-not : (t : Rows ChildRow) (parent : Option ℕ) (v : ℕ) (b : Bool) → parent ≡ None → IsChange t t parent v b
unfolding passes
changed-not t parent v b none q w =
    ap (λ (o : Option ℕ). cond (is_parent q o && (w == v)) b (is_under t q w)) (sym none)

none : (o : Option ℕ) → is_some o ≡ false → o ≡ None
none None e = refl
none (Some x) e = absurd (cc)

pub no_row : (t : Rows ChildRow) (p v : ℕ) (row : ChildRow) → v < 2 ^ 64 → row ≡ child_row_of p v → is_under t p v ≡ false →
    IsNone (row_at child_row_functions (child_row_functions.rank row) t.rows)
unfolding is_under
no_row t p v row few is free =
    subst IsNone
    (sym (row-absent row_pairs t.rows t.rows refl p v _ few (ap child_row_functions.rank is) (none _ free))) refl

pub row_there : (t : Rows ChildRow) (p v n : ℕ) → n ≡ pair_rank p v → is_under t p v ≡ true →
    IsSome (row_at child_row_functions n t.rows)
unfolding is_under
row_there t p v n is some = row-there row_pairs t.rows t.rows refl p v n (under-below t p v some) is some

-- what is said of a parent, where it is there
pub at_parent : (Q : Koid → Type 0) (o : Option Koid) (p : Koid) → o ≡ Some p → IfSome o Q → Q p
at_parent Q o p is h = subst (λ (x : Option Koid). IfSome x Q) is h
