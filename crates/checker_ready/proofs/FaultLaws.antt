-- On which pages an access takes a page fault.
use Rattle.std.proofs.Common.{◌≡◌, ℕ, ◌+◌, ◌≤◌, Bool, true, false, not, cond, List, [], ◌∷◌, Option, None, Some, refl, sym, ◌∙◌, arith}
use Rattle.std.specs.Prelude.{length, is_some}
use Rattle.std.specs.List.{filter, list_any, range_with_len}
use Rattle.vm_model.specs.declared.space.Readiness.{Readiness}
use Rattle.vm_model.specs.declared.space.Readiness.TheVariants.{Read, Write}
use Rattle.vm_model.specs.Contents.Content.{Content}
use Rattle.vm_model.specs.Space.Readiness.{Ready, is_writable}
use Rattle.vm_model.specs.Machine.Access.{read_faults, write_fault}
use Rattle.ready_pages.specs.Changes.{Entries}
use Rattle.checker_ready.specs.declared.touching.TouchedPage.{TouchedPage}
use Rattle.checker_ready.specs.inside.Pages.{AreFrom, IsTouchedPage, is_unready, faults_in}
use Rattle.checker_ready.proofs.AskLaws.{any_first, any_rest}

module _ (c : Content) (table : Entries) (ready : Ready) (root : ℕ) where
  -- where an access takes a page fault, some page that it touches is not ready for it
  pub faults_want : (wanted : Readiness) (p : ℕ) (pages : List TouchedPage) → AreFrom (IsTouchedPage wanted c table ready root) p pages → 1 ≤ faults_in pages
      → list_any (λ q. is_unready wanted (ready root q)) (range_with_len p (length pages)) ≡ true
  faults_want wanted p [] are some = absurd (omega (arith, some))
  faults_want wanted p (page ∷ pages) are some = go page.unready refl some (faults_want wanted (p + 1) pages are.1) where
    go : (b : Bool) → page.unready ≡ b → 1 ≤ cond b 1 0 + faults_in pages
        → (1 ≤ faults_in pages → list_any (λ q. is_unready wanted (ready root q)) (range_with_len (p + 1) (length pages)) ≡ true)
        → list_any (λ q. is_unready wanted (ready root q)) (p ∷ range_with_len (p + 1) (length pages)) ≡ true
    go true e h rest = sym (any_first (λ (q : ℕ). is_unready wanted (ready root q)) p (range_with_len (p + 1) (length pages)) (sym are.0.unready ∙ e))
    go false e h rest =
        sym (any_rest (λ (q : ℕ). is_unready wanted (ready root q)) p (range_with_len (p + 1) (length pages)) (sym are.0.unready ∙ e)) ∙ rest (omega (arith, h))

  -- a read takes so many page faults
  pub faults_to_read : (p : ℕ) (pages : List TouchedPage) → AreFrom (IsTouchedPage Read c table ready root) p pages
      → faults_in pages ≡ read_faults (ready root) (range_with_len p (length pages))
  unfolding read_faults
  faults_to_read p [] are = refl
  faults_to_read p (page ∷ pages) are = go (is_some (ready root p)) refl (faults_to_read (p + 1) pages are.1) where
    go : (b : Bool) → is_some (ready root p) ≡ b → faults_in pages ≡ length (filter (λ q. not (is_some (ready root q))) (range_with_len (p + 1) (length pages)))
        → cond page.unready 1 0 + faults_in pages ≡ length (filter (λ q. not (is_some (ready root q))) (p ∷ range_with_len (p + 1) (length pages)))
    go true e same = rw (are.0.unready, e) (omega (arith, same))
    go false e same = rw (are.0.unready, e) (omega (arith, same))

-- writing a page takes so many
pub fault_to_write : (page : TouchedPage) (o : Option Readiness) → page.unready ≡ is_unready Write o → faults_in (page ∷ []) ≡ write_fault o
fault_to_write page o is = rw is (go (is_writable o)) where
  go : (b : Bool) → ◌≡◌ {A = ℕ} (cond (not b) 1 0 + 0) (cond b 0 1)
  go true = omega arith
  go false = omega arith

-- a page that is ready for writing
pub ready_to_write : (o : Option Readiness) → is_unready Write o ≡ false → o ≡ Some Write
ready_to_write None e = absurd cc
ready_to_write (Some Read) e = absurd cc
ready_to_write (Some Write) e = refl
