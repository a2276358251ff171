-- Laws of the bytes of pages.
use Rattle.std.proofs.Common.{◌≡◌, ℕ, ◌+◌, ◌≤◌, List, length, arith}
use Rattle.std.proofs.lemmas.List.{length-take, length-drop, length-append, length-replicate}
use Rattle.vm_base.specs.declared.limits.TheConstants.{PAGE}
use Rattle.vm_base.specs.Pages.{zeros, replaced}

pub length-zeros : length zeros ≡ PAGE
unfolding zeros
length-zeros = length-replicate {A = ℕ} PAGE 0

-- bytes replaced inside a list leave its length
pub length-replaced : (old : List ℕ) (at : ℕ) (bytes : List ℕ) → at + length bytes ≤ length old → length (replaced old at bytes) ≡ length old
unfolding replaced
length-replaced old at bytes h = simp (length-append, length-take, length-drop) (omega arith)
