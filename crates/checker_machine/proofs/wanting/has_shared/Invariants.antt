use Rattle.std.proofs.Common.{◌≡◌, ℕ, ◌<◌, ◌≤◌, true}
use Rattle.vm_model.specs.Contents.Content.{sole}
use Rattle.page_store.specs.Flat.{flat_content}
use Rattle.checker_machine.proofs.wanting.has_shared.Given as goal

abbrev pub invariant-loop-page : goal.invariant-loop-page
invariant-loop-page l = (q : ℕ) → l.fn.touched.first ≤ q → q < l.page → sole (flat_content l.pages) l.koid.0 q ≡ true
