use Rattle.std.proofs.Common.{◌≡◌, ℕ, ◌+◌, ◌-◌, ◌/◌, ap, ◌∙◌}
use Rattle.std.specs.Prelude.{min}
use Rattle.vm_base.specs.declared.limits.TheConstants.{PAGE}
use Rattle.vm_model.specs.Machine.State.{name_pages}
use Rattle.ready_pages.specs.declared.change.Change.{Change}
use Rattle.machine.proofs.naming.seen_part.Goals as goal

pub returns : goal.returns
returns g c =
    let behind : c.saturating_sub-behind.result ≡ name_pages (g.P.PageStore.content c.args.pages.now) c.args.target.now - c.args.offset / PAGE =
    c.saturating_sub-behind.ensures ∙ (λ i. c.pages_of_name.ensures i - c.page_of-start.ensures i) in
    let seen = c.min-seen.ensures ∙ (λ i. min (c.page_count.ensures i) (behind i)) in
    rw c.page_of-start.ensures (ap (λ (n : ℕ). let first = c.args.target.now.first + c.args.offset / PAGE in Change.Shared c.args.target.now.koid first (first + n)) seen)
