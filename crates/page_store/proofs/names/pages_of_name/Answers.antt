use Rattle.std.proofs.Common.{ℕ, Option, sym, ap, ◌∙◌}
use Rattle.std.specs.Prelude.{unwrap_or}
use Rattle.vm_model.specs.Contents.Content.{pages_of}
use Rattle.vm_model.proofs.ContentLaws.{pages_of-at}
use Rattle.page_store.proofs.names.pages_of_name.Goals as goal

pub returns-in-None : goal.returns-in-None
returns-in-None g c =
    let d = g.P.PageStore.content c.args.store.now in
    let v = c.args.t.now.koid.0 in
    sym (ap (λ (o : Option ℕ). unwrap_or o (pages_of d v)) c.in-None.is
    ∙ pages_of-at d v c.count.result c.count.ensures)
