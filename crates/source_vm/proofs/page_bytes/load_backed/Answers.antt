use Rattle.std.proofs.Common.{◌∙◌, sym, ap, replicate, ℕ, Option}
use Rattle.vm_base.specs.Pages.{zeros}
use Rattle.source_model.specs.declared.backing.Backing.{Backing}
use Rattle.source_model.specs.Sources.{backing_text}
use Rattle.source_vm.proofs.page_bytes.load_backed.Goals as goal

pub load_page-requires-clause-source : goal.load_page-requires-clause-source
load_page-requires-clause-source g c = c.requires.sources c.in-Some.backing (sym c.find.ensures ∙ c.in-Some.is)

pub returns-in-Some : goal.returns-in-Some
returns-in-Some g c =
    c.load_page.ensures ∙ ap (λ (o : Option Backing). backing_text o c.args.end.page) (sym (sym c.find.ensures ∙ c.in-Some.is))

pub returns-in-None : goal.returns-in-None
unfolding zeros backing_text
returns-in-None g c =
    c.fill.ensures.after (λ y e. e) ∙ (ap (λ (n : ℕ). replicate n 0) c.requires.size
    ∙ ap (λ (o : Option Backing). backing_text o c.args.end.page) (sym (sym c.find.ensures ∙ c.in-None.is)))
