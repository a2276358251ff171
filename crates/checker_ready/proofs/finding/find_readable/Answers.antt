use Rattle.std.proofs.Common.{Option, subst}
use Rattle.vm_base.specs.declared.refusal.Refusal.{Refusal}
use Rattle.vm_model.specs.Contents.Writing.{touched}
use Rattle.mapping_set.specs.Tables.{table_of}
use Rattle.page_store.specs.Flat.{flat_content}
use Rattle.checker_ready.specs.inside.Pages.{FindsTouched}
use Rattle.checker_ready.proofs.AskLaws.{read_row}
use Rattle.checker_ready.proofs.finding.find_readable.Goals as goal

pub returns : goal.returns
returns c = subst (λ (o : Option Refusal). FindsTouched (flat_content c.args.pages.now) (table_of c.args.maps.now) c.args.region.0 c.args.addr c.args.len o c.find.result)
    (read_row (flat_content c.args.pages.now) (table_of c.args.maps.now c.args.region.0) (touched c.args.addr c.args.len)) c.find.ensures
