use Rattle.std.proofs.Common.{◌∙◌, sym, length}
use Rattle.std.proofs.lemmas.Bool.{cond-false, le-ltb}
use Rattle.vm_base.specs.declared.limits.TheConstants.{LINE_BYTES}
use Rattle.vm_model.specs.Language.Reading.{words}
use Rattle.batch_vm.proofs.PlaceLaws.{order_places}
use Rattle.batch_vm.proofs.reading.job_call.Goals as goal

pub returns : goal.returns
returns c =
    let line = c.args.line.now in
    c.call_of_words.ensures ∙ (order_places (words line) ∙ sym (cond-false _ _ _ (le-ltb LINE_BYTES (length line) c.if-line-gt-LINE_BYTES.false)))
