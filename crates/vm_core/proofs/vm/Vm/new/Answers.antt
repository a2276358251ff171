use Rattle.std.proofs.Common.{◌≡◌, None, ap, ◌∙◌}
use Rattle.fault.specs.Table.{translations_of}
use Rattle.machine.proofs.StartLaws.{bare_machine-first}
use Rattle.vm_core.proofs.StartLaws.{machine_of-bare, agrees_bare}
use Rattle.vm_core.proofs.vm.Vm.new.Goals as goal

-- no page is translated
untranslated : (c : goal.After-new-2) → translations_of c.new-2.result.ready ≡ (λ root p. None)
untranslated c = ap translations_of c.new-2.ensures.ready ∙ c.new.ensures

pub returns-clause-bare : goal.returns-clause-bare
returns-clause-bare c = λ d. machine_of-bare d c.new-2.result (c.new-2.ensures.bare d) (untranslated c)

pub returns-clause-agrees : goal.returns-clause-agrees
returns-clause-agrees c = λ d none first. agrees_bare d c.new-2.result (c.new-2.ensures.bare d) (untranslated c) none first

pub returns-clause-empty : goal.returns-clause-empty
returns-clause-empty c = λ d none first. returns-clause-bare c d ∙ bare_machine-first d none first
