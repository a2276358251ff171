use Rattle.std.proofs.Common.{◌∙◌}
use Rattle.vm_model.proofs.ContentLaws.{IsGood-nothing}
use Rattle.source_model.proofs.GoodLaws.{IsGoodSources-empty}
use Rattle.source_vm.proofs.LineLaws.{fresh, starts}
use Rattle.source_vm.proofs.serving.run_sources.Goals as goal

pub serve_asked-status-requires-clause-agrees : goal.serve_asked-status-requires-clause-agrees
serve_asked-status-requires-clause-agrees g c = λ frames. c.new_interpreter-interpreter.ensures.agrees _ (IsGood-nothing frames) (fresh frames)

pub serve_asked-status-requires-clause-start : goal.serve_asked-status-requires-clause-start
serve_asked-status-requires-clause-start g c = λ frames. c.new_interpreter-interpreter.ensures.empty _ (IsGood-nothing frames) (fresh frames) ∙ starts frames

pub serve_asked-status-requires-clause-good : goal.serve_asked-status-requires-clause-good
serve_asked-status-requires-clause-good g c = IsGoodSources-empty
