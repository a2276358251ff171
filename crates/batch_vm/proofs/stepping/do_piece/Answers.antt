use Rattle.std.proofs.Common.{sym, ◌∙◌}
use Rattle.batch_vm.proofs.stepping.do_piece.Goals as goal

pub piece_len-len-requires : goal.piece_len-len-requires
piece_len-len-requires g c = c.requires.jobs c.args.request.job.0 c.in-Some.held (sym c.find.ensures ∙ c.in-Some.is)
