use Rattle.std.proofs.Common.{◌∙◌, arith}
use Rattle.region_ops.proofs.MapLaws.{without_bit}
use Rattle.region_ops.proofs.mapping.without_writing.Goals as goal

pub returns : goal.returns
returns c = c.difference.ensures tt ∙ without_bit c.args.caps.0 (omega (arith, c.if-prove.false))
