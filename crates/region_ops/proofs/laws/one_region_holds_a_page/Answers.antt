use Rattle.region_ops.proofs.HolderLaws.{one_holder}
use Rattle.region_ops.proofs.laws.one_region_holds_a_page.Goals as goal

pub returns : goal.returns
returns c = λ regions root p n m good x y. one_holder regions good root p n m x.has y.has x.alone y.alone
