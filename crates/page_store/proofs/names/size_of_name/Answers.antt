use Rattle.std.proofs.Common.{arith}
use Rattle.page_store.proofs.NameLaws.{name_few}
use Rattle.page_store.proofs.names.size_of_name.Goals as goal

pub overflow_mul-result : goal.overflow_mul-result
overflow_mul-result g c =
    let few = name_few (g.P.PageStore.content c.args.store.now) c.args.t.now c.requires.good c.requires.inside in
    omega arith
