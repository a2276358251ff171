use Rattle.vmo_ops.proofs.ReadLaws.{IsReadTo}
use Rattle.vmo_ops.proofs.reading.read_pages.Given as goal

abbrev pub invariant-loop-page : goal.invariant-loop-page
invariant-loop-page g l = IsReadTo (g.P.PageStore.content l.store) l.v.0 l.offset l.len l.page l.out
