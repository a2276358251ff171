use Rattle.std.proofs.Common.{◌-◌}
use Rattle.std.specs.List.{range_with_len}
use Rattle.vmo_ops.proofs.OwningLaws.{IsOwning, owning_pages}
use Rattle.vmo_ops.proofs.committing.own_pages.Given as goal

abbrev pub invariant-loop-page : goal.invariant-loop-page
invariant-loop-page g l =
    IsOwning (owning_pages l.v.0) l.v.0 (g.P.PageStore.content l.initial.store) (range_with_len l.first (l.end - l.first))
    (g.P.PageStore.content l.store) l.page l.end (g.P.PageStore.spare l.store)
