use Rattle.std.proofs.Common.{◌-◌}
use Rattle.vm_model.specs.Contents.Content.{sole}
use Rattle.vmo_ops.proofs.CountLaws.{AreCounted}
use Rattle.vmo_ops.proofs.owning.need_of_pages.Given as goal

abbrev pub invariant-loop-held : goal.invariant-loop-held
invariant-loop-held g l =
    AreCounted (sole (g.P.PageStore.content l.store) l.v.0) l.first l.from l.end l.alone

abbrev pub decreases-loop-held : goal.decreases-loop-held
decreases-loop-held g l = l.end - l.from
