use Rattle.std.proofs.Common.{◌≡◌, ◌<◌}
use Rattle.vm_model.specs.Contents.Content.{pages_of}
use Rattle.source_vm.specs.Pages.{IsFound, lookup_end}
use Rattle.source_vm.specs.Table.{loose_links_of}
use Rattle.source_vm.proofs.walk.find_end.Given as goal

abbrev pub invariant-loop-next : goal.invariant-loop-next
invariant-loop-next g l =
    let content = g.P.PageStore.content l.store in
    record {
      inside : l.at.place.page < pages_of content l.at.place.koid.0;
      same : lookup_end (loose_links_of l.table) content l.at.place.koid.0 l.at.place.page ≡ lookup_end (loose_links_of l.table) content l.fn.start.place.koid.0 l.fn.start.place.page;
      found : IsFound content l.at;
    }

abbrev pub decreases-loop-next : goal.decreases-loop-next
decreases-loop-next g l = l.at.place.koid.0
