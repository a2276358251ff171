use Rattle.std.proofs.Common.{◌≡◌, ◌-◌, ◌≤◌}
use Rattle.vm_base.specs.Search.{count_below}
use Rattle.vm_model.specs.Contents.Content.{views}
use Rattle.page_store.specs.Flat.{flat_of, flat_content}
use Rattle.page_store.proofs.flat_store.FlatStore.count_viewers.Given as goal

-- the viewers up to here were counted
abbrev pub invariant-loop-koid : goal.invariant-loop-koid
invariant-loop-koid l = record {
  low : l.from ≤ l.self-inside.next;
  count : l.count ≡ count_below l.from (views (flat_content (flat_of l.self-inside)) l.tag.0);
}

abbrev pub decreases-loop-koid : goal.decreases-loop-koid
decreases-loop-koid l = l.self-inside.next - l.from
