use Rattle.slab.specs.Slab.{get, slab_len}
use Rattle.fault.specs.inside.Pages.{link_numbers}
use Rattle.std.proofs.Common.{arith}
use Rattle.fault.proofs.FindLaws.{next-list, no-list, far-list, HasFrame-first}
use Rattle.fault.proofs.LinkLaws.{first-there}
use Rattle.fault.proofs.translations.Translations.next_list.Goals as goal

pub index-requires : goal.index-requires
index-requires c = first-there (link_numbers c.self.inside.places) (link_numbers c.self.inside.lists) (get c.self.inside.links) (slab_len c.self.inside.links) c.self.invariant c.args.v.0 c.in-Some.page c.in-Some.first c.in-Some.ensures.value

pub returns-in-Some : goal.returns-in-Some
returns-in-Some c =
    rw (← c.self.view_is) (
      next-list (link_numbers c.self.inside.places) (link_numbers c.self.inside.lists) (get c.self.inside.links) (slab_len c.self.inside.links) c.self.invariant c.args.v.0 c.args.from c.args.end c.in-Some.page c.in-Some.ensures.next (omega arith),
      c.in-Some.ensures.value,
      HasFrame-first (link_numbers c.self.inside.places) (link_numbers c.self.inside.lists) (get c.self.inside.links) (slab_len c.self.inside.links) c.self.invariant c.args.v.0 c.in-Some.page c.in-Some.first c.index.result.now c.in-Some.ensures.value c.index.ensures,
    )

pub returns-in_default : goal.returns-in_default
returns-in_default c =
    rw (← c.self.view_is) (far-list (link_numbers c.self.inside.places) (link_numbers c.self.inside.lists) (get c.self.inside.links) (slab_len c.self.inside.links) c.self.invariant c.args.v.0 c.args.from c.args.end c.in-Some.page c.in-Some.ensures.next (omega arith))

pub returns-in_default-2 : goal.returns-in_default-2
returns-in_default-2 c =
    rw (← c.self.view_is) (no-list (link_numbers c.self.inside.places) (link_numbers c.self.inside.lists) (get c.self.inside.links) (slab_len c.self.inside.links) c.self.invariant c.args.v.0 c.args.from c.args.end (rw c.in_default.is at c.next.ensures.next))
