use Rattle.std.proofs.Common.{ap}
use Rattle.slab.specs.Slab.{Slab}
use Rattle.fault.specs.declared.translation.Link.{Link}
use Rattle.fault.proofs.LinkLaws.{AreLinkedInLists-roomy, translations-roomy}
use Rattle.fault.proofs.translations.Translations.reserve.Goals as goal

pub invariant_of-self-in_default-reserve-2 : goal.invariant_of-self-in_default-reserve-2
invariant_of-self-in_default-reserve-2 c =
    AreLinkedInLists-roomy _ _ _ _ c.self.inside.links c.reserve-3.new.self c.reserve.ensures.links c.reserve-2.ensures.links
    (ap (λ (s : Slab Link). s.slots) c.reserve-3.ensures.rest_kept) c.self.invariant

pub invariant_of-self-2 : goal.invariant_of-self-2
invariant_of-self-2 c =
    AreLinkedInLists-roomy _ _ _ _ c.self.inside.links c.reserve-3.new.self c.reserve.ensures.links c.reserve-2.ensures.links
    (ap (λ (s : Slab Link). s.slots) c.reserve-3.ensures.rest_kept) c.self.invariant

pub returns-in_default-reserve-2-clause-same : goal.returns-in_default-reserve-2-clause-same
returns-in_default-reserve-2-clause-same c =
    rw (← c.self.view_is) (translations-roomy _ _ c.self.inside.links c.reserve-3.new.self c.reserve.ensures.links (ap (λ (s : Slab Link). s.slots) c.reserve-3.ensures.rest_kept))

pub returns-clause-same : goal.returns-clause-same
returns-clause-same c =
    rw (← c.self.view_is) (translations-roomy _ _ c.self.inside.links c.reserve-3.new.self c.reserve.ensures.links (ap (λ (s : Slab Link). s.slots) c.reserve-3.ensures.rest_kept))
