use Rattle.slab.specs.Slab.{get, slab_len}
use Rattle.fault.specs.inside.Pages.{link_numbers}
use Rattle.fault.proofs.FindLaws.{link-none, translation-none}
use Rattle.fault.proofs.translations.Translations.is_empty.Goals as goal

pub returns : goal.returns
returns c = rw (← c.self.view_is) (
  λ zero root p. translation-none (link_numbers c.self.inside.places) (link_numbers c.self.inside.lists) (get c.self.inside.links) root p (c.is_empty.ensures.0 zero root p),
  λ none. c.is_empty.ensures.1 (λ root p.
      link-none (link_numbers c.self.inside.places) (link_numbers c.self.inside.lists) (get c.self.inside.links) (slab_len c.self.inside.links) c.self.invariant root p (none root p)),
)
