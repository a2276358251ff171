use Rattle.cow_split.proofs.Words.{sym, ◌∙◌, none_is}
use Rattle.cow_split.proofs.SeenLaws.{side-of-reached, reached-of-side, no-side}
use Rattle.cow_split.proofs.search.side_seen.Goals as goal

pub returns-then-is_none : goal.returns-then-is_none
returns-then-is_none c = (
  λ wrong. absurd (cc),
  λ s. absurd (no-side _ c.requires.forest _ _ _ _ c.node.ensures (sym c.find.ensures ∙ none_is _ c.if-is_none.ensures) s),
)

pub returns : goal.returns
returns c = (
  λ holds. side-of-reached _ c.requires.forest _ _ _ _ _ c.node.ensures c.find.ensures c.if-is_none.ensures (sym c.reached_from.ensures ∙ holds),
  λ s. c.reached_from.ensures ∙ reached-of-side _ c.requires.forest _ _ _ s,
)
