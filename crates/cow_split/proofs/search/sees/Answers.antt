use Rattle.cow_split.proofs.Words.{◌≡◌, sym, ap, ◌∙◌, arith, some_same, slots_of, is_row_of}
use Rattle.cow_split.proofs.SeenLaws.{comes-of-seen, seen-of-answer, answer-of-seen, seen-below}
use Rattle.cow_split.proofs.search.sees.Goals as goal

pub returns-in_default : goal.returns-in_default
returns-in_default c = (
  λ wrong. absurd (cc),
  λ s. absurd (let none = c.in_default.ensures (slots_of c.args.lists.now) s.p (comes-of-seen _ c.requires.forest _ _ _ s) in cc),
)

pub returns-then-at-own : goal.returns-then-at-own
returns-then-at-own c = (
  λ wrong. absurd (cc),
  λ s.
      let same : c.in-Some.own ≡ s.p = some_same (c.in-Some.ensures (slots_of c.args.lists.now) s.p (comes-of-seen _ c.requires.forest _ _ _ s)) in
      absurd (omega (arith, seen-below _ c.requires.forest _ _ _ s _ c.node-at.ensures)),
)

pub returns : goal.returns
returns c =
    let answer = c.is_row.ensures ∙ ap (λ found. is_row_of c.args.leaf.0 c.in-Some.own found c.args.node.0 c.args.page) c.holder-found.ensures in (
      λ holds. seen-of-answer _ c.requires.forest _ _ _ _
          (record { node = c.node-at.result; visible = record { at = c.node-at.ensures; koid = c.if-is_none.ensures }; below = c.if-at-own.false })
          (sym answer ∙ holds),
      λ s.
          let same : c.in-Some.own ≡ s.p = some_same (c.in-Some.ensures (slots_of c.args.lists.now) s.p (comes-of-seen _ c.requires.forest _ _ _ s)) in
          answer ∙ answer-of-seen _ c.requires.forest _ _ _ _ s (sym same),
    )
