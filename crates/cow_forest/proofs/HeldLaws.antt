-- The pages of a VMO that are held, where a look goes over the pages of its node.
use Rattle.cow_forest.proofs.Words.{◌≡◌, ℕ, ◌<◌, ◌≤◌, Bool, Option, None, Some, inl, inr, IsSome, IsSomeAnd, refl, sym, ap, subst, ◌∙◌, is_some, IfSome, IfNone, rules}
use Rattle.cow_forest.proofs.Words.{Page, Pool, Node, nodes_of, frame_shown, shows_frame, HasNone, IsFirst, IsFirstOrNone, is_held, none_is, cases_lt, arith, Forest, tree, forest_content}
use Rattle.cow_forest.proofs.Words.{page_showing, HasNode, IsStore}
use Rattle.cow_forest.proofs.ContentLaws.{page-of, node-visible, frame-past}

-- a page that shows a frame is held
showing : (pool : Pool) (frame : Option ℕ) → is_some (page_showing pool frame) ≡ is_some frame
showing pool None = refl
showing pool (Some t) = refl

-- a number that passes
hit-some : (o : Option Page) → is_some o ≡ Bool.true → IsSome o
hit-some None e = absurd (cc)
hit-some (Some held) e = search rules

-- a search that goes on behind pages of which none passes
pub first-joined : (p : ℕ → Bool) (from mid end : ℕ) (answer : Option ℕ) → from ≤ mid → HasNone p from mid → IsFirstOrNone p mid end answer → IsFirstOrNone p from end answer
first-joined p from mid end None order none next = λ k low less. elim (cases_lt k mid) [
  | inl before ↦ none k low before
  | inr behind ↦ next k behind less
]
first-joined p from mid end (Some page) order none next = record {
  order = omega (arith, order, next.order);
  below = next.below;
  hit = next.hit;
  gap = λ k low less. elim (cases_lt k mid) [
    | inl before ↦ none k low before
    | inr behind ↦ next.gap k behind less
  ];
}

-- one that has found a page before its end
pub first-further : (p : ℕ → Bool) (from mid end page : ℕ) → mid ≤ end → IsFirst p from mid page → IsFirst p from end page
first-further p from mid end page order next = record {
  order = next.order;
  below = omega (arith, order, next.below);
  hit = next.hit;
  gap = next.gap;
}

module _ (f : Forest) (s : IsStore f) (v k : ℕ) (h : HasNode f v k) where
  -- the node of a VMO is there, and visible
  pub node-leaf : IsSomeAnd (nodes_of f.arena k) (λ (node : Node). IsSome node.koid)
  node-leaf = subst (λ (o : Option Node). IsSomeAnd o (λ (node : Node). IsSome node.koid)) (sym h.is.at) (ap is_some h.is.has_koid)

  shows-held : (p : ℕ) → shows_frame (tree f) k p ≡ is_held (forest_content f) v p
  shows-held p = sym (ap (λ (o : Option Page). is_some o) (page-of f s v k p h) ∙ showing f.pool (frame_shown (tree f) k p))

  -- the first page of the node that shows a frame is the first that is held
  pub first-held : (from end : ℕ) (answer : Option ℕ) → IsFirstOrNone (shows_frame (tree f) k) from end answer → IsFirstOrNone (is_held (forest_content f) v) from end answer
  first-held from end answer next =
      let same : ◌≡◌ {A = ℕ → Bool} (shows_frame (tree f) k) (is_held (forest_content f) v) = λ i p. shows-held p i in
      subst (λ (test : ℕ → Bool). IsFirstOrNone test from end answer) same next

  -- it is the next that is held
  pub next-some : (from end : ℕ) (answer : Option ℕ) → IsFirstOrNone (is_held (forest_content f) v) from end answer →
      IfSome answer (λ page. (from ≤ page) × IsSome ((forest_content f).page v page) × ((p : ℕ) → from ≤ p → p < page → (forest_content f).page v p ≡ None))
  next-some from end None next = search rules
  next-some from end (Some page) next = (
    next.order,
    hit-some ((forest_content f).page v page) next.hit,
    λ p start less. none_is ((forest_content f).page v p) (next.gap p start less),
  )

  pub next-none : (from end : ℕ) (answer : Option ℕ) → h.node.count ≤ end → IsFirstOrNone (is_held (forest_content f) v) from end answer →
      IfNone answer ((p : ℕ) → from ≤ p → (forest_content f).page v p ≡ None)
  next-none from end None all next = λ p start. elim (cases_lt p end) [
    | inl less ↦ none_is ((forest_content f).page v p) (next p start less)
    | inr past ↦ page-of f s v k p h ∙ ap (page_showing f.pool) (frame-past f s k p h.node (node-visible f s v k h) (omega (arith, all, past)))
  ]
  next-none from end (Some page) all next = search rules
