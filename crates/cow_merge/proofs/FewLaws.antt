-- Pages without a witness that are cut off one by one.
use Rattle.cow_merge.proofs.Words.{◌≡◌, ◌≢◌, ℕ, ◌≤◌, Option, Some, inl, inr, refl, sym, ap, subst, ◌∙◌, Rows, Row, slots_of, Pool, is_taken, Node, NodeId}
use Rattle.cow_merge.proofs.Words.{Arena, nodes_of, frame_shown, IsPartOf, tree_of, IsPage, Pages, HasCutOff, IsPassing}
use Rattle.cow_merge.proofs.Words.{IsOutside, IsOneMore, Moves, ShowsOnlyOf}
use Rattle.cow_split.proofs.PartLaws.{part-none}
use Rattle.cow_merge.proofs.RangeLaws.{cut-was, cut-here, cut-lost, bare-cut}
use Rattle.cow_merge.proofs.PassingLaws.{spared-stays, came-on}
use Rattle.cow_merge.proofs.BesideLaws.{not-seen}

-- pages that are passed over are told in another way
pub few-start : {arena : Arena} {rows : Rows Row} {pool : Pool} {v first : ℕ} {skip more : Pages} {spared : Option NodeId} {above : Node} {shift to : ℕ} →
    ((q : ℕ) → first ≤ q → IsOutside skip q → IsOutside more q) →
    IsPassing arena rows pool v first skip spared above shift to to → IsPassing arena rows pool v first more spared above shift to to
few-start outside was = record {
  bare = was.bare;
  parent = was.parent;
  h = was.h;
  at = was.at;
  came = λ q tag start below sight shown. elim (was.came q tag start below sight shown) [
    | inl held ↦ inl held
    | inr it ↦ inr (record {
      side = it.side;
      apart = outside q start it.apart;
      page = it.page;
      is = it.is;
      way = it.way;
      below = it.below;
      free = it.free;
    })
  ];
}

module _ {arena : Arena} {mid : Rows Row} (new : Rows Row) {between : Pool} (after : Pool) {v first : ℕ} {skip : Pages} {spared : Option NodeId} {above : Node}
    {shift to : ℕ} (h own : ℕ) (more : Pages) (was : IsPassing arena mid between v first skip spared above shift to to) (at : nodes_of arena h ≡ Some above)
    (one : IsOneMore first skip own more)
    (step : HasCutOff arena mid new between after v own (ShowsOnlyOf (tree_of arena mid) v own h) was.bare.has.out) where
  pub few-lost : Moves arena mid new between after v first IsPartOf
  few-lost = cut-lost step one.low was.bare.has.only was.bare.within

  here : was.h ≡ h
  here = was.bare.has.exact.forest.by.own was.h h above above was.at at refl

  pub few-cut : IsPassing arena new after v first more spared above shift to to
  few-cut = record {
    bare = bare-cut was.bare step one.low;
    parent = was.parent;
    h = was.h;
    at = was.at;
    came = λ q tag start below sight shown.
        let there : IsPage (tree_of arena mid) v q = record { node = was.bare.has.node; visible = was.bare.has.visible; below = below } in
        let showed = sym (step.shows v q there sight) ∙ shown in
        elim (was.came q tag start below (cut-was step v q sight) showed) [
          | inl held ↦ inl (spared-stays arena mid new v was.bare.has.node was.bare.has.visible was.bare.has.out (is_taken between) was.bare.has.exact step.part
              spared q tag was.parent (was.bare.bare q start) showed shown held)
          | inr it ↦
              let apart : q ≢ own = λ same.
              not-seen arena mid was.bare.has.exact.forest v own skip was.h above shift to was.at q same it
              (subst (λ i. ShowsOnlyOf (tree_of arena mid) v own i) (sym here) (cut-here step q sight same) tag
              (ap (frame_shown (tree_of arena mid) v) (sym same) ∙ showed)) in
              let came = came-on it step.part (λ less. part-none (slots_of mid) (slots_of new) step.part above.list.0 it.page (it.free less)) in
              inr (record {
                side = came.side;
                apart = one.outside q it.apart apart;
                page = came.page;
                is = came.is;
                way = came.way;
                below = came.below;
                free = came.free;
              })
        ];
  }
