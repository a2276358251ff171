-- A page of a VMO is owned where a page of its node is.
use Rattle.cow_forest.proofs.Words.{◌≡◌, ◌⊎◌, ℕ, ◌<◌, ◌≤◌, true, List, [], Option, None, Some, refl, sym, ap, subst, ◌∙◌, inl, inr, arith}
use Rattle.cow_forest.proofs.Words.{is_some, unwrap_or, cases_Bool, both_ways, Rows, some_same, with_key-same, with_key-other, Page}
use Rattle.cow_forest.proofs.Words.{bytes_of, pages_of, used, shown, sole, hold, sole-zero, bytes_of-none, bytes_of-some, Pool}
use Rattle.cow_forest.proofs.Words.{taken_frames, is_taken, frame_bytes, takes_apart, Row, link_to, frame_shown, NodeId, all_in_sight}
use Rattle.cow_forest.proofs.Words.{bytes_shown, IsSole, HasSole, HasFree, node_in, AreLinked, HasOwnRow, HasOwned, Forest, tree, forest_content}
use Rattle.cow_forest.proofs.Words.{page_with_frame, page_showing, IsStore}
use Rattle.vm_model.specs.Contents.Owning.{Owns}
use Rattle.cow_arena.proofs.WalkLaws.{link_same}
use Rattle.cow_split.proofs.RowLaws.{frame-in_use}
use Rattle.cow_forest.proofs.ContentLaws.{HasPage, page-of, page-at, in_use-taken, used-taken, sole-last}
use Rattle.cow_forest.proofs.StoreLaws.{with_rows, store-kept, IsChangedAt, content-held, content-same}

-- the bytes of a frame go by the frames that are taken
bytes-kept : (old new : Pool) (t : ℕ) → taken_frames new t ≡ taken_frames old t → frame_bytes new t ≡ frame_bytes old t
bytes-kept old new t same = ap (λ (o : Option (List ℕ)). unwrap_or o []) same

-- what a page shows, by its frame
shown-bytes : (pool : Pool) (o : Option ℕ) (page : Option Page) → page ≡ page_showing pool o → bytes_shown pool o ≡ bytes_of page
shown-bytes pool None page e = sym (bytes_of-none page e)
shown-bytes pool (Some t) page e = sym (bytes_of-some page (page_with_frame pool t) e)

module _ (f : Forest) (s : IsStore f) (v p : ℕ) (less : p < pages_of (forest_content f) v) where
  module _ (at : NodeId) (is : node_in f.nodes v ≡ Some at) where
    vmo-page : HasPage f v at.0 p
    vmo-page = page-at f s v p at less is

    page-is : (forest_content f).page v p ≡ page_showing f.pool (frame_shown (tree f) at.0 p)
    page-is = page-of f s v at.0 p vmo-page.node

    -- a page is sole where its node shows its frame alone
    node-sole : (t : ℕ) → IsSole (tree f) at.0 p t → sole (forest_content f) v p ≡ true
    node-sole t alone = (sole-last f s v at.0 p t (record { page = vmo-page; frame = alone.shows })).1 alone.last

    sole-node : sole (forest_content f) v p ≡ true → HasSole (tree f) at.0 p
    sole-node alone = with_frame (frame_shown (tree f) at.0 p) refl
      where
        with_frame : (o : Option ℕ) → frame_shown (tree f) at.0 p ≡ o → HasSole (tree f) at.0 p
        with_frame None e = absurd (both_ways (sole (forest_content f) v p) (sole-zero (forest_content f) v p (page-is ∙ ap (page_showing f.pool) e)) alone)
        with_frame (Some t) e = record { tag = t; sole = record { shows = e; last = (sole-last f s v at.0 p t (record { page = vmo-page; frame = e })).0 alone } }

    pub room-own : {room : ℕ} → (sole (forest_content f) v p ≡ true) ⊎ ((1 ≤ room) × (used (forest_content f) < (forest_content f).frames)) →
        HasSole (tree f) at.0 p ⊎ ((1 ≤ room) × HasFree f.pool)
    room-own (inl alone) = inl (sole-node alone)
    room-own (inr room) = inr (room.0, let some = room.1 in omega (arith, some, used-taken f s))

    -- a frame that some page shows is taken
    frame-taken : (w q t : ℕ) → frame_shown (tree f) w q ≡ Some t → is_taken f.pool t ≡ true
    frame-taken w q t shows = frame-in_use (tree f) all_in_sight (is_taken f.pool) s.exact w q t shows

    module _ (rows : Rows Row) (pool : Pool) (tag : ℕ) (o : HasOwned f.arena f.rows rows f.pool pool at.0 p tag) (linked : AreLinked rows pool) where
      pub store-owned : IsStore (with_rows f rows pool)
      store-owned = store-kept f rows pool s o.exact linked

      -- frames that are shown keep their bytes
      bytes-owned : (w q t : ℕ) → frame_shown (tree f) w q ≡ Some t → frame_bytes pool t ≡ frame_bytes f.pool t
      bytes-owned w q t shows = elim (cases_Bool (sole (forest_content f) v p)) [
        | inl alone ↦
            let own = sole-node alone in
            bytes-kept f.pool pool t (ap (λ (map : ℕ → Option (List ℕ)). map t) (o.stays own.tag own.sole).1)
        | inr shared ↦
            let takes = o.taken (λ u own. absurd (both_ways (sole (forest_content f) v p) shared (node-sole u own))) in
            bytes-kept f.pool pool t (ap (λ (map : ℕ → Option (List ℕ)). map t) takes.taken
            ∙ with_key-other (taken_frames f.pool) tag _ t (takes_apart f.pool pool tag _ takes t (frame-taken w q t shows)))
      ]

      changed : IsChangedAt f rows pool at.0 p
      changed = record {
        exact = o.exact;
        linked = linked;
        frames = o.frames;
        others = o.others;
        bytes = λ w q t page apart shows. bytes-owned w q t shows;
      }

      pub owns : Owns (forest_content f) (forest_content (with_rows f rows pool)) v p tag
      owns = record {
        stays = λ alone.
            let own = sole-node alone in
            let same : tag ≡ own.tag = (o.stays own.tag own.sole).0 in (
              content-same f rows pool v at.0 p s vmo-page.node changed (o.shows ∙ (ap (λ t. Some t) same ∙ sym own.sole.shows)) (λ t shows. bytes-owned at.0 p t shows),
              λ held e. same ∙ ap (λ (page : Page). page.tag) (some_same (sym (page-is ∙ ap (page_showing f.pool) own.sole.shows) ∙ e)),
            );
        copies = λ shared.
            let takes = o.taken (λ t own. absurd (both_ways (sole (forest_content f) v p) shared (node-sole t own))) in
            let bytes : frame_bytes pool tag ≡ shown (forest_content f) v p =
            ap (λ (o : Option (List ℕ)). unwrap_or o []) (ap (λ (map : ℕ → Option (List ℕ)). map tag) takes.taken ∙ with_key-same (taken_frames f.pool) tag _)
            ∙ shown-bytes f.pool (frame_shown (tree f) at.0 p) ((forest_content f).page v p) page-is in (
              takes.below,
              in_use-taken f s tag ∙ ap is_some takes.was_free,
              content-held f rows pool v at.0 p s vmo-page.node changed tag o.shows
                  ∙ ap (λ (bs : List ℕ). hold (forest_content f) v p (record { tag = tag; bytes = bs })) bytes,
            );
      }

      -- the row is that of the VMO's node
      pub owned-row : (1 ≤ f.rows.spare → HasOwnRow f.arena rows at.0 p tag) → (j : ℕ) → 1 ≤ f.rows.spare → node_in f.nodes v ≡ link_to j →
          HasOwnRow f.arena rows j p tag
      owned-row row j room there = subst (λ n. HasOwnRow f.arena rows n p tag) (link_same (sym is ∙ there)) (row room)
