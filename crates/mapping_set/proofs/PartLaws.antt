-- A piece that loses pages: what is left of it, in the fields of the set.
use Rattle.std.proofs.Common.{◌≡◌, ℕ, ◌+◌, ◌-◌, ◌<◌, ◌≤◌, Option, None, Some, inl, inr, refl, sym, ap, subst, ◌∙◌, arith}
use Rattle.balanced_tree.specs.Pairs.{with_pair}
use Rattle.pair_map.specs.declared.stretch_row.Extent.{Extent}
use Rattle.pair_map.specs.Maps.{StandApart, IsExtent, values_of, extents_of}
use Rattle.vm_base.specs.declared.limits.TheConstants.{PAGES_END}
use Rattle.vm_base.specs.declared.names.RegionName.{RegionName}
use Rattle.vm_base.specs.declared.flags.Perm.{Perm}
use Rattle.vm_model.specs.declared.space.Entry.{Entry}
use Rattle.vm_model.specs.Space.Table.{mapping_from, with_pages, with_perm}
use Rattle.vm_model.proofs.TableLaws.{with_pages-in}
use Rattle.mapping_set.specs.declared.piece.Piece.{Piece}
use Rattle.mapping_set.specs.declared.mapping_set.MappingSet.TheInside.{Inside}
use Rattle.mapping_set.specs.Pieces.{list_number, piece_from, piece_until, piece_with_perm, table_in, IsSound, ArePieces, AreListed}
use Rattle.mapping_set.specs.inside.SetFields.{mappings_of, AreMappings}
use Rattle.mapping_set.specs.inside.Taken.{pieces_in}
use Rattle.mapping_set.specs.Tables.{Mappings, table_of, places_of, with_piece, without_piece, IsBare}
use Rattle.mapping_set.proofs.ChangeLaws.{with_pages-beside, taken-tail, taken-head, taken-perm}
use Rattle.mapping_set.proofs.CutLaws.{taken-bare}
use Rattle.mapping_set.proofs.TableLaws.{with_pair-cases, with_pair-over, with_pair-swap, one_piece, table_in-at}
use Rattle.mapping_set.proofs.TakenLaws.{with_pair-kept, piece-found, piece-shorter, piece-split}
use Rattle.mapping_set.proofs.PieceLaws.{ArePieces-more, ArePieces-less, table_in-more, table_in-less, AreListed-more, AreListed-less}

-- ---- what is left is sound

module _ (root last : ℕ) (x : Piece) (sound : IsSound root last x) where
  head-sound : (page : ℕ) → x.first < page → page ≤ last → IsSound root (page - 1) (piece_until x page)
  head-sound page low high =
      let ends = sound.last_is in
      let end = sound.end in
      let pages = sound.pages in
      record {
        root_below = sound.root_below;
        region_below = sound.region_below;
        some = omega arith;
        last_is = omega arith;
        end = omega arith;
        pages = omega arith;
      }

  tail-sound : (page : ℕ) → x.first ≤ page → page ≤ last → IsSound root last (piece_from x page)
  tail-sound page low high =
      let ends = sound.last_is in
      let pages = sound.pages in
      record {
        root_below = sound.root_below;
        region_below = sound.region_below;
        some = omega arith;
        last_is = omega arith;
        end = sound.end;
        pages = omega arith;
      }

-- ---- a piece goes, and one comes on some of its pages

module _ (pieces : ℕ → ℕ → Option Piece) (h : ArePieces pieces) (root last : ℕ) (x : Piece) (is : pieces root last ≡ Some x) where
  abbrev gone : ℕ → ℕ → Option Piece
  gone = with_pair pieces root last None

  module _ (b : ℕ) (y : Piece) (sound : IsSound root b y) (low : x.first ≤ y.first) (high : b ≤ last) where
    abbrev back : ℕ → ℕ → Option Piece
    back = with_pair gone root b (Some y)

    bare-again : IsBare (table_in gone root) y.first (y.first + y.count)
    bare-again =
        let ends = sound.last_is in
        let whole = (h.sound root last x is).last_is in
        taken-bare (table_in pieces) (table_in gone) root x (table_in-less pieces h root last x is) y.first (y.first + y.count) low (omega arith)

    ArePieces-back : ArePieces back
    ArePieces-back = ArePieces-more gone (ArePieces-less pieces h root last x is) root b y sound bare-again

    table_in-back : table_in back ≡ with_piece (without_piece (table_in pieces) root x) root y
    table_in-back =
        table_in-more gone (ArePieces-less pieces h root last x is) root b y sound bare-again
        ∙ ap (λ (t : ℕ → ℕ → Option Entry). with_piece t root y) (table_in-less pieces h root last x is)

    AreListed-back : {V : Type 0} (lists : ℕ → ℕ → Option (Extent V)) → AreListed pieces lists → (e : Extent V) → e.count ≡ y.count
        → AreListed back (with_pair (with_pair lists (list_number x.entry.region.0 root) x.first None) (list_number y.entry.region.0 root) y.first (Some e))
    AreListed-back {V} lists g e count_is =
        AreListed-more gone (ArePieces-less pieces h root last x is) root b y sound bare-again
        (with_pair lists (list_number x.entry.region.0 root) x.first None) (AreListed-less pieces h root last x is lists g) e count_is

  -- both ends come back
  module _ (page end : ℕ) (low : x.first < page) (mid : page ≤ end) (high : end ≤ last) where
    abbrev head : Piece
    head = piece_until x page

    abbrev tail : Piece
    tail = piece_from x end

    whole : IsSound root last x
    whole = h.sound root last x is

    tail_sound : IsSound root last tail
    tail_sound = tail-sound root last x whole end (omega arith) high

    head_sound : IsSound root (page - 1) head
    head_sound = head-sound root last x whole page low (omega arith)

    abbrev half : ℕ → ℕ → Option Piece
    half = with_pair gone root last (Some tail)

    half_pieces : ArePieces half
    half_pieces = ArePieces-back last tail tail_sound (omega arith) (omega arith)

    bare-head : IsBare (table_in half root) head.first (head.first + head.count)
    bare-head p from below =
        let ends = whole.last_is in
        ap (λ (t : ℕ → ℕ → Option Entry). t root p) (table_in-back last tail tail_sound (omega arith) (omega arith))
        ∙ (with_pages-beside (without_piece (table_in pieces) root x) root tail.first (tail.first + tail.count) (mapping_from tail.first tail.entry) p (inl (omega arith))
        ∙ with_pages-in (table_in pieces) root x.first (x.first + x.count) (λ q. None) p from (omega arith))

    abbrev both : ℕ → ℕ → Option Piece
    both = with_pair half root (page - 1) (Some head)

    ArePieces-both : ArePieces both
    ArePieces-both = ArePieces-more half half_pieces root (page - 1) head head_sound bare-head

    table_in-both : table_in both ≡ with_piece (with_piece (without_piece (table_in pieces) root x) root tail) root head
    table_in-both =
        table_in-more half half_pieces root (page - 1) head head_sound bare-head
        ∙ ap (λ (t : ℕ → ℕ → Option Entry). with_piece t root head) (table_in-back last tail tail_sound (omega arith) (omega arith))

    AreListed-both : {V : Type 0} (lists : ℕ → ℕ → Option (Extent V)) → AreListed pieces lists → (d e : Extent V) → d.count ≡ page - x.first → e.count ≡ last + 1 - end
        → AreListed both (with_pair (with_pair lists (list_number x.entry.region.0 root) x.first (Some d)) (list_number x.entry.region.0 root) end (Some e))
    AreListed-both {V} lists g d e count_d count_e =
        let ends = whole.last_is in
        subst (AreListed both)
        (with_pair-swap (with_pair lists (list_number x.entry.region.0 root) x.first None) (list_number x.entry.region.0 root) end x.first (Some e) (Some d) (λ same. absurd (omega arith))
        ∙ ap (λ (m : ℕ → ℕ → Option (Extent V)). with_pair m (list_number x.entry.region.0 root) end (Some e)) (with_pair-over lists (list_number x.entry.region.0 root) x.first None (Some d)))
        (AreListed-more half half_pieces root (page - 1) head head_sound bare-head _ (AreListed-back last tail tail_sound (omega arith) (omega arith) lists g e (omega arith)) d count_d)

-- a piece goes, and both its ends come back
ends-table : (table : ℕ → ℕ → Option Entry) (root : ℕ) (x : Piece) → ((p : ℕ) → x.first ≤ p → p < x.first + x.count → table root p ≡ mapping_from x.first x.entry p)
    → (page end : ℕ) → x.first < page → page ≤ end → end < x.first + x.count
    → with_piece (with_piece (without_piece table root x) root (piece_from x end)) root (piece_until x page) ≡ with_pages table root page end (λ p. None)
ends-table table root x shown page end low mid high =
    let most : x.first + (end - x.first) ≡ end = omega arith in
    ap (λ (t : ℕ → ℕ → Option Entry). with_piece t root (piece_until x page)) (taken-tail table root x shown end (omega arith) high)
    ∙ (taken-head table root (piece_until x end) (λ p from below. shown p from (omega arith)) page low (omega arith)
    ∙ ap (λ k. with_pages table root page k (λ p. None)) most)

-- ---- the set

-- the fields as they are made
sets : (b : Inside) (pieces : ℕ → ℕ → Option Piece) (index : ℕ → ℕ → Option (Extent Unit)) → ArePieces pieces → AreListed pieces index
    → values_of b.pieces ≡ pieces → pieces_in (extents_of b.taken) ≡ index → AreMappings b
sets b pieces index are indexed is_pieces is_index = record {
  pieces = subst ArePieces (sym is_pieces) are;
  taken = subst (λ (m : ℕ → ℕ → Option Piece). AreListed m (pieces_in (extents_of b.taken))) (sym is_pieces) (subst (AreListed pieces) (sym is_index) indexed);
}

-- the set afterwards: its fields hold together, pages without entries, and the places of before
pub record LosesPages (old : Mappings) (b : Inside) (root first end : ℕ) : Type 0 where
  pub are : AreMappings b
  pub table : table_of (mappings_of b) ≡ with_pages (table_of old) root first end (λ p. None)
  pub places : places_of (mappings_of b) ≡ places_of old

module _ (a : Inside) (h : AreMappings a) (now : Mappings) (seen : mappings_of a ≡ now) (root last : ℕ) (x : Piece) (there : values_of now.pieces root last ≡ Some x)
    (l : ℕ) (l_is : l ≡ list_number x.entry.region.0 root) (apart : StandApart (extents_of a.taken)) where
  abbrev values : ℕ → ℕ → Option Piece
  values = values_of a.pieces

  abbrev taken : ℕ → ℕ → Option (Extent (Option RegionName))
  taken = extents_of a.taken

  is_x : values root last ≡ Some x
  is_x = ap (λ (m : Mappings). values_of m.pieces root last) seen ∙ there

  sound_x : IsSound root last x
  sound_x = h.pieces.sound root last x is_x

  shown : (p : ℕ) → x.first ≤ p → p < x.first + x.count → table_in values root p ≡ mapping_from x.first x.entry p
  shown p low high = let ends = sound_x.last_is in table_in-at values h.pieces root last x p is_x low (omega arith)

  pub last-page : x.first + x.count ≡ last + 1
  last-page = sound_x.last_is

  pub pages-end : x.entry.page + x.count ≤ PAGES_END
  pages-end = sound_x.pages

  -- no piece ends on its pages before the last one
  pub none-between : (b : ℕ) → x.first ≤ b → b < last → values root b ≡ None
  none-between b low high = by (values root b) refl where
    by : (p : Option Piece) → values root b ≡ p → p ≡ None
    by None none = refl
    by (Some y) at =
        let was = h.pieces.sound root b y at in
        let end = was.last_is in
        let some = was.some in
        let same = one_piece values h.pieces root b last y x b at is_x (omega arith) (omega arith) low (omega arith) in
        absurd (omega arith)

  pub absent-within : (o : Option Piece) (pieces : ℕ → ℕ → Option Piece) → pieces ≡ with_pair values root last o → (b : ℕ) → x.first ≤ b → b < last → pieces root b ≡ None
  absent-within o pieces is b low high = ap (λ (m : ℕ → ℕ → Option Piece). m root b) is ∙ elim (with_pair-cases values root last o root b) [
    | inl here ↦ absurd (let same = here.1 in omega arith)
    | inr other ↦ other.1 ∙ none-between b low high
  ]

  in-index : (e : Extent Unit) × (pieces_in taken l x.first ≡ Some e) × (e.count ≡ x.count)
  in-index = let found = h.taken.listed root last x is_x in (found.0, ap (λ k. pieces_in taken k x.first) l_is ∙ found.1, found.2)

  -- its extent
  pub in-taken : IsExtent (taken l) x.first (last + 1)
  in-taken =
      let found = piece-found taken l x.first in-index.0 in-index.1 in
      let count = found.3 in
      let same = in-index.2 in
      let ends = sound_x.last_is in
      record { extent = found.0; is = found.1; ends = omega arith }

  module _ (page : ℕ) (low : x.first < page) (high : page ≤ last) where
    abbrev front : Piece
    front = piece_until x page

    abbrev rear : Piece
    rear = piece_from x page

    rear-table : with_piece (without_piece (table_in values) root x) root rear ≡ with_pages (table_in values) root x.first page (λ p. None)
    rear-table =
        let ends = sound_x.last_is in
        let most : x.first + (page - x.first) ≡ page = omega arith in
        taken-tail (table_in values) root x shown page low (omega arith) ∙ ap (λ k. with_pages (table_in values) root x.first k (λ p. None)) most

    front-table : with_piece (without_piece (table_in values) root x) root front ≡ with_pages (table_in values) root page (last + 1) (λ p. None)
    front-table =
        let ends = sound_x.last_is in
        taken-head (table_in values) root x shown page low (omega arith) ∙ ap (λ k. with_pages (table_in values) root page k (λ p. None)) ends

    rear_sound : IsSound root last rear
    rear_sound = tail-sound root last x sound_x page (omega arith) high

    front_sound : IsSound root (page - 1) front
    front_sound = head-sound root last x sound_x page low high

    -- its last pages stay
    pub keep-tail : (y : Piece) → y ≡ rear → (b : Inside)
        → values_of b.pieces ≡ with_pair values root last (Some y)
        → extents_of b.taken ≡ with_pair (with_pair taken l x.first None) l page (Some (record { count = last + 1 - page; value = None }))
        → LosesPages now b root x.first page
    keep-tail y y_is b is_pieces is_taken =
        let ends = sound_x.last_is in
        let same = in-index.2 in
        let index = piece-split taken apart l x.first in-index.0 in-index.1 None refl page (last + 1 - page) (omega arith) (omega arith) (extents_of b.taken) is_taken in
        let new : values_of b.pieces ≡ with_pair (with_pair values root last None) root last (Some rear) =
        is_pieces ∙ (ap (λ (z : Piece). with_pair values root last (Some z)) y_is ∙ sym (with_pair-over values root last None (Some rear))) in
        let e : Extent Unit = record { count = last + 1 - page; value = tt } in
        record {
          are = sets b _ _ (ArePieces-back values h.pieces root last x is_x last rear rear_sound (omega arith) (omega arith))
              (AreListed-back values h.pieces root last x is_x last rear rear_sound (omega arith) (omega arith) (pieces_in taken) h.taken e (omega arith))
              new
              (index.0 ∙ ap (λ k. with_pair (with_pair (pieces_in taken) k x.first None) k page (Some e)) l_is);
          table = ap table_in new ∙ (table_in-back values h.pieces root last x is_x last rear rear_sound (omega arith) (omega arith)
              ∙ (rear-table ∙ ap (λ (m : Mappings). with_pages (table_of m) root x.first page (λ p. None)) seen));
          places = index.1 ∙ ap places_of seen;
        }

    -- its first pages stay
    pub keep-head : (y : Piece) → y ≡ front → (b : Inside) → (count : ℕ) → count ≡ page - x.first
        → values_of b.pieces ≡ with_pair (with_pair values root last None) root (page - 1) (Some y)
        → extents_of b.taken ≡ with_pair taken l x.first (Some (record { count = count; value = None }))
        → LosesPages now b root page (last + 1)
    keep-head y y_is b count count_is is_pieces is_taken =
        let ends = sound_x.last_is in
        let same = in-index.2 in
        let some = sound_x.some in
        let index = piece-shorter taken apart l x.first in-index.0 in-index.1 count (extents_of b.taken) is_taken (omega arith) in
        let new : values_of b.pieces ≡ with_pair (with_pair values root last None) root (page - 1) (Some front) =
        is_pieces ∙ ap (λ (z : Piece). with_pair (with_pair values root last None) root (page - 1) (Some z)) y_is in
        let e : Extent Unit = record { count = count; value = tt } in
        record {
          are = sets b _ _ (ArePieces-back values h.pieces root last x is_x (page - 1) front front_sound (omega arith) (omega arith))
              (AreListed-back values h.pieces root last x is_x (page - 1) front front_sound (omega arith) (omega arith) (pieces_in taken) h.taken e count_is)
              new
              (index.0 ∙ (ap (λ k. with_pair (pieces_in taken) k x.first (Some e)) l_is ∙ sym (with_pair-over (pieces_in taken) (list_number x.entry.region.0 root) x.first None (Some e))));
          table = ap table_in new ∙ (table_in-back values h.pieces root last x is_x (page - 1) front front_sound (omega arith) (omega arith)
              ∙ (front-table ∙ ap (λ (m : Mappings). with_pages (table_of m) root page (last + 1) (λ p. None)) seen));
          places = index.1 ∙ ap places_of seen;
        }

  -- both its ends stay
  pub keep-ends : (page end : ℕ) → x.first < page → page ≤ end → end ≤ last → (y z : Piece) → y ≡ piece_until x page → z ≡ piece_from x end → (b : Inside)
      → values_of b.pieces ≡ with_pair (with_pair values root last (Some z)) root (page - 1) (Some y)
      → extents_of b.taken ≡ with_pair (with_pair taken l x.first (Some (record { count = page - x.first; value = None }))) l end (Some (record { count = last + 1 - end; value = None }))
      → LosesPages now b root page end
  keep-ends page end low mid high y z y_is z_is b is_pieces is_taken =
      let ends = sound_x.last_is in
      let same = in-index.2 in
      let index = piece-split taken apart l x.first in-index.0 in-index.1 (Some (record { count = page - x.first; value = None })) refl end (last + 1 - end) (omega arith) (omega arith) (extents_of b.taken) is_taken in
      let new : values_of b.pieces ≡ with_pair (with_pair (with_pair values root last None) root last (Some (piece_from x end))) root (page - 1) (Some (piece_until x page)) =
      is_pieces ∙ (ap (λ (w : Piece). with_pair (with_pair values root last (Some w)) root (page - 1) (Some y)) z_is
      ∙ (ap (λ (w : Piece). with_pair (with_pair values root last (Some (piece_from x end))) root (page - 1) (Some w)) y_is
      ∙ ap (λ (m : ℕ → ℕ → Option Piece). with_pair m root (page - 1) (Some (piece_until x page))) (sym (with_pair-over values root last None (Some (piece_from x end)))))) in
      let d : Extent Unit = record { count = page - x.first; value = tt } in
      let e : Extent Unit = record { count = last + 1 - end; value = tt } in
      record {
        are = sets b _ _ (ArePieces-both values h.pieces root last x is_x page end low mid high)
            (AreListed-both values h.pieces root last x is_x page end low mid high (pieces_in taken) h.taken d e refl refl)
            new
            (index.0 ∙ ap (λ k. with_pair (with_pair (pieces_in taken) k x.first (Some d)) k end (Some e)) l_is);
        table = ap table_in new ∙ (table_in-both values h.pieces root last x is_x page end low mid high
            ∙ (ends-table (table_in values) root x shown page end low mid (omega arith) ∙ ap (λ (m : Mappings). with_pages (table_of m) root page end (λ p. None)) seen));
        places = index.1 ∙ ap places_of seen;
      }

-- ---- a piece gets other permissions

module _ (a : Inside) (h : AreMappings a) (now : Mappings) (seen : mappings_of a ≡ now) (root last : ℕ) (x : Piece) (there : values_of now.pieces root last ≡ Some x)
    (perm : Perm) (y : Piece) (y_is : y ≡ piece_with_perm x perm) (b : Inside) (is_pieces : values_of b.pieces ≡ with_pair (values_of a.pieces) root last (Some y)) where
  is_held : values_of a.pieces root last ≡ Some x
  is_held = ap (λ (m : Mappings). values_of m.pieces root last) seen ∙ there

  abbrev other : Piece
  other = piece_with_perm x perm

  sound_held : IsSound root last x
  sound_held = h.pieces.sound root last x is_held

  sound_other : IsSound root last other
  sound_other = record {
    root_below = sound_held.root_below;
    region_below = sound_held.region_below;
    some = sound_held.some;
    last_is = sound_held.last_is;
    end = sound_held.end;
    pages = sound_held.pages;
  }

  is_new : values_of b.pieces ≡ with_pair (with_pair (values_of a.pieces) root last None) root last (Some other)
  is_new = is_pieces ∙ (ap (λ (z : Piece). with_pair (values_of a.pieces) root last (Some z)) y_is ∙ sym (with_pair-over (values_of a.pieces) root last None (Some other)))

  -- its extent stays
  still_listed : (list : ℕ → ℕ → Option (Extent Unit)) → AreListed (values_of a.pieces) list → AreListed (with_pair (with_pair (values_of a.pieces) root last None) root last (Some other)) list
  still_listed list g =
      let found = g.listed root last x is_held in
      subst (AreListed (with_pair (with_pair (values_of a.pieces) root last None) root last (Some other)))
      (with_pair-over list (list_number x.entry.region.0 root) x.first None (Some found.0) ∙ with_pair-kept list (list_number x.entry.region.0 root) x.first (Some found.0) found.1)
      (AreListed-back (values_of a.pieces) h.pieces root last x is_held last other sound_other (omega arith) (omega arith) list g found.0 found.2)

  pub restricted-set : extents_of b.taken ≡ extents_of a.taken → AreMappings b
  restricted-set is_taken =
      sets b _ _ (ArePieces-back (values_of a.pieces) h.pieces root last x is_held last other sound_other (omega arith) (omega arith))
      (still_listed (pieces_in (extents_of a.taken)) h.taken) is_new (ap pieces_in is_taken)

  pub restricted-table : (at : ℕ) → x.first ≡ at → table_of (mappings_of b) ≡ with_pages (table_of now) root at (last + 1) (with_perm perm (table_of now root))
  restricted-table at begins =
      let ends = sound_held.last_is in
      ap table_in is_new ∙ (table_in-back (values_of a.pieces) h.pieces root last x is_held last other sound_other (omega arith) (omega arith)
      ∙ (taken-perm (table_in (values_of a.pieces)) root x (λ p low high. table_in-at (values_of a.pieces) h.pieces root last x p is_held low (omega arith)) perm other refl at (last + 1) (sym begins) (sym ends)
      ∙ ap (λ (m : Mappings). with_pages (table_of m) root at (last + 1) (with_perm perm (table_of m root))) seen))
