-- The set where a piece comes or goes, in the words of its fields.
use Rattle.std.proofs.Common.{◌≡◌, ℕ, ◌+◌, ◌-◌, ◌<◌, ◌≤◌, Option, None, Some, sym, ap, subst, ◌∙◌, arith}
use Rattle.vm_base.specs.declared.limits.TheConstants.{NAMES, PAGES_END}
use Rattle.balanced_tree.specs.Pairs.{with_pair}
use Rattle.pair_map.specs.declared.stretch_row.Extent.{Extent}
use Rattle.pair_map.specs.Maps.{IsOpen, values_of, extents_of}
use Rattle.mapping_set.specs.declared.piece.Piece.{Piece}
use Rattle.mapping_set.specs.declared.mapping_set.MappingSet.TheInside.{Inside}
use Rattle.mapping_set.specs.Pieces.{list_number, table_in, IsSound, ArePieces, AreListed}
use Rattle.mapping_set.specs.inside.SetFields.{mappings_of, AreMappings}
use Rattle.mapping_set.specs.inside.Taken.{pieces_in}
use Rattle.mapping_set.specs.Tables.{Mappings, places_in, places_of, table_of, with_piece, without_piece, IsBare, IsPieceOf}
use Rattle.mapping_set.proofs.TableLaws.{shown_whole}
use Rattle.mapping_set.proofs.TakenLaws.{open-both}
use Rattle.mapping_set.proofs.PieceLaws.{none_there, ArePieces-more, table_in-more, open_there, AreListed-more, ArePieces-less, table_in-less, AreListed-less}

module _ (a : Inside) (h : AreMappings a) (now : Mappings) (seen : mappings_of a ≡ now) (root n l : ℕ) (n_is : n ≡ root) (x : Piece) (l_is : l ≡ list_number x.entry.region.0 root) where
  abbrev values : ℕ → ℕ → Option Piece
  values = values_of a.pieces

  abbrev index : ℕ → ℕ → Option (Extent Unit)
  index = pieces_in (extents_of a.taken)

  -- a piece comes
  module _ (below : (x.entry.region.0 < NAMES) × (root < NAMES)) (some : 1 ≤ x.count) (end : x.first + x.count ≤ PAGES_END)
      (pages : x.entry.page + x.count ≤ PAGES_END) (bare : IsBare (table_of now root) x.first (x.first + x.count)) where
    sound : IsSound root (x.first + x.count - 1) x
    sound = record {
      root_below = below.1;
      region_below = below.0;
      some = some;
      last_is = omega arith;
      end = omega arith;
      pages = pages;
    }

    bare_inside : IsBare (table_in values root) x.first (x.first + x.count)
    bare_inside = subst (λ (m : Mappings). IsBare (table_of m root) x.first (x.first + x.count)) (sym seen) bare

    pub absent : values n (x.first + x.count - 1) ≡ None
    absent = ap (λ k. values k (x.first + x.count - 1)) n_is ∙ none_there values h.pieces root (x.first + x.count - 1) x sound bare_inside

    free-index : IsOpen (index l) x.first x.count
    free-index =
        subst (λ k. IsOpen (index k) x.first x.count) (sym l_is)
        (open_there values h.pieces root (x.first + x.count - 1) x sound bare_inside index h.taken)

    -- where no place was noted there, nothing is taken there
    pub open-index : IsOpen (places_of now (list_number x.entry.region.0 root)) x.first x.count → IsOpen (extents_of a.taken l) x.first x.count
    open-index vacant =
        open-both (extents_of a.taken) l x.first x.count free-index
        (subst (λ k. IsOpen (places_in (extents_of a.taken) k) x.first x.count) (sym l_is)
        (subst (λ (m : Mappings). IsOpen (places_of m (list_number x.entry.region.0 root)) x.first x.count) (sym seen) vacant))

    module _ (b : Inside) (put : values_of b.pieces ≡ with_pair values n (x.first + x.count - 1) (Some x)) where
      put_is : values_of b.pieces ≡ with_pair values root (x.first + x.count - 1) (Some x)
      put_is = put ∙ ap (λ k. with_pair values k (x.first + x.count - 1) (Some x)) n_is

      pub AreMappings-more : (e : Extent Unit) → e.count ≡ x.count → pieces_in (extents_of b.taken) ≡ with_pair index l x.first (Some e) → AreMappings b
      AreMappings-more e count_is taken = record {
        pieces = subst ArePieces (sym put_is) (ArePieces-more values h.pieces root (x.first + x.count - 1) x sound bare_inside);
        taken = subst (λ m. AreListed m (pieces_in (extents_of b.taken))) (sym put_is) (subst (AreListed (with_pair values root (x.first + x.count - 1) (Some x)))
            (sym (taken ∙ ap (λ k. with_pair index k x.first (Some e)) l_is))
            (AreListed-more values h.pieces root (x.first + x.count - 1) x sound bare_inside index h.taken e count_is));
      }

      pub table-more : table_of (mappings_of b) ≡ with_piece (table_of now) root x
      table-more =
          ap table_in put_is ∙ (table_in-more values h.pieces root (x.first + x.count - 1) x sound bare_inside
          ∙ ap (λ (m : Mappings). with_piece (table_of m) root x) seen)

  -- a piece goes
  module _ (last : ℕ) (is : values n last ≡ Some x) where
    is_root : values root last ≡ Some x
    is_root = ap (λ k. values k last) (sym n_is) ∙ is

    pub whole : IsPieceOf (table_of now root) x
    whole = subst (λ (m : Mappings). IsPieceOf (table_of m root) x) seen (shown_whole values h.pieces root last x is_root)

    pub last_is : x.first + x.count ≡ last + 1
    last_is = (h.pieces.sound root last x is_root).last_is

    -- it is in the list of what is taken, under its first page
    pub in-index : (e : Extent Unit) × (index l x.first ≡ Some e) × (e.count ≡ x.count)
    in-index = let found = h.taken.listed root last x is_root in (found.0, ap (λ k. index k x.first) l_is ∙ found.1, found.2)

    module _ (b : Inside) (taken : values_of b.pieces ≡ with_pair values n last None) where
      taken_is : values_of b.pieces ≡ with_pair values root last None
      taken_is = taken ∙ ap (λ k. with_pair values k last None) n_is

      pub AreMappings-less : pieces_in (extents_of b.taken) ≡ with_pair index l x.first None → AreMappings b
      AreMappings-less less = record {
        pieces = subst ArePieces (sym taken_is) (ArePieces-less values h.pieces root last x is_root);
        taken = subst (λ m. AreListed m (pieces_in (extents_of b.taken))) (sym taken_is) (subst (AreListed (with_pair values root last None))
            (sym (less ∙ ap (λ k. with_pair index k x.first None) l_is)) (AreListed-less values h.pieces root last x is_root index h.taken));
      }

      pub table-less : (y : Piece) → values_of now.pieces root last ≡ Some y → table_of (mappings_of b) ≡ without_piece (table_of now) root y
      table-less y found =
          ap table_in taken_is
          ∙ (table_in-less values h.pieces root last y (ap (λ (m : Mappings). values_of m.pieces root last) seen ∙ found)
          ∙ ap (λ (m : Mappings). without_piece (table_of m) root y) seen)
