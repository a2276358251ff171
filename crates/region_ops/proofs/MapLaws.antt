-- Laws of a mapping: what it may be changed to, and what it is to put its piece into an address space: which VMOs are live then, and
-- how many pages show each.
use Rattle.std.proofs.Common.{◌≡◌, ◌≢◌, ℕ, ◌+◌, ◌-◌, ◌%◌, ◌<◌, ◌≤◌, ◌^◌, bit_and, Bool, true, false, cond, ◌&&◌, ◌==◌, Option, None, IsSome, refl, sym, ap, subst, ◌∙◌, inl, inr, arith}
use Rattle.std.proofs.lemmas.Bool.{eqb-true, eqb-false, cases_Bool, cases_eq, cond-true, cond-false}
use Rattle.std.proofs.lemmas.Nat.{and-not, and_comm, and_mod, and_le_r}
use Rattle.bitflags.specs.Sets.{without}
use Rattle.vm_base.specs.declared.limits.TheConstants.{NAMES, ROOT_END}
use Rattle.vm_base.specs.declared.names.Koid.{Koid}
use Rattle.vm_base.proofs.EntryLaws.{any_entry_at}
use Rattle.vm_base.proofs.SearchLaws.{eqb_same}
use Rattle.vm_model.specs.Contents.Content.{Content}
use Rattle.vm_model.specs.Contents.Zeroing.{is_within}
use Rattle.vm_model.specs.declared.names.Target.{Target}
use Rattle.vm_model.specs.Naming.Names.{is_named, is_of, Lineage}
use Rattle.vm_model.specs.declared.space.Entry.{Entry}
use Rattle.vm_model.specs.Space.Rights.{has, writing}
use Rattle.vm_model.specs.Space.Table.{with_pages, mapping_from}
use Rattle.vm_model.specs.Space.AddressSpaces.{Spaces, is_mapped, mapped_count}
use Rattle.vm_model.specs.Machine.State.{State, is_live}
use Rattle.vm_model.specs.Machine.Leaving.{pruned}
use Rattle.vm_model.proofs.LiveLaws.{is_live-named, is_live-same}
use Rattle.vm_model.proofs.LeavingLaws.{name_lineage}
use Rattle.vm_model.proofs.SpaceLaws.{mapped_count_le}
use Rattle.vm_model.proofs.TableLaws.{with_pages-in, with_pages-out}
use Rattle.vmo_table.specs.Table.{Vmos, names_of, lineage_in, keepers_of, CountsKeepers, IsWellCounted}
use Rattle.mapping_set.specs.declared.piece.Piece.{Piece}
use Rattle.mapping_set.specs.Tables.{with_piece, without_piece, IsBare}
use Rattle.region_ops.specs.Spaces.{with_entries, LetsGo}
use Rattle.region_ops.specs.inside.Mapping.{IsPuttable}
use Rattle.region_ops.proofs.CountLaws.{IsPieceMore, mapped_count-more, is_mapped-more}
use Rattle.region_ops.proofs.PrunedLaws.{pruned-alike}
use Rattle.vm_model.proofs.PinLaws.{pin_count_le}

-- ---- permissions

-- a set of permissions once writing is taken out
pub without_bit : (caps : ℕ) → caps < 2 ^ 32 → without 32 caps writing ≡ cond (has caps writing) (caps - writing) caps
without_bit caps h = elim (cases_Bool (has caps writing)) [
  | inl writes ↦
      let both = eqb-true (bit_and caps writing) writing writes in
      let is : without 32 caps writing ≡ caps - writing = omega (arith, split, both, turned, other) in is ∙ sym (cond-true (has caps writing) (caps - writing) caps writes)
  | inr off ↦
      let apart = eqb-false (bit_and caps writing) writing off in
      let is : without 32 caps writing ≡ caps = omega (arith, split, turned, other, apart, and_mod caps 2 1, and_le_r (caps % 2) 0, and_le_r caps 2) in is ∙ sym (cond-false (has caps writing) (caps - writing) caps off)
] where
  split : bit_and (2 ^ 32 - 1 - writing) caps + bit_and writing caps ≡ caps
  split = and-not 32 writing caps (omega arith) h

  turned : bit_and caps writing ≡ bit_and writing caps
  turned = and_comm caps writing

  other : bit_and caps (2 ^ 32 - 1 - writing) ≡ bit_and (2 ^ 32 - 1 - writing) caps
  other = and_comm caps (2 ^ 32 - 1 - writing)

-- ---- entries of a range that is cleared

cond_twice : {A : Type 0} (b : Bool) (x y z : A) → cond b x (cond b y z) ≡ cond b x z
cond_twice true x y z = refl
cond_twice false x y z = refl

-- a piece overwrites what is taken out of its place
pub with_piece-cleared : (table : ℕ → ℕ → Option Entry) (root : ℕ) (piece : Piece) → with_piece (without_piece table root piece) root piece ≡ with_piece table root piece
unfolding with_pages
with_piece-cleared table root piece = λ i r p.
    cond_twice ((r == root) && is_within piece.first (piece.first + piece.count) p) (mapping_from piece.first piece.entry p) None (table r p) i

-- ---- one piece more

module _ (spaces : Spaces) (root : ℕ) (piece : Piece) (space : root < NAMES) (end : piece.first + piece.count ≤ ROOT_END)
    (bare : IsBare (spaces.table root) piece.first (piece.first + piece.count)) where
  -- the spaces with the piece
  abbrev more : Spaces
  more = record spaces { table = with_piece spaces.table root piece }

  put : IsPieceMore spaces.table more.table root piece
  put = record {
    space = space;
    end = end;
    bare = bare;
    shown = with_pages-in spaces.table root piece.first (piece.first + piece.count) (mapping_from piece.first piece.entry);
    others = λ r p out. sym (with_pages-out spaces.table root piece.first (piece.first + piece.count) (mapping_from piece.first piece.entry) r p out);
  }

  -- as many pages more show its VMO, and of the others as many as before
  pub mapped_count-put : (v : ℕ) → mapped_count more v ≡ mapped_count spaces v + cond (v == piece.entry.koid.0) piece.count 0
  mapped_count-put v = sym (mapped_count-more spaces more put v)

  -- the other VMOs are as mapped as before
  pub is_mapped-put : (v : ℕ) → v ≢ piece.entry.koid.0 → is_mapped more v ≡ is_mapped spaces v
  is_mapped-put v apart = sym (is_mapped-more spaces more put v apart)

-- The VMO of the piece is named. So the same VMOs are live with the piece as without it, and the same leave.
pub pruned-put : (s : State) (root : ℕ) (piece : Piece) → root < NAMES → piece.first + piece.count ≤ ROOT_END → IsBare (s.spaces.table root) piece.first (piece.first + piece.count)
    → is_named s.names piece.entry.koid.0 ≡ true
    → record (pruned s) { spaces = record s.spaces { table = with_piece s.spaces.table root piece } } ≡ pruned (record s { spaces = record s.spaces { table = with_piece s.spaces.table root piece } })
unfolding pruned
pruned-put s root piece space end bare named = sym (pruned-alike s with_it refl alike refl) where
  with_it : State
  with_it = record s { spaces = record s.spaces { table = with_piece s.spaces.table root piece } }

  alike : (v : ℕ) → is_live with_it v ≡ is_live s v
  alike v = elim (cases_eq v piece.entry.koid.0) [
    | inl same ↦ ap (is_live with_it) same ∙ (is_live-named with_it piece.entry.koid.0 named ∙ sym (ap (is_live s) same ∙ is_live-named s piece.entry.koid.0 named))
    | inr apart ↦ is_live-same s with_it v refl refl (is_mapped-put s.spaces root piece space end bare v apart)
  ]

-- ---- a piece that is put where entries were taken out

module _ (s : State) (c : Content) (vmos : Vmos) (table : ℕ → ℕ → Option Entry) (d : Content) (cleared : Vmos) (left : ℕ → ℕ → Option Entry) (root : ℕ) (piece : Piece) (overwriting : Bool)
    (well : IsWellCounted vmos (with_entries s c vmos table)) (gone : LetsGo c vmos table d cleared left) (may : IsPuttable (names_of vmos) table root piece overwriting)
    (is : left ≡ without_piece table root piece) where
  abbrev after : State
  after = with_entries s d cleared left

  after_well : IsWellCounted cleared after
  after_well = gone.well s well

  names_left : names_of cleared ≡ names_of vmos
  unfolding pruned
  names_left = ap (λ (t : State). t.names) (gone.gone s well)

  -- the VMO of the piece is there
  pub put_vmo : IsSome (lineage_in cleared piece.entry.koid.0)
  put_vmo =
      subst (λ (koid : Koid). IsSome (lineage_in cleared koid.0)) may.koid
      (name_lineage after may.named.0 may.target after_well.good (ap (λ (f : ℕ → Option Target). f may.named.0) names_left ∙ may.named.1))

  -- its keepers are counted by 128 bits
  pub put_few : keepers_of cleared piece.entry.koid.0 + piece.count < 2 ^ 128
  put_few =
      let counted = after_well.counted piece.entry.koid.0 in
      omega (arith, counted, pin_count_le s.pins piece.entry.koid.0, mapped_count_le after.spaces piece.entry.koid.0, may.end)

  -- nothing is mapped on its pages
  pub put_bare : IsBare (left root) piece.first (piece.first + piece.count)
  put_bare p low high = ap (λ (f : ℕ → ℕ → Option Entry). f root p) is ∙ with_pages-in table root piece.first (piece.first + piece.count) (λ q. None) p low high

  put_named : is_named (names_of vmos) piece.entry.koid.0 ≡ true
  put_named =
      let n = may.named.0 in
      subst (λ (koid : Koid). is_named (names_of vmos) koid.0 ≡ true) may.koid
      (any_entry_at NAMES (is_of may.target.koid.0) (names_of vmos) n may.target (well.good.names n may.target may.named.1).0 may.named.1 (eqb_same may.target.koid.0))

  module _ (kept : Vmos) (new : ℕ → ℕ → Option Entry) (names : names_of kept ≡ names_of cleared) (lineage : lineage_in kept ≡ lineage_in cleared)
      (keepers : (v : ℕ) → keepers_of kept v ≡ keepers_of cleared v + cond (v == piece.entry.koid.0) piece.count 0) (put : new ≡ with_piece left root piece) where
    -- the state is that with the piece in place of what was there, without the VMOs that left
    pub put_state : with_entries s d kept new ≡ pruned (with_entries s c vmos (with_piece table root piece))
    unfolding pruned
    put_state =
        (λ i. with_fields d (names i) (lineage i) (put i))
        ∙ (ap (λ (t : State). record t { spaces = record s.spaces { table = with_piece left root piece } }) (gone.gone s well)
        ∙ (pruned-put (with_entries s c vmos left) root piece may.space may.end put_bare put_named
        ∙ ap (λ (f : ℕ → ℕ → Option Entry). pruned (with_entries s c vmos f)) (ap (λ (f : ℕ → ℕ → Option Entry). with_piece f root piece) is ∙ with_piece-cleared table root piece))) where
          with_fields : Content → (ℕ → Option Target) → (ℕ → Option Lineage) → (ℕ → ℕ → Option Entry) → State
          with_fields a n l f = record s { content = a; names = n; lineage = l; spaces = record s.spaces { table = f } }

    -- and the table of VMOs counts right what keeps each
    pub put_counted : CountsKeepers kept (with_entries s d kept new)
    put_counted v =
        let more = mapped_count-put after.spaces root piece may.space may.end put_bare v in
        let same : mapped_count (record s.spaces { table = new }) v ≡ mapped_count (record s.spaces { table = with_piece left root piece }) v =
        ap (λ (f : ℕ → ℕ → Option Entry). mapped_count (record s.spaces { table = f }) v) put in
        omega (arith, keepers v, after_well.counted v, more, same)
