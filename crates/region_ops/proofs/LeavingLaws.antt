-- Entries go from address spaces, and with each of them a keeper of its VMO.
use Rattle.std.proofs.Common.{◌≡◌, ℕ, ◌+◌, ◌≤◌, Bool, true, cond, ◌==◌, Option, refl, sym, ap, subst, ◌∙◌, inl, inr, arith}
use Rattle.std.specs.Prelude.{IsSome, IfSome, MatchOption}
use Rattle.vm_base.specs.declared.names.Koid.{Koid}
use Rattle.vm_base.specs.declared.limits.TheConstants.{NAMES, ROOT_END}
use Rattle.vm_base.proofs.EntryLaws.{passes_found, passes-some}
use Rattle.vm_base.proofs.SearchLaws.{any_below_found, any_below_at, eqb_same}
use Rattle.vm_model.specs.Contents.Content.{Content}
use Rattle.vm_model.specs.Contents.Sharing.{without}
use Rattle.vm_model.specs.declared.names.Target.{Target}
use Rattle.vm_model.specs.declared.space.Entry.{Entry}
use Rattle.vm_model.specs.Naming.Names.{Lineage}
use Rattle.vm_model.specs.Naming.Pins.{pin_count}
use Rattle.vm_model.specs.Space.AddressSpaces.{Spaces, shows, is_mapped, mapped_count}
use Rattle.vm_model.specs.Machine.State.{State, is_live, IsGoodState}
use Rattle.vm_model.specs.Machine.Leaving.{pruned}
use Rattle.vm_model.proofs.LiveLaws.{is_live_cases, is_live-named, is_live-pinned, is_live-mapped, is_live-same}
use Rattle.vm_model.proofs.LeavingLaws.{lineage_at, pruned-good, Loosens, LoosensAt, Loosens-spaces, IsLoose, IsLoose-from, IsGoodState-pruned}
use Rattle.vmo_table.specs.Table.{Vmos, Settles, IsWellCounted, names_of, lineage_in, keepers_of}
use Rattle.vmo_table.proofs.SettleLaws.{leaving_vmo, settled_pruned}
use Rattle.mapping_set.specs.declared.piece.Piece.{Piece}
use Rattle.mapping_set.specs.Tables.{without_piece, IsPieceOf}
use Rattle.region_ops.specs.Spaces.{with_entries, AreWell, LetsGo}
use Rattle.region_ops.specs.inside.Leaving.{IsTaken}
use Rattle.region_ops.proofs.CountLaws.{HasLess, HasLess-piece, AreGoodSpaces-less, mapped_count-piece, is_mapped-piece, piece_vmo}
use Rattle.region_ops.proofs.PrunedLaws.{pruned-twice_spaces}

-- ---- less entries

-- what is mapped with less entries is mapped
is_mapped-less : (spaces : Spaces) (table : ℕ → ℕ → Option Entry) (v : ℕ) → HasLess spaces.table table → is_mapped (record spaces { table = table }) v ≡ true → is_mapped spaces v ≡ true
unfolding is_mapped
is_mapped-less spaces table v less mapped =
    let under = any_below_found NAMES _ mapped in
    let at = any_below_found ROOT_END _ under.2 in
    let entry = passes_found (shows v) (table under.0 at.0) at.2 in
    any_below_at NAMES under.0 _ under.1
    (any_below_at ROOT_END at.0 _ at.1 (passes-some (shows v) (spaces.table under.0 at.0) entry.0 (less under.0 at.0 entry.0 entry.1) ∙ entry.2))

-- the state with other entries
abbrev pub with_table : State → (ℕ → ℕ → Option Entry) → State
with_table s table = record s { spaces = record s.spaces { table = table } }

module _ (s : State) (table : ℕ → ℕ → Option Entry) (less : HasLess s.spaces.table table) where
  -- less entries keep less live
  pub is_live-less : (v : ℕ) → is_live (with_table s table) v ≡ true → is_live s v ≡ true
  is_live-less v live = elim (is_live_cases (with_table s table) v live) [
    | inl named ↦ is_live-named s v named
    | inr (inl pinned) ↦ is_live-pinned s v pinned
    | inr (inr mapped) ↦ is_live-mapped s v (is_mapped-less s.spaces table v less mapped)
  ]

  -- and a good state stays good, but that VMOs of it may not be live
  pub Loosens-less : IsGoodState s → Loosens s (with_table s table)
  Loosens-less good = Loosens-spaces s (record s.spaces { table = table }) (AreGoodSpaces-less s.content s.spaces good.spaces table less)

  pub IsLoose-less : IsGoodState s → IsLoose (with_table s table)
  IsLoose-less good = IsLoose-from s (with_table s table) good (Loosens-less good)

-- ---- what goes in steps

module _ (c : Content) (vmos : Vmos) (table : ℕ → ℕ → Option Entry) where
  -- nothing goes
  pub LetsGo-same : LetsGo c vmos table c vmos table
  LetsGo-same = record { gone = λ s is. sym (pruned-good (with_entries s c vmos table) is.good); well = λ s is. is }

  -- what goes after what went
  pub LetsGo-next : (d : Content) (after : Vmos) (less : ℕ → ℕ → Option Entry) (e : Content) (last : Vmos) (least : ℕ → ℕ → Option Entry)
      → HasLess table less → HasLess less least → LetsGo c vmos table d after less → LetsGo d after less e last least → LetsGo c vmos table e last least
  unfolding pruned
  LetsGo-next d after less e last least fewer fewest first next = record {
    gone = λ s is.
        next.gone s (first.well s is)
        ∙ (ap (λ (t : State). pruned (with_table t least)) (first.gone s is)
        ∙ pruned-twice_spaces (with_entries s c vmos less) (record s.spaces { table = least }) (IsLoose-less (with_entries s c vmos table) less fewer is.good)
        (λ v live. is_live-less (with_entries s c vmos less) least fewest v live));
    well = λ s is. next.well s (first.well s is);
  }

  -- the parts are good after it
  pub AreWell-gone : (d : Content) (after : Vmos) (less : ℕ → ℕ → Option Entry) → AreWell c vmos table → LetsGo c vmos table d after less → AreWell d after less
  AreWell-gone d after less well gone = record { rest = well.rest; well = gone.well well.rest well.well }

-- ---- the entries of a piece

-- the entries of a piece keep its VMO alone
LoosensAt-piece : (s : State) (root : ℕ) (piece : Piece) → IsGoodState s → IsPieceOf (s.spaces.table root) piece
    → LoosensAt s (with_table s (without_piece s.spaces.table root piece)) piece.entry.koid.0
LoosensAt-piece s root piece good is = record {
  less = Loosens-less s (without_piece s.spaces.table root piece) (HasLess-piece s.spaces.table root piece) good;
  live = λ w apart. is_live-same s (with_table s (without_piece s.spaces.table root piece)) w refl refl (is_mapped-piece s.content s.spaces good.spaces root piece is w apart);
  vmo = lineage_at s piece.entry.koid.0 good (piece_vmo s.content s.spaces good.spaces root piece is);
}

module _ (c : Content) (vmos : Vmos) (piece : Piece) where
  -- its VMO has a keeper for each of its pages
  pub taken-keepers : IsTaken c vmos piece → piece.count ≤ keepers_of vmos piece.entry.koid.0
  taken-keepers taken =
      let s = with_entries taken.well.rest c vmos taken.table in
      let v = piece.entry.koid.0 in
      let own : ◌≡◌ {A = ℕ} (cond (v == v) piece.count 0) piece.count = ap (λ (b : Bool). cond {A = ℕ} b piece.count 0) (eqb_same v) in
      omega (arith, taken.well.well.counted v, mapped_count-piece c s.spaces taken.well.well.good.spaces taken.root piece taken.is v, own)

  -- what leaves is a VMO of the content
  pub taken-vmo : (names : ℕ → Option Target) (keepers : ℕ) (new : ℕ → Option Lineage) (answer : Option Koid) → IsTaken c vmos piece
      → Settles names keepers piece.entry.koid.0 (lineage_in vmos) new answer → IfSome answer (λ koid. IsSome (c.count koid.0))
  taken-vmo names keepers new answer taken settles =
      let s = with_entries taken.well.rest c vmos taken.table in
      leaving_vmo names keepers piece.entry.koid.0 (lineage_in vmos) new c answer (piece_vmo c s.spaces taken.well.well.good.spaces taken.root piece taken.is) settles

  -- Once its VMO has so many keepers less, and left where nothing keeps it any more, the entries of the piece went.
  pub LetsGo-piece : (table : ℕ → ℕ → Option Entry) (root : ℕ) → IsPieceOf (table root) piece → (d : Content) (after : Vmos) (answer : Option Koid)
      → names_of after ≡ names_of vmos → ((v : ℕ) → keepers_of after v + cond (v == piece.entry.koid.0) piece.count 0 ≡ keepers_of vmos v)
      → Settles (names_of vmos) (keepers_of after piece.entry.koid.0) piece.entry.koid.0 (lineage_in vmos) (lineage_in after) answer
      → MatchOption answer (d ≡ c) (λ koid. d ≡ without c koid.0)
      → LetsGo c vmos table d after (without_piece table root piece)
  LetsGo-piece table root is d after answer names keepers settles content = record {
    gone = gone;
    well = λ s well. record {
      good = subst IsGoodState (sym (gone s well))
          (IsGoodState-pruned (with_entries s c vmos less) (IsLoose-less (with_entries s c vmos table) less (HasLess-piece table root piece) well.good));
      counted = λ v. left s well v;
    };
  } where
    less : ℕ → ℕ → Option Entry
    less = without_piece table root piece

    -- the keepers that are left are those that the state counts
    left : (s : State) → IsWellCounted vmos (with_entries s c vmos table) → (v : ℕ) → keepers_of after v ≡ pin_count s.pins v + mapped_count (record s.spaces { table = less }) v
    left s well v = omega (arith, well.counted v, keepers v, mapped_count-piece c (record s.spaces { table = table }) well.good.spaces root piece is v)

    gone : (s : State) → IsWellCounted vmos (with_entries s c vmos table) → with_entries s d after less ≡ pruned (with_entries s c vmos less)
    gone s well =
        let old = with_entries s c vmos table in
        let t = with_entries s c vmos less in
        (λ i. record t { content = d; names = names i; lineage = lineage_in after })
        ∙ settled_pruned old t piece.entry.koid.0 well.good (LoosensAt-piece old root piece well.good is) (names_of vmos) refl (keepers_of after piece.entry.koid.0)
        (left s well piece.entry.koid.0) (lineage_in after) answer settles d content
