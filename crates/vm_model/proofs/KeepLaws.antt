-- Laws of what each kind of change keeps: a good state stays good.
use Rattle.std.proofs.Common.{◌≡◌, ◌≢◌, ℕ, ◌+◌, ◌-◌, ◌*◌, ◌/◌, ◌%◌, ◌<◌, ◌≤◌, Bool, true, false, not, List, length, Option, None, Some, refl, sym, ap, subst, ◌∙◌, inl, inr, arith, ◌==◌}
use Rattle.std.specs.Prelude.{unwrap_or, IsSome, is_some}
use Rattle.std.proofs.lemmas.Bool.{cases_eq, cases_lt, both_ways}
use Rattle.std.proofs.Math.Nat.{min-le_left}
use Rattle.vm_base.specs.declared.limits.TheConstants.{PAGE, VMO_PAGES, NAMES, PIN_PAGES}
use Rattle.vm_model.specs.declared.names.Origin.TheVariants.{Created, Snapshot}
use Rattle.vm_model.specs.Contents.Content.{Content, created, pages_of, IsGood}
use Rattle.vm_model.specs.Contents.Owning.{OwnsAll}
use Rattle.vm_model.specs.Contents.Sharing.{snapshotted}
use Rattle.vm_model.specs.Contents.Writing.{touched, pieces, Writes}
use Rattle.vm_model.specs.Contents.Zeroing.{zeroed, resized, Zeroes}
use Rattle.vm_base.specs.Entries.{with_key}
use Rattle.vm_model.specs.declared.names.Target.{Target}
use Rattle.vm_model.specs.Naming.Names.{Lineage, owner, is_named, is_of}
use Rattle.vm_model.specs.Naming.Pins.{Pin, has_pin, is_pinned, any_pinned}
use Rattle.vm_model.specs.declared.space.Region.{Region}
use Rattle.vm_model.specs.Space.AddressSpaces.{Spaces, is_mapped, with_region, AreGoodSpaces}
use Rattle.vm_model.specs.Machine.State.{State, is_open, is_live, target_of, lineage_of, name_pages, pinned_copies, IsGoodName, IsGoodPin, IsGoodState}
use Rattle.vm_model.specs.Machine.Leaving.{pruned}
use Rattle.vm_model.specs.Machine.Step.{with_vmo, seen_pages, with_snapshot, slice_of, reference_of, with_alias, ChangesContent}
use Rattle.vm_model.proofs.ContentLaws.{pages_of-at, IsGood-created, sole_held}
use Rattle.vm_model.proofs.SharingLaws.{koid_some}
use Rattle.vm_model.proofs.ZeroingLaws.{cases_zeroed, count-resized_here, count-resized_other, IsGood-resized}
use Rattle.vm_model.proofs.WritingLaws.{KeepsPages, Writes-keeps}
use Rattle.vm_model.proofs.CommitLaws.{OwnsAll-keeps, OwnsAll-alone_pages}
use Rattle.vm_model.proofs.CopyLaws.{CopiesKeep, CopiesKeep-from_owns}
use Rattle.vm_model.proofs.ZeroesLaws.{zeroed-keeps, Zeroes-keeps}
use Rattle.vm_model.proofs.SoleLaws.{KeepsSole, sole-created_kept, sole-zeroed_kept, sole-resized_kept}
use Rattle.vm_base.proofs.EntryLaws.{with_key-same, with_key-other, with_key-cases, any_entry-with_key_kept, any_entry-with_key_new}
use Rattle.vm_model.proofs.NamesLaws.{names-open, lineage_of-at, lineage_of-same}
use Rattle.vm_model.proofs.PinLaws.{is_pinned_of, any_pinned_at}
use Rattle.vm_model.proofs.LeavingLaws.{lineage_at, count_at, IsGoodName-same, Loosens, unnamed, unpinned, LoosensAt-unnamed, LoosensAt-unpinned, IsLoose-from, IsGoodState-pruned, next-pruned, frames-pruned}
use Rattle.vm_base.proofs.SearchLaws.{eqb_same}
use Rattle.vm_model.proofs.LiveLaws.{is_live-named, is_live-pinned, is_live-mapped, is_live_cases, is_live-same}
use Rattle.vm_model.proofs.SpaceLaws.{AreGoodSpaces-over}

-- ---- what a step keeps

-- new is good, has at most one koid more than old, and has its frames
pub record Keeps (old new : State) : Type 0 where
  pub good : IsGoodState new
  pub next : new.content.next ≤ old.content.next + 1
  pub frames : new.content.frames ≡ old.content.frames

-- where nothing changes
pub Keeps-same : (old new : State) → IsGoodState old → new ≡ old → Keeps old new
Keeps-same old new good e = subst (Keeps old) (sym e) (record { good = good; next = omega arith; frames = refl })

-- a VMO with a lineage is older than the next
pub lineage_below : (s : State) (v : ℕ) → IsGoodState s → IsSome (s.lineage v) → v < s.content.next
lineage_below s v good h = koid_some s.content v good.content (count_at s v good h)

-- a VMO stays live where names and pins of it stay, and the address spaces do
live_kept : (old new : State) (v : ℕ) → (is_named old.names v ≡ true → is_named new.names v ≡ true) → (has_pin old.pins v ≡ true → has_pin new.pins v ≡ true)
    → (is_mapped old.spaces v ≡ true → is_mapped new.spaces v ≡ true) → is_live old v ≡ true → is_live new v ≡ true
live_kept old new v names pins spaces e = elim (is_live_cases old v e) [
  | inl named ↦ is_live-named new v (names named)
  | inr other ↦ elim other [ inl pinned ↦ is_live-pinned new v (pins pinned) | inr mapped ↦ is_live-mapped new v (spaces mapped) ]
]

-- a name is as good in a state with the same counts and lineage
IsGoodName-kept : (old new : State) (target : Target) → new.content.count ≡ old.content.count → new.lineage ≡ old.lineage → IsGoodName old target → IsGoodName new target
IsGoodName-kept old new target count lineage good =
    IsGoodName-same old new target (ap (λ (f : ℕ → Option ℕ). f target.koid.0) count)
    (ap (λ (l : Lineage). l.resizable) (lineage_of-same new old target.koid.0 (ap (λ (f : ℕ → Option Lineage). f target.koid.0) lineage))) good

-- ---- what keeps pins good

module _ (old new : State) (good : IsGoodState old) (kept : KeepsSole (is_pinned old.pins) old.content new.content) where
  -- a pin stays good where its pages are still pages of its VMO
  pub IsGoodPin-inside : (n : ℕ) (pin : Pin) → old.pins n ≡ Some pin → IsSome (new.content.count pin.koid) → pin.first + pin.count ≤ pages_of new.content pin.koid → (n < NAMES) × IsGoodPin new pin
  IsGoodPin-inside n pin e vmo inside =
      let was = good.pins n pin e in (
        was.0,
        record {
          vmo = vmo;
          few = was.1.few;
          inside = inside;
          alone = λ p low high. kept pin.koid p (is_pinned_of old.pins n p pin was.0 e low high) (was.1.alone p low high);
        },
      )

  -- so it does where its VMO has as many pages
  pub IsGoodPin-kept : (n : ℕ) (pin : Pin) → old.pins n ≡ Some pin → new.content.count pin.koid ≡ old.content.count pin.koid → (n < NAMES) × IsGoodPin new pin
  unfolding pages_of
  IsGoodPin-kept n pin e count =
      let was = (good.pins n pin e).1 in
      let pages : pages_of new.content pin.koid ≡ pages_of old.content pin.koid = ap (λ (o : Option ℕ). unwrap_or o 0) count in
      IsGoodPin-inside n pin e (ap is_some count ∙ was.vmo) (omega (arith, was.inside, pages))

-- ---- a VMO more

-- A name that is not open, given to a VMO that is new. The parent of the VMO, where it has one, is a VMO
pub enter_keeps : (old : State) (c : Content) (name pages : ℕ) (may_write : Bool) (l : Lineage) → IsGoodState old → name < NAMES → is_open old name ≡ false
    → IsGood c → c.count old.content.next ≡ Some pages → ((v : ℕ) → v ≢ old.content.next → c.count v ≡ old.content.count v)
    → c.next ≡ old.content.next + 1 → c.frames ≡ old.content.frames → KeepsSole (is_pinned old.pins) old.content c → ((p : ℕ) → l.parent ≡ Some p → IsSome (old.lineage p))
    → Keeps old (record old { content = c; names = with_key old.names name (owner old.content.next may_write l.resizable); lineage = with_key old.lineage old.content.next l })
enter_keeps old c name pages may_write l good h closed fine new_count other_count next frames pinned parent =
    let koid = old.content.next in
    let fresh : Target = owner koid may_write l.resizable in
    let state : State = record old { content = c; names = with_key old.names name fresh; lineage = with_key old.lineage koid l } in
    let older : (v : ℕ) → IsSome (old.lineage v) → v ≢ koid = λ v there. let below = lineage_below old v good there in omega (arith, below) in
    let kept : (v : ℕ) → IsSome (old.lineage v) → IsSome (with_key old.lineage koid l v) = λ v there. ap is_some (with_key-other old.lineage koid l v (older v there)) ∙ there in
    let fresh_good : IsGoodName state fresh = record {
      vmo = ap is_some new_count;
      whole = λ e. refl;
      part = λ n e. absurd cc;
      resize = λ e. ap (λ (k : Lineage). k.resizable) (lineage_of-at state koid l (with_key-same old.lineage koid l)) ∙ e;
    } in
    record {
      good = record {
        content = fine;
        names = λ n target e. elim (with_key-cases old.names name fresh n target e) [
          | inl new ↦ (subst (λ (m : ℕ). m < NAMES) (sym new.0) h, subst (IsGoodName state) new.1 fresh_good)
          | inr was ↦
              let before = good.names n target was.1 in
              let apart : target.koid.0 ≢ koid = older target.koid.0 (lineage_at old target.koid.0 good before.1.vmo) in (
                before.0,
                IsGoodName-same old state target (other_count target.koid.0 apart)
                    (ap (λ (k : Lineage). k.resizable) (lineage_of-same state old target.koid.0 (with_key-other old.lineage koid l target.koid.0 apart))) before.1,
              )
        ];
        known = λ v. elim (cases_eq v koid) [
          | inl same ↦
              ap (λ (u : ℕ). is_some (with_key old.lineage koid l u)) same
              ∙ (ap is_some (with_key-same old.lineage koid l) ∙ sym (ap (λ (u : ℕ). is_some (c.count u)) same ∙ ap is_some new_count))
          | inr apart ↦ ap is_some (with_key-other old.lineage koid l v apart) ∙ (good.known v ∙ ap is_some (sym (other_count v apart)))
        ];
        live = λ v e. elim (cases_eq v koid) [
          | inl same ↦ ap (is_live state) same ∙ is_live-named state koid (any_entry-with_key_new NAMES (is_of koid) old.names name fresh h (eqb_same koid))
          | inr apart ↦
              live_kept old state v (λ named. any_entry-with_key_kept NAMES (is_of v) old.names name fresh closed named) (λ has. has) (λ mapped. mapped)
              (good.live v (ap is_some (sym (with_key-other old.lineage koid l v apart)) ∙ e))
        ];
        parents = λ v p k e f. elim (with_key-cases old.lineage koid l v k e) [
          | inl new ↦
              let there = parent p (ap (λ (j : Lineage). j.parent) new.1 ∙ f) in
              let below = lineage_below old p good there in
              (omega (arith, below, new.0), kept p there)
          | inr was ↦ let before = good.parents v p k was.1 f in (before.0, kept p before.1)
        ];
        pins = λ n pin e.
            let apart : pin.koid ≢ koid = older pin.koid (lineage_at old pin.koid good (good.pins n pin e).1.vmo) in
            IsGoodPin-kept old state good pinned n pin e (other_count pin.koid apart);
        spaces = AreGoodSpaces-over old.content old.spaces good.spaces c (λ root p entry e.
            let there = good.spaces.vmos root p entry e in
            ap is_some (other_count entry.koid.0 (older entry.koid.0 (lineage_at old entry.koid.0 good there))) ∙ there);
      };
      next = omega (arith, next);
      frames = frames;
    }

-- a new VMO, under a name that is not open
pub create_keeps : (old : State) (name pages : ℕ) (resizable : Bool) → IsGoodState old → name < NAMES → is_open old name ≡ false → pages ≤ VMO_PAGES → Keeps old (with_vmo old name pages resizable)
unfolding with_vmo created
create_keeps old name pages resizable good h closed few =
    let c = old.content in
    enter_keeps old (created c pages) name pages true (record { resizable = resizable; origin = Created; parent = None }) good h closed
    (IsGood-created c pages good.content few) (with_key-same c.count c.next pages) (λ v apart. with_key-other c.count c.next pages v apart) refl refl
    (λ w q pinned alone. sole-created_kept c pages w q good.content alone) (λ p e. absurd cc)

-- a snapshot sees no more pages than it has
pub seen_le : (c : Content) (target : Target) (start pages : ℕ) → seen_pages c target start pages ≤ pages
seen_le c target start pages = min-le_left pages (name_pages c target - start)

-- what owning its copies of pinned pages keeps
pub copies_keep : (old : State) (target : Target) (start pages : ℕ) (d : Content) → IsGood old.content → pages ≤ VMO_PAGES
    → OwnsAll (snapshotted old.content target.koid.0 (target.first + start) (seen_pages old.content target start pages) pages) old.content.next (pinned_copies old target start pages) d
    → CopiesKeep old.content target.koid.0 (target.first + start) (seen_pages old.content target start pages) pages (is_pinned old.pins target.koid.0) d
copies_keep old target start pages d good few owns =
    CopiesKeep-from_owns old.content target.koid.0 (target.first + start) (seen_pages old.content target start pages) pages (is_pinned old.pins target.koid.0) d good
    (seen_le old.content target start pages) few owns

-- a snapshot of what a name stands for, under a name that is not open, which owns its copies of pinned pages
pub snapshot_keeps : (old new : State) (name : ℕ) (target : Target) (start pages : ℕ) (resizable no_write : Bool) → IsGoodState old → name < NAMES → is_open old name ≡ false → IsSome (old.content.count target.koid.0) → pages ≤ VMO_PAGES
    → ChangesContent (with_snapshot old name target start pages resizable no_write) new
    → OwnsAll (with_snapshot old name target start pages resizable no_write).content old.content.next (pinned_copies old target start pages) new.content → Keeps old new
unfolding with_snapshot snapshotted with_key
snapshot_keeps old new name target start pages resizable no_write good h closed vmo few change owns =
    let c = old.content in
    let first = target.first + start in
    let seen = seen_pages c target start pages in
    let l : Lineage = record { resizable = resizable; origin = Snapshot; parent = Some target.koid.0 } in
    let keeps = copies_keep old target start pages new.content good.content few owns in
    let kept = keeps.kept in
    let counts : (v : ℕ) → new.content.count v ≡ with_key c.count c.next pages v = λ v. ap (λ (f : ℕ → Option ℕ). f v) kept.count in
    subst (Keeps old) (sym change)
    (enter_keeps old new.content name pages (not no_write) l good h closed kept.good
    (counts c.next ∙ with_key-same c.count c.next pages) (λ v apart. counts v ∙ with_key-other c.count c.next pages v apart) kept.next kept.frames
    (λ w q pinned alone. keeps.alone w q (λ same. inr (ap (λ (u : ℕ). is_pinned old.pins u q) (sym same) ∙ pinned)) alone)
    (λ p e. let is : target.koid.0 ≡ p = cc in subst (λ (v : ℕ). IsSome (old.lineage v)) is (lineage_at old target.koid.0 good vmo)))

-- ---- a name more

-- one name more of a VMO that is there, under a number that is not open
pub alias_keeps : (old : State) (name : ℕ) (target : Target) → IsGoodState old → name < NAMES → is_open old name ≡ false → IsGoodName old target → Keeps old (with_alias old name target)
unfolding with_alias
alias_keeps old name target good h closed fine =
    let state : State = record old { names = with_key old.names name target } in
    record {
      good = record {
        content = good.content;
        names = λ n other e. elim (with_key-cases old.names name target n other e) [
          | inl new ↦ (subst (λ (m : ℕ). m < NAMES) (sym new.0) h, IsGoodName-kept old state other refl refl (subst (IsGoodName old) new.1 fine))
          | inr was ↦ let before = good.names n other was.1 in (before.0, IsGoodName-kept old state other refl refl before.1)
        ];
        known = good.known;
        live = λ v e. live_kept old state v (λ named. any_entry-with_key_kept NAMES (is_of v) old.names name target closed named) (λ has. has) (λ mapped. mapped) (good.live v e);
        parents = good.parents;
        pins = λ n pin e. IsGoodPin-kept old state good (λ w q pinned alone. alone) n pin e refl;
        spaces = good.spaces;
      };
      next = omega arith;
      frames = refl;
    }

-- A part of what a good name stands for is a good name, where the VMO keeps its size and the part lies inside the name
pub slice_good : (s : State) (target : Target) (start pages : ℕ) (no_write : Bool) → IsGoodName s target → (lineage_of s target.koid.0).resizable ≡ false → start + pages ≤ name_pages s.content target → IsGoodName s (slice_of target start pages no_write)
slice_good s target start pages no_write good fixed inside = record {
  vmo = good.vmo;
  whole = λ e. absurd cc;
  part = λ n e. let is : pages ≡ n = cc in (refl, fixed, subst (λ (m : ℕ). target.first + start + m ≤ pages_of s.content target.koid.0) is (go target.limit refl inside));
  resize = λ e. absurd cc;
} where
  go : (o : Option ℕ) → target.limit ≡ o → start + pages ≤ unwrap_or o (pages_of s.content target.koid.0) → target.first + start + pages ≤ pages_of s.content target.koid.0
  go None e l = omega (arith, good.whole e)
  go (Some n) e l = omega (arith, (good.part n e).2)

-- Another name of all of a good name's VMO is good, where it may change the size only if that name may
pub reference_good : (s : State) (target : Target) (resizable no_write : Bool) → IsGoodName s target → (resizable ≡ true → target.may_resize ≡ true) → IsGoodName s (reference_of target resizable no_write)
reference_good s target resizable no_write good may = record {
  vmo = good.vmo;
  whole = λ e. refl;
  part = λ n e. absurd cc;
  resize = λ e. good.resize (may e);
}

-- ---- a name or a pin less

-- less that keeps VMOs, which may leave
pub loose_keeps : (old less : State) → IsGoodState old → Loosens old less → Keeps old (pruned less)
loose_keeps old less good loose = record {
  good = IsGoodState-pruned less (IsLoose-from old less good loose);
  next = let same : less.content.next ≡ old.content.next = ap (λ (c : Content). c.next) loose.content in omega (arith, next-pruned less, same);
  frames = frames-pruned less ∙ ap (λ (c : Content). c.frames) loose.content;
}

-- a name that is closed
pub close_keeps : (old : State) (name : ℕ) → IsGoodState old → is_open old name ≡ true → Keeps old (pruned (unnamed old name))
close_keeps old name good open_name =
    let target = target_of old name in
    loose_keeps old (unnamed old name) good (LoosensAt-unnamed old name target good (names-open old name open_name)).less

-- a pin that is taken off
pub unpin_keeps : (old : State) (name : ℕ) (pin : Pin) → IsGoodState old → old.pins name ≡ Some pin → Keeps old (pruned (unpinned old name))
unpin_keeps old name pin good there = loose_keeps old (unpinned old name) good (LoosensAt-unpinned old name pin good there).less

-- ---- other pages of the same VMOs

-- a content with the same VMOs, under the same names
pub kept_keeps : (old new : State) → IsGoodState old → new.names ≡ old.names → new.lineage ≡ old.lineage → new.pins ≡ old.pins → new.spaces ≡ old.spaces
    → KeepsPages (is_pinned old.pins) old.content new.content → Keeps old new
kept_keeps old new good names lineage pins spaces keeps = let kept = keeps.kept in record {
  good = record {
    content = kept.good;
    names = λ n target e. let was = good.names n target (ap (λ (f : ℕ → Option Target). f n) (sym names) ∙ e) in (was.0, IsGoodName-kept old new target kept.count lineage was.1);
    known = λ v. ap (λ (f : ℕ → Option Lineage). is_some (f v)) lineage ∙ (good.known v ∙ ap (λ (f : ℕ → Option ℕ). is_some (f v)) (sym kept.count));
    live = λ v h.
        live_kept old new v (λ named. ap (λ (f : ℕ → Option Target). is_named f v) names ∙ named) (λ has. ap (λ (f : ℕ → Option Pin). has_pin f v) pins ∙ has)
        (λ mapped. ap (λ (f : Spaces). is_mapped f v) spaces ∙ mapped)
        (good.live v (ap (λ (f : ℕ → Option Lineage). is_some (f v)) (sym lineage) ∙ h));
    parents = λ v p l e f.
        let was = good.parents v p l (ap (λ (g : ℕ → Option Lineage). g v) (sym lineage) ∙ e) f in
        (was.0, ap (λ (g : ℕ → Option Lineage). is_some (g p)) lineage ∙ was.1);
    pins = λ n pin e. IsGoodPin-kept old new good keeps.alone n pin (ap (λ (f : ℕ → Option Pin). f n) (sym pins) ∙ e) (ap (λ (f : ℕ → Option ℕ). f pin.koid) kept.count);
    spaces = subst (λ (f : Spaces). AreGoodSpaces new.content f) (sym spaces)
        (AreGoodSpaces-over old.content old.spaces good.spaces new.content (λ root p entry e.
        ap (λ (f : ℕ → Option ℕ). is_some (f entry.koid.0)) kept.count ∙ good.spaces.vmos root p entry e));
  };
  next = omega (arith, kept.next);
  frames = kept.frames;
}

-- the same, where nothing but the content changes
pub change_keeps : (old new : State) → IsGoodState old → ChangesContent old new → KeepsPages (is_pinned old.pins) old.content new.content → Keeps old new
change_keeps old new good change keeps =
    kept_keeps old new good (ap (λ (s : State). s.names) change) (ap (λ (s : State). s.lineage) change) (ap (λ (s : State). s.pins) change) (ap (λ (s : State). s.spaces) change) keeps

-- pages written inside a VMO
pub write_keeps : (old new : State) (v offset : ℕ) (bytes : List ℕ) → IsGoodState old → offset + length bytes ≤ pages_of old.content v * PAGE → ChangesContent old new → Writes old.content (pieces v offset bytes) new.content → Keeps old new
write_keeps old new v offset bytes good h change writes =
    change_keeps old new good change (Writes-keeps (is_pinned old.pins) v offset bytes old.content new.content good.content h writes)

-- pages owned inside a VMO
pub commit_keeps : (old new : State) (v offset len : ℕ) → IsGoodState old → offset + len ≤ pages_of old.content v * PAGE → ChangesContent old new → OwnsAll old.content v (touched offset len) new.content → Keeps old new
commit_keeps old new v offset len good h change owns =
    change_keeps old new good change (OwnsAll-keeps (is_pinned old.pins) v offset len old.content new.content good.content h owns)

-- a range zeroed inside a VMO, of which no pinned page becomes zero as a whole
pub zero_range_keeps : (old new : State) (v offset len : ℕ) → IsGoodState old → offset + len ≤ pages_of old.content v * PAGE → ChangesContent old new → Zeroes old.content v (is_pinned old.pins v) offset len (touched offset len) new.content → Keeps old new
zero_range_keeps old new v offset len good h change zeroes =
    change_keeps old new good change (Zeroes-keeps (is_pinned old.pins) v offset len old.content new.content good.content h zeroes)

-- pages that become zero, none of them pinned
pub zero_keeps : (old : State) (v first end : ℕ) → IsGoodState old → any_pinned old.pins v first end ≡ false → Keeps old (record old { content = zeroed old.content v first end })
zero_keeps old v first end good free =
    change_keeps old (record old { content = zeroed old.content v first end }) good refl (record {
      kept = zeroed-keeps old.content v first end good.content;
      alone = λ w q pinned alone. sole-zeroed_kept old.content v first end w q good.content alone (elim (cases_zeroed v first end w q) [
        | inr out ↦ out
        | inl inside ↦
            let here = ap (λ (u : ℕ). is_pinned old.pins u q) (sym inside.0) ∙ pinned in
            absurd (both_ways (any_pinned old.pins v first end) free (any_pinned_at old.pins v first end q inside.1 inside.2 here))
      ]);
    })

-- ---- a pin more

-- one pin more of a good state, under a number that is free
pub IsGoodState-pinned : (s : State) (n : ℕ) (pin : Pin) → IsGoodState s → n < NAMES → s.pins n ≡ None → IsGoodPin s pin → IsGoodState (record s { pins = with_key s.pins n pin })
IsGoodState-pinned s n pin good h free fine =
    let state : State = record s { pins = with_key s.pins n pin } in
    let same : (other : Pin) → IsGoodPin s other → IsGoodPin state other = λ other was. record { vmo = was.vmo; few = was.few; inside = was.inside; alone = was.alone } in
    record {
      content = good.content;
      names = λ m target e. let was = good.names m target e in (was.0, IsGoodName-kept s state target refl refl was.1);
      known = good.known;
      live = λ v e. live_kept s state v (λ named. named) (λ has. any_entry-with_key_kept NAMES (λ (p : Pin). p.koid == v) s.pins n pin (ap is_some free) has) (λ mapped. mapped) (good.live v e);
      parents = good.parents;
      pins = λ m other e. elim (with_key-cases s.pins n pin m other e) [
        | inl new ↦ (subst (λ (k : ℕ). k < NAMES) (sym new.0) h, same other (subst (IsGoodPin s) new.1 fine))
        | inr was ↦ let before = good.pins m other was.1 in (before.0, same other before.1)
      ];
      spaces = good.spaces;
    }

-- whole pages owned inside a VMO, and pinned under a number that is free
pub pin_keeps : (old new : State) (n v offset len : ℕ) → IsGoodState old → n < NAMES → old.pins n ≡ None → IsSome (old.content.count v)
    → offset % PAGE ≡ 0 → len % PAGE ≡ 0 → 0 < len → len ≤ PIN_PAGES * PAGE → offset + len ≤ pages_of old.content v * PAGE
    → new ≡ record old { content = new.content; pins = with_key old.pins n (record { koid = v; first = offset / PAGE; count = len / PAGE }) }
    → OwnsAll old.content v (touched offset len) new.content → Keeps old new
pin_keeps old new n v offset len good h free vmo begins whole some few inside is owns =
    let pin : Pin = record { koid = v; first = offset / PAGE; count = len / PAGE } in
    let owned : State = record old { content = new.content } in
    let kept = (OwnsAll-keeps (is_pinned old.pins) v offset len old.content new.content good.content inside owns).kept in
    let then_good = (commit_keeps old owned v offset len good inside refl owns).good in
    let fine : IsGoodPin owned pin = record {
      vmo = ap (λ (f : ℕ → Option ℕ). is_some (f v)) kept.count ∙ vmo;
      few = (omega arith, omega arith);
      inside = omega (arith, kept.pages v);
      alone = λ p low high. OwnsAll-alone_pages v offset len old.content new.content good.content inside owns p begins whole low high;
    } in
    record {
      good = subst IsGoodState (sym is) (IsGoodState-pinned owned n pin then_good h free fine);
      next = omega (arith, kept.next);
      frames = kept.frames;
    }

-- ---- a change of size

-- no name of a VMO that may change its size is a name of a part
pub no_part : (s : State) (target : Target) (n : ℕ) → IsGoodName s target → (lineage_of s target.koid.0).resizable ≡ true → target.limit ≢ Some n
no_part s target n good changes e = both_ways (lineage_of s target.koid.0).resizable (good.part n e).1 changes

-- where no page past a new end is pinned, a pinned page lies below it
pinned_below : (s : State) (v pages p : ℕ) → IsGoodState s → any_pinned s.pins v pages (pages_of s.content v) ≡ false → p < pages_of s.content v → is_pinned s.pins v p ≡ true → p < pages
pinned_below s v pages p good free inside pinned = elim (cases_lt p pages) [
  | inl below ↦ below
  | inr past ↦ absurd (both_ways (any_pinned s.pins v pages (pages_of s.content v)) free (any_pinned_at s.pins v pages (pages_of s.content v) p past inside pinned))
]

-- So a VMO of which a name may change its size takes any size that a VMO can have, where no page past the new end is pinned
pub resize_keeps : (old : State) (name : ℕ) (target : Target) (pages : ℕ) → IsGoodState old → old.names name ≡ Some target → target.may_resize ≡ true → pages ≤ VMO_PAGES → any_pinned old.pins target.koid.0 pages (pages_of old.content target.koid.0) ≡ false → Keeps old (record old { content = resized old.content target.koid.0 pages })
unfolding resized zeroed
resize_keeps old name target pages good open_name may few free =
    let c = old.content in
    let v = target.koid.0 in
    let state : State = record old { content = resized c v pages } in
    let fine = (good.names name target open_name).1 in
    let counted : IsSome (state.content.count v) = ap is_some (count-resized_here c v pages) in
    let lineage : (w : ℕ) → (lineage_of state w).resizable ≡ (lineage_of old w).resizable = λ w. ap (λ (l : Lineage). l.resizable) (lineage_of-same state old w refl) in
    let below : (q : ℕ) → q < pages_of c v → is_pinned old.pins v q ≡ true → q < pages = λ q inside pinned. pinned_below old v pages q good free inside pinned in
    let kept : KeepsSole (is_pinned old.pins) c state.content = λ w q pinned alone.
    let held = sole_held c w q alone in
    sole-resized_kept c v pages w q good.content
    (λ same. below q (subst (λ (u : ℕ). q < pages_of c u) same (good.content.below w q held.0 held.1)) (ap (λ (u : ℕ). is_pinned old.pins u q) (sym same) ∙ pinned)) alone in
    record {
      good = record {
        content = IsGood-resized c v pages good.content fine.vmo few;
        names = λ n other e.
            let was = good.names n other e in (
              was.0,
              elim (cases_eq other.koid.0 v) [
                | inl same ↦
                    let changes : (lineage_of old other.koid.0).resizable ≡ true = ap (λ (w : ℕ). (lineage_of old w).resizable) same ∙ fine.resize may in
                    record {
                      vmo = subst (λ (w : ℕ). IsSome (state.content.count w)) (sym same) counted;
                      whole = was.1.whole;
                      part = λ m f. absurd (no_part old other m was.1 changes f);
                      resize = λ f. lineage other.koid.0 ∙ was.1.resize f;
                    }
                | inr apart ↦ IsGoodName-same old state other (count-resized_other c v pages other.koid.0 apart) (lineage other.koid.0) was.1
              ],
            );
        known = λ w. elim (cases_eq w v) [
          | inl same ↦
              let before : IsSome (old.lineage w) = ap (λ (u : ℕ). is_some (old.lineage u)) same ∙ lineage_at old v good fine.vmo in
              before ∙ sym (ap (λ (u : ℕ). is_some (state.content.count u)) same ∙ counted)
          | inr apart ↦ good.known w ∙ ap is_some (sym (count-resized_other c v pages w apart))
        ];
        live = λ w h. is_live-same old state w refl refl refl ∙ good.live w h;
        parents = good.parents;
        pins = λ n pin e. elim (cases_eq pin.koid v) [
          | inr apart ↦ IsGoodPin-kept old state good kept n pin e (count-resized_other c v pages pin.koid apart)
          | inl same ↦
              let was = good.pins n pin e in
              let last = pin.first + pin.count - 1 in
              let inside : last < pages_of c v = omega (arith, was.1.few.0, was.1.inside, ap (pages_of c) same) in
              let pinned : is_pinned old.pins v last ≡ true =
              subst (λ (u : ℕ). is_pinned old.pins u last ≡ true) same (is_pinned_of old.pins n last pin was.0 e (omega (arith, was.1.few.0)) (omega (arith, was.1.few.0))) in
              let room = below last inside pinned in
              IsGoodPin-inside old state good kept n pin e (subst (λ (w : ℕ). IsSome (state.content.count w)) (sym same) counted)
              (omega (arith, was.1.few.0, room, ap (pages_of state.content) same, pages_of-at state.content v pages (count-resized_here c v pages)))
        ];
        spaces = AreGoodSpaces-over c old.spaces good.spaces state.content (λ root p entry e. elim (cases_eq entry.koid.0 v) [
          | inl same ↦ subst (λ (w : ℕ). IsSome (state.content.count w)) (sym same) counted
          | inr apart ↦ ap is_some (count-resized_other c v pages entry.koid.0 apart) ∙ good.spaces.vmos root p entry e
        ]);
      };
      next = omega arith;
      frames = refl;
    }

-- ---- address spaces

-- other address spaces, in which the same VMOs are mapped
pub spaces_keeps : (old : State) (spaces : Spaces) → IsGoodState old → AreGoodSpaces old.content spaces → ((v : ℕ) → is_mapped spaces v ≡ is_mapped old.spaces v)
    → Keeps old (record old { spaces = spaces })
spaces_keeps old spaces good fine mapped =
    let state : State = record old { spaces = spaces } in
    let same_name : (target : Target) → IsGoodName old target → IsGoodName state target = λ target was. IsGoodName-kept old state target refl refl was in
    record {
      good = record {
        content = good.content;
        names = λ n target e. let was = good.names n target e in (was.0, same_name target was.1);
        known = good.known;
        live = λ v h. is_live-same old state v refl refl (mapped v) ∙ good.live v h;
        parents = good.parents;
        pins = λ n pin e. IsGoodPin-kept old state good (λ w q pinned alone. alone) n pin e refl;
        spaces = fine;
      };
      next = omega arith;
      frames = refl;
    }

-- a region more changes no entry
pub region_keeps : (old : State) (n : ℕ) (region : Region) → IsGoodState old → AreGoodSpaces old.content (with_region old.spaces n region)
    → Keeps old (record old { spaces = with_region old.spaces n region })
unfolding is_mapped
region_keeps old n region good fine = spaces_keeps old (with_region old.spaces n region) good fine (λ v. refl)
