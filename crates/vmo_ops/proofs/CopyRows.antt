-- Laws of the copies of pinned pages: the next of them, owning one after another, and the steps of making a snapshot.
use Rattle.std.proofs.Common.{[], ◌≡◌, ℕ, zero, suc, ◌+◌, ◌-◌, ◌*◌, ◌/◌, ◌%◌, ◌<◌, ◌≤◌, Bool, true, false, not, cond, ◌&&◌, ◌||◌, ◌==◌, ◌⊎◌}
use Rattle.std.proofs.Common.{List, ◌∷◌, length, Option, None, Some, refl, sym, ap, subst, ◌∙◌, inl, inr, arith}
use Rattle.std.specs.Prelude.{nat_lt, is_some}
use Rattle.std.specs.List.{filter, range_with_len}
use Rattle.std.proofs.lemmas.Bool.{le-ltb}
use Rattle.vm_base.specs.Search.{HasNone, IsFirst}
use Rattle.vm_base.specs.Entries.{with_key}
use Rattle.vm_base.specs.Pages.{rounded}
use Rattle.vm_base.specs.declared.limits.TheConstants.{PAGE, VMO_PAGES}
use Rattle.vm_base.specs.declared.names.VmoName.{VmoName}
use Rattle.vm_base.specs.declared.refusal.Refusal.TheVariants.{BadHandle, NameInUse, InvalidArgs, OutOfRange, NoMemory, HostMemory}
use Rattle.vm_base.proofs.SearchLaws.{count_below_less}
use Rattle.vm_model.specs.Machine.Words.{Command, Reply}
use Rattle.vm_model.specs.declared.command.Command.TheVariants.{VmoChild}
use Rattle.vm_model.specs.declared.command.ChildKind.TheVariants.{Snapshot as SnapshotChild}
use Rattle.vm_model.specs.declared.names.Origin.TheVariants.{Snapshot}
use Rattle.vm_model.specs.declared.names.Target.{Target}
use Rattle.vm_model.specs.declared.reply.Reply.TheVariants.{Done, Refused}
use Rattle.vm_model.specs.Contents.Content.{Content, pages_of, in_use, used, sole, IsGood}
use Rattle.vm_model.specs.Contents.Owning.{Owns, OwnsAll}
use Rattle.vm_model.specs.Contents.Sharing.{snapshotted}
use Rattle.vm_model.specs.Naming.Names.{Lineage, owner}
use Rattle.vm_model.specs.Naming.Pins.{is_pinned}
use Rattle.vm_model.specs.Machine.State.{State, is_open, target_of, seen_pages, pinned_copies}
use Rattle.vm_model.specs.Machine.Refusals.{lacks_copies, refusals, first_of}
use Rattle.vm_model.specs.Machine.Step.{with_snapshot, Step}
use Rattle.vm_model.proofs.ContentLaws.{pages_of-at, in_use_found, in_use_at}
use Rattle.vm_model.proofs.NamesLaws.{target_of-at}
use Rattle.vm_model.proofs.OwningLaws.{Owned-from_Owns}
use Rattle.vm_model.proofs.SharingLaws.{page-snapshotted_cases, count-snapshotted_new, IsGood-snapshotted}
use Rattle.vm_model.proofs.StepLaws.{Step-done, Step-lacks}
use Rattle.vmo_ops.specs.inside.Copies.{is_copy, copies_of}
use Rattle.vmo_ops.proofs.CreateLaws.{snapshotted-first}

-- ---- the copies

-- pages in a row that do not pass
passing-gap : (test : ℕ → Bool) (from n m : ℕ) → HasNone test from (from + n)
    → filter test (range_with_len from (n + m)) ≡ filter test (range_with_len (from + n) m)
passing-gap test from zero m none =
    let e : from ≡ from + zero = omega arith in
    let f : zero + m ≡ m = omega arith in
    ap (λ (k : ℕ). filter test (range_with_len from k)) f ∙ ap (λ (a : ℕ). filter test (range_with_len a m)) e
passing-gap test from (suc n) m none =
    let e : suc n + m ≡ suc (n + m) = omega arith in
    let f : (from + 1) + n ≡ from + suc n = omega arith in
    let rest = filter test (range_with_len (from + 1) (n + m)) in
    ap (λ (k : ℕ). filter test (range_with_len from k)) e
    ∙ (ap (λ (b : Bool). cond b (from ∷ rest) rest) (none from (omega arith) (omega arith))
    ∙ (passing-gap test (from + 1) n m (λ q low high. none q (omega arith) (omega arith))
    ∙ ap (λ (a : ℕ). filter test (range_with_len a m)) f))

module _ (pinned : ℕ → Bool) (first seen : ℕ) where
  -- the next of them, and those behind it
  pub copies-next : (from q : ℕ) → IsFirst (is_copy pinned first) from seen q → copies_of pinned first seen from ≡ q ∷ copies_of pinned first seen (q + 1)
  unfolding copies_of
  copies-next from q next =
      let test = is_copy pinned first in
      let e : seen - from ≡ (q - from) + suc (seen - (q + 1)) = omega (arith, next.order, next.below) in
      let f : from + (q - from) ≡ q = omega (arith, next.order) in
      let rest = filter test (range_with_len (q + 1) (seen - (q + 1))) in
      ap (λ (n : ℕ). filter test (range_with_len from n)) e
      ∙ (passing-gap test from (q - from) (suc (seen - (q + 1))) (λ x low high. next.gap x low (omega (arith, high, f)))
      ∙ (ap (λ (a : ℕ). filter test (range_with_len a (suc (seen - (q + 1))))) f
      ∙ ap (λ (b : Bool). cond b (q ∷ rest) rest) next.hit))

  -- where there is no next one, there is none
  pub copies-none : (from : ℕ) → from ≤ seen → HasNone (is_copy pinned first) from seen → copies_of pinned first seen from ≡ []
  unfolding copies_of
  copies-none from bound none =
      let test = is_copy pinned first in
      let e : seen - from ≡ (seen - from) + zero = omega arith in
      ap (λ (n : ℕ). filter test (range_with_len from n)) e
      ∙ passing-gap test from (seen - from) zero (λ x low high. none x low (omega (arith, bound, high)))

  -- one more counted
  pub copies-counted : (from q : ℕ) → IsFirst (is_copy pinned first) from seen q
      → length (copies_of pinned first seen from) ≡ length (copies_of pinned first seen (q + 1)) + 1
  copies-counted from q next =
      let e : length (q ∷ copies_of pinned first seen (q + 1)) ≡ length (copies_of pinned first seen (q + 1)) + 1 = omega arith in
      ap length (copies-next from q next) ∙ e

  -- none is left
  pub copies-counted_none : (from : ℕ) → from ≤ seen → HasNone (is_copy pinned first) from seen → length (copies_of pinned first seen from) ≡ 0
  copies-counted_none from bound none = ap length (copies-none from bound none)

-- the next pinned page, as a page of the snapshot
pub copy-first : (pinned : ℕ → Bool) (first seen from page : ℕ) → IsFirst pinned (first + from) (first + seen) page → IsFirst (is_copy pinned first) from seen (page - first)
unfolding is_copy
copy-first pinned first seen from page next =
    let at : first + (page - first) ≡ page = omega (arith, next.order) in
    record {
      order = omega (arith, next.order);
      below = omega (arith, at, next.below);
      hit = ap pinned at ∙ next.hit;
      gap = λ q low high. next.gap (first + q) (omega arith) (omega (arith, high, at));
    }

-- where no page is pinned that the snapshot sees, there is no copy
pub no_copy : (pinned : ℕ → Bool) (first seen from : ℕ) → HasNone pinned (first + from) (first + seen) → HasNone (is_copy pinned first) from seen
unfolding is_copy
no_copy pinned first seen from none q low high = none (first + q) (omega arith) (omega arith)

-- ---- owning them

-- The copies before `from` are owned. There are room and free frames for the others, and whatever owning these leads to, owning
-- all leads to.
pub record IsOwningCopies (pinned : ℕ → Bool) (first seen w : ℕ) (old now : Content) (from spare : ℕ) : Type 0 where
  pub bound : from ≤ seen
  pub good : IsGood now
  pub inside : seen ≤ pages_of now w
  pub room : length (copies_of pinned first seen from) ≤ spare
  pub free : used now + length (copies_of pinned first seen from) ≤ now.frames
  pub reach : (last : Content) → OwnsAll now w (copies_of pinned first seen from) last → OwnsAll old w (copies_of pinned first seen 0) last

-- a page takes one frame at most
used_most : (alone : Bool) (before after : ℕ) → after ≡ cond alone before (before + 1) → after ≤ before + 1
used_most true before after e = omega (arith, e)
used_most false before after e = omega (arith, e)

module _ {pinned : ℕ → Bool} {first seen w : ℕ} {old now : Content} {from spare : ℕ} (owning : IsOwningCopies pinned first seen w old now from spare) where
  module _ {q : ℕ} (next : IsFirst (is_copy pinned first) from seen q) where
    -- the next one is a page of the snapshot
    pub owning-page : q < pages_of now w
    owning-page = omega (arith, next.below, owning.inside)

    -- there are room and a frame for it
    pub owning-room : (sole now w q ≡ true) ⊎ ((1 ≤ spare) × (used now < now.frames))
    owning-room =
        let one = copies-counted pinned first seen from q next in
        inr (omega (arith, one, owning.room), omega (arith, one, owning.free))

    -- it is owned
    pub owning-next : {mid : Content} {left tag : ℕ} → Owns now mid w q tag → spare ≤ left + 1 → IsOwningCopies pinned first seen w old mid (q + 1) left
    owning-next {mid} {left} {tag} owns cost =
        let one = copies-counted pinned first seen from q next in
        let owned = Owned-from_Owns now mid w q tag owning.good owning-page owns in
        let most = used_most (sole now w q) (used now) (used mid) owned.used in
        record {
          bound = omega (arith, next.below);
          good = owned.good;
          inside = omega (arith, owning.inside, owned.pages w);
          room = omega (arith, one, owning.room, cost);
          free = omega (arith, one, owning.free, most, owned.frames);
          reach = λ last rest. owning.reach last
              (subst (λ (ps : List ℕ). OwnsAll now w ps last) (sym (copies-next pinned first seen from q next)) (mid, tag, owns, rest));
        }

  -- all are owned
  pub owning-end : HasNone (is_copy pinned first) from seen → OwnsAll old w (copies_of pinned first seen 0) now
  owning-end none = owning.reach now (subst (λ (ps : List ℕ). OwnsAll now w ps now) (sym (copies-none pinned first seen from owning.bound none)) refl)

-- ---- a snapshot

-- it uses no frame more
pub used-snapshotted_le : (c : Content) (v first seen pages : ℕ) → IsGood c → used (snapshotted c v first seen pages) ≤ used c
unfolding used snapshotted
used-snapshotted_le c v first seen pages good = count_below_less c.frames (in_use (snapshotted c v first seen pages)) (in_use c) (λ t h e.
    let page = in_use_found (snapshotted c v first seen pages) t e in
    elim (page-snapshotted_cases c v first seen pages page.0 page.1 page.2 page.5) [
      | inl new ↦ in_use_at c t v (first + page.1) page.2 good new.2 page.6
      | inr old ↦ in_use_at c t page.0 page.1 page.2 good old.1 page.6
    ])

-- A snapshot that was made, under its koid
module _ (c : Content) (v first seen pages : ℕ) (good : IsGood c) (d : Content) (koid : ℕ) (made : d ≡ snapshotted c v first seen pages) (is : koid ≡ c.next) where
  -- the content is good
  pub made-good : seen ≤ pages → pages ≤ VMO_PAGES → IsGood d
  made-good few bound = subst IsGood (sym made) (IsGood-snapshotted c v first seen pages good few bound)

  -- the snapshot has its pages
  pub made-inside : seen ≤ pages → seen ≤ pages_of d koid
  made-inside few =
      omega (
        arith,
        few,
        ap (λ (x : Content). pages_of x koid) made,
        ap (pages_of (snapshotted c v first seen pages)) is,
        pages_of-at (snapshotted c v first seen pages) c.next pages (count-snapshotted_new c v first seen pages),
      )

  -- as many frames are free
  pub made-free : (n : ℕ) → used c + n ≤ c.frames → used d + n ≤ d.frames
  unfolding snapshotted
  made-free n free = omega (arith, free, used-snapshotted_le c v first seen pages good, ap used made, ap (λ (x : Content). x.frames) made)

  -- what is owned then is owned of the snapshot
  pub made-owns : (ps : List ℕ) (e : Content) → OwnsAll d koid ps e → OwnsAll (snapshotted c v first seen pages) c.next ps e
  made-owns ps e owns = subst (λ (x : Content). OwnsAll x c.next ps e) made (subst (λ (k : ℕ). OwnsAll d k ps e) is owns)

-- where the four tests before the last fail, it alone decides
rows_off : (a b c d e : Bool) → a ≡ false → b ≡ false → c ≡ false → d ≡ false
    → first_of ((a, BadHandle) ∷ (b, NameInUse) ∷ (c, InvalidArgs) ∷ (d, OutOfRange) ∷ (e, NoMemory) ∷ []) ≡ cond e (Some NoMemory) None
rows_off a b c d e first second third fourth = rw (first, second, third, fourth) refl

-- A snapshot of what the name `parent` stands for may be made under a name that is not open, if frames and memory are there. It
-- sees so many pages of the VMO from its page `first` on.
pub record IsAsked (s : State) (name parent : VmoName) (t : Target) (offset size : ℕ) (resizable no_write : Bool) (first seen : ℕ) : Type 0 where
  pub named : s.names parent.0 ≡ Some t
  pub closed : s.names name.0 ≡ None
  pub asked : (not (offset % PAGE == 0) || (resizable && no_write)) ≡ false
  pub few : offset + rounded size ≤ VMO_PAGES * PAGE
  pub sees : seen ≡ seen_pages s.content t (offset / PAGE) (rounded size / PAGE)
  pub at : (first ≡ t.first + offset / PAGE) ⊎ (seen ≡ 0)

-- the same, by the pages that were computed
pub asked-from : {s : State} {name parent : VmoName} {t : Target} {offset size : ℕ} {resizable no_write : Bool} {first seen start pages : ℕ}
    → s.names parent.0 ≡ Some t → s.names name.0 ≡ None → (not (offset % PAGE == 0) || (resizable && no_write)) ≡ false
    → (pages ≡ rounded size / PAGE) × (offset + rounded size ≤ VMO_PAGES * PAGE) × (pages ≤ VMO_PAGES) → start ≡ offset / PAGE
    → seen ≡ seen_pages s.content t start pages → (first ≡ t.first + start) ⊎ (seen ≡ 0)
    → IsAsked s name parent t offset size resizable no_write first seen
asked-from {s = s} {t = t} {offset = offset} {size = size} {first = first} {seen = seen} {start = start} {pages = pages} named closed asked sizes begins sees at = record {
  named = named;
  closed = closed;
  asked = asked;
  few = sizes.1;
  sees = sees ∙ (ap (λ (n : ℕ). seen_pages s.content t n pages) begins ∙ ap (seen_pages s.content t (offset / PAGE)) sizes.0);
  at = subst (λ (n : ℕ). (first ≡ t.first + n) ⊎ (seen ≡ 0)) begins at;
}

module _ {s : State} {name parent : VmoName} {t : Target} {offset size : ℕ} {resizable no_write : Bool} {first seen : ℕ}
    (asks : IsAsked s name parent t offset size resizable no_write first seen) where
  abbrev command : Command
  command = VmoChild name parent SnapshotChild offset size resizable no_write

  abbrev copies : List ℕ
  copies = copies_of (is_pinned s.pins t.koid.0) first seen 0

  -- the copies of pinned pages are those of the definition
  pub copies-all : copies ≡ pinned_copies s t (offset / PAGE) (rounded size / PAGE)
  unfolding copies_of is_copy
  copies-all =
      let pinned = is_pinned s.pins t.koid.0 in
      let none : seen - 0 ≡ seen = omega arith in
      let low : ℕ → List ℕ = λ n. filter (λ q. pinned (first + q)) (range_with_len 0 n) in
      let same : filter (λ q. pinned (first + q)) (range_with_len 0 seen) ≡ filter (λ q. pinned (t.first + offset / PAGE + q)) (range_with_len 0 seen) = elim asks.at [
        | inl is ↦ ap (λ (a : ℕ). filter (λ q. pinned (a + q)) (range_with_len 0 seen)) is
        | inr empty ↦ rw empty refl
      ] in
      ap low none ∙ (same ∙ ap (λ (n : ℕ). filter (λ q. pinned (t.first + offset / PAGE + q)) (range_with_len 0 n)) asks.sees)

  -- what refuses it, behind the other tests
  pub rows-are : first_of (refusals s command) ≡ cond (lacks_copies s t (offset / PAGE) (rounded size / PAGE)) (Some NoMemory) None
  rows-are =
      rows_off (not (is_open s parent.0)) (is_open s name.0) (not (offset % PAGE == 0) || (resizable && no_write)) (nat_lt (VMO_PAGES * PAGE) (offset + rounded size))
      (lacks_copies s (target_of s parent.0) (offset / PAGE) (rounded size / PAGE)) (ap (λ (o : Option Target). not (is_some o)) asks.named) (ap is_some asks.closed) asks.asked
      (le-ltb (VMO_PAGES * PAGE) (offset + rounded size) asks.few)
      ∙ ap (λ (x : Target). cond (lacks_copies s x (offset / PAGE) (rounded size / PAGE)) (Some NoMemory) None) (target_of-at s parent.0 t asks.named)

  module _ (enough : used s.content + length copies ≤ s.content.frames) where
    none : first_of (refusals s command) ≡ None
    none =
        rows-are ∙ ap (λ (b : Bool). cond b (Some NoMemory) None) (le-ltb _ _ (omega (arith, enough, ap length copies-all)))

    -- the host has too little memory
    pub copies-host : Step s command (Refused HostMemory) s
    copies-host = Step-lacks s command none refl

    -- the snapshot is there, and owns them
    pub copies-done : (new : State) → OwnsAll (snapshotted s.content t.koid.0 first seen (rounded size / PAGE)) s.content.next copies new.content
        → new ≡ record s {
          content = new.content;
          names = with_key s.names name.0 (owner s.content.next (not no_write) resizable);
          lineage = with_key s.lineage s.content.next (record { resizable = resizable; origin = Snapshot; parent = Some t.koid.0 });
        } → Step s command Done new
    unfolding with_snapshot
    copies-done new owns is =
        let target = sym (target_of-at s parent.0 t asks.named) in
        let start = offset / PAGE in
        let pages = rounded size / PAGE in
        let made = snapshotted-first s.content t.koid.0 first (t.first + start) seen pages asks.at
        ∙ ap (λ (n : ℕ). snapshotted s.content t.koid.0 (t.first + start) n pages) asks.sees in
        let owned : OwnsAll (snapshotted s.content t.koid.0 (t.first + start) (seen_pages s.content t start pages) pages) s.content.next (pinned_copies s t start pages) new.content =
        subst (λ (c : Content). OwnsAll c s.content.next (pinned_copies s t start pages) new.content) made
        (subst (λ (ps : List ℕ). OwnsAll (snapshotted s.content t.koid.0 first seen pages) s.content.next ps new.content) copies-all owns) in
        Step-done s command Done new none (subst (λ (x : Target). (◌≡◌ {A = Reply} Done Done) × (new ≡ record (with_snapshot s name.0 x start pages resizable no_write) { content = new.content })
        × OwnsAll (with_snapshot s name.0 x start pages resizable no_write).content s.content.next (pinned_copies s x start pages) new.content) target (refl, is, owned))

    -- the same, by what the store and the table answered
    pub copies-entered : {d : Content} {names : ℕ → Option Target} {lineage : ℕ → Option Lineage} {pages koid : ℕ} → pages ≡ rounded size / PAGE → koid ≡ s.content.next
        → OwnsAll (snapshotted s.content t.koid.0 first seen pages) s.content.next copies d
        → names ≡ with_key s.names name.0 (owner koid (not no_write) resizable)
        → lineage ≡ with_key s.lineage koid (record { resizable = resizable; origin = Snapshot; parent = Some t.koid.0 })
        → Step s command Done (record s { content = d; names = names; lineage = lineage })
    copies-entered {d} {names} {lineage} {pages} {koid} whole is owns named_now known =
        let named = named_now ∙ ap (λ (k : ℕ). with_key s.names name.0 (owner k (not no_write) resizable)) is in
        let kept : lineage ≡ with_key s.lineage s.content.next (record { resizable = resizable; origin = Snapshot; parent = Some t.koid.0 }) =
        known ∙ ap {B = ℕ → Option Lineage} (λ (k : ℕ). with_key s.lineage k (record { resizable = resizable; origin = Snapshot; parent = Some t.koid.0 })) is in
        copies-done (record s { content = d; names = names; lineage = lineage })
        (subst (λ (n : ℕ). OwnsAll (snapshotted s.content t.koid.0 first seen n) s.content.next copies d) whole owns)
        (λ i. record s { content = d; names = named i; lineage = kept i })
