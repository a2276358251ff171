-- Laws of steps: a good state leads to a good state, and at most one koid is given.
use Rattle.std.proofs.Common.{◌≡◌, ◌≢◌, ℕ, zero, suc, ◌+◌, ◌-◌, ◌*◌, ◌/◌, ◌<◌, ◌≤◌, inl, inr, ◌&&◌, ◌==◌, not, Bool, true, false, cond, List, [], ◌∷◌, length, map, Option, None, Some, refl, sym, ap, subst, ◌∙◌, arith}
use Rattle.std.specs.Prelude.{IsSome, is_some, nat_eq, nat_lt, unwrap_or, option_map}
use Rattle.std.specs.List.{AllByRecursion, filter, range_with_len}
use Rattle.std.specs.Cmp.Lexicographic.{pointwise}
use Rattle.std.proofs.lemmas.Bool.{cases_eq, and_parts, not-false, ltb-false, ltb-true}
use Rattle.vm_base.specs.declared.limits.TheConstants.{PAGE, SOURCE_PAGES, SOURCE_BYTES}
use Rattle.vm_base.specs.declared.refusal.Refusal.{Refusal}
use Rattle.vm_base.specs.Entries.{with_key, passes}
use Rattle.vm_base.specs.Pages.{rounded}
use Rattle.vm_base.proofs.EntryLaws.{some_is, some_same, none_is, passes_found, with_key-same, with_key-other}
use Rattle.vm_base.proofs.SearchLaws.{eqb_is, eqb_apart}
use Rattle.vm_model.specs.Machine.Words.{Reply}
use Rattle.vm_model.specs.Contents.Content.{Content, Page, IsGood, nothing, pages_of, is_held, created}
use Rattle.vm_model.specs.Contents.Sharing.{snapshotted}
use Rattle.vm_model.specs.Contents.Writing.{piece, pieces, touched, touched_end}
use Rattle.vm_model.specs.Contents.Zeroing.{is_within}
use Rattle.vm_model.specs.Machine.Refusals.{first_of}
use Rattle.vm_model.proofs.ContentLaws.{IsGood-nothing, IsGood-created, IsGood-part, own_pages}
use Rattle.vm_model.proofs.SharingLaws.{IsGood-snapshotted, count-snapshotted_new, koid_held}
use Rattle.vm_model.proofs.RangeLaws.{touched-row, touched-nil, touched_end_le, touched_below, part_fits}
use Rattle.vm_model.proofs.StepLaws.{AllOff-from_none}
use Rattle.source_model.specs.declared.backing.Backing.{Backing}
use Rattle.source_model.specs.declared.link.Link.{Link}
use Rattle.source_model.specs.Words.{SourceCommand}
use Rattle.source_model.specs.declared.command.SourceCommand.TheVariants.{Create, Child, Loose, Close, Read, Write, Supply, Evict, Stat}
use Rattle.source_model.specs.Sources.{backing_text, held_text, text_over}
use Rattle.source_model.specs.Links.{page_below, read_end, walked}
use Rattle.vm_model.specs.Contents.Owning.{VmoPage}
use Rattle.source_model.specs.State.{SourceState, empty_sources, state_over, below_of, is_source_open, source_koid_of, FillsEach, is_absent, supply_of, is_clean, evicted, seen_of, moved, with_source, with_child, with_loose}
use Rattle.source_model.specs.Commands.{SourceStep, SourceStepAfter, SourceEffect, source_refusals}
use Rattle.source_model.specs.Good.{IsGoodSources, IsGoodBacking, IsGoodLink}
use Rattle.source_model.proofs.LinkLaws.{below-same, below-unlinked, text-only, walked-end}
use Rattle.source_model.proofs.BesideLaws.{IsFresh, text_source, text_loose, links_smaller}
use Rattle.source_model.proofs.ChildLaws.{text_child}
use Rattle.source_model.proofs.KeepLaws.{KeepsSources, KeepsSources-same, smaller_of, state_is, kept_good, Filled, IsInside, each_filled, entered, left_good}

Filled-keeps : (old new : SourceState) → Filled old new → KeepsSources old new
Filled-keeps old new filled = record { good = filled.good; next = omega (arith, filled.kept.next) }

-- ---- the pages of a range

row_each : (P : ℕ → Type 0) (first n : ℕ) → ((p : ℕ) → first ≤ p → p < first + n → P p) → AllByRecursion P (range_with_len first n)
row_each P first zero each = tt
row_each P first (suc n) each =
    (each first (omega arith) (omega arith), row_each P (first + 1) n (λ p low less. each p (omega (arith, low)) (omega (arith, less))))

touched_each : (P : ℕ → Type 0) (offset len pages : ℕ) → offset + len ≤ pages * PAGE → ((p : ℕ) → offset / PAGE ≤ p → p < pages → P p)
    → AllByRecursion P (touched offset len)
touched_each P offset zero pages h each = subst (AllByRecursion P) (sym (touched-nil offset)) tt
touched_each P offset (suc len) pages h each =
    let last = touched_end_le offset (suc len) pages h in
    let below = touched_below offset (suc len) (omega arith) in
    subst (AllByRecursion P) (sym (touched-row offset (suc len) (omega arith)))
    (row_each P (offset / PAGE) (touched_end offset (suc len) - offset / PAGE) (λ p low less. each p low (omega (arith, less, last, below))))

filtered_each : {A : Type 0} (P Q : A → Type 0) (test : A → Bool) (xs : List A) → ((x : A) → test x ≡ true → Q x → P x) → AllByRecursion Q xs → AllByRecursion P (filter test xs)
filtered_each P Q test [] pass all = tt
filtered_each P Q test (x ∷ xs) pass all = go (test x) refl (filtered_each P Q test xs pass all.1) where
  go : (bit : Bool) → test x ≡ bit → AllByRecursion P (filter test xs) → AllByRecursion P (cond bit (x ∷ filter test xs) (filter test xs))
  go true e rest = (pass x e all.0, rest)
  go false e rest = rest

mapped_each : {A B : Type 0} (P : B → Type 0) (f : A → B) (xs : List A) → AllByRecursion (λ x. P (f x)) xs → AllByRecursion P (map f xs)
mapped_each P f [] all = tt
mapped_each P f (x ∷ xs) all = (all.0, mapped_each P f xs all.1)

all_any : {A : Type 0} (xs : List A) → AllByRecursion (λ x. ◌≡◌ {A = ℕ} 0 0) xs
all_any [] = tt
all_any (x ∷ xs) = (refl, all_any xs)

supply_good : (s new : SourceState) (v offset len : ℕ) (test : ℕ → Bool) → IsGoodSources s → offset + len ≤ pages_of s.content v * PAGE
    → FillsEach s (map (supply_of v) (filter test (touched offset len))) new → KeepsSources s new
supply_good s new v offset len test good h fills =
    let pages = pages_of s.content in
    Filled-keeps s new (each_filled s new (map (supply_of v) (filter test (touched offset len))) pages good (λ w. refl)
    (mapped_each (IsInside pages) (supply_of v) (filter test (touched offset len))
    (filtered_each (λ p. IsInside pages (supply_of v p)) (λ p. IsInside pages (supply_of v p)) test (touched offset len) (λ p e x. x)
    (touched_each (λ p. IsInside pages (supply_of v p)) offset len (pages v) h (λ p low less. (less, omega arith))))) fills)

write_good : (s new : SourceState) (v offset : ℕ) (bytes : List ℕ) → IsGoodSources s → offset + length bytes ≤ pages_of s.content v * PAGE
    → FillsEach s (pieces v offset bytes) new → KeepsSources s new
unfolding pieces
write_good s new v offset bytes good h fills =
    let pages = pages_of s.content in
    Filled-keeps s new (each_filled s new (map (piece v offset bytes) (touched offset (length bytes))) pages good (λ w. refl)
    (mapped_each (IsInside pages) (piece v offset bytes) (touched offset (length bytes))
    (touched_each (λ p. IsInside pages (piece v offset bytes p)) offset (length bytes) (pages v) h (λ p low less. (less, part_fits offset bytes p low)))) fills)

-- an absent page is a page of a VMO with a backing
absent_inside : (s : SourceState) (v p : ℕ) → IsGoodSources s → is_absent s.content (s.backing v) v p ≡ true → p < pages_of s.content v
unfolding is_absent
absent_inside s v p good e =
    let parts = and_parts (not (is_held s.content v p)) (passes (λ (b : Backing). nat_lt p b.seen) (s.backing v)) e in
    let found = passes_found (λ (b : Backing). nat_lt p b.seen) (s.backing v) parts.1 in
    omega (arith, ltb-true p found.0.seen found.2, (good.backing v found.0 found.1).seen)

read_good : (s new : SourceState) (ends : List VmoPage) → IsGoodSources s
    → FillsEach s (map (λ (at : VmoPage). supply_of at.koid at.page) (filter (λ (at : VmoPage). is_absent s.content (s.backing at.koid) at.koid at.page) ends)) new → KeepsSources s new
read_good s new ends good fills =
    let pages = pages_of s.content in
    let test = λ (at : VmoPage). is_absent s.content (s.backing at.koid) at.koid at.page in
    let of = λ (at : VmoPage). supply_of at.koid at.page in
    Filled-keeps s new (each_filled s new (map of (filter test ends)) pages good (λ w. refl)
    (mapped_each (IsInside pages) of (filter test ends)
    (filtered_each (λ at. IsInside pages (of at)) (λ at. ◌≡◌ {A = ℕ} 0 0) test ends (λ at e x. (absent_inside s at.koid at.page good e, omega arith)) (all_any ends))) fills)

-- ---- evictions

pub same_lists : (xs ys : List ℕ) → pointwise nat_eq xs ys ≡ true → xs ≡ ys
same_lists [] [] e = refl
same_lists [] (y ∷ ys) e = absurd cc
same_lists (x ∷ xs) [] e = absurd cc
same_lists (x ∷ xs) (y ∷ ys) e =
    let both = and_parts (x == y) (pointwise nat_eq xs ys) e in
    ap (λ (z : ℕ). z ∷ xs) (eqb_is x y both.0) ∙ ap (λ (zs : List ℕ). y ∷ zs) (same_lists xs ys both.1)

module _ (s : SourceState) (good : IsGoodSources s) (v first end : ℕ) (unlinked : s.link v ≡ None) where
  abbrev left : Content
  left = evicted s v first end

  abbrev bit_at : ℕ → ℕ → Bool
  bit_at w q = (w == v) && (is_within first end q && is_clean s v q)

  page_left : (w q : ℕ) → left.page w q ≡ cond (bit_at w q) None (s.content.page w q)
  unfolding evicted
  page_left w q = refl

  page_some : (w q : ℕ) (held : Page) → left.page w q ≡ Some held → s.content.page w q ≡ Some held
  page_some w q held e = go (bit_at w q) (sym (page_left w q) ∙ e) where
    go : (bit : Bool) → cond bit None (s.content.page w q) ≡ Some held → s.content.page w q ≡ Some held
    go true f = absurd cc
    go false f = f

  page_beside : (w q : ℕ) → w ≢ v → left.page w q ≡ s.content.page w q
  page_beside w q apart = page_left w q ∙ ap (λ (t : Bool). cond (t && (is_within first end q && is_clean s v q)) None (s.content.page w q)) (eqb_apart w v apart)

  content_good : IsGood left
  unfolding evicted pages_of
  content_good = IsGood-part s.content left good.content (record {
    frames = refl;
    first_koid = good.content.first_koid;
    counts = λ w n e. ((good.content.koids w n e).0, (good.content.koids w n e).1, good.content.counts w n e);
    below = λ w q held e. good.content.below w q held (page_some w q held e);
    pages = own_pages s.content left page_some;
  })

  below_left : (w q : ℕ) → page_below left s.link w q ≡ page_below s.content s.link w q
  below_left w q = elim (cases_eq w v) [
    | inl same ↦ rw same (below-unlinked left s.link v q unlinked ∙ sym (below-unlinked s.content s.link v q unlinked))
    | inr apart ↦ below-same s.content left s.link s.link w q (ap is_some (page_beside w q apart)) refl
  ]

  -- the text of a clean page is that of its backing
  clean_text : (q : ℕ) → is_clean s v q ≡ true → text_over s.content s.backing v q ≡ backing_text (s.backing v) q
  unfolding is_clean
  clean_text q e =
      let parts = and_parts (is_held s.content v q) (pointwise nat_eq (s.text v q) (backing_text (s.backing v) q)) e in
      sym (text-only s good.text (smaller_of s good) v q ∙ walked-end s.content s.backing (page_below s.content s.link) v q (below-unlinked s.content s.link v q unlinked))
      ∙ same_lists (s.text v q) (backing_text (s.backing v) q) parts.1

  over_left : (w q : ℕ) → text_over left s.backing w q ≡ text_over s.content s.backing w q
  unfolding text_over held_text
  over_left w q = ap (λ (o : Option Page). held_text o (backing_text (s.backing w) q)) (page_left w q) ∙ go (bit_at w q) refl where
    go : (bit : Bool) → bit_at w q ≡ bit → held_text (cond bit None (s.content.page w q)) (backing_text (s.backing w) q) ≡ held_text (s.content.page w q) (backing_text (s.backing w) q)
    go false e = refl
    go true e =
        let parts = and_parts (w == v) (is_within first end q && is_clean s v q) e in
        let clean = (and_parts (is_within first end q) (is_clean s v q) parts.1).1 in
        let same = eqb_is w v parts.0 in
        rw same (sym (clean_text q clean))

  evict_good : KeepsSources s (record s { content = left })
  unfolding evicted walked
  evict_good = record {
    good = kept_good s left s.text good content_good refl (λ w q.
        text-only s good.text (smaller_of s good) w q
        ∙ (sym (over_left (read_end (below_of s) w q).koid (read_end (below_of s) w q).page)
        ∙ ap (λ below. text_over left s.backing (read_end below w q).koid (read_end below w q).page) (λ i u r. sym (below_left u r) i)));
    next = omega arith;
  }

-- ---- VMOs that come and go

pub fresh_of : (s : SourceState) → IsGoodSources s → IsFresh s.content s.backing s.link
fresh_of s good =
    let none : s.content.count s.content.next ≡ None = no_count (s.content.count s.content.next) refl in
    record {
      page = λ p. no_page p (s.content.page s.content.next p) refl;
      backing = (good.others s.content.next none).0;
      link = (good.others s.content.next none).1;
      childless = λ w l e same. let there = some_is (s.content.count l.parent.0) (good.link w l e).vmo in
          let below = (good.content.koids l.parent.0 there.0 there.1).1 in omega (arith, below, same);
      smaller = smaller_of s good;
    } where
      no_count : (o : Option ℕ) → s.content.count s.content.next ≡ o → s.content.count s.content.next ≡ None
      no_count None e = e
      no_count (Some n) e = absurd (let below = (good.content.koids s.content.next n e).1 in omega (arith, below))

      no_page : (p : ℕ) (o : Option Page) → s.content.page s.content.next p ≡ o → s.content.page s.content.next p ≡ None
      no_page p None e = e
      no_page p (Some held) e = absurd (let below = koid_held s.content s.content.next p held good.content e in omega (arith, below))

create_good : (s new : SourceState) (name pages : ℕ) (b : Backing) → IsGoodSources s → s.names name ≡ None → pages ≤ SOURCE_PAGES → b.kind ≤ 2
    → b.seen ≤ pages → b.base + b.seen ≤ SOURCE_PAGES → new ≡ with_source s name pages b → KeepsSources s new
unfolding created with_source pages_of
create_good s new name pages b good closed few kind seen inside e =
    let c = s.content in
    let fresh = fresh_of s good in
    let d = created c pages in
    let bs = with_key s.backing c.next b in
    let is : new ≡ state_over d (with_key s.names name c.next) bs s.link =
    e ∙ (ap (λ (x : SourceState). with_source x name pages b) (state_is s good)
    ∙ λ i. record { content = d; names = with_key s.names name c.next; backing = bs; link = s.link; text = λ w q. sym (text_source c s.names s.backing s.link fresh pages b w q) i }) in
    let none : s.link c.next ≡ None = fresh.link in
    let here : with_key s.backing c.next b c.next ≡ Some b = with_key-same s.backing c.next b in
    let size = ap (λ (o : Option ℕ). unwrap_or o 0) (with_key-same c.count c.next pages) in
    record {
      good = subst IsGoodSources (sym is) (entered s good d name pages bs s.link closed (IsGood-created c pages good.content (omega (arith, few)))
          (with_key-same c.count c.next pages) (λ v apart. with_key-other c.count c.next pages v apart) few
          (λ v apart. with_key-other s.backing c.next b v apart) (λ v apart. refl)
          (ap is_some here ∙ ap (λ (o : Option Link). not (is_some o)) (sym none))
          (λ x f. subst (IsGoodBacking d c.next) (some_same (sym here ∙ f)) (record { kind = kind; seen = omega (arith, seen, size); inside = inside }))
          (λ l f. absurd (let no : ◌≡◌ {A = Option Link} None (Some l) = sym none ∙ f in cc)) (smaller_of s good));
      next = let same = ap (λ (x : SourceState). x.content.next) is in omega (arith, same);
    }

-- the backing of a child ends in the child, and lies in the source
moved_few : (start pages : ℕ) (b : Backing) → (moved start pages b).seen ≤ pages
unfolding moved
moved_few start pages b = omega arith

moved_inside : (start pages : ℕ) (b : Backing) → b.base + b.seen ≤ SOURCE_PAGES → (moved start pages b).base + (moved start pages b).seen ≤ SOURCE_PAGES
unfolding moved
moved_inside start pages b h = elim (cases_eq (seen_of b.seen start pages) 0) [
  | inl none ↦
      let at : cond (seen_of b.seen start pages == 0) 0 (b.base + start) ≡ 0 =
      ap (λ (n : ℕ). cond (n == 0) 0 (b.base + start)) none in
      omega (arith, at, none)
  | inr some ↦
      let at : cond (seen_of b.seen start pages == 0) 0 (b.base + start) ≡ b.base + start =
      ap (λ (t : Bool). cond t 0 (b.base + start)) (eqb_apart (seen_of b.seen start pages) 0 some) in
      omega (arith, at, some, h)
]

child_good : (s new : SourceState) (name v start pages : ℕ) (b : Backing) → IsGoodSources s → s.names name ≡ None → pages ≤ SOURCE_PAGES → s.backing v ≡ Some b → s.link v ≡ None
    → new ≡ with_child s name v start pages → KeepsSources s new
unfolding snapshotted moved with_child pages_of with_key
child_good s new name v start pages b good closed few e unlinked is_child =
    let c = s.content in
    let fresh = fresh_of s good in
    let was = good.backing v b e in
    let seen = seen_of (pages_of c v) start pages in
    let d = snapshotted c v start seen pages in
    let m = moved start pages b in
    let bs = with_key s.backing c.next m in
    let back : Some m ≡ option_map (moved start pages) (s.backing v) = ap (option_map (moved start pages)) (sym e) in
    let is : new ≡ state_over d (with_key s.names name c.next) bs s.link =
    is_child ∙ (ap (λ (x : SourceState). with_child x name v start pages) (state_is s good)
    ∙ λ i. record {
      content = d;
      names = with_key s.names name c.next;
      backing = λ w. cond (w == c.next) (sym back i) (s.backing w);
      link = s.link;
      text = λ w q. sym (text_child c s.backing s.link fresh v start pages b e unlinked was.seen w q) i;
    }) in
    let none : s.link c.next ≡ None = fresh.link in
    let here : bs c.next ≡ Some m = with_key-same s.backing c.next m in
    let count = count-snapshotted_new c v start seen pages in
    let size = ap (λ (o : Option ℕ). unwrap_or o 0) count in
    record {
      good = subst IsGoodSources (sym is) (entered s good d name pages bs s.link closed (IsGood-snapshotted c v start seen pages good.content (omega arith) (omega (arith, few)))
          count (λ w apart. ap (λ (t : Bool). cond t (Some pages) (c.count w)) (eqb_apart w c.next apart)) few
          (λ w apart. with_key-other s.backing c.next m w apart) (λ w apart. refl)
          (ap is_some here ∙ ap (λ (o : Option Link). not (is_some o)) (sym none))
          (λ x f. subst (IsGoodBacking d c.next) (some_same (sym here ∙ f))
          (record { kind = was.kind; seen = (let short = moved_few start pages b in omega (arith, short, size)); inside = moved_inside start pages b was.inside }))
          (λ l f. absurd (let no : ◌≡◌ {A = Option Link} None (Some l) = sym none ∙ f in cc)) (smaller_of s good));
      next = let same = ap (λ (x : SourceState). x.content.next) is in omega (arith, same);
    }

loose_good : (s new : SourceState) (name v start pages : ℕ) → IsGoodSources s → s.names name ≡ None → pages ≤ SOURCE_PAGES → IsSome (s.content.count v)
    → new ≡ with_loose s name v start pages → KeepsSources s new
unfolding created with_loose pages_of
loose_good s new name v start pages good closed few there e =
    let c = s.content in
    let fresh = fresh_of s good in
    let vmo = some_is (c.count v) there in
    let older : v < c.next = (good.content.koids v vmo.0 vmo.1).1 in
    let seen = seen_of (pages_of c v) start pages in
    let l : Link = record { parent = record { 0 = v }; base = start; seen = seen } in
    let d = created c pages in
    let ls = with_key s.link c.next l in
    let is : new ≡ state_over d (with_key s.names name c.next) s.backing ls =
    e ∙ (ap (λ (x : SourceState). with_loose x name v start pages) (state_is s good)
    ∙ λ i. record { content = d; names = with_key s.names name c.next; backing = s.backing; link = ls; text = λ w q. sym (text_loose c s.names s.backing s.link fresh v start seen pages older w q) i }) in
    let none : s.backing c.next ≡ None = fresh.backing in
    let here : ls c.next ≡ Some l = with_key-same s.link c.next l in
    let size = ap (λ (o : Option ℕ). unwrap_or o 0) (with_key-same c.count c.next pages) in
    let other : d.count v ≡ c.count v = with_key-other c.count c.next pages v (λ same. omega (arith, older, same)) in
    let parent = ap (λ (o : Option ℕ). unwrap_or o 0) other in
    record {
      good = subst IsGoodSources (sym is) (entered s good d name pages s.backing ls closed (IsGood-created c pages good.content (omega (arith, few)))
          (with_key-same c.count c.next pages) (λ w apart. with_key-other c.count c.next pages w apart) few
          (λ w apart. refl) (λ w apart. with_key-other s.link c.next l w apart)
          (ap is_some none ∙ ap (λ (o : Option Link). not (is_some o)) (sym here))
          (λ x f. absurd (let no : ◌≡◌ {A = Option Backing} None (Some x) = sym none ∙ f in cc))
          (λ k f. subst (IsGoodLink d c.next) (some_same (sym here ∙ f))
          (record { smaller = older; vmo = ap is_some other ∙ there; seen = omega (arith, size); inside = λ some. omega (arith, some, parent) }))
          (links_smaller c s.names s.backing s.link fresh v start seen pages older));
      next = let same = ap (λ (x : SourceState). x.content.next) is in omega (arith, same);
    }

-- ---- each command

-- the VMO of an open name
opened : (s : SourceState) (name : ℕ) → IsGoodSources s → not (is_source_open s name) ≡ false → (s.names name ≡ Some (source_koid_of s name)) × IsSome (s.content.count (source_koid_of s name))
unfolding source_koid_of
opened s name good e =
    let there = some_is (s.names name) (not-false (is_source_open s name) e) in
    let koid : source_koid_of s name ≡ there.0 = ap (λ (o : Option ℕ). unwrap_or o 0) there.1 in
    let named : s.names name ≡ Some (source_koid_of s name) = there.1 ∙ ap (λ (k : ℕ). Some k) (sym koid) in
    (named, good.known name (source_koid_of s name) named)

-- one that is not loose has a backing
backed : (s : SourceState) (v : ℕ) → IsGoodSources s → IsSome (s.content.count v) → is_some (s.link v) ≡ false → (s.link v ≡ None) × ((b : Backing) × (s.backing v ≡ Some b))
backed s v good there tight = (none_is (s.link v) tight, some_is (s.backing v) (good.either v there ∙ ap not tight))

effect_keeps : (old new : SourceState) (command : SourceCommand) (reply : Reply) → IsGoodSources old → first_of (source_refusals old command) ≡ None
    → SourceEffect old command reply new → KeepsSources old new
effect_keeps old new (Create name size kind seed) reply good none effect =
    let off = AllOff-from_none (source_refusals old (Create name size kind seed)) none in
    let known = ltb-false 2 kind off.1.0 in
    let fits = ltb-false SOURCE_BYTES (rounded size) off.1.1.0 in
    create_good old new name.0 (rounded size / PAGE) _ good (none_is (old.names name.0) off.0) (omega (arith, fits)) known (omega arith) (omega (arith, fits)) effect.1
effect_keeps old new (Child name parent offset size) reply good none effect =
    let off = AllOff-from_none (source_refusals old (Child name parent offset size)) none in
    let of = opened old parent.0 good off.0 in
    let back = backed old (source_koid_of old parent.0) good of.1 off.1.1.1.0 in
    let fits = ltb-false SOURCE_BYTES (offset + rounded size) off.1.1.1.1.0 in
    child_good old new name.0 (source_koid_of old parent.0) (offset / PAGE) (rounded size / PAGE) back.1.0 good (none_is (old.names name.0) off.1.0) (omega (arith, fits)) back.1.1 back.0 effect.1
effect_keeps old new (Loose name parent offset size) reply good none effect =
    let off = AllOff-from_none (source_refusals old (Loose name parent offset size)) none in
    let of = opened old parent.0 good off.0 in
    let fits = ltb-false SOURCE_BYTES (offset + rounded size) off.1.1.1.0 in
    loose_good old new name.0 (source_koid_of old parent.0) (offset / PAGE) (rounded size / PAGE) good (none_is (old.names name.0) off.1.0) (omega (arith, fits)) of.1 effect.1
effect_keeps old new (Close name) reply good none effect = left_good old new good name.0 effect.1
effect_keeps old new (Read name offset len) reply good none effect = read_good old new _ good effect.1
effect_keeps old new (Write name offset bytes) reply good none effect =
    let off = AllOff-from_none (source_refusals old (Write name offset bytes)) none in
    write_good old new (source_koid_of old name.0) offset bytes good (ltb-false (pages_of old.content (source_koid_of old name.0) * PAGE) (offset + length bytes) off.1.0) effect.1
effect_keeps old new (Supply name offset len) reply good none effect =
    let off = AllOff-from_none (source_refusals old (Supply name offset len)) none in
    supply_good old new (source_koid_of old name.0) offset len _ good (ltb-false (pages_of old.content (source_koid_of old name.0) * PAGE) (offset + len) off.1.1.1.0) effect.1
effect_keeps old new (Evict name offset len) reply good none effect =
    let off = AllOff-from_none (source_refusals old (Evict name offset len)) none in
    subst (KeepsSources old) (sym effect.1) (evict_good old good (source_koid_of old name.0) (offset / PAGE) ((offset + len) / PAGE) (none_is (old.link (source_koid_of old name.0)) off.1.1.0))
effect_keeps old new Stat reply good none effect = KeepsSources-same old new good effect.1

-- a step keeps the state good, and gives at most one koid
pub SourceStep-keeps : (old new : SourceState) (command : SourceCommand) (reply : Reply) → IsGoodSources old → SourceStep old command reply new → KeepsSources old new
SourceStep-keeps old new command reply good step = go (first_of (source_refusals old command)) refl step.outcome where
  go : (o : Option Refusal) → first_of (source_refusals old command) ≡ o → SourceStepAfter o old command reply new → KeepsSources old new
  go (Some refusal) e refused = KeepsSources-same old new good refused.same
  go None e (inr lacked) = KeepsSources-same old new good lacked.0.same
  go None e (inl effect) = effect_keeps old new command reply good e effect

-- page frames and nothing else
pub IsGoodSources-empty : (frames : ℕ) → IsGoodSources (empty_sources frames)
unfolding empty_sources nothing held_text backing_text
IsGoodSources-empty frames = record {
  content = IsGood-nothing frames;
  counts = λ v n e. absurd cc;
  live = λ v h. absurd cc;
  known = λ n v e. absurd cc;
  once = λ n m v e f. absurd cc;
  either = λ v h. absurd cc;
  others = λ v e. (refl, refl);
  backing = λ v b e. absurd cc;
  link = λ v l e. absurd cc;
  text = record {
    own = λ v p held e. absurd cc;
    shown = λ v p at e. absurd (let none = below-unlinked (record nothing { frames = frames }) (λ w. None) v p refl in cc);
    backed = λ v p free e. refl;
  };
}
