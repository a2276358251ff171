-- Laws of one page that changes in two ways: the contents that it leads to differ by an exchange of two frames.
use Rattle.std.proofs.Common.{◌≡◌, ◌≢◌, ℕ, ◌<◌, Bool, true, false, cond, ◌&&◌, ◌==◌, replicate, Option, None, Some, ◌↔◌, refl, sym, ap, subst, ◌∙◌, inl, inr, arith}
use Rattle.std.specs.Option.{option_map}
use Rattle.std.proofs.lemmas.Bool.{cases_Bool, cases_eq, cond-true, cond-false}
use Rattle.vm_base.specs.Pages.{replaced}
use Rattle.vm_base.proofs.SearchLaws.{eqb_same, eqb_apart}
use Rattle.vm_base.proofs.EntryLaws.{some_same}
use Rattle.vm_model.specs.Contents.Content.{Page, Content, shown, is_held, in_use, sole, hold, IsGood}
use Rattle.vm_model.specs.Contents.Owning.{Owns}
use Rattle.vm_model.specs.Contents.Writing.{Piece, piece, WritesPiece}
use Rattle.vm_model.specs.Contents.Zeroing.{is_cleared, ZeroesPage}
use Rattle.vm_model.specs.Space.Readiness.{frame_at}
use Rattle.vm_model.proofs.ContentLaws.{page-hold_here, not_in_use, sole_held, bytes_of-some}
use Rattle.moving_model.specs.Renaming.{Renaming, KeepsFrom, page_renamed, content_renamed}
use Rattle.moving_model.proofs.NumberLaws.{no_renaming}
use Rattle.moving_model.proofs.PageLaws.{hold-renamed}

-- ---- an exchange of two numbers

abbrev pub exchanged : ℕ → ℕ → ℕ → ℕ
exchanged s t k = cond (k == s) t (cond (k == t) s k)

pub exchanged-first : (s t : ℕ) → exchanged s t s ≡ t
exchanged-first s t = cond-true _ _ _ (eqb_same s)

pub exchanged-second : (s t : ℕ) → exchanged s t t ≡ s
exchanged-second s t = elim (cases_eq t s) [
  | inl same ↦ cond-true _ _ _ (ap (λ (k : ℕ). t == k) (sym same) ∙ eqb_same t) ∙ same
  | inr apart ↦ cond-false _ _ _ (eqb_apart t s apart) ∙ cond-true _ _ _ (eqb_same t)
]

pub exchanged-other : (s t k : ℕ) → k ≢ s → k ≢ t → exchanged s t k ≡ k
exchanged-other s t k first second = cond-false _ _ _ (eqb_apart k s first) ∙ cond-false _ _ _ (eqb_apart k t second)

pub exchanged-twice : (s t k : ℕ) → exchanged s t (exchanged s t k) ≡ k
exchanged-twice s t k = elim (cases_eq k s) [
  | inl same ↦ ap (λ (j : ℕ). exchanged s t (exchanged s t j)) same ∙ (ap (exchanged s t) (exchanged-first s t) ∙ (exchanged-second s t ∙ sym same))
  | inr first ↦ elim (cases_eq k t) [
    | inl same ↦ ap (λ (j : ℕ). exchanged s t (exchanged s t j)) same ∙ (ap (exchanged s t) (exchanged-second s t) ∙ (exchanged-first s t ∙ sym same))
    | inr second ↦ ap (exchanged s t) (exchanged-other s t k first second) ∙ exchanged-other s t k first second
  ]
]

abbrev pub exchange : ℕ → ℕ → Renaming
exchange s t = record { to = exchanged s t; back = exchanged s t; there = exchanged-twice s t; again = exchanged-twice s t }

pub exchange_keeps : (s t bound : ℕ) → s < bound → t < bound → KeepsFrom (exchange s t) bound
exchange_keeps s t bound h l k low = exchanged-other s t k (λ same. omega arith) (λ same. omega arith)

-- ---- contents whose pages keep their numbers

option_kept : (r : Renaming) (o : Option Page) → ((held : Page) → o ≡ Some held → r.to held.tag ≡ held.tag) → option_map (page_renamed r) o ≡ o
option_kept r None kept = refl
option_kept r (Some held) kept = λ i. Some (record held { tag = kept held refl i })

-- a renaming changes nothing where each frame in use keeps its number
pub content_kept : (r : Renaming) (c : Content) → ((v p : ℕ) (held : Page) → c.page v p ≡ Some held → r.to held.tag ≡ held.tag) → content_renamed r c ≡ c
content_kept r c kept = λ i. record c { page = λ v p. option_kept r (c.page v p) (kept v p) i }

pub content-same : (c : Content) → content_renamed no_renaming c ≡ c
content-same c = content_kept no_renaming c (λ v p held e. refl)

-- ---- two ways

-- A page changed from c to x and to y. They differ by a renaming that leaves all frames of c, and the page has in both the frame
-- that it had, or in none.
pub record AreTwo (c : Content) (v p : ℕ) (x y : Content) : Type 0 where
  pub by : Renaming
  pub within : KeepsFrom by c.frames
  pub stays : (w q : ℕ) (held : Page) → c.page w q ≡ Some held → by.to held.tag ≡ held.tag
  pub is : y ≡ content_renamed by x
  pub alike : (frame_at x v p ≡ frame_at c v p) ↔ (frame_at y v p ≡ frame_at c v p)

-- where the change leads to one content alone
pub AreTwo-same : (c : Content) (v p : ℕ) (x y : Content) → x ≡ y → AreTwo c v p x y
AreTwo-same c v p x y e = record {
  by = no_renaming;
  within = λ t h. refl;
  stays = λ w q held f. refl;
  is = sym e ∙ sym (content-same x);
  alike = (λ f. ap (λ (d : Content). frame_at d v p) (sym e) ∙ f, λ f. ap (λ (d : Content). frame_at d v p) e ∙ f);
}

-- a page with a frame that was free has not the frame that it had
new_frame : (c x : Content) (v p : ℕ) (held : Page) → IsGood c → in_use c held.tag ≡ false → x.page v p ≡ Some held → frame_at x v p ≢ frame_at c v p
new_frame c x v p held good free e same = go (c.page v p) refl (sym (ap (option_map (λ (page : Page). page.tag)) e) ∙ same) where
  go : (o : Option Page) → c.page v p ≡ o → Some held.tag ≡ option_map (λ (page : Page). page.tag) o → ⊥
  go None f g = absurd cc
  go (Some old) f g = not_in_use c held.tag v p old good free f (sym (some_same g))

-- Two frames that are free, of which either may be what a page gets
module _ (c : Content) (v p : ℕ) (good : IsGood c) (a b : Page) (bytes : a.bytes ≡ b.bytes) (low : a.tag < c.frames) (less : b.tag < c.frames)
    (free : in_use c a.tag ≡ false) (open_too : in_use c b.tag ≡ false) where
  stays : (w q : ℕ) (held : Page) → c.page w q ≡ Some held → exchanged a.tag b.tag held.tag ≡ held.tag
  stays w q held e = exchanged-other a.tag b.tag held.tag (not_in_use c a.tag w q held good free e) (not_in_use c b.tag w q held good open_too e)

  AreTwo-hold : AreTwo c v p (hold c v p a) (hold c v p b)
  AreTwo-hold = record {
    by = exchange a.tag b.tag;
    within = exchange_keeps a.tag b.tag c.frames low less;
    stays = stays;
    is =
        let now : page_renamed (exchange a.tag b.tag) a ≡ b = λ i. record { tag = exchanged-first a.tag b.tag i; bytes = bytes i } in
        sym (hold-renamed (exchange a.tag b.tag) c v p a
        ∙ ((λ i. hold (content_kept (exchange a.tag b.tag) c stays i) v p (now i))));
    alike = (
      λ e. absurd (new_frame c (hold c v p a) v p a good free (page-hold_here c v p a) e),
      λ e. absurd (new_frame c (hold c v p b) v p b good open_too (page-hold_here c v p b) e),
    );
  }

pub AreTwo-Owns : (c x y : Content) (v p s t : ℕ) → IsGood c → Owns c x v p s → Owns c y v p t → AreTwo c v p x y
AreTwo-Owns c x y v p s t good one other = elim (cases_Bool (sole c v p)) [
  | inl alone ↦ AreTwo-same c v p x y ((one.stays alone).0 ∙ sym (other.stays alone).0)
  | inr shared ↦
      let a = one.copies shared in
      let b = other.copies shared in
      let two = AreTwo-hold c v p good (record { tag = s; bytes = shown c v p }) (record { tag = t; bytes = shown c v p }) refl a.0 b.0 a.1 b.1 in
      subst (λ (d : Content). AreTwo c v p x d) (sym b.2) (subst (λ (d : Content). AreTwo c v p d (hold c v p (record { tag = t; bytes = shown c v p }))) (sym a.2) two)
]

-- a page held twice is held as the second time
hold-twice : (c : Content) (v p : ℕ) (a b : Page) → hold (hold c v p a) v p b ≡ hold c v p b
unfolding hold
hold-twice c v p a b = λ i. record c { page = λ w q. once ((w == v) && (q == p)) (c.page w q) i } where
  once : (d : Bool) (o : Option Page) → cond d (Some b) (cond d (Some a) o) ≡ cond d (Some b) o
  once true o = refl
  once false o = refl

shown_here : (c : Content) (v p : ℕ) (held : Page) → shown (hold c v p held) v p ≡ held.bytes
shown_here c v p held = bytes_of-some _ held (page-hold_here c v p held)

held_new : (c x : Content) (part : Piece) (w : WritesPiece c part x) → sole c part.koid part.page ≡ false
    → x ≡ hold c part.koid part.page (record { tag = w.tag; bytes = replaced (shown c part.koid part.page) part.at part.bytes })
held_new c x part w shared =
    let v = part.koid in
    let p = part.page in
    let copies = w.owns.copies shared in
    let old : Page = record { tag = w.tag; bytes = shown c v p } in
    let same : shown w.owned v p ≡ shown c v p = ap (λ (d : Content). shown d v p) copies.2 ∙ shown_here c v p old in
    w.bytes ∙ ((λ i. hold (copies.2 i) v p (record { tag = w.tag; bytes = replaced (same i) part.at part.bytes }))
    ∙ hold-twice c v p old (record { tag = w.tag; bytes = replaced (shown c v p) part.at part.bytes }))

pub AreTwo-WritesPiece : (c x y : Content) (part : Piece) → IsGood c → WritesPiece c part x → WritesPiece c part y → AreTwo c part.koid part.page x y
AreTwo-WritesPiece c x y part good one other = elim (cases_Bool (sole c part.koid part.page)) [
  | inl alone ↦
      let v = part.koid in
      let p = part.page in
      let held = sole_held c v p alone in
      let a = one.owns.stays alone in
      let b = other.owns.stays alone in
      let owned : one.owned ≡ other.owned = a.0 ∙ sym b.0 in
      let tag : one.tag ≡ other.tag = a.1 held.0 held.1 ∙ sym (b.1 held.0 held.1) in
      AreTwo-same c v p x y (one.bytes ∙ ((λ i. hold (owned i) v p (record { tag = tag i; bytes = replaced (shown (owned i) v p) part.at part.bytes })) ∙ sym other.bytes))
  | inr shared ↦
      let v = part.koid in
      let p = part.page in
      let a = one.owns.copies shared in
      let b = other.owns.copies shared in
      let page : ℕ → Page = λ t. record { tag = t; bytes = replaced (shown c v p) part.at part.bytes } in
      let two = AreTwo-hold c v p good (page one.tag) (page other.tag) refl a.0 b.0 a.1 b.1 in
      let first : x ≡ hold c v p (page one.tag) = held_new c x part one shared in
      let second : y ≡ hold c v p (page other.tag) = held_new c y part other shared in
      subst (λ (d : Content). AreTwo c v p x d) (sym second) (subst (λ (d : Content). AreTwo c v p d (hold c v p (page other.tag))) (sym first) two)
]

pub AreTwo-ZeroesPage : (c x y : Content) (v : ℕ) (pinned : ℕ → Bool) (offset len p : ℕ) → IsGood c → ZeroesPage c v pinned offset len p x
    → ZeroesPage c v pinned offset len p y → AreTwo c v p x y
AreTwo-ZeroesPage c x y v pinned offset len p good one other = elim (cases_Bool (is_cleared pinned offset len p)) [
  | inl cleared ↦ AreTwo-same c v p x y (one.cleared cleared ∙ sym (other.cleared cleared))
  | inr part ↦ elim (cases_Bool (is_held c v p)) [
    | inl held ↦ AreTwo-WritesPiece c x y (piece v offset (replicate len 0) p) good (one.held part held) (other.held part held)
    | inr free ↦ AreTwo-same c v p x y (one.zero part free ∙ sym (other.zero part free))
  ]
]
