-- Laws of VMOs that leave upwards: what is closed in the end is what does not live.
use Rattle.std.proofs.Common.{◌≡◌, ◌≢◌, ℕ, ◌<◌, ◌⊎◌, inl, inr, Option, None, Some, refl, sym, ap, subst, ◌∙◌, arith}
use Rattle.std.specs.Prelude.{IsSome, is_some}
use Rattle.std.proofs.lemmas.Bool.{cases_eq}
use Rattle.vm_base.proofs.EntryLaws.{some_same}
use Rattle.source_model.specs.declared.link.Link.{Link}
use Rattle.source_model.specs.State.{SourceState}
use Rattle.source_model.specs.Living.{IsLive, by_name, by_child, StaysAt, IsGoneAt, Leaves}

-- a VMO without a name and without a loose child
pub record IsUnkept (s : SourceState) (v : ℕ) : Type 0 where
  pub unnamed : (n : ℕ) → s.names n ≡ Some v → ⊥
  pub childless : (w : ℕ) (l : Link) → s.link w ≡ Some l → l.parent.0 ≡ v → ⊥

-- it does not live
unkept_dead : (s : SourceState) (v : ℕ) → IsUnkept s v → IsLive s v → ⊥
unkept_dead s v unkept (by_name n w e) = unkept.unnamed n e
unkept_dead s v unkept (by_child w u l e f live) = unkept.childless w l e f

-- From s, some VMOs that did not live have left, and nothing else changed.
pub record HasLeft (s now : SourceState) : Type 0 where
  pub frames : now.content.frames ≡ s.content.frames
  pub next : now.content.next ≡ s.content.next
  pub names : now.names ≡ s.names
  pub each : (v : ℕ) → StaysAt s now v ⊎ ((IsLive s v → ⊥) × IsGoneAt now v)

-- what lives, lives on
live_on : (s now : SourceState) → HasLeft s now → (v : ℕ) → IsLive s v → IsLive now v
live_on s now left v (by_name n w e) = by_name n w (ap (λ (f : ℕ → Option ℕ). f n) left.names ∙ e)
live_on s now left v (by_child w u l e f live) = elim (left.each w) [
  | inl stays ↦ by_child w u l (stays.link ∙ e) f (live_on s now left w live)
  | inr gone ↦ absurd (gone.0 live)
]

-- and nothing comes to life
live_before : (s now : SourceState) → HasLeft s now → (v : ℕ) → IsLive now v → IsLive s v
live_before s now left v (by_name n w e) = by_name n w (sym (ap (λ (f : ℕ → Option ℕ). f n) left.names) ∙ e)
live_before s now left v (by_child w u l e f live) = elim (left.each w) [
  | inl stays ↦ by_child w u l (sym stays.link ∙ e) f (live_before s now left w live)
  | inr gone ↦ absurd (let none = gone.1.link in cc)
]

-- one VMO leaves, and nothing else changes
pub record LeavesOne (old new : SourceState) (v : ℕ) : Type 0 where
  pub frames : new.content.frames ≡ old.content.frames
  pub next : new.content.next ≡ old.content.next
  pub names : new.names ≡ old.names
  pub gone : IsGoneAt new v
  pub others : (w : ℕ) → w ≢ v → StaysAt old new w

stays_trans : (a b c : SourceState) (v : ℕ) → StaysAt a b v → StaysAt b c v → StaysAt a c v
stays_trans a b c v first second = record {
  count = second.count ∙ first.count;
  page = λ p. second.page p ∙ first.page p;
  backing = second.backing ∙ first.backing;
  link = second.link ∙ first.link;
  text = λ p. second.text p ∙ first.text p;
}

gone_on : (b c : SourceState) (v : ℕ) → IsGoneAt b v → StaysAt b c v → IsGoneAt c v
gone_on b c v gone stays = record {
  count = stays.count ∙ gone.count;
  page = λ p. stays.page p ∙ gone.page p;
  backing = stays.backing ∙ gone.backing;
  link = stays.link ∙ gone.link;
  text = λ p. stays.text p ∙ gone.text p;
}

pub HasLeft-none : (s : SourceState) → HasLeft s s
HasLeft-none s = record {
  frames = refl;
  next = refl;
  names = refl;
  each = λ v. inl (record { count = refl; page = λ p. refl; backing = refl; link = refl; text = λ p. refl });
}

pub HasLeft-more : (s now new : SourceState) (v : ℕ) → HasLeft s now → IsUnkept now v → LeavesOne now new v → HasLeft s new
HasLeft-more s now new v left unkept one = record {
  frames = one.frames ∙ left.frames;
  next = one.next ∙ left.next;
  names = one.names ∙ left.names;
  each = λ w. elim (cases_eq w v) [
    | inl same ↦ inr ((λ live. unkept_dead now v unkept (live_on s now left v (subst (IsLive s) same live))), subst (IsGoneAt new) (sym same) one.gone)
    | inr apart ↦ elim (left.each w) [
      | inl stays ↦ inl (stays_trans s now new w stays (one.others w apart))
      | inr gone ↦ inr (gone.0, gone_on now new w gone.1 (one.others w apart))
    ]
  ];
}

-- where all that is there lives, all that did not live has left
pub Leaves-end : (s now : SourceState) → HasLeft s now → ((v : ℕ) → IsSome (now.content.count v) → IsLive now v)
    → ((v : ℕ) → s.content.count v ≡ None → (IsLive s v → ⊥) × IsGoneAt s v) → Leaves s now
Leaves-end s now left live none = record {
  frames = left.frames;
  next = left.next;
  names = left.names;
  each = λ v. elim (left.each v) [
    | inr gone ↦ inr gone
    | inl stays ↦ go v stays (s.content.count v) refl
  ];
} where
  go : (v : ℕ) → StaysAt s now v → (o : Option ℕ) → s.content.count v ≡ o → (IsLive s v × StaysAt s now v) ⊎ ((IsLive s v → ⊥) × IsGoneAt now v)
  go v stays None e = inr ((none v e).0, gone_on s now v (none v e).1 stays)
  go v stays (Some n) e = inl (live_before s now left v (live v (ap is_some (stays.count ∙ e))), stays)

-- ---- on the way upwards

-- a VMO lives, or would if a name stood for `top`
pub data IsLiveBy (s : SourceState) (top : ℕ) : ℕ → Type 0 where
  itself : (v : ℕ) → v ≡ top → IsLiveBy s top v
  with_name : (n v : ℕ) → s.names n ≡ Some v → IsLiveBy s top v
  with_child : (w v : ℕ) (l : Link) → s.link w ≡ Some l → l.parent.0 ≡ v → IsLiveBy s top w → IsLiveBy s top v

-- with `top` all live
live_with : (s : SourceState) (top v : ℕ) → IsLive s top → IsLiveBy s top v → IsLive s v
live_with s top v live (itself w e) = subst (IsLive s) (sym e) live
live_with s top v live (with_name n w e) = by_name n w e
live_with s top v live (with_child w u l e f by) = by_child w u l e f (live_with s top w live by)

-- a VMO above it lives without it
live_without : (s : SourceState) (top v : ℕ) → ((w : ℕ) (l : Link) → s.link w ≡ Some l → l.parent.0 < w) → top < v → IsLiveBy s top v → IsLive s v
live_without s top v smaller h (itself w e) = absurd (omega (arith, h, e))
live_without s top v smaller h (with_name n w e) = by_name n w e
live_without s top v smaller h (with_child w u l e f by) =
    let less = smaller w l e in by_child w u l e f (live_without s top w smaller (omega (arith, h, less, f)) by)

-- where it has a name, or a child that is there, all live
pub all_live-named : (s : SourceState) (top n : ℕ) → s.names n ≡ Some top → ((v : ℕ) → IsSome (s.content.count v) → IsLiveBy s top v)
    → (v : ℕ) → IsSome (s.content.count v) → IsLive s v
all_live-named s top n e all v h = live_with s top v (by_name n top e) (all v h)

pub all_live-parent : (s : SourceState) (top w : ℕ) (l : Link) → ((x : ℕ) (k : Link) → s.link x ≡ Some k → k.parent.0 < x) → s.link w ≡ Some l → l.parent.0 ≡ top
    → IsSome (s.content.count w) → ((v : ℕ) → IsSome (s.content.count v) → IsLiveBy s top v) → (v : ℕ) → IsSome (s.content.count v) → IsLive s v
all_live-parent s top w l smaller e f there all v h =
    let less = smaller w l e in
    live_with s top v (by_child w top l e f (live_without s top w smaller (omega (arith, less, f)) (all w there))) (all v h)

-- it leaves, and its parent comes next
lives_next : (now new : SourceState) (top up : ℕ) (l : Link) → LeavesOne now new top → now.link top ≡ Some l → l.parent.0 ≡ up
    → (v : ℕ) → IsLiveBy now top v → (v ≡ top) ⊎ IsLiveBy new up v
lives_next now new top up l one linked is v (itself w e) = inl e
lives_next now new top up l one linked is v (with_name n w e) = inr (with_name n w (ap (λ (f : ℕ → Option ℕ). f n) one.names ∙ e))
lives_next now new top up l one linked is v (with_child w u k e f by) = elim (lives_next now new top up l one linked is w by) [
  | inl same ↦
      let link = some_same (sym linked ∙ (ap now.link (sym same) ∙ e)) in
      inr (itself u (sym f ∙ (ap (λ (x : Link). x.parent.0) (sym link) ∙ is)))
  | inr live ↦ elim (cases_eq w top) [
    | inl same ↦
        let link = some_same (sym linked ∙ (ap now.link (sym same) ∙ e)) in
        inr (itself u (sym f ∙ (ap (λ (x : Link). x.parent.0) (sym link) ∙ is)))
    | inr apart ↦ inr (with_child w u k ((one.others w apart).link ∙ e) f live)
  ]
]

pub all_live-next : (now new : SourceState) (top up : ℕ) (l : Link) → LeavesOne now new top → now.link top ≡ Some l → l.parent.0 ≡ up
    → ((v : ℕ) → IsSome (now.content.count v) → IsLiveBy now top v) → (v : ℕ) → IsSome (new.content.count v) → IsLiveBy new up v
all_live-next now new top up l one linked is all v h = elim (cases_eq v top) [
  | inl same ↦ absurd (let none = ap (λ (w : ℕ). is_some (new.content.count w)) same ∙ ap is_some one.gone.count in cc)
  | inr apart ↦ elim (lives_next now new top up l one linked is v (all v (ap is_some (sym (one.others v apart).count) ∙ h))) [
    | inl same ↦ absurd (apart same)
    | inr live ↦ live
  ]
]

-- it leaves, and has no parent
lives_last : (now new : SourceState) (top : ℕ) → LeavesOne now new top → now.link top ≡ None → (v : ℕ) → IsLiveBy now top v → (v ≡ top) ⊎ IsLive new v
lives_last now new top one unlinked v (itself w e) = inl e
lives_last now new top one unlinked v (with_name n w e) = inr (by_name n w (ap (λ (f : ℕ → Option ℕ). f n) one.names ∙ e))
lives_last now new top one unlinked v (with_child w u k e f by) = elim (lives_last now new top one unlinked w by) [
  | inl same ↦ absurd (let none : ◌≡◌ {A = Option Link} None (Some k) = sym unlinked ∙ (ap now.link (sym same) ∙ e) in cc)
  | inr live ↦ elim (cases_eq w top) [
    | inl same ↦ absurd (let none : ◌≡◌ {A = Option Link} None (Some k) = sym unlinked ∙ (ap now.link (sym same) ∙ e) in cc)
    | inr apart ↦ inr (by_child w u k ((one.others w apart).link ∙ e) f live)
  ]
]

pub all_live-last : (now new : SourceState) (top : ℕ) → LeavesOne now new top → now.link top ≡ None
    → ((v : ℕ) → IsSome (now.content.count v) → IsLiveBy now top v) → (v : ℕ) → IsSome (new.content.count v) → IsLive new v
all_live-last now new top one unlinked all v h = elim (cases_eq v top) [
  | inl same ↦ absurd (let none = ap (λ (w : ℕ). is_some (new.content.count w)) same ∙ ap is_some one.gone.count in cc)
  | inr apart ↦ elim (lives_last now new top one unlinked v (all v (ap is_some (sym (one.others v apart).count) ∙ h))) [
    | inl same ↦ absurd (apart same)
    | inr live ↦ live
  ]
]
