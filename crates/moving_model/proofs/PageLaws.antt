-- Laws of contents under other numbers of frames: what pages show, who shows a frame, which pages are sole, and how many frames
-- are used, owned and told.
use Rattle.std.proofs.Common.{◌≡◌, ℕ, suc, ◌+◌, ◌≤◌, Bool, true, false, not, cond, ◌&&◌, ◌==◌, List, [], ◌∷◌, map, ◌/◌, ◌%◌, Option, None, Some, refl, sym, ap, ◌∙◌, arith}
use Rattle.std.specs.Prelude.{is_some, slice_index}
use Rattle.std.specs.Option.{option_map}
use Rattle.std.specs.List.{filter, range_with_len}
use Rattle.vm_base.specs.Search.{any_below}
use Rattle.vm_base.specs.declared.limits.TheConstants.{PAGE}
use Rattle.vm_model.specs.Contents.Content.{Page, Content, bytes_of, shown, is_held, pages_of, has_tag, views, in_use, used, seen_elsewhere, is_sole_page, sole, hold}
use Rattle.vm_model.specs.Contents.Owning.{VmoPage, pages_at, need_from, need_each, need}
use Rattle.vm_model.specs.Contents.Writing.{bytes_in, touched}
use Rattle.vm_model.specs.Contents.Zeroing.{is_cleared, owned_by_zero}
use Rattle.vm_model.specs.Machine.Attribution.{is_charged_page, is_charged, is_shared}
use Rattle.moving_model.specs.Renaming.{Renaming, KeepsFrom, page_renamed, content_renamed}
use Rattle.moving_model.proofs.NumberLaws.{eqb-renamed, count-renamed}

module _ (r : Renaming) where
  -- ---- pages

  pub option-cond : (b : Bool) (x y : Option Page) → option_map (page_renamed r) (cond b x y) ≡ cond b (option_map (page_renamed r) x) (option_map (page_renamed r) y)
  option-cond true x y = refl
  option-cond false x y = refl

  pub is_some-renamed : (o : Option Page) → is_some (option_map (page_renamed r) o) ≡ is_some o
  is_some-renamed None = refl
  is_some-renamed (Some held) = refl

  pub bytes_of-renamed : (o : Option Page) → bytes_of (option_map (page_renamed r) o) ≡ bytes_of o
  unfolding bytes_of
  bytes_of-renamed None = refl
  bytes_of-renamed (Some held) = refl

  pub has_tag-renamed : (t : ℕ) (o : Option Page) → has_tag (r.to t) (option_map (page_renamed r) o) ≡ has_tag t o
  unfolding has_tag
  has_tag-renamed t None = refl
  has_tag-renamed t (Some held) = eqb-renamed r held.tag t

  module _ (c : Content) where
    pub shown-renamed : (v p : ℕ) → shown (content_renamed r c) v p ≡ shown c v p
    shown-renamed v p = bytes_of-renamed (c.page v p)

    pub is_held-renamed : (v p : ℕ) → is_held (content_renamed r c) v p ≡ is_held c v p
    is_held-renamed v p = is_some-renamed (c.page v p)

    pub views-renamed : (t v : ℕ) → views (content_renamed r c) (r.to t) v ≡ views c t v
    unfolding views pages_of
    views-renamed t v = λ i. any_below (pages_of c v) (λ p. has_tag-renamed t (c.page v p) i)

    pub in_use-renamed : (t : ℕ) → in_use (content_renamed r c) (r.to t) ≡ in_use c t
    unfolding in_use
    in_use-renamed t = λ i. any_below c.next (λ v. views-renamed t v i)

    pub seen_elsewhere-renamed : (t v : ℕ) → seen_elsewhere (content_renamed r c) (r.to t) v ≡ seen_elsewhere c t v
    unfolding seen_elsewhere
    seen_elsewhere-renamed t v = λ i. any_below c.next (λ w. not (w == v) && views-renamed t w i)

    pub is_sole_page-renamed : (v : ℕ) (o : Option Page) → is_sole_page (content_renamed r c) v (option_map (page_renamed r) o) ≡ is_sole_page c v o
    unfolding is_sole_page
    is_sole_page-renamed v None = refl
    is_sole_page-renamed v (Some held) = ap not (seen_elsewhere-renamed held.tag v)

    pub sole-renamed : (v p : ℕ) → sole (content_renamed r c) v p ≡ sole c v p
    sole-renamed v p = is_sole_page-renamed v (c.page v p)

    pub used-renamed : KeepsFrom r c.frames → used (content_renamed r c) ≡ used c
    unfolding used
    used-renamed keeps = count-renamed r c.frames (in_use c) (in_use (content_renamed r c)) keeps in_use-renamed

    pub is_charged_page-renamed : (v : ℕ) (o : Option Page) → is_charged_page (content_renamed r c) v (option_map (page_renamed r) o) ≡ is_charged_page c v o
    unfolding is_charged_page
    is_charged_page-renamed v None = refl
    is_charged_page-renamed v (Some held) = λ i. not (any_below v (λ w. views-renamed held.tag w i))

    pub is_charged-renamed : (v p : ℕ) → is_charged (content_renamed r c) v p ≡ is_charged c v p
    is_charged-renamed v p = is_charged_page-renamed v (c.page v p)

    pub is_shared-renamed : (v p : ℕ) → is_shared (content_renamed r c) v p ≡ is_shared c v p
    is_shared-renamed v p = λ i. is_held-renamed v p i && not (sole-renamed v p i)

    pub bytes_in-renamed : (v offset len : ℕ) → bytes_in (content_renamed r c) v offset len ≡ bytes_in c v offset len
    unfolding bytes_in
    bytes_in-renamed v offset len = λ i. map (λ at. slice_index (shown-renamed v (at / PAGE) i) (at % PAGE)) (range_with_len offset len)

    pub owned_by_zero-renamed : (v : ℕ) (pinned : ℕ → Bool) (offset len : ℕ) → owned_by_zero (content_renamed r c) v pinned offset len ≡ owned_by_zero c v pinned offset len
    owned_by_zero-renamed v pinned offset len = λ i. filter (λ p. is_held-renamed v p i && not (is_cleared pinned offset len p)) (touched offset len)

    -- a page held in a frame, and the same in the frame that it is renamed to
    pub hold-renamed : (v p : ℕ) (held : Page) → content_renamed r (hold c v p held) ≡ hold (content_renamed r c) v p (page_renamed r held)
    unfolding hold
    hold-renamed v p held = λ i. record c { page = λ w q. option-cond ((w == v) && (q == p)) (Some held) (c.page w q) i }

  -- ---- frames that owning takes

  pub need_from-renamed : (fresh : ℕ) (c : Content) (ws : List VmoPage) → KeepsFrom r c.frames → c.frames ≤ fresh → need_from fresh (content_renamed r c) ws ≡ need_from fresh c ws
  unfolding need_from hold
  need_from-renamed fresh c [] keeps h = refl
  need_from-renamed fresh c (w ∷ ws) keeps h =
      let page : Page = record { tag = fresh; bytes = shown c w.koid w.page } in
      let now : Page = record { tag = fresh; bytes = shown (content_renamed r c) w.koid w.page } in
      let same : page_renamed r page ≡ now = λ i. record { tag = keeps fresh h i; bytes = sym (shown-renamed c w.koid w.page) i } in
      let held : content_renamed r (hold c w.koid w.page page) ≡ hold (content_renamed r c) w.koid w.page now =
      hold-renamed c w.koid w.page page ∙ ap (hold (content_renamed r c) w.koid w.page) same in
      let rest = need_from-renamed fresh c ws keeps h in
      let more = need_from-renamed (fresh + 1) (hold c w.koid w.page page) ws keeps (omega (arith, h)) in
      (λ i. cond (sole-renamed c w.koid w.page i) (rest i) (suc (need_from (fresh + 1) (sym held i) ws))) ∙ ap (λ (n : ℕ). cond (sole c w.koid w.page) (need_from fresh c ws) (suc n)) more

  pub need_each-renamed : (c : Content) (ws : List VmoPage) → KeepsFrom r c.frames → need_each (content_renamed r c) ws ≡ need_each c ws
  need_each-renamed c ws keeps = need_from-renamed c.frames c ws keeps (omega arith)

  pub need-renamed : (c : Content) (v : ℕ) (ps : List ℕ) → KeepsFrom r c.frames → need (content_renamed r c) v ps ≡ need c v ps
  need-renamed c v ps keeps = need_each-renamed c (pages_at v ps) keeps
