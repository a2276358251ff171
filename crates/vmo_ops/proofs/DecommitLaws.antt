-- Laws of giving back whole pages, none of which is pinned: zeroing them owns none, and leaves them zero. And the steps
-- of a decommit.
use Rattle.vmo_ops.proofs.ModelLaws.{used_le}
use Rattle.std.proofs.Common.{◌≡◌, ℕ, zero, suc, ◌+◌, ◌-◌, ◌/◌, ◌%◌, ◌<◌, ◌≤◌, Bool, true, false, not, ◌&&◌, Option, ◌∙◌, arith}
use Rattle.std.specs.List.{range_with_len}
use Rattle.std.proofs.lemmas.Bool.{and_from, and_left, and_right, not_from_true, not_from_false, le-leb}
use Rattle.vm_base.specs.Search.{HasNone}
use Rattle.vm_base.specs.declared.limits.TheConstants.{PAGE}
use Rattle.vm_model.specs.Contents.Content.{Content, is_held, sole}
use Rattle.vm_model.specs.Contents.Owning.{need}
use Rattle.vm_model.specs.Contents.Writing.{touched}
use Rattle.vm_model.specs.Contents.Zeroing.{zeroed, is_cleared, Zeroes, owned_by_zero}
use Rattle.vm_model.specs.Naming.Pins.{Pin, is_pinned, any_pinned}
use Rattle.vm_model.proofs.RangeLaws.{touched-row, touched-nil, touched_end-is}
use Rattle.vmo_ops.proofs.ModelLaws.{count_from-none, zeroed-empty, zeroed-more, any_pinned_none, need-zero}
use Rattle.vmo_ops.proofs.ZeroLaws.{takes_frame}

-- ---- a range of whole pages

module _ (offset len : ℕ) (start : offset % PAGE ≡ 0) (whole : len % PAGE ≡ 0) where
  -- it touches no other page
  pub touched-pages : touched offset len ≡ range_with_len (offset / PAGE) ((offset + len) / PAGE - offset / PAGE)
  touched-pages = grind (arith, touched-nil, touched_end-is, touched-row)

  -- none of its pages is pinned
  module _ (pinned : ℕ → Bool) (free : HasNone pinned (offset / PAGE) ((offset + len) / PAGE)) where
    -- each page of it lies wholly in it, and so is cleared
    is_cleared-pages : (p : ℕ) → offset / PAGE ≤ p → p < (offset + len) / PAGE → is_cleared pinned offset len p ≡ true
    is_cleared-pages = grind (arith, and_from, le-leb, not_from_false)

    -- zeroing it owns no page
    pub need-pages : (c : Content) (v : ℕ) → need c v (owned_by_zero c v pinned offset len) ≡ 0
    need-pages c v =
        need-zero c v pinned offset len (offset / PAGE) ((offset + len) / PAGE) touched-pages
        ∙ count_from-none (takes_frame v pinned offset len c) (offset / PAGE) ((offset + len) / PAGE - offset / PAGE)
        (λ p low less. and_left (is_held c v p && not (is_cleared pinned offset len p)) (not (sole c v p))
        (and_right (is_held c v p) (not (is_cleared pinned offset len p))
        (not_from_true (is_cleared pinned offset len p) (is_cleared-pages p low (omega arith)))))

    -- pages of it in a row become zero
    Zeroes-pages : (v first n : ℕ) (old new : Content) → offset / PAGE ≤ first → first + n ≤ (offset + len) / PAGE
        → Zeroes old v pinned offset len (range_with_len first n) new → new ≡ zeroed old v first (first + n)
    Zeroes-pages v first zero old new low less zeroes = grind (arith, zeroed-empty)
    Zeroes-pages v first (suc n) old new low less zeroes =
        grind (arith, Zeroes-pages v (first + 1) n zeroes.0 new, is_cleared-pages, zeroed-more, zeroes)

    -- all of it becomes zero
    pub Zeroes-whole : (v : ℕ) (old new : Content) → Zeroes old v pinned offset len (touched offset len) new
        → new ≡ zeroed old v (offset / PAGE) ((offset + len) / PAGE)
    Zeroes-whole = grind (arith, Zeroes-pages, touched-pages)

  -- where no page of it is found pinned, none is
  pub none_within : (pins : ℕ → Option Pin) (v : ℕ)
      → any_pinned pins v (offset / PAGE) (offset / PAGE + len / PAGE) ≡ false
      → HasNone (is_pinned pins v) (offset / PAGE) ((offset + len) / PAGE)
  none_within = grind (arith, any_pinned_none)

-- a range of whole pages of which none is pinned is zeroed with no frame, and is zero then
pub ruleset clear_laws = (need-pages, none_within, Zeroes-whole, used_le)
