use Rattle.std.proofs.Common.{sym, ap, ◌∙◌, ℕ, ◌+◌}
use Rattle.vm_model.proofs.ContentLaws.{koid_below}
use Rattle.page_store.specs.Flat.{flat_content}
use Rattle.checker_ready.proofs.NeedLaws.{after-same, after-apart, after-last, after-third}
use Rattle.checker_ready.proofs.needing.frames_after.Goals as goal

pub returns-then-show_same_page-clause-need : goal.returns-then-show_same_page-clause-need
returns-then-show_same_page-clause-need c =
    after-same (flat_content c.args.pages.now) _ _ _ _ c.requires.good c.requires.first c.requires.shared (sym c.show_same_page.ensures ∙ c.if-show_same_page.true)

pub returns-then-not-have_one_frame-clause-need : goal.returns-then-not-have_one_frame-clause-need
returns-then-not-have_one_frame-clause-need c =
    ap (λ (n : ℕ). 1 + n) c.frames_for_one.ensures.need
    ∙ after-apart (flat_content c.args.pages.now) _ _ _ _ c.requires.good c.requires.first c.requires.shared (sym c.show_same_page.ensures ∙ c.if-show_same_page.false)
    (sym c.have_one_frame.ensures ∙ c.if-not-have_one_frame.true)

pub is_seen_by_third-requires : goal.is_seen_by_third-requires
is_seen_by_third-requires c = koid_below (flat_content c.args.pages.now) _ _ c.requires.good c.requires.second

pub returns-then-is_seen_by_third-clause-need : goal.returns-then-is_seen_by_third-clause-need
returns-then-is_seen_by_third-clause-need c =
    after-third (flat_content c.args.pages.now) _ _ _ _ c.requires.good c.requires.first c.requires.shared (sym c.show_same_page.ensures ∙ c.if-show_same_page.false)
    (sym c.have_one_frame.ensures ∙ c.if-not-have_one_frame.false) (c.is_seen_by_third.ensures.some c.if-is_seen_by_third.true)

pub returns-else-is_seen_by_third-clause-need : goal.returns-else-is_seen_by_third-clause-need
returns-else-is_seen_by_third-clause-need c =
    after-last (flat_content c.args.pages.now) _ _ _ _ c.requires.good c.requires.first c.requires.shared (sym c.show_same_page.ensures ∙ c.if-show_same_page.false)
    (sym c.have_one_frame.ensures ∙ c.if-not-have_one_frame.false) (c.is_seen_by_third.ensures.none c.if-is_seen_by_third.false)
