use Rattle.std.proofs.Common.{ap, sym, ◌∙◌}
use Rattle.page_store.specs.Needs.{need_by}
use Rattle.page_store.proofs.NeedLaws.{need-same, need-apart, need-third, need-last}
use Rattle.fault.proofs.needing.frames_needed.Goals as goal

pub returns-then-show_same_page : goal.returns-then-show_same_page
returns-then-show_same_page g c =
    c.need_of-need.ensures ∙ (ap need_by c.look-first_look.ensures
    ∙ need-same _ _ _ _ _ c.requires.good c.requires.first.below (sym c.show_same_page.ensures ∙ c.if-show_same_page.true))

pub returns-then-not-have_same_frame : goal.returns-then-not-have_same_frame
returns-then-not-have_same_frame g c =
    let two = sym c.show_same_page.ensures ∙ c.if-show_same_page.false in
    let apart = rw (c.look-first_look.ensures, c.look-second_look.ensures) at (sym c.have_same_frame.ensures ∙ c.if-not-have_same_frame.true) in
    let first = c.need_of-need.ensures ∙ ap need_by c.look-first_look.ensures in
    let second = c.need_of.ensures ∙ ap need_by c.look-second_look.ensures in
    rw (first, second) (need-apart _ _ _ _ _ c.requires.good c.requires.first.below two apart)

pub returns-then-viewers-gt2 : goal.returns-then-viewers-gt2
returns-then-viewers-gt2 g c =
    let two = sym c.show_same_page.ensures ∙ c.if-show_same_page.false in
    let shared = rw (c.look-first_look.ensures, c.look-second_look.ensures) at (sym c.have_same_frame.ensures ∙ c.if-not-have_same_frame.false) in
    need-third _ _ _ _ _ c.requires.good c.requires.first.below two shared c.viewers.result c.viewers.ensures c.if-viewers-gt2.true

pub returns-else-viewers-gt2 : goal.returns-else-viewers-gt2
returns-else-viewers-gt2 g c =
    let two = sym c.show_same_page.ensures ∙ c.if-show_same_page.false in
    let shared = rw (c.look-first_look.ensures, c.look-second_look.ensures) at (sym c.have_same_frame.ensures ∙ c.if-not-have_same_frame.false) in
    need-last _ _ _ _ _ c.requires.good c.requires.first.below two shared c.viewers.result c.viewers.ensures c.if-viewers-gt2.false
