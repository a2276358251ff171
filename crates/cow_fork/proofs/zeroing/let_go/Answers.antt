use Rattle.cow_fork.proofs.Words.{ℕ, cond, is_some, None, Some, sym, ap, subst, ◌∙◌, arith, Slot, Row, slots_of, row_count, Rows, is_taken}
use Rattle.cow_fork.proofs.Words.{◌≡◌, IsExact, all_in_sight, Slots, Tree, frame_shown, frame_in, IsPartOf, IsNotPage, ShowsSame, GivesSole, tree_of}
use Rattle.cow_split.proofs.PartLaws.{part-with_pair}
use Rattle.cow_jump.proofs.JumpRowLaws.{may-jump_part}
use Rattle.cow_fork.proofs.HolderLaws.{own-shown}
use Rattle.cow_fork.proofs.LeafLaws.{leaf-is, put-row, put-others}
use Rattle.cow_fork.proofs.ZeroLaws.{own-exact, own-given, mid-same, back-same}
use Rattle.cow_fork.proofs.zeroing.let_go.Goals as goal

pub cut_shown-requires-clause-bare : goal.cut_shown-requires-clause-bare
cut_shown-requires-clause-bare c =
    let leaf = leaf-is c.args.arena.now c.args.lists.now c.args.leaf.0 c.args.page c.look.result.now c.requires.exact.forest c.requires.page c.look.ensures in
    put-row leaf c.take.new.self None c.take.ensures.slots

pub cut_shown-requires-clause-jumps : goal.cut_shown-requires-clause-jumps
cut_shown-requires-clause-jumps c =
    let part = subst (λ (s : Slots). IsPartOf (slots_of c.args.lists.now) s) (sym c.take.ensures.slots)
    (part-with_pair (slots_of c.args.lists.now) c.look.result.now.list.0 c.args.page None (λ its e. absurd (cc))) in
    may-jump_part (tree_of c.args.arena.now c.args.lists.now) c.requires.exact.forest (slots_of c.take.new.self) c.args.leaf.0
    c.requires.page.node c.requires.page.visible part _ c.requires.jumps

pub cut_shown-requires-clause-exact : goal.cut_shown-requires-clause-exact
cut_shown-requires-clause-exact c =
    let leaf = leaf-is c.args.arena.now c.args.lists.now c.args.leaf.0 c.args.page c.look.result.now c.requires.exact.forest c.requires.page c.look.ensures in
    subst (λ (u : Tree). IsExact u all_in_sight (is_taken c.args.frames.now))
    (sym (mid-same c.take.new.self leaf c.take.ensures.slots (sym c.take.ensures.slot ∙ c.in_default.is))) c.requires.exact

pub returns-in_default : goal.returns-in_default
returns-in_default c =
    let leaf = leaf-is c.args.arena.now c.args.lists.now c.args.leaf.0 c.args.page c.look.result.now c.requires.exact.forest c.requires.page c.look.ensures in
    let same = mid-same c.take.new.self leaf c.take.ensures.slots (sym c.take.ensures.slot ∙ c.in_default.is) in
    let taken = ap {B = ℕ} (λ o. cond (is_some o) 1 0) c.in_default.is in
    let cut = c.cut_shown.ensures in
    record {
      held = subst (λ (u : Tree). c.cut_shown.result ≡ is_some (frame_shown u c.args.leaf.0 c.args.page)) same cut.held;
      exact = cut.exact;
      bare = cut.bare;
      others = λ is. subst (λ (u : Tree). ShowsSame u (tree_of c.args.arena.now c.cut_shown.new.lists) (IsNotPage c.args.leaf.0 c.args.page)) same (cut.others is);
      part = λ is. subst (λ (u : Tree). IsPartOf u.slots (slots_of c.cut_shown.new.lists)) same (cut.part is);
      given = λ is. subst (λ (u : Tree). GivesSole u c.args.leaf.0 c.args.page c.args.frames.now c.cut_shown.new.frames) same (cut.given is);
      spare = λ is. let more = cut.spare is in omega (arith, c.take.ensures.spare);
      same = λ none.
          let kept = (cut.same none).0 in
          let count = ap row_count kept in
          let spare = ap (λ (rows : Rows Row). rows.spare) kept in
          (ap slots_of kept ∙ ap (λ (u : Tree). u.slots) same, omega (arith, c.take.ensures.count, taken), omega (arith, c.take.ensures.spare, taken));
      pool = λ none. (cut.same none).1;
    }

pub give_back-requires : goal.give_back-requires
give_back-requires c = c.requires.exact.used c.look.result.now.list.0 c.args.page c.in-Some.row c.in-Frame.tag.0 (sym c.take.ensures.slot ∙ c.in-Some.is) (ap frame_in c.in-Frame.is)

pub returns-in-Frame : goal.returns-in-Frame
returns-in-Frame c =
    let leaf = leaf-is c.args.arena.now c.args.lists.now c.args.leaf.0 c.args.page c.look.result.now c.requires.exact.forest c.requires.page c.look.ensures in
    let own = sym c.take.ensures.slot ∙ c.in-Some.is in
    let frame = ap frame_in c.in-Frame.is in
    record {
      held = sym (ap is_some (own-shown leaf c.in-Some.row own ∙ frame));
      exact = λ is. own-exact leaf c.args.frames.now c.requires.exact c.in-Some.row own c.in-Frame.tag frame c.take.new.self c.give_back.new.self
          c.take.ensures.slots c.give_back.ensures.taken;
      bare = λ is. put-row leaf c.take.new.self None c.take.ensures.slots;
      others = λ is. put-others leaf c.take.new.self None c.take.ensures.slots;
      part = λ is. subst (λ (s : Slots). IsPartOf (slots_of c.args.lists.now) s) (sym c.take.ensures.slots)
          (part-with_pair (slots_of c.args.lists.now) c.look.result.now.list.0 c.args.page None (λ its e. absurd (cc)));
      given = λ is. own-given leaf c.args.frames.now c.requires.exact c.in-Some.row own c.in-Frame.tag frame c.give_back.new.self
          c.give_back.ensures.taken c.give_back.ensures.links c.give_back.ensures.frames;
      spare = λ is. omega (arith, c.take.ensures.spare);
      same = λ none. absurd (cc);
      pool = λ none. absurd (cc);
    }

pub insert-requires-clause-absent : goal.insert-requires-clause-absent
insert-requires-clause-absent c =
    let leaf = leaf-is c.args.arena.now c.args.lists.now c.args.leaf.0 c.args.page c.look.result.now c.requires.exact.forest c.requires.page c.look.ensures in
    put-row leaf c.take.new.self None c.take.ensures.slots c.look.result.now c.look.ensures

pub insert-requires-clause-room : goal.insert-requires-clause-room
insert-requires-clause-room c = omega (arith, c.take.ensures.spare, ap {B = ℕ} (λ o. cond (is_some o) 1 0) c.in-Some.is)

pub returns-in-Zero-clause-held : goal.returns-in-Zero-clause-held
returns-in-Zero-clause-held c =
    let leaf = leaf-is c.args.arena.now c.args.lists.now c.args.leaf.0 c.args.page c.look.result.now c.requires.exact.forest c.requires.page c.look.ensures in
    sym (ap is_some (own-shown leaf Slot.Zero (sym c.take.ensures.slot ∙ (c.in-Some.is ∙ ap Some c.in-Zero.is))))

pub returns-in-Zero-clause-same : goal.returns-in-Zero-clause-same
returns-in-Zero-clause-same c = λ none.
    let leaf = leaf-is c.args.arena.now c.args.lists.now c.args.leaf.0 c.args.page c.look.result.now c.requires.exact.forest c.requires.page c.look.ensures in
    let taken = ap {B = ℕ} (λ o. cond (is_some o) 1 0) c.in-Some.is in (
      back-same c.take.new.self c.insert.new.self leaf (sym c.take.ensures.slot ∙ (c.in-Some.is ∙ ap Some c.in-Zero.is)) c.take.ensures.slots c.insert.ensures.slots,
      omega (arith, c.take.ensures.count, c.insert.ensures.count, taken),
      omega (arith, c.take.ensures.spare, c.insert.ensures.spare, taken),
    )
