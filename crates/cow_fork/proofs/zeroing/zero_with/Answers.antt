use Rattle.cow_fork.proofs.Words.{◌≢◌, None, arith, sym, ap, subst, ◌∙◌, ◌+◌, is_some, none_is, Pool, slots_of, frame_shown, tree_of, HasZeroed, GivesSole}
use Rattle.cow_jump.proofs.JumpRowLaws.{may-jump_part}
use Rattle.cow_fork.proofs.LeafLaws.{leaf-is, leaf-on}
use Rattle.cow_fork.proofs.ZeroLaws.{zeros-from, zeroed-none, gives-none}
use Rattle.cow_fork.proofs.zeroing.zero_with.Goals as goal

pub hide_above-requires-clause-bare : goal.hide_above-requires-clause-bare
hide_above-requires-clause-bare c = c.let_go.ensures.bare c.if-not-let_go.false

pub hide_above-requires-clause-room : goal.hide_above-requires-clause-room
hide_above-requires-clause-room c =
    let kept = c.let_go.ensures.spare c.if-not-let_go.false in
    let room = c.requires.room (λ none. let held = c.let_go.ensures.held in let no = ap is_some none in let is = c.if-not-let_go.false in absurd (cc)) in
    omega (arith, kept, room)

pub hide_above-requires-clause-jumps : goal.hide_above-requires-clause-jumps
hide_above-requires-clause-jumps c =
    may-jump_part (tree_of c.args.arena.now c.args.lists.now) c.requires.exact.forest (slots_of c.let_go.new.lists) c.args.leaf.0
    c.requires.page.node c.requires.page.visible (c.let_go.ensures.part c.if-not-let_go.false) _ c.requires.jumps

pub returns : goal.returns
returns c =
    let is = c.if-not-let_go.false in
    let gone = c.let_go.ensures in
    let shows : frame_shown (tree_of c.args.arena.now c.args.lists.now) c.args.leaf.0 c.args.page ≢ None = λ none. let held = gone.held in let no = ap is_some none in absurd (cc) in
    let leaf = leaf-on (leaf-is c.args.arena.now c.args.lists.now c.args.leaf.0 c.args.page c.requires.page.node c.requires.exact.forest c.requires.page c.requires.page.visible.at)
    c.let_go.new.lists in
    let zeros = zeros-from _ _ c.hide_above.new.lists _ _ _ _ leaf shows (gone.exact is) (gone.bare is _ c.requires.page.visible.at) (gone.others is) (gone.part is) (gone.given is) (gone.spare is)
    c.hide_above.ensures.same c.hide_above.ensures.marked in
    record {
      zeroed = zeros.0;
      zero = zeros.1;
      given = gone.given is;
      spare = zeros.2;
      same = λ none. absurd (shows none);
      needed = λ some. zeros.3;
      held = sym is ∙ gone.held;
    }

pub returns-then-not-let_go : goal.returns-then-not-let_go
returns-then-not-let_go c =
    let is = c.if-not-let_go.true in
    let same = c.let_go.ensures.same is in
    let zero = none_is _ (sym c.let_go.ensures.held ∙ is) in
    let pool = sym (c.let_go.ensures.pool is) in
    record {
      zeroed = subst (λ (after : Pool). HasZeroed c.args.arena.now c.args.lists.now c.let_go.new.lists c.args.frames.now after c.args.leaf.0 c.args.page (c.args.page + 1)) pool
          (zeroed-none c.args.arena.now c.args.lists.now c.let_go.new.lists c.args.frames.now _ _ _ c.requires.exact same.0 same.2);
      zero = ap (λ slots. frame_shown (record (tree_of c.args.arena.now c.args.lists.now) { slots = slots }) c.args.leaf.0 c.args.page) same.0 ∙ zero;
      given = subst (GivesSole (tree_of c.args.arena.now c.args.lists.now) c.args.leaf.0 c.args.page c.args.frames.now) pool (gives-none _ _ _ _ zero);
      spare = let spare = same.2 in omega arith;
      same = λ none. same;
      needed = λ some. absurd (some zero);
      held = sym is ∙ c.let_go.ensures.held;
    }
