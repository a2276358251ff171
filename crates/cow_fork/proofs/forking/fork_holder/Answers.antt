use Rattle.cow_fork.proofs.Words.{refl, ap, arith, is_some, is_taken}
use Rattle.cow_split.proofs.PartLaws.{part-cut}
use Rattle.cow_fork.proofs.LeafLaws.{leaf-is, leaf-on, put-row}
use Rattle.cow_fork.proofs.HolderLaws.{own-zero, bare-row}
use Rattle.cow_fork.proofs.CutOffLaws.{cut_off, free-cut, held-used, held-seen, held-nothing, cut-free}
use Rattle.cow_fork.proofs.ForkLaws.{stood-put, free-own, forked-own, forked-cut}
use Rattle.cow_fork.proofs.forking.fork_holder.Goals as goal

pub take_blank-tag-requires : goal.take_blank-tag-requires
take_blank-tag-requires c =
    let leaf = leaf-is c.args.arena.now c.args.lists.now c.args.leaf.0 c.args.page c.look.result.now c.requires.exact.forest c.requires.page c.look.ensures in
    let zero = own-zero leaf _ _ c.requires.found c.in-Own.is (λ row. c.requires.unowned _ row c.look.ensures) in
    free-own leaf zero c.args.frames.now c.requires.free

pub replace-requires : goal.replace-requires
replace-requires c =
    let leaf = leaf-is c.args.arena.now c.args.lists.now c.args.leaf.0 c.args.page c.look.result.now c.requires.exact.forest c.requires.page c.look.ensures in
    ap is_some (own-zero leaf _ _ c.requires.found c.in-Own.is (λ row. c.requires.unowned _ row c.look.ensures))

pub returns-in-Own : goal.returns-in-Own
returns-in-Own c =
    let leaf = leaf-is c.args.arena.now c.args.lists.now c.args.leaf.0 c.args.page c.look.result.now c.requires.exact.forest c.requires.page c.look.ensures in
    let zero = own-zero leaf _ _ c.requires.found c.in-Own.is (λ row. c.requires.unowned _ row c.look.ensures) in
    let put = rw c.row_of.ensures at c.replace.ensures.slots in
    record {
      owned = forked-own leaf zero _ _ _ _ c.requires.exact put c.replace.ensures.spare c.take_blank-tag.ensures.takes c.take_blank-tag.ensures.frames;
      row = put-row leaf c.replace.new.self _ put;
      stood = λ l q row t at frame apart.
          record { row = row; at = stood-put _ _ c.look.result.now.list.0 c.args.page _ put l q row t at frame apart; frame = refl };
      links = c.take_blank-tag.ensures.links;
    }

pub take_after-tag-requires : goal.take_after-tag-requires
take_after-tag-requires c =
    let leaf = leaf-is c.args.arena.now c.args.lists.now c.args.leaf.0 c.args.page c.look.result.now c.requires.exact.forest c.requires.page c.look.ensures in
    let bare = bare-row leaf _ c.requires.found c.in_default.not-Own in
    let off = cut_off leaf bare c.cut_holder-answer.ensures.cut (is_taken c.args.frames.now) _ c.requires.exact c.requires.found in
    record { free = free-cut off c.args.frames.now c.requires.free; taken = held-used off; seen = held-seen off; nothing = held-nothing off }

pub insert-requires : goal.insert-requires
insert-requires c =
    let leaf = leaf-is c.args.arena.now c.args.lists.now c.args.leaf.0 c.args.page c.look.result.now c.requires.exact.forest c.requires.page c.look.ensures in
    let bare = bare-row leaf _ c.requires.found c.in_default.not-Own in
    let cut = c.cut_holder-answer.ensures.cut in
    record { absent = cut-free leaf bare cut; room = let kept = cut.spare in omega (arith, kept) }

pub returns : goal.returns
returns c =
    let leaf = leaf-is c.args.arena.now c.args.lists.now c.args.leaf.0 c.args.page c.look.result.now c.requires.exact.forest c.requires.page c.look.ensures in
    let bare = bare-row leaf _ c.requires.found c.in_default.not-Own in
    let cut = c.cut_holder-answer.ensures.cut in
    let off = cut_off leaf bare cut (is_taken c.args.frames.now) _ c.requires.exact c.requires.found in
    let took = c.take_after-tag.ensures in
    let put = rw c.row_of-2.ensures at c.insert.ensures.slots in
    record {
      owned = forked-cut leaf bare cut _ _ _ _ _ c.requires.exact off
          (record { last = took.last; taken = took.taken; links = took.links; frames = took.frames }) put c.insert.ensures.spare;
      row = put-row (leaf-on leaf c.cut_holder-answer.new.lists) c.insert.new.self _ put;
      stood = λ l q row t at frame apart.
          (part-cut _ _ _ c.args.leaf.0 c.args.page _ leaf.forest _ leaf.visible bare cut).had l q row
          (stood-put _ _ c.look.result.now.list.0 c.args.page _ put l q row t at frame apart);
      links = took.links;
    }
