use Rattle.std.proofs.Common.{length, rules, arith}
use Rattle.std.proofs.lemmas.Grind.{common_steps}
use Rattle.fault.proofs.FrameLaws.{shown-frame, shown-none}
use Rattle.fault.proofs.reading.read_frame.Goals as goal

pub returns-in-Some : goal.returns-in-Some
returns-in-Some g c =
    let x = c.args.translation in
    shown-frame (g.P.PageStore.content c.args.store.now) x.entry.koid.0 x.entry.page c.args.at (length c.args.out.now) x
    c.requires.of_entry.frame c.in-Some.tag c.read.new.out c.in-Some.is c.read.ensures (search rules)

pub returns-in-None : goal.returns-in-None
returns-in-None g c =
    let x = c.args.translation in
    let zeros = shown-none (g.P.PageStore.content c.args.store.now) x.entry.koid.0 x.entry.page c.args.at (length c.args.out.now) x
    c.requires.of_entry.frame c.in-None.is c.requires.range in
    grind (arith, common_steps, zeros)
