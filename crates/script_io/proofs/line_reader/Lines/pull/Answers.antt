use Rattle.std.proofs.Common.{◌≡◌, ◌+◌, ◌≤◌, ◌++◌, List, ℕ, length, sym, ap, ◌∙◌, subst, arith, append_assoc, length-append}
use Rattle.script_io.specs.Reader.{HasNoFeed, HasNoFeedBeforeLast, Reader}
use Rattle.script_io.proofs.FetchingLaws.{over_after}
use Rattle.script_io.proofs.line_reader.Lines.pull.Goals as goal

pub invariant_of-self-2 : goal.invariant_of-self-2
invariant_of-self-2 g c =
    let given = c.in_ok-n.ensures in
    let buffer = c.self.inside.buffer in
    let new = c.pull.new.self in
    let held : buffer.seen ++ buffer.fresh ≡ c.args.self.now.held = ap (λ (r : Reader). r.held) c.self.view_is in
    let grown : new.seen ++ new.fresh ≡ (buffer.seen ++ buffer.fresh) ++ given.grows.part =
    ap (λ (xs : List ℕ). xs ++ new.fresh) given.seen ∙ ap (λ (xs : List ℕ). buffer.seen ++ xs) given.grows.behind
    ∙ sym (append_assoc buffer.seen buffer.fresh given.grows.part) in
    let within : c.self.inside.taken ≤ c.self.inside.limit = omega (
      arith,
      ap (λ (r : Reader). r.taken) c.self.view_is,
      ap (λ (r : Reader). r.limit) c.self.view_is,
      c.requires.within,
    ) in
    let size : length new.fresh ≡ length buffer.fresh + c.in_ok-n.n = ap length given.grows.behind
    ∙ length-append buffer.fresh given.grows.part ∙ ap (λ (n : ℕ). length buffer.fresh + n) given.grows.size in
    record {
      small = c.self.invariant.small;
      short = omega (arith, ap length given.line);
      within = omega (arith, within, given.count, c.max-most.ensures);
      all_taken = omega (arith, size, ap length given.seen, c.self.invariant.all_taken);
      long = c.self.invariant.long;
      no_feed = subst HasNoFeed (sym given.seen) c.self.invariant.no_feed;
      over = λ above. subst HasNoFeedBeforeLast (sym grown)
          (over_after (buffer.seen ++ buffer.fresh) given.grows.part (subst HasNoFeed (sym held) c.requires.no_feed)
          (omega (arith, above, within, given.grows.size, given.count, c.max-most.ensures)));
    }
