use Rattle.std.proofs.Common.{◌≡◌, sym, ap, ◌∙◌, arith}
use Rattle.std.proofs.lemmas.Bool.{false≢true}
use Rattle.script_io.specs.Reader.{Reader}
use Rattle.script_io.proofs.Turns.{fetches_found, fetches_fault, waits_more}
use Rattle.script_io.proofs.line_reader.Lines.next.Goals as goal

pub returns-in-Some-clause-fetches : goal.returns-in-Some-clause-fetches
returns-in-Some-clause-fetches g c = λ pending p.
    let w = c.loop-fetch.invariant.waits pending p in
    fetches_found c.in-Some.fetch _ _ _ _ _ pending w c.look.ensures.taken (c.in-Some.ensures.looked _ _ w.still)

pub returns-in_default-pull-clause-fetches : goal.returns-in_default-pull-clause-fetches
returns-in_default-pull-clause-fetches g c = λ pending p.
    let w = c.loop-fetch.invariant.waits pending p in
    let none = c.in_default.ensures.none in
    fetches_fault _ _ c.look.new.self _ _ _ _ pending w c.look.ensures.taken (c.in_default.ensures.looked _ _ w.still)
    none.0 none.1 c.in_default-pull.ensures.err

pub loop-fetch-preserved : goal.loop-fetch-preserved
loop-fetch-preserved g c =
    let given = c.in-Ok.ensures in
    let none = c.in_default.ensures.none in
    let kept : c.pull.new.self.limit ≡ c.look.new.self.limit = ap (λ (r : Reader). r.limit) given.ok in
    record {
      waits = λ pending p.
          let w = c.loop-fetch.invariant.waits pending p in
          waits_more _ _ c.look.new.self _ _ _ _ pending c.in-Ok.field-0 w c.look.ensures.taken
          (c.in_default.ensures.looked _ _ w.still) given.grows given.ok;
      limit = kept ∙ c.look.ensures.limit ∙ c.loop-fetch.invariant.limit;
      line = ap (λ (r : Reader). r.line) given.ok;
      ended = λ was. absurd (false≢true (sym none.0 ∙ c.look.ensures.ended ∙ (c.loop-fetch.invariant.ended was).2));
      later = omega (arith, c.loop-fetch.invariant.later, given.cause.later);
    }
