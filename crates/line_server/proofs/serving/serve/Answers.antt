use Rattle.std.proofs.Common.{◌∙◌, refl, sym, ap, subst, arith}
use Rattle.line_server.specs.Serving.{fresh}
use Rattle.line_server.proofs.Beginning.{NothingDone-yet, filled_is, first_koid}
use Rattle.line_server.proofs.Heard.{serving-ends, serving-failed, served-no_memory, served-fault}
use Rattle.line_server.proofs.serving.serve.Goals as goal

pub returns-in_default-clause-ends : goal.returns-in_default-clause-ends
returns-in_default-clause-ends g c = NothingDone-yet _ _ _ _ refl c.requires.empty

pub returns-in_default-fill-clause-ends : goal.returns-in_default-fill-clause-ends
returns-in_default-fill-clause-ends g c = NothingDone-yet _ _ _ _ c.in_default-fill.ensures.err c.requires.empty

pub read_lines-read-requires : goal.read_lines-read-requires
read_lines-read-requires g c =
    let filled = filled_is c.args.bounds.frames _ _ c.in-Ok-fill.ensures.ok c.requires.empty in
    let start = ap (g.I.Interpreter.state c.args.interpreter.now) filled ∙ c.requires.start in
    let limit = ap (λ r. r.limit) c.in-Ok.ensures in
    record {
      fresh = c.in-Ok.ensures ∙ ap fresh (sym limit);
      limit = omega (arith, limit, c.requires.limit);
      holds = (subst (g.I.Interpreter.Agrees c.args.interpreter.now) (sym filled) c.requires.agrees, subst g.I.Interpreter.rules.IsGood (sym start) c.requires.good);
      few = omega (arith, first_koid c.args.bounds.frames _ filled);
    }

pub returns : goal.returns
returns g c =
    let rules = g.I.Interpreter.rules in
    let filled = filled_is c.args.bounds.frames _ _ c.in-Ok-fill.ensures.ok c.requires.empty in
    let start = ap (g.I.Interpreter.state c.args.interpreter.now) filled ∙ c.requires.start in
    let good = subst rules.IsGood (sym start) c.requires.good in
    let limit = ap (λ r. r.limit) c.in-Ok.ensures in
    let read = c.read_lines-read in
    let holds = g.met.I.Interpreter.holds read.new.machine (g.P.PageStore.content read.new.store) in
    let status = c.served_as.ensures in
    record {
      ends = rw status (serving-ends rules c.args.bounds.frames _ _ _ start good holds read.result _ c.args.bounds.bytes _ _ limit read.ensures.reads);
      read_cause = λ e. served-fault read.result read.ensures.cause (sym status ∙ e);
      write_cause = λ e. serving-failed rules read.result _ _ _ _ _ good read.ensures.reads (sym status ∙ e);
      host_memory = λ e. served-no_memory rules read.result _ _ _ _ _ read.ensures.reads (sym status ∙ e);
    }
