use Rattle.std.proofs.Common.{◌++◌, subst, List, ℕ}
use Rattle.std.specs.Prelude.{codes}
use Rattle.transcript.specs.Hearing.{IsHeard}
use Rattle.transcript.specs.declared.checker.Phase.TheVariants.{Due}
use Rattle.transcript.proofs.CheckLaws.{in_phase, due_own, due_next_koid, match_ok}
use Rattle.transcript.proofs.checker.Checker.hear_due.Goals as goal

pub hear-requires-clause-stands : goal.hear-requires-clause-stands
hear-requires-clause-stands c =
    let at = c.requires.at in
    let h = in_phase at.0 c.args.self.now at.1 Due at.2 c.requires.filled c.requires.due in
    (at.0, h.1.before, due_own at.0 c.args.self.now at.1 at.2 h, due_next_koid at.0 _ _ _ at.1 h.1 at.3)

pub returns : goal.returns
returns c = λ frames tells is.
    let old = c.args.self.now in
    let line = c.args.reply.now ++ codes "\n" in
    let h = in_phase frames old tells Due is c.requires.filled c.requires.due in
    let heard = match_ok c.hear.result c.in_ok-heard.heard _ _ c.in_ok-heard.was (c.hear.ensures.heard frames h.1.before (due_own frames old tells is h)) in
    c.settle.ensures frames tells line old.own is.some is.few is.frames_are c.requires.filled h.1
    (subst (λ (p : List ℕ). IsHeard frames old.own c.hear.new.own p h.1.before line c.in_ok-heard.heard) c.as_slice.ensures.value heard)
