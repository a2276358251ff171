use Rattle.std.proofs.Common.{sym, ap, ◌∙◌, arith}
use Rattle.std.specs.Option.{option_map}
use Rattle.vm_base.specs.declared.names.Tag.{Tag}
use Rattle.transcript.proofs.SeenLaws.{first_all, first_full}
use Rattle.transcript.proofs.answering.frames_of.Goals as goal

pub returns-in_default : goal.returns-in_default
returns-in_default c = λ good.
    first_all _ _ c.loop-at.at c.loop-at.frames.items c.loop-at.invariant.first good (sym c.pinned_frame.ensures ∙ ap (option_map (λ (tag : Tag). tag.0)) c.in_default.is)

pub returns : goal.returns
returns c = λ good. first_full _ _ c.loop-at.at c.loop-at.frames.items c.loop-at.invariant.first good (omega (arith, c.loop-at-test.false))
