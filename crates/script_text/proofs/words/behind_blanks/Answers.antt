use Rattle.std.proofs.Common.{◌-◌, length, drop, length-drop, sym, ◌∙◌, arith}
use Rattle.std.proofs.lemmas.List.{length-take}
use Rattle.script_text.proofs.Cutting.{words-behind}
use Rattle.script_text.proofs.words.behind_blanks.Goals as goal

pub loop-rest-preserved : goal.loop-rest-preserved
loop-rest-preserved c =
    let rest = c.loop-rest.rest.now in (
      words-behind rest c.in-len1-up.len_at_least (sym c.is_blank.ensures ∙ c.if-not-is_blank.false)
          ∙ c.loop-rest.invariant.0,
      omega (arith, c.loop-rest.invariant.1, length-take (length rest - 1) (drop 1 rest), length-drop 1 rest),
    )
