use Rattle.std.proofs.Common.{eqb-true, sym, ◌∙◌}
use Rattle.fault.specs.Table.{translations_of}
use Rattle.fault.proofs.OutcomeLaws.{ReadsSpace-none}
use Rattle.fault.proofs.translations.Translations.read_bytes.Goals as goal

pub returns-then-is_empty-clause-outcome : goal.returns-then-is_empty-clause-outcome
returns-then-is_empty-clause-outcome g c =
    ReadsSpace-none _ _ c.args.root.0 c.args.addr (translations_of c.args.self.now) c.args.out.now (eqb-true _ 0 (sym c.is_empty.ensures ∙ c.if-is_empty.true))
