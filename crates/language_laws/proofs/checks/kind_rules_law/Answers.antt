use Rattle.language_laws.proofs.KindLaws.{kind_names, kind_rows}
use Rattle.language_laws.proofs.checks.kind_rules_law.Goals as goal

pub returns : goal.returns
returns c = record { names = kind_names; rows = kind_rows }
