use Rattle.std.proofs.Common.{ap, ◌∙◌}
use Rattle.std.specs.List.{list_any}
use Rattle.std.specs.Str.{bytes_eq}
use Rattle.duplicate_rules.proofs.declarations.names.NamesBefore.has.Goals as goal

pub returns : goal.returns
returns c = λ before hold. c.contains.ensures ∙ hold c.as_slice.result ∙ ap (λ b. list_any (λ m. bytes_eq m.what b) before) c.as_slice.ensures
