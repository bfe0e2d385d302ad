use Rattle.std.specs.Prelude.{◌==◌}
use Rattle.std.proofs.Common.{sym, ◌∙◌}
use Rattle.parameter_rules.proofs.parameters.keys.is_among.Goals as goal
use Rattle.spl_value.proofs.Lists.{any_reverse}

pub returns : goal.returns
returns c = c.contains.ensures.value ∙ sym (any_reverse (λ n. n == c.args.place) c.args.places.now)
