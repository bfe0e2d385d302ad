use Rattle.std.proofs.Common.{◌∙◌, ap, refl, codes}
use Rattle.language_model.specs.Checking.{as_places}
use Rattle.clause_rules.proofs.parts.keys_of.Goals as goal

pub returns-clause-group : goal.returns-clause-group
returns-clause-group c = c.take_places-group.ensures.places ∙ ap as_places (c.take_places-partition.ensures.others (codes "groupBy") refl)
