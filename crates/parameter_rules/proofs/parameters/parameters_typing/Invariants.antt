use Rattle.std.proofs.Common.{◌≡◌, map, reverse, drop, []}
use Rattle.language_model.specs.ParameterTyping.{parameters_typing}
use Rattle.language_model.specs.Finds.{with_front}
use Rattle.literal_sites.specs.Sites.{site_seen}
use Rattle.parameter_rules.proofs.parameters.parameters_typing.Given as goal

abbrev pub invariant-loop-parameter : goal.invariant-loop-parameter
invariant-loop-parameter l =
    parameters_typing (site_seen l.site) l.kind l.partitioned [] l.parameters
    ≡ with_front l.given (parameters_typing (site_seen l.site) l.kind l.partitioned (reverse (map (λ g. g.name) l.given)) (drop l.parameter-index l.parameters))
