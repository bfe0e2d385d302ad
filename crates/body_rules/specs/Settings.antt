-- Where a body stands, by what a call is given.
use Rattle.std.specs.Prelude.{ℕ, List, [], map}
use Rattle.std.specs.Option.{option_copied}
use Rattle.language_model.specs.BodyFits.{Purpose, OfFunction, OfHandler}
use Rattle.language_model.specs.BodyTyping.{Setting}
use Rattle.body_rules.specs.declared.bodies.BodyPurpose.{BodyPurpose}
use Rattle.body_rules.specs.declared.bodies.BodyPurpose.TheVariants as P
use Rattle.body_rules.specs.declared.bodies.BodySetting.{BodySetting}
use Rattle.written_types.specs.TypeScopes.{types_in}

abbrev pub purpose_meant : BodyPurpose → Purpose
purpose_meant (P.Function result) = OfFunction (option_copied result)
purpose_meant (P.Handler outputs) = OfHandler (map (λ p. p.schema) outputs.now)

-- the names of the output ports
abbrev pub output_names : BodyPurpose → List (List ℕ)
output_names (P.Function result) = []
output_names (P.Handler outputs) = map (λ p. p.name) outputs.now

abbrev pub setting_meant : BodySetting → Setting
setting_meant s = record { types = types_in s.types; purpose = purpose_meant s.purpose; outputs = output_names s.purpose }
