use Rattle.std.proofs.Common.{ap, sym, ◌∙◌}
use Rattle.std.specs.Option.{option_copied}
use Rattle.written_types.proofs.DefinedPlaces.{is_there, is_defined}
use Rattle.written_types.proofs.definitions.Definitions.named.Goals as goal

pub returns-in_err-definition : goal.returns-in_err-definition
returns-in_err-definition c =
    absurd (is_there c.args.self.now c.args.name.now c.in_ok-place.place (sym c.in_ok-place.was ∙ c.place.ensures) (ap option_copied (sym c.in_err-definition.was) ∙ c.at.ensures))

pub returns : goal.returns
returns c =
    is_defined c.args.self.now c.args.name.now c.in_ok-place.place c.in_ok-definition.definition.now (sym c.in_ok-place.was ∙ c.place.ensures)
    (ap option_copied (sym c.in_ok-definition.was) ∙ c.at.ensures)
