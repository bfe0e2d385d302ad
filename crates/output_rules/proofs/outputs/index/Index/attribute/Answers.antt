use Rattle.std.proofs.Common.{ap, sym, ◌∙◌}
use Rattle.std.specs.Option.{option_copied}
use Rattle.std.proofs.lemmas.Option.{slice_get_within}
use Rattle.output_rules.proofs.OutputIndex.{is_there, is_first}
use Rattle.output_rules.proofs.outputs.index.Index.attribute.Goals as goal

pub returns-in_err-found : goal.returns-in_err-found
returns-in_err-found c =
    absurd (is_there c.args.self.now.schema.now c.args.name.now c.in_ok-place.place (sym c.in_ok-place.was ∙ c.place.ensures) (ap option_copied (sym c.in_err-found.was) ∙ c.at.ensures))

pub returns : goal.returns
returns c =
    let schema = c.args.self.now.schema.now in
    let at = ap option_copied (sym c.in_ok-found.was) ∙ c.at.ensures in
    record {
      found = is_first schema c.args.name.now c.in_ok-place.place c.in_ok-found.found.now (sym c.in_ok-place.was ∙ c.place.ensures) at;
      within = slice_get_within schema c.in_ok-place.place c.in_ok-found.found.now (sym at);
    }
