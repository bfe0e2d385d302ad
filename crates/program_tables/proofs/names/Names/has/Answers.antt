use Rattle.std.proofs.Common.{ap, ◌∙◌, is_some}
use Rattle.program_tables.proofs.Places.{among_by_place}
use Rattle.program_tables.proofs.names.Names.has.Goals as goal

pub returns : goal.returns
returns c = λ names stand. c.contains_key.ensures ∙ ap is_some (stand.places c.args.name) ∙ among_by_place c.args.name.now names
