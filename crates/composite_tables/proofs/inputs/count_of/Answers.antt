use Rattle.std.proofs.Common.{flat_map, subst, arith}
use Rattle.std.proofs.lemmas.List.{take_all}
use Rattle.language_model.specs.Expansion.{sources_of}
use Rattle.composite_tables.specs.steps.Reading.{CountsSources}
use Rattle.composite_tables.proofs.inputs.count_of.Goals as goal

pub returns : goal.returns
returns c = λ xs is.
    subst (λ ns. CountsSources c.loop-name.all (flat_map (λ n. sources_of xs c.args.number n.what) ns)) (take_all c.loop-name.name-index c.args.names.now (omega arith))
    (c.loop-name.invariant xs is)
