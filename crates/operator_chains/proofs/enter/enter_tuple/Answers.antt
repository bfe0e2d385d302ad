use Rattle.std.proofs.Common.{[], ◌∷◌}
use Rattle.spl_value.specs.declared.item.Item.TheVariants as I
use Rattle.stream_model.specs.Stages.{gives_all, stage_after}
use Rattle.stream_model.specs.Stream.{came}
use Rattle.operator_chains.specs.Places.{given_as}
use Rattle.operator_chains.specs.Standing.{AtStage, Enters}
use Rattle.operator_chains.proofs.Passing.{ok_fits}
use Rattle.operator_chains.proofs.enter.enter_tuple.Goals as goal

pub returns-clause-fits : goal.returns-clause-fits
returns-clause-fits g c =
    ok_fits (g.R.React.spec c.args.slot.now.operator) (AtStage g.R.React.spec g.R.React.stands c.args.slot.now)
    (λ s. Enters s (came c.args.input (I.Tuple c.args.came.now) ∷ []))
    (λ went. given_as went c.take_tuple.new.came c.take_tuple.new.made c.take_tuple.new.outs)
    (λ s. gives_all s (came c.args.input (I.Tuple c.args.came.now) ∷ []))
    (λ s. AtStage g.R.React.spec g.R.React.stands c.take_tuple.new.slot (stage_after s (came c.args.input (I.Tuple c.args.came.now) ∷ [])))
    c.take_tuple.result c.take_tuple.ensures.gives c.take_tuple.ensures.fits
