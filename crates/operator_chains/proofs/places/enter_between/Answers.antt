use Rattle.std.proofs.Common.{◌<◌, [], ◌∷◌, List, length, subst, arith, IfOk}
use Rattle.spl_value.specs.declared.item.Item.TheVariants as I
use Rattle.spl_value.specs.declared.value.Value.{Value}
use Rattle.stream_model.specs.Replies.{AllFit}
use Rattle.stream_model.specs.Stages.{Stage, gives_all}
use Rattle.stream_model.specs.Stream.{came}
use Rattle.operator_chains.specs.Standing.{AtStage, Enters}
use Rattle.operator_chains.proofs.FrontTuples.{front_tuple}
use Rattle.operator_chains.proofs.places.enter_between.Goals as goal

pub returns-clause-fits : goal.returns-clause-fits
returns-clause-fits g c =
    let within : c.args.at < length c.split_at_mut-front.result.0.now =
    (let l = c.requires.before in let n = c.split_at_mut-front.ensures.front_len in omega arith) in
    subst (λ (t : List Value). IfOk c.enter_tuple.result (λ _. (s : Stage) → AtStage g.R.React.spec g.R.React.stands c.args.slot.now s
    → Enters s (came c.args.input (I.Tuple t) ∷ []) → AllFit (g.R.React.spec c.args.slot.now.operator) (gives_all s (came c.args.input (I.Tuple t) ∷ []))))
    (front_tuple c.args.places.now c.split_at_mut-front.result.0.now c.split_at_mut-front.result.1.now c.args.at c.index-front-at.result
    c.split_at_mut-front.ensures.value within)
    c.enter_tuple.ensures.fits
