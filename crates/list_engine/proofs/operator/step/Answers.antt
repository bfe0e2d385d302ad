use Rattle.stream_model.specs.Stream.{came}
use Rattle.list_engine.proofs.Taking.{step_on, step_ends}
use Rattle.list_engine.proofs.operator.step.Goals as goal

pub returns-in_ok-add_outputs-in-Out : goal.returns-in_ok-add_outputs-in-Out
returns-in_ok-add_outputs-in-Out g c = λ task done reached may.
    step_on g.R.React.spec g.R.React.stands task done c.args.operator.now c.on_item.new.self c.args.given.now _ (came c.args.input c.args.item) reached may c.in_ok-note.ensures
    c.in-Out.caused c.in-Out.ensures.same c.in-Out.ensures.replies c.in-Out.ensures.stands c.in-Out.ensures.fits c.in_ok-add_outputs-in-Out.ensures

pub returns-in_ok-add_outputs-in-Ended : goal.returns-in_ok-add_outputs-in-Ended
returns-in_ok-add_outputs-in-Ended g c = λ task done reached may.
    step_ends g.R.React.spec g.R.React.stands task done c.args.operator.now c.on_item.new.self c.args.given.now _ (came c.args.input c.args.item) reached may c.in_ok-note.ensures
    c.in-Ended.caused c.in-Ended.fault c.in-Ended.ensures.replies c.in-Ended.ensures.fits c.in_ok-add_outputs-in-Ended.ensures
