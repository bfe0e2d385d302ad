use Rattle.std.proofs.Common.{◌≡◌, ◌++◌, List, length}
use Rattle.std.specs.Vec.Iter.{into_iter_items, into_iter_len}
use Rattle.language_model.specs.declared.outs.Output.{Output}
use Rattle.stream_model.specs.Replies.{AllFit}
use Rattle.operator_chains.specs.steps.Rest.{HasEntered}
use Rattle.operator_chains.proofs.slot.enter_rest.Given as goal

-- those so far were taken, and the others are left
abbrev pub invariant-loop-output : goal.invariant-loop-output
invariant-loop-output g l = ((taken : List Output) × (l.fn.rest ≡ taken ++ into_iter_items l.output-iterator) × HasEntered g.R.React.spec g.R.React.stands l.fn.slot l.fn.given l.fn.rest taken l.slot l.given)
    × (into_iter_len l.output-iterator ≡ length (into_iter_items l.output-iterator))
    × AllFit (g.R.React.spec l.fn.slot.operator) l.given
    × (g.R.React.spec l.slot.operator ≡ g.R.React.spec l.fn.slot.operator)
