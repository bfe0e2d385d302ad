use Rattle.std.proofs.Common.{◌≡◌, ◌++◌, List, length}
use Rattle.std.specs.Vec.Iter.{into_iter_items, into_iter_len}
use Rattle.language_model.specs.declared.outs.Output.{Output}
use Rattle.list_engine.specs.steps.Taking.{Adds}
use Rattle.list_engine.proofs.operator.add_all.Given as goal

-- those so far were added, and the others are left
abbrev pub invariant-loop-output : goal.invariant-loop-output
invariant-loop-output l = ((taken : List Output) × (l.fn.outputs ≡ taken ++ into_iter_items l.output-iterator) × Adds taken l.fn.outs l.outs)
    × (into_iter_len l.output-iterator ≡ length (into_iter_items l.output-iterator))
