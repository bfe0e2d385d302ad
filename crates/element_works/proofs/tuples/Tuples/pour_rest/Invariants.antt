use Rattle.std.proofs.Common.{◌≡◌, ◌++◌, List, length}
use Rattle.std.specs.Vec.Iter.{into_iter_items, into_iter_len}
use Rattle.language_model.specs.declared.outs.Output.{Output}
use Rattle.element_works.specs.Tuples.{for_writer, sink_waits}
use Rattle.element_works.proofs.tuples.Tuples.pour_rest.Given as goal

abbrev pub invariant-loop-output : goal.invariant-loop-output
invariant-loop-output l = ((taken : List Output) × (l.fn.rest ≡ taken ++ into_iter_items l.output-iterator)
    × (sink_waits l.self ≡ sink_waits l.initial.self ++ for_writer taken))
    × (into_iter_len l.output-iterator ≡ length (into_iter_items l.output-iterator))
    × (l.self.places ≡ l.initial.self.places) × (l.self.ready ≡ l.initial.self.ready)
