use Rattle.std.proofs.Common.{◌≡◌, ◌++◌, List, length}
use Rattle.std.specs.Vec.Iter.{into_iter_items, into_iter_len}
use Rattle.language_model.specs.declared.outs.Output.{Output}
use Rattle.element_outboxes.specs.Waiting.{waits}
use Rattle.element_works.specs.Works.{answers}
use Rattle.element_works.proofs.replica.reply_rest.Given as goal

abbrev pub invariant-loop-output : goal.invariant-loop-output
invariant-loop-output l = ((taken : List Output) × (l.fn.rest ≡ taken ++ into_iter_items l.output-iterator) × (waits l.outbox ≡ waits l.initial.outbox ++ answers l.number taken))
    × (into_iter_len l.output-iterator ≡ length (into_iter_items l.output-iterator))
