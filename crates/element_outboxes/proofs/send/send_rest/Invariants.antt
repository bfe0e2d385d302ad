use Rattle.std.proofs.Common.{◌≡◌, ◌++◌, List, ℕ, length}
use Rattle.std.specs.Vec.Iter.{into_iter_items, into_iter_len}
use Rattle.language_model.specs.declared.outs.Output.{Output}
use Rattle.element_outboxes.specs.Waiting.{all_out, fans_from, waits}
use Rattle.element_outboxes.proofs.send.send_rest.Given as goal

abbrev pub invariant-loop-output : goal.invariant-loop-output
invariant-loop-output l = ((taken : List Output) × (l.fn.rest ≡ taken ++ into_iter_items l.output-iterator)
    × ((counts : List ℕ) → l.fans ≡ fans_from 0 counts → waits l.outbox ≡ waits l.initial.outbox ++ all_out counts taken))
    × (into_iter_len l.output-iterator ≡ length (into_iter_items l.output-iterator))
