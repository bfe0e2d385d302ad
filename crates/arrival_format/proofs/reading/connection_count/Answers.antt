use Rattle.std.proofs.Common.{◌∙◌, ap, sym, length, List, ℕ, sum_by}
use Rattle.std.proofs.lemmas.List.{take_all}
use Rattle.arrival_format.proofs.reading.connection_count.Goals as goal
use Rattle.spl_value.proofs.Lists.{count_concat}

pub returns : goal.returns
returns c =
    c.loop-port.invariant
    ∙ ap (λ (xs : List (List ℕ)). sum_by length xs) (take_all c.loop-port.port-index c.as_slice-port-items.result.now c.loop-port-test.false ∙ c.as_slice-port-items.ensures)
    ∙ sym (count_concat c.args.op.now.ins)
