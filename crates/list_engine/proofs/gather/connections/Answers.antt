use Rattle.std.proofs.Common.{◌≡◌, ◌∙◌, ap, sym, subst, take, ◌++◌, ◌+◌}
use Rattle.std.specs.List.{concat}
use Rattle.list_engine.proofs.Gathering.{connections_more}
use Rattle.list_engine.proofs.gather.connections.Goals as goal

pub loop-port-preserved : goal.loop-port-preserved
loop-port-preserved c =
    let ports = c.as_slice-port-items.result.now in
    let i = c.loop-port.port-index in
    c.in_ok-append.ensures.ok ∙ ap (λ ss. ss ++ c.in_ok-from_slice.field-0) c.loop-port.invariant
    ∙ ap (λ ss. concat (take i c.args.op.now.ins) ++ ss) (c.in_ok-from_slice.ensures ∙ c.as_slice.ensures)
    ∙ sym (subst (λ xs. concat (take (i + 1) xs) ≡ concat (take i xs) ++ c.port-item.result) c.as_slice-port-items.ensures
    (connections_more ports i c.port-item.result c.loop-port-test.true c.port-item.is))
