use Rattle.std.proofs.Common.{◌∙◌, ◌^◌, ap, flat_map, length, map, min, arith}
use Rattle.std.specs.List.{sum_by}
use Rattle.std.proofs.lemmas.List.{take_all}
use Rattle.language_model.specs.Expansion.{sources_of}
use Rattle.composite_tables.proofs.Counting.{port_counted, streams_taken}
use Rattle.composite_tables.proofs.inputs.connections.Goals as goal

pub loop-port-preserved : goal.loop-port-preserved
loop-port-preserved c = λ xs is.
    port_counted xs c.args.number c.as_slice-port-items.result.now c.loop-port.port-index c.port-item.result c.loop-port.count c.count_of-more.result.count c.saturating_add.result c.min-count.result
    c.loop-port-test.true c.port-item.is (c.loop-port.invariant xs is)
    ((c.count_of-more.ensures xs is).count ∙ ap (λ ns. min (length (flat_map (λ n. sources_of xs c.args.number n.what) ns)) (2 ^ 30)) c.as_slice.ensures)
    c.saturating_add.ensures c.min-count.ensures

pub returns : goal.returns
returns c = λ xs is.
    c.loop-port.invariant xs is
    ∙ ap (λ ports. min (sum_by length (map (streams_taken xs c.args.number) ports)) (2 ^ 30)) (take_all c.loop-port.port-index c.as_slice-port-items.result.now (omega arith) ∙ c.as_slice-port-items.ensures)
