use Rattle.std.proofs.Common.{◌++◌, ◌∷◌, [], List, ap, sym, ◌∙◌, flat_map, map, take}
use Rattle.std.proofs.lemmas.List.{map-append}
use Rattle.spl_tree.specs.declared.unit.InputPort.{InputPort}
use Rattle.spl_value.proofs.Lists.{take_at}
use Rattle.language_model.specs.declared.expansion.Source.{Source}
use Rattle.language_model.specs.Expansion.{sources_of}
use Rattle.composite_tables.proofs.sources.sources_by_port.Goals as goal

pub loop-port-preserved : goal.loop-port-preserved
loop-port-preserved c = λ xs kept.
    let ports = c.as_slice-port-items.result.now in
    let i = c.loop-port.port-index in
    let q = c.port-item.result in
    let taken : InputPort → List Source = λ q. flat_map (λ n. sources_of xs c.args.number n.what) q.streams in
    c.in_ok-add_port.ensures xs kept
    ∙ ap (λ rows. rows ++ taken q ∷ []) (c.loop-port.invariant xs kept)
    ∙ sym (ap (map taken) (take_at ports i q c.loop-port-test.true c.port-item.is) ∙ map-append taken (take i ports) (q ∷ []))
