use Rattle.std.proofs.Common.{◌≡◌, ◌∙◌, ◌<◌, ◌+◌, ◌++◌, ◌∷◌, [], ap, get_or, refl, sym, subst, arith, length, length-append}
use Rattle.std.proofs.lemmas.Option.{slice_get_read}
use Rattle.composite_tables.specs.steps.Reading.{PortsStand}
use Rattle.composite_tables.proofs.Counting.{opened, ports_next}
use Rattle.composite_tables.proofs.inputs.inputs_of.Goals as goal

pub loop-place-preserved : goal.loop-place-preserved
loop-place-preserved c =
    let more : c.push.new.self ≡ c.loop-place.inputs ++ c.input_of.result ∷ [] = c.in_ok-push.ensures.ok in
    let ports = c.args.invocation.now.inputs in
    let i = c.in-Ok.number in
    let q = c.port-item.result in
    let number : i ≡ c.loop-place.place = c.in-Ok.ensures.1 in
    let given : q ≡ get_or ports i q = c.port-item.is ∙ (λ t. get_or (c.as_slice-port-items.ensures t) (sym number t) q) in
    let within : i < length ports = rw (← c.as_slice-port-items.ensures) (omega arith) in
    record {
      count = ap length more ∙ length-append c.loop-place.inputs (c.input_of.result ∷ []) ∙ ap (λ n. n + 1) c.loop-place.invariant.count;
      stand = λ xs is here.
          subst (PortsStand xs c.args.site) (sym more)
          (ports_next xs c.args.site c.args.scope.now.composite.now c.args.row.now c.args.invocation.now c.loop-place.inputs c.input_of.result i q c.as_slice.result.now is here
          (slice_get_read ports (length ports) i q refl within given) c.as_slice.ensures (c.loop-place.invariant.count ∙ sym number) (c.loop-place.invariant.stand xs is here) (c.input_of.ensures xs is));
    }

pub returns : goal.returns
returns c = λ xs is here y at count.
    let whole = ap length c.as_slice-port-items.ensures in
    opened xs c.args.site c.args.scope.now.composite.now c.args.row.now c.loop-place.inputs y is (c.loop-place.invariant.stand xs is here) at (omega (arith, whole))
