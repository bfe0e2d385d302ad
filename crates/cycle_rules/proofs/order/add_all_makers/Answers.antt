use Rattle.std.proofs.Common.{sym, ap, ◌∙◌, arith, ◌≡◌, length}
use Rattle.std.specs.Prelude.{◌&&◌}
use Rattle.cycle_rules.specs.steps.Makers.{covers, are_made}
use Rattle.cycle_rules.proofs.Flags.{port_more, port_fails}
use Rattle.cycle_rules.proofs.order.add_all_makers.Goals as goal

pub returns-then-not-add_makers : goal.returns-then-not-add_makers
returns-then-not-add_makers c = λ flags e.
    let same : length flags ≡ length c.loop-port.row = omega arith in
    port_fails c.args.streams.now flags (covers c.args.row.now flags) c.loop-port.row c.args.ports.now c.loop-port.port-index c.port-item.result
    c.loop-port-test.true c.port-item.is (c.loop-port.invariant flags e)
    (ap (λ b. b && covers c.add_makers.new.row flags) (sym c.if-not-add_makers.true) ∙ c.add_makers.ensures flags same
    ∙ ap (λ ns. covers c.loop-port.row flags && are_made c.args.streams.now flags ns) c.as_slice.ensures)

pub loop-port-preserved : goal.loop-port-preserved
loop-port-preserved c = λ flags e.
    let same : length flags ≡ length c.loop-port.row = omega arith in
    port_more c.args.streams.now flags (covers c.args.row.now flags) c.loop-port.row c.add_makers.new.row c.args.ports.now c.loop-port.port-index c.port-item.result
    c.loop-port-test.true c.port-item.is (c.loop-port.invariant flags e)
    (ap (λ b. b && covers c.add_makers.new.row flags) (sym c.if-not-add_makers.false) ∙ c.add_makers.ensures flags same
    ∙ ap (λ ns. covers c.loop-port.row flags && are_made c.args.streams.now flags ns) c.as_slice.ensures)
