use Rattle.std.proofs.Common.{◌<◌, arith, refl}
use Rattle.network_model.specs.Picking.{ReadAt}
use Rattle.net_core.proofs.Asked.{mark_is, past_read}
use Rattle.net_core.proofs.net.Net.reads.Goals as goal

pub is_marked-requires : goal.is_marked-requires
is_marked-requires g c =
    let k = c.requires.stands.1 in
    let many = k.marked.count in
    let count = k.parts.elements_at.count in
    record { within = omega (arith, c.len-elements.ensures) }

pub returns-then-number-elements : goal.returns-then-number-elements
returns-then-number-elements g c m k =
    let count = k.parts.elements_at.count in
    let lt : c.args.element < m.net.size = omega (arith, c.len-elements.ensures) in
    mark_is m.net m.state c.args.self.now.marks (ReadAt c.args.element) c.args.element c.is_marked.result k.marked lt c.is_marked.ensures refl

pub returns-else-number-elements : goal.returns-else-number-elements
returns-else-number-elements g c m k =
    let count = k.parts.elements_at.count in
    past_read m.net m.state c.args.element (omega (arith, c.len-elements.ensures))
