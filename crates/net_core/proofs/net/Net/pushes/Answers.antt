use Rattle.std.proofs.Common.{◌<◌, ◌+◌, arith}
use Rattle.network_model.specs.Picking.{PushAt}
use Rattle.net_core.proofs.Asked.{mark_is, past_push}
use Rattle.net_core.proofs.net.Net.pushes.Goals as goal

pub overflow_cast-elements : goal.overflow_cast-elements
overflow_cast-elements g c =
    let k = c.requires.stands.1 in
    let few = k.parts.few in
    let count = k.parts.elements_at.count in
    omega (arith, c.len-elements.ensures)

pub is_marked-requires : goal.is_marked-requires
is_marked-requires g c =
    let k = c.requires.stands.1 in
    let many = k.marked.count in
    let count = k.parts.elements_at.count in
    let links = k.parts.links_at.count in
    record { within = omega (arith, c.len-elements.ensures, c.len-links.ensures) }

pub returns-then-link-links : goal.returns-then-link-links
returns-then-link-links g c m k =
    let count = k.parts.elements_at.count in
    let links = k.parts.links_at.count in
    let lt : c.args.link < m.net.links = omega (arith, c.len-links.ensures) in
    mark_is m.net m.state c.args.self.now.marks (PushAt c.args.link) (c.len-elements.result + c.len-links.result + c.args.link) c.is_marked.result k.marked lt c.is_marked.ensures
    (omega (arith, c.len-elements.ensures, c.len-links.ensures))

pub returns-else-link-links : goal.returns-else-link-links
returns-else-link-links g c m k =
    let links = k.parts.links_at.count in
    past_push m.net m.state c.args.link (omega (arith, c.len-links.ensures))
