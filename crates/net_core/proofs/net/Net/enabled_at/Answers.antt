use Rattle.std.proofs.Common.{◌<◌, ◌-◌, arith, refl, subst, sym}
use Rattle.network_model.specs.Picking.{PopAt, PushAt, ReadAt}
use Rattle.net_core.proofs.Numbers.{enabled_many, enabled_nth, nth_below}
use Rattle.net_core.proofs.net.Net.enabled_at.Goals as goal

pub nth-place-requires : goal.nth-place-requires
nth-place-requires g c =
    let m = c.requires.within.0 in
    record { few = subst (λ n. c.args.n < n) (sym (enabled_many m.net m.state c.args.self.now.marks c.requires.within.1.marked)) c.requires.within.2 }

pub overflow_cast-elements : goal.overflow_cast-elements
overflow_cast-elements g c =
    let k = c.requires.within.1 in
    let few = k.parts.few in
    let count = k.parts.elements_at.count in
    omega (arith, c.len-elements.ensures)

pub returns-then-place-elements : goal.returns-then-place-elements
returns-then-place-elements g c m k =
    let count = k.parts.elements_at.count in
    enabled_nth m.net m.state c.args.self.now.marks c.args.n c.nth-place.result (ReadAt c.nth-place.result) k.marked c.nth-place.ensures
    (omega (arith, c.len-elements.ensures)) refl

pub returns-then-other-links : goal.returns-then-other-links
returns-then-other-links g c m k =
    let count = k.parts.elements_at.count in
    let links = k.parts.links_at.count in
    enabled_nth m.net m.state c.args.self.now.marks c.args.n c.nth-place.result (PopAt (c.nth-place.result - c.len-elements.result)) k.marked c.nth-place.ensures
    (omega (arith, c.len-links.ensures)) (omega (arith, c.len-elements.ensures))

pub returns : goal.returns
returns g c m k =
    let count = k.parts.elements_at.count in
    let links = k.parts.links_at.count in
    let below = nth_below m.net m.state c.args.self.now.marks c.args.n c.nth-place.result k.marked c.nth-place.ensures in
    enabled_nth m.net m.state c.args.self.now.marks c.args.n c.nth-place.result (PushAt (c.nth-place.result - c.len-elements.result - c.len-links.result)) k.marked
    c.nth-place.ensures (omega (arith, c.len-elements.ensures, c.len-links.ensures)) (omega (arith, c.len-elements.ensures, c.len-links.ensures))
