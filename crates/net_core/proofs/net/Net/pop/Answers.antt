use Rattle.std.proofs.Common.{◌∙◌, ◌<◌, true, false, ap, refl, subst, sym}
use Rattle.stream_model.specs.declared.shape.ShapeLink.{ShapeLink}
use Rattle.network_model.specs.Events.{Pop}
use Rattle.enabled_events.specs.Moments.{moved}
use Rattle.net_core.proofs.Stands.{Popping, pop_elements, pop_may, pop_ready, pop_done, pop_some, pop_take, pop_within}
use Rattle.net_core.proofs.net.Net.pop.Goals as goal

pub returns-then-not-pops : goal.returns-then-not-pops
returns-then-not-pops g c m k fit = (sym (c.pops.ensures m k) ∙ c.if-not-pops.true, refl)

pub ends-at-requires : goal.ends-at-requires
ends-at-requires g c =
    let m = c.requires.may.0 in
    let k = c.requires.may.1 in
    let may = sym (c.pops.ensures m k) ∙ c.if-not-pops.false in
    record { within = subst (λ n. c.args.link < n) (sym k.parts.links_at.count) (pop_within g.R.React.spec g.R.React.stands c.args.self.now m k c.args.link may) }

pub pop-requires : goal.pop-requires
pop-requires g c =
    let m = c.requires.may.0 in
    let k = c.requires.may.1 in
    let may = sym (c.pops.ensures m k) ∙ c.if-not-pops.false in
    record { within = subst (λ n. c.args.link < n) (sym k.parts.links_at.count) (pop_within g.R.React.spec g.R.React.stands c.args.self.now m k c.args.link may) }

pub unreachable-requires : goal.unreachable-requires
unreachable-requires g c =
    let m = c.requires.may.0 in
    let k = c.requires.may.1 in
    let may = sym (c.pops.ensures m k) ∙ c.if-not-pops.false in
    pop_some g.R.React.spec g.R.React.stands c.args.self.now m k c.args.link may c.in-None.ensures.0

pub take_at-taken-requires : goal.take_at-taken-requires
take_at-taken-requires g c =
    let m = c.requires.may.0 in
    let k = c.requires.may.1 in
    let may = sym (c.pops.ensures m k) ∙ c.if-not-pops.false in
    let x = c.ends-at.result in
    let is = k.parts.links_at.ends c.args.link x c.ends-at.ensures in
    let says = pop_may g.R.React.spec g.R.React.stands c.args.self.now m k c.args.link c.in-Some.packet c.in-Some.ensures.0 may c.in-Some.ensures.1 in
    record {
      at = (
        m,
        k.parts.elements_at,
        subst (λ (y : ShapeLink). y.to < m.net.size) (sym is) (k.parts.linked.to c.args.link says.link),
        pop_take g.R.React.spec g.R.React.stands c.args.self.now m k c.args.link c.in-Some.packet x is (c.requires.may.2 c.in-Some.packet says),
      );
    }

pub refresh-requires : goal.refresh-requires
refresh-requires g c =
    let m = c.requires.may.0 in
    let k = c.requires.may.1 in
    let may = sym (c.pops.ensures m k) ∙ c.if-not-pops.false in
    let x = c.ends-at.result in
    let is = k.parts.links_at.ends c.args.link x c.ends-at.ensures in
    let p = c.in-Some.packet in
    let says = pop_may g.R.React.spec g.R.React.stands c.args.self.now m k c.args.link p c.in-Some.ensures.0 may c.in-Some.ensures.1 in
    let lt = subst (λ (y : ShapeLink). y.to < m.net.size) (sym is) (k.parts.linked.to c.args.link says.link) in
    let b = c.take_at-taken.result in
    let at = pop_elements g.R.React.spec g.R.React.stands c.args.self.now m k b c.args.link p x c.take_at-taken.new.elements is
    (c.take_at-taken.ensures m k.parts.elements_at lt (pop_take g.R.React.spec g.R.React.stands c.args.self.now m k c.args.link p x is (c.requires.may.2 p says))) in
    let parts = pop_ready g.R.React.spec g.R.React.stands c.args.self.now m k b c.args.link p c.in-Some.ensures.0 c.take_at-taken.new.elements c.pop.new.self may c.in-Some.ensures.1 c.in-Some.ensures.2 at in
    let after = moved m (Popping g.R.React.spec g.R.React.stands c.args.self.now m k b c.args.link p) in
    record { at = (after, parts, k.marked.count, lt) }

pub mark_push-requires : goal.mark_push-requires
mark_push-requires g c =
    let m = c.requires.may.0 in
    let k = c.requires.may.1 in
    let may = sym (c.pops.ensures m k) ∙ c.if-not-pops.false in
    let x = c.ends-at.result in
    let is = k.parts.links_at.ends c.args.link x c.ends-at.ensures in
    let p = c.in-Some.packet in
    let says = pop_may g.R.React.spec g.R.React.stands c.args.self.now m k c.args.link p c.in-Some.ensures.0 may c.in-Some.ensures.1 in
    let lt = subst (λ (y : ShapeLink). y.to < m.net.size) (sym is) (k.parts.linked.to c.args.link says.link) in
    let b = c.take_at-taken.result in
    let at = pop_elements g.R.React.spec g.R.React.stands c.args.self.now m k b c.args.link p x c.take_at-taken.new.elements is
    (c.take_at-taken.ensures m k.parts.elements_at lt (pop_take g.R.React.spec g.R.React.stands c.args.self.now m k c.args.link p x is (c.requires.may.2 p says))) in
    let parts = pop_ready g.R.React.spec g.R.React.stands c.args.self.now m k b c.args.link p c.in-Some.ensures.0 c.take_at-taken.new.elements c.pop.new.self may c.in-Some.ensures.1 c.in-Some.ensures.2 at in
    let after = moved m (Popping g.R.React.spec g.R.React.stands c.args.self.now m k b c.args.link p) in
    let r = c.refresh.ensures after parts k.marked.count lt in
    record { at = (after, parts, says.link, r.righted.count ∙ k.marked.count) }

pub returns-then-taken : goal.returns-then-taken
returns-then-taken g c m k fit =
    let may = sym (c.pops.ensures m k) ∙ c.if-not-pops.false in
    let x = c.ends-at.result in
    let is = k.parts.links_at.ends c.args.link x c.ends-at.ensures in
    let p = c.in-Some.packet in
    let rest = c.in-Some.ensures.0 in
    let are = c.in-Some.ensures.1 in
    let says = pop_may g.R.React.spec g.R.React.stands c.args.self.now m k c.args.link p rest may are in
    let lt = subst (λ (y : ShapeLink). y.to < m.net.size) (sym is) (k.parts.linked.to c.args.link says.link) in
    let b = c.take_at-taken.result in
    let es = c.take_at-taken.new.elements in
    let at = pop_elements g.R.React.spec g.R.React.stands c.args.self.now m k b c.args.link p x es is
    (c.take_at-taken.ensures m k.parts.elements_at lt (pop_take g.R.React.spec g.R.React.stands c.args.self.now m k c.args.link p x is (fit p says))) in
    let parts = pop_ready g.R.React.spec g.R.React.stands c.args.self.now m k b c.args.link p rest es c.pop.new.self may are c.in-Some.ensures.2 at in
    let after = moved m (Popping g.R.React.spec g.R.React.stands c.args.self.now m k b c.args.link p) in
    let r = c.refresh.ensures after parts k.marked.count lt in
    let count = r.righted.count ∙ k.marked.count in (
      Pop c.args.link p,
      (p, refl),
      says,
      pop_done g.R.React.spec g.R.React.stands c.args.self.now m k b true c.args.link p rest x.to es c.pop.new.self c.refresh.new.marks c.mark_push.new.marks c.if-taken.true may are parts
          (ap (λ (y : ShapeLink). y.to) is) r (c.mark_push.ensures.righted after parts says.link count) (c.mark_push.ensures.right after parts says.link count),
    )

pub returns-else-taken : goal.returns-else-taken
returns-else-taken g c m k fit =
    let may = sym (c.pops.ensures m k) ∙ c.if-not-pops.false in
    let x = c.ends-at.result in
    let is = k.parts.links_at.ends c.args.link x c.ends-at.ensures in
    let p = c.in-Some.packet in
    let rest = c.in-Some.ensures.0 in
    let are = c.in-Some.ensures.1 in
    let says = pop_may g.R.React.spec g.R.React.stands c.args.self.now m k c.args.link p rest may are in
    let lt = subst (λ (y : ShapeLink). y.to < m.net.size) (sym is) (k.parts.linked.to c.args.link says.link) in
    let b = c.take_at-taken.result in
    let es = c.take_at-taken.new.elements in
    let at = pop_elements g.R.React.spec g.R.React.stands c.args.self.now m k b c.args.link p x es is
    (c.take_at-taken.ensures m k.parts.elements_at lt (pop_take g.R.React.spec g.R.React.stands c.args.self.now m k c.args.link p x is (fit p says))) in
    let parts = pop_ready g.R.React.spec g.R.React.stands c.args.self.now m k b c.args.link p rest es c.pop.new.self may are c.in-Some.ensures.2 at in
    let after = moved m (Popping g.R.React.spec g.R.React.stands c.args.self.now m k b c.args.link p) in
    let r = c.refresh.ensures after parts k.marked.count lt in
    let count = r.righted.count ∙ k.marked.count in (
      Pop c.args.link p,
      (p, refl),
      says,
      tt,
      pop_done g.R.React.spec g.R.React.stands c.args.self.now m k b false c.args.link p rest x.to es c.pop.new.self c.refresh.new.marks c.mark_push.new.marks c.if-taken.false may are parts
          (ap (λ (y : ShapeLink). y.to) is) r (c.mark_push.ensures.righted after parts says.link count) (c.mark_push.ensures.right after parts says.link count),
    )
