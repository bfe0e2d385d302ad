use Rattle.std.proofs.Common.{◌∙◌, ◌<◌, ap, refl, subst, sym}
use Rattle.stream_model.specs.declared.shape.ShapeLink.{ShapeLink}
use Rattle.network_model.specs.Events.{Push}
use Rattle.enabled_events.specs.Moments.{moved}
use Rattle.net_core.proofs.Enabling.{pushing}
use Rattle.net_core.proofs.Stands.{Pushing, push_elements, push_first, push_ready, push_room, push_some, push_stands, push_within}
use Rattle.net_core.proofs.net.Net.push.Goals as goal

pub returns-then-not-pushes : goal.returns-then-not-pushes
returns-then-not-pushes g c m k = (sym (c.pushes.ensures m k) ∙ c.if-not-pushes.true, refl)

pub ends-at-requires : goal.ends-at-requires
ends-at-requires g c =
    let m = c.requires.stands.0 in
    let k = c.requires.stands.1 in
    let may = sym (c.pushes.ensures m k) ∙ c.if-not-pushes.false in
    record { within = subst (λ n. c.args.link < n) (sym k.parts.links_at.count) (push_within g.R.React.spec g.R.React.stands c.args.self.now m k c.args.link may) }

pub put_at-requires : goal.put_at-requires
put_at-requires g c =
    let m = c.requires.stands.0 in
    let k = c.requires.stands.1 in
    let may = sym (c.pushes.ensures m k) ∙ c.if-not-pushes.false in
    let is = k.parts.links_at.ends c.args.link c.ends-at.result c.ends-at.ensures in
    record {
      at = (
        m,
        k.parts.elements_at,
        subst (λ (y : ShapeLink). y.from < m.net.size) (sym is) (k.parts.linked.from c.args.link (push_within g.R.React.spec g.R.React.stands c.args.self.now m k c.args.link may)),
      );
    }

pub unreachable-requires : goal.unreachable-requires
unreachable-requires g c =
    let m = c.requires.stands.0 in
    let k = c.requires.stands.1 in
    let may = sym (c.pushes.ensures m k) ∙ c.if-not-pushes.false in
    let is = k.parts.links_at.ends c.args.link c.ends-at.result c.ends-at.ensures in
    let lt = subst (λ (y : ShapeLink). y.from < m.net.size) (sym is) (k.parts.linked.from c.args.link (push_within g.R.React.spec g.R.React.stands c.args.self.now m k c.args.link may)) in
    push_some g.R.React.spec g.R.React.stands c.args.self.now m k c.args.link c.ends-at.result.from may (ap (λ (y : ShapeLink). y.from) is) (c.in-None.ensures m k.parts.elements_at lt)

pub push-requires : goal.push-requires
push-requires g c =
    let m = c.requires.stands.0 in
    let k = c.requires.stands.1 in
    let may = sym (c.pushes.ensures m k) ∙ c.if-not-pushes.false in
    record {
      within = subst (λ n. c.args.link < n) (sym k.parts.links_at.count) (push_within g.R.React.spec g.R.React.stands c.args.self.now m k c.args.link may);
      room = push_room g.R.React.spec g.R.React.stands c.args.self.now m k c.args.link may;
    }

pub refresh-requires : goal.refresh-requires
refresh-requires g c =
    let m = c.requires.stands.0 in
    let k = c.requires.stands.1 in
    let may = sym (c.pushes.ensures m k) ∙ c.if-not-pushes.false in
    let x = c.ends-at.result in
    let is = k.parts.links_at.ends c.args.link x c.ends-at.ensures in
    let within = push_within g.R.React.spec g.R.React.stands c.args.self.now m k c.args.link may in
    let lt = subst (λ (y : ShapeLink). y.from < m.net.size) (sym is) (k.parts.linked.from c.args.link within) in
    let p = c.in-Some.sent.1 in
    let put = c.in-Some.ensures m k.parts.elements_at lt in
    let at = push_elements g.R.React.spec g.R.React.stands c.args.self.now m k c.args.link c.in-Some.sent.0 p put.0.0 x c.put_at.new.elements may is put.0.1 put.1 in
    let parts = push_ready g.R.React.spec g.R.React.stands c.args.self.now m k c.args.link p c.put_at.new.elements c.push.new.self may c.push.ensures at in
    let after = moved m (Pushing g.R.React.spec g.R.React.stands c.args.self.now m k c.args.link p) in
    record { at = (after, parts, k.marked.count, lt) }

pub mark_pop-requires : goal.mark_pop-requires
mark_pop-requires g c =
    let m = c.requires.stands.0 in
    let k = c.requires.stands.1 in
    let may = sym (c.pushes.ensures m k) ∙ c.if-not-pushes.false in
    let x = c.ends-at.result in
    let is = k.parts.links_at.ends c.args.link x c.ends-at.ensures in
    let within = push_within g.R.React.spec g.R.React.stands c.args.self.now m k c.args.link may in
    let lt = subst (λ (y : ShapeLink). y.from < m.net.size) (sym is) (k.parts.linked.from c.args.link within) in
    let p = c.in-Some.sent.1 in
    let put = c.in-Some.ensures m k.parts.elements_at lt in
    let at = push_elements g.R.React.spec g.R.React.stands c.args.self.now m k c.args.link c.in-Some.sent.0 p put.0.0 x c.put_at.new.elements may is put.0.1 put.1 in
    let parts = push_ready g.R.React.spec g.R.React.stands c.args.self.now m k c.args.link p c.put_at.new.elements c.push.new.self may c.push.ensures at in
    let after = moved m (Pushing g.R.React.spec g.R.React.stands c.args.self.now m k c.args.link p) in
    let r = c.refresh.ensures after parts k.marked.count lt in
    record { at = (after, parts, within, r.righted.count ∙ k.marked.count) }

pub mark_push-requires : goal.mark_push-requires
mark_push-requires g c =
    let m = c.requires.stands.0 in
    let k = c.requires.stands.1 in
    let may = sym (c.pushes.ensures m k) ∙ c.if-not-pushes.false in
    let x = c.ends-at.result in
    let is = k.parts.links_at.ends c.args.link x c.ends-at.ensures in
    let within = push_within g.R.React.spec g.R.React.stands c.args.self.now m k c.args.link may in
    let lt = subst (λ (y : ShapeLink). y.from < m.net.size) (sym is) (k.parts.linked.from c.args.link within) in
    let p = c.in-Some.sent.1 in
    let put = c.in-Some.ensures m k.parts.elements_at lt in
    let at = push_elements g.R.React.spec g.R.React.stands c.args.self.now m k c.args.link c.in-Some.sent.0 p put.0.0 x c.put_at.new.elements may is put.0.1 put.1 in
    let parts = push_ready g.R.React.spec g.R.React.stands c.args.self.now m k c.args.link p c.put_at.new.elements c.push.new.self may c.push.ensures at in
    let after = moved m (Pushing g.R.React.spec g.R.React.stands c.args.self.now m k c.args.link p) in
    let r = c.refresh.ensures after parts k.marked.count lt in
    let pop = c.mark_pop.ensures.righted after parts within (r.righted.count ∙ k.marked.count) in
    record { at = (after, parts, within, pop.count ∙ (r.righted.count ∙ k.marked.count)) }

pub returns : goal.returns
returns g c m k =
    let may = sym (c.pushes.ensures m k) ∙ c.if-not-pushes.false in
    let x = c.ends-at.result in
    let is = k.parts.links_at.ends c.args.link x c.ends-at.ensures in
    let within = push_within g.R.React.spec g.R.React.stands c.args.self.now m k c.args.link may in
    let lt = subst (λ (y : ShapeLink). y.from < m.net.size) (sym is) (k.parts.linked.from c.args.link within) in
    let p = c.in-Some.sent.1 in
    let put = c.in-Some.ensures m k.parts.elements_at lt in
    let at = push_elements g.R.React.spec g.R.React.stands c.args.self.now m k c.args.link c.in-Some.sent.0 p put.0.0 x c.put_at.new.elements may is put.0.1 put.1 in
    let parts = push_ready g.R.React.spec g.R.React.stands c.args.self.now m k c.args.link p c.put_at.new.elements c.push.new.self may c.push.ensures at in
    let after = moved m (Pushing g.R.React.spec g.R.React.stands c.args.self.now m k c.args.link p) in
    let r = c.refresh.ensures after parts k.marked.count lt in
    let count = r.righted.count ∙ k.marked.count in
    let pop = c.mark_pop.ensures.righted after parts within count in
    let first = push_first g.R.React.spec g.R.React.stands c.args.self.now m k c.args.link c.in-Some.sent.0 p put.0.0 x may is put.0.1 in (
      Push c.args.link p,
      (p, refl),
      pushing m.net m.state c.args.link p put.0.0 may first,
      push_stands g.R.React.spec g.R.React.stands c.args.self.now m k c.args.link p put.0.0 x.from c.put_at.new.elements c.push.new.self c.refresh.new.marks c.mark_pop.new.marks c.mark_push.new.marks may first parts
          (ap (λ (y : ShapeLink). y.from) is) r pop (c.mark_pop.ensures.right after parts within count)
          (c.mark_push.ensures.righted after parts within (pop.count ∙ count)) (c.mark_push.ensures.right after parts within (pop.count ∙ count)),
    )
