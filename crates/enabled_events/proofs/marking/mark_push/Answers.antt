use Rattle.std.proofs.Common.{◌+◌, ◌∙◌, ap, arith}
use Rattle.network_model.specs.Picking.{PushAt}
use Rattle.enabled_events.proofs.Righting.{set_right}
use Rattle.enabled_events.proofs.marking.mark_push.Goals as goal

pub overflow_cast-place : goal.overflow_cast-place
overflow_cast-place g c =
    let few = c.requires.at.1.few in
    let count = c.requires.at.1.elements_at.count in
    omega (arith, c.len.ensures)

pub set-requires : goal.set-requires
set-requires g c =
    let count = c.requires.at.1.elements_at.count in
    let links = c.requires.at.1.links_at.count in
    record { within = omega (arith, c.len.ensures, c.len-2.ensures, c.requires.at.2, c.requires.at.3) }

pub returns : goal.returns
returns g c = record {
  righted = λ m k lt count. (
      set_right m.net m.state c.args.marks.now c.set.new.self (PushAt c.args.link) (c.len.result + c.len-2.result + c.args.link) c.may_push-enabled.result count lt c.set.ensures
      (ap (λ n. n + c.len-2.result + c.args.link) (c.len.ensures ∙ k.elements_at.count) ∙ ap (λ n. m.net.size + n + c.args.link) (c.len-2.ensures ∙ k.links_at.count)) (c.may_push-enabled.ensures m k lt)).0;
  right = λ m k lt count. (
      set_right m.net m.state c.args.marks.now c.set.new.self (PushAt c.args.link) (c.len.result + c.len-2.result + c.args.link) c.may_push-enabled.result count lt c.set.ensures
      (ap (λ n. n + c.len-2.result + c.args.link) (c.len.ensures ∙ k.elements_at.count) ∙ ap (λ n. m.net.size + n + c.args.link) (c.len-2.ensures ∙ k.links_at.count)) (c.may_push-enabled.ensures m k lt)).1;
}
