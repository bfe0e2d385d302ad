use Rattle.std.proofs.Common.{◌+◌, ◌∙◌, ap, arith}
use Rattle.network_model.specs.Picking.{PopAt}
use Rattle.enabled_events.proofs.Righting.{set_right}
use Rattle.enabled_events.proofs.marking.mark_pop.Goals as goal

pub overflow_cast-place : goal.overflow_cast-place
overflow_cast-place g c =
    let few = c.requires.at.1.few in
    let count = c.requires.at.1.elements_at.count in
    omega (arith, c.len.ensures)

pub set-requires : goal.set-requires
set-requires g c =
    let count = c.requires.at.1.elements_at.count in
    let links = c.requires.at.1.links_at.count in
    record { within = omega (arith, c.len.ensures, c.requires.at.2, c.requires.at.3) }

pub returns : goal.returns
returns g c = record {
  righted = λ m k lt count. (
      set_right m.net m.state c.args.marks.now c.set.new.self (PopAt c.args.link) (c.len.result + c.args.link) c.may_pop-enabled.result count lt c.set.ensures
      (ap (λ n. n + c.args.link) (c.len.ensures ∙ k.elements_at.count)) (c.may_pop-enabled.ensures m k lt)).0;
  right = λ m k lt count. (
      set_right m.net m.state c.args.marks.now c.set.new.self (PopAt c.args.link) (c.len.result + c.args.link) c.may_pop-enabled.result count lt c.set.ensures
      (ap (λ n. n + c.args.link) (c.len.ensures ∙ k.elements_at.count)) (c.may_pop-enabled.ensures m k lt)).1;
}
