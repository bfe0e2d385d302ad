use Rattle.std.proofs.Common.{arith, refl}
use Rattle.network_model.specs.Picking.{ReadAt}
use Rattle.enabled_events.proofs.Righting.{set_right}
use Rattle.enabled_events.proofs.marking.mark_read.Goals as goal

pub set-requires : goal.set-requires
set-requires g c = record { within = omega (arith, c.requires.at.2, c.requires.at.3) }

pub returns : goal.returns
returns g c = record {
  righted = λ m k lt count. (
      set_right m.net m.state c.args.marks.now c.set.new.self (ReadAt c.args.element) c.args.element c.may_read-enabled.result count lt c.set.ensures
      refl (c.may_read-enabled.ensures m k lt)).0;
  right = λ m k lt count. (
      set_right m.net m.state c.args.marks.now c.set.new.self (ReadAt c.args.element) c.args.element c.may_read-enabled.result count lt c.set.ensures
      refl (c.may_read-enabled.ensures m k lt)).1;
}
