use Rattle.std.proofs.Common.{subst, sym}
use Rattle.std.specs.Prelude.{reverse, ◌<◌}
use Rattle.composite_expand.specs.steps.Walks.{IsOn, work_left}
use Rattle.composite_expand.proofs.Begin.{on_popped}
use Rattle.composite_expand.proofs.walk.expand_main.Goals as goal
use Rattle.spl_value.proofs.Lists.{reverse_more as reversed}

pub bodies-smaller : goal.bodies-smaller
bodies-smaller c =
    let way = reversed c.pop.new.self c.bodies.walk.opened c.in-Some.top c.in-Some.ensures in
    let on = subst (IsOn c.args.composites.now.unit.now c.requires.0 c.bodies.walk) way (c.bodies.invariant c.requires.0 c.requires.1) in
    subst (λ ps. work_left c.args.composites.now.unit.now (reverse c.step.new.walk.opened) < work_left c.args.composites.now.unit.now ps) (sym way)
    (c.in-Ok.ensures c.requires.0 c.requires.1.none (on_popped c.args.composites.now.unit.now c.requires.0 c.bodies.walk c.pop.new.self _ on)).less

pub bodies-preserved : goal.bodies-preserved
bodies-preserved c = λ m starts.
    let way = reversed c.pop.new.self c.bodies.walk.opened c.in-Some.top c.in-Some.ensures in
    let on = subst (IsOn c.args.composites.now.unit.now m c.bodies.walk) way (c.bodies.invariant m starts) in
    (c.in-Ok.ensures m starts.none (on_popped c.args.composites.now.unit.now m c.bodies.walk c.pop.new.self _ on)).on

pub returns-in-Err : goal.returns-in-Err
returns-in-Err c = λ m starts.
    let way = reversed c.pop.new.self c.bodies.walk.opened c.in-Some.top c.in-Some.ensures in
    let on = subst (IsOn c.args.composites.now.unit.now m c.bodies.walk) way (c.bodies.invariant m starts) in
    c.in-Err.ensures m starts.none (on_popped c.args.composites.now.unit.now m c.bodies.walk c.pop.new.self _ on)
