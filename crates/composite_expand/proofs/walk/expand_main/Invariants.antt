use Rattle.std.specs.Prelude.{reverse}
use Rattle.spl_tree.specs.declared.unit.Composite.{Composite}
use Rattle.language_model.specs.Scopes.{At}
use Rattle.composite_expand.specs.steps.Walks.{IsOn, Starts, work_left}
use Rattle.composite_expand.proofs.walk.expand_main.Given as goal

abbrev pub invariant-bodies : goal.invariant-bodies
invariant-bodies l = (m : At Composite) → Starts l.composites.unit.now l.main m → IsOn l.composites.unit.now m l.walk (reverse l.walk.opened)

abbrev pub decreases-bodies : goal.decreases-bodies
decreases-bodies l = work_left l.composites.unit.now (reverse l.walk.opened)
