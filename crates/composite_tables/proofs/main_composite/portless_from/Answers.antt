use Rattle.std.proofs.Common.{◌∙◌, sym}
use Rattle.language_model.specs.Composites.{composites}
use Rattle.composite_tables.proofs.Portless.{first_here, first_later}
use Rattle.composite_tables.proofs.main_composite.portless_from.Goals as goal

pub returns-then-has_no_ports-clause-first : goal.returns-then-has_no_ports-clause-first
returns-then-has_no_ports-clause-first c =
    sym (c.loop-place.invariant ∙ first_here (composites c.args.composites.now.unit.now) c.loop-place.place c.in_ok-scope.scope.now.composite.now (sym c.in_ok-scope.ensures)
    (sym c.has_no_ports.ensures ∙ c.if-has_no_ports.true))

pub loop-place-preserved : goal.loop-place-preserved
loop-place-preserved c =
    c.loop-place.invariant ∙ first_later (composites c.args.composites.now.unit.now) c.loop-place.place c.in_ok-scope.scope.now.composite.now (sym c.in_ok-scope.ensures)
    (sym c.has_no_ports.ensures ∙ c.if-has_no_ports.false)
