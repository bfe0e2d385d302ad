use Rattle.std.proofs.Common.{Err, ap, sym}
use Rattle.type_rules.proofs.statements.compound_of.Goals as goal
use Rattle.type_rules.specs.steps.Places.{compound_value}
use Rattle.language_model.proofs.FoundAnswers.{fails, finds_by, goes, stops}
use Rattle.type_rules.proofs.PlacesFound.{compound_law}

pub returns-in_err-target : goal.returns-in_err-target
returns-in_err-target c =
    let e = c.in_err-target.field-0.0 in
    fails _ _ e c.from_residual.ensures.1 (finds_by _ _ (Err e) (compound_law c.args.scope.now c.args.operator c.args.place.now c.args.value.now) (stops _ _ e c.in_err-target.ensures))

pub returns : goal.returns
returns c =
    finds_by _ _ _ (compound_law c.args.scope.now c.args.operator c.args.place.now c.args.value.now)
    (goes _ _ (c.in_ok-target.target, c.in_ok-target.held) _ c.in_ok-target.ensures
    (c.put.ensures _ (finds_by _ _ _ (ap (compound_value c.args.scope.now c.args.operator c.args.place.now c.args.value.now) (sym c.get.ensures)) c.compound_value.ensures)))
