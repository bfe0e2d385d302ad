use Rattle.std.proofs.Common.{Err, subst, sym, ap, ◌∙◌}
use Rattle.spl_value.specs.declared.types.SplType.TheViews.{out-SplType}
use Rattle.language_model.specs.StreamTypes.{level_attributes}
use Rattle.language_model.specs.TypeNames.{Types, composite_types, shape_meant}
use Rattle.language_model.specs.Finds.{Finds}
use Rattle.stream_rules.proofs.streams.own_attributes.Goals as goal
use Rattle.language_model.proofs.FoundAnswers.{fails, goes, stops}

pub returns-in_err-kind : goal.returns-in_err-kind
returns-in_err-kind c =
    let types = composite_types c.args.sites.now.unit.now c.args.body.now.composite.now in
    let P : Types → Type 0 = λ t. Finds (shape_meant t c.args.shape.now) (Err c.in_err-kind.field-0.0) in
    fails _ _ _ c.from_residual.ensures.1 (stops (shape_meant types c.args.shape.now) _ _ (subst P c.types.ensures c.in_err-kind.ensures))

pub returns : goal.returns
returns c =
    let types = composite_types c.args.sites.now.unit.now c.args.body.now.composite.now in
    goes (shape_meant types c.args.shape.now) (λ t. level_attributes c.args.shape.now.at (out-SplType t)) c.in_ok-kind.kind _
    (ap (λ t. shape_meant t c.args.shape.now) (sym c.types.ensures) ∙ c.in_ok-kind.ensures) c.attributes_of_tuple.ensures
