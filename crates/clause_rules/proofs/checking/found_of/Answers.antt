use Rattle.std.specs.Prelude.{List, length}
use Rattle.std.proofs.Common.{Ok, Err, ap, sym, ◌∙◌}
use Rattle.spl_tree.specs.declared.graph.Graph.{Graph}
use Rattle.spl_tree.specs.declared.unit.Definition.{Definition}
use Rattle.language_model.specs.declared.checked.CheckedClauses.{CheckedClauses}
use Rattle.language_model.specs.parts.Checking.{each_stream, operators_checked}
use Rattle.language_model.specs.Numbering.{numbers_from}
use Rattle.language_model.specs.Parameters.{dollar_tables}
use Rattle.language_model.specs.StreamTypes.{Attributes}
use Rattle.language_model.specs.Typing.{Found, after}
use Rattle.language_model.proofs.FoundAnswers.{fails, finds_by, goes, stops}
use Rattle.clause_rules.specs.declared.checking.PartsAndSchemas.{PartsAndSchemas}
use Rattle.clause_rules.proofs.checking.found_of.Goals as goal

-- the parts of the operators, the attributes of the streams, and both
abbrev parts_in : List Definition → Graph → Found (List CheckedClauses)
parts_in unit g = operators_checked unit g (dollar_tables unit g.expansions) g.ops

abbrev schemas_in : List Definition → Graph → Found (List Attributes)
schemas_in unit g = each_stream unit g (numbers_from 0 (length g.streams))

abbrev with_schemas : List Definition → Graph → List CheckedClauses → Found PartsAndSchemas
with_schemas unit g parts = after (schemas_in unit g) (λ schemas. Ok (record { parts = parts; schemas = schemas }))

pub returns-in_err-parts : goal.returns-in_err-parts
returns-in_err-parts c =
    let g = c.args.graph.now in
    fails _ _ _ c.from_residual-in_err-parts.ensures.1
    (stops (parts_in c.args.unit.now g) (with_schemas c.args.unit.now g) c.in_err-parts.field-0.0
    (finds_by _ _ (Err c.in_err-parts.field-0.0) (ap (λ unit. parts_in unit g) (sym c.in_ok-sites.ensures.unit)) c.in_err-parts.ensures))

pub returns-in_err-schemas : goal.returns-in_err-schemas
returns-in_err-schemas c =
    let g = c.args.graph.now in
    fails _ _ _ c.from_residual-in_err-schemas.ensures.1
    (goes (parts_in c.args.unit.now g) (with_schemas c.args.unit.now g) c.in_ok-parts.parts (Err c.in_err-schemas.field-0.0)
    (ap (λ unit. parts_in unit g) (sym c.in_ok-sites.ensures.unit) ∙ c.in_ok-parts.ensures)
    (stops (schemas_in c.args.unit.now g) (λ schemas. Ok (record { parts = c.in_ok-parts.parts; schemas = schemas })) c.in_err-schemas.field-0.0
    (finds_by _ _ (Err c.in_err-schemas.field-0.0) (ap (λ unit. schemas_in unit g) (sym c.in_ok-sites.ensures.unit)) c.in_err-schemas.ensures)))
