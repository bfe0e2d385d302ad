-- What is found of the graph of a unit keeps what a checked graph has to keep.
use Rattle.std.specs.Prelude.{◌≡◌, ℕ, List, [], length, Ok}
use Rattle.std.proofs.Common.{subst}
use Rattle.spl_tree.specs.declared.body.Function.{Function}
use Rattle.spl_tree.specs.declared.graph.Graph.{Graph}
use Rattle.spl_tree.specs.declared.unit.Definition.{Definition}
use Rattle.language_model.specs.declared.checked.CheckedClauses.{CheckedClauses}
use Rattle.language_model.specs.BodyLaws.{BodyFitLaw, BodyReturnsLaw}
use Rattle.language_model.specs.CheckedGraph.{CheckedGraph}
use Rattle.language_model.specs.parts.Checking.{each_stream, operators_checked}
use Rattle.language_model.specs.FitLaws.{ConstantLaw, DollarsFit, FitLaw}
use Rattle.language_model.specs.FlatLaws.{ConnectedLaw, MakerLaw, OperatorLaw, TopoLaw}
use Rattle.language_model.specs.FunctionTyping.{functions_typing, unit_scope}
use Rattle.language_model.specs.Keeping.{GraphKeeps, Keeps}
use Rattle.language_model.specs.Numbering.{numbers_from}
use Rattle.language_model.specs.Parameters.{dollar_tables}
use Rattle.language_model.specs.StreamTypes.{Attributes}
use Rattle.language_model.specs.Typing.{Found, after}
use Rattle.check_laws.specs.KeepsLaw.{KeepsLaw}
use Rattle.check_laws.specs.PartsLaw.{PartsLaw}
use Rattle.check_laws.proofs.CheckedOperators.{each_checked, operator_fits}
use Rattle.check_laws.proofs.DollarTables.{tables_fit}
use Rattle.language_model.proofs.FoundAnswers.{after_gives, same_Ok}
use Rattle.check_laws.proofs.GraphLimits.{has_places, is_small}
use Rattle.check_laws.proofs.SignedFunctions.{each_signed, functions_fit}
use Rattle.check_laws.proofs.StreamSchemas.{streams_found}
use Rattle.check_laws.proofs.UnitGraphs.{FromMain, from_main, is_made}

-- the laws on which this stands
pub record Laws : Type 0 where
  pub fit : FitLaw
  pub constant : ConstantLaw
  pub no_dollars : DollarsFit []
  pub bodies : BodyFitLaw
  pub returns : BodyReturnsLaw
  pub operators : OperatorLaw
  pub makers : MakerLaw
  pub in_order : TopoLaw
  pub connected : ConnectedLaw
  pub parts : PartsLaw

graph_keeps : (laws : Laws) (unit : List Definition) (names : List (List ℕ)) (g : Graph) → FromMain unit names g → GraphKeeps g
graph_keeps laws unit names g m =
    let small = is_small unit m.main g m.there (is_made unit names m.main g m.flat) in
    record {
      operators = small.operators;
      connections = small.connections;
      ordered = laws.in_order unit names m.main g m.flat;
      made = laws.makers unit names m.main g m.flat;
      taken = laws.connected unit names m.main g m.flat;
    }

keeps_found : (laws : Laws) (unit : List Definition) (names : List (List ℕ)) (g : Graph) (functions : List Function) (parts : List CheckedClauses) (schemas : List Attributes)
    → FromMain unit names g → functions_typing unit ≡ Ok functions → operators_checked unit g (dollar_tables unit g.expansions) g.ops ≡ Ok parts
    → each_stream unit g (numbers_from 0 (length g.streams)) ≡ Ok schemas
    → Keeps (record { graph = g; schemas = schemas; functions = functions; parts = parts })
keeps_found laws unit names g functions parts schemas m of_functions of_parts of_streams =
    let streams = streams_found unit g schemas of_streams in
    let operators = each_checked unit g (dollar_tables unit g.expansions) g.ops parts of_parts in
    let made = is_made unit names m.main g m.flat in
    record {
      graph = graph_keeps laws unit names g m;
      streams = streams.1;
      signatures = (unit_scope unit).functions;
      functions = functions_fit unit functions laws.bodies laws.returns laws.no_dollars of_functions;
      each_signed = each_signed unit functions of_functions;
      parts = operators.count;
      operators = λ n op part at at_part.
          operator_fits laws.parts unit g (dollar_tables unit g.expansions) (tables_fit laws.fit laws.constant unit g.expansions) schemas streams.0 op part
          (laws.operators unit names m.main g m.flat m.there n op at) (has_places unit m.main g m.there made n op at) (operators.found n op part at at_part);
    }

same_keeps : (x c : CheckedGraph) → ◌≡◌ {A = Found CheckedGraph} (Ok x) (Ok c) → Keeps x → Keeps c
same_keeps x c e keeps = subst Keeps (same_Ok e) keeps

pub kept : Laws → KeepsLaw
kept laws unit names g c flat e =
    let m = from_main unit names g (Ok g) flat (λ i. Ok g) in
    let x = after_gives (functions_typing unit) (λ functions. after (operators_checked unit g (dollar_tables unit g.expansions) g.ops) (λ parts.
    after (each_stream unit g (numbers_from 0 (length g.streams))) (λ schemas.
    Ok (record { graph = g; schemas = schemas; functions = functions; parts = parts })))) c e in
    let y = after_gives (operators_checked unit g (dollar_tables unit g.expansions) g.ops) (λ parts.
    after (each_stream unit g (numbers_from 0 (length g.streams))) (λ schemas.
    Ok (record { graph = g; schemas = schemas; functions = x.0; parts = parts }))) c x.2 in
    let z = after_gives (each_stream unit g (numbers_from 0 (length g.streams))) (λ schemas.
    Ok (record { graph = g; schemas = schemas; functions = x.0; parts = y.0 })) c y.2 in
    same_keeps (record { graph = g; schemas = z.0; functions = x.0; parts = y.0 }) c z.2 (keeps_found laws unit names g x.0 y.0 z.0 m x.1 y.1 z.1)
