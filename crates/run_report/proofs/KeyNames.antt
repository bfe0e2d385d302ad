-- The attributes by which keys are told.
use Rattle.std.specs.Prelude.{◌≡◌, ℕ, List, [], ◌∷◌, map, slice_get}
use Rattle.std.specs.Option.{option_map_or, unwrap_or}
use Rattle.std.proofs.Common.{refl, sym, ap, ◌∙◌}
use Rattle.language_model.specs.CheckedGraph.{CheckedGraph}
use Rattle.stream_model.specs.CheckedMeaning.{first_schema}
use Rattle.stream_model.specs.Operators.{input_attributes}
use Rattle.stream_model.proofs.CheckedOperators.{operator_from}
use Rattle.run_report.specs.PlanTextLaws.{KeyNamesLaw}

-- the attributes of the first port are those of the first port's streams
first_port : (c : CheckedGraph) (ins : List (List ℕ)) → first_schema c (unwrap_or (slice_get ins 0) []) ≡ unwrap_or (slice_get (map (first_schema c) ins) 0) []
first_port c [] = refl
first_port c (streams ∷ ins) = refl

pub key_names : KeyNamesLaw
key_names c n op at =
    let found = operator_from c 0 c.graph.ops c.parts n op at in
    ap (λ o. option_map_or (λ op. first_schema c (unwrap_or (slice_get op.ins 0) [])) o []) found.there ∙ first_port c found.op.ins
    ∙ ap (λ o. input_attributes o 0) (sym found.same)
