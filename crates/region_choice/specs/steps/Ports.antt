-- The ports of operators, by the streams that they take and give.
use Rattle.std.specs.Prelude.{ℕ, List, [], ◌∷◌, Option, None, Some}
use Rattle.language_model.specs.CheckedGraph.{CheckedGraph}
use Rattle.language_model.specs.StreamTypes.{Attributes}
use Rattle.stream_model.specs.declared.plan.StateKind.{StateKind}
use Rattle.stream_model.specs.declared.plan.StateKind.TheVariants as K
use Rattle.stream_model.specs.CheckedMeaning.{first_schema}

-- the stream of the one connection
abbrev pub sole_stream : List (List ℕ) → Option ℕ
sole_stream ((s ∷ []) ∷ []) = Some s
sole_stream _ = None

abbrev pub sole_input : List (List ℕ) → List ℕ → Option ℕ
sole_input ins (s ∷ []) = sole_stream ins
sole_input ins _ = None

-- the same of an operator with this state that may stand in a region
abbrev pub entry_of : List (List ℕ) → List ℕ → StateKind → Option ℕ
entry_of ins outs K.Stateless = sole_input ins outs
entry_of ins outs (K.Keyed places) = sole_input ins outs
entry_of ins outs K.Whole = None

-- the attributes of the first port
abbrev pub first_input : CheckedGraph → List (List ℕ) → Attributes
first_input c [] = []
first_input c (streams ∷ ins) = first_schema c streams
