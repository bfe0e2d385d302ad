-- Operators for worked cases.
use Rattle.std.specs.Prelude.{ℕ, List, []}
use Rattle.language_model.specs.declared.checked.CheckedClauses.{CheckedClauses}
use Rattle.stream_model.specs.Operators.{Operator}

-- an operator with this number, these clauses, and these streams at its ports, that calls no functions, and of whose attributes nothing asks
abbrev pub operator_of : ℕ → CheckedClauses → List (List ℕ) → List ℕ → Operator
operator_of number clauses ins outs = record { number = number; clauses = clauses; functions = []; types = record { ins = []; outs = [] }; ins = ins; outs = outs }
