-- Tuples, keys, histories and an operator for worked cases of windows and groups.
use Rattle.std.specs.Prelude.{ℕ, ℤ, List, [], ◌∷◌, map, codes}
use Rattle.spl_value.specs.declared.value.Value.{Value}
use Rattle.spl_value.specs.declared.value.Value.TheVariants as V
use Rattle.spl_value.specs.Key.{key_of}
use Rattle.language_model.specs.declared.checked.CheckedClauses.TheVariants as P
use Rattle.stream_model.specs.Operators.{Operator}
use Rattle.stream_model.specs.examples.SomeOperators.{operator_of}
use Rattle.stream_model.specs.Windows.{WindowEvent, Insert, in_order}

-- a tuple of a number
abbrev pub number : ℤ → List Value
number n = V.Int n ∷ []

-- tuples of a text and a number
abbrev pub a_with : ℤ → List Value
a_with n = V.Text (codes "a") ∷ V.Int n ∷ []

abbrev pub b_with : ℤ → List Value
b_with n = V.Text (codes "b") ∷ V.Int n ∷ []

-- their keys by the text
abbrev pub key_a : List Value
key_a = V.Text (codes "a") ∷ []

abbrev pub key_b : List Value
key_b = V.Text (codes "b") ∷ []

-- the history of these tuples, which came in this order, each under its values at the places
abbrev pub history : List ℕ → List (List Value) → List WindowEvent
history places ts = map (λ t. Insert (key_of t places) t) (in_order ts)

-- by the text
abbrev pub by_text : List (List Value) → List WindowEvent
by_text ts = history (0 ∷ []) ts

-- of a window that isn't partitioned
abbrev pub of_all : List (List Value) → List WindowEvent
of_all ts = history [] ts

-- an operator with two ports: inputs 0 and 1 are of port 0, and input 2 is of port 1
abbrev pub two_ports : Operator
two_ports = operator_of 3 (P.FileSink []) ((0 ∷ 1 ∷ []) ∷ (2 ∷ []) ∷ []) []
