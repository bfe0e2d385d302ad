-- Words for parts of the rules of whole records: the entries of a record.
use Rattle.std.specs.Prelude.{ℕ, ◌==◌, nat_lt, Bool, List, length}
use Rattle.std.specs.List.{list_all}
use Rattle.stream_model.specs.Meaning.{Lists, arrive}
use Rattle.stream_model.specs.Operators.{Operator, ports}

-- each entry names an input of the operator
abbrev pub names_inputs : Operator → List ℕ → Bool
names_inputs op entries = list_all (λ i. nat_lt i (length (ports op))) entries

-- each entry finds an item in the list that it names
abbrev pub finds_items : Lists → List ℕ → Bool
finds_items lists entries = length (arrive lists entries) == length entries
