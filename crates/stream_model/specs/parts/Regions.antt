-- Words for parts of the rules of regions: whether a source is an attribute, and whether each event of an operator causes one item.
use Rattle.std.specs.Prelude.{ℕ, ◌==◌, Bool, false, Option}
use Rattle.std.specs.Option.{option_map_or}
use Rattle.stream_model.specs.Operators.{Operator}
use Rattle.stream_model.specs.Regions.{is_one_class}
use Rattle.stream_model.specs.Selectivity.{gives}

abbrev pub is_it : Option ℕ → ℕ → Bool
is_it source a = option_map_or (λ b. b == a) source false

abbrev pub is_one_each : Operator → Bool
is_one_each op = is_one_class (gives op.clauses)
