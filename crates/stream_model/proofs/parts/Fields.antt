-- Words for parts of the rules of fields, by which proofs speak of them.
use Rattle.std.specs.Prelude.{List, ◌∷◌, Option, option_map}
use Rattle.std.specs.Option.{option_and_then}
use Rattle.spl_value.specs.declared.value.Value.{Value}

abbrev pub in_front : Option Value → Option (List Value) → Option (List Value)
in_front first others = option_and_then (λ v. option_map (λ vs. v ∷ vs) others) first
