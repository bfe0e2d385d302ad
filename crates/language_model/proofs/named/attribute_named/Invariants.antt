use Rattle.std.proofs.Common.{◌≡◌, drop}
use Rattle.std.specs.Str.{bytes_eq}
use Rattle.language_model.specs.Scopes.{first_from, attribute_of}
use Rattle.language_model.proofs.named.attribute_named.Given as goal

abbrev pub invariant-loop-at : goal.invariant-loop-at
invariant-loop-at l = attribute_of l.schema l.name ≡ first_from (λ a. bytes_eq a.name l.name) l.at (drop l.at l.schema)
