use Rattle.std.proofs.Common.{◌≡◌, drop}
use Rattle.std.specs.Option.{option_map}
use Rattle.std.specs.Str.{bytes_eq}
use Rattle.language_model.specs.Scopes.{first_from, dollar_of}
use Rattle.language_model.proofs.named.dollar_named.Given as goal

abbrev pub invariant-loop-at : goal.invariant-loop-at
invariant-loop-at l =
    dollar_of l.dollars l.name ≡ option_map (λ d. d.what.found) (first_from (λ d. bytes_eq d.name l.name) l.at (drop l.at l.dollars))
