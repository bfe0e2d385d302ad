use Rattle.std.proofs.Common.{◌≡◌, drop}
use Rattle.std.specs.Option.{option_map}
use Rattle.std.specs.Str.{bytes_eq}
use Rattle.language_model.specs.Scopes.{first_from, unresolved_of}
use Rattle.language_model.proofs.named.unresolved_named.Given as goal

abbrev pub invariant-loop-at : goal.invariant-loop-at
invariant-loop-at l =
    unresolved_of l.scope l.name ≡ option_map (λ f. f.what.refusal) (first_from (λ f. bytes_eq f.name l.name) l.at (drop l.at l.scope.unresolved))
