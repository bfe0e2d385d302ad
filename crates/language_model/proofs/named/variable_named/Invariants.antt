use Rattle.std.proofs.Common.{◌≡◌, ◌≤◌, length, take}
use Rattle.std.specs.Str.{bytes_eq}
use Rattle.language_model.specs.Scopes.{last_from, variable_of}
use Rattle.language_model.proofs.named.variable_named.Given as goal

abbrev pub invariant-variables : goal.invariant-variables
invariant-variables l = record {
  within : l.at ≤ length l.variables;
  last : variable_of l.scope l.name ≡ last_from (λ v. bytes_eq v.name l.name) 0 (take l.at l.scope.vars);
  same : l.variables ≡ l.scope.vars;
}

abbrev pub decreases-variables : goal.decreases-variables
decreases-variables l = l.at
