-- Tables of `$` parameters, kept as scopes in which nothing else can be named.
use Rattle.std.specs.Prelude.{◌≡◌, List, map}
use Rattle.language_model.specs.declared.scope.Scope.{Scope}
use Rattle.language_model.specs.Parameters.{Tables, constant_scope}

abbrev pub tables_of : List Scope → Tables
tables_of scopes = map (λ s. s.dollars) scopes

abbrev pub AreConstants : List Scope → Type 0
AreConstants scopes = scopes ≡ map (λ s. constant_scope s.dollars) scopes
