use Rattle.std.proofs.Common.{◌≡◌, drop}
use Rattle.std.specs.Str.{bytes_eq}
use Rattle.language_model.specs.Scopes.{first_from}
use Rattle.language_model.proofs.named.port_named.Given as goal

abbrev pub invariant-loop-at : goal.invariant-loop-at
invariant-loop-at l = first_from (λ p. bytes_eq p.name l.name) 0 l.ports ≡ first_from (λ p. bytes_eq p.name l.name) l.at (drop l.at l.ports)
