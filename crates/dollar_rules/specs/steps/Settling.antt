-- What is known while the parameters of a composite are settled one by one.
use Rattle.std.specs.Prelude.{◌≡◌, ℕ}
use Rattle.language_model.specs.Parameters.{constant_scope}
use Rattle.dollar_rules.specs.steps.Given.{AreSettled, Given, IsDone, Keeps, settled_table}
use Rattle.written_types.specs.TypeScopes.{types_in}
use Rattle.dollar_rules.specs.declared.heads.Head.{Head}
use Rattle.dollar_rules.specs.declared.settling.Settled.{Settled}

abbrev pub given_of : Head → Given
given_of h = record { types = types_in h.types; outer = h.outer.now.dollars; arguments = h.arguments.now; parameters = h.parameters.now }

pub record IsSettled (g : Given) (s : Settled) : Type 0 where
  pub are : AreSettled g s.marks.items
  pub kept : s.scope ≡ constant_scope (settled_table g s.marks.items)

-- what was settled still is, and the parameter at the place is done
pub record Settles (g : Given) (old new : Settled) (place : ℕ) : Type 0 where
  pub settled : IsSettled g new
  pub keeps : Keeps old.marks.items new.marks.items
  pub done : IsDone g new.marks.items place
