-- Callers as the definition sees them, and the table of their names.
use Rattle.std.specs.Prelude.{ℕ, List, map, Option}
use Rattle.std.specs.Borrow.{Bor}
use Rattle.std.specs.Option.{option_map}
use Rattle.std.specs.Str.{bytes_eq}
use Rattle.spl_tree.specs.declared.expression.Placed.{Placed}
use Rattle.spl_tree.specs.Trees.{placed}
use Rattle.language_model.specs.Recursion as D
use Rattle.language_model.specs.Scopes.{first_from}
use Rattle.cycle_rules.specs.declared.recursion.Caller.{Caller}

abbrev pub name_seen : Placed (Bor (List ℕ)) → Placed (List ℕ)
name_seen n = placed n.at n.what.now

abbrev pub caller_seen : Caller → D.Caller
caller_seen c = record { name = c.name.now; called = map name_seen c.called.items }

abbrev pub callers_seen : List Caller → List D.Caller
callers_seen cs = map caller_seen cs

-- the place of the first of that name, in a list that begins at a place
abbrev pub place_from : ℕ → List D.Caller → List ℕ → Option ℕ
place_from at callers name = option_map (λ c. c.place) (first_from (λ c. bytes_eq c.name name) at callers)

-- the call of a name, by the place that the table has for it
abbrev pub found_place : (List ℕ → Option ℕ) → Placed (List ℕ) → Option (Placed ℕ)
found_place table n = option_map (λ p. placed n.at p) (table n.what)
