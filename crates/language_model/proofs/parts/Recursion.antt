-- Words for parts of the rules of recursion.
use Rattle.std.specs.Prelude.{ℕ, List, Option}
use Rattle.std.specs.Option.{option_map}
use Rattle.std.specs.Str.{bytes_eq}
use Rattle.spl_tree.specs.declared.expression.Placed.{Placed}
use Rattle.spl_tree.specs.Trees.{placed}
use Rattle.language_model.specs.Recursion.{Caller}
use Rattle.language_model.specs.Scopes.{first_from}

-- a call of one of these callers, by the place of that
abbrev pub call_among : List Caller → Placed (List ℕ) → Option (Placed ℕ)
call_among callers n = option_map (λ d. placed n.at d.place) (first_from (λ d. bytes_eq d.name n.what) 0 callers)
