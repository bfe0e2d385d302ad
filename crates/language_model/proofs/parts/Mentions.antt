-- Words for parts of the rules of what is mentioned: the call that a mention is.
use Rattle.std.specs.Prelude.{ℕ, List, Option, Some, None}
use Rattle.spl_tree.specs.declared.expression.Placed.{Placed}
use Rattle.spl_tree.specs.Trees.{placed}
use Rattle.language_model.specs.Mentions.{Mention, Called, Dollar}

abbrev pub called_at : ℕ → Mention → Option (Placed (List ℕ))
called_at at m = elim m [ Called name ↦ Some (placed at name) | Dollar name ↦ None ]
