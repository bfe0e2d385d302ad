-- Words for parts of the rules of functions: calls that nest at most so deep.
use Rattle.std.specs.Prelude.{ℕ, List}
use Rattle.spl_tree.specs.declared.body.Function.{Function}
use Rattle.language_model.specs.Evaluation.{Calls}
use Rattle.language_model.specs.Statements.{calls_by}
use Rattle.language_model.specs.Functions.{bodies_of}

abbrev pub calls_of : List Function → ℕ → Calls
calls_of functions depth = calls_by (bodies_of functions depth)
