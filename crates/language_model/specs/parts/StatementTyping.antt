-- Words for parts of the rules of statements, for what works them out step by step.
use Rattle.std.specs.Prelude.{ℕ, List, Option}
use Rattle.std.specs.Option.{option_map_or}
use Rattle.spl_tree.specs.declared.body.Statement.{Statement}
use Rattle.spl_tree.specs.declared.code.CallName.{CallName}
use Rattle.spl_tree.specs.declared.expression.Placed.{Placed}
use Rattle.language_model.specs.declared.scope.Scope.{Scope}
use Rattle.language_model.specs.Scopes.{function_of}
use Rattle.language_model.specs.StatementTyping.{built_in_statement, function_statement}
use Rattle.language_model.specs.Typing.{Part, Found}

-- a call of what the language has built in, or else of a function
abbrev pub call_statement : ℕ → Scope → List ℕ → List (Placed Part) → Option CallName → Found Statement
call_statement at scope name es call =
    option_map_or (λ c. built_in_statement at scope c es) call (function_statement at scope name es (function_of scope name))
