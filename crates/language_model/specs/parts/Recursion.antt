-- Words for parts of the rules of recursion, each of which says what one function gives.
use Rattle.std.specs.Prelude.{ℕ, map}
use Rattle.spl_tree.specs.declared.unit.Composite.{Composite}
use Rattle.spl_tree.specs.declared.unit.FunctionDefinition.{FunctionDefinition}
use Rattle.spl_tree.specs.Trees.{placed}
use Rattle.language_model.specs.Mentions.{calls, block_mentions}
use Rattle.language_model.specs.Recursion.{Caller, Calls, Leads}

abbrev pub function_caller : FunctionDefinition → Caller
function_caller f = record { name = f.name.what; called = calls (block_mentions f.body) }

-- a composite calls what it invokes, at the first tokens of the invocations
abbrev pub composite_caller : Composite → Caller
composite_caller c = record { name = c.name.what; called = map (λ i. placed i.at i.operator.what) c.graph }

-- none leads back to itself
abbrev pub IsAcyclic : Calls → Type 0
IsAcyclic calls = (i : ℕ) → Leads calls i i → ⊥
