-- The result of reading and checking a program: its checked graph, or its first refusal, with its place.
use Rattle.std.specs.Prelude.{ℕ, List, Result, Ok, Err}
use Rattle.std.specs.Result.{result_map_both}
use Rattle.spl_tree.specs.declared.graph.Graph.{Graph}
use Rattle.spl_tree.specs.declared.token.LexicalError.{LexicalError}
use Rattle.spl_tree.specs.declared.token.Tokens.{Tokens}
use Rattle.spl_tree.specs.declared.unit.Definition.{Definition}
use Rattle.spl_tree.specs.Tokens.{IsLexed}
use Rattle.spl_tree.specs.Units.{IsTooDeepAt, IsUnexpectedAt, IsUnit}
use Rattle.language_model.specs.declared.expansion.ExpansionRefusal.{ExpansionRefusal}
use Rattle.language_model.specs.declared.refusal.Code.TheVariants as C
use Rattle.language_model.specs.declared.refusal.Refusal.{Refusal}
use Rattle.language_model.specs.CheckedGraph.{CheckedGraph}
use Rattle.language_model.specs.Checking.{checked}
use Rattle.language_model.specs.Flat.{IsFlat}
use Rattle.language_model.specs.Refusals.{check_refusal, expansion_refusal, refusal_by}

-- the bytes of a program, where sinks may not have the files of these names, give a checked graph or a refusal
pub data IsAccepted (bytes : List ℕ) (names : List (List ℕ)) : Result CheckedGraph Refusal → Type 0 where
  no_tokens : (error : LexicalError) (at : ℕ) → IsLexed bytes (Err (error, at))
      → IsAccepted bytes names (Err (refusal_by (C.Lexical error) at))
  too_deep : (ts : Tokens) (at : ℕ) → IsLexed bytes (Ok ts) → IsTooDeepAt ts 0 at
      → IsAccepted bytes names (Err (refusal_by C.TooDeep at))
  unexpected : (ts : Tokens) (at : ℕ) → IsLexed bytes (Ok ts) → IsUnexpectedAt ts at
      → IsAccepted bytes names (Err (refusal_by C.Unexpected at))
  no_graph : (ts : Tokens) (unit : List Definition) (refusal : ExpansionRefusal) → IsLexed bytes (Ok ts)
      → IsUnit ts unit
      → IsFlat unit names (Err refusal) → IsAccepted bytes names (Err (expansion_refusal refusal))
  checks : (ts : Tokens) (unit : List Definition) (g : Graph) → IsLexed bytes (Ok ts) → IsUnit ts unit
      → IsFlat unit names (Ok g) → IsAccepted bytes names (result_map_both (λ c. c) check_refusal (checked unit g))
