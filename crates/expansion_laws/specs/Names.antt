-- Names of operators: words with dots between them.
use Rattle.std.specs.Prelude.{◌≡◌, ℕ, true, List, ◌++◌, codes, Ok, Some, slice_get}
use Rattle.spl_tree.specs.declared.graph.Graph.{Graph}
use Rattle.spl_tree.specs.declared.graph.Op.{Op}
use Rattle.spl_tree.specs.declared.token.Tokens.{Tokens}
use Rattle.spl_tree.specs.declared.unit.Definition.{Definition}
use Rattle.spl_tree.specs.Tokens.{is_word, tokens}
use Rattle.spl_tree.specs.Units.{SpellsProgram}
use Rattle.language_model.specs.Flat.{IsFlat}

pub data IsDotted : List ℕ → Type 0 where
  word : (w : List ℕ) → is_word w ≡ true → IsDotted w
  dotted : (w rest : List ℕ) → is_word w ≡ true → IsDotted rest → IsDotted (w ++ codes "." ++ rest)

-- so are the names in the graph of a unit that the tokens of bytes spell
abbrev pub DottedLaw : Type 0
DottedLaw = (bytes : List ℕ) (ts : Tokens) (unit : List Definition) (names : List (List ℕ)) (g : Graph) → tokens bytes ≡ Ok ts → SpellsProgram unit ts.list → IsFlat unit names (Ok g)
    → (n : ℕ) (op : Op) → slice_get g.ops n ≡ Some op → IsDotted op.name
