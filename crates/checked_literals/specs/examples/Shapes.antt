-- Parts of trees that several programs have.
use Rattle.std.specs.Prelude.{ℕ, List, [], ◌∷◌, Some, None, codes}
use Rattle.spl_value.specs.declared.types.IntKind.{IntKind}
use Rattle.spl_value.specs.declared.types.IntKind.TheVariants as N
use Rattle.spl_tree.specs.declared.expression.ExprKind.TheVariants as E
use Rattle.spl_tree.specs.declared.expression.Field.{Field}
use Rattle.spl_tree.specs.declared.expression.Step.TheVariants as T
use Rattle.spl_tree.specs.declared.shape.Attribute.{Attribute}
use Rattle.spl_tree.specs.declared.shape.ShapeKind.TheVariants as H
use Rattle.spl_tree.specs.declared.shape.TypeKind.TheVariants as Y
use Rattle.spl_tree.specs.declared.unit.Clauses.{Clauses}
use Rattle.spl_tree.specs.declared.unit.InputPort.{InputPort}
use Rattle.spl_tree.specs.declared.unit.Invocation.{Invocation}
use Rattle.spl_tree.specs.declared.unit.OutputStream.{OutputStream}
use Rattle.spl_tree.specs.declared.unit.Parameter.{Parameter}
use Rattle.spl_tree.specs.declared.unit.WindowPart.{WindowPart}
use Rattle.spl_tree.specs.Trees.{Expr, placed, TypeExpr}
use Rattle.language_model.specs.examples.FlatGraphs.{name_at, port_of_names}

-- ---- types

abbrev pub int64_at : ℕ → TypeExpr
int64_at at = placed at (Y.Int N.I64)

abbrev pub rstring_at : ℕ → TypeExpr
rstring_at at = placed at Y.Rstring

abbrev pub int32_at : ℕ → TypeExpr
int32_at at = placed at (Y.Int N.I32)

abbrev pub boolean_at : ℕ → TypeExpr
boolean_at at = placed at Y.Boolean

-- an attribute of a type, with its name
abbrev pub attribute_at : TypeExpr → ℕ → List ℕ → Attribute TypeExpr
attribute_at kind at name = record { kind = kind; name = name_at at name }

-- ---- ports

-- a stream of attributes, which stand at a place, with its name
abbrev pub output_of : ℕ → List (Attribute TypeExpr) → ℕ → List ℕ → OutputStream
output_of shape attributes at name = record { shape = placed shape (H.Attributes attributes); name = name_at at name }

-- a stream whose type is a name
abbrev pub output_of_name : ℕ → List ℕ → ℕ → List ℕ → OutputStream
output_of_name shape type_name at name = record { shape = placed shape (H.Type (placed shape (Y.Name type_name))); name = name_at at name }

-- a port that takes one stream
abbrev pub port_at : ℕ → List ℕ → InputPort
port_at at name = port_of_names (name_at at name ∷ [])

-- ---- clauses

abbrev pub number_at : ℕ → IntKind → ℕ → Expr
number_at at kind value = placed at (E.Number (record { kind = kind; value = value }))

abbrev pub word_at : ℕ → List ℕ → Expr
word_at at word = placed at (E.Name word)

-- name = value
abbrev pub field_at : ℕ → List ℕ → Expr → Field Expr
field_at at name value = record { name = name_at at name; value = value }

abbrev pub call_at : ℕ → List ℕ → List Expr → Expr
call_at at name arguments = placed at (E.Call name arguments)

-- name.member
abbrev pub member_at : ℕ → List ℕ → ℕ → List ℕ → Expr
member_at at name member_place member = placed at (E.Select (word_at at name) (T.Member (name_at member_place member) ∷ []))

-- a word of a window, alone and with arguments
abbrev pub window_word_at : ℕ → List ℕ → WindowPart
window_word_at at name = record { name = name_at at name; arguments = None }

abbrev pub window_at : ℕ → List ℕ → List Expr → WindowPart
window_at at name arguments = record { name = name_at at name; arguments = Some arguments }

-- a parameter with one value
abbrev pub parameter_at : ℕ → List ℕ → Expr → Parameter
parameter_at at name value = record { name = name_at at name; values = value ∷ [] }

-- file: "..."; format: csv;
abbrev pub file_parameters : ℕ → ℕ → List ℕ → ℕ → ℕ → List Parameter
file_parameters file at text format csv = parameter_at file (codes "file") (placed at (E.Text text)) ∷ parameter_at format (codes "format") (word_at csv (codes "csv")) ∷ []

abbrev pub with_parameters : List Parameter → Clauses
with_parameters parameters = record { logic = None; window = None; parameters = parameters; output = None; config = [] }

-- ---- sources and sinks

abbrev pub source_at : ℕ → OutputStream → ℕ → List Parameter → Invocation
source_at at output operator parameters =
    record {
      at = at;
      outputs = output ∷ [];
      alias = None;
      operator = name_at operator (codes "FileSource");
      inputs = [];
      clauses = with_parameters parameters;
    }

-- a sink with an alias
abbrev pub sink_at : ℕ → ℕ → List ℕ → ℕ → InputPort → List Parameter → Invocation
sink_at at alias name operator input parameters =
    record {
      at = at;
      outputs = [];
      alias = Some (name_at alias name);
      operator = name_at operator (codes "FileSink");
      inputs = input ∷ [];
      clauses = with_parameters parameters;
    }
