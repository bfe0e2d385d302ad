-- The files of sources and sinks, and the first that a sink has together with another operator or with the command
-- line.
use Rattle.std.specs.Prelude.{ℕ, ◌==◌, Bool, ◌&&◌, ◌||◌, List, [], ◌∷◌, if◌then◌else◌, codes, Option, Some, None}
use Rattle.std.specs.List.{list_any}
use Rattle.std.specs.Option.{option_and_then, option_map_or}
use Rattle.spl_tree.specs.declared.expression.ExprKind.{ExprKind}
use Rattle.spl_tree.specs.declared.expression.ExprKind.TheOpen as X
use Rattle.spl_tree.specs.declared.expression.ExprKind.TheOpen.{ExprKind-F}
use Rattle.spl_tree.specs.declared.expression.ExprKind.TheViews.{out-ExprKind}
use Rattle.spl_tree.specs.declared.expression.Placed.{Placed}
use Rattle.spl_tree.specs.declared.graph.Expansion.{Expansion}
use Rattle.spl_tree.specs.declared.graph.Op.{Op}
use Rattle.spl_tree.specs.declared.graph.OpKind.{OpKind}
use Rattle.spl_tree.specs.declared.unit.Definition.{Definition}
use Rattle.spl_tree.specs.Trees.{placed}
use Rattle.language_model.specs.Declarations.{is_same}
use Rattle.language_model.specs.DollarTargets.{expression_meant, invocation_at, value_named}
use Rattle.language_model.specs.Kinds.{rules_of}
use Rattle.language_model.specs.Names.{is_named}

-- the text that an expression is
abbrev pub level_text : ExprKind-F ExprKind → Option (List ℕ)
level_text (X.Text bytes) = Some bytes
level_text _ = None

-- the file of an operator: the text that its parameter `file` means in the body of its expansion
abbrev pub file_of : List Definition → List Expansion → Op → Option (List ℕ)
file_of unit expansions op =
    option_and_then (λ i. option_and_then (λ e.
    option_and_then (λ x. level_text (out-ExprKind x.what)) (expression_meant unit expansions op.site.expansion e))
    (value_named i.clauses.parameters (codes "file"))) (invocation_at unit expansions op.site)

-- ---- files that are had twice

-- a kind whose operators have no output port
abbrev pub is_sink : OpKind → Bool
is_sink kind = (rules_of kind).outputs.most == 0

-- the file of a source or sink, at its invocation
pub record OpFile : Type 0 where
  pub sink : Bool
  pub file : Placed (List ℕ)

-- the file of an operator whose kind has no output port, a sink, or no input port, a source; none where no text is its
-- file
abbrev pub op_file : List Definition → List Expansion → Op → List OpFile
op_file unit expansions op =
    if is_sink op.kind || ((rules_of op.kind).inputs.most == 0)
    then option_map_or (λ bytes. record { sink = is_sink op.kind; file = placed op.at bytes } ∷ [])
    (file_of unit expansions op) []
    else []

-- a sink has a file that the command line or an operator before it has, or a source one that a sink before it has
abbrev pub is_had : List (List ℕ) → List OpFile → OpFile → Bool
is_had names before f =
    (f.sink && is_named names f.file.what) || list_any (λ g. is_same g.file f.file && (f.sink || g.sink)) before
