-- The calls and the `$` parameters that stand in expressions and statements, in the order of the text.
use Rattle.std.specs.Prelude.{ℕ, List, [], ◌∷◌, ◌++◌, flat_map, filter_map, Some, None}
use Rattle.std.specs.Option.{option_map_or}
use Rattle.spl_tree.specs.declared.expression.Placed.{Placed}
use Rattle.spl_tree.specs.declared.expression.Step.{Step}
use Rattle.spl_tree.specs.declared.expression.Step.TheVariants as N
use Rattle.spl_tree.specs.declared.expression.ExprKind.TheOpen as X
use Rattle.spl_tree.specs.declared.expression.ExprKind.TheOpen.{ExprKind-F}
use Rattle.spl_tree.specs.declared.expression.ExprKind.TheFolds.{fold-ExprKind}
use Rattle.spl_tree.specs.declared.statement.StmtKind.TheOpen as Z
use Rattle.spl_tree.specs.declared.statement.StmtKind.TheOpen.{StmtKind-F}
use Rattle.spl_tree.specs.declared.statement.StmtKind.TheFolds.{fold-StmtKind}
use Rattle.spl_tree.specs.declared.unit.Clauses.{Clauses}
use Rattle.spl_tree.specs.declared.unit.Logic.{Logic}
use Rattle.spl_tree.specs.Trees.{Expr, placed, Stmt}

-- what is called, or the name of a `$` parameter without the `$`
pub data Mention : Type 0 where
  Called : List ℕ → Mention
  Dollar : List ℕ → Mention

abbrev pub Mentions : Type 0
Mentions = List (Placed Mention)

-- ---- expressions

-- what an expression mentions, by its place
abbrev pub At : Type 0
At = ℕ → Mentions

abbrev pub part_mentions : Placed At → Mentions
part_mentions e = e.what e.at

abbrev pub step_mentions : Step (Placed At) → Mentions
step_mentions (N.Member m) = []
step_mentions (N.Index e) = part_mentions e

abbrev pub level_mentions : ExprKind-F At → At
level_mentions (X.Dollar name) at = placed at (Dollar name) ∷ []
level_mentions (X.Call name es) at = placed at (Called name) ∷ flat_map part_mentions es
level_mentions (X.Group e) at = part_mentions e
level_mentions (X.List es) at = flat_map part_mentions es
level_mentions (X.Map es) at = flat_map (λ e. part_mentions e.0 ++ part_mentions e.1) es
level_mentions (X.Tuple fs) at = flat_map (λ f. part_mentions f.value) fs
level_mentions (X.Select e ss) at = part_mentions e ++ flat_map step_mentions ss
level_mentions (X.Unary ps e) at = part_mentions e
level_mentions (X.Binary op l r) at = part_mentions l ++ part_mentions r
level_mentions (X.Conditional c a b) at = part_mentions c ++ part_mentions a ++ part_mentions b
level_mentions _ at = []

abbrev pub expr_mentions : Expr → Mentions
expr_mentions e = fold-ExprKind At level_mentions e.what e.at

-- ---- statements

abbrev pub level_statement : StmtKind-F Mentions → Mentions
level_statement (Z.Block ss) = flat_map (λ s. s.what) ss
level_statement (Z.Declare d) = option_map_or expr_mentions d.value []
level_statement (Z.Assign place op e) = expr_mentions place ++ expr_mentions e
level_statement (Z.Call e) = expr_mentions e
level_statement (Z.If arms other) =
    flat_map (λ a. expr_mentions a.0 ++ a.1.what) arms ++ option_map_or (λ s. s.what) other []
level_statement (Z.While c s) = expr_mentions c ++ s.what
level_statement (Z.For a e s) = expr_mentions e ++ s.what
level_statement (Z.Return e) = option_map_or expr_mentions e []
level_statement (Z.Submit e stream) = expr_mentions e
level_statement _ = []

abbrev pub block_mentions : List Stmt → Mentions
block_mentions ss = flat_map (λ s. fold-StmtKind Mentions level_statement s.what) ss

-- ---- clauses

abbrev pub logic_mentions : Logic → Mentions
logic_mentions l =
    flat_map (λ d. option_map_or expr_mentions d.value []) l.state
    ++ flat_map (λ h. block_mentions h.what.body) l.handlers

abbrev pub clause_mentions : Clauses → Mentions
clause_mentions c =
    option_map_or (λ l. logic_mentions l.what) c.logic []
    ++ option_map_or (λ w. flat_map (λ q. flat_map
    (λ p. option_map_or (flat_map expr_mentions) p.arguments []) q.parts) w.what) c.window []
    ++ flat_map (λ p. flat_map expr_mentions p.values) c.parameters
    ++ option_map_or (λ o. flat_map (λ a. flat_map (λ f. expr_mentions f.value) a.assignments) o.what) c.output []
    ++ flat_map (λ p. flat_map expr_mentions p.values) c.config

-- ---- the two kinds

-- the calls of functions and of built-in ones
abbrev pub calls : Mentions → List (Placed (List ℕ))
calls ms = filter_map (λ m. elim (m.what) [ Called name ↦ Some (placed m.at name) | Dollar name ↦ None ]) ms

-- the `$` parameters, without the `$`
abbrev pub dollars : Mentions → List (Placed (List ℕ))
dollars ms = filter_map (λ m. elim (m.what) [ Called name ↦ None | Dollar name ↦ Some (placed m.at name) ]) ms
