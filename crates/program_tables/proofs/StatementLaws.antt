-- What a statement mentions, by its parts.
use Rattle.std.proofs.Common.{◌≡◌, ◌∙◌, ℕ, List, [], ◌∷◌, ◌++◌, flat_map, Option, Some, None, refl, ap}
use Rattle.spl_tree.specs.declared.expression.Placed.{Placed}
use Rattle.spl_tree.specs.declared.expression.BinaryOperator.{BinaryOperator}
use Rattle.spl_tree.specs.declared.shape.Attribute.{Attribute}
use Rattle.spl_tree.specs.declared.shape.TypeKind.{TypeKind}
use Rattle.spl_tree.specs.declared.statement.Declaration.{Declaration}
use Rattle.spl_tree.specs.declared.statement.StmtKind.{StmtKind}
use Rattle.spl_tree.specs.declared.statement.StmtKind.TheVariants as V
use Rattle.spl_tree.specs.declared.statement.StmtKind.TheOpen as Z
use Rattle.spl_tree.specs.declared.statement.StmtKind.TheOpen.{StmtKind-F}
use Rattle.spl_tree.specs.declared.statement.StmtKind.TheViews.{out-StmtKind}
use Rattle.spl_tree.specs.declared.statement.StmtKind.TheFolds.{fold_out-StmtKind, map-StmtKind}
use Rattle.spl_tree.specs.Trees.{Expr, Stmt}
use Rattle.language_model.specs.Mentions.{Mentions, level_statement, block_mentions, expr_mentions}
use Rattle.language_model.specs.parts.Mentions.{statement_mentions, optional_mentions, declaration_mentions}
use Rattle.program_tables.specs.steps.MentionParts.{arm_mentions, other_mentions}

at_level : (k : StmtKind) (x : StmtKind-F StmtKind) → out-StmtKind k ≡ x
    → statement_mentions k ≡ level_statement (map-StmtKind StmtKind Mentions statement_mentions x)
at_level k x e = fold_out-StmtKind Mentions level_statement k ∙ ap (λ y. level_statement (map-StmtKind StmtKind Mentions statement_mentions y)) e

pub of_block : (ss : List Stmt) → statement_mentions (V.Block ss) ≡ block_mentions ss
of_block ss = at_level (V.Block ss) (Z.Block ss) (V.outs-Block ss) ∙ along ss
  where
    along : (ss : List Stmt) → level_statement (map-StmtKind StmtKind Mentions statement_mentions (Z.Block ss)) ≡ block_mentions ss
    along [] = refl
    along (s ∷ ss) = ap (λ ms. statement_mentions s.what ++ ms) (along ss)

pub of_declare : (d : Declaration) → statement_mentions (V.Declare d) ≡ declaration_mentions d
of_declare d = at_level (V.Declare d) (Z.Declare d) (V.outs-Declare d)

pub of_assign : (place : Expr) (op : Option BinaryOperator) (e : Expr) → statement_mentions (V.Assign place op e) ≡ expr_mentions place ++ expr_mentions e
of_assign place op e = at_level (V.Assign place op e) (Z.Assign place op e) (V.outs-Assign place op e)

pub of_call : (e : Expr) → statement_mentions (V.Call e) ≡ expr_mentions e
of_call e = at_level (V.Call e) (Z.Call e) (V.outs-Call e)

pub of_submit : (e : Expr) (stream : Placed (List ℕ)) → statement_mentions (V.Submit e stream) ≡ expr_mentions e
of_submit e stream = at_level (V.Submit e stream) (Z.Submit e stream) (V.outs-Submit e stream)

abbrev only_arms : StmtKind-F Mentions → Mentions
only_arms (Z.If arms other) = flat_map (λ a. expr_mentions a.0 ++ a.1.what) arms
only_arms _ = []

pub of_if : (arms : List (Expr × Stmt)) (other : Option Stmt) → statement_mentions (V.If arms other) ≡ flat_map arm_mentions arms ++ other_mentions other
of_if arms other = at_level (V.If arms other) (Z.If arms other) (V.outs-If arms other) ∙ ended other ∙ ap (λ ms. ms ++ other_mentions other) (along arms)
  where
    along : (arms : List (Expr × Stmt)) → only_arms (map-StmtKind StmtKind Mentions statement_mentions (Z.If arms None)) ≡ flat_map arm_mentions arms
    along [] = refl
    along (a ∷ arms) = ap (λ ms. arm_mentions a ++ ms) (along arms)

    ended : (other : Option Stmt) → level_statement (map-StmtKind StmtKind Mentions statement_mentions (Z.If arms other))
        ≡ only_arms (map-StmtKind StmtKind Mentions statement_mentions (Z.If arms None)) ++ other_mentions other
    ended None = refl
    ended (Some s) = refl

pub of_while : (c : Expr) (s : Stmt) → statement_mentions (V.While c s) ≡ expr_mentions c ++ statement_mentions s.what
of_while c s = at_level (V.While c s) (Z.While c s) (V.outs-While c s)

pub of_for : (a : Attribute (Placed TypeKind)) (e : Expr) (s : Stmt) → statement_mentions (V.For a e s) ≡ expr_mentions e ++ statement_mentions s.what
of_for a e s = at_level (V.For a e s) (Z.For a e s) (V.outs-For a e s)

pub of_return : (e : Option Expr) → statement_mentions (V.Return e) ≡ optional_mentions e
of_return e = at_level (V.Return e) (Z.Return e) (V.outs-Return e)

pub ruleset statement_laws = (of_block, of_declare, of_assign, of_call, of_submit, of_if, of_while, of_for, of_return)
