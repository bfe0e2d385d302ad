-- The typing of a statement, and whether it ends with a result, by those of its parts: an equation for each form of statement.
use Rattle.std.specs.Prelude.{◌≡◌, ℕ, Bool, true, false, ◌&&◌, List, [], ◌∷◌, Option, Some, None}
use Rattle.std.specs.List.{list_all}
use Rattle.std.proofs.Common.{refl, ap, ◌∙◌}
use Rattle.spl_tree.specs.declared.expression.BinaryOperator.{BinaryOperator}
use Rattle.spl_tree.specs.declared.expression.Placed.{Placed}
use Rattle.spl_tree.specs.declared.shape.Attribute.{Attribute}
use Rattle.spl_tree.specs.declared.statement.Declaration.{Declaration}
use Rattle.spl_tree.specs.declared.statement.StmtKind.{StmtKind}
use Rattle.spl_tree.specs.declared.statement.StmtKind.TheVariants as V
use Rattle.spl_tree.specs.declared.statement.StmtKind.TheOpen as Z
use Rattle.spl_tree.specs.declared.statement.StmtKind.TheOpen.{StmtKind-F}
use Rattle.spl_tree.specs.declared.statement.StmtKind.TheViews.{out-StmtKind}
use Rattle.spl_tree.specs.declared.statement.StmtKind.TheFolds.{fold-StmtKind, fold_out-StmtKind, map-StmtKind}
use Rattle.spl_tree.specs.Trees.{Expr, Stmt, TypeExpr}
use Rattle.language_model.specs.declared.scope.Scope.{Scope}
use Rattle.language_model.specs.BodyTyping.{Setting, Stated, level_stated, level_returns, returns}
use Rattle.language_model.specs.parts.BodyTyping.{stated}
use Rattle.language_model.specs.BodyTypingLaws.{all_return, arms_stated, kind_returns, other_stated, row_stated}

-- ---- statements

abbrev pub kind_stated : StmtKind → Stated
kind_stated k = fold-StmtKind Stated level_stated k

kind_at_level : (k : StmtKind) (x : StmtKind-F StmtKind) → out-StmtKind k ≡ x → kind_stated k ≡ level_stated (map-StmtKind StmtKind Stated kind_stated x)
kind_at_level k x e = fold_out-StmtKind Stated level_stated k ∙ ap (λ y. level_stated (map-StmtKind StmtKind Stated kind_stated y)) e

pub block_stated : (ss : List Stmt) (at : ℕ) (setting : Setting) (inside : Bool) (scope : Scope)
    → kind_stated (V.Block ss) at setting inside scope ≡ level_stated (Z.Block (row_stated ss)) at setting inside scope
block_stated ss at setting inside scope = ap (λ s. s at setting inside scope) (kind_at_level (V.Block ss) (Z.Block ss) (V.outs-Block ss))

pub declare_stated : (d : Declaration) (at : ℕ) (setting : Setting) (inside : Bool) (scope : Scope)
    → kind_stated (V.Declare d) at setting inside scope ≡ level_stated (Z.Declare d) at setting inside scope
declare_stated d at setting inside scope = ap (λ s. s at setting inside scope) (kind_at_level (V.Declare d) (Z.Declare d) (V.outs-Declare d))

pub assign_stated : (place : Expr) (op : Option BinaryOperator) (e : Expr) (at : ℕ) (setting : Setting) (inside : Bool) (scope : Scope)
    → kind_stated (V.Assign place op e) at setting inside scope ≡ level_stated (Z.Assign place op e) at setting inside scope
assign_stated place op e at setting inside scope =
    ap (λ s. s at setting inside scope) (kind_at_level (V.Assign place op e) (Z.Assign place op e) (V.outs-Assign place op e))

pub call_stated : (e : Expr) (at : ℕ) (setting : Setting) (inside : Bool) (scope : Scope)
    → kind_stated (V.Call e) at setting inside scope ≡ level_stated (Z.Call e) at setting inside scope
call_stated e at setting inside scope = ap (λ s. s at setting inside scope) (kind_at_level (V.Call e) (Z.Call e) (V.outs-Call e))

pub if_stated : (arms : List (Expr × Stmt)) (other : Option Stmt) (at : ℕ) (setting : Setting) (inside : Bool) (scope : Scope)
    → kind_stated (V.If arms other) at setting inside scope ≡ level_stated (Z.If (arms_stated arms) (other_stated other)) at setting inside scope
if_stated arms None at setting inside scope = ap (λ s. s at setting inside scope) (kind_at_level (V.If arms None) (Z.If arms None) (V.outs-If arms None))
if_stated arms (Some other) at setting inside scope =
    ap (λ s. s at setting inside scope) (kind_at_level (V.If arms (Some other)) (Z.If arms (Some other)) (V.outs-If arms (Some other)))

pub while_stated : (c : Expr) (s : Stmt) (at : ℕ) (setting : Setting) (inside : Bool) (scope : Scope)
    → kind_stated (V.While c s) at setting inside scope ≡ level_stated (Z.While c (stated s)) at setting inside scope
while_stated c s at setting inside scope = ap (λ x. x at setting inside scope) (kind_at_level (V.While c s) (Z.While c s) (V.outs-While c s))

pub for_stated : (a : Attribute TypeExpr) (e : Expr) (s : Stmt) (at : ℕ) (setting : Setting) (inside : Bool) (scope : Scope)
    → kind_stated (V.For a e s) at setting inside scope ≡ level_stated (Z.For a e (stated s)) at setting inside scope
for_stated a e s at setting inside scope = ap (λ x. x at setting inside scope) (kind_at_level (V.For a e s) (Z.For a e s) (V.outs-For a e s))

pub break_stated : (at : ℕ) (setting : Setting) (inside : Bool) (scope : Scope)
    → kind_stated V.Break at setting inside scope ≡ level_stated Z.Break at setting inside scope
break_stated at setting inside scope = ap (λ s. s at setting inside scope) (kind_at_level V.Break Z.Break V.outs-Break)

pub continue_stated : (at : ℕ) (setting : Setting) (inside : Bool) (scope : Scope)
    → kind_stated V.Continue at setting inside scope ≡ level_stated Z.Continue at setting inside scope
continue_stated at setting inside scope = ap (λ s. s at setting inside scope) (kind_at_level V.Continue Z.Continue V.outs-Continue)

pub return_stated : (e : Option Expr) (at : ℕ) (setting : Setting) (inside : Bool) (scope : Scope)
    → kind_stated (V.Return e) at setting inside scope ≡ level_stated (Z.Return e) at setting inside scope
return_stated e at setting inside scope = ap (λ s. s at setting inside scope) (kind_at_level (V.Return e) (Z.Return e) (V.outs-Return e))

pub submit_stated : (e : Expr) (stream : Placed (List ℕ)) (at : ℕ) (setting : Setting) (inside : Bool) (scope : Scope)
    → kind_stated (V.Submit e stream) at setting inside scope ≡ level_stated (Z.Submit e stream) at setting inside scope
submit_stated e stream at setting inside scope =
    ap (λ s. s at setting inside scope) (kind_at_level (V.Submit e stream) (Z.Submit e stream) (V.outs-Submit e stream))

pub ruleset stated_laws = (block_stated, declare_stated, assign_stated, call_stated, if_stated, while_stated, for_stated, break_stated, continue_stated, return_stated, submit_stated)

abbrev pub arms_return : List (Expr × Stmt) → Option Stmt → Bool
arms_return arms None = false
arms_return arms (Some other) = all_return arms && kind_returns other.what

returns_at_level : (k : StmtKind) (x : StmtKind-F StmtKind) → out-StmtKind k ≡ x → kind_returns k ≡ level_returns (map-StmtKind StmtKind Bool kind_returns x)
returns_at_level k x e = fold_out-StmtKind Bool level_returns k ∙ ap (λ y. level_returns (map-StmtKind StmtKind Bool kind_returns y)) e

pub block_returns : (ss : List Stmt) → kind_returns (V.Block ss) ≡ returns ss
block_returns ss = returns_at_level (V.Block ss) (Z.Block ss) (V.outs-Block ss)

abbrev only_arms : StmtKind-F Bool → Bool
only_arms (Z.If arms other) = list_all (λ a. a.1.what) arms
only_arms _ = false

arms_level : (arms : List (Expr × Stmt)) (other : Option Stmt) → only_arms (map-StmtKind StmtKind Bool kind_returns (Z.If arms other)) ≡ all_return arms
arms_level [] other = refl
arms_level (a ∷ arms) other = ap (λ b. kind_returns a.1.what && b) (arms_level arms other)

pub if_returns : (arms : List (Expr × Stmt)) (other : Option Stmt) → kind_returns (V.If arms other) ≡ arms_return arms other
if_returns arms None = returns_at_level (V.If arms None) (Z.If arms None) (V.outs-If arms None)
if_returns arms (Some other) =
    returns_at_level (V.If arms (Some other)) (Z.If arms (Some other)) (V.outs-If arms (Some other))
    ∙ ap (λ b. b && kind_returns other.what) (arms_level arms (Some other))

pub return_returns : (e : Option Expr) → kind_returns (V.Return e) ≡ true
return_returns e = returns_at_level (V.Return e) (Z.Return e) (V.outs-Return e)

pub declare_returns : (d : Declaration) → kind_returns (V.Declare d) ≡ false
declare_returns d = returns_at_level (V.Declare d) (Z.Declare d) (V.outs-Declare d)

pub assign_returns : (place : Expr) (op : Option BinaryOperator) (e : Expr) → kind_returns (V.Assign place op e) ≡ false
assign_returns place op e = returns_at_level (V.Assign place op e) (Z.Assign place op e) (V.outs-Assign place op e)

pub call_returns : (e : Expr) → kind_returns (V.Call e) ≡ false
call_returns e = returns_at_level (V.Call e) (Z.Call e) (V.outs-Call e)

pub while_returns : (c : Expr) (s : Stmt) → kind_returns (V.While c s) ≡ false
while_returns c s = returns_at_level (V.While c s) (Z.While c s) (V.outs-While c s)

pub for_returns : (a : Attribute TypeExpr) (e : Expr) (s : Stmt) → kind_returns (V.For a e s) ≡ false
for_returns a e s = returns_at_level (V.For a e s) (Z.For a e s) (V.outs-For a e s)

pub break_returns : kind_returns V.Break ≡ false
break_returns = returns_at_level V.Break Z.Break V.outs-Break

pub continue_returns : kind_returns V.Continue ≡ false
continue_returns = returns_at_level V.Continue Z.Continue V.outs-Continue

pub submit_returns : (e : Expr) (stream : Placed (List ℕ)) → kind_returns (V.Submit e stream) ≡ false
submit_returns e stream = returns_at_level (V.Submit e stream) (Z.Submit e stream) (V.outs-Submit e stream)

pub ruleset returns_laws = (block_returns, if_returns, return_returns, declare_returns, assign_returns, call_returns, while_returns, for_returns, break_returns, continue_returns, submit_returns)
