-- The sets of names within a statement by those of its parts, an equation for each form of statement.
use Rattle.std.specs.Prelude.{◌≡◌, List, [], ◌∷◌, ◌++◌, map, flat_map, filter_map, Option, Some, None}
use Rattle.std.specs.Option.{option_map_or}
use Rattle.std.specs.List.{cons_option}
use Rattle.std.proofs.Common.{refl, ap, ◌∙◌}
use Rattle.spl_tree.specs.declared.expression.BinaryOperator.{BinaryOperator}
use Rattle.spl_tree.specs.declared.expression.Placed.{Placed}
use Rattle.spl_tree.specs.declared.shape.Attribute.{Attribute}
use Rattle.spl_tree.specs.declared.statement.Declaration.{Declaration}
use Rattle.spl_tree.specs.declared.statement.StmtKind.{StmtKind}
use Rattle.spl_tree.specs.declared.statement.StmtKind.TheVariants as V
use Rattle.spl_tree.specs.declared.statement.StmtKind.TheOpen as Z
use Rattle.spl_tree.specs.declared.statement.StmtKind.TheOpen.{StmtKind-F}
use Rattle.spl_tree.specs.declared.statement.StmtKind.TheViews.{out-StmtKind}
use Rattle.spl_tree.specs.declared.statement.StmtKind.TheFolds.{fold_out-StmtKind, map-StmtKind}
use Rattle.spl_tree.specs.Trees.{Expr, Stmt, TypeExpr}
use Rattle.language_model.specs.Declarations.{Name, Sets, Scoped, block_of, block_sets, level_statement, type_sets}
use Rattle.language_model.specs.parts.Declarations.{statement_scoped}
use Rattle.duplicate_rules.specs.steps.Variables.{level_variable, own_variable}

abbrev pub inner : StmtKind → Sets
inner s = (statement_scoped s).sets

abbrev mapped : StmtKind-F StmtKind → StmtKind-F Scoped
mapped = map-StmtKind StmtKind Scoped statement_scoped

at_level : (s : StmtKind) (x : StmtKind-F StmtKind) → out-StmtKind s ≡ x → inner s ≡ (level_statement (mapped x)).sets
at_level s x e = ap (λ r. r.sets) (fold_out-StmtKind Scoped level_statement s) ∙ ap (λ y. (level_statement (mapped y)).sets) e

-- ---- the variable that a statement declares

own_at_level : (x : StmtKind-F StmtKind) → (level_statement (mapped x)).own ≡ level_variable x
own_at_level (Z.Block ss) = refl
own_at_level (Z.Declare d) = refl
own_at_level (Z.Assign place op value) = refl
own_at_level (Z.Call e) = refl
own_at_level (Z.If arms other) = refl
own_at_level (Z.While c s) = refl
own_at_level (Z.For a e s) = refl
own_at_level Z.Break = refl
own_at_level Z.Continue = refl
own_at_level (Z.Return e) = refl
own_at_level (Z.Submit e port) = refl

own_is : (s : StmtKind) → (statement_scoped s).own ≡ own_variable s
own_is s = ap (λ r. r.own) (fold_out-StmtKind Scoped level_statement s) ∙ own_at_level (out-StmtKind s)

-- ---- the variables and the sets of a block

abbrev scoped_each : List Stmt → List Scoped
scoped_each ss = map (λ s. statement_scoped s.what) ss

own_names : (ss : List Stmt) → filter_map (λ s. s.own) (scoped_each ss) ≡ filter_map (λ s. own_variable s.what) ss
own_names [] = refl
own_names (s ∷ ss) = λ i. cons_option (own_is s.what i) (own_names ss i)

inner_each : (ss : List Stmt) → flat_map (λ s. s.sets) (scoped_each ss) ≡ flat_map (λ s. inner s.what) ss
inner_each [] = refl
inner_each (s ∷ ss) = ap (λ sets. inner s.what ++ sets) (inner_each ss)

pub block_is : (ss : List Stmt) → block_sets ss ≡ filter_map (λ s. own_variable s.what) ss ∷ flat_map (λ s. inner s.what) ss
block_is ss = λ i. own_names ss i ∷ inner_each ss i

-- ---- one equation for each form of statement

abbrev statements_of : {A : Type 0} → StmtKind-F A → List (Placed A)
statements_of (Z.Block ss) = ss
statements_of _ = []

abbrev arms_of : {A : Type 0} → StmtKind-F A → List (Expr × Placed A)
arms_of (Z.If arms other) = arms
arms_of _ = []

block_mapped : (ss : List Stmt) → map (λ s. s.what) (statements_of (mapped (Z.Block ss))) ≡ scoped_each ss
block_mapped [] = refl
block_mapped (s ∷ ss) = ap (λ rs. statement_scoped s.what ∷ rs) (block_mapped ss)

arms_mapped : (arms : List (Expr × Stmt)) → flat_map (λ a. a.1.what.sets) (arms_of (mapped (Z.If arms None))) ≡ flat_map (λ a. inner a.1.what) arms
arms_mapped [] = refl
arms_mapped (a ∷ arms) = ap (λ sets. inner a.1.what ++ sets) (arms_mapped arms)

pub block_inner : (ss : List Stmt) → inner (V.Block ss) ≡ block_sets ss
block_inner ss = at_level (V.Block ss) (Z.Block ss) (V.outs-Block ss) ∙ ap block_of (block_mapped ss)

pub declare_inner : (d : Declaration) → inner (V.Declare d) ≡ type_sets d.kind
declare_inner d = at_level (V.Declare d) (Z.Declare d) (V.outs-Declare d)

pub assign_inner : (place : Expr) (op : Option BinaryOperator) (value : Expr) → inner (V.Assign place op value) ≡ []
assign_inner place op value = at_level (V.Assign place op value) (Z.Assign place op value) (V.outs-Assign place op value)

pub call_inner : (e : Expr) → inner (V.Call e) ≡ []
call_inner e = at_level (V.Call e) (Z.Call e) (V.outs-Call e)

pub if_inner : (arms : List (Expr × Stmt)) (other : Option Stmt)
    → inner (V.If arms other) ≡ flat_map (λ a. inner a.1.what) arms ++ option_map_or (λ s. inner s.what) other []
if_inner arms other = at_level (V.If arms other) (Z.If arms other) (V.outs-If arms other) ∙ by_other other
  where
    by_other : (other : Option Stmt) → (level_statement (mapped (Z.If arms other))).sets ≡ flat_map (λ a. inner a.1.what) arms ++ option_map_or (λ s. inner s.what) other []
    by_other None = ap (λ sets. sets ++ []) (arms_mapped arms)
    by_other (Some s) = ap (λ sets. sets ++ inner s.what) (arms_mapped arms)

pub while_inner : (c : Expr) (s : Stmt) → inner (V.While c s) ≡ inner s.what
while_inner c s = at_level (V.While c s) (Z.While c s) (V.outs-While c s)

pub for_inner : (a : Attribute TypeExpr) (e : Expr) (s : Stmt) → inner (V.For a e s) ≡ type_sets a.kind ++ inner s.what
for_inner a e s = at_level (V.For a e s) (Z.For a e s) (V.outs-For a e s)

pub break_inner : inner V.Break ≡ []
break_inner = at_level V.Break Z.Break V.outs-Break

pub continue_inner : inner V.Continue ≡ []
continue_inner = at_level V.Continue Z.Continue V.outs-Continue

pub return_inner : (e : Option Expr) → inner (V.Return e) ≡ []
return_inner e = at_level (V.Return e) (Z.Return e) (V.outs-Return e)

pub submit_inner : (e : Expr) (port : Name) → inner (V.Submit e port) ≡ []
submit_inner e port = at_level (V.Submit e port) (Z.Submit e port) (V.outs-Submit e port)

pub ruleset statement_laws = (block_inner, declare_inner, assign_inner, call_inner, if_inner, while_inner, for_inner, break_inner, continue_inner, return_inner, submit_inner)
