-- How much a statement weighs, by which a recursion over its parts ends.
use Rattle.std.proofs.Common.{◌≡◌, ◌∙◌, ℕ, ◌+◌, List, [], ◌∷◌, refl, ap, arith}
use Rattle.spl_tree.specs.declared.body.Statement.{Statement}
use Rattle.spl_tree.specs.declared.body.Statement.TheVariants as T
use Rattle.spl_tree.specs.declared.body.Statement.TheOpen as S
use Rattle.spl_tree.specs.declared.body.Statement.TheOpen.{Statement-F}
use Rattle.spl_tree.specs.declared.body.Statement.TheViews.{out-Statement}
use Rattle.spl_tree.specs.declared.body.Statement.TheFolds.{fold-Statement, fold_out-Statement, map-Statement}
use Rattle.spl_tree.specs.declared.code.Code.{Code}
use Rattle.spl_tree.specs.declared.code.Slot.{Slot}
use Rattle.spl_value.proofs.Lists.{total}

abbrev row_total : List ℕ → ℕ
row_total row = total (λ w. w) row

abbrev level_weight : Statement-F ℕ → ℕ
level_weight (S.Block row) = 2 + row_total row
level_weight (S.If arms other) = 3 + (total (λ arm. 2 + row_total arm.1) arms + row_total other)
level_weight (S.While code row) = 2 + row_total row
level_weight (S.For code row) = 2 + row_total row
level_weight _ = 1

abbrev pub weight : Statement → ℕ
weight = fold-Statement ℕ level_weight

abbrev pub weights : List Statement → ℕ
weights row = total weight row

abbrev pub arm_weight : Code Slot × List Statement → ℕ
arm_weight arm = 2 + weights arm.1

abbrev pub arm_weights : List (Code Slot × List Statement) → ℕ
arm_weights arms = total arm_weight arms

at_level : (x : Statement) (form : Statement-F Statement) → out-Statement x ≡ form → weight x ≡ level_weight (map-Statement Statement ℕ weight form)
at_level x form e = fold_out-Statement ℕ level_weight x ∙ ap (λ y. level_weight (map-Statement Statement ℕ weight y)) e

pub block_weight : (row : List Statement) → weight (T.Block row) ≡ 2 + weights row
block_weight row = at_level (T.Block row) (S.Block row) (T.outs-Block row) ∙ along row
  where
    along : (row : List Statement) → level_weight (map-Statement Statement ℕ weight (S.Block row)) ≡ 2 + weights row
    along [] = refl
    along (x ∷ row) = let h = along row in omega arith

pub while_weight : (code : Code Slot) (row : List Statement) → weight (T.While code row) ≡ 2 + weights row
while_weight code row = at_level (T.While code row) (S.While code row) (T.outs-While code row) ∙ along row
  where
    along : (row : List Statement) → level_weight (map-Statement Statement ℕ weight (S.While code row)) ≡ 2 + weights row
    along [] = refl
    along (x ∷ row) = let h = along row in omega arith

pub for_weight : (code : Code Slot) (row : List Statement) → weight (T.For code row) ≡ 2 + weights row
for_weight code row = at_level (T.For code row) (S.For code row) (T.outs-For code row) ∙ along row
  where
    along : (row : List Statement) → level_weight (map-Statement Statement ℕ weight (S.For code row)) ≡ 2 + weights row
    along [] = refl
    along (x ∷ row) = let h = along row in omega arith

pub if_weight : (arms : List (Code Slot × List Statement)) (other : List Statement) → weight (T.If arms other) ≡ 3 + (arm_weights arms + weights other)
if_weight arms other = at_level (T.If arms other) (S.If arms other) (T.outs-If arms other) ∙ along arms other
  where
    along : (arms : List (Code Slot × List Statement)) (other : List Statement)
        → level_weight (map-Statement Statement ℕ weight (S.If arms other)) ≡ 3 + (arm_weights arms + weights other)
    along [] [] = refl
    along [] (x ∷ other) = let h = along [] other in omega arith
    along ((code, []) ∷ arms) other = let h = along arms other in omega arith
    along ((code, x ∷ row) ∷ arms) other = let h = along ((code, row) ∷ arms) other in omega arith

pub ruleset weight_laws = (block_weight, while_weight, for_weight, if_weight)
