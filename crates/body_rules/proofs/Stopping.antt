-- Refusals after what has code.
use Rattle.std.specs.Prelude.{◌≡◌, Bool, true, false, List, Option, Ok, Err}
use Rattle.spl_value.specs.declared.types.SplType.{SplType}
use Rattle.spl_tree.specs.declared.body.Statement.{Statement}
use Rattle.spl_tree.specs.declared.body.Statement.TheVariants as T
use Rattle.spl_tree.specs.declared.code.Code.{Code}
use Rattle.spl_tree.specs.declared.code.Slot.{Slot}
use Rattle.spl_tree.specs.declared.expression.Placed.{Placed}
use Rattle.spl_tree.specs.declared.shape.Attribute.{Attribute}
use Rattle.spl_tree.specs.Trees.{Expr, Stmt, TypeExpr}
use Rattle.language_model.specs.declared.scope.Scope.{Scope}
use Rattle.language_model.specs.BodyFits.{with_variable}
use Rattle.language_model.specs.BodyTyping.{Setting, Stated, alone, arms_typing, condition_typing, variable}
use Rattle.language_model.specs.parts.BodyTyping.{for_typing, other_typing, over_typing, stated}
use Rattle.language_model.specs.BodyTypingLaws.{arms_stated, other_stated}
use Rattle.language_model.specs.TypeNames.{type_meant}
use Rattle.language_model.specs.Typing.{after}
use Rattle.language_model.specs.declared.answer.TypeAnswer.{TypeAnswer}
use Rattle.language_model.specs.Finds.{Finds}
use Rattle.body_rules.proofs.BodyRows.{branch}
use Rattle.language_model.proofs.FoundAnswers.{goes, stops}

pub branch_stops : (setting : Setting) (inside : Bool) (scope : Scope) (a : Expr × Stmt) (code : Code Slot) (e : TypeAnswer) → condition_typing scope a.0 ≡ Ok code
    → Finds (alone setting inside scope (stated a.1)) (Err e) → Finds (branch setting inside scope a) (Err e)
branch_stops setting inside scope a code e test row =
    goes (condition_typing scope a.0) (λ code. after (alone setting inside scope (stated a.1)) (λ row. Ok (code, row))) code (Err e) test
    (stops (alone setting inside scope (stated a.1)) (λ row. Ok (code, row)) e row)

pub other_stops : (setting : Setting) (inside : Bool) (scope : Scope) (arms : List (Expr × Stmt)) (other : Option Stmt) (xs : List (Code Slot × List Statement)) (e : TypeAnswer)
    → arms_typing setting inside scope (arms_stated arms) ≡ Ok xs → Finds (other_typing setting inside scope (other_stated other)) (Err e)
    → Finds (after (arms_typing setting inside scope (arms_stated arms)) (λ xs. after (other_typing setting inside scope (other_stated other)) (λ row. Ok (T.If xs row)))) (Err e)
other_stops setting inside scope arms other xs e found row =
    goes (arms_typing setting inside scope (arms_stated arms)) (λ xs. after (other_typing setting inside scope (other_stated other)) (λ row. Ok (T.If xs row))) xs (Err e) found
    (stops (other_typing setting inside scope (other_stated other)) (λ row. Ok (T.If xs row)) e row)

pub while_stops : (setting : Setting) (scope : Scope) (c : Expr) (s : Stmt) (code : Code Slot) (e : TypeAnswer) → condition_typing scope c ≡ Ok code
    → Finds (alone setting true scope (stated s)) (Err e)
    → Finds (after (condition_typing scope c) (λ code. after (alone setting true scope (stated s)) (λ row. Ok (T.While code row)))) (Err e)
while_stops setting scope c s code e test row =
    goes (condition_typing scope c) (λ code. after (alone setting true scope (stated s)) (λ row. Ok (T.While code row))) code (Err e) test
    (stops (alone setting true scope (stated s)) (λ row. Ok (T.While code row)) e row)

module _ (setting : Setting) (scope : Scope) (a : Attribute TypeExpr) (v : Expr) (s : Placed Stated) (t : SplType) where
  abbrev inner : Scope
  inner = with_variable scope (variable false a.name.what t)

  pub over_stops : (e : TypeAnswer) → type_meant setting.types a.kind ≡ Ok t → Finds (over_typing scope t v) (Err e) → Finds (for_typing setting scope a v s) (Err e)
  over_stops e kind over =
      goes (type_meant setting.types a.kind)
      (λ t. after (over_typing scope t v) (λ code. after (alone setting true (with_variable scope (variable false a.name.what t)) s) (λ row. Ok (T.For code row)))) t (Err e) kind
      (stops (over_typing scope t v) (λ code. after (alone setting true inner s) (λ row. Ok (T.For code row))) e over)

  pub repeated_stops : (code : Code Slot) (e : TypeAnswer) → type_meant setting.types a.kind ≡ Ok t → over_typing scope t v ≡ Ok code
      → Finds (alone setting true (with_variable scope (variable false a.name.what t)) s) (Err e) → Finds (for_typing setting scope a v s) (Err e)
  repeated_stops code e kind over row =
      goes (type_meant setting.types a.kind)
      (λ t. after (over_typing scope t v) (λ code. after (alone setting true (with_variable scope (variable false a.name.what t)) s) (λ row. Ok (T.For code row)))) t (Err e) kind
      (goes (over_typing scope t v) (λ code. after (alone setting true inner s) (λ row. Ok (T.For code row))) code (Err e) over
      (stops (alone setting true inner s) (λ row. Ok (T.For code row)) e row))
