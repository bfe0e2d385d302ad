-- What comes after a place comes after the place with its type.
use Rattle.std.specs.Prelude.{◌≡◌, None, Some, Ok, Err}
use Rattle.std.proofs.Common.{refl, sym, ◌∙◌}
use Rattle.spl_value.specs.declared.types.SplType.{SplType}
use Rattle.spl_value.specs.declared.types.SplType.TheViews.{out-SplType}
use Rattle.spl_tree.specs.Trees.{Expr}
use Rattle.spl_tree.specs.declared.expression.BinaryOperator.{BinaryOperator}
use Rattle.language_model.specs.declared.scope.Scope.{Scope}
use Rattle.language_model.specs.declared.scope.Typed.{Typed}
use Rattle.spl_tree.specs.declared.body.Change.TheVariants as H
use Rattle.spl_tree.specs.declared.body.Statement.TheVariants as T
use Rattle.language_model.specs.StatementTyping.{TypedPlace, assignment_typing, compound_typing, place_typing}
use Rattle.language_model.specs.Typing.{Found, after, as_wanted, level_operator, operands_typed, typing}
use Rattle.language_model.specs.TypingLaws.{parted}
use Rattle.type_rules.specs.steps.Places.{compound_value, with_kind}
use Rattle.language_model.proofs.FoundAnswers.{after_after}
use Rattle.type_rules.proofs.Steps.{after_each}

pub behind_place : {A : Type 0} (o : Found TypedPlace) (f : TypedPlace → Found A) → after o f ≡ after (with_kind o) (λ x. f (record { place = x.0; kind = x.1 }))
behind_place (Ok x) f = refl
behind_place (Err refusal) f = refl

-- a place is put into after its value
compound_behind : {A : Type 0} (scope : Scope) (op : BinaryOperator) (e right : Expr) (held : SplType) (f : Typed → Found A)
    → after (typing scope e None) (λ t. after (operands_typed scope t (parted e) (parted right) (level_operator op (out-SplType t.kind))) (λ y. after (as_wanted e.at (Some held) y) f))
    ≡ after (compound_value scope op e right held) f
compound_behind scope op e right held f =
    sym (after_after (typing scope e None) _ f
    ∙ after_each (typing scope e None) _ _ (λ t. after_after (operands_typed scope t (parted e) (parted right) (level_operator op (out-SplType t.kind))) (as_wanted e.at (Some held)) f))

pub assignment_law : (scope : Scope) (e right : Expr)
    → assignment_typing scope e right ≡ after (with_kind (place_typing scope e)) (λ x. after (typing scope right (Some x.1)) (λ y. Ok (T.Change x.0 (H.Put y.code))))
assignment_law scope e right = behind_place (place_typing scope e) (λ x. after (typing scope right (Some x.kind)) (λ y. Ok (T.Change x.place (H.Put y.code))))

pub compound_law : (scope : Scope) (op : BinaryOperator) (e right : Expr)
    → compound_typing scope op e right ≡ after (with_kind (place_typing scope e)) (λ x. after (compound_value scope op e right x.1) (λ y. Ok (T.Change x.0 (H.Put y.code))))
compound_law scope op e right =
    behind_place (place_typing scope e) _
    ∙ after_each (with_kind (place_typing scope e)) _ _ (λ x. compound_behind scope op e right x.1 (λ y. Ok (T.Change x.0 (H.Put y.code))))
