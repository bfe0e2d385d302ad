-- What is found of an expression by its form, and then has to be of the wanted type.
use Rattle.std.specs.Prelude.{◌≡◌, ℕ, Result}
use Rattle.std.proofs.Common.{ap, ◌∙◌}
use Rattle.spl_tree.specs.declared.expression.ExprKind.{ExprKind}
use Rattle.language_model.specs.declared.answer.TypeAnswer.{TypeAnswer}
use Rattle.language_model.specs.declared.scope.Scope.{Scope}
use Rattle.language_model.specs.declared.scope.Typed.{Typed}
use Rattle.language_model.specs.Typing.{Found, Wanted, after, as_wanted}
use Rattle.language_model.specs.TypingLaws.{part}
use Rattle.language_model.specs.Finds.{Finds}
use Rattle.language_model.proofs.FoundAnswers.{finds_by}

pub by_form : (k x : ExprKind) (at : ℕ) (scope : Scope) (w : Wanted) → k ≡ x → (o : Found Typed) → (part x).1 at scope w ≡ after o (as_wanted at w)
    → (found r : Result Typed TypeAnswer) → ((o : Found Typed) → Finds o found → Finds (after o (as_wanted at w)) r) → Finds o found → Finds ((part k).1 at scope w) r
by_form k x at scope w is o form found r wanted f = finds_by _ _ r (ap (λ k. (part k).1 at scope w) is ∙ form) (wanted o f)

-- and where nothing is wanted of it again
pub of_form : (k x : ExprKind) (at : ℕ) (scope : Scope) (w : Wanted) → k ≡ x → (o : Found Typed) → (part x).1 at scope w ≡ o → (r : Result Typed TypeAnswer) → Finds o r
    → Finds ((part k).1 at scope w) r
of_form k x at scope w is o form r found = finds_by _ _ r (ap (λ k. (part k).1 at scope w) is ∙ form) found
