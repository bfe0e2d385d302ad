-- How the answers of calls go together, as the definitions do.
use Rattle.std.proofs.Common.{ap, refl, subst, sym, ◌∙◌}
use Rattle.std.proofs.lemmas.Result.{err_from_is_err_and}
use Rattle.std.specs.Prelude.{Err, IsErrAnd, List, Ok, Result, [], ◌≡◌}
use Rattle.language_model.specs.Finds.{Finds, with_front}
use Rattle.language_model.specs.Typing.{Found, after}
use Rattle.language_model.specs.declared.answer.TypeAnswer.{TypeAnswer}
use Rattle.language_model.specs.declared.answer.TypeAnswer.TheVariants.{Memory, Refused}

-- what is found has the fact
abbrev pub Gives : {A : Type 0} → (A → Type 0) → Found A → Type 0
Gives P (Ok x) = P x
Gives P (Err refusal) = Unit {0}

pub gives_from : {A : Type 0} (P : A → Type 0) (r : Found A) (x : A) → Gives P r → r ≡ Ok x → P x
gives_from P r x h e = subst (Gives P) e h

pub gives_then : {A B : Type 0} (Q : B → Type 0) (r : Found A) (f : A → Found B) → ((x : A) → r ≡ Ok x → Gives Q (f x)) → Gives Q (after r f)
gives_then Q (Ok x) f k = k x refl
gives_then Q (Err refusal) f k = tt

-- what was found first, where something was found after it
pub after_gives : {A B E : Type 0} (x : Result A E) (f : A → Result B E) (b : B) → after x f ≡ Ok b → (a : A) × (x ≡ Ok a) × (f a ≡ Ok b)
after_gives (Ok a) f b e = (a, refl, e)
after_gives (Err r) f b e = absurd cc

pub same_Ok : {A E : Type 0} {x y : A} → ◌≡◌ {A = Result A E} (Ok x) (Ok y) → x ≡ y
same_Ok e = cc

-- nothing came before
pub no_front : {A : Type 0} (front : List A) (found : Found (List A)) → front ≡ [] → found ≡ with_front front found
no_front front found is = plain found ∙ ap (λ xs. with_front xs found) (sym is)
  where
    plain : {A : Type 0} (found : Found (List A)) → found ≡ with_front [] found
    plain (Ok xs) = refl
    plain (Err r) = refl

pub after_after : {A B C E : Type 0} (o : Result A E) (f : A → Result B E) (h : B → Result C E) → after (after o f) h ≡ after o (λ x. after (f x) h)
after_after (Ok x) f h = refl
after_after (Err r) f h = refl

pub finds_by : {A : Type 0} (o p : Found A) (r : Result A TypeAnswer) → o ≡ p → Finds p r → Finds o r
finds_by o p r e g = subst (λ o. Finds o r) (sym e) g

pub goes : {A B : Type 0} (o : Found A) (f : A → Found B) (x : A) (r : Result B TypeAnswer) → o ≡ Ok x → Finds (f x) r → Finds (after o f) r
goes o f x r h g = subst (λ o. Finds (after o f) r) (sym h) g

pub stops : {A B : Type 0} (o : Found A) (f : A → Found B) (e : TypeAnswer) → Finds o (Err e) → Finds (after o f) (Err e)
stops o f (Refused r) h = ap (λ o. after o f) h
stops o f Memory h = tt

-- what holds of an error that `?` returns
pub exit : {B : Type 0} (P : Result B TypeAnswer → Type 0) (r : Result B TypeAnswer) (e : TypeAnswer) → IsErrAnd r (λ y. y ≡ e) → P (Err e) → P r
exit P r e h q = let p = err_from_is_err_and r h in subst P (sym (p.1 ∙ ap Err p.2)) q

pub fails : {B : Type 0} (o : Found B) (r : Result B TypeAnswer) (e : TypeAnswer) → IsErrAnd r (λ y. y ≡ e) → Finds o (Err e) → Finds o r
fails o r e h q = exit (Finds o) r e h q

pub gives_after : {A B : Type 0} (P : A → Type 0) (Q : B → Type 0) (r : Found A) (f : A → Found B) → Gives P r → ((x : A) → P x → Gives Q (f x))
    → Gives Q (after r f)
gives_after P Q (Ok x) f h k = k x h
gives_after P Q (Err refusal) f h k = tt

pub gives_on : {A : Type 0} (P Q : A → Type 0) (r : Found A) → Gives P r → ((x : A) → P x → Q x) → Gives Q r
gives_on P Q (Ok x) h k = k x h
gives_on P Q (Err refusal) h k = tt
