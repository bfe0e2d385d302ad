-- How the answers of calls are composed, as in the definitions.
use Rattle.std.specs.Prelude.{◌≡◌, Ok, Err}
use Rattle.std.proofs.Common.{refl}
use Rattle.language_model.specs.Typing.{Found, after}
use Rattle.language_model.specs.Finds.{Finds, FindsBy}
use Rattle.language_model.specs.declared.answer.TypeAnswer.{TypeAnswer}
use Rattle.language_model.specs.declared.answer.TypeAnswer.TheVariants.{Memory, Refused}

pub after_each : {A B : Type 0} (o : Found A) (f h : A → Found B) → ((x : A) → f x ≡ h x) → after o f ≡ after o h
after_each (Ok x) f h same = same x
after_each (Err r) f h same = refl

-- a refusal of what is seen is that of what is found
pub seen_refused : {A B : Type 0} (seen : B → A) (found : Found A) (a : TypeAnswer) → FindsBy {A = A} {B = B} seen found (Err a) → Finds found (Err a)
seen_refused seen found (Refused refusal) h = h
seen_refused seen found Memory h = tt
