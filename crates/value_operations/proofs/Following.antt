-- How what is answered goes together, as outcomes do.
use Rattle.std.specs.Prelude.{◌≡◌, ℕ, zero, suc, Option, Result, Ok, Err, IsErrAnd}
use Rattle.std.proofs.Common.{refl, sym, ap, ◌∙◌, subst}
use Rattle.std.proofs.lemmas.Result.{err_from_is_err_and}
use Rattle.spl_value.specs.Calls.{CallOutcome}
use Rattle.spl_value.specs.declared.value.Value.{Value}
use Rattle.language_model.specs.Outcomes.{Outcome, Done, Faulted, Stuck, followed, need, settled, enter}
use Rattle.value_operations.specs.Answers.{StopsAs, Answers, AnswersHeld, Settles, SettlesHeld, ReadsHeld, held}
use Rattle.value_operations.specs.declared.held.Held.{Held}
use Rattle.value_operations.specs.declared.stop.Stop.{Stop}
use Rattle.value_operations.specs.declared.stop.Stop.TheVariants as S

pub followed_followed : {A B C : Type 0} (o : Outcome A) (f : A → ℕ → Outcome B) (h : B → ℕ → Outcome C)
    → followed (followed o f) h ≡ followed o (λ x turns. followed (f x turns) h)
followed_followed (Done x turns) f h = refl
followed_followed (Faulted kind) f h = refl
followed_followed Stuck f h = refl

pub followed_done : {A : Type 0} (o : Outcome A) → followed o (λ x turns. Done x turns) ≡ o
followed_done (Done x turns) = refl
followed_done (Faulted kind) = refl
followed_done Stuck = refl

-- a turn is taken first
pub enter_followed : {A B : Type 0} (turns : ℕ) (f : ℕ → Outcome A) (g : A → ℕ → Outcome B) → enter turns (λ turns. followed (f turns) g) ≡ followed (enter turns f) g
enter_followed zero f g = refl
enter_followed (suc turns) f g = refl

-- ---- stops

pub followed_stops : {A B : Type 0} (o : Outcome A) (f : A → ℕ → Outcome B) (s : Stop) → StopsAs o s → StopsAs (followed o f) s
followed_stops o f (S.Fault kind) h = ap (λ o. followed o f) h
followed_stops o f S.Memory h = tt

pub stops_by : {A : Type 0} (o p : Outcome A) (s : Stop) → o ≡ p → StopsAs p s → StopsAs o s
stops_by o p s e h = subst (λ o. StopsAs o s) (sym e) h

-- what `?` returns
pub exit : {B : Type 0} (P : Result B Stop → Type 0) (r : Result B Stop) (s : Stop) → IsErrAnd r (λ y. y ≡ s) → P (Err s) → P r
exit P r s h q = let p = err_from_is_err_and r h in subst P (sym (p.1 ∙ ap Err p.2)) q

pub stops : {A : Type 0} (o : Outcome A) (r : Result A Stop) (turns : ℕ) (s : Stop) → IsErrAnd r (λ y. y ≡ s) → StopsAs o s → Answers o r turns
stops o r turns s h q = exit (λ r. Answers o r turns) r s h q

pub stops_held : (o : Outcome Value) (r : Result Held Stop) (turns : ℕ) (s : Stop) → IsErrAnd r (λ y. y ≡ s) → StopsAs o s → AnswersHeld o r turns
stops_held o r turns s h q = exit (λ r. AnswersHeld o r turns) r s h q

-- ---- answers

pub answers_by : {A : Type 0} (o p : Outcome A) (r : Result A Stop) (turns : ℕ) → o ≡ p → Answers p r turns → Answers o r turns
answers_by o p r turns e h = subst (λ o. Answers o r turns) (sym e) h

pub answers_held_by : (o p : Outcome Value) (r : Result Held Stop) (turns : ℕ) → o ≡ p → AnswersHeld p r turns → AnswersHeld o r turns
answers_held_by o p r turns e h = subst (λ o. AnswersHeld o r turns) (sym e) h

pub settled_answers : (o : CallOutcome) (r : Result Value Stop) (turns : ℕ) → Settles o r → Answers (settled o turns) r turns
settled_answers o (Ok v) turns h = ap (λ o. settled o turns) h
settled_answers o (Err (S.Fault kind)) turns h = ap (λ o. settled o turns) h
settled_answers o (Err S.Memory) turns h = tt

pub settled_held : (o : CallOutcome) (r : Result Held Stop) (turns : ℕ) → SettlesHeld o r → AnswersHeld (settled o turns) r turns
settled_held o (Ok h) turns e = ap (λ o. settled o turns) e
settled_held o (Err (S.Fault kind)) turns e = ap (λ o. settled o turns) e
settled_held o (Err S.Memory) turns e = tt

-- what stops is the same where a value is held
pub stopped_held : (o : CallOutcome) (s : Stop) → Settles o (Err s) → SettlesHeld o (Err s)
stopped_held o (S.Fault kind) h = h
stopped_held o S.Memory h = tt

pub read_answers : (o : Option Value) (r : Result Held Stop) (turns : ℕ) → ReadsHeld o r → AnswersHeld (need o (λ v. Done v turns)) r turns
read_answers o (Ok h) turns e = ap (λ o. need o (λ v. Done v turns)) e
read_answers o (Err s) turns e = subst (λ s. StopsAs (need o (λ v. Done v turns)) s) (sym e) tt

pub memory_held : (o : Outcome Value) (r : Result Held Stop) (turns : ℕ) (s : Stop) → IsErrAnd r (λ y. y ≡ s) → s ≡ S.Memory → AnswersHeld o r turns
memory_held o r turns s h e = stops_held o r turns s h (subst (λ s. StopsAs o s) (sym e) tt)

-- ---- what is done with a value that came

module _ {A : Type 0} (o : Outcome Value) (f : Value → ℕ → Outcome A) (turns : ℕ) (r : Result Held Stop) where
  pub held_then : (h : Held) → r ≡ Ok h → AnswersHeld o r turns → followed o f ≡ f (held h) turns
  held_then h is a = ap (λ o. followed o f) (subst (λ r. AnswersHeld o r turns) is a)

  pub held_stops : (s : Stop) → r ≡ Err s → AnswersHeld o r turns → StopsAs (followed o f) s
  held_stops s is a = followed_stops o f s (subst (λ r. AnswersHeld o r turns) is a)

module _ {A B : Type 0} (o : Outcome A) (f : A → ℕ → Outcome B) (turns : ℕ) (r : Result A Stop) where
  pub answer_then : (x : A) → r ≡ Ok x → Answers o r turns → followed o f ≡ f x turns
  answer_then x is a = ap (λ o. followed o f) (subst (λ r. Answers o r turns) is a)

  pub answer_stops : (s : Stop) → r ≡ Err s → Answers o r turns → StopsAs (followed o f) s
  answer_stops s is a = followed_stops o f s (subst (λ r. Answers o r turns) is a)
