-- What a call answers, against the result of an evaluation. Of a lack of memory nothing is said.
use Rattle.std.specs.Prelude.{◌≡◌, ℕ, suc, Bool, List, Option, Some, Result, Ok, Err}
use Rattle.spl_value.specs.declared.item.Evaluated.{Evaluated}
use Rattle.spl_value.specs.declared.item.Evaluated.TheVariants as E
use Rattle.spl_value.specs.declared.item.FaultKind.TheVariants as K
use Rattle.spl_value.specs.declared.value.Value.{Value}
use Rattle.spl_value.specs.Calls.{CallOutcome, Gives, Faults}
use Rattle.language_model.specs.parts.Operators.{truth_of}
use Rattle.language_model.specs.Outcomes.{Outcome, Done, Faulted, followed, need}
use Rattle.value_operations.specs.declared.held.Held.{Held}
use Rattle.value_operations.specs.declared.held.Held.TheVariants as H
use Rattle.value_operations.specs.declared.answers.Made.{Made}
use Rattle.value_operations.specs.declared.answers.Made.TheVariants as M
use Rattle.value_operations.specs.declared.answers.Truth.{Truth}
use Rattle.value_operations.specs.declared.answers.Truth.TheVariants as R
use Rattle.value_operations.specs.declared.stop.Stop.{Stop}
use Rattle.value_operations.specs.declared.stop.Stop.TheVariants as S

-- the value that is held, or the one that is lent
abbrev pub held : Held → Value
held (H.Own v) = v
held (H.Lent v) = v.now

-- it stopped with the outcome's fault
abbrev pub StopsAs : {A : Type 0} → Outcome A → Stop → Type 0
StopsAs outcome (S.Fault kind) = outcome ≡ Faulted kind
StopsAs outcome S.Memory = Unit {0}

-- it answers what the outcome has, and leaves the turns that it leaves
abbrev pub Answers : {A : Type 0} → Outcome A → Result A Stop → ℕ → Type 0
Answers outcome (Ok x) turns = outcome ≡ Done x turns
Answers outcome (Err stop) turns = StopsAs outcome stop

abbrev pub AnswersHeld : Outcome Value → Result Held Stop → ℕ → Type 0
AnswersHeld outcome (Ok h) turns = outcome ≡ Done (held h) turns
AnswersHeld outcome (Err stop) turns = StopsAs outcome stop

-- the result of an operator or a call is answered
abbrev pub Settles : CallOutcome → Result Value Stop → Type 0
Settles outcome (Ok v) = outcome ≡ Gives v
Settles outcome (Err (S.Fault kind)) = outcome ≡ Faults kind
Settles outcome (Err S.Memory) = Unit {0}

abbrev pub SettlesHeld : CallOutcome → Result Held Stop → Type 0
SettlesHeld outcome (Ok h) = outcome ≡ Gives (held h)
SettlesHeld outcome (Err (S.Fault kind)) = outcome ≡ Faults kind
SettlesHeld outcome (Err S.Memory) = Unit {0}

-- the value of the outcome, or its fault
abbrev pub Evaluates : Outcome Value → Evaluated → ℕ → Type 0
Evaluates outcome (E.Value v) turns = outcome ≡ Done v turns
Evaluates outcome (E.Bad kind) turns = outcome ≡ Faulted kind
Evaluates outcome E.Memory turns = Unit {0}

-- a turn was there and is taken
abbrev pub Entered : ℕ → Result (Unit {0}) Stop → ℕ → Type 0
Entered old (Ok u) new = old ≡ suc new
Entered old (Err stop) new = (old ≡ 0) × (stop ≡ S.Fault K.Turns)

-- what is read is answered
abbrev pub ReadsHeld : Option Value → Result Held Stop → Type 0
ReadsHeld read (Ok h) = read ≡ Some (held h)
ReadsHeld read (Err stop) = stop ≡ S.Memory

-- what is made is answered
abbrev pub Makes : {A : Type 0} → Option A → Result A Stop → Type 0
Makes made (Ok x) = made ≡ Some x
Makes made (Err stop) = stop ≡ S.Memory

-- the truth of the value of an evaluation
abbrev pub as_truth : Outcome Value → Outcome Bool
as_truth outcome = followed outcome (λ v turns. need (truth_of v) (λ b. Done b turns))

-- the truth of the outcome, or its fault
abbrev pub IsSo : Outcome Bool → Truth → ℕ → Type 0
IsSo outcome (R.Is b) turns = outcome ≡ Done b turns
IsSo outcome (R.Bad kind) turns = outcome ≡ Faulted kind
IsSo outcome R.Memory turns = Unit {0}

-- the tuple of the outcome, or its fault
abbrev pub IsMadeAs : Outcome (List Value) → Made → ℕ → Type 0
IsMadeAs outcome (M.Tuple vs) turns = outcome ≡ Done vs turns
IsMadeAs outcome (M.Bad kind) turns = outcome ≡ Faulted kind
IsMadeAs outcome M.Memory turns = Unit {0}
