-- Outcomes with no faults but those of evaluation.
use Rattle.std.specs.Prelude.{◌≡◌, ℕ, zero, suc, Bool, true, false, if◌then◌else◌, Option, None, Some}
use Rattle.std.proofs.Common.{refl, sym, subst}
use Rattle.spl_value.specs.Calls.{CallOutcome, Gives, Faults, Unfit}
use Rattle.language_model.specs.Outcomes.{Outcome, Done, Faulted, Stuck, followed, need, settled, enter}
use Rattle.fault_kinds.specs.Kinds.{is_evaluation_kind}
use Rattle.fault_kinds.specs.EvaluationKinds.{FaultsByEvaluation}

-- an answer, a fault of evaluation, or neither
abbrev pub Own : {A : Type 0} → Outcome A → Type 0
Own (Done x turns) = Unit {0}
Own (Faulted kind) = is_evaluation_kind kind ≡ true
Own Stuck = Unit {0}

pub own_followed : {A B : Type 0} (o : Outcome A) (f : A → ℕ → Outcome B) → Own o → ((x : A) (turns : ℕ) → Own (f x turns)) → Own (followed o f)
own_followed (Done x turns) f h k = k x turns
own_followed (Faulted kind) f h k = h
own_followed Stuck f h k = tt

pub own_need : {A B : Type 0} (o : Option A) (f : A → Outcome B) → ((x : A) → Own (f x)) → Own (need o f)
own_need None f k = tt
own_need (Some x) f k = k x

pub own_enter : {A : Type 0} (turns : ℕ) (f : ℕ → Outcome A) → ((turns : ℕ) → Own (f turns)) → Own (enter turns f)
own_enter zero f k = refl
own_enter (suc turns) f k = k turns

pub own_either : {A : Type 0} (b : Bool) (o p : Outcome A) → Own o → Own p → Own (if b then o else p)
own_either true o p h k = h
own_either false o p h k = k

pub own_by : {A : Type 0} (o p : Outcome A) → o ≡ p → Own p → Own o
own_by o p e h = subst Own (sym e) h

-- the same of the result of an operator of an expression or of a call
abbrev pub OwnCall : CallOutcome → Type 0
OwnCall (Gives v) = Unit {0}
OwnCall (Faults kind) = is_evaluation_kind kind ≡ true
OwnCall Unfit = Unit {0}

pub own_settled : (called : CallOutcome) (turns : ℕ) → OwnCall called → Own (settled called turns)
own_settled (Gives v) turns h = tt
own_settled (Faults kind) turns h = h
own_settled Unfit turns h = tt

pub own_law : {A : Type 0} (o : Outcome A) → Own o → FaultsByEvaluation o
own_law (Done x turns) h kind e = absurd cc
own_law (Faulted own) h kind e = let same : own ≡ kind = cc in subst (λ k. is_evaluation_kind k ≡ true) same h
own_law Stuck h kind e = absurd cc
