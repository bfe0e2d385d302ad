-- What is known of the result of an evaluation.
use Rattle.std.specs.Prelude.{◌≡◌, ℕ, zero, suc, Bool, true, false, if◌then◌else◌, IsTrue, Option, Some}
use Rattle.std.proofs.Common.{sym, subst}
use Rattle.spl_value.specs.declared.types.SplType.{SplType}
use Rattle.spl_value.specs.declared.value.Value.{Value}
use Rattle.spl_value.specs.Calls.{CallOutcome, Gives, Faults, Unfit}
use Rattle.spl_value.specs.Values.{fits}
use Rattle.language_model.specs.Outcomes.{Outcome, Done, Faulted, Stuck, followed, need, settled, enter}

-- an answer has the fact, or there is a fault
abbrev pub Yields : {A : Type 0} → (A → Type 0) → Outcome A → Type 0
Yields P (Done x turns) = P x
Yields P (Faulted kind) = Unit {0}
Yields P Stuck = ⊥

pub yields_followed : {A B : Type 0} (P : A → Type 0) (Q : B → Type 0) (o : Outcome A) (f : A → ℕ → Outcome B) → Yields P o
    → ((x : A) (turns : ℕ) → P x → Yields Q (f x turns)) → Yields Q (followed o f)
yields_followed P Q (Done x turns) f h k = k x turns h
yields_followed P Q (Faulted kind) f h k = tt
yields_followed P Q Stuck f h k = absurd h

pub yields_weaker : {A : Type 0} (P Q : A → Type 0) (o : Outcome A) → ((x : A) → P x → Q x) → Yields P o → Yields Q o
yields_weaker P Q (Done x turns) k h = k x h
yields_weaker P Q (Faulted kind) k h = tt
yields_weaker P Q Stuck k h = absurd h

-- what is looked up is there, and has the fact
abbrev pub IsThere : {A : Type 0} → (A → Type 0) → Option A → Type 0
IsThere {A} P o = (x : A) × (o ≡ Some x) × P x

pub yields_need : {A B : Type 0} (P : A → Type 0) (Q : B → Type 0) (o : Option A) (f : A → Outcome B) → IsThere P o → ((x : A) → P x → Yields Q (f x))
    → Yields Q (need o f)
yields_need P Q o f h k = subst (λ (o : Option _). Yields Q (need o f)) (sym h.1) (k h.0 h.2)

pub yields_enter : {A : Type 0} (Q : A → Type 0) (turns : ℕ) (f : ℕ → Outcome A) → ((turns : ℕ) → Yields Q (f turns)) → Yields Q (enter turns f)
yields_enter Q zero f k = tt
yields_enter Q (suc turns) f k = k turns

pub yields_either : {A : Type 0} (Q : A → Type 0) (b : Bool) (o p : Outcome A) → Yields Q o → Yields Q p → Yields Q (if b then o else p)
yields_either Q true o p h k = h
yields_either Q false o p h k = k

-- nothing is known of an answer
abbrev pub AnyAnswer : {A : Type 0} → A → Type 0
AnyAnswer x = Unit {0}

-- ---- values of a type

abbrev pub OfType : SplType → Value → Type 0
OfType t v = IsTrue (fits t v)

-- an operator or a call gives a value of the type, or a fault
abbrev pub Settles : SplType → CallOutcome → Type 0
Settles t (Gives v) = OfType t v
Settles t (Faults kind) = Unit {0}
Settles t Unfit = ⊥

pub yields_settled : (t : SplType) (called : CallOutcome) (turns : ℕ) → Settles t called → Yields (OfType t) (settled called turns)
yields_settled t (Gives v) turns h = h
yields_settled t (Faults kind) turns h = tt
yields_settled t Unfit turns h = absurd h
