-- The result of an evaluation, and how one evaluation follows another.
use Rattle.std.specs.Prelude.{ℕ, zero, suc, Option, None, Some}
use Rattle.spl_value.specs.declared.item.FaultKind.{FaultKind}
use Rattle.spl_value.specs.declared.item.FaultKind.TheVariants as K
use Rattle.spl_value.specs.declared.value.Value.{Value}
use Rattle.spl_value.specs.Calls.{CallOutcome, Gives, Faults, Unfit}

-- an answer with the turns that are left, a fault, or neither, which comes only where what is evaluated doesn't fit
pub data Outcome (A : Type 0) : Type 0 where
  Done : A → ℕ → Outcome A
  Faulted : FaultKind → Outcome A
  Stuck : Outcome A

-- the second begins with the turns that the first leaves, and doesn't come where the first faults
abbrev pub followed : {A B : Type 0} → Outcome A → (A → ℕ → Outcome B) → Outcome B
followed (Done x turns) f = f x turns
followed (Faulted kind) f = Faulted kind
followed Stuck f = Stuck

-- what is looked up has to be there
abbrev pub need : {A B : Type 0} → Option A → (A → Outcome B) → Outcome B
need None f = Stuck
need (Some x) f = f x

-- the result of an operator or a call takes no turn
abbrev pub settled : CallOutcome → ℕ → Outcome Value
settled (Gives v) turns = Done v turns
settled (Faults kind) turns = Faulted kind
settled Unfit turns = Stuck

-- one turn is taken
abbrev pub enter : {A : Type 0} → ℕ → (ℕ → Outcome A) → Outcome A
enter zero f = Faulted K.Turns
enter (suc turns) f = f turns
