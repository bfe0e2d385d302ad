-- What a body does depends on the marker and on the slots that it names: in two environments that have the same of these it does the same.
use Rattle.std.specs.Prelude.{◌≡◌, ℕ, List, length, slice_get}
use Rattle.std.specs.List.{AllByRecursion}
use Rattle.spl_tree.specs.declared.body.Function.{Function}
use Rattle.spl_tree.specs.declared.body.Statement.{Statement}
use Rattle.spl_tree.specs.declared.code.Slot.{Slot}
use Rattle.language_model.specs.declared.env.Env.{Env}
use Rattle.language_model.specs.Evaluation.{slot_value}
use Rattle.language_model.specs.Functions.{runs}
use Rattle.language_model.specs.Outcomes.{Outcome, Done, Faulted, Stuck}
use Rattle.language_model.specs.Slots.{row_slots}
use Rattle.language_model.specs.Statements.{Left}

-- both are done with as many turns left, and their answers are alike; or both give the same fault; or both are stuck
abbrev pub SameOutcome : {A B : Type 0} → (A → B → Type 0) → Outcome A → Outcome B → Type 0
SameOutcome P (Done x turns) (Done y left) = (turns ≡ left) × P x y
SameOutcome P (Faulted kind) (Faulted other) = kind ≡ other
SameOutcome P Stuck Stuck = Unit {0}
SameOutcome P _ _ = ⊥

-- the marker is the same, there are as many variables, and each of these slots has the same value
pub record Agree (slots : List Slot) (env other : Env) : Type 0 where
  pub marker : env.punct ≡ other.punct
  pub count : length env.vars ≡ length other.vars
  pub values : AllByRecursion (λ (slot : Slot). slot_value env slot ≡ slot_value other slot) slots

-- the submits and what is returned are the same, and so is each variable that was the same before
pub record LeftAlike (env other : Env) (left right : Left) : Type 0 where
  pub submits : left.submits ≡ right.submits
  pub returned : left.returned ≡ right.returned
  pub count : length left.vars ≡ length right.vars
  pub variables : (i : ℕ) → slice_get env.vars i ≡ slice_get other.vars i → slice_get left.vars i ≡ slice_get right.vars i

abbrev pub NamedSlotsLaw : Type 0
NamedSlotsLaw = (functions : List Function) (row : List Statement) (env other : Env) (turns : ℕ) → Agree (row_slots row) env other
    → SameOutcome (LeftAlike env other) (runs functions row env turns) (runs functions row other turns)
