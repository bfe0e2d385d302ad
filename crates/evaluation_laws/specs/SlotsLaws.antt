-- What codes and statements make of the slots that they don't name: nothing.
use Rattle.std.specs.Prelude.{◌≡◌, ◌≢◌, ◌<◌, ℕ, List, length, slice_get, slice_set}
use Rattle.std.specs.List.{AllByRecursion}
use Rattle.spl_value.specs.declared.value.Value.{Value}
use Rattle.spl_tree.specs.declared.body.Function.{Function}
use Rattle.spl_tree.specs.declared.body.Statement.{Statement}
use Rattle.spl_tree.specs.declared.code.Code.{Code}
use Rattle.spl_tree.specs.declared.code.Slot.{Slot}
use Rattle.spl_tree.specs.declared.code.Slot.TheVariants as L
use Rattle.language_model.specs.declared.env.Env.{Env}
use Rattle.language_model.specs.declared.flow.Flow.{Flow}
use Rattle.language_model.specs.Evaluation.{World, Calls, code_value, slot_value}
use Rattle.language_model.specs.Functions.{runs}
use Rattle.language_model.specs.Outcomes.{Done, followed}
use Rattle.language_model.specs.Slots.{names_of, row_slots}
use Rattle.language_model.specs.Statements.{Bodies, Left, State}
use Rattle.language_model.specs.parts.Statements.{row_acts}

-- the statements name other slots than this one alone
abbrev pub NoneIs : Slot → List Statement → Type 0
NoneIs slot row = AllByRecursion (λ (other : Slot). other ≢ slot) (row_slots row)

-- with another value of the variable
abbrev pub with_value : ℕ → Value → Env → Env
with_value i v env = record { inputs = env.inputs; vars = slice_set env.vars i v; punct = env.punct }

abbrev pub left_with : ℕ → Value → Left → Left
left_with i v left = record { vars = slice_set left.vars i v; submits = left.submits; returned = left.returned }

-- what a body does doesn't depend on a variable that it doesn't name
abbrev pub VariablesLaw : Type 0
VariablesLaw = (functions : List Function) (row : List Statement) (env : Env) (turns i : ℕ) (v : Value) → i < length env.vars → NoneIs (L.Variable i) row
    → runs functions row (with_value i v env) turns ≡ followed (runs functions row env turns) (λ left turns. Done (left_with i v left) turns)

-- nor does it change the variable
abbrev pub UnchangedLaw : Type 0
UnchangedLaw = (functions : List Function) (row : List Statement) (env : Env) (turns i : ℕ) → i < length env.vars → NoneIs (L.Variable i) row
    → (left : Left) (rest : ℕ) → runs functions row env turns ≡ Done left rest → slice_get left.vars i ≡ slice_get env.vars i

-- it does the same where its variables and the marker are the same, and each slot that it names has the same value
abbrev pub InputsLaw : Type 0
InputsLaw = (functions : List Function) (row : List Statement) (env other : Env) (turns : ℕ) → env.vars ≡ other.vars → env.punct ≡ other.punct
    → AllByRecursion (λ (slot : Slot). slot_value env slot ≡ slot_value other slot) (row_slots row)
    → runs functions row env turns ≡ runs functions row other turns

-- a code has the same result where the marker is the same, and each of its names has the same value
abbrev pub AgreementLaw : Type 0 → Type 0
AgreementLaw N = (calls : Calls) (code : Code N) (w v : World N) (turns : ℕ) → w.marker ≡ v.marker
    → AllByRecursion (λ (n : N). w.value_of n ≡ v.value_of n) (names_of code) → code_value calls code w turns ≡ code_value calls code v turns

-- a row changes neither the tuples at the ports nor the marker
abbrev pub KeepsLaw : Type 0
KeepsLaw = (bodies : Bodies) (row : List Statement) (s : State) (turns : ℕ) (w : Flow × State) (left : ℕ) → row_acts bodies row s turns ≡ Done w left
    → (w.1.env.inputs ≡ s.env.inputs) × (w.1.env.punct ≡ s.env.punct)
