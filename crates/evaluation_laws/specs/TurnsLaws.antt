-- How many turns programs take: as many however many there are, and where there are fewer, they run out of turns.
use Rattle.std.specs.Prelude.{◌≡◌, ◌+◌, ◌<◌, ◌≤◌, ◌⊎◌, ℕ, List}
use Rattle.spl_value.specs.declared.item.FaultKind.{FaultKind}
use Rattle.spl_value.specs.declared.item.FaultKind.TheVariants as K
use Rattle.spl_tree.specs.declared.body.Function.{Function}
use Rattle.spl_tree.specs.declared.body.Statement.{Statement}
use Rattle.spl_tree.specs.declared.code.Code.{Code}
use Rattle.language_model.specs.declared.env.Env.{Env}
use Rattle.language_model.specs.Evaluation.{World}
use Rattle.language_model.specs.Functions.{value, runs}
use Rattle.language_model.specs.Outcomes.{Outcome, Done, Faulted, Stuck}

-- ---- what is evaluated with a number of turns

-- no more are left than there were
abbrev pub LeavesNoMore : {A : Type 0} → (ℕ → Outcome A) → Type 0
LeavesNoMore {A} f = (turns left : ℕ) (x : A) → f turns ≡ Done x left → left ≤ turns

-- it takes as many however many there are: where those that it takes are there, it gives the same, and leaves the others
abbrev pub TakesAsMany : {A : Type 0} → (ℕ → Outcome A) → Type 0
TakesAsMany {A} f = (taken left others : ℕ) (x : A) → f (taken + left) ≡ Done x left → f (taken + others) ≡ Done x others

-- with fewer than it takes it runs out of turns
abbrev pub WantsTurns : {A : Type 0} → (ℕ → Outcome A) → Type 0
WantsTurns {A} f = (turns left fewer : ℕ) (x : A) → f turns ≡ Done x left → fewer + left < turns → f fewer ≡ Faulted K.Turns

-- where it gives a fault, with fewer it gives that fault or runs out of turns
abbrev pub FaultsWithFewer : {A : Type 0} → (ℕ → Outcome A) → Type 0
FaultsWithFewer f = (turns fewer : ℕ) (kind : FaultKind) → f turns ≡ Faulted kind → fewer ≤ turns
    → (f fewer ≡ Faulted kind) ⊎ (f fewer ≡ Faulted K.Turns)

-- where it is stuck, it is stuck with more
abbrev pub StuckWithMore : {A : Type 0} → (ℕ → Outcome A) → Type 0
StuckWithMore f = (turns more : ℕ) → f turns ≡ Stuck → turns ≤ more → f more ≡ Stuck

-- ---- codes

abbrev pub ValueTurnsLeftLaw : Type 0 → Type 0
ValueTurnsLeftLaw N = (functions : List Function) (code : Code N) (w : World N) → LeavesNoMore (value functions code w)

abbrev pub ValueTurnsTakenLaw : Type 0 → Type 0
ValueTurnsTakenLaw N = (functions : List Function) (code : Code N) (w : World N) → TakesAsMany (value functions code w)

abbrev pub ValueWantOfTurnsLaw : Type 0 → Type 0
ValueWantOfTurnsLaw N = (functions : List Function) (code : Code N) (w : World N) → WantsTurns (value functions code w)

abbrev pub ValueFewerTurnsLaw : Type 0 → Type 0
ValueFewerTurnsLaw N = (functions : List Function) (code : Code N) (w : World N) → FaultsWithFewer (value functions code w)

abbrev pub ValueStuckLaw : Type 0 → Type 0
ValueStuckLaw N = (functions : List Function) (code : Code N) (w : World N) → StuckWithMore (value functions code w)

-- ---- bodies

abbrev pub RunsTurnsLeftLaw : Type 0
RunsTurnsLeftLaw = (functions : List Function) (row : List Statement) (env : Env) → LeavesNoMore (runs functions row env)

abbrev pub RunsTurnsTakenLaw : Type 0
RunsTurnsTakenLaw = (functions : List Function) (row : List Statement) (env : Env) → TakesAsMany (runs functions row env)

abbrev pub RunsWantOfTurnsLaw : Type 0
RunsWantOfTurnsLaw = (functions : List Function) (row : List Statement) (env : Env) → WantsTurns (runs functions row env)

abbrev pub RunsFewerTurnsLaw : Type 0
RunsFewerTurnsLaw = (functions : List Function) (row : List Statement) (env : Env) → FaultsWithFewer (runs functions row env)

abbrev pub RunsStuckLaw : Type 0
RunsStuckLaw = (functions : List Function) (row : List Statement) (env : Env) → StuckWithMore (runs functions row env)
