-- What more turns change of the results of programs: nothing but the turns that are left, where there were enough.
use Rattle.std.specs.Prelude.{◌≡◌, ◌≢◌, ◌+◌, ℕ, List}
use Rattle.spl_value.specs.declared.item.FaultKind.{FaultKind}
use Rattle.spl_value.specs.declared.item.FaultKind.TheVariants as K
use Rattle.spl_value.specs.declared.value.Value.{Value}
use Rattle.spl_tree.specs.declared.body.Function.{Function}
use Rattle.spl_tree.specs.declared.body.Statement.{Statement}
use Rattle.spl_tree.specs.declared.code.Code.{Code}
use Rattle.language_model.specs.declared.env.Env.{Env}
use Rattle.language_model.specs.Evaluation.{World}
use Rattle.language_model.specs.Functions.{value, runs}
use Rattle.language_model.specs.Outcomes.{Done, Faulted}
use Rattle.language_model.specs.Statements.{Left}

-- a code that gives a value with some turns gives it with more
abbrev pub ValueTurnsLaw : Type 0 → Type 0
ValueTurnsLaw N = (functions : List Function) (code : Code N) (w : World N) (turns more left : ℕ) (v : Value)
    → value functions code w turns ≡ Done v left → value functions code w (turns + more) ≡ Done v (left + more)

-- a code that gives a fault other than running out of turns gives it with more
abbrev pub ValueFaultsLaw : Type 0 → Type 0
ValueFaultsLaw N = (functions : List Function) (code : Code N) (w : World N) (turns more : ℕ) (kind : FaultKind) → kind ≢ K.Turns
    → value functions code w turns ≡ Faulted kind → value functions code w (turns + more) ≡ Faulted kind

-- the same of bodies
abbrev pub RunsTurnsLaw : Type 0
RunsTurnsLaw = (functions : List Function) (row : List Statement) (env : Env) (turns more left : ℕ) (l : Left)
    → runs functions row env turns ≡ Done l left → runs functions row env (turns + more) ≡ Done l (left + more)

abbrev pub RunsFaultsLaw : Type 0
RunsFaultsLaw = (functions : List Function) (row : List Statement) (env : Env) (turns more : ℕ) (kind : FaultKind) → kind ≢ K.Turns
    → runs functions row env turns ≡ Faulted kind → runs functions row env (turns + more) ≡ Faulted kind
