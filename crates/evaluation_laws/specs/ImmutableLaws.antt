-- What bodies do to variables that aren't mutable: nothing.
use Rattle.std.specs.Prelude.{◌≡◌, ◌≤◌, ℕ, Bool, false, List, length, slice_get, Some}
use Rattle.spl_tree.specs.declared.body.Function.{Function}
use Rattle.spl_tree.specs.declared.body.Statement.{Statement}
use Rattle.language_model.specs.declared.env.Env.{Env}
use Rattle.language_model.specs.declared.scope.Scope.{Scope}
use Rattle.language_model.specs.declared.scope.Variable.{Variable}
use Rattle.language_model.specs.BodyFits.{Purpose, RowFits}
use Rattle.language_model.specs.Functions.{runs}
use Rattle.language_model.specs.Outcomes.{Done}
use Rattle.language_model.specs.Statements.{Left}

-- a body that fits leaves each variable of its scope that isn't mutable as it was
abbrev pub ImmutableLaw : Type 0
ImmutableLaw = (functions : List Function) (purpose : Purpose) (l : Bool) (scope : Scope) (row : List Statement) (env : Env) (turns rest : ℕ) (left : Left)
    → RowFits purpose l scope row → length scope.vars ≤ length env.vars → runs functions row env turns ≡ Done left rest
    → (i : ℕ) (x : Variable) → slice_get scope.vars i ≡ Some x → x.mutable ≡ false → slice_get left.vars i ≡ slice_get env.vars i

-- so where none is mutable, it leaves all as they were
abbrev pub StateKeptLaw : Type 0
StateKeptLaw = (functions : List Function) (purpose : Purpose) (l : Bool) (scope : Scope) (row : List Statement) (env : Env) (turns rest : ℕ) (left : Left)
    → RowFits purpose l scope row → length scope.vars ≡ length env.vars
    → ((i : ℕ) (x : Variable) → slice_get scope.vars i ≡ Some x → x.mutable ≡ false)
    → runs functions row env turns ≡ Done left rest → left.vars ≡ env.vars
