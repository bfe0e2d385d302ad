-- What the interval of a body says of its runs.
use Rattle.std.specs.Prelude.{◌≡◌, ◌≤◌, ⊤, ℕ, List, Option, None, Some, length}
use Rattle.spl_tree.specs.declared.body.Function.{Function}
use Rattle.spl_tree.specs.declared.body.Statement.{Statement}
use Rattle.language_model.specs.declared.env.Env.{Env}
use Rattle.language_model.specs.Functions.{runs}
use Rattle.language_model.specs.Outcomes.{Done}
use Rattle.language_model.specs.Statements.{Left}
use Rattle.stream_model.specs.Selectivity.{least_number}
use Rattle.stream_model.specs.parts.Selectivity.{greatest_number}

-- a number is at most that, where there is a greatest
abbrev pub IsUpTo : Option ℕ → ℕ → Type 0
IsUpTo (Some m) n = n ≤ m
IsUpTo None n = ⊤

-- a body that runs to its end submits a number of items within its bounds, whatever it runs with
abbrev pub IntervalLaw : Type 0
IntervalLaw = (functions : List Function) (row : List Statement) (env : Env) (turns rest : ℕ) (left : Left) → runs functions row env turns ≡ Done left rest
    → (least_number env.punct row ≤ length left.submits) × IsUpTo (greatest_number env.punct row) (length left.submits)
