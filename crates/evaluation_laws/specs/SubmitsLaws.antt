-- What statements make of the submits before them.
use Rattle.std.specs.Prelude.{◌≡◌, ℕ, List, ◌++◌}
use Rattle.spl_tree.specs.declared.body.Statement.{Statement}
use Rattle.language_model.specs.declared.outs.Output.{Output}
use Rattle.language_model.specs.Outcomes.{Done, followed}
use Rattle.language_model.specs.Statements.{State, Bodies}
use Rattle.language_model.specs.parts.Statements.{row_acts}

-- with others in front of its own submits
abbrev pub in_front : List Output → State → State
in_front others s = record { env = s.env; submits = others ++ s.submits }

-- what a row does doesn't depend on the submits before it, and its own come after them
abbrev pub SubmitsLaw : Type 0
SubmitsLaw = (bodies : Bodies) (row : List Statement) (others : List Output) (s : State) (turns : ℕ)
    → row_acts bodies row (in_front others s) turns ≡ followed (row_acts bodies row s turns) (λ w turns. Done (w.0, in_front others w.1) turns)
