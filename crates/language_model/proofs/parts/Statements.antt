-- Words for parts of the rules of statements: which variables stay, and what a body leaves.
use Rattle.std.specs.Prelude.{ℕ, length, take}
use Rattle.language_model.specs.declared.flow.Flow.{Flow}
use Rattle.language_model.specs.Outcomes.{Outcome, Done, need}
use Rattle.language_model.specs.Statements.{State, with_vars, Left, returned_by}

-- the variables that were declared after a state end, and those that it had stay
abbrev pub ended : State → State → State
ended before s = with_vars s (take (length before.env.vars) s.env.vars)

abbrev pub left_by : Flow × State → ℕ → Outcome Left
left_by w turns = need (returned_by w.0) (λ v. Done (record { vars = w.1.env.vars; submits = w.1.submits; returned = v }) turns)
