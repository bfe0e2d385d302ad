-- What the classes of operators say of what they give.
use Rattle.std.specs.Prelude.{◌≡◌, ℕ, [], ◌∷◌}
use Rattle.stream_model.specs.Fitting.{IsFitting}
use Rattle.stream_model.specs.Operators.{Operator}
use Rattle.stream_model.specs.Regions.{Causes}
use Rattle.stream_model.specs.Selectivity.{gives}

-- after every history, an event of an operator with one connection and one output port, whose clauses fit, causes as many items as its class says
abbrev pub ClassLaw : Type 0
ClassLaw = (op : Operator) (s t : ℕ) → IsFitting op → op.ins ≡ (s ∷ []) ∷ [] → op.outs ≡ t ∷ [] → Causes (gives op.clauses) op
