-- What pairs give.
use Rattle.std.specs.Prelude.{◌≡◌, ℕ, List, [], Option, None, Some, Result, Ok, Err}
use Rattle.spl_value.specs.declared.item.Item.TheVariants as I
use Rattle.spl_value.specs.declared.value.Value.{Value}
use Rattle.language_model.specs.declared.outs.Output.{Output}
use Rattle.language_model.specs.Outcomes.{Done}
use Rattle.value_operations.specs.declared.stop.Stop.{Stop}
use Rattle.value_operations.specs.Answers.{StopsAs}
use Rattle.stream_model.specs.Bodies.{Makes, on_first}

-- a tuple on the first output port, or nothing
abbrev pub given : Option (List Value) → List Output
given None = []
given (Some vs) = on_first (I.Tuple vs)

-- a tuple or none is what the outcome gives, with the turns that it leaves
abbrev pub MakesWhere : Makes → Result (Option (List Value)) Stop → ℕ → Type 0
MakesWhere outcome (Ok made) turns = outcome ≡ Done (given made) turns
MakesWhere outcome (Err stop) turns = StopsAs outcome stop

-- the outcome gives these, whatever turns are left
abbrev pub GivesAs : Makes → Result (List Output) Stop → Type 0
GivesAs outcome (Ok outs) = (turns : ℕ) × (outcome ≡ Done outs turns)
GivesAs outcome (Err stop) = StopsAs outcome stop
