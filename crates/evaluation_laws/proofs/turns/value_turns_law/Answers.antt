use Rattle.evaluation_laws.proofs.TakenTurns.{value_turns_left, value_turns_taken, value_want_of_turns, value_fewer_turns, value_stuck}
use Rattle.evaluation_laws.proofs.turns.value_turns_law.Goals as goal

pub returns : goal.returns
returns g c = record { left = value_turns_left; taken = value_turns_taken; want = value_want_of_turns; fewer = value_fewer_turns; stuck = value_stuck }
