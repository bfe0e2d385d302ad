use Rattle.evaluation_laws.proofs.TakenTurns.{runs_turns_left, runs_turns_taken, runs_want_of_turns, runs_fewer_turns, runs_stuck}
use Rattle.evaluation_laws.proofs.turns.runs_turns_law.Goals as goal

pub returns : goal.returns
returns c = record { left = runs_turns_left; taken = runs_turns_taken; want = runs_want_of_turns; fewer = runs_fewer_turns; stuck = runs_stuck }
