use Rattle.evaluation_laws.proofs.KeptInputs.{keeps_law}
use Rattle.evaluation_laws.proofs.MoreTurns.{runs_turns, runs_faults}
use Rattle.evaluation_laws.proofs.OtherVariables.{variables_law, unchanged_law}
use Rattle.evaluation_laws.proofs.SameInputs.{inputs_law}
use Rattle.evaluation_laws.proofs.SubmitsBefore.{submits_law}
use Rattle.evaluation_laws.proofs.evaluation.statements_law.Goals as goal

pub returns : goal.returns
returns c = record {
  submits = submits_law;
  runs = runs_turns;
  faults = runs_faults;
  variables = variables_law;
  unchanged = unchanged_law;
  inputs = inputs_law;
  keeps = keeps_law;
}
