use Rattle.network_model.proofs.ElementLists.{lists-done, lists-move}
use Rattle.network_model.proofs.element_law.Goals as goal

pub returns-clause-moves : goal.returns-clause-moves
returns-clause-moves c = lists-move

pub returns-clause-done : goal.returns-clause-done
returns-clause-done c = lists-done
