use Rattle.stream_model.proofs.Histories.{start_law, history_law, end_law, live_law}
use Rattle.stream_model.proofs.Closings.{end_item_law, end_gives_law}
use Rattle.stream_model.proofs.Waiting.{wait_law, ports_law}
use Rattle.stream_model.proofs.laws.history_law.Goals as goal

pub returns-clause-start : goal.returns-clause-start
returns-clause-start c = start_law

pub returns-clause-history : goal.returns-clause-history
returns-clause-history c = history_law

pub returns-clause-ends : goal.returns-clause-ends
returns-clause-ends c = end_law

pub returns-clause-live : goal.returns-clause-live
returns-clause-live c = live_law

pub returns-clause-by : goal.returns-clause-by
returns-clause-by c = end_item_law

pub returns-clause-last : goal.returns-clause-last
returns-clause-last c = end_gives_law

pub returns-clause-waits : goal.returns-clause-waits
returns-clause-waits c = wait_law

pub returns-clause-inputs : goal.returns-clause-inputs
returns-clause-inputs c = ports_law
