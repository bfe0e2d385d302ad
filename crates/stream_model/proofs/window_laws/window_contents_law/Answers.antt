use Rattle.stream_model.proofs.Contents.{tumbling_count_law, sliding_count_law, tumbling_delta_law, sliding_delta_law}
use Rattle.stream_model.proofs.window_laws.window_contents_law.Goals as goal

pub returns-clause-tumbling_count : goal.returns-clause-tumbling_count
returns-clause-tumbling_count c = tumbling_count_law

pub returns-clause-sliding_count : goal.returns-clause-sliding_count
returns-clause-sliding_count c = sliding_count_law

pub returns-clause-tumbling_delta : goal.returns-clause-tumbling_delta
returns-clause-tumbling_delta c = tumbling_delta_law

pub returns-clause-sliding_delta : goal.returns-clause-sliding_delta
returns-clause-sliding_delta c = sliding_delta_law
