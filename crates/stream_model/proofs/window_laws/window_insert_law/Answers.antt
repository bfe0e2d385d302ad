use Rattle.stream_model.proofs.Contents.{tumbling_count_insert, tumbling_delta_insert, tumbling_punct_insert, sliding_count_insert, sliding_delta_insert}
use Rattle.stream_model.proofs.window_laws.window_insert_law.Goals as goal

pub returns-clause-tumbling_count : goal.returns-clause-tumbling_count
returns-clause-tumbling_count c = tumbling_count_insert

pub returns-clause-tumbling_delta : goal.returns-clause-tumbling_delta
returns-clause-tumbling_delta c = tumbling_delta_insert

pub returns-clause-tumbling_punct : goal.returns-clause-tumbling_punct
returns-clause-tumbling_punct c = tumbling_punct_insert

pub returns-clause-sliding_count : goal.returns-clause-sliding_count
returns-clause-sliding_count c = sliding_count_insert

pub returns-clause-sliding_delta : goal.returns-clause-sliding_delta
returns-clause-sliding_delta c = sliding_delta_insert
