use Rattle.stream_model.proofs.OneAfterAnother.{one_after_another_law}
use Rattle.stream_model.proofs.UsedUp.{used_up_law}
use Rattle.stream_model.proofs.Records.{entries_law, items_law, next_item_law, nothing_left_law, whole_law}
use Rattle.stream_model.proofs.record_laws.records_law.Goals as goal

pub returns-clause-entries : goal.returns-clause-entries
returns-clause-entries c = entries_law

pub returns-clause-items : goal.returns-clause-items
returns-clause-items c = items_law

pub returns-clause-next_item : goal.returns-clause-next_item
returns-clause-next_item c = next_item_law

pub returns-clause-nothing_left : goal.returns-clause-nothing_left
returns-clause-nothing_left c = nothing_left_law

pub returns-clause-whole : goal.returns-clause-whole
returns-clause-whole c = whole_law

pub returns-clause-used_up : goal.returns-clause-used_up
returns-clause-used_up c = used_up_law

pub returns-clause-one_after_another : goal.returns-clause-one_after_another
returns-clause-one_after_another c = one_after_another_law
