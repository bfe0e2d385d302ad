use Rattle.region_laws.proofs.Classes.{class_one, first_port, merge_one}
use Rattle.region_laws.proofs.OneItem.{one_law, rise_law, turn_law}
use Rattle.region_laws.proofs.laws.one_item_law.Goals as goal

pub returns : goal.returns
returns c = record { each = one_law; turns = turn_law; rises = rise_law; first = first_port; class = class_one; regions = merge_one }
