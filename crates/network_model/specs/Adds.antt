-- What an element owes more for one receipt more.
use Rattle.std.specs.Prelude.{List, [], ◌∷◌, ◌++◌, map, drop, length, if◌then◌else◌}
use Rattle.spl_value.specs.declared.item.Item.{Item}
use Rattle.spl_value.specs.Numbered.{merged}
use Rattle.language_model.specs.declared.outs.Output.{Output}
use Rattle.stream_model.specs.Stream.{any_closes}
use Rattle.stream_model.specs.Bodies.{output}
use Rattle.stream_model.specs.Stages.{start, gives_all, stage_after}
use Rattle.stream_model.specs.declared.outgoing.Outgoing.{Outgoing}
use Rattle.stream_model.specs.Sending.{outgoing, replies, stages_after}
use Rattle.network_model.specs.Packets.{items_in}
use Rattle.network_model.specs.Networks.{RegionPart, Part, FromSource, FromLinks, Splitter, Replica, Merger}
use Rattle.network_model.specs.Receipts.{Receipt, popped, read_in, item_events}
use Rattle.stream_model.specs.Chains.{passed, stages_passed}
use Rattle.network_model.specs.Owed.{send_all, region_splits}

-- what a merger has merged
abbrev pub merged_for : RegionPart → List Receipt → List Item
merged_for region receipts = merged region.rule region.width (λ c. popped c receipts)

-- what the last operator of a chain gives for one receipt more, from where its operators stand behind the others; and
-- the items that a merger merges more
abbrev pub gives_more : Part → List Receipt → Receipt → List Output
gives_more (FromSource source ops outs) receipts receipt =
    passed (stages_passed (map start ops) (map (output 0) (read_in receipts))) (map (output 0) (read_in (receipt ∷ [])))
gives_more (FromLinks op ops outs) receipts receipt =
    passed (stages_passed (map start ops) (gives_all (start op) (item_events receipts)))
    (gives_all (stage_after (start op) (item_events receipts)) (item_events (receipt ∷ [])))
gives_more (Splitter region) receipts receipt = []
gives_more (Replica region channel) receipts receipt = []
gives_more (Merger region outs) receipts receipt =
    map (output 0)
    (drop (length (merged_for region receipts)) (merged_for region (receipts ++ receipt ∷ [])))

-- a splitter sends nothing more behind the last item, and numbers those before it one after another
abbrev pub adds : Part → List Receipt → Receipt → List Outgoing
adds (FromSource source ops outs) receipts receipt =
    send_all outs (gives_more (FromSource source ops outs) receipts receipt)
adds (FromLinks op ops outs) receipts receipt = send_all outs (gives_more (FromLinks op ops outs) receipts receipt)
adds (Splitter region) receipts receipt =
    if any_closes (items_in (popped 0 receipts)) then []
    else region_splits region (length (items_in (popped 0 receipts))) (items_in (popped 0 (receipt ∷ [])))
adds (Replica region channel) receipts receipt =
    map (outgoing 0)
    (replies (stages_after (map start region.ops) (items_in (popped 0 receipts))) (popped 0 (receipt ∷ [])))
adds (Merger region outs) receipts receipt = send_all outs (gives_more (Merger region outs) receipts receipt)
