use Rattle.std.proofs.Common.{◌≡◌, drop}
use Rattle.stream_model.specs.Ends.{stream_fault}
use Rattle.list_engine.proofs.ends.fault_in.Given as goal

abbrev pub invariant-loop-item : goal.invariant-loop-item
invariant-loop-item l = stream_fault (drop l.item-index l.items) ≡ stream_fault l.items
