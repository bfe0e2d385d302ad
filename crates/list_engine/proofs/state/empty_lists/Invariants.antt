use Rattle.std.proofs.Common.{◌≡◌, [], replicate}
use Rattle.list_engine.proofs.state.empty_lists.Given as goal

abbrev pub invariant-lists : goal.invariant-lists
invariant-lists l = l.lists ≡ replicate l.counter []
