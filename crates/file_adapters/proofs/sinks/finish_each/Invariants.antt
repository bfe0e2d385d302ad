use Rattle.std.proofs.Common.{◌≡◌, ◌+◌, ◌≤◌, length, take, drop}
use Rattle.std.specs.List.{All}
use Rattle.std.specs.Vec.Iter.{into_iter_items, into_iter_len}
use Rattle.feed_pour.specs.Contents.{KeepsNames, WhereTold}
use Rattle.file_adapters.specs.steps.Steps.{EachFinished, FinishCounted}
use Rattle.file_adapters.proofs.Finishing.{IsBefore, NoFaults}
use Rattle.file_adapters.proofs.sinks.finish_each.Given as goal

abbrev pub invariant-pours : goal.invariant-pours
invariant-pours g l = record {
  rest : into_iter_items l.pour-iterator ≡ drop l.at l.fn.pours.items;
  len : into_iter_len l.pour-iterator ≡ length (into_iter_items l.pour-iterator);
  some : l.at ≤ length l.fn.pours.items;
  place : IsBefore l.first l.at;
  told : WhereTold ((g.H.Shelf).told l.initial.shelf) ((g.H.Shelf).told l.shelf)
      (EachFinished (g.H.Writer.Pour).poured (g.H.Writer.Pour).faults l.first l.at l.fn.pours.items l.sinks ((g.H.Shelf).counts l.initial.shelf) ((g.H.Shelf).counts l.shelf));
  created : All (λ s. (g.H.Shelf).created l.shelf s.file) (take (length l.fn.pours.items) l.sinks);
  keeps : KeepsNames ((g.H.Shelf).created l.initial.shelf) ((g.H.Shelf).created l.shelf);
  counts : FinishCounted l.first l.at l.sinks ((g.H.Shelf).counts l.initial.shelf) ((g.H.Shelf).counts l.shelf);
  faults : NoFaults l.first (g.H.Writer.Pour).faults (take l.at l.fn.pours.items);
  lent : length l.fn.pours.items ≤ (g.H.Shelf).lent l.initial.shelf → (g.H.Shelf).lent l.initial.shelf ≡ (g.H.Shelf).lent l.shelf + l.at;
}
