use Rattle.std.proofs.Common.{◌≡◌, ◌+◌, ◌<◌, ◌≤◌, ◌^◌, ℕ, List, [], length, take, Some}
use Rattle.std.specs.Prelude.{IfSome}
use Rattle.std.specs.List.{All}
use Rattle.std.specs.Vec.{vec_capacity}
use Rattle.feed_pour.specs.Contents.{WhereTold}
use Rattle.file_adapters.specs.steps.Steps.{SinksEmptied}
use Rattle.file_adapters.proofs.sinks.create_each.Given as goal

abbrev pub invariant-loop-sink : goal.invariant-loop-sink
invariant-loop-sink g l = record {
  count : length l.pours.items ≡ l.sink-index;
  told : WhereTold ((g.H.Shelf).told l.initial.shelf) ((g.H.Shelf).told l.shelf) (SinksEmptied l.sink-index l.sinks);
  poured : IfSome ((g.H.Shelf).told l.initial.shelf) (λ t. All (λ p. (g.H.Writer.Pour).poured p ≡ Some []) l.pours.items);
  created : All (λ s. (g.H.Shelf).created l.shelf s.file) (take l.sink-index l.sinks);
  counts : (n : List ℕ) → (g.H.Shelf).counts l.shelf n ≡ (g.H.Shelf).counts l.initial.shelf n;
  lent : (g.H.Shelf).lent l.initial.shelf + length l.sinks < 2 ^ 64 → (g.H.Shelf).lent l.shelf ≡ (g.H.Shelf).lent l.initial.shelf + l.sink-index;
  room : length l.sinks ≤ vec_capacity l.pours;
}
