use Rattle.std.proofs.Common.{◌≡◌, ◌<◌, ◌≤◌, ◌^◌, length}
use Rattle.std.specs.List.{All}
use Rattle.std.specs.Vec.{vec_capacity}
use Rattle.file_adapters.proofs.Writing.{CountedBefore, PouredBefore, SameFrom}
use Rattle.file_adapters.proofs.sinks.write_each.Given as goal

abbrev pub invariant-sinks : goal.invariant-sinks
invariant-sinks g l = record {
  poured : PouredBefore (g.P.Pour).poured (g.P.Pour).faults l.at l.initial.pours l.pours l.sinks l.streams;
  rest : SameFrom l.at l.initial.pours l.pours;
  size : length l.pours ≡ length l.initial.pours;
  rows : CountedBefore (g.P.Pour).faults l.at l.pours l.counts.items l.sinks l.streams;
  small : All (λ n. n < 2 ^ 64) l.counts.items;
  kept : length l.counts.items ≡ l.at;
  room : length l.initial.pours ≤ vec_capacity l.counts;
}
