use Rattle.std.proofs.Common.{◌≡◌, ◌+◌, ◌<◌, ◌∙◌, ◌^◌, ℕ, sym, length, arith, subst, List}
use Rattle.std.specs.List.{All}
use Rattle.std.proofs.lemmas.List.{length-set, length_push}
use Rattle.std.proofs.lemmas.List.Elements.{All-push}
use Rattle.file_adapters.proofs.Writing.{all_counted, counted_more, each_poured, poured_more, same_more, some_poured, text_at}
use Rattle.file_adapters.proofs.sinks.write_each.Goals as goal

pub returns-in-Err-clause-poured : goal.returns-in-Err-clause-poured
returns-in-Err-clause-poured g c =
    let before = c.sinks.invariant in
    let within : c.sinks.at < length c.args.sinks.now = omega arith in
    some_poured (List ℕ) (g.P.Pour).poured (g.P.Pour).faults c.sinks.at c.index-pours-at.result c.write_stream.new.pour c.in-Err.e c.in-Err.e c.stream_of.result.now c.args.pours.now c.sinks.pours c.args.sinks.now c.args.streams.now
    (omega arith) c.index-pours-at.is (text_at c.args.streams.now c.args.sinks.now c.sinks.at c.index-sinks-at.result c.stream_of.result.now within c.index-sinks-at.is c.stream_of.ensures)
    before.poured before.rest (rw (sym c.index-pours-at.is) at c.in-Err.ensures.poured)

pub sinks-preserved : goal.sinks-preserved
sinks-preserved g c =
    let before = c.sinks.invariant in
    let within : c.sinks.at < length c.args.sinks.now = omega arith in
    let more = length_push c.sinks.counts.items c.in-Ok-write_stream.tuples in
    let size : length c.add.new.items.items ≡ length c.sinks.counts.items + 1 = rw c.add.ensures.items more in
    record {
      poured = poured_more (g.P.Pour).poured (g.P.Pour).faults c.sinks.at c.index-pours-at.result c.write_stream.new.pour c.in-Ok-write_stream.tuples c.stream_of.result.now c.args.pours.now c.sinks.pours
          c.args.sinks.now c.args.streams.now (omega arith) c.index-pours-at.is
          (text_at c.args.streams.now c.args.sinks.now c.sinks.at c.index-sinks-at.result c.stream_of.result.now within c.index-sinks-at.is c.stream_of.ensures)
          before.poured before.rest (rw (sym c.index-pours-at.is) at c.in-Ok-write_stream.ensures.poured);
      rest = same_more c.sinks.at c.write_stream.new.pour c.args.pours.now c.sinks.pours before.rest;
      size = length-set c.sinks.pours c.sinks.at c.write_stream.new.pour ∙ before.size;
      rows = counted_more (g.P.Pour).faults c.sinks.at c.write_stream.new.pour c.sinks.pours c.args.streams.now c.args.sinks.now c.index-sinks-at.result c.stream_of.result.now c.in-Ok-write_stream.tuples
          c.sinks.counts.items c.add.new.items.items (omega arith) within c.index-sinks-at.is c.stream_of.ensures c.in-Ok-write_stream.ensures.count before.rows c.add.ensures.items;
      small = subst (All (λ (n : ℕ). n < 2 ^ 64)) (sym c.add.ensures.items) (All-push (λ (n : ℕ). n < 2 ^ 64) c.sinks.counts.items c.in-Ok-write_stream.tuples before.small c.in-Ok-write_stream.ensures.small);
      kept = omega (arith, size, before.kept);
      room = omega (arith, before.room, c.add.ensures.room);
    }

pub returns-clause-poured : goal.returns-clause-poured
returns-clause-poured g c =
    each_poured (g.P.Pour).poured (g.P.Pour).faults c.from_vec.result c.sinks.at c.args.pours.now c.sinks.pours c.args.sinks.now c.args.streams.now (omega arith) c.sinks.invariant.poured

pub returns-clause-count : goal.returns-clause-count
returns-clause-count g c =
    rw c.from_vec.ensures (all_counted (g.P.Pour).faults c.sinks.at c.sinks.pours c.sinks.counts.items c.args.sinks.now c.args.streams.now (omega arith) (omega arith) c.sinks.invariant.rows)
