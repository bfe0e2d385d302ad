use Rattle.std.specs.Prelude.{IfOk, Some, length}
use Rattle.std.proofs.Common.{subst, sym, ap, ◌∙◌, drop, ◌≡◌}
use Rattle.txt_format.specs.steps.Bytes.{IsRead}
use Rattle.txt_format.specs.steps.Reading.{as_other, push, put, read_pair_of, read_value}
use Rattle.txt_format.proofs.Steps.{added_close, added_more, map_read, pair_read}
use Rattle.txt_format.proofs.reading.+values.Goals as goal

pub add_elements-elements-preserved : goal.add_elements-elements-preserved
add_elements-elements-preserved t c =
    let line = c.args.line.now in
    let read = rw c.in-Some-2.is at c.in_ok-end.ensures in
    record {
      within = c.in-Comma.ensures.0;
      read = added_more (read_value c.args.element.now) push 93 (length line) c.elements._count c.elements-test.true c.elements.elements c.add_value.new.values
          (drop c.elements.at line) (drop c.in-Some-2.end line) (drop c.in-Comma.next line) read.1 c.in-Comma.ensures.1
          ∙ c.elements.invariant.read;
    }

pub add_pairs-put_pair-requires-clause-two : goal.add_pairs-put_pair-requires-clause-two
add_pairs-put_pair-requires-clause-two t c =
    let line = c.args.line.now in
    let read = rw c.in-Some-2.is at c.in_ok-end.ensures in
    let was = pair_read (read_pair_of c.args.kind.now (drop c.pairs.at line)) c.pairs.pair c.add_pair.new.pair (drop c.in-Some-2.end line) c.pairs.invariant.empty read.1 in
    (was.0, was.2)

pub add_pairs-returns-in-Close : goal.add_pairs-returns-in-Close
add_pairs-returns-in-Close t c =
    let line = c.args.line.now in
    let read = rw c.in-Some-2.is at c.in_ok-end.ensures in
    let was = pair_read (read_pair_of c.args.kind.now (drop c.pairs.at line)) c.pairs.pair c.add_pair.new.pair (drop c.in-Some-2.end line) c.pairs.invariant.empty read.1 in
    let now : put c.pairs.pairs was.0 ≡ c.put_pair.new.pairs = sym (c.in_ok-put_pair.ensures.put.1 was.0 was.2) in (
      c.in-Close.ensures.0,
      sym c.pairs.invariant.read
          ∙ added_close (read_pair_of c.args.kind.now) put 125 (length line) c.pairs._count c.pairs-test.true c.pairs.pairs c.put_pair.new.pairs
          (drop c.pairs.at line) (drop c.in-Some-2.end line) (drop c.in-Close.end line) (ap (as_other (put c.pairs.pairs)) was.1 ∙ ap (λ ps. Some (ps, drop c.in-Some-2.end line)) now) c.in-Close.ensures.1,
    )

pub add_pairs-pairs-preserved : goal.add_pairs-pairs-preserved
add_pairs-pairs-preserved t c =
    let line = c.args.line.now in
    let read = rw c.in-Some-2.is at c.in_ok-end.ensures in
    let was = pair_read (read_pair_of c.args.kind.now (drop c.pairs.at line)) c.pairs.pair c.add_pair.new.pair (drop c.in-Some-2.end line) c.pairs.invariant.empty read.1 in
    let now : put c.pairs.pairs was.0 ≡ c.put_pair.new.pairs = sym (c.in_ok-put_pair.ensures.put.1 was.0 was.2) in
    record {
      within = c.in-Comma.ensures.0;
      empty = c.in_ok-put_pair.ensures.put.0;
      sorted = c.put_pair.ensures.sorted;
      read = added_more (read_pair_of c.args.kind.now) put 125 (length line) c.pairs._count c.pairs-test.true c.pairs.pairs c.put_pair.new.pairs
          (drop c.pairs.at line) (drop c.in-Some-2.end line) (drop c.in-Comma.next line) (ap (as_other (put c.pairs.pairs)) was.1 ∙ ap (λ ps. Some (ps, drop c.in-Some-2.end line)) now) c.in-Comma.ensures.1
          ∙ c.pairs.invariant.read;
    }

pub add_value-returns-in-Map : goal.add_value-returns-in-Map
add_value-returns-in-Map t c =
    subst (λ r. IfOk c.add_map.result (IsRead (as_other (push c.args.values.now) r) c.args.line.now c.add_map.new.values))
    (map_read c.args.kind.now c.in-Map.field-0 c.in-Map.field-1 (drop c.args.at c.args.line.now) c.in-Map.is) c.add_map.ensures
