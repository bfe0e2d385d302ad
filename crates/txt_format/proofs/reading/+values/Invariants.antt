use Rattle.std.proofs.Common.{◌≡◌, ◌≤◌, ◌-◌, drop, length, false, []}
use Rattle.std.specs.Prelude.{IsTrue}
use Rattle.spl_value.specs.Pairs.{are_pairs}
use Rattle.txt_format.specs.steps.Reading.{push, put, read_fields, read_items, read_opened, read_pair_of, read_value}
use Rattle.txt_format.proofs.reading.+values.Given as goal

abbrev pub invariant-add_elements-elements : goal.invariant-add_elements-elements
invariant-add_elements-elements l = record {
  within : l.at ≤ length l.line;
  read : read_items (read_value l.element) push 93 (length l.line - l._count) l.elements (drop l.at l.line)
      ≡ read_opened (read_value l.element) push 93 l.fn.elements (drop l.start l.line);
}

abbrev pub invariant-add_pairs-pairs : goal.invariant-add_pairs-pairs
invariant-add_pairs-pairs l = record {
  within : l.at ≤ length l.line;
  empty : l.pair ≡ [];
  sorted : IsTrue (are_pairs l.pairs);
  read : read_items (read_pair_of l.kind) put 125 (length l.line - l._count) l.pairs (drop l.at l.line)
      ≡ read_opened (read_pair_of l.kind) put 125 l.fn.pairs (drop l.start l.line);
}

abbrev pub invariant-add_fields-fields : goal.invariant-add_fields-fields
invariant-add_fields-fields l = record {
  within : l.at ≤ length l.line;
  read : read_fields read_value l.later (drop l.attribute-index l.schema) l.values (drop l.at l.line)
      ≡ read_fields read_value false l.schema l.fn.values (drop l.start l.line);
}
