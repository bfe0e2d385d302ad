use Rattle.std.proofs.Common.{◌≡◌, ◌++◌, ◌∷◌, [], drop, map, false}
use Rattle.txt_format.specs.TxtText.{attribute_texts, pair_text, value_text}
use Rattle.txt_format.specs.steps.Writing.{pieces_from}
use Rattle.txt_format.proofs.writing.+values.Given as goal

abbrev pub invariant-add_attributes-values : goal.invariant-add_attributes-values
invariant-add_attributes-values l =
    l.text.items ++ pieces_from l.later (attribute_texts value_text l.rest (drop l.value-index l.values))
    ≡ (l.fn.text.items ++ 123 ∷ []) ++ pieces_from false (attribute_texts value_text l.schema l.values)

abbrev pub invariant-add_elements-elements : goal.invariant-add_elements-elements
invariant-add_elements-elements l =
    l.text.items ++ pieces_from l.later (map (value_text l.element) (drop l.value-index l.values))
    ≡ (l.fn.text.items ++ 91 ∷ []) ++ pieces_from false (map (value_text l.element) l.values)

abbrev pub invariant-add_pairs-pairs : goal.invariant-add_pairs-pairs
invariant-add_pairs-pairs l = record {
  text : l.text.items ++ pieces_from l.later (map (pair_text (value_text l.key) (value_text l.kind)) l.pair-iterator)
      ≡ (l.fn.text.items ++ 123 ∷ []) ++ pieces_from false (map (pair_text (value_text l.key) (value_text l.kind)) l.pairs);
  left : map (λ p. p.now) l.yielded ++ l.pair-iterator ≡ l.pairs;
}
