use Rattle.std.proofs.Common.{ap, drop, map, ◌∙◌}
use Rattle.spl_value.proofs.Lists.{drop_past}
use Rattle.txt_format.specs.TxtText.{attribute_texts, pair_text, value_text}
use Rattle.txt_format.proofs.Pieces.{no_attributes, no_more, pieces_end}
use Rattle.txt_format.proofs.writing.+values.Goals as goal
use Rattle.txt_format.proofs.writing.+values.Goals.{add_attributes-else-values-test, add_attributes-then-values-test+in_default}

pub add_elements-returns : goal.add_elements-returns
add_elements-returns t c =
    let f = value_text c.args.element.now in
    let vs = c.args.values.now in
    pieces_end c.elements.later c.args.text.now.items c.elements.text.items c.push-2.new.self.items (map f vs) (map f (drop c.elements.value-index vs)) 91 93
    (ap (map f) (drop_past vs c.elements.value-index c.elements-test.false)) c.elements.invariant c.in_ok-push-2.ensures.items

pub add_pairs-returns : goal.add_pairs-returns
add_pairs-returns t c =
    let f = pair_text (value_text c.args.key.now) (value_text c.args.kind.now) in
    let none = c.in-None.ensures.steps in
    pieces_end c.pairs.later c.args.text.now.items c.pairs.text.items c.push-2.new.self.items (map f c.args.pairs.now) (map f c.pairs.pair-iterator) 123 125
    (ap (map f) none.0) c.pairs.invariant.text c.in_ok-push-3.ensures.items

pub add_attributes-returns : goal.add_attributes-returns
add_attributes-returns t c =
    let vs = c.args.values.now in
    let i = c.values.value-index in
    pieces_end c.values.later c.args.text.now.items c.values.text.items c.push-2.new.self.items (attribute_texts value_text c.args.schema.now vs)
    (attribute_texts value_text c.values.rest.now (drop i vs)) 123 125
    (elim c.values-test.branch [
      | add_attributes-else-values-test w ↦ ap (attribute_texts value_text c.values.rest.now) (drop_past vs i w.values-test.false) ∙ no_attributes value_text c.values.rest.now
      | add_attributes-then-values-test+in_default w ↦ no_more value_text c.values.rest.now (drop i vs) w.in_default.len_below
    ]) c.values.invariant c.in_ok-push-3.ensures.items
