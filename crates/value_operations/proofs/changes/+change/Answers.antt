use Rattle.std.proofs.Common.{arith, length, refl, subst, sym, ap, ◌∙◌, ◌<◌, ◌∷◌}
use Rattle.std.specs.Prelude.{List, Some, None, slice_set}
use Rattle.spl_value.specs.declared.item.FaultKind.TheVariants as F
use Rattle.spl_value.specs.declared.value.Value.{Value}
use Rattle.spl_value.specs.declared.value.Value.TheVariants as V
use Rattle.spl_tree.specs.declared.code.Selector.TheVariants as K
use Rattle.language_model.specs.Changes.{changed, change_of, level_changed}
use Rattle.value_operations.specs.Changing.{CanChange, Changes}
use Rattle.value_operations.specs.steps.Places.{IsPlaceIn}
use Rattle.value_operations.proofs.Parts.{not_tuple, member_within, not_list, not_map, keys_rise}
use Rattle.value_operations.proofs.PlaceSteps.{rest_of, first_and_rest, tuple_has_member, member_can_change, list_has_elements, element_can_change, map_has_keys, value_can_change}
use Rattle.value_operations.proofs.Changed.{element_changes, element_missing, member_changes, not_changed, value_changes, value_added, value_missing}
use Rattle.value_operations.proofs.changes.+change.Goals as goal

pub change_at-change_member-requires : goal.change_at-change_member-requires
change_at-change_member-requires t c =
    let is = first_and_rest c.args.steps.now c.step-item.result (K.Member c.in-Member.place) c.in-len1-up.len_at_least c.step-item.is c.in-Member.is in (
      omega (arith, c.in-Some.ensures.0, c.in-Some.ensures.1),
      subst (λ steps. CanChange steps c.args.change c.args.value.now) is c.requires,
    )

pub change_at-returns-in-Member : goal.change_at-returns-in-Member
change_at-returns-in-Member t c =
    let is = first_and_rest c.args.steps.now c.step-item.result (K.Member c.in-Member.place) c.in-len1-up.len_at_least c.step-item.is c.in-Member.is in
    subst (λ l. Changes (changed l (change_of c.args.change) (Some c.args.value.now)) c.change_member.result c.change_member.new.tuple) (sym is) c.change_member.ensures

pub change_at-change_element-requires : goal.change_at-change_element-requires
change_at-change_element-requires t c =
    let is = first_and_rest c.args.steps.now c.step-item.result (K.Element c.in-Element.index) c.in-len1-up.len_at_least c.step-item.is c.in-Element.is in (
      omega (arith, c.in-Some.ensures.0, c.in-Some.ensures.1),
      subst (λ steps. CanChange steps c.args.change c.args.value.now) is c.requires,
    )

pub change_at-returns-in-Element : goal.change_at-returns-in-Element
change_at-returns-in-Element t c =
    let is = first_and_rest c.args.steps.now c.step-item.result (K.Element c.in-Element.index) c.in-len1-up.len_at_least c.step-item.is c.in-Element.is in
    subst (λ l. Changes (changed l (change_of c.args.change) (Some c.args.value.now)) c.change_element.result c.change_element.new.list) (sym is) c.change_element.ensures

pub change_at-unreachable-requires : goal.change_at-unreachable-requires
change_at-unreachable-requires t c =
    let is = first_and_rest c.args.steps.now c.step-item.result (K.AtKey c.in-AtKey.key) c.in-len1-up.len_at_least c.step-item.is c.in-AtKey.is in
    not_map c.args.value.now c.in-AtKey.key (map_has_keys c.args.steps.now c.args.change c.args.value.now c.requires (rest_of c.args.steps.now) c.in-AtKey.key is) c.in_default-value.not-Map

pub change_at-returns-in-Map : goal.change_at-returns-in-Map
change_at-returns-in-Map t c =
    let is = first_and_rest c.args.steps.now c.step-item.result (K.AtKey c.in-AtKey.key) c.in-len1-up.len_at_least c.step-item.is c.in-AtKey.is in
    rw (c.in-Map.is, V.outs-Map)
    (subst (λ l. Changes (changed l (change_of c.args.change) (Some (V.Map c.in-Map.pairs))) c.change_at_key.result (V.Map c.change_at_key.new.pairs)) (sym is)
    (subst (λ (ps : List (Value × Value)). Changes (changed (K.AtKey c.in-AtKey.key ∷ rest_of c.args.steps.now) (change_of c.args.change) (Some (V.Map ps))) c.change_at_key.result (V.Map c.change_at_key.new.pairs))
    c.in-Map.pairs-is c.change_at_key.ensures))

-- ---- a member is changed

pub change_member-unreachable-requires : goal.change_member-unreachable-requires
change_member-unreachable-requires t c =
    not_tuple c.args.place c.args.tuple.now (tuple_has_member (K.Member c.args.place ∷ c.args.steps.now) c.args.change c.args.tuple.now c.requires c.args.steps.now c.args.place refl) c.in_default.not-Tuple

pub change_member-item_mut-requires : goal.change_member-item_mut-requires
change_member-item_mut-requires t c =
    subst (λ (vs : List Value). c.args.place < length vs) (sym c.in-Tuple.values-is)
    (member_within c.args.place c.args.tuple.now c.in-Tuple.values (tuple_has_member (K.Member c.args.place ∷ c.args.steps.now) c.args.change c.args.tuple.now c.requires c.args.steps.now c.args.place refl) c.in-Tuple.is)

pub change_member-change_at-requires : goal.change_member-change_at-requires
change_member-change_at-requires t c = (
  omega arith,
  member_can_change (K.Member c.args.place ∷ c.args.steps.now) c.args.change c.args.tuple.now c.requires c.args.steps.now c.args.place refl c.in-Tuple.values c.item_mut.result.now c.in-Tuple.is (rw c.in-Tuple.values-is at c.item_mut.ensures.item),
)

pub change_member-returns : goal.change_member-returns
change_member-returns t c =
    rw (c.in-Tuple.is, V.outs-Tuple)
    (subst (λ o. Changes (level_changed (K.Member c.args.place) (changed c.args.steps.now (change_of c.args.change)) o) c.change_at.result (V.Tuple (slice_set c.in-Tuple.values c.args.place c.change_at.new.value))) (V.outs-Tuple c.in-Tuple.values)
    (member_changes (change_of c.args.change) (K.Member c.args.place ∷ c.args.steps.now) c.args.steps.now c.args.place c.in-Tuple.values c.item_mut.result.now c.change_at.new.value refl
    (rw c.in-Tuple.values-is at c.item_mut.ensures.item) c.change_at.result c.change_at.ensures))

-- ---- an element is changed

pub change_element-unreachable-requires : goal.change_element-unreachable-requires
change_element-unreachable-requires t c =
    not_list c.args.list.now c.args.index.now (list_has_elements (K.Element c.args.index.now ∷ c.args.steps.now) c.args.change c.args.list.now c.requires c.args.steps.now c.args.index.now refl) c.in_default.not-List

pub change_element-item_mut-requires : goal.change_element-item_mut-requires
change_element-item_mut-requires t c =
    subst (λ n. c.in-Some.at < n) c.len.ensures c.in-Some.ensures.1

pub change_element-change_at-requires : goal.change_element-change_at-requires
change_element-change_at-requires t c = (
  omega arith,
  element_can_change (K.Element c.args.index.now ∷ c.args.steps.now) c.args.change c.args.list.now c.requires c.args.steps.now c.args.index.now refl c.in-List.values c.in-Some.at c.item_mut.result.now c.in-List.is
      (rw c.in-List.values-is at c.item_mut.ensures.item),
)

pub change_element-returns-in-Some : goal.change_element-returns-in-Some
change_element-returns-in-Some t c =
    rw (c.in-List.is, V.outs-List)
    (subst (λ o. Changes (level_changed (K.Element c.args.index.now) (changed c.args.steps.now (change_of c.args.change)) o) c.change_at.result (V.List (slice_set c.in-List.values c.in-Some.at c.change_at.new.value))) (V.outs-List c.in-List.values)
    (element_changes (change_of c.args.change) (K.Element c.args.index.now ∷ c.args.steps.now) c.args.steps.now c.args.index.now c.in-List.values c.in-Some.at c.item_mut.result.now
    c.change_at.new.value refl
    (subst (λ n. IsPlaceIn n c.args.index.now (Some c.in-Some.at)) (c.len.ensures ∙ ap length c.in-List.values-is) c.in-Some.ensures)
    (rw c.in-List.values-is at c.item_mut.ensures.item) c.change_at.result c.change_at.ensures))

pub change_element-returns-in-None : goal.change_element-returns-in-None
change_element-returns-in-None t c =
    not_changed (changed (K.Element c.args.index.now ∷ c.args.steps.now) (change_of c.args.change) (Some c.args.list.now)) c.refused.result _ F.Index c.refused.ensures
    (ap (λ v. changed (K.Element c.args.index.now ∷ c.args.steps.now) (change_of c.args.change) (Some v)) c.in-List.is
    ∙ element_missing (change_of c.args.change) (K.Element c.args.index.now ∷ c.args.steps.now) c.args.steps.now c.args.index.now c.in-List.values refl
    (subst (λ n. IsPlaceIn n c.args.index.now None) (c.len.ensures ∙ ap length c.in-List.values-is) c.in-None.ensures))

-- ---- what stands at a key is changed

pub change_at_key-find_mut-requires : goal.change_at_key-find_mut-requires
change_at_key-find_mut-requires t c =
    keys_rise (V.Map c.args.pairs.now) c.args.key.now c.args.pairs.now (map_has_keys (K.AtKey c.args.key.now ∷ c.args.steps.now) c.args.change (V.Map c.args.pairs.now) c.requires c.args.steps.now c.args.key.now refl) refl

pub change_at_key-change_at-requires : goal.change_at_key-change_at-requires
change_at_key-change_at-requires t c = (
  omega arith,
  value_can_change (K.AtKey c.args.key.now ∷ c.args.steps.now) c.args.change (V.Map c.args.pairs.now) c.requires c.args.steps.now c.args.key.now refl c.args.pairs.now c.in-Some.value.now refl
      (sym c.in-Some.ensures.value),
)

pub change_at_key-returns-in-Some : goal.change_at_key-returns-in-Some
change_at_key-returns-in-Some t c =
    value_changes (change_of c.args.change) c.args.steps.now c.args.key.now c.args.pairs.now c.in-Some.value.now c.change_at.new.value (sym c.in-Some.ensures.value) c.change_at.result c.change_at.ensures

pub change_at_key-add-requires : goal.change_at_key-add-requires
change_at_key-add-requires t c =
    keys_rise (V.Map c.args.pairs.now) c.args.key.now c.args.pairs.now (map_has_keys (K.AtKey c.args.key.now ∷ c.args.steps.now) c.args.change (V.Map c.args.pairs.now) c.requires c.args.steps.now c.args.key.now refl) refl

pub change_at_key-returns-then-is_empty : goal.change_at_key-returns-then-is_empty
change_at_key-returns-then-is_empty t c =
    subst (λ o. Changes o c.add.result (V.Map c.add.new.pairs))
    (sym (value_added (change_of c.args.change) c.args.steps.now c.args.key.now c.args.pairs.now (sym c.in_default.ensures.value) (sym c.if-is_empty.ensures)))
    c.add.ensures

pub change_at_key-returns-else-is_empty : goal.change_at_key-returns-else-is_empty
change_at_key-returns-else-is_empty t c =
    subst (λ r. Changes (changed (K.AtKey c.args.key.now ∷ c.args.steps.now) (change_of c.args.change) (Some (V.Map c.args.pairs.now))) r (V.Map c.args.pairs.now)) (sym c.refused.ensures)
    (value_missing (change_of c.args.change) c.args.steps.now c.args.key.now c.args.pairs.now (sym c.in_default.ensures.value) (sym c.if-is_empty.ensures))
