use Rattle.std.proofs.Common.{◌≡◌, ℕ, List, Err, ap, arith, refl, sym, ◌+◌, ◌∙◌, drop}
use Rattle.std.specs.Option.{option_copied}
use Rattle.language_model.specs.Scopes.{at_place, function_of}
use Rattle.language_model.specs.Finds.{with_front}
use Rattle.language_model.specs.Typing.{arguments_typed, typing}
use Rattle.language_model.specs.parts.Typing.{binary_or_marker, branch_wanted, call_typed, wants_list, wants_map, wants_tuple}
use Rattle.language_model.specs.TypingLaws.{entry_parts, field_parts, parted, parts}
use Rattle.std.specs.Borrow.{Bor}
use Rattle.spl_value.specs.declared.types.SplType.{SplType}
use Rattle.spl_tree.specs.declared.code.Code.{Code}
use Rattle.spl_tree.specs.declared.code.Slot.{Slot}
use Rattle.language_model.specs.declared.scope.Signature.{Signature}
use Rattle.language_model.specs.declared.scope.Typed.{Typed}
use Rattle.call_rules.specs.Calls.{Asked, Gives}
use Rattle.call_rules.specs.Operands.{right_for}
use Rattle.type_rules.proofs.Loops.{arguments_past, index_by, kinds_past, member_by, taken_by, taken_past}
use Rattle.type_rules.proofs.LiteralLaws.{field_next, field_stops, list_done, list_law, list_next, list_on, list_past, map_done, map_law, map_next, map_on, map_past, tuple_first, tuple_past, value_stops}
use Rattle.spl_tree.proofs.ExprWeights.{item_below, weight, expr_weight, weights, entry_weight, entry_weights, field_weight, field_weights, step_weight, step_weights, list_weight, map_weight, tuple_weight, call_weight, select_weight}
use Rattle.type_rules.proofs.rules.+types.Goals.{arguments-then-arguments-test+else-at-arguments, arguments-else-arguments-test, taken-in-Member+in_ok-kind-in-Member, taken-in-Index+in_ok-index_wanted-in-Index+in_ok-typed-in-Index+in_ok-kind-in-Index}
use Rattle.type_rules.proofs.rules.+types.Goals as goal
use Rattle.language_model.proofs.FoundAnswers.{fails, finds_by, goes, no_front, same_Ok, stops}
use Rattle.language_model.proofs.TypingLaws as laws
use Rattle.spl_tree.specs.declared.expression.ExprKind.TheVariants as V
use Rattle.type_rules.proofs.WantedForms.{by_form, of_form}
use Rattle.type_rules.proofs.Steps.{seen_refused}
use Rattle.type_rules.proofs.Exits.{binary_law}
use Rattle.type_rules.proofs.CallLaws.{built_in_law, function_law}

pub list-loop-element-preserved : goal.list-loop-element-preserved
list-loop-element-preserved t c =
    c.loop-element.invariant
    ∙ list_next c.args.at c.args.scope.now c.loop-element.kind c.args.all.now c.loop-element.element-index c.loop-element.codes c.element-item.result c.in_ok-typed.typed c.with_element.new.codes
    c.loop-element-test.true c.element-item.is (ap (typing c.args.scope.now c.element-item.result) (sym c.kind_in.ensures) ∙ c.in_ok-typed.ensures) c.in_ok-kind-2.ensures.code
    ∙ ap (λ k. list_on c.args.at c.args.scope.now k c.with_element.new.codes (parts (drop (c.loop-element.element-index + 1) c.args.all.now))) (sym c.in_ok-kind-2.ensures.kind)

pub list-returns : goal.list-returns
list-returns t c =
    finds_by _ _ _
    (c.loop-element.invariant
    ∙ list_past c.args.at c.args.scope.now c.loop-element.kind c.args.all.now c.loop-element.element-index c.loop-element.codes c.loop-element-test.false
    ∙ list_done c.args.at c.args.scope.now c.loop-element.kind c.loop-element.codes)
    c.list_given.ensures

pub map-loop-entry-preserved : goal.map-loop-entry-preserved
map-loop-entry-preserved t c =
    c.loop-entry.invariant
    ∙ map_next c.args.at c.args.scope.now c.loop-entry.kinds c.args.all.now c.loop-entry.entry-index c.loop-entry.codes c.entry-item.result c.in_ok-first.first c.in_ok-second.second c.with_entry.new.codes
    c.loop-entry-test.true c.entry-item.is
    (ap (typing c.args.scope.now c.entry-item.result.0) (sym c.kinds_in.ensures.first) ∙ c.in_ok-first.ensures)
    (ap (typing c.args.scope.now c.entry-item.result.1) (sym c.kinds_in.ensures.second) ∙ c.in_ok-second.ensures)
    c.in_ok-kinds-2.ensures.code
    ∙ ap (λ p. map_on c.args.at c.args.scope.now p c.with_entry.new.codes (entry_parts (drop (c.loop-entry.entry-index + 1) c.args.all.now))) (sym c.in_ok-kinds-2.ensures.kinds)

pub map-returns : goal.map-returns
map-returns t c =
    finds_by _ _ _
    (c.loop-entry.invariant
    ∙ map_past c.args.at c.args.scope.now c.loop-entry.kinds c.args.all.now c.loop-entry.entry-index c.loop-entry.codes c.loop-entry-test.false
    ∙ map_done c.args.at c.args.scope.now c.loop-entry.kinds c.loop-entry.codes)
    c.map_given.ensures

pub tuple-loop-place-init : goal.tuple-loop-place-init
tuple-loop-place-init t c =
    tuple_first c.args.at c.args.scope.now (wants_tuple (option_copied c.args.wanted)) (field_parts c.args.fields.now) (option_copied c.in_ok-schema.schema) c.new-own.result c.new-codes.result c.in_ok-schema.ensures c.new-own.ensures c.new-codes.ensures

pub tuple-returns-in_err-number : goal.tuple-returns-in_err-number
tuple-returns-in_err-number t c =
    fails _ _ c.in_err-number.field-0.0 c.from_residual-in_err-number.ensures.1
    (finds_by _ _ (Err c.in_err-number.field-0.0) c.loop-place.invariant
    (field_stops c.args.scope.now (option_copied c.in_ok-schema.schema) c.args.fields.now c.loop-place.place c.loop-place.own c.loop-place.codes c.index-fields-place.result c.loop-place-test.true c.index-fields-place.is _ c.in_err-number.ensures))

pub tuple-returns-in_err-typed : goal.tuple-returns-in_err-typed
tuple-returns-in_err-typed t c =
    fails _ _ c.in_err-typed.field-0.0 c.from_residual-in_err-typed.ensures.1
    (finds_by _ _ (Err c.in_err-typed.field-0.0) c.loop-place.invariant
    (value_stops c.args.scope.now (option_copied c.in_ok-schema.schema) c.args.fields.now c.loop-place.place c.loop-place.own c.loop-place.codes c.index-fields-place.result c.loop-place-test.true c.index-fields-place.is _ _ c.in_ok-number.ensures _ c.in_err-typed.ensures))

pub tuple-loop-place-preserved : goal.tuple-loop-place-preserved
tuple-loop-place-preserved t c =
    c.loop-place.invariant
    ∙ field_next c.args.scope.now (option_copied c.in_ok-schema.schema) c.args.fields.now c.loop-place.place c.loop-place.own c.loop-place.codes c.index-fields-place.result c.loop-place-test.true c.index-fields-place.is _ _ c.in_ok-number.ensures
    c.in_ok-typed.typed c.add_field.new.own c.add_field.new.codes c.in_ok-typed.ensures c.in_ok-add_field.ensures.own c.in_ok-add_field.ensures.code

pub tuple-returns : goal.tuple-returns
tuple-returns t c =
    finds_by _ _ _
    (c.loop-place.invariant ∙ tuple_past c.args.scope.now (option_copied c.in_ok-schema.schema) c.args.fields.now c.loop-place.place c.loop-place.own c.loop-place.codes c.loop-place-test.false)
    c.tuple_given.ensures

pub taken-loop-next-preserved : goal.taken-loop-next-preserved
taken-loop-next-preserved t c =
    c.loop-next.invariant
    ∙ taken_by c.args.scope.now c.args.base _ c.loop-next.kind c.args.steps.now c.loop-next.next-index c.loop-next.takings c.next-item.result c.loop-next-test.true c.next-item.is c.match-next.kind c.match-next.takings
    (elim c.match-next.branch [
      | taken-in-Member+in_ok-kind-in-Member w ↦ member_by c.args.base c.args.scope.now _ c.loop-next.kind c.next-item.result _ c.loop-next.takings w.take_member.new.takings c.match-next.takings _ c.match-next.kind
          w.in-Member.is refl w.in_ok-kind-in-Member.ensures
          (let q : c.match-next.takings ≡ w.take_member.new.takings = cc in q) (let q : c.match-next.kind ≡ w.in_ok-kind-in-Member.kind = cc in q)
      | taken-in-Index+in_ok-index_wanted-in-Index+in_ok-typed-in-Index+in_ok-kind-in-Index w ↦ index_by c.args.base c.args.scope.now _ _ c.loop-next.kind c.next-item.result _ _ _ c.loop-next.takings w.take_index.new.takings c.match-next.takings _ c.match-next.kind
          w.in-Index.is w.get.ensures refl w.in_ok-index_wanted-in-Index.ensures w.in_ok-typed-in-Index.ensures w.in_ok-kind-in-Index.ensures
          (let q : c.match-next.takings ≡ w.take_index.new.takings = cc in q) (let q : c.match-next.kind ≡ w.in_ok-kind-in-Index.kind = cc in q)
    ])

pub arguments-returns : goal.arguments-returns
arguments-returns t c =
    elim c.arguments-test.branch [ arguments-then-arguments-test+else-at-arguments w ↦ c.arguments.invariant ∙ arguments_past c.args.scope.now c.args.kinds.now c.args.arguments.now c.arguments.at c.arguments.codes w.if-at-arguments.false | arguments-else-arguments-test w ↦ c.arguments.invariant ∙ kinds_past c.args.scope.now c.args.kinds.now c.args.arguments.now c.arguments.at c.arguments.codes w.arguments-test.false ]

pub list-type_of-requires : goal.list-type_of-requires
list-type_of-requires t c =
    (let q = item_below expr_weight c.args.all.now c.loop-element.element-index c.element-item.result c.loop-element-test.true c.element-item.is in omega arith, tt)

pub map-type_of-requires : goal.map-type_of-requires
map-type_of-requires t c =
    (let q = item_below entry_weight c.args.all.now c.loop-entry.entry-index c.entry-item.result c.loop-entry-test.true c.entry-item.is in omega arith, tt)

pub map-type_of-requires-in-loop-entry : goal.map-type_of-requires-in-loop-entry
map-type_of-requires-in-loop-entry t c =
    (let q = item_below entry_weight c.args.all.now c.loop-entry.entry-index c.entry-item.result c.loop-entry-test.true c.entry-item.is in omega arith, tt)

pub tuple-type_of-requires : goal.tuple-type_of-requires
tuple-type_of-requires t c =
    (let q = item_below field_weight c.args.fields.now c.loop-place.place c.index-fields-place.result c.loop-place-test.true c.index-fields-place.is in omega arith, tt)

pub taken-type_of-requires : goal.taken-type_of-requires
taken-type_of-requires t c = (
  let q = item_below step_weight c.args.steps.now c.loop-next.next-index c.next-item.result c.loop-next-test.true c.next-item.is in
      let r = ap step_weight c.in-Index.is in omega arith,
  tt,
)

pub arguments-type_of-requires : goal.arguments-type_of-requires
arguments-type_of-requires t c =
    (let q = item_below expr_weight c.args.arguments.now c.arguments.at c.index-arguments-at.result c.if-at-arguments.true c.index-arguments-at.is in omega arith, tt)

pub type_of-list-requires : goal.type_of-list-requires
type_of-list-requires t c =
    (let w = ap weight (sym c.get.ensures ∙ c.in-List.is) ∙ list_weight c.in-List.elements in let e = ap weights c.as_slice.ensures in omega arith, tt)

pub type_of-map-requires : goal.type_of-map-requires
type_of-map-requires t c =
    (let w = ap weight (sym c.get.ensures ∙ c.in-Map.is) ∙ map_weight c.in-Map.entries in let e = ap entry_weights c.as_slice-in-Map.ensures in omega arith, tt)

pub type_of-tuple-requires : goal.type_of-tuple-requires
type_of-tuple-requires t c =
    (let w = ap weight (sym c.get.ensures ∙ c.in-Tuple.is) ∙ tuple_weight c.in-Tuple.fields in let e = ap field_weights c.as_slice-in-Tuple.ensures in omega arith, tt)

pub type_of-call-found-requires : goal.type_of-call-found-requires
type_of-call-found-requires t c =
    (let w = ap weight (sym c.get.ensures ∙ c.in-Call.is) ∙ call_weight c.in-Call.name c.in-Call.arguments in let e = ap weights c.as_slice-in-Call-2.ensures in omega arith, tt)

pub type_of-selection-requires : goal.type_of-selection-requires
type_of-selection-requires t c = (
  let w = ap weight (sym c.get.ensures ∙ c.in-Select.is) ∙ select_weight c.in-Select.base c.in-Select.steps in
      let e = ap step_weights c.as_slice-in-Select.ensures in omega arith,
  tt,
)

pub built_in-type_of-requires : goal.built_in-type_of-requires
built_in-type_of-requires t c =
    (let q = ap weights c.in_ok-first.ensures.row in omega arith, tt)

pub built_in-arguments-requires : goal.built_in-arguments-requires
built_in-arguments-requires t c =
    (let q = ap weights c.in_ok-first.ensures.row in omega arith, tt)

pub type_of-returns-in-Name : goal.type_of-returns-in-Name
type_of-returns-in-Name t c =
    let at = c.args.expr.now.at in
    let scope = c.args.scope.now in
    let w = option_copied c.args.wanted in
    by_form c.args.expr.now.what _ at scope w (sym c.get.ensures ∙ c.in-Name.is ∙ (λ i. V.Name (sym c.as_slice-in-Name.ensures i))) _ (laws.name_typed c.as_slice-in-Name.result.now at scope w) _ _ c.required.ensures c.name_typed.ensures

pub type_of-returns-in-Dollar : goal.type_of-returns-in-Dollar
type_of-returns-in-Dollar t c =
    let at = c.args.expr.now.at in
    let scope = c.args.scope.now in
    let w = option_copied c.args.wanted in
    by_form c.args.expr.now.what _ at scope w (sym c.get.ensures ∙ c.in-Dollar.is ∙ (λ i. V.Dollar (sym c.as_slice-in-Dollar.ensures i))) _ (laws.dollar_typed c.as_slice-in-Dollar.result.now at scope w) _ _ c.required-in-Dollar.ensures c.dollar_typed.ensures

pub type_of-returns-in-Number : goal.type_of-returns-in-Number
type_of-returns-in-Number t c =
    let at = c.args.expr.now.at in
    let scope = c.args.scope.now in
    let w = option_copied c.args.wanted in
    by_form c.args.expr.now.what _ at scope w (sym c.get.ensures ∙ c.in-Number.is) _ (laws.number_typed c.in-Number.number at scope w) _ _ c.required-in-Number.ensures c.number_typed.ensures

pub type_of-returns-in-Text : goal.type_of-returns-in-Text
type_of-returns-in-Text t c =
    let at = c.args.expr.now.at in
    let scope = c.args.scope.now in
    let w = option_copied c.args.wanted in
    by_form c.args.expr.now.what _ at scope w (sym c.get.ensures ∙ c.in-Text.is) _ (laws.text_typed c.in-Text.bytes at scope w) _ _ c.required-in-Text.ensures c.text.ensures

pub type_of-returns-in-Bool : goal.type_of-returns-in-Bool
type_of-returns-in-Bool t c =
    let at = c.args.expr.now.at in
    let scope = c.args.scope.now in
    let w = option_copied c.args.wanted in
    by_form c.args.expr.now.what _ at scope w (sym c.get.ensures ∙ c.in-Bool.is) _ (laws.bool_typed c.in-Bool.b at scope w) _ _ c.required-in-Bool.ensures c.literal.ensures

pub type_of-returns-in-Call : goal.type_of-returns-in-Call
type_of-returns-in-Call t c =
    let at = c.args.expr.now.at in
    let scope = c.args.scope.now in
    let w = option_copied c.args.wanted in
    by_form c.args.expr.now.what _ at scope w (sym c.get.ensures ∙ c.in-Call.is ∙ (λ i. V.Call (sym c.as_slice-in-Call.ensures i) (sym c.as_slice-in-Call-2.ensures i))) _ (laws.call_typed c.as_slice-in-Call.result.now c.as_slice-in-Call-2.result.now at scope w) _ _ c.required-in-Call.ensures c.call-found.ensures

pub type_of-returns-in-Select : goal.type_of-returns-in-Select
type_of-returns-in-Select t c =
    let at = c.args.expr.now.at in
    let scope = c.args.scope.now in
    let w = option_copied c.args.wanted in
    by_form c.args.expr.now.what _ at scope w (sym c.get.ensures ∙ c.in-Select.is ∙ (λ i. V.Select c.in-Select.base (sym c.as_slice-in-Select.ensures i))) _ (laws.select_typed c.in-Select.base c.as_slice-in-Select.result.now at scope w) _ _ c.required-in-Select.ensures c.selection.ensures

pub type_of-returns-in-Unary : goal.type_of-returns-in-Unary
type_of-returns-in-Unary t c =
    let at = c.args.expr.now.at in
    let scope = c.args.scope.now in
    let w = option_copied c.args.wanted in
    by_form c.args.expr.now.what _ at scope w (sym c.get.ensures ∙ c.in-Unary.is ∙ (λ i. V.Unary (sym c.as_slice-in-Unary.ensures i) c.in-Unary.operand)) _ (laws.unary_typed c.as_slice-in-Unary.result.now c.in-Unary.operand at scope w) _ _ c.required-in-Unary.ensures (c.prefixed-found.ensures _ c.type_of-typed.ensures)

pub type_of-returns-in-Binary : goal.type_of-returns-in-Binary
type_of-returns-in-Binary t c =
    let at = c.args.expr.now.at in
    let scope = c.args.scope.now in
    let w = option_copied c.args.wanted in
    by_form c.args.expr.now.what _ at scope w (sym c.get.ensures ∙ c.in-Binary.is) _ (laws.binary_typed c.in-Binary.operator c.in-Binary.left c.in-Binary.right at scope w) _ _ c.required-in-Binary.ensures c.operation.ensures

pub type_of-returns-in-Group : goal.type_of-returns-in-Group
type_of-returns-in-Group t c =
    let at = c.args.expr.now.at in
    let scope = c.args.scope.now in
    let w = option_copied c.args.wanted in
    of_form c.args.expr.now.what _ at scope w (sym c.get.ensures ∙ c.in-Group.is) _ (laws.group_typed c.in-Group.inner at scope w) _ c.type_of.ensures

pub type_of-returns-in-List : goal.type_of-returns-in-List
type_of-returns-in-List t c =
    let at = c.args.expr.now.at in
    let scope = c.args.scope.now in
    let w = option_copied c.args.wanted in
    of_form c.args.expr.now.what _ at scope w (sym c.get.ensures ∙ c.in-List.is ∙ (λ i. V.List (sym c.as_slice.ensures i))) _ (laws.list_typed c.as_slice.result.now at scope w) _ c.list.ensures

pub type_of-returns-in-Map : goal.type_of-returns-in-Map
type_of-returns-in-Map t c =
    let at = c.args.expr.now.at in
    let scope = c.args.scope.now in
    let w = option_copied c.args.wanted in
    of_form c.args.expr.now.what _ at scope w (sym c.get.ensures ∙ c.in-Map.is ∙ (λ i. V.Map (sym c.as_slice-in-Map.ensures i))) _ (laws.map_typed c.as_slice-in-Map.result.now at scope w) _ c.map.ensures

pub type_of-returns-in-Tuple : goal.type_of-returns-in-Tuple
type_of-returns-in-Tuple t c =
    let at = c.args.expr.now.at in
    let scope = c.args.scope.now in
    let w = option_copied c.args.wanted in
    of_form c.args.expr.now.what _ at scope w (sym c.get.ensures ∙ c.in-Tuple.is ∙ (λ i. V.Tuple (sym c.as_slice-in-Tuple.ensures i))) _ (laws.tuple_typed c.as_slice-in-Tuple.result.now at scope w) _ c.tuple.ensures

pub type_of-returns-in-Conditional : goal.type_of-returns-in-Conditional
type_of-returns-in-Conditional t c =
    let at = c.args.expr.now.at in
    let scope = c.args.scope.now in
    let w = option_copied c.args.wanted in
    of_form c.args.expr.now.what _ at scope w (sym c.get.ensures ∙ c.in-Conditional.is) _ (laws.conditional_typed c.in-Conditional.condition c.in-Conditional.first c.in-Conditional.second at scope w) _ c.conditional.ensures

pub conditional-returns-in_err-test : goal.conditional-returns-in_err-test
conditional-returns-in_err-test t c = fails _ _ c.in_err-test.field-0.0 c.from_residual.ensures.1 (stops _ _ _ c.in_err-test.ensures)

pub conditional-returns-in_err-one : goal.conditional-returns-in_err-one
conditional-returns-in_err-one t c =
    let e = c.in_err-one.field-0.0 in
    fails {B = Typed} _ _ e c.from_residual-in_err-one.ensures.1
    (goes {B = Typed} _ _ c.in_ok-test.test (Err e) c.in_ok-test.ensures (stops {A = Typed} {B = Typed} _ _ e c.in_err-one.ensures))

pub conditional-returns : goal.conditional-returns
conditional-returns t c =
    goes _ _ c.in_ok-test.test _ c.in_ok-test.ensures
    (goes _ _ c.in_ok-one.one _ c.in_ok-one.ensures
    (c.if_other.ensures _
    (finds_by _ _ _ (ap (typing c.args.scope.now c.args.second.now) (sym (c.branch_wanted.ensures ∙ ap (branch_wanted (option_copied c.args.wanted)) c.get.ensures))) c.type_of-other.ensures)))

pub call-returns-in_err-place : goal.call-returns-in_err-place
call-returns-in_err-place t c =
    let at = c.args.at in
    let scope = c.args.scope.now in
    let name = c.args.name.now in
    let es = parts c.args.all.now in
    fails _ _ c.in_err-place.field-0.0 c.from_residual.ensures.1
    (finds_by _ _ (Err c.in_err-place.field-0.0) (ap (call_typed at scope name es) (sym c.call_named.ensures ∙ c.in_default.is) ∙ function_law at scope name es (function_of scope name))
    (stops _ _ _ (seen_refused {B = ℕ × Bor Signature} (λ p. at_place p.0 p.1.now) _ _ c.in_err-place.ensures)))

pub call-returns : goal.call-returns
call-returns t c =
    let at = c.args.at in
    let scope = c.args.scope.now in
    let name = c.args.name.now in
    let es = parts c.args.all.now in
    finds_by _ _ _ (ap (call_typed at scope name es) (sym c.call_named.ensures ∙ c.in_default.is) ∙ function_law at scope name es (function_of scope name))
    (goes _ _ (at_place c.in_ok-place.place c.in_ok-place.found.now) _ c.in_ok-place.ensures
    (c.if_codes.ensures _
    (finds_by _ _ _ (ap (λ ts. arguments_typed scope ts es) (sym c.as_slice-kinds.ensures) ∙ no_front _ _ c.new.ensures) c.arguments-codes.ensures)))

pub operation-returns : goal.operation-returns
operation-returns t c =
    let scope = c.args.scope.now in
    let l = parted c.args.left.now in
    let r = parted c.args.right.now in
    finds_by _ _ _ (ap (λ m. binary_or_marker m scope c.args.operator l r) (same_Ok c.in_ok-code.ensures ∙ c.in_default.is) ∙ binary_law scope c.args.operator l r)
    (goes _ _ c.in_ok-first.first _ c.in_ok-first.ensures
    (goes _ _ (option_copied c.in_ok-wanted.wanted) _ (ap (right_for l.at c.args.operator) (sym c.get.ensures) ∙ c.in_ok-wanted.ensures)
    (goes _ _ c.in_ok-second.second _ c.in_ok-second.ensures c.operation_of.ensures)))

pub built_in-returns-in_err-gives : goal.built_in-returns-in_err-gives
built_in-returns-in_err-gives t c =
    let at = c.args.at in
    let scope = c.args.scope.now in
    let e = c.in_err-gives.field-0.0 in
    fails {B = Typed} _ _ e c.from_residual-in_err-gives.ensures.1
    (finds_by _ _ (Err e) (built_in_law at scope c.args.call (parts c.args.all.now))
    (goes {B = Typed} _ _ (parted c.in_ok-first.first.now, parts c.in_ok-first.rest.now) (Err e) c.in_ok-first.ensures.found
    (goes {B = Typed} _ _ c.in_ok-typed.typed (Err e) (ap (typing scope c.in_ok-first.first.now) (same_Ok c.in_ok-wanted.ensures ∙ sym c.kind_in.ensures) ∙ c.in_ok-typed.ensures)
    (stops {A = Asked} {B = Typed} _ _ e (seen_refused {B = Gives × List SplType × List (Code Slot)} (λ p. (p.0, p.1)) _ e c.in_err-gives.ensures.asked)))))

pub built_in-returns-in_err-codes : goal.built_in-returns-in_err-codes
built_in-returns-in_err-codes t c =
    let at = c.args.at in
    let scope = c.args.scope.now in
    let e = c.in_err-codes.field-0.0 in
    fails {B = Typed} _ _ e c.from_residual-in_err-codes.ensures.1
    (finds_by _ _ (Err e) (built_in_law at scope c.args.call (parts c.args.all.now))
    (goes {B = Typed} _ _ (parted c.in_ok-first.first.now, parts c.in_ok-first.rest.now) (Err e) c.in_ok-first.ensures.found
    (goes {B = Typed} _ _ c.in_ok-typed.typed (Err e) (ap (typing scope c.in_ok-first.first.now) (same_Ok c.in_ok-wanted.ensures ∙ sym c.kind_in.ensures) ∙ c.in_ok-typed.ensures)
    (goes {B = Typed} _ _ (c.in_ok-gives.gives, c.in_ok-gives.others) (Err e) c.in_ok-gives.ensures.asked
    (stops {A = List (Code Slot)} {B = Typed} _ _ e
    (finds_by _ _ (Err e) (λ i. with_front (sym c.in_ok-gives.ensures.front i) (arguments_typed scope (sym c.as_slice.ensures i) (parts c.in_ok-first.rest.now))) c.in_err-codes.ensures))))))

pub built_in-returns : goal.built_in-returns
built_in-returns t c =
    let at = c.args.at in
    let scope = c.args.scope.now in
    finds_by _ _ _ (built_in_law at scope c.args.call (parts c.args.all.now))
    (goes _ _ (parted c.in_ok-first.first.now, parts c.in_ok-first.rest.now) _ c.in_ok-first.ensures.found
    (goes _ _ c.in_ok-typed.typed _ (ap (typing scope c.in_ok-first.first.now) (same_Ok c.in_ok-wanted.ensures ∙ sym c.kind_in.ensures) ∙ c.in_ok-typed.ensures)
    (goes _ _ (c.in_ok-gives.gives, c.in_ok-gives.others) _ c.in_ok-gives.ensures.asked
    (goes _ _ c.in_ok-codes.codes _ ((λ i. with_front (sym c.in_ok-gives.ensures.front i) (arguments_typed scope (sym c.as_slice.ensures i) (parts c.in_ok-first.rest.now))) ∙ c.in_ok-codes.ensures)
    c.given.ensures))))

pub list-returns-in_err-kind : goal.list-returns-in_err-kind
list-returns-in_err-kind t c =
    fails _ _ c.in_err-kind.field-0.0 c.from_residual.ensures.1
    (finds_by _ _ (Err c.in_err-kind.field-0.0) (list_law c.args.at c.args.scope.now (wants_list (option_copied c.args.wanted)) (parts c.args.all.now)) (stops _ _ _ c.in_err-kind.ensures))

pub map-returns-in_err-kinds : goal.map-returns-in_err-kinds
map-returns-in_err-kinds t c =
    fails _ _ c.in_err-kinds.field-0.0 c.from_residual.ensures.1
    (finds_by _ _ (Err c.in_err-kinds.field-0.0) (map_law c.args.at c.args.scope.now (wants_map (option_copied c.args.wanted)) (entry_parts c.args.all.now)) (stops _ _ _ c.in_err-kinds.ensures))

pub taken-returns : goal.taken-returns
taken-returns t c =
    finds_by _ _ _
    (c.loop-next.invariant ∙ taken_past c.args.scope.now c.args.base c.args.first.code c.loop-next.kind c.args.steps.now c.loop-next.next-index c.loop-next.takings c.loop-next-test.false)
    c.select.ensures
