-- A checked graph may go to another thread: all that it owns says the same to every thread.
use mathlib.Core.List.{[], ◌∷◌}
use denote.RattleType.{RattleType}
use denote.Builtin.{u32, u8, bool}
use denote.Struct.Declared as S
use denote.Enum.Declared as E
use denote.Struct.Field.{row_field}
use denote.Struct.Tuple.{Tuple, tuple_type}
use denote.Param.Send.{IsSend, struct_send, enum_send, view_send, sendable}
use denote.Param.SendFields.{as_row_send, declared_send}
use Rattle.language_model.specs.contracts.checked.CollectedAttribute as CollectedAttribute
use Rattle.language_model.specs.contracts.checked.Handlers as Handlers
use Rattle.language_model.specs.contracts.checked.CheckedClauses as CheckedClauses
use Rattle.language_model.specs.contracts.checked.StateVariable as StateVariable
use Rattle.language_model.specs.contracts.checked_graph.Checked as Checked
use Rattle.language_model.specs.contracts.checked_graph.Checked.TheInside as CheckedFields
use Rattle.language_model.specs.contracts.scope.Variable as Variable
use Rattle.spl_tree.specs.contracts.body.Function as Function
use Rattle.spl_tree.specs.contracts.body.Place as Place
use Rattle.spl_tree.specs.contracts.body.Statement as Statement
use Rattle.spl_tree.specs.contracts.code.Code as Code
use Rattle.spl_tree.specs.contracts.code.Slot as Slot
use Rattle.spl_value.specs.contracts.items.Items as Items
use Rattle.spl_value.specs.contracts.types.SplType as SplType
use Rattle.spl_value.specs.contracts.value.Value as Value
use Rattle.std.specs.contracts.option.Option as Option
use Rattle.language_model.proofs.checked.Collector.TheSendSync as collector
use Rattle.language_model.proofs.checked.Policy.TheSendSync as policy
use Rattle.language_model.proofs.checked.Position.TheSendSync as position
use Rattle.spl_tree.proofs.body.Change.TheSendSync as change
use Rattle.spl_tree.proofs.body.Statement.TheLaws.TheKnot as statement
use Rattle.spl_tree.proofs.code.BinaryCode.TheSendSync as binary
use Rattle.spl_tree.proofs.code.BuiltIn.TheSendSync as builtin
use Rattle.spl_tree.proofs.code.Code.TheLaws.TheKnot as code
use Rattle.spl_tree.proofs.code.Marker.TheSendSync as marker
use Rattle.spl_tree.proofs.code.Slot.TheSendSync as slot
use Rattle.spl_tree.proofs.code.Selector.TheSendSync as taking
use Rattle.spl_tree.proofs.code.UnaryCode.TheSendSync as unary
use Rattle.spl_tree.proofs.graph.Graph.TheSendSync as graph
use Rattle.spl_value.proofs.boxed.Boxed.TheSendSync as boxed
use Rattle.spl_value.proofs.items.Items.TheSendSync as items
use Rattle.spl_value.proofs.segmented_list.SegmentedList.TheSendSync as segmented_list
use Rattle.spl_value.proofs.types.IntKind.TheSendSync as int_kind
use Rattle.spl_value.proofs.types.Named.TheSendSync as named
use Rattle.spl_value.proofs.types.SplType.TheLaws.TheKnot as spl_type
use Rattle.spl_value.proofs.value.Value.TheLaws.TheKnot as value
use Rattle.std.proofs.option.Option.TheSendSync as option

-- numbers, bytes and pairs
number : IsSend u32
number = search sendable

flag : IsSend bool
flag = search sendable

bytes : IsSend (Items.the_row u8)
bytes = items.the_send u8 (search sendable)

places : IsSend (Items.the_row u32)
places = items.the_send u32 number

pair : (A B : RattleType) → IsSend A → IsSend B → IsSend (Tuple (A ∷ B ∷ []))
pair A B a b = declared_send (tuple_type (A ∷ B ∷ [])) (as_row_send (row_field A) a, (as_row_send (row_field B) b, tt))

pairs : (A B : RattleType) → IsSend A → IsSend B → IsSend (Items.the_row (Tuple (A ∷ B ∷ [])))
pairs A B a b = items.the_send (Tuple (A ∷ B ∷ [])) (pair A B a b)

-- values, types and codes
value_field : IsSend (Value.the_field).row
value_field = value.send-Value (search sendable) flag bytes items.the_send (λ h s. segmented_list.the_send _ (pair h h s s))

type_field : IsSend (SplType.the_field).row
type_field = spl_type.send-SplType int_kind.the_field_send boxed.the_send (λ h s. items.the_send _ (named.the_send h s))

type_row : IsSend SplType.the_row
type_row = as_row_send SplType.the_field type_field

code_field : IsSend (Code.the_field Slot.the_row).row
code_field = code.send-Code Slot.the_row value_field slot.the_send items.the_send (λ h s. pairs h h s s) (λ h s. pairs u32 h number s) boxed.the_send
    (λ h s. items.the_send _ (taking.the_send h s)) (items.the_send _ unary.the_send) binary.the_field_send builtin.the_field_send number marker.the_field_send

code_row : IsSend (Code.the_row Slot.the_row)
code_row = as_row_send (Code.the_field Slot.the_row) code_field

-- bodies and functions
place_field : IsSend (Place.the_field).row
place_field = struct_send (S.shape Place.the_type) (number, (items.the_send _ (taking.the_send _ code_row), tt))

statement_field : IsSend (Statement.the_field).row
statement_field = statement.send-Statement items.the_send code_field place_field (change.the_field_send _ code_row) number (items.the_send _ code_row)
    (λ h s. pairs _ _ code_row (items.the_send h s)) (option.the_field_send _ code_row)

pub statement_send : IsSend Statement.the_row
statement_send = as_row_send Statement.the_field statement_field

function_field : IsSend (Function.the_field).row
function_field = struct_send (S.shape Function.the_type) (items.the_send _ type_row, (option.the_field_send _ type_row, (items.the_send _ statement_send, tt)))

pub function_send : IsSend Function.the_row
function_send = as_row_send Function.the_field function_field

-- the clauses of an operator
variable_field : IsSend (Variable.the_field).row
variable_field = struct_send (S.shape Variable.the_type) (bytes, (type_field, (flag, tt)))

state_row : IsSend StateVariable.the_row
state_row = as_row_send StateVariable.the_field (struct_send (S.shape StateVariable.the_type) (variable_field, (code_field, tt)))

bodies : IsSend (Items.the_row (Option.the_row (Items.the_row Statement.the_row)))
bodies = items.the_send _ (option.the_send _ (items.the_send _ statement_send))

handlers_field : IsSend (Handlers.the_field).row
handlers_field = struct_send (S.shape Handlers.the_type) (items.the_send _ state_row, (bodies, (bodies, tt)))

collected_row : IsSend CollectedAttribute.the_row
collected_row = as_row_send CollectedAttribute.the_field (struct_send (S.shape CollectedAttribute.the_type) (number, (collector.the_field_send, (option.the_field_send _ code_row, tt))))

part_field : IsSend (CheckedClauses.the_field).row
part_field =
    let condition = option.the_field_send _ code_row in
    let window = policy.the_field_send in
    enum_send (E.shape CheckedClauses.the_type) (
      (bytes, (flag, tt)),
      (
        (bytes, tt),
        (
          (condition, tt),
          (
            (condition, (code_field, tt)),
            (
              (code_field, (position.the_field_send, tt)),
              (
                (code_field, tt),
                (
                  (items.the_send _ places, tt),
                  (
                    (handlers_field, tt),
                    (
                      (window, (places, (places, (items.the_send _ collected_row, tt)))),
                      (
                        (window, (window, (condition, (code_field, tt)))),
                        tt,
                      ),
                    ),
                  ),
                ),
              ),
            ),
          ),
        ),
      ),
    )

pub part_send : IsSend CheckedClauses.the_row
part_send = as_row_send CheckedClauses.the_field part_field

-- checked graphs
pub checked_send : IsSend Checked.the_row
checked_send = view_send _ _ _ _ _ (as_row_send CheckedFields.the_field (struct_send (S.shape CheckedFields.the_type)
    (graph.the_field_send, (items.the_send _ (items.the_send _ (named.the_send _ type_row)), (items.the_send _ function_send, (items.the_send _ part_send, tt))))))
