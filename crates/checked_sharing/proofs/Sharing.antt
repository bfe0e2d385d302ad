-- Threads may share a checked graph: what a reference to it reads says the same to every thread.
use mathlib.Core.List.{[], ◌∷◌}
use denote.RattleType.{RattleType}
use denote.Builtin.{u32, u8, bool}
use denote.Struct.Declared as S
use denote.Enum.Declared as E
use denote.Struct.Field.{row_field}
use denote.Struct.Tuple.{Tuple, tuple_type}
use denote.Param.Send.{IsSync, struct_sync, enum_sync, view_sync, sendable}
use denote.Param.SendFields.{as_row_sync, declared_sync}
use Rattle.language_model.specs.contracts.checked.CollectedAttribute as CollectedAttribute
use Rattle.language_model.specs.contracts.checked.Handlers as Handlers
use Rattle.language_model.specs.contracts.checked.CheckedClauses as CheckedClauses
use Rattle.language_model.specs.contracts.checked.StateVariable as StateVariable
use Rattle.language_model.specs.contracts.checked_graph.Checked as Checked
use Rattle.language_model.specs.contracts.checked_graph.Checked.TheInside as CheckedFields
use Rattle.language_model.specs.contracts.scope.Variable as Variable
use Rattle.spl_tree.specs.contracts.body.Function as Function
use Rattle.spl_tree.specs.contracts.body.Place as Place
use Rattle.spl_tree.specs.contracts.body.Statement as Statement
use Rattle.spl_tree.specs.contracts.code.Code as Code
use Rattle.spl_tree.specs.contracts.code.Slot as Slot
use Rattle.spl_value.specs.contracts.items.Items as Items
use Rattle.spl_value.specs.contracts.types.SplType as SplType
use Rattle.spl_value.specs.contracts.value.Value as Value
use Rattle.std.specs.contracts.option.Option as Option
use Rattle.language_model.proofs.checked.Collector.TheSendSync as collector
use Rattle.language_model.proofs.checked.Policy.TheSendSync as policy
use Rattle.language_model.proofs.checked.Position.TheSendSync as position
use Rattle.spl_tree.proofs.body.Change.TheSendSync as change
use Rattle.spl_tree.proofs.body.Statement.TheLaws.TheKnot as statement
use Rattle.spl_tree.proofs.code.BinaryCode.TheSendSync as binary
use Rattle.spl_tree.proofs.code.BuiltIn.TheSendSync as builtin
use Rattle.spl_tree.proofs.code.Code.TheLaws.TheKnot as code
use Rattle.spl_tree.proofs.code.Marker.TheSendSync as marker
use Rattle.spl_tree.proofs.code.Slot.TheSendSync as slot
use Rattle.spl_tree.proofs.code.Selector.TheSendSync as taking
use Rattle.spl_tree.proofs.code.UnaryCode.TheSendSync as unary
use Rattle.spl_tree.proofs.graph.Graph.TheSendSync as graph
use Rattle.spl_value.proofs.boxed.Boxed.TheSendSync as boxed
use Rattle.spl_value.proofs.items.Items.TheSendSync as items
use Rattle.spl_value.proofs.segmented_list.SegmentedList.TheSendSync as segmented_list
use Rattle.spl_value.proofs.types.IntKind.TheSendSync as int_kind
use Rattle.spl_value.proofs.types.Named.TheSendSync as named
use Rattle.spl_value.proofs.types.SplType.TheLaws.TheKnot as spl_type
use Rattle.spl_value.proofs.value.Value.TheLaws.TheKnot as value
use Rattle.std.proofs.option.Option.TheSendSync as option

-- numbers, bytes and pairs
number : IsSync u32
number = search sendable

flag : IsSync bool
flag = search sendable

bytes : IsSync (Items.the_row u8)
bytes = items.the_sync u8 (search sendable)

places : IsSync (Items.the_row u32)
places = items.the_sync u32 number

pair : (A B : RattleType) → IsSync A → IsSync B → IsSync (Tuple (A ∷ B ∷ []))
pair A B a b = declared_sync (tuple_type (A ∷ B ∷ [])) (as_row_sync (row_field A) a, (as_row_sync (row_field B) b, tt))

pairs : (A B : RattleType) → IsSync A → IsSync B → IsSync (Items.the_row (Tuple (A ∷ B ∷ [])))
pairs A B a b = items.the_sync (Tuple (A ∷ B ∷ [])) (pair A B a b)

-- values, types and codes
value_field : IsSync (Value.the_field).row
value_field = value.sync-Value (search sendable) flag bytes items.the_sync (λ h s. segmented_list.the_sync _ (pair h h s s))

type_field : IsSync (SplType.the_field).row
type_field = spl_type.sync-SplType int_kind.the_field_sync boxed.the_sync (λ h s. items.the_sync _ (named.the_sync h s))

type_row : IsSync SplType.the_row
type_row = as_row_sync SplType.the_field type_field

code_field : IsSync (Code.the_field Slot.the_row).row
code_field = code.sync-Code Slot.the_row value_field slot.the_sync items.the_sync (λ h s. pairs h h s s) (λ h s. pairs u32 h number s) boxed.the_sync
    (λ h s. items.the_sync _ (taking.the_sync h s)) (items.the_sync _ unary.the_sync) binary.the_field_sync builtin.the_field_sync number marker.the_field_sync

code_row : IsSync (Code.the_row Slot.the_row)
code_row = as_row_sync (Code.the_field Slot.the_row) code_field

-- bodies and functions
place_field : IsSync (Place.the_field).row
place_field = struct_sync (S.shape Place.the_type) (number, (items.the_sync _ (taking.the_sync _ code_row), tt))

statement_field : IsSync (Statement.the_field).row
statement_field = statement.sync-Statement items.the_sync code_field place_field (change.the_field_sync _ code_row) number (items.the_sync _ code_row)
    (λ h s. pairs _ _ code_row (items.the_sync h s)) (option.the_field_sync _ code_row)

pub statement_sync : IsSync Statement.the_row
statement_sync = as_row_sync Statement.the_field statement_field

function_field : IsSync (Function.the_field).row
function_field = struct_sync (S.shape Function.the_type) (items.the_sync _ type_row, (option.the_field_sync _ type_row, (items.the_sync _ statement_sync, tt)))

pub function_sync : IsSync Function.the_row
function_sync = as_row_sync Function.the_field function_field

-- the clauses of an operator
variable_field : IsSync (Variable.the_field).row
variable_field = struct_sync (S.shape Variable.the_type) (bytes, (type_field, (flag, tt)))

state_row : IsSync StateVariable.the_row
state_row = as_row_sync StateVariable.the_field (struct_sync (S.shape StateVariable.the_type) (variable_field, (code_field, tt)))

bodies : IsSync (Items.the_row (Option.the_row (Items.the_row Statement.the_row)))
bodies = items.the_sync _ (option.the_sync _ (items.the_sync _ statement_sync))

handlers_field : IsSync (Handlers.the_field).row
handlers_field = struct_sync (S.shape Handlers.the_type) (items.the_sync _ state_row, (bodies, (bodies, tt)))

collected_row : IsSync CollectedAttribute.the_row
collected_row = as_row_sync CollectedAttribute.the_field (struct_sync (S.shape CollectedAttribute.the_type) (number, (collector.the_field_sync, (option.the_field_sync _ code_row, tt))))

part_field : IsSync (CheckedClauses.the_field).row
part_field =
    let condition = option.the_field_sync _ code_row in
    let window = policy.the_field_sync in
    enum_sync (E.shape CheckedClauses.the_type) (
      (bytes, (flag, tt)),
      (
        (bytes, tt),
        (
          (condition, tt),
          (
            (condition, (code_field, tt)),
            (
              (code_field, (position.the_field_sync, tt)),
              (
                (code_field, tt),
                (
                  (items.the_sync _ places, tt),
                  (
                    (handlers_field, tt),
                    (
                      (window, (places, (places, (items.the_sync _ collected_row, tt)))),
                      (
                        (window, (window, (condition, (code_field, tt)))),
                        tt,
                      ),
                    ),
                  ),
                ),
              ),
            ),
          ),
        ),
      ),
    )

pub part_sync : IsSync CheckedClauses.the_row
part_sync = as_row_sync CheckedClauses.the_field part_field

-- checked graphs
pub checked_sync : IsSync Checked.the_row
checked_sync = view_sync _ _ _ _ _ (as_row_sync CheckedFields.the_field (struct_sync (S.shape CheckedFields.the_type)
    (graph.the_field_sync, (items.the_sync _ (items.the_sync _ (named.the_sync _ type_row)), (items.the_sync _ function_sync, (items.the_sync _ part_sync, tt))))))
