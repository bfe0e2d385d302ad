-- A Custom with a handler of tuples, environments in which it runs and what it leaves, for examples.
use Rattle.std.specs.Prelude.{negsuc, true, false, List, [], ◌∷◌, Some, None, codes}
use Rattle.spl_value.specs.declared.item.Item.TheVariants as I
use Rattle.spl_value.specs.declared.types.IntKind.TheVariants.{I32}
use Rattle.spl_value.specs.declared.value.Value.{Value}
use Rattle.spl_value.specs.declared.value.Value.TheVariants as V
use Rattle.spl_tree.specs.declared.body.Change.TheVariants as H
use Rattle.spl_tree.specs.declared.body.Statement.{Statement}
use Rattle.spl_tree.specs.declared.body.Statement.TheVariants as T
use Rattle.spl_tree.specs.declared.code.Code.{Code}
use Rattle.spl_tree.specs.declared.code.Code.TheVariants as C
use Rattle.spl_tree.specs.declared.code.Marker.TheVariants as M
use Rattle.spl_tree.specs.declared.code.Slot.{Slot}
use Rattle.spl_tree.specs.declared.code.Slot.TheVariants as L
use Rattle.spl_tree.specs.declared.code.UnaryCode.TheVariants as U
use Rattle.language_model.specs.declared.checked.Handlers.{Handlers}
use Rattle.language_model.specs.declared.checked.StateVariable.{StateVariable}
use Rattle.language_model.specs.declared.env.Env.{Env}
use Rattle.language_model.specs.declared.scope.Port.{Port}
use Rattle.language_model.specs.declared.scope.Scope.{Scope}
use Rattle.language_model.specs.declared.scope.Variable.{Variable}
use Rattle.language_model.specs.Keeping.{tuple_scope}
use Rattle.language_model.specs.Statements.{Left}
use Rattle.language_model.specs.StreamTypes.{Attributes}
use Rattle.language_model.specs.Typing.{int32}
use Rattle.evaluation_laws.specs.examples.OneCall.{number}

-- int32 k = -5; mutable int32 last = 0; mutable int32 spare = 0;
abbrev pub constant : Variable
constant = record { name = codes "k"; kind = int32; mutable = false }

abbrev pub last : Variable
last = record { name = codes "last"; kind = int32; mutable = true }

abbrev pub spare : Variable
spare = record { name = codes "spare"; kind = int32; mutable = true }

abbrev pub minus_five : Code Slot
minus_five = C.Unary (U.Negate I32 ∷ []) (C.Literal (number 5))

abbrev pub state : List StateVariable
state =
    record { variable = constant; first = minus_five } ∷ record { variable = last; first = C.Literal (number 0) }
    ∷ record { variable = spare; first = C.Literal (number 0) } ∷ []

abbrev pub input : Port
input = record { name = codes "In"; schema = record { name = codes "a"; kind = int32 } ∷ [] }

abbrev pub output : Attributes
output = record { name = codes "x"; kind = int32 } ∷ []

-- submit({ x = k }, Out);
abbrev pub submit_constant : Statement
submit_constant = T.Submit 0 (C.Tuple ((0, C.Name (L.Variable 0)) ∷ []))

-- for (int32 e in [7]) { last = e; } submit({ x = k }, Out);
abbrev pub on_tuple : List Statement
on_tuple =
    T.For (C.List (C.Literal (number 7) ∷ [])) (T.Change (record { variable = 1; takings = [] }) (H.Put (C.Name (L.Variable 3))) ∷ [])
    ∷ submit_constant ∷ []

-- if (currentPunct() == Sys.WindowMarker) submit(Sys.WindowMarker, Out);
abbrev pub on_marker : List Statement
on_marker = T.If ((C.IsMarker M.Window, T.SubmitWindow 0 ∷ []) ∷ []) [] ∷ []

abbrev pub handlers : Handlers
handlers = record { state = state; on_tuple = Some on_tuple ∷ []; on_punct = Some on_marker ∷ [] }

abbrev pub one_port : Scope
one_port = record { vars = []; ports = input ∷ []; functions = []; unresolved = []; dollars = []; punct = false }

abbrev pub of_tuple : Scope
of_tuple = tuple_scope one_port state input

-- ---- where it runs

abbrev pub held : Value → Value → List Value
held x y = V.Int (negsuc 4) ∷ x ∷ y ∷ []

-- the attribute's value, and that of the variable that isn't named
abbrev pub env_of : Value → Value → Env
env_of a y = record { inputs = (a ∷ []) ∷ []; vars = held (number 0) y; punct = None }

abbrev pub left_of : Value → Left
left_of y = record { vars = held (number 7) y; submits = record { port = 0; item = I.Tuple (V.Int (negsuc 4) ∷ []) } ∷ []; returned = None }

-- where a window marker came, and what the handler of markers leaves there
abbrev pub env_at_window : Env
env_at_window = record { inputs = []; vars = held (number 0) (number 0); punct = Some M.Window }

abbrev pub left_at_window : Left
left_at_window = record { vars = held (number 0) (number 0); submits = record { port = 0; item = I.Window } ∷ []; returned = None }

-- where no variable is mutable
abbrev pub constant_alone : Scope
constant_alone = record { vars = constant ∷ []; ports = []; functions = []; unresolved = []; dollars = []; punct = false }

abbrev pub env_alone : Env
env_alone = record { inputs = []; vars = V.Int (negsuc 4) ∷ []; punct = None }

abbrev pub left_alone : Left
left_alone = record { vars = V.Int (negsuc 4) ∷ []; submits = record { port = 0; item = I.Tuple (V.Int (negsuc 4) ∷ []) } ∷ []; returned = None }
