-- Words for parts of the rules of Checking, each for itself: how many ports, the clauses of each kind of operator, and lists of results.
use Rattle.std.specs.Prelude.{ℕ, Bool, false, List, [], map, length, if◌then◌else◌, codes, Option, Some, None, is_some, Ok, zip}
use Rattle.std.specs.Option.{option_map_or}
use Rattle.spl_value.specs.declared.types.SplType.{SplType}
use Rattle.spl_value.specs.declared.types.SplType.TheOpen.{SplType-F}
use Rattle.spl_value.specs.Key.{level_is_key_type}
use Rattle.spl_tree.specs.declared.code.Code.{Code}
use Rattle.spl_tree.specs.declared.code.Slot.{Slot}
use Rattle.spl_tree.specs.declared.expression.Placed.{Placed}
use Rattle.spl_tree.specs.declared.graph.Graph.{Graph}
use Rattle.spl_tree.specs.declared.graph.Op.{Op}
use Rattle.spl_tree.specs.declared.graph.OpKind.{OpKind}
use Rattle.spl_tree.specs.declared.graph.OpKind.TheVariants as O
use Rattle.spl_tree.specs.declared.unit.Clauses.{Clauses}
use Rattle.spl_tree.specs.declared.unit.Definition.{Definition}
use Rattle.spl_tree.specs.declared.unit.InputPort.{InputPort}
use Rattle.spl_tree.specs.declared.unit.Invocation.{Invocation}
use Rattle.spl_tree.specs.declared.unit.OutputAssignments.{OutputAssignments}
use Rattle.spl_tree.specs.declared.unit.OutputStream.{OutputStream}
use Rattle.spl_tree.specs.declared.unit.PortWindow.{PortWindow}
use Rattle.language_model.specs.declared.checked.Given.{Given}
use Rattle.language_model.specs.declared.checked.CheckedClauses.{CheckedClauses}
use Rattle.language_model.specs.declared.checked.CheckedClauses.TheVariants as A
use Rattle.language_model.specs.declared.checked.Policy.{Policy}
use Rattle.language_model.specs.declared.checked.Position.{Position}
use Rattle.language_model.specs.declared.scope.CheckError.TheVariants as E
use Rattle.language_model.specs.declared.scope.Port.{Port}
use Rattle.language_model.specs.declared.scope.Scope.{Scope}
use Rattle.language_model.specs.Kinds.{rules_of}
use Rattle.language_model.specs.LogicTyping.{Surroundings}
use Rattle.language_model.specs.OutputTyping.{groups_typing, inputs_typing}
use Rattle.language_model.specs.ParameterTyping.{value_given}
use Rattle.language_model.specs.Parameters.{Tables}
use Rattle.language_model.specs.Policies.{Numbers, bad_window, of_first}
use Rattle.language_model.specs.StreamTypes.{Attributes, Body, Passes, passed, stream_attributes}
use Rattle.language_model.specs.TypeNames.{composite_types}
use Rattle.language_model.specs.Typing.{Found, after, refused}
use Rattle.language_model.specs.After.{each}
use Rattle.language_model.specs.Checking.{Checks, are_passed, as_code, as_file, as_places, as_position, as_strict, first_list, fit_ports, logic_checked, operator_checked, plain, port_name, rows_checked, there, tuple_of, windows_of_form}

abbrev pub ports_checked : Op → Invocation → Passes
ports_checked op i = if fit_ports op.kind (length i.inputs) (length i.outputs) then passed else refused E.PortCount op.at None

abbrev pub outputs_checked : OpKind → List OutputStream → List Attributes → List Attributes → Passes
outputs_checked kind os outs ins = of_first passed (λ input others. if (rules_of kind).passes_on then are_passed input os outs else passed) ins

abbrev pub ports_of : List InputPort → List Attributes → List Port
ports_of qs schemas = map (λ x. record { name = port_name x.0; schema = x.1 }) (zip qs schemas)

abbrev pub windows_checked : OpKind → Numbers → ℕ → List Port → Option (Placed (List PortWindow)) → Found (List Policy)
windows_checked kind = windows_of_form (rules_of kind).window

abbrev pub is_partitioned : List Policy → Bool
is_partitioned windows = of_first false (λ p others. p.partitioned) windows

abbrev pub code_given : List Given → List ℕ → Option (Code Slot)
code_given given name = as_code (value_given given name)

abbrev pub file_given : List Given → List ℕ
file_given given = as_file (value_given given (codes "file"))

-- strict, unless it is said to be permissive
abbrev pub strict_given : List Given → Bool
strict_given given = as_strict (value_given given (codes "parsing"))

abbrev pub places_given : List Given → List ℕ → List ℕ
places_given given name = as_places (value_given given name)

abbrev pub position_given : List Given → Option Position
position_given given = as_position (value_given given (codes "position"))

-- the rows of the output clause, where the operator has one
abbrev pub output_rows : OpKind → Option (Placed (List OutputAssignments)) → Found (List OutputAssignments)
output_rows kind clause =
    option_map_or (λ o. if is_some (rules_of kind).output then Ok o.what else refused E.ExtraParameter o.at (Some (codes "output"))) clause (Ok [])

abbrev pub level_text_form : SplType-F SplType → Bool
level_text_form kind = level_is_key_type kind

abbrev pub file_source : Checks → Clauses → Found CheckedClauses
file_source x clauses =
    after (logic_checked O.FileSource clauses.logic) (λ u. after (rows_checked x x.around.schemas) (λ v.
    Ok (A.FileSource (as_file (value_given x.given (codes "file"))) (as_strict (value_given x.given (codes "parsing"))))))

abbrev pub file_sink : Checks → Clauses → Found CheckedClauses
file_sink x clauses =
    after (logic_checked O.FileSink clauses.logic) (λ u. after (rows_checked x (map (λ p. p.schema) x.around.scope.ports)) (λ v.
    Ok (A.FileSink (as_file (value_given x.given (codes "file"))))))

abbrev pub functor : Checks → Clauses → List OutputAssignments → Found CheckedClauses
functor x clauses rows =
    after (tuple_of x rows) (λ output. plain O.Functor clauses (A.Functor (as_code (value_given x.given (codes "filter"))) output))

abbrev pub punctor : Checks → Clauses → Found CheckedClauses
punctor x clauses =
    after (there x.at (as_code (value_given x.given (codes "punctuation")))) (λ condition.
    after (there x.at (as_position (value_given x.given (codes "position")))) (λ position. plain O.Punctor clauses (A.Punctor condition position)))

abbrev pub split : Checks → Clauses → Found CheckedClauses
split x clauses = after (there x.at (as_code (value_given x.given (codes "index")))) (λ index. plain O.Split clauses (A.Split index))

abbrev pub union : Checks → Clauses → Found CheckedClauses
union x clauses =
    after (inputs_typing x.at (first_list x.around.schemas) x.around.scope.ports) (λ places. plain O.Union clauses (A.Union places))

abbrev pub aggregated : Checks → Clauses → List OutputAssignments → List Policy → Found CheckedClauses
aggregated x clauses rows windows = of_first (bad_window x.at) (λ window others.
    after (groups_typing x.around.scope x.at (first_list x.around.schemas) (first_list x.around.outputs) rows) (λ output.
    plain O.Aggregate clauses
    (A.Aggregate window (as_places (value_given x.given (codes "partitionBy"))) (as_places (value_given x.given (codes "groupBy"))) output))) windows

abbrev pub joined : Checks → Clauses → List OutputAssignments → List Policy → Found CheckedClauses
joined x clauses rows windows = of_first (bad_window x.at) (λ left more. of_first (bad_window x.at) (λ right others.
    after (tuple_of x rows) (λ output. plain O.Join clauses (A.Join left right (as_code (value_given x.given (codes "match"))) output))) more) windows

abbrev pub surroundings : List Definition → Body → Invocation → Scope → List Attributes → Surroundings
surroundings unit b i scope outs =
    record { types = composite_types unit b.composite; scope = scope; outputs = map (λ o. o.name.what) i.outputs; schemas = outs }

abbrev pub operators_checked : List Definition → Graph → Tables → List Op → Found (List CheckedClauses)
operators_checked unit g tables ops = each (operator_checked unit g tables) (λ part. part) ops

-- the attributes of each stream, of which none is refused after the operators
abbrev pub each_stream : List Definition → Graph → List ℕ → Found (List Attributes)
each_stream unit g streams = each (stream_attributes unit g) (λ schema. schema) streams
