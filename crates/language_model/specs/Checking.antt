-- The checked graph of a unit, or the first refusal: functions in the order of the text, and then operators in the
-- order of their declaration. Of an operator these are looked at in turn: how many ports it has, the types of its
-- outputs and inputs, `config`, the window, the parameters, the outputs, the logic, and the rows of a file.
use Rattle.std.specs.Prelude.{ℕ, suc, Bool, true, false, ◌&&◌, List, [], ◌∷◌, map, length, zip, if◌then◌else◌, codes, Option, Some, None, is_some, Ok, slice_get}
use Rattle.std.specs.List.{list_all}
use Rattle.std.specs.Option.{option_map_or}
use Rattle.std.specs.Str.{bytes_eq}
use Rattle.spl_value.specs.declared.types.SplType.TheViews.{out-SplType}
use Rattle.spl_value.specs.Key.{level_is_key_type}
use Rattle.spl_tree.specs.declared.code.Code.{Code}
use Rattle.spl_tree.specs.declared.code.Slot.{Slot}
use Rattle.spl_tree.specs.declared.expression.Placed.{Placed}
use Rattle.spl_tree.specs.declared.graph.Graph.{Graph}
use Rattle.spl_tree.specs.declared.graph.Op.{Op}
use Rattle.spl_tree.specs.declared.graph.OpKind.{OpKind}
use Rattle.spl_tree.specs.declared.graph.OpKind.TheVariants as O
use Rattle.spl_tree.specs.declared.unit.Clauses.{Clauses}
use Rattle.spl_tree.specs.declared.unit.Definition.{Definition}
use Rattle.spl_tree.specs.declared.unit.InputPort.{InputPort}
use Rattle.spl_tree.specs.declared.unit.Invocation.{Invocation}
use Rattle.spl_tree.specs.declared.unit.Logic.{Logic}
use Rattle.spl_tree.specs.declared.unit.OutputAssignments.{OutputAssignments}
use Rattle.spl_tree.specs.declared.unit.OutputStream.{OutputStream}
use Rattle.spl_tree.specs.declared.unit.Parameter.{Parameter}
use Rattle.spl_tree.specs.declared.unit.PortWindow.{PortWindow}
use Rattle.language_model.specs.declared.checked.Given.{Given}
use Rattle.language_model.specs.declared.checked.CheckedClauses.{CheckedClauses}
use Rattle.language_model.specs.declared.checked.CheckedClauses.TheVariants as A
use Rattle.language_model.specs.declared.checked.ParameterValue.{ParameterValue}
use Rattle.language_model.specs.declared.checked.ParameterValue.TheVariants as V
use Rattle.language_model.specs.declared.checked.Policy.{Policy}
use Rattle.language_model.specs.declared.checked.PortTypes.{PortTypes}
use Rattle.language_model.specs.declared.checked.Position.{Position}
use Rattle.language_model.specs.declared.kinds.WindowForm.{WindowForm}
use Rattle.language_model.specs.declared.kinds.WindowForm.TheVariants as W
use Rattle.language_model.specs.declared.scope.CheckError.TheVariants as E
use Rattle.language_model.specs.declared.scope.Port.{Port}
use Rattle.language_model.specs.After.{each}
use Rattle.language_model.specs.CheckedGraph.{CheckedGraph}
use Rattle.language_model.specs.FunctionTyping.{functions_typing, unit_scope}
use Rattle.language_model.specs.Kinds.{is_within, rules_of}
use Rattle.language_model.specs.DollarTargets.{expression_meant}
use Rattle.language_model.specs.Literals.{number_literal}
use Rattle.language_model.specs.LogicTyping.{Surroundings, logic_typing}
use Rattle.language_model.specs.Numbering.{numbers_from}
use Rattle.language_model.specs.OutputTyping.{groups_typing, inputs_typing, tuple_typing}
use Rattle.language_model.specs.ParameterTyping.{Site, missing, needed, parameters_typing, value_given}
use Rattle.language_model.specs.Parameters.{Tables, dollar_tables, table_at}
use Rattle.language_model.specs.Policies.{Numbers, aggregate_rule, bad_window, join_rule, of_first, partitioned_or_not, window_at, windows_typing}
use Rattle.language_model.specs.StreamTypes.{Attributes, Body, Passes, body_at, outputs_attributes, passed, ports_attributes, same_attributes, stream_attributes}
use Rattle.language_model.specs.TypeNames.{composite_types}
use Rattle.language_model.specs.Typing.{Found, after, mismatch, refused}

-- ---- how many ports

abbrev pub fit_ports : OpKind → ℕ → ℕ → Bool
fit_ports kind ins outs = is_within (rules_of kind).inputs ins && is_within (rules_of kind).outputs outs

-- ---- types

-- outputs are of the type of an input
abbrev pub are_passed : Attributes → List OutputStream → List Attributes → Passes
are_passed input (o ∷ os) (schema ∷ schemas) =
    if same_attributes schema input then are_passed input os schemas else mismatch o.shape.at
are_passed input os schemas = passed

-- a port's name in its body: its alias, or else that of its first stream
abbrev pub port_name : InputPort → List ℕ
port_name q = option_map_or (λ n. n.what) q.alias (of_first [] (λ n others. n.what) q.streams)

-- the attributes of an operator's inputs and outputs: one that passes tuples on has outputs of the type of its input
abbrev pub port_types : List Definition → Graph → Body → Op → Invocation → Found PortTypes
port_types unit g b op i =
    after (outputs_attributes unit g b i.outputs op.outs) (λ outs.
    after (ports_attributes unit g b i.inputs op.ins) (λ ins.
    after (of_first passed (λ input others. if (rules_of op.kind).passes_on then are_passed input i.outputs outs
    else passed) ins) (λ u.
    Ok (record { ins = ins; outs = outs }))))

-- ---- config

abbrev pub config_checked : List Parameter → Passes
config_checked [] = passed
config_checked (p ∷ ps) =
    if bytes_eq p.name.what (codes "placement") then config_checked ps
    else refused E.LeftOut p.name.at (Some p.name.what)

-- ---- windows

-- that of an Aggregate may be partitioned, and that of a Join isn't
abbrev pub policy_of : WindowForm → Numbers → Port → PortWindow → Found Policy
policy_of W.Aggregate numbers = λ port w. let parts = partitioned_or_not w.parts in
    after (aggregate_rule numbers port.schema w.port.at parts.others) (λ rule.
    Ok (record { partitioned = parts.partitioned; rule = rule }))
policy_of W.Join numbers =
    λ port w. after (join_rule numbers port.schema w.port.at w.parts) (λ rule.
    Ok (record { partitioned = false; rule = rule }))

-- the windows of all ports, in their order
abbrev pub each_window : ℕ → List (ℕ × Policy) → ℕ → List Port → Found (List Policy)
each_window at windows port [] = Ok []
each_window at windows port (p ∷ ps) = after (window_at at port windows) (λ policy.
    after (each_window at windows (suc port) ps) (λ rest. Ok (policy ∷ rest)))

-- each port has a window of the form. Where there is none there is no clause
abbrev pub windows_of_form : Option WindowForm → Numbers → ℕ → List Port → Option (Placed (List PortWindow))
    → Found (List Policy)
windows_of_form None numbers at ports None = Ok []
windows_of_form None numbers at ports (Some w) = refused E.ExtraParameter w.at (Some (codes "window"))
windows_of_form (Some form) numbers at ports None = each_window at [] 0 ports
windows_of_form (Some form) numbers at ports (Some w) =
    after (windows_typing (policy_of form numbers) ports [] w.what) (λ windows. each_window at windows 0 ports)

-- ---- parameters

-- those that are given, of which none is missing that is needed
abbrev pub parameters_checked : Site → OpKind → Bool → ℕ → List Parameter → Found (List Given)
parameters_checked site kind partitioned at ps = after (parameters_typing site kind partitioned [] ps) (λ given.
    option_map_or (λ name. refused E.MissingParameter at (Some name))
    (missing given (needed kind partitioned)) (Ok given))

-- ---- parts

-- what is known of an operator before its outputs and its logic are looked at: its place, where it stands, its windows
-- and its parameters
pub record Checks : Type 0 where
  pub at : ℕ
  pub around : Surroundings
  pub windows : List Policy
  pub given : List Given

abbrev pub as_code : Option ParameterValue → Option (Code Slot)
as_code (Some (V.Code code)) = Some code
as_code _ = None

abbrev pub as_file : Option ParameterValue → List ℕ
as_file (Some (V.File bytes)) = bytes
as_file _ = []

-- strict, unless it is said to be permissive
abbrev pub as_strict : Option ParameterValue → Bool
as_strict (Some (V.Strict strict)) = strict
as_strict _ = true

abbrev pub as_places : Option ParameterValue → List ℕ
as_places (Some (V.Places places)) = places
as_places _ = []

abbrev pub as_position : Option ParameterValue → Option Position
as_position (Some (V.Position position)) = Some position
as_position _ = None

-- what is there since it was needed
abbrev pub there : {A : Type 0} → ℕ → Option A → Found A
there at o = option_map_or (λ x. Ok x) o (mismatch at)

-- ---- logic

abbrev pub logic_checked : OpKind → Option (Placed Logic) → Passes
logic_checked kind logic =
    option_map_or (λ l. if (rules_of kind).logic then passed
    else refused E.LeftOut l.at (Some (codes "logic"))) logic passed

-- ---- rows of files

-- an integer, a boolean and a text have a form in a row
abbrev pub has_text_form : Attributes → Bool
has_text_form schema = list_all (λ a. level_is_key_type (out-SplType a.kind)) schema

abbrev pub rows_checked : Checks → List Attributes → Passes
rows_checked x schemas = if list_all has_text_form schemas then passed else refused E.NoTextForm x.at None

-- ---- one operator

abbrev pub first_list : {A : Type 0} → List (List A) → List A
first_list xs = of_first [] (λ x others. x) xs

-- the clauses of an operator that has no logic: a clause of it is refused, after all that was looked at before
abbrev pub plain : OpKind → Clauses → CheckedClauses → Found CheckedClauses
plain kind clauses part = after (logic_checked kind clauses.logic) (λ u. Ok part)

abbrev pub tuple_of : Checks → List OutputAssignments → Found (Code Slot)
tuple_of x rows = tuple_typing x.around.scope x.at (first_list x.around.schemas) (first_list x.around.outputs) rows

-- what the clauses of an operator of each kind say. An Aggregate has a window, and a Join has two
abbrev pub part_of : Checks → Clauses → List OutputAssignments → OpKind → Found CheckedClauses
part_of x clauses rows O.FileSource =
    after (logic_checked O.FileSource clauses.logic) (λ u. after (rows_checked x x.around.schemas) (λ v.
    Ok (A.FileSource (as_file (value_given x.given (codes "file")))
    (as_strict (value_given x.given (codes "parsing"))))))
part_of x clauses rows O.FileSink =
    after (logic_checked O.FileSink clauses.logic) (λ u.
    after (rows_checked x (map (λ p. p.schema) x.around.scope.ports)) (λ v.
    Ok (A.FileSink (as_file (value_given x.given (codes "file"))))))
part_of x clauses rows O.Filter = plain O.Filter clauses (A.Filter (as_code (value_given x.given (codes "filter"))))
part_of x clauses rows O.Functor =
    after (tuple_of x rows) (λ output. plain O.Functor clauses
    (A.Functor (as_code (value_given x.given (codes "filter"))) output))
part_of x clauses rows O.Punctor =
    after (there x.at (as_code (value_given x.given (codes "punctuation")))) (λ condition.
    after (there x.at (as_position (value_given x.given (codes "position")))) (λ position.
    plain O.Punctor clauses (A.Punctor condition position)))
part_of x clauses rows O.Split =
    after (there x.at (as_code (value_given x.given (codes "index")))) (λ index. plain O.Split clauses (A.Split index))
part_of x clauses rows O.Union =
    after (inputs_typing x.at (first_list x.around.schemas) x.around.scope.ports) (λ places.
    plain O.Union clauses (A.Union places))
part_of x clauses rows O.Custom = after (logic_typing x.around clauses.logic) (λ handlers. Ok (A.Custom handlers))
part_of x clauses rows O.Aggregate = of_first (bad_window x.at) (λ window others.
    after (groups_typing x.around.scope x.at (first_list x.around.schemas) (first_list x.around.outputs) rows)
    (λ output.
    plain O.Aggregate clauses
    (A.Aggregate window (as_places (value_given x.given (codes "partitionBy")))
    (as_places (value_given x.given (codes "groupBy"))) output))) x.windows
part_of x clauses rows O.Join = of_first (bad_window x.at) (λ left more. of_first (bad_window x.at) (λ right others.
    after (tuple_of x rows) (λ output. plain O.Join clauses
    (A.Join left right (as_code (value_given x.given (codes "match"))) output))) more) x.windows

-- the clauses of an operator whose types are these, with rows of outputs only where its kind has them
abbrev pub clauses_checked : Op → Site → Surroundings → Clauses → Found CheckedClauses
clauses_checked op site around clauses = after (config_checked clauses.config) (λ u.
    after (windows_of_form (rules_of op.kind).window
    (number_literal site.scope site.follow) op.at site.scope.ports clauses.window) (λ windows.
    after (parameters_checked site op.kind (of_first false
    (λ p others. p.partitioned) windows) op.at clauses.parameters) (λ given.
    after (option_map_or (λ o. if is_some (rules_of op.kind).output then Ok o.what
    else refused E.ExtraParameter o.at (Some (codes "output")))
    clauses.output (Ok [])) (λ rows.
    part_of (record { at = op.at; around = around; windows = windows; given = given }) clauses rows op.kind))))

-- and of an invocation, after its ports. What its expressions may name: the unit's functions, the `$` parameters of its
-- body, and its ports
abbrev pub invocation_checked : List Definition → Graph → Tables → Op → Body → Invocation → Found CheckedClauses
invocation_checked unit g tables op b i =
    after (if fit_ports op.kind (length i.inputs) (length i.outputs) then passed
    else refused E.PortCount op.at None) (λ u.
    after (port_types unit g b op i) (λ found.
    let scope = record (unit_scope unit) {
      ports = map (λ x. record { name = port_name x.0; schema = x.1 }) (zip i.inputs found.ins);
      dollars = table_at tables b.number;
    } in
    clauses_checked op (record { scope = scope; follow = expression_meant unit g.expansions b.number })
    (record {
      types = composite_types unit b.composite;
      scope = scope;
      outputs = map (λ o. o.name.what) i.outputs;
      schemas = found.outs;
    }) i.clauses))

-- each operator of the graph is that of an invocation in a body
abbrev pub operator_checked : List Definition → Graph → Tables → Op → Found CheckedClauses
operator_checked unit g tables op =
    option_map_or (λ b. option_map_or (invocation_checked unit g tables op b)
    (slice_get b.composite.graph op.site.invocation) (mismatch op.at))
    (body_at unit g op.site.expansion) (mismatch op.at)

-- ---- the whole

-- the functions, the operators, and then the attributes of each stream, of which none is refused after the operators
abbrev pub checked : List Definition → Graph → Found CheckedGraph
checked unit g =
    after (functions_typing unit) (λ functions.
    after (each (operator_checked unit g (dollar_tables unit g.expansions)) (λ part. part) g.ops) (λ parts.
    after (each (stream_attributes unit g) (λ schema. schema) (numbers_from 0 (length g.streams))) (λ schemas.
    Ok (record { graph = g; schemas = schemas; functions = functions; parts = parts }))))
