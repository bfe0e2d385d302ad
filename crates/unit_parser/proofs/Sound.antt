-- What is read of units is spelled so.
use Rattle.std.proofs.Common.{ℕ, List}
use Rattle.spl_tree.specs.declared.token.Token.{Token}
use Rattle.spl_tree.specs.spellings.UnitGrammar.{SpellsUnit}
use Rattle.expr_parser.specs.Rules.{read}
use Rattle.expr_parser.proofs.Soundness.{Sound, sound as sound_lines}
use Rattle.statement_parser.specs.Lines as lines
use Rattle.statement_parser.specs.Lines.{Line, Whole, rule}
use Rattle.unit_parser.proofs.SoundPhrases.{Phrases}
use Rattle.unit_parser.proofs.SoundSamples.{has}
use Rattle.unit_parser.proofs.SoundRules.{Leads, LeadsTo}
use Rattle.unit_parser.proofs.SoundTypes.{expression_leads, type_leads, list_leads, map_leads, tuple_leads, attributes_leads, more_attributes_leads, shaped_leads}
use Rattle.unit_parser.proofs.SoundStatements.{declare_leads, declared_leads, valued_leads, declarations_leads, statement_leads, other_leads, begun_leads, arms_leads, statements_leads, block_leads}
use Rattle.unit_parser.proofs.SoundInvocations.{alias_leads, stream_leads, streams_leads, stream_head_leads, list_head_leads, inputs_leads, more_inputs_leads, input_streams_leads, state_leads, logic_leads, handlers_leads, handler_leads, window_leads, windows_leads, window_parts_leads, part_arguments_leads, parameter_clause_leads, parameters_leads, output_leads, outputs_leads, assignments_leads, end_leads, invoked_leads}
use Rattle.unit_parser.proofs.SoundUnits.{type_of_leads, type_clause_leads, types_leads, port_leads, ports_leads, head_ports_leads, composite_parameter_clause_leads, composite_parameters_leads, default_leads, graph_clause_leads, graph_leads, composite_leads, function_parameters_leads, function_leads, definitions_leads, namespace_leads, whole_leads}

-- the rule of each line leads to what the line spells
leads_to : (x : Line) → LeadsTo (Phrases x) (rule x)
leads_to (lines.Expression x) = expression_leads x
leads_to lines.TypeExpression = type_leads
leads_to (lines.ListType at) = list_leads at
leads_to (lines.MapType at) = map_leads at
leads_to (lines.TupleType at) = tuple_leads at
leads_to (lines.Attributes close xs) = attributes_leads close xs
leads_to (lines.MoreAttributes close xs) = more_attributes_leads close xs
leads_to (lines.Shaped close) = shaped_leads close
leads_to lines.Declare = declare_leads
leads_to (lines.Declared m k) = declared_leads m k
leads_to (lines.Valued m k n) = valued_leads m k n
leads_to (lines.Declarations ds) = declarations_leads ds
leads_to lines.Statement = statement_leads
leads_to lines.Other = other_leads
leads_to (lines.Begun at n) = begun_leads at n
leads_to (lines.Arms at arms) = arms_leads at arms
leads_to (lines.Statements ss) = statements_leads ss
leads_to lines.Block = block_leads
leads_to lines.Alias = alias_leads
leads_to lines.Stream = stream_leads
leads_to (lines.Streams xs) = streams_leads xs
leads_to lines.StreamHead = stream_head_leads
leads_to lines.ListHead = list_head_leads
leads_to (lines.Invoked at xs l) = invoked_leads at xs l
leads_to lines.Inputs = inputs_leads
leads_to (lines.MoreInputs ps) = more_inputs_leads ps
leads_to (lines.InputStreams ns) = input_streams_leads ns
leads_to lines.End = end_leads
leads_to lines.LogicClause = logic_leads
leads_to lines.State = state_leads
leads_to (lines.Handlers hs) = handlers_leads hs
leads_to (lines.HandlerOf at event) = handler_leads at event
leads_to lines.WindowClause = window_leads
leads_to (lines.Windows ws) = windows_leads ws
leads_to (lines.WindowParts ps) = window_parts_leads ps
leads_to lines.PartArguments = part_arguments_leads
leads_to (lines.ParameterClause k) = parameter_clause_leads k
leads_to (lines.Parameters ps) = parameters_leads ps
leads_to lines.OutputClause = output_leads
leads_to (lines.Outputs us) = outputs_leads us
leads_to (lines.Assignments fs) = assignments_leads fs
leads_to lines.CompositeOf = composite_leads
leads_to lines.HeadPorts = head_ports_leads
leads_to (lines.Ports ps) = ports_leads ps
leads_to lines.Port = port_leads
leads_to lines.CompositeParameterClause = composite_parameter_clause_leads
leads_to (lines.CompositeParameters ps) = composite_parameters_leads ps
leads_to (lines.Default k n) = default_leads k n
leads_to lines.TypeClause = type_clause_leads
leads_to (lines.Types ts) = types_leads ts
leads_to lines.GraphClause = graph_clause_leads
leads_to (lines.Graph xs) = graph_leads xs
leads_to lines.TypeOf = type_of_leads
leads_to (lines.FunctionOf result) = function_leads result
leads_to lines.FunctionParameters = function_parameters_leads
leads_to (lines.Definitions xs) = definitions_leads xs
leads_to lines.Namespace = namespace_leads
leads_to lines.Whole = whole_leads

pub leads : (x : Line) → Leads (Phrases x) (rule x)
leads x = (leads_to x).leads

-- what a line takes is a phrase of it, and what it passes before a refusal starts one
pub sound_line : (n : ℕ) (x : Line) (ts : List Token) → Sound (Phrases x) ts (read rule n x ts)
sound_line n x ts = sound_lines Phrases has rule leads n x ts

-- so it is of a unit
pub sound : (n : ℕ) (ts : List Token) → Sound SpellsUnit ts (read rule n Whole ts)
sound n ts = sound_line n Whole ts
