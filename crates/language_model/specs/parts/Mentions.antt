-- Words for parts of the rules of what is mentioned: in an expression that may be absent, in a declaration, in a statement and in clauses.
use Rattle.std.specs.Prelude.{[], flat_map, Option}
use Rattle.std.specs.Option.{option_map_or}
use Rattle.spl_tree.specs.declared.statement.Declaration.{Declaration}
use Rattle.spl_tree.specs.declared.statement.StmtKind.{StmtKind}
use Rattle.spl_tree.specs.declared.statement.StmtKind.TheFolds.{fold-StmtKind}
use Rattle.spl_tree.specs.declared.unit.OutputAssignments.{OutputAssignments}
use Rattle.spl_tree.specs.declared.unit.Parameter.{Parameter}
use Rattle.spl_tree.specs.declared.unit.PortWindow.{PortWindow}
use Rattle.spl_tree.specs.declared.unit.WindowPart.{WindowPart}
use Rattle.spl_tree.specs.Trees.{Expr}
use Rattle.language_model.specs.Mentions.{Mentions, expr_mentions, level_statement}

abbrev pub optional_mentions : Option Expr → Mentions
optional_mentions e = option_map_or expr_mentions e []

abbrev pub declaration_mentions : Declaration → Mentions
declaration_mentions d = option_map_or expr_mentions d.value []

abbrev pub statement_mentions : StmtKind → Mentions
statement_mentions s = fold-StmtKind Mentions level_statement s

abbrev pub part_of_window_mentions : WindowPart → Mentions
part_of_window_mentions p = option_map_or (flat_map expr_mentions) p.arguments []

abbrev pub window_mentions : PortWindow → Mentions
window_mentions w = flat_map part_of_window_mentions w.parts

abbrev pub parameter_mentions : Parameter → Mentions
parameter_mentions p = flat_map expr_mentions p.values

abbrev pub assignment_mentions : OutputAssignments → Mentions
assignment_mentions o = flat_map (λ f. expr_mentions f.value) o.assignments
