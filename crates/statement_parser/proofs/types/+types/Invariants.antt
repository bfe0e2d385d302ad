use Rattle.std.proofs.Common.{◌+◌, ◌*◌, List, length}
use Rattle.spl_tree.specs.declared.shape.Attribute.{Attribute}
use Rattle.spl_tree.specs.Trees.{TypeExpr}
use Rattle.expr_parser.specs.Rules.{RuleResult, Reads}
use Rattle.statement_parser.specs.Lines.{MoreAttributes, rule}
use Rattle.statement_parser.proofs.types.+types.Given as goal

abbrev pub decreases-type_at : goal.decreases-type_at
decreases-type_at l = l.depth * 8

abbrev pub decreases-type_before : goal.decreases-type_before
decreases-type_before l = l.depth * 8 + 1

abbrev pub decreases-type_between : goal.decreases-type_between
decreases-type_between l = l.depth * 8 + 2

abbrev pub decreases-attribute : goal.decreases-attribute
decreases-attribute l = l.depth * 8 + 1

abbrev pub decreases-list_type : goal.decreases-list_type
decreases-list_type l = l.depth * 8 + 3

abbrev pub decreases-map_type : goal.decreases-map_type
decreases-map_type l = l.depth * 8 + 3

abbrev pub decreases-more_attributes : goal.decreases-more_attributes
decreases-more_attributes l = l.depth * 8 + 2

abbrev pub decreases-attributes : goal.decreases-attributes
decreases-attributes l = l.depth * 8 + 3

abbrev pub decreases-tuple_type : goal.decreases-tuple_type
decreases-tuple_type l = l.depth * 8 + 4

abbrev pub invariant-more_attributes-attributes : goal.invariant-more_attributes-attributes
invariant-more_attributes-attributes l =
    (o : RuleResult (List (Attribute TypeExpr))) → Reads rule (MoreAttributes l.close l.all) l.at o → Reads rule (MoreAttributes l.fn.close l.fn.first) l.fn.ts o

abbrev pub decreases-more_attributes-attributes : goal.decreases-more_attributes-attributes
decreases-more_attributes-attributes l = length l.at
