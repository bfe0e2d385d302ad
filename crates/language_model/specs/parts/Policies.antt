-- Words for parts of the rules of Policies, each for itself: numbers, attributes, and the parts of a window in turn.
use Rattle.std.specs.Prelude.{ℕ, pos, nat_le, false, ◌&&◌, List, if◌then◌else◌, codes, Option, None, Ok}
use Rattle.std.specs.Option.{option_map_or}
use Rattle.spl_value.specs.declared.types.IntKind.{IntKind}
use Rattle.spl_value.specs.declared.types.Named.{Named}
use Rattle.spl_value.specs.declared.types.SplType.{SplType}
use Rattle.spl_value.specs.declared.types.SplType.TheVariants as S
use Rattle.spl_value.specs.declared.types.SplType.TheViews.{out-SplType}
use Rattle.spl_value.specs.Values.{kind_holds}
use Rattle.spl_tree.specs.declared.token.Number.{Number}
use Rattle.spl_tree.specs.declared.unit.PortWindow.{PortWindow}
use Rattle.spl_tree.specs.declared.unit.WindowPart.{WindowPart}
use Rattle.spl_tree.specs.Trees.{Expr}
use Rattle.language_model.specs.declared.checked.Policy.{Policy}
use Rattle.language_model.specs.declared.scope.Port.{Port}
use Rattle.language_model.specs.Scopes.{At}
use Rattle.language_model.specs.Typing.{Found, after, same_types, unknown}
use Rattle.language_model.specs.Policies.{IntegerAttribute, Numbers, RuleReading, aggregate_rule, bad_window, fitting, has_name, join_rule, level_integer, most_tuples, nothing_follows, of_first, only_count, partitioned_or_not, sliding_rule}

abbrev pub as_count : ℕ → ℕ → Option Number → Found ℕ
as_count at least o = fitting (λ n. nat_le least n.value && nat_le n.value most_tuples) at o

-- a number of tuples, at least `least`
abbrev pub count_of : Numbers → ℕ → Expr → Found ℕ
count_of numbers least e = after (numbers e) (as_count e.at least)

abbrev pub as_integer : ℕ → List ℕ → Option (At (Named SplType)) → Found IntegerAttribute
as_integer at name o = option_map_or (λ a. level_integer at a.place (out-SplType a.what.kind)) o (unknown at name)

-- a limit is a number literal of the attribute's type, and in its range
abbrev pub as_limit : ℕ → IntKind → Option Number → Found ℕ
as_limit at kind o = fitting (λ n. same_types (S.Int n.kind) (S.Int kind) && kind_holds kind (pos n.value)) at o

-- the count that fires
abbrev pub trigger : Numbers → ℕ → List WindowPart → Found ℕ
trigger numbers at parts = of_first (bad_window at) (λ q others.
    after (if has_name (codes "count") q then only_count numbers 1 q q.arguments else bad_window q.name.at) (λ n. nothing_follows n others)) parts

abbrev pub sliding_alone : RuleReading
sliding_alone numbers schema at parts =
    of_first (bad_window at) (λ q others. after (sliding_rule numbers 0 schema q) (λ rule. nothing_follows (rule None) others)) parts

abbrev pub aggregate_policy : Numbers → Port → PortWindow → Found Policy
aggregate_policy numbers port w =
    let parts = partitioned_or_not w.parts in
    after (aggregate_rule numbers port.schema w.port.at parts.others) (λ rule. Ok (record { partitioned = parts.partitioned; rule = rule }))

abbrev pub join_policy : Numbers → Port → PortWindow → Found Policy
join_policy numbers port w = after (join_rule numbers port.schema w.port.at w.parts) (λ rule. Ok (record { partitioned = false; rule = rule }))
