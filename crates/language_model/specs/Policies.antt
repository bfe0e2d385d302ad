-- The windows that operators have, as they are written, or the first refusal, in the order of the text.
use Rattle.std.specs.Prelude.{ℕ, pos, ◌==◌, nat_le, Bool, true, false, ◌&&◌, List, [], ◌∷◌, if◌then◌else◌, codes, Option, Some, None, Ok, is_none}
use Rattle.std.specs.List.{list_any}
use Rattle.std.specs.Option.{option_map_or}
use Rattle.std.specs.Str.{bytes_eq}
use Rattle.spl_value.specs.declared.types.IntKind.{IntKind}
use Rattle.spl_value.specs.declared.types.Named.{Named}
use Rattle.spl_value.specs.declared.types.SplType.{SplType}
use Rattle.spl_value.specs.declared.types.SplType.TheOpen as O
use Rattle.spl_value.specs.declared.types.SplType.TheOpen.{SplType-F}
use Rattle.spl_value.specs.declared.types.SplType.TheVariants as S
use Rattle.spl_value.specs.declared.types.SplType.TheViews.{out-SplType}
use Rattle.spl_value.specs.Values.{kind_holds}
use Rattle.spl_tree.specs.declared.expression.ExprKind.{ExprKind}
use Rattle.spl_tree.specs.declared.expression.ExprKind.TheOpen as X
use Rattle.spl_tree.specs.declared.expression.ExprKind.TheOpen.{ExprKind-F}
use Rattle.spl_tree.specs.declared.expression.ExprKind.TheViews.{out-ExprKind}
use Rattle.spl_tree.specs.declared.token.Number.{Number}
use Rattle.spl_tree.specs.declared.unit.PortWindow.{PortWindow}
use Rattle.spl_tree.specs.declared.unit.WindowPart.{WindowPart}
use Rattle.spl_tree.specs.Trees.{Expr}
use Rattle.language_model.specs.declared.checked.Policy.{Policy}
use Rattle.language_model.specs.declared.checked.WindowRule.{WindowRule}
use Rattle.language_model.specs.declared.checked.WindowRule.TheVariants as W
use Rattle.language_model.specs.declared.scope.CheckError.TheVariants as E
use Rattle.language_model.specs.declared.scope.Port.{Port}
use Rattle.language_model.specs.Scopes.{At, attribute_of, first_from}
use Rattle.language_model.specs.Typing.{Found, after, refused, same_types, unknown}

abbrev pub bad_window : {A : Type 0} → ℕ → Found A
bad_window at = refused E.BadWindow at None

-- what `f` makes of the first of a list and of those after it, or `d` where the list is empty
abbrev pub of_first : {A B : Type 0} → B → (A → List A → B) → List A → B
of_first d f [] = d
of_first d f (x ∷ xs) = f x xs

-- ---- numbers and attributes

-- the number literal that an expression means, or nothing, or the refusal of a `$` parameter
abbrev pub Numbers : Type 0
Numbers = Expr → Found (Option Number)

abbrev pub most_tuples : ℕ
most_tuples = 1000000

-- the value of a number literal that passes the test
abbrev pub fitting : (Number → Bool) → ℕ → Option Number → Found ℕ
fitting test at o = option_map_or (λ n. if test n then Ok n.value else bad_window at) o (bad_window at)

-- a number of tuples, at least `least`, as the one argument of a part
abbrev pub only_count : Numbers → ℕ → WindowPart → Option (List Expr) → Found ℕ
only_count numbers least p (Some (e ∷ [])) =
    after (numbers e) (fitting (λ n. nat_le least n.value && nat_le n.value most_tuples) e.at)
only_count numbers least p arguments = bad_window p.name.at

-- an attribute of an integer type, by its name
pub record IntegerAttribute : Type 0 where
  pub place : ℕ
  pub kind : IntKind

abbrev pub level_integer : ℕ → ℕ → SplType-F SplType → Found IntegerAttribute
level_integer at place (O.Int kind) = Ok (record { place = place; kind = kind })
level_integer at place _ = bad_window at

abbrev pub level_attribute : List (Named SplType) → ℕ → ExprKind-F ExprKind → Found IntegerAttribute
level_attribute schema at (X.Name name) =
    option_map_or (λ a. level_integer at a.place (out-SplType a.what.kind)) (attribute_of schema name) (unknown at name)
level_attribute schema at _ = bad_window at

pub record Delta : Type 0 where
  pub attribute : ℕ
  pub limit : ℕ

-- an attribute and a limit, which is a number literal of the attribute's type, and in its range
abbrev pub delta_of : Numbers → List (Named SplType) → WindowPart → Option (List Expr) → Found Delta
delta_of numbers schema p (Some (a ∷ e ∷ [])) =
    after (level_attribute schema a.at (out-ExprKind a.what)) (λ found. after (numbers e) (λ o.
    after (fitting (λ n. same_types (S.Int n.kind) (S.Int found.kind) && kind_holds found.kind (pos n.value)) e.at o)
    (λ limit.
    Ok (record { attribute = found.place; limit = limit }))))
delta_of numbers schema p arguments = bad_window p.name.at

-- ---- parts

abbrev pub has_name : List ℕ → WindowPart → Bool
has_name name p = bytes_eq p.name.what name

-- a word alone
abbrev pub is_word : List ℕ → WindowPart → Bool
is_word name p = has_name name p && is_none p.arguments

-- a window with a number of tuples or a limit: which it is, from either
abbrev pub measured : {A : Type 0} → Numbers → ℕ → List (Named SplType) → (ℕ → A) → (Delta → A) → Found A → WindowPart
    → Found A
measured numbers least schema by_count by_delta other p =
    if has_name (codes "count") p then after (only_count numbers least p p.arguments) (λ n. Ok (by_count n))
    else if has_name (codes "delta") p then after (delta_of numbers schema p p.arguments) (λ d. Ok (by_delta d))
    else other

-- what is found, where no part follows
abbrev pub nothing_follows : {A : Type 0} → A → List WindowPart → Found A
nothing_follows x ps = of_first (Ok x) (λ p others. bad_window p.name.at) ps

abbrev pub are_no_arguments : Option (List Expr) → Bool
are_no_arguments (Some []) = true
are_no_arguments _ = false

-- `punct()`
abbrev pub punctuated : WindowPart → Found WindowRule
punctuated p =
    if has_name (codes "punct") p && are_no_arguments p.arguments then Ok W.TumblingPunct else bad_window p.name.at

-- how the parts of a window are read, whose port has these attributes and stands at that place
abbrev pub RuleReading : Type 0
RuleReading = Numbers → List (Named SplType) → ℕ → List WindowPart → Found WindowRule

-- after `tumbling`
abbrev pub tumbling : RuleReading
tumbling numbers schema at [] = bad_window at
tumbling numbers schema at (p ∷ ps) =
    after (measured numbers 1 schema W.TumblingCount (λ d. W.TumblingDelta d.attribute (pos d.limit)) (punctuated p) p)
    (λ rule. nothing_follows rule ps)

-- what slides: tuples that are kept, by the count that fires
abbrev pub sliding_rule : Numbers → ℕ → List (Named SplType) → WindowPart → Found (Option ℕ → WindowRule)
sliding_rule numbers least schema p =
    measured numbers least schema (λ n every. W.SlidingCount n every)
    (λ d every. W.SlidingDelta d.attribute (pos d.limit) every) (bad_window p.name.at) p

-- after `sliding`: what is kept, and then the count that fires
abbrev pub sliding_with_trigger : RuleReading
sliding_with_trigger numbers schema at [] = bad_window at
sliding_with_trigger numbers schema at (p ∷ ps) =
    after (sliding_rule numbers 1 schema p) (λ rule. after (of_first (bad_window at) (λ q others.
    after (if has_name (codes "count") q then only_count numbers 1 q q.arguments
    else bad_window q.name.at) (λ n. nothing_follows n others)) ps) (λ every.
    Ok (rule (Some every))))

-- ---- windows

-- the parts of a window of an Aggregate, at its port's name
abbrev pub aggregate_rule : RuleReading
aggregate_rule numbers schema at [] = bad_window at
aggregate_rule numbers schema at (p ∷ ps) =
    if is_word (codes "tumbling") p then tumbling numbers schema at ps
    else if is_word (codes "sliding") p then sliding_with_trigger numbers schema at ps
    else bad_window p.name.at

-- and of a Join: after `sliding` what is kept, alone
abbrev pub join_rule : RuleReading
join_rule numbers schema at [] = bad_window at
join_rule numbers schema at (p ∷ ps) = if is_word (codes "sliding") p
    then of_first (bad_window at) (λ q others. after (sliding_rule numbers 0 schema q)
    (λ rule. nothing_follows (rule None) others)) ps
    else bad_window p.name.at

-- whether the last part is `partitioned`, and the parts without it
pub record Parts : Type 0 where
  pub partitioned : Bool
  pub others : List WindowPart

abbrev pub partitioned_last : List WindowPart → Parts
partitioned_last [] = record { partitioned = false; others = [] }
partitioned_last (p ∷ []) =
    if is_word (codes "partitioned") p then record { partitioned = true; others = [] }
    else record { partitioned = false; others = p ∷ [] }
partitioned_last (p ∷ ps) = record (partitioned_last ps) { others = p ∷ (partitioned_last ps).others }

-- `partitioned` stands first or last, or not at all
abbrev pub partitioned_or_not : List WindowPart → Parts
partitioned_or_not [] = record { partitioned = false; others = [] }
partitioned_or_not (p ∷ ps) =
    if is_word (codes "partitioned") p then record { partitioned = true; others = ps } else partitioned_last (p ∷ ps)

-- ---- a clause

-- the windows of ports, by their numbers, in the order of the text: each of a port of its name, none of one that has
-- one
abbrev pub window_of : (Port → PortWindow → Found Policy) → List ℕ → PortWindow → Option (At Port) → Found (ℕ × Policy)
window_of policy given w o =
    option_map_or (λ port. if list_any (λ n. n == port.place) given
    then refused E.ExtraParameter w.port.at (Some (codes "window"))
    else after (policy port.what w) (λ x. Ok (port.place, x))) o (unknown w.port.at w.port.what)

abbrev pub windows_typing : (Port → PortWindow → Found Policy) → List Port → List ℕ → List PortWindow
    → Found (List (ℕ × Policy))
windows_typing policy ports given [] = Ok []
windows_typing policy ports given (w ∷ ws) =
    after (window_of policy given w (first_from (λ p. bytes_eq p.name w.port.what) 0 ports)) (λ x.
    after (windows_typing policy ports (x.0 ∷ given) ws) (λ rest. Ok (x ∷ rest)))

-- the window of a port, or the refusal at the invocation where one is missing
abbrev pub window_at : ℕ → ℕ → List (ℕ × Policy) → Found Policy
window_at at port [] = bad_window at
window_at at port (x ∷ xs) = if x.0 == port then Ok x.1 else window_at at port xs
