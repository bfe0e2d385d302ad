-- The output attributes of an operator with what they get: those that are assigned, in the order of the text, and then
-- the others; or the first refusal.
use Rattle.std.specs.Prelude.{ℕ, suc, ◌==◌, List, [], ◌∷◌, ◌++◌, map, fold, if◌then◌else◌, codes, Option, Some, None, Ok}
use Rattle.std.specs.List.{list_any}
use Rattle.std.specs.Option.{option_map, option_map_or}
use Rattle.std.specs.Str.{bytes_eq}
use Rattle.spl_value.specs.declared.types.Named.{Named}
use Rattle.spl_value.specs.declared.types.SplType.{SplType}
use Rattle.spl_value.specs.declared.types.SplType.TheOpen as T
use Rattle.spl_value.specs.declared.types.SplType.TheOpen.{SplType-F}
use Rattle.spl_value.specs.declared.types.SplType.TheViews.{out-SplType}
use Rattle.spl_tree.specs.declared.code.Code.{Code}
use Rattle.spl_tree.specs.declared.code.Code.TheVariants as C
use Rattle.spl_tree.specs.declared.code.Slot.{Slot}
use Rattle.spl_tree.specs.declared.code.Slot.TheVariants as L
use Rattle.spl_tree.specs.declared.expression.ExprKind.{ExprKind}
use Rattle.spl_tree.specs.declared.expression.ExprKind.TheOpen as X
use Rattle.spl_tree.specs.declared.expression.ExprKind.TheOpen.{ExprKind-F}
use Rattle.spl_tree.specs.declared.expression.ExprKind.TheViews.{out-ExprKind}
use Rattle.spl_tree.specs.declared.expression.Field.{Field}
use Rattle.spl_tree.specs.declared.unit.OutputAssignments.{OutputAssignments}
use Rattle.spl_tree.specs.Trees.{Expr}
use Rattle.language_model.specs.declared.checked.CollectedAttribute.{CollectedAttribute}
use Rattle.language_model.specs.declared.checked.Collector.{Collector}
use Rattle.language_model.specs.declared.checked.Collector.TheVariants as K
use Rattle.language_model.specs.declared.checked.CollectorCall.{CollectorCall}
use Rattle.language_model.specs.declared.scope.CheckError.TheVariants as E
use Rattle.language_model.specs.declared.scope.Port.{Port}
use Rattle.language_model.specs.declared.scope.Scope.{Scope}
use Rattle.language_model.specs.After.{each}
use Rattle.language_model.specs.Scopes.{PortAttribute, attribute_of, attributes_of}
use Rattle.language_model.specs.Typing.{Found, Wanted, after, int32, looked_up, mismatch, refused, same_types, typing, unknown, wrong_call}

abbrev pub bad_output : {A : Type 0} → ℕ → Found A
bad_output at = refused E.BadOutput at None

-- ---- assignments

-- what is assigned to an attribute, by the type that is wanted of it, where it is known
abbrev pub Assigns : Type 0 → Type 0
Assigns A = Wanted → Expr → Found A

-- the places of attributes, each with what the attribute gets
abbrev pub Assigned : Type 0 → Type 0
Assigned A = List (ℕ × A)

-- the value is looked at first; and then whether the output has the attribute, and it isn't assigned before
abbrev pub assignment_typing : {A : Type 0} → Assigns A → List (Named SplType) → List ℕ → Field Expr → Found (ℕ × A)
assignment_typing assigns schema before f =
    after (assigns (option_map (λ a. a.what.kind) (attribute_of schema f.name.what)) f.value) (λ x.
    option_map_or (λ a. if list_any (λ n. n == a.place) before then bad_output f.name.at else Ok (a.place, x))
    (attribute_of schema f.name.what) (bad_output f.name.at))

-- after those with the places `before`, of which the last comes first
abbrev pub assignments_typing : {A : Type 0} → Assigns A → List (Named SplType) → List ℕ → List (Field Expr)
    → Found (Assigned A)
assignments_typing assigns schema before [] = Ok []
assignments_typing assigns schema before (f ∷ fs) =
    after (assignment_typing assigns schema before f) (λ x.
    after (assignments_typing assigns schema (x.0 ∷ before) fs) (λ rest. Ok (x ∷ rest)))

-- all of a clause, after those with the places `before`: each row is for the output of its name, which may come again
abbrev pub rows_typing : {A : Type 0} → Assigns A → List (Named SplType) → List ℕ → List ℕ → List OutputAssignments
    → Found (Assigned A)
rows_typing assigns schema output before [] = Ok []
rows_typing assigns schema output before (o ∷ os) =
    if bytes_eq o.stream.what output then after (assignments_typing assigns schema before o.assignments) (λ xs.
    after (rows_typing assigns schema output (fold (λ known x. x.0 ∷ known) before xs) os) (λ rest. Ok (xs ++ rest)))
    else unknown o.stream.at o.stream.what

-- ---- attributes without an assignment

-- what an attribute gets that has none, or the refusal at the invocation
abbrev pub Fills : Type 0 → Type 0
Fills A = Named SplType → Found A

abbrev pub filled_from : {A : Type 0} → Fills A → Assigned A → ℕ → List (Named SplType) → Found (Assigned A)
filled_from fills xs place [] = Ok []
filled_from fills xs place (a ∷ schema) =
    if list_any (λ x. x.0 == place) xs then filled_from fills xs (suc place) schema
    else after (fills a) (λ x. after (filled_from fills xs (suc place) schema) (λ rest. Ok ((place, x) ∷ rest)))

-- the assigned ones, and after them the others in the order of the output
abbrev pub with_others : {A : Type 0} → Fills A → List (Named SplType) → Assigned A → Found (Assigned A)
with_others fills schema xs = after (filled_from fills xs 0 schema) (λ rest. Ok (xs ++ rest))

-- the attribute of the name that exactly one port has, of the same type
abbrev pub one_attribute : ℕ → SplType → List PortAttribute → Found (Code Slot)
one_attribute at t (a ∷ []) =
    if same_types a.kind t then Ok (C.Name (L.Attribute a.port a.attribute)) else bad_output at
one_attribute at t attributes = bad_output at

abbrev pub taken_over : Scope → ℕ → Fills (Code Slot)
taken_over scope at a = one_attribute at a.kind (attributes_of scope a.name)

-- ---- tuples

-- the output of a Functor or a Join
abbrev pub tuple_typing : Scope → ℕ → List (Named SplType) → List ℕ → List OutputAssignments → Found (Code Slot)
tuple_typing scope at schema output rows =
    after (rows_typing (λ wanted e. after (typing scope e wanted) (λ t. Ok t.code)) schema output [] rows) (λ xs.
    after (with_others (taken_over scope at) schema xs) (λ all. Ok (C.Tuple all)))

-- ---- groups

-- the functions of the values in a group
pub data Collecting : Type 0 where
  Summing : Collecting
  Extreme : Collector → Collecting
  Choosing : Collector → Collecting
  Counting : Collecting

abbrev pub collecting_of : List ℕ → Option Collecting
collecting_of name =
    looked_up None ((codes "Sum", Some Summing) ∷ (codes "Min", Some (Extreme K.Min))
    ∷ (codes "Max", Some (Extreme K.Max))
    ∷ (codes "First", Some (Choosing K.First)) ∷ (codes "Any", Some (Choosing K.First))
    ∷ (codes "Last", Some (Choosing K.Last))
    ∷ (codes "Count", Some Counting) ∷ []) name

-- what an attribute gets, without its place
abbrev pub gathers : Collector → Code Slot → SplType → CollectorCall
gathers collector code t = record { collector = collector; argument = Some code; kind = t }

-- a sum is one of integers, and the least and the greatest are integers or texts
abbrev pub level_gathers : ℕ → Collecting → Code Slot → SplType → SplType-F SplType → Found CollectorCall
level_gathers at Summing code t (T.Int kind) = Ok (gathers (K.Sum kind) code t)
level_gathers at (Extreme collector) code t (T.Int kind) = Ok (gathers collector code t)
level_gathers at (Extreme collector) code t T.Text = Ok (gathers collector code t)
level_gathers at (Choosing collector) code t _ = Ok (gathers collector code t)
level_gathers at _ code t _ = mismatch at

-- one argument; `Count` has none
abbrev pub called_typing : Scope → ℕ → Collecting → List Expr → Found CollectorCall
called_typing scope at Counting [] = Ok (record { collector = K.Count; argument = None; kind = int32 })
called_typing scope at Counting es = wrong_call at
called_typing scope at collecting (e ∷ []) =
    after (typing scope e None) (λ t. level_gathers e.at collecting t.code t.kind (out-SplType t.kind))
called_typing scope at collecting es = wrong_call at

-- exactly one call of such a function
abbrev pub level_gathered : Scope → ℕ → ExprKind-F ExprKind → Found CollectorCall
level_gathered scope at (X.Call name es) =
    option_map_or (λ collecting. called_typing scope at collecting es) (collecting_of name) (mismatch at)
level_gathered scope at _ = mismatch at

-- and its type is the one that is wanted
abbrev pub assigned_group : Scope → Assigns CollectorCall
assigned_group scope wanted e = after (level_gathered scope e.at (out-ExprKind e.what)) (λ g.
    option_map_or (λ t. if same_types g.kind t then Ok g else mismatch e.at) wanted (Ok g))

-- the output of an Aggregate. What has no assignment gets the attribute of the group's last tuple
abbrev pub groups_typing : Scope → ℕ → List (Named SplType) → List ℕ → List OutputAssignments
    → Found (List CollectedAttribute)
groups_typing scope at schema output rows = after (rows_typing (assigned_group scope) schema output [] rows) (λ xs.
    after (with_others (λ a. after (taken_over scope at a) (λ code. Ok (gathers K.Last code a.kind))) schema xs) (λ all.
    Ok (map (λ x. record { attribute = x.0; collector = x.1.collector; argument = x.1.argument }) all)))

-- ---- Union

-- the places in an input of the output's attributes
abbrev pub places_typing : ℕ → List (Named SplType) → List (Named SplType) → Found (List ℕ)
places_typing at input schema =
    each (λ a. option_map_or (λ b. if same_types b.what.kind a.kind then Ok b.place
    else bad_output at) (attribute_of input a.name) (bad_output at))
    (λ place. place) schema

abbrev pub inputs_typing : ℕ → List (Named SplType) → List Port → Found (List (List ℕ))
inputs_typing at schema ports = each (λ p. places_typing at p.schema schema) (λ places. places) ports
