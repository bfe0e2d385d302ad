-- Names as they are written, what they mean in a scope, and their values. A code over slots is one over such names,
-- renamed.
use Rattle.std.specs.Prelude.{ℕ, ◌==◌, Bool, false, List, [], if◌then◌else◌, Option, Some, None, slice_get}
use Rattle.std.specs.Option.{option_map, option_map_or, option_and_then}
use Rattle.spl_tree.specs.declared.code.Code.{Code}
use Rattle.spl_tree.specs.declared.code.Code.TheVariants as S
use Rattle.spl_tree.specs.declared.code.Code.TheOpen as C
use Rattle.spl_tree.specs.declared.code.Code.TheOpen.{Code-F}
use Rattle.spl_tree.specs.declared.code.Code.TheFolds.{fold-Code}
use Rattle.spl_tree.specs.declared.code.Slot.{Slot}
use Rattle.spl_tree.specs.declared.code.Slot.TheVariants as L
use Rattle.language_model.specs.declared.env.Env.{Env}
use Rattle.language_model.specs.declared.scope.Port.{Port}
use Rattle.language_model.specs.declared.scope.Scope.{Scope}
use Rattle.language_model.specs.Evaluation.{World, slot_value}
use Rattle.language_model.specs.Scopes.{Meant, OfVariable, OfAttribute, OfPort, Nothing, meant, attribute_of}

-- a name by itself, or the name of an attribute after that of its port, `Port.attribute`
pub data Written : Type 0 where
  Bare : List ℕ → Written
  Of : List ℕ → List ℕ → Written

-- ---- from names to slots

abbrev pub meant_slot : Meant → Option Slot
meant_slot (OfVariable v) = Some (L.Variable v.place)
meant_slot (OfAttribute a) = Some (L.Attribute a.port a.attribute)
meant_slot (OfPort p) = Some (L.Port p.place)
meant_slot Nothing = None

abbrev pub attribute_slot : Meant → List ℕ → Option Slot
attribute_slot (OfPort p) name = option_map (λ a. L.Attribute p.place a.place) (attribute_of p.what.schema name)
attribute_slot _ name = None

-- what a name means, as the language looks it up
abbrev pub slot_of_written : Scope → Written → Option Slot
slot_of_written scope (Bare name) = meant_slot (meant scope name)
slot_of_written scope (Of port name) = attribute_slot (meant scope port) name

-- ---- from slots to names

-- what isn't in the scope has the empty name
abbrev pub no_name : Written
no_name = Bare []

abbrev pub is_port : ℕ → Meant → Bool
is_port i (OfPort p) = p.place == i
is_port i _ = false

-- an attribute of the port at a place: after the port's name where that means the port, else by itself
abbrev pub attribute_name : Scope → ℕ → Port → List ℕ → Written
attribute_name scope i p name = if is_port i (meant scope p.name) then Of p.name name else Bare name

-- the name of what stands at a slot
abbrev pub written : Scope → Slot → Written
written scope (L.Variable i) = option_map_or (λ v. Bare v.name) (slice_get scope.vars i) no_name
written scope (L.Attribute i j) =
    option_map_or (λ p. option_map_or (λ a. attribute_name scope i p a.name) (slice_get p.schema j) no_name) (slice_get scope.ports i) no_name
written scope (L.Port i) = option_map_or (λ p. Bare p.name) (slice_get scope.ports i) no_name

-- ---- codes over other names

abbrev pub level_renamed : {N M : Type 0} → (N → M) → Code-F N (Code M) → Code M
level_renamed f (C.Literal v) = S.Literal v
level_renamed f (C.Name n) = S.Name (f n)
level_renamed f (C.List xs) = S.List xs
level_renamed f (C.Map xs) = S.Map xs
level_renamed f (C.Tuple fs) = S.Tuple fs
level_renamed f (C.Select x steps) = S.Select x steps
level_renamed f (C.Unary ops x) = S.Unary ops x
level_renamed f (C.Binary op x y) = S.Binary op x y
level_renamed f (C.Conditional c x y) = S.Conditional c x y
level_renamed f (C.BuiltIn call xs) = S.BuiltIn call xs
level_renamed f (C.Call i xs) = S.Call i xs
level_renamed f (C.IsMarker m) = S.IsMarker m
level_renamed f (C.IsNotMarker m) = S.IsNotMarker m

-- the code with another name in the place of each
abbrev pub renamed : {N M : Type 0} → (N → M) → Code N → Code M
renamed {N} {M} f = fold-Code N (Code M) (level_renamed f)

-- where each name has the value of the one that takes its place
abbrev pub before_renaming : {N M : Type 0} → (N → M) → World M → World N
before_renaming f w = record { value_of = λ n. w.value_of (f n); marker = w.marker }

-- where each name has the value of what it means
abbrev pub named_world : Scope → Env → World Written
named_world scope env = record { value_of = λ name. option_and_then (slot_value env) (slot_of_written scope name); marker = env.punct }
