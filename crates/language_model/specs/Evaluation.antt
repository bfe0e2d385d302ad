-- The values of typed expressions: of a code over names, where each name has a value. Operands are evaluated from left
-- to right, `&& || ? :` evaluate only what they need, the first fault counts, and each call of a function takes one of
-- the turns.
use Rattle.std.specs.Prelude.{ℕ, zero, suc, ◌==◌, Bool, true, false, if◌then◌else◌, not, List, [], ◌∷◌, map, length, Option, None, Some, slice_get}
use Rattle.std.specs.List.{fold}
use Rattle.std.specs.Option.{option_map, option_and_then}
use Rattle.spl_value.specs.declared.value.Value.{Value}
use Rattle.spl_value.specs.declared.value.Value.TheVariants as V
use Rattle.spl_value.specs.declared.value.Value.TheViews.{out-Value}
use Rattle.spl_value.specs.Pairs.{pairs_put}
use Rattle.spl_tree.specs.declared.code.Code.{Code}
use Rattle.spl_tree.specs.declared.code.Code.TheOpen as C
use Rattle.spl_tree.specs.declared.code.Code.TheOpen.{Code-F}
use Rattle.spl_tree.specs.declared.code.Code.TheFolds.{fold-Code}
use Rattle.spl_tree.specs.declared.code.Selector.{Selector}
use Rattle.spl_tree.specs.declared.code.Selector.TheVariants as K
use Rattle.spl_tree.specs.declared.code.Slot.{Slot}
use Rattle.spl_tree.specs.declared.code.Slot.TheVariants as L
use Rattle.spl_tree.specs.declared.code.UnaryCode.{UnaryCode}
use Rattle.spl_tree.specs.declared.code.BinaryCode.{BinaryCode}
use Rattle.spl_tree.specs.declared.code.BinaryCode.TheVariants as D
use Rattle.spl_tree.specs.declared.code.Marker.{Marker}
use Rattle.spl_tree.specs.declared.code.Marker.TheVariants as M
use Rattle.language_model.specs.declared.env.Env.{Env}
use Rattle.language_model.specs.Outcomes.{Outcome, Done, followed, need, settled, enter}
use Rattle.language_model.specs.BuiltInCalls.{level_call}
use Rattle.language_model.specs.Operators.{binary_of, level_unary, level_member, level_element, level_at_key, level_truth}

-- ---- where an expression is evaluated

-- the values of names, and the marker that came where one did
pub record World (N : Type 0) : Type 0 where
  pub value_of : N → Option Value
  pub marker : Option Marker

-- from the world and the turns that there are
abbrev pub Meaning : Type 0 → Type 0
Meaning N = World N → ℕ → Outcome Value

-- the result of a call of the function at a place, from its arguments and the turns that there are
abbrev pub Calls : Type 0
Calls = ℕ → List Value → ℕ → Outcome Value

-- ---- rows of expressions

-- their values, or what else each of a row gives in one world or state, from left to right
abbrev pub all_of : {W A : Type 0} → List (W → ℕ → Outcome A) → W → ℕ → Outcome (List A)
all_of [] w turns = Done [] turns
all_of (m ∷ ms) w turns =
    followed (m w turns) (λ v turns. followed (all_of ms w turns) (λ vs turns. Done (v ∷ vs) turns))

abbrev pub pairs_of : {N : Type 0} → List (Meaning N × Meaning N) → World N → ℕ → Outcome (List (Value × Value))
pairs_of [] w turns = Done [] turns
pairs_of (m ∷ ms) w turns =
    followed (m.0 w turns) (λ k turns. followed (m.1 w turns) (λ v turns.
    followed (pairs_of ms w turns) (λ ps turns. Done ((k, v) ∷ ps) turns)))

-- values with their places in a tuple
abbrev pub fields_of : {N : Type 0} → List (ℕ × Meaning N) → World N → ℕ → Outcome (List (ℕ × Value))
fields_of [] w turns = Done [] turns
fields_of (m ∷ ms) w turns =
    followed (m.1 w turns) (λ v turns. followed (fields_of ms w turns) (λ fs turns. Done ((m.0, v) ∷ fs) turns))

-- the value at a place
abbrev pub field_at : ℕ → List (ℕ × Value) → Option Value
field_at i [] = None
field_at i (f ∷ fs) = if f.0 == i then Some f.1 else field_at i fs

-- the tuple whose attributes, this number of them from a place on, are these fields; each has one
abbrev pub tuple_from : ℕ → ℕ → List (ℕ × Value) → Option (List Value)
tuple_from i zero fs = Some []
tuple_from i (suc n) fs = option_and_then (λ v. option_map (λ vs. v ∷ vs) (tuple_from (suc i) n fs)) (field_at i fs)

abbrev pub tuple_of : List (ℕ × Value) → Option (List Value)
tuple_of fs = tuple_from 0 (length fs) fs

-- ---- what is taken of a value

abbrev pub taken : {N : Type 0} → Selector (Meaning N) → Value → World N → ℕ → Outcome Value
taken (K.Member i) v w turns = settled (level_member i (out-Value v)) turns
taken (K.Element m) v w turns =
    followed (m w turns) (λ n turns. settled (level_element (out-Value v) (out-Value n)) turns)
taken (K.AtKey m) v w turns = followed (m w turns) (λ k turns. settled (level_at_key (out-Value v) k) turns)

-- in turn
abbrev pub taken_all : {N : Type 0} → List (Selector (Meaning N)) → Value → World N → ℕ → Outcome Value
taken_all [] v w turns = Done v turns
taken_all (t ∷ ts) v w turns = followed (taken t v w turns) (λ u turns. taken_all ts u w turns)

-- ---- operators

-- the outermost first
abbrev pub unaries_of : List UnaryCode → Value → ℕ → Outcome Value
unaries_of [] v turns = Done v turns
unaries_of (op ∷ ops) v turns =
    followed (unaries_of ops v turns) (λ u turns. settled (level_unary op (out-Value u)) turns)

-- whether an expression is true
abbrev pub truth : {N : Type 0} → Meaning N → World N → ℕ → Outcome Bool
truth m w turns = followed (m w turns) (λ v turns. need (level_truth (out-Value v)) (λ b. Done b turns))

abbrev pub binary : {N : Type 0} → BinaryCode → Meaning N → Meaning N → Meaning N
binary D.And m n w turns = followed (truth m w turns) (λ b turns. if b then n w turns else Done (V.Bool false) turns)
binary D.Or m n w turns = followed (truth m w turns) (λ b turns. if b then Done (V.Bool true) turns else n w turns)
binary op m n w turns =
    followed (m w turns) (λ u turns. followed (n w turns) (λ v turns. settled (binary_of op u v) turns))

abbrev pub same_marker : Marker → Marker → Bool
same_marker M.Window M.Window = true
same_marker M.Final M.Final = true
same_marker _ _ = false

-- ---- expressions

-- of the pairs of a map with one key the last counts
abbrev pub level_value : {N : Type 0} → Calls → Code-F N (Meaning N) → Meaning N
level_value calls (C.Literal v) w turns = Done v turns
level_value calls (C.Name n) w turns = need (w.value_of n) (λ v. Done v turns)
level_value calls (C.List ms) w turns = followed (all_of ms w turns) (λ vs turns. Done (V.List vs) turns)
level_value calls (C.Map ms) w turns =
    followed (pairs_of ms w turns) (λ qs turns. Done (V.Map (fold (λ ps p. pairs_put ps p.0 p.1) [] qs)) turns)
level_value calls (C.Tuple ms) w turns =
    followed (fields_of ms w turns) (λ fs turns. need (tuple_of fs) (λ vs. Done (V.Tuple vs) turns))
level_value calls (C.Select m ts) w turns = followed (m w turns) (λ v turns. taken_all ts v w turns)
level_value calls (C.Unary ops m) w turns = followed (m w turns) (λ v turns. unaries_of ops v turns)
level_value calls (C.Binary op m n) w turns = binary op m n w turns
level_value calls (C.Conditional c m n) w turns =
    followed (truth c w turns) (λ b turns. if b then m w turns else n w turns)
level_value calls (C.BuiltIn call ms) w turns =
    followed (all_of ms w turns) (λ vs turns. settled (level_call call (map out-Value vs)) turns)
level_value calls (C.Call i ms) w turns =
    followed (all_of ms w turns) (λ vs turns. enter turns (λ turns. calls i vs turns))
level_value calls (C.IsMarker m) w turns = need w.marker (λ n. Done (V.Bool (same_marker m n)) turns)
level_value calls (C.IsNotMarker m) w turns = need w.marker (λ n. Done (V.Bool (not (same_marker m n))) turns)

-- the value of a code in a world, with the turns that it leaves, or its first fault, where functions are called so
abbrev pub code_value : {N : Type 0} → Calls → Code N → Meaning N
code_value {N} calls = fold-Code N (Meaning N) (level_value calls)

-- ---- slots

-- the value of a name by its place
abbrev pub slot_value : Env → Slot → Option Value
slot_value env (L.Variable i) = slice_get env.vars i
slot_value env (L.Attribute port i) = option_and_then (λ vs. slice_get vs i) (slice_get env.inputs port)
slot_value env (L.Port port) = option_map V.Tuple (slice_get env.inputs port)

abbrev pub world_of : Env → World Slot
world_of env = record { value_of = slot_value env; marker = env.punct }
