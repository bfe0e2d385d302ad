-- The values of the parameters of one composite while they are settled one by one.
use Rattle.std.specs.Prelude.{◌≡◌, ◌≤◌, ◌-◌, ℕ, suc, Bool, true, false, if◌then◌else◌, List, [], ◌∷◌, ◌++◌, length, Some, slice_get, slice_index_or}
use Rattle.std.specs.List.{Contains}
use Rattle.spl_tree.specs.declared.unit.CompositeParameter.{CompositeParameter}
use Rattle.spl_tree.specs.declared.unit.Parameter.{Parameter}
use Rattle.language_model.specs.declared.scope.Dollar.{Dollar}
use Rattle.language_model.specs.declared.scope.Typed.{Typed}
use Rattle.language_model.specs.Parameters.{has_meaning, own_within, parameter_leads, parameter_typing}
use Rattle.language_model.specs.TypeNames.{Types}
use Rattle.language_model.specs.Typing.{Found}

-- the parameters of a composite, with what is given for them
pub record Given : Type 0 where
  pub types : Types
  pub outer : List Dollar
  pub arguments : List Parameter
  pub parameters : List CompositeParameter

-- their values, with defaults followed to the depth `count`
abbrev pub table : Given → ℕ → List Dollar
table g count = own_within count g.types g.outer g.arguments g.parameters

-- the value of a parameter, where these are the values of those that its default mentions
abbrev pub found_in : Given → List Dollar → CompositeParameter → Found Typed
found_in g own p = parameter_typing g.types g.outer own g.arguments p

-- in the end
abbrev pub found_at_last : Given → CompositeParameter → Found Typed
found_at_last g p = found_in g (table g (length g.parameters - 1)) p

abbrev pub means : Given → ℕ → CompositeParameter → Bool
means g place p = has_meaning g.parameters g.arguments place p

-- those that are marked
abbrev pub marked : (CompositeParameter → Found Typed) → List Bool → List CompositeParameter → List Dollar
marked found (b ∷ bs) (p ∷ ps) = (if b then record { name = p.name.what; found = found p } ∷ [] else []) ++ marked found bs ps
marked found _ _ = []

abbrev pub is_marked : List Bool → ℕ → Bool
is_marked marks place = slice_index_or marks place false

-- how many are marked
abbrev pub marks_in : List Bool → ℕ
marks_in [] = 0
marks_in (true ∷ bs) = suc (marks_in bs)
marks_in (false ∷ bs) = marks_in bs

-- the marked ones have a meaning, and their values are final as soon as defaults are followed as often
-- as others are marked
pub record AreSettled (g : Given) (marks : List Bool) : Type 0 where
  pub size : length marks ≡ length g.parameters
  pub only : (place : ℕ) (p : CompositeParameter) → slice_get g.parameters place ≡ Some p → is_marked marks place ≡ true → means g place p ≡ true
  pub early : (place count : ℕ) (p : CompositeParameter) → slice_get g.parameters place ≡ Some p → is_marked marks place ≡ true → marks_in marks ≤ suc count
      → found_in g (table g count) p ≡ found_at_last g p

abbrev pub settled_table : Given → List Bool → List Dollar
settled_table g marks = marked (found_at_last g) marks g.parameters

-- it is settled, or has no meaning
abbrev pub IsDone : Given → List Bool → ℕ → Type 0
IsDone g marks place = (p : CompositeParameter) → slice_get g.parameters place ≡ Some p → means g place p ≡ true → is_marked marks place ≡ true

-- what its default leads to is done
abbrev pub IsReady : Given → List Bool → ℕ → Type 0
IsReady g marks place = (next : ℕ) → Contains (parameter_leads g.parameters g.arguments place) next → IsDone g marks next

-- no mark is taken away
abbrev pub Keeps : List Bool → List Bool → Type 0
Keeps old new = (place : ℕ) → is_marked old place ≡ true → is_marked new place ≡ true
