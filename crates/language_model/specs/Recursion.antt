-- Which functions and composites reach themselves.
use Rattle.std.specs.Prelude.{◌≡◌, ◌⊎◌, ℕ, ◌<◌, List, map, filter_map, Some, slice_get}
use Rattle.std.specs.Option.{option_map}
use Rattle.std.specs.List.{Contains}
use Rattle.std.specs.Str.{bytes_eq}
use Rattle.spl_tree.specs.declared.expression.Placed.{Placed}
use Rattle.spl_tree.specs.declared.unit.Definition.{Definition}
use Rattle.spl_tree.specs.Trees.{placed}
use Rattle.language_model.specs.Composites.{composites, functions}
use Rattle.language_model.specs.Mentions.{calls, block_mentions}
use Rattle.language_model.specs.Scopes.{first_from}

-- what calls: its name, and the names that it calls, in the order of the text
pub record Caller : Type 0 where
  pub name : List ℕ
  pub called : List (Placed (List ℕ))

abbrev pub function_callers : List Definition → List Caller
function_callers unit =
    map (λ f. record { name = f.name.what; called = calls (block_mentions f.body) }) (functions unit)

-- a composite calls what it invokes, at the first tokens of the invocations
abbrev pub composite_callers : List Definition → List Caller
composite_callers unit =
    map (λ c. record { name = c.name.what; called = map (λ i. placed i.at i.operator.what) c.graph }) (composites unit)

-- ---- calls by places

-- for each of some callers, the places of those among them that it calls, in the order of the text; what isn't among
-- them is left out
abbrev pub Calls : Type 0
Calls = List (List (Placed ℕ))

abbrev pub calls_among : List Caller → Calls
calls_among callers =
    map (λ c. filter_map (λ n. option_map (λ d. placed n.at d.place)
    (first_from (λ d. bytes_eq d.name n.what) 0 callers)) c.called) callers

-- the one at that place calls the other
pub record IsCall (calls : Calls) (from to : ℕ) : Type 0 where
  pub list : List (Placed ℕ)
  pub call : Placed ℕ
  pub of_caller : slice_get calls from ≡ Some list
  pub among : Contains list call
  pub callee : call.what ≡ to

-- the one at that place calls the other, or calls what leads to it
pub data Leads (calls : Calls) : ℕ → ℕ → Type 0 where
  directly : (from to : ℕ) → IsCall calls from to → Leads calls from to
  through : (from mid to : ℕ) → IsCall calls from mid → Leads calls mid to → Leads calls from to

-- a call that leads back to the place
abbrev pub IsBack : Calls → ℕ → Placed ℕ → Type 0
IsBack calls place call = (call.what ≡ place) ⊎ Leads calls call.what place

-- the first that reaches itself, and the first call in it that leads back
pub record IsFirstRecursion (calls : Calls) (place : ℕ) (at : ℕ) : Type 0 where
  pub before : (i : ℕ) → i < place → Leads calls i i → ⊥
  pub list : List (Placed ℕ)
  pub of_caller : slice_get calls place ≡ Some list
  pub number : ℕ
  pub call : Placed ℕ
  pub is_call : slice_get list number ≡ Some call
  pub back : IsBack calls place call
  pub first : (i : ℕ) (c : Placed ℕ) → i < number → slice_get list i ≡ Some c → IsBack calls place c → ⊥
  pub place_of : call.at ≡ at

-- ---- functions, and then composites

-- the first of these callers that reaches itself, by its name, at that call
pub record IsFirstIn (callers : List Caller) (n : Placed (List ℕ)) : Type 0 where
  pub place : ℕ
  pub caller : Caller
  pub found : slice_get callers place ≡ Some caller
  pub is_first : IsFirstRecursion (calls_among callers) place n.at
  pub name : caller.name ≡ n.what

abbrev pub HasNoRecursion : List Caller → Type 0
HasNoRecursion callers = (i : ℕ) → Leads (calls_among callers) i i → ⊥

pub data IsRecursive (unit : List Definition) (n : Placed (List ℕ)) : Type 0 where
  in_functions : IsFirstIn (function_callers unit) n → IsRecursive unit n
  in_composites : HasNoRecursion (function_callers unit) → IsFirstIn (composite_callers unit) n → IsRecursive unit n

pub record IsNotRecursive (unit : List Definition) : Type 0 where
  pub functions : HasNoRecursion (function_callers unit)
  pub composites : HasNoRecursion (composite_callers unit)
