-- Regions of operators that may run in replicas: what the meaning of an operator has to be for that, in its own words
-- (`IsLocal`, `IsStateless`, `Causes`, `IsCopy`), and which regions a graph has by the clauses of its operators
-- (`is_safe`, `IsPlan`).
--
-- A history has its newest event first. The operators here have one connection and one output port.
use Rattle.std.specs.Prelude.{◌≡◌, ◌≤◌, ◌⊎◌, ⊤, ℕ, zero, suc, ◌==◌, ◌&&◌, ◌||◌, not, Bool, true, false, List, [], ◌∷◌, ◌++◌, map, filter, length, take, slice_get, Option, Some, if◌then◌else◌}
use Rattle.std.specs.List.{AllByRecursion, concat, flat_map, list_all, list_any}
use Rattle.std.specs.Option.{option_and_then, option_map_or}
use Rattle.spl_value.specs.Key.{key_of}
use Rattle.spl_value.specs.declared.item.Item.{Item}
use Rattle.spl_value.specs.declared.item.Item.TheVariants as I
use Rattle.spl_value.specs.declared.routing.Routing.{Routing}
use Rattle.spl_value.specs.declared.routing.Routing.TheVariants as R
use Rattle.spl_value.specs.declared.value.Value.{Value}
use Rattle.spl_value.specs.Numbered.{Rule, ByTurns, ByNumbers, ByPulses}
use Rattle.language_model.specs.declared.outs.Output.{Output}
use Rattle.stream_model.specs.declared.plan.Gives.{Gives}
use Rattle.stream_model.specs.declared.plan.Gives.TheVariants as G
use Rattle.stream_model.specs.declared.plan.Merge.{Merge}
use Rattle.stream_model.specs.declared.plan.Merge.TheVariants as M
use Rattle.stream_model.specs.declared.plan.Region.{Region}
use Rattle.stream_model.specs.declared.plan.StateKind.{StateKind}
use Rattle.stream_model.specs.declared.plan.StateKind.TheVariants as K
use Rattle.stream_model.specs.Stream.{Event, came, is_empty, is_tuple}
use Rattle.spl_value.specs.KeyOrder.{same_key}
use Rattle.stream_model.specs.Operators.{Operator, connections, input_attributes}
use Rattle.stream_model.specs.React.{react}
use Rattle.stream_model.specs.Replies.{is_live}
use Rattle.stream_model.specs.StateKinds.{state_of, is_keyed, is_whole_state}
use Rattle.stream_model.specs.Copies.{source_of}
use Rattle.stream_model.specs.Selectivity.{gives, is_single}
use Rattle.stream_model.specs.Meaning.{Graph}

-- ---- what an operator's meaning depends on

abbrev pub has_key : List ℕ → List Value → Item → Bool
has_key places k (I.Tuple vs) = same_key k (key_of vs places)
has_key places k I.Window = false
has_key places k I.Final = false
has_key places k (I.Bad f) = false

-- the events that are tuples with this key, by the places of some attributes
abbrev pub tuples_of_key : List ℕ → List Value → List Event → List Event
tuples_of_key places k [] = []
tuples_of_key places k (e ∷ h) = if has_key places k e.item then e ∷ tuples_of_key places k h else tuples_of_key places k h

-- what a tuple causes depends on the tuples with its key alone, and what a marker or a fault causes on itself alone
pub record IsLocal (op : Operator) (places : List ℕ) : Type 0 where
  pub tuples : (h k : List Event) (vs : List Value) → is_live op h ≡ true → is_live op k ≡ true
      → tuples_of_key places (key_of vs places) h ≡ tuples_of_key places (key_of vs places) k
      → react op h (came 0 (I.Tuple vs)) ≡ react op k (came 0 (I.Tuple vs))
  pub others : (h k : List Event) (x : Item) → is_tuple x ≡ false → is_live op h ≡ true → is_live op k ≡ true
      → react op h (came 0 x) ≡ react op k (came 0 x)

-- what an event causes depends on the event alone
abbrev pub IsStateless : Operator → Type 0
IsStateless op = (h k : List Event) (x : Item) → is_live op h ≡ true → is_live op k ≡ true → react op h (came 0 x) ≡ react op k (came 0 x)

-- ---- how many items its events cause

abbrev pub IsCount : Gives → ℕ → Type 0
IsCount G.One n = n ≡ 1
IsCount G.AtMostOne n = n ≤ 1
IsCount G.Many n = ⊤

abbrev pub Causes : Gives → Operator → Type 0
Causes class op = (h : List Event) (x : Item) → is_live op h ≡ true → IsCount class (length (react op h (came 0 x)))

-- ---- copies

-- each tuple that is given is caused by a tuple whose attribute b equals its attribute a, and no marker causes a tuple
pub record IsCopy (op : Operator) (a b : ℕ) : Type 0 where
  pub tuples : (h : List Event) (vs us : List Value) (i : ℕ) (o : Output) → is_live op h ≡ true
      → slice_get (react op h (came 0 (I.Tuple vs))) i ≡ Some o → o.item ≡ I.Tuple us → slice_get us a ≡ slice_get vs b
  pub others : (h : List Event) (x : Item) (i : ℕ) (o : Output) → is_tuple x ≡ false → is_live op h ≡ true
      → slice_get (react op h (came 0 x)) i ≡ Some o → is_tuple o.item ≡ false

-- ---- chains of a graph

-- an operator may stand in a region: it has one connection and one output port, and its state, where it has one, is
-- kept by keys
abbrev pub is_eligible : Operator → Bool
is_eligible op = is_single (connections op) && (is_single op.outs && not (is_whole_state (state_of op)))

-- an operator reads the stream of the one before, which no other connection takes
abbrev pub follows : Graph → Operator → Operator → Bool
follows g op next =
    list_all (λ s. list_any (λ t. t == s) (connections next)
    && (length (filter (λ t. t == s) (concat (map connections g.ops))) == 1)) op.outs

abbrev pub is_chain : Graph → List Operator → Bool
is_chain g [] = true
is_chain g (op ∷ []) = is_eligible op
is_chain g (op ∷ next ∷ ops) = is_eligible op && (follows g op next && is_chain g (next ∷ ops))

-- ---- the key of a chain

-- one of an operator's keys is a copy of the attribute a of the stream that the chain reads, where `source` leads from
-- the attributes of the operator's input to those of that stream. An operator that isn't Keyed asks for none
abbrev pub has_copy : (ℕ → Option ℕ) → StateKind → ℕ → Bool
has_copy source K.Stateless a = true
has_copy source (K.Keyed places) a = list_any (λ p. option_map_or (λ b. b == a) (source p) false) places
has_copy source K.Whole a = true

abbrev pub all_have : (ℕ → Option ℕ) → List Operator → ℕ → Bool
all_have source [] a = true
all_have source (op ∷ ops) a =
    has_copy source (state_of op) a && all_have (λ p. option_and_then source (source_of op.clauses p)) ops a

abbrev pub any_keyed : List Operator → Bool
any_keyed ops = list_any (λ (op : Operator). is_keyed (state_of op)) ops

abbrev pub numbers_to : ℕ → List ℕ
numbers_to zero = []
numbers_to (suc n) = numbers_to n ++ n ∷ []

abbrev pub entry_attributes : List Operator → List ℕ
entry_attributes [] = []
entry_attributes (op ∷ ops) = numbers_to (length (input_attributes op 0))

-- the attributes of the stream that the chain reads of which each Keyed operator has a copy among its keys, in the
-- order of the schema; none where no operator is Keyed
abbrev pub chain_key : List Operator → List ℕ
chain_key ops = if any_keyed ops then filter (all_have (λ a. Some a) ops) (entry_attributes ops) else []

-- a chain without Keyed operators, or with a key
abbrev pub is_safe : Graph → List Operator → Bool
is_safe g ops = is_chain g ops && (not (any_keyed ops) || not (is_empty (chain_key ops)))

abbrev pub is_one_class : Gives → Bool
is_one_class G.One = true
is_one_class G.AtMostOne = false
is_one_class G.Many = false

-- by turns where each event causes one item and no operator is Keyed, by numbers where one is, and else by pulses
abbrev pub chain_merge : List Operator → Merge
chain_merge ops =
    if list_all (λ (op : Operator). is_one_class (gives op.clauses)) ops
    then (if any_keyed ops then M.Numbers else M.Turns) else M.Pulses

-- ---- how a region runs

-- the number of its channels, by the width of the run
abbrev pub width_of : Region → ℕ → ℕ
width_of region width = width

-- tuples go by the key where there is one, and else all items go in turn
abbrev pub routing_by : List ℕ → Routing
routing_by key = if is_empty key then R.Turns else R.Key key

-- how its merger knows that an item is the next
abbrev pub rule_of : Merge → Rule
rule_of M.Turns = ByTurns
rule_of M.Numbers = ByNumbers
rule_of M.Pulses = ByPulses

-- its splitter sends pulses
abbrev pub has_pulses : Rule → Bool
has_pulses ByTurns = false
has_pulses ByNumbers = false
has_pulses ByPulses = true

-- ---- plans

-- the operators with these numbers
abbrev pub ops_of : Graph → List ℕ → List Operator
ops_of g [] = []
ops_of g (n ∷ ns) = option_map_or (λ op. op ∷ ops_of g ns) (slice_get g.ops n) (ops_of g ns)

-- how often a number stands in a list
abbrev pub how_often : ℕ → List ℕ → ℕ
how_often n [] = 0
how_often n (m ∷ ms) = if m == n then suc (how_often n ms) else how_often n ms

-- the first are some of the others, in their order
abbrev pub IsPartOf : List ℕ → List ℕ → Type 0
IsPartOf [] ys = ⊤
IsPartOf (x ∷ xs) [] = ⊥
IsPartOf (x ∷ xs) (y ∷ ys) = ((x ≡ y) × IsPartOf xs ys) ⊎ IsPartOf (x ∷ xs) ys

-- a region of some operators: a safe chain that isn't safe with any further operator at its end, with the key and the
-- merge of the chain
pub record IsRegion (g : Graph) (region : Region) : Type 0 where
  pub some : is_empty region.ops ≡ false
  pub safe : is_safe g (ops_of g region.ops) ≡ true
  pub whole : list_any (λ n. is_safe g (ops_of g (region.ops ++ n ∷ []))) g.topo ≡ false
  pub key : region.key ≡ chain_key (ops_of g region.ops)
  pub merge : region.merge ≡ chain_merge (ops_of g region.ops)

-- the plan of a graph: each eligible operator stands in exactly one region, no other operator stands in one, and
-- regions stand in topological order of their first operators
pub record IsPlan (g : Graph) (plan : List Region) : Type 0 where
  pub regions : AllByRecursion (IsRegion g) plan
  pub once : (n : ℕ) → how_often n (concat (map (λ (r : Region). r.ops) plan))
      ≡ how_often n (filter (λ m. option_map_or is_eligible (slice_get g.ops m) false) g.topo)
  pub in_order : IsPartOf (flat_map (λ (r : Region). take 1 r.ops) plan) g.topo
