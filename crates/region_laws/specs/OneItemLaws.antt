-- What replicas give where each event causes exactly one item: as many items as they took, up to where they end.
use Rattle.std.specs.Prelude.{◌≡◌, ◌<◌, ◌==◌, ◌+◌, ◌*◌, ℕ, true, false, List, [], ◌∷◌, Some, slice_get}
use Rattle.std.specs.List.{AllByRecursion, list_all}
use Rattle.spl_value.specs.declared.item.Item.{Item}
use Rattle.spl_value.specs.declared.routing.Routing.{Routing}
use Rattle.spl_value.specs.declared.routing.Routing.TheVariants.{Turns}
use Rattle.spl_value.specs.Numbered.{Rises}
use Rattle.spl_value.specs.Route.{part}
use Rattle.language_model.specs.declared.outs.Output.{Output}
use Rattle.language_model.specs.CheckedGraph.{CheckedGraph}
use Rattle.language_model.specs.Keeping.{Keeps}
use Rattle.stream_model.specs.declared.plan.Gives.TheVariants as G
use Rattle.stream_model.specs.declared.plan.Merge.TheVariants as M
use Rattle.stream_model.specs.declared.plan.Region.{Region}
use Rattle.stream_model.specs.Fitting.{IsFitting}
use Rattle.stream_model.specs.CheckedMeaning.{graph_of}
use Rattle.stream_model.specs.Operators.{Operator}
use Rattle.stream_model.specs.React.{Gives, body, react}
use Rattle.stream_model.specs.Regions.{IsPlan, ops_of}
use Rattle.stream_model.specs.Replies.{is_live}
use Rattle.stream_model.specs.Selectivity.{gives}
use Rattle.stream_model.specs.Stages.{on_port}
use Rattle.stream_model.specs.Stream.{Event, IsPrefix, any_closes, came}
use Rattle.region_laws.specs.NumberLaws.{item_numbers}
use Rattle.stream_model.specs.Replicas.{replica}
use Rattle.region_laws.specs.ReplicaState.{without_numbers}

-- an operator with one connection and one output port, each event of which causes exactly one item there while the
-- operator hasn't ended
pub record GivesOne (op : Operator) : Type 0 where
  pub input : ℕ
  pub reads : op.ins ≡ (input ∷ []) ∷ []
  pub stream : ℕ
  pub writes : op.outs ≡ stream ∷ []
  pub one : (h : List Event) (x : Item) → is_live op h ≡ true
      → (y : Item) × (on_port 0 (react op h (came 0 x)) ≡ y ∷ [])

-- the items that a chain of such operators gives have the numbers of those that it took, one by one; all of these where
-- it hasn't ended
abbrev pub OneLaw : Type 0
OneLaw = (ops : List Operator) (ps : List (ℕ × Item)) → AllByRecursion GivesOne ops
    → IsPrefix (item_numbers (replica ops ps)) (item_numbers ps)
    × (any_closes (without_numbers (replica ops ps)) ≡ false → item_numbers (replica ops ps) ≡ item_numbers ps)

-- so by turns item k of channel c has the number k * width + c
abbrev pub TurnLaw : Type 0
TurnLaw = (ops : List Operator) (width c : ℕ) (items : List Item) (k : ℕ) (p : ℕ × Item)
    → AllByRecursion GivesOne ops → c < width
    → slice_get (replica ops (part Turns width items c)) k ≡ Some p → p.0 ≡ k * width + c

-- and on each channel the numbers rise
abbrev pub RiseLaw : Type 0
RiseLaw = (ops : List Operator) (routing : Routing) (width c : ℕ) (items : List Item) → AllByRecursion GivesOne ops
    → Rises 0 (item_numbers (replica ops (part routing width items c)))

-- what the body of an operator gives stands on its first output port
abbrev pub GivesFirst : Operator → Type 0
GivesFirst op = (h : List Event) (e : Event) (outs : List Output) → body op h e ≡ Gives outs
    → list_all (λ o. o.port == 0) outs ≡ true

-- so it is of an operator with one output port whose clauses fit
abbrev pub FirstPortLaw : Type 0
FirstPortLaw = (op : Operator) (t : ℕ) → IsFitting op → op.outs ≡ t ∷ [] → GivesFirst op

-- and where the clauses give One besides, each event of it causes exactly one item there
abbrev pub ClassOneLaw : Type 0
ClassOneLaw = (op : Operator) (s t : ℕ) → IsFitting op → op.ins ≡ (s ∷ []) ∷ [] → op.outs ≡ t ∷ []
    → gives op.clauses ≡ G.One → GivesOne op

-- so of a region of a checked program that doesn't merge by pulses
abbrev pub MergeOneLaw : Type 0
MergeOneLaw = (c : CheckedGraph) (plan : List Region) (i : ℕ) (region : Region) → Keeps c
    → IsPlan (graph_of c) plan → slice_get plan i ≡ Some region
    → (region.merge ≡ M.Pulses → ⊥) → AllByRecursion GivesOne (ops_of (graph_of c) region.ops)
