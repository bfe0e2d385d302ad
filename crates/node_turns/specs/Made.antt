-- How a node is made, and what it has.
use Rattle.std.specs.Prelude.{◌≡◌, ◌<◌, ◌^◌, ℕ, Bool, false, List, [], length, Option, Some, None, slice_index_or}
use Rattle.spl_value.specs.declared.item.Item.{Item}
use Rattle.network_model.specs.Networks.{Part, inputs, outputs, is_sourced}
use Rattle.network_model.specs.States.{At, new_element}
use Rattle.ordered_link.specs.Ends.{sent, taken}
use Rattle.node_turns.specs.declared.ends.Inlet.{Inlet}
use Rattle.node_turns.specs.declared.ends.Outlet.{Outlet}
use Rattle.node_turns.specs.declared.node.Apart.{Apart}
use Rattle.node_turns.specs.declared.node.Node.{Node}
use Rattle.node_turns.specs.Calls.{Tuples}

abbrev pub number_of : {E S K : Type 0} → Node E S K → ℕ
number_of n = n.number

abbrev pub apart_of : {E S K : Type 0} → Node E S K → Apart E S K
apart_of n = record {
  number = n.number;
  element = n.element;
  ins = n.ins;
  outs = n.outs;
  source = n.source;
  sink = n.sink;
  note = n.note;
}

-- a new reader of the source of this part, and none where it has no source
abbrev pub IsReader : {S : Type 0} → (S → Part → List Item → S → Type 0) → (S → Bool) → Part → Option S → Type 0
IsReader gave over part None = is_sourced part ≡ false
IsReader gave over part (Some s) = gave s part [] s × (over s ≡ false)

-- a new writer, where there is one
abbrev pub IsWriter : {K : Type 0} → (K → Tuples → K → Type 0) → Option K → Type 0
IsWriter took None = Unit {0}
IsWriter took (Some k) = took k [] k

-- what a node of this part is made of: a new element, an end for each input and output over which nothing went, and a
-- new
-- reader and a new writer
pub record IsMadeFor {E S K : Type 0} (stands : E → Part → At → Tuples → Type 0) (gave : S → Part → List Item → S
    → Type 0)
    (over : S → Bool) (took : K → Tuples → K → Type 0) (part : Part) (element : E) (ins : List Inlet) (outs : List
    Outlet)
    (source : Option S) (sink : Option K) : Type 0 where
  pub new : stands element part new_element []
  pub few : inputs part < 2 ^ 32
  pub input_count : length ins ≡ inputs part
  pub output_count : length outs ≡ outputs part
  pub untaken : (i : ℕ) (d : Inlet) → i < length ins → taken (slice_index_or ins i d).pass ≡ []
  pub unsent : (o : ℕ) (d : Outlet) → o < length outs → sent (slice_index_or outs o d).pass ≡ []
  pub reader : IsReader gave over part source
  pub writer : IsWriter took sink
