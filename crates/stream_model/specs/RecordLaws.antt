-- Laws of arrival and of whole records.
use Rattle.std.specs.Prelude.{ℕ, ◌<◌, ◌==◌, true, false, List, [], ◌∷◌, ◌++◌, ◌≡◌, length, Some}
use Rattle.spl_value.specs.declared.item.Item.{Item}
use Rattle.spl_value.specs.declared.item.Item.TheVariants as I
use Rattle.stream_model.specs.Stream.{Event, came, is_closed, IsPrefix}
use Rattle.stream_model.specs.Inputs.{inputs_of, came_on}
use Rattle.stream_model.specs.Operators.{Operator, ports}
use Rattle.stream_model.specs.Stages.{start}
use Rattle.stream_model.specs.Meaning.{Lists, arrive}
use Rattle.stream_model.specs.Ends.{end_from}
use Rattle.stream_model.specs.Laws.{has_ended}
use Rattle.stream_model.specs.Records.{is_whole, all_items, input_after_input}
use Rattle.stream_model.specs.parts.Records.{names_inputs, finds_items}

-- the events that a record takes come on the inputs that its entries name, in their order, up to an entry whose list is used up
abbrev pub EntriesLaw : Type 0
EntriesLaw = (lists : Lists) (entries : List ℕ) → IsPrefix (inputs_of (arrive lists entries)) entries
    × (finds_items lists entries ≡ true → inputs_of (arrive lists entries) ≡ entries)

-- the items that come on an input are those of its list, from the first on
abbrev pub ItemsLaw : Type 0
ItemsLaw = (lists : Lists) (entries : List ℕ) (i : ℕ) → IsPrefix (came_on (λ j. j == i) (arrive lists entries)) (lists i)

-- where each entry so far found an item, one more takes the first item that is left of the list that it names
abbrev pub NextItemLaw : Type 0
NextItemLaw = (lists : Lists) (entries : List ℕ) (i : ℕ) (x : Item) (left : List Item) → finds_items lists entries ≡ true
    → lists i ≡ came_on (λ j. j == i) (arrive lists entries) ++ x ∷ left → arrive lists (entries ++ i ∷ []) ≡ arrive lists entries ++ came i x ∷ []

-- where nothing is left of it, the events stop there
abbrev pub NothingLeftLaw : Type 0
NothingLeftLaw = (lists : Lists) (entries : List ℕ) (i : ℕ) (more : List ℕ) → finds_items lists entries ≡ true
    → lists i ≡ came_on (λ j. j == i) (arrive lists entries) → arrive lists (entries ++ i ∷ more) ≡ arrive lists entries

-- each entry names an input and finds an item, and the operator ends at the last event, and not before
pub record IsWhole (op : Operator) (lists : Lists) (entries : List ℕ) : Type 0 where
  pub named : names_inputs op entries ≡ true
  pub found : length (arrive lists entries) ≡ length entries
  pub front : List Event
  pub last : Event
  pub are : arrive lists entries ≡ front ++ last ∷ []
  pub before : has_ended op front ≡ false
  pub ended : has_ended op (front ++ last ∷ []) ≡ true

-- the test says so
abbrev pub WholeLaw : Type 0
WholeLaw = (op : Operator) (lists : Lists) (entries : List ℕ) →
    (is_whole op lists entries ≡ true → IsWhole op lists entries) × (IsWhole op lists entries → is_whole op lists entries ≡ true)

-- where the events of a record end an operator by a final marker, they use up the closed list of each input
abbrev pub UsedUpLaw : Type 0
UsedUpLaw = (op : Operator) (lists : Lists) (entries : List ℕ) (i : ℕ) → end_from (start op) (arrive lists entries) ≡ Some I.Final
    → i < length (ports op) → is_closed (lists i) ≡ true → came_on (λ j. j == i) (arrive lists entries) ≡ lists i

-- the record that takes input after input until an operator with inputs ends is whole for closed lists, and a front of the entries
-- for all items
abbrev pub OneAfterAnotherLaw : Type 0
OneAfterAnotherLaw = (op : Operator) (lists : Lists) →
    IsPrefix (input_after_input op lists) (all_items op lists)
    × (0 < length (ports op) → ((i : ℕ) → i < length (ports op) → is_closed (lists i) ≡ true) → is_whole op lists (input_after_input op lists) ≡ true)
