-- An element, its ends of the links, its source and its sink belong together: the element stands for what went over the
-- links, what was read and what was written, and is cut exactly as the note says.
use Rattle.std.specs.Prelude.{◌≡◌, ◌<◌, ◌≤◌, ◌^◌, ◌⊎◌, ◌||◌, ℕ, Bool, true, false, List, [], length, Option, Some, None}
use Rattle.std.specs.List.{list_any}
use Rattle.spl_value.specs.declared.item.Item.{Item}
use Rattle.stream_model.specs.Stream.{IsPrefix, any_closes}
use Rattle.feed_pour.specs.Counts.{Rose}
use Rattle.network_model.specs.Networks.{Part, inputs, outputs, is_sourced}
use Rattle.network_model.specs.Receipts.{read_in}
use Rattle.network_model.specs.States.{At, all_taken, is_cut_receipt}
use Rattle.ordered_link.specs.declared.ends.Link.{Link}
use Rattle.node_turns.specs.declared.ends.Inlet.{Inlet}
use Rattle.node_turns.specs.declared.ends.Outlet.{Outlet}
use Rattle.node_turns.specs.declared.node.Node.{Node}
use Rattle.node_turns.specs.declared.note.Note.{Note}
use Rattle.node_turns.specs.Calls.{HasStopped, StillReads, Tuples}
use Rattle.node_turns.specs.Notes.{is_clean, is_improper, is_stopping, is_unwritten}
use Rattle.node_turns.specs.Placed.{InsPlaced, OutsPlaced, SentIs, TakenIs}

-- these items were read of the source, and it is over where one of them closes the stream; or it is spent, and the
-- element
-- is cut
abbrev pub Reads : {S : Type 0} → (S → Part → List Item → S → Type 0) → (S → List Item → Type 0) → (S → Bool)
    → Part → Option S → Option S → List Item → Bool → Type 0
Reads gave front over part None None items cut = (items ≡ []) × (is_sourced part ≡ false)
Reads gave front over part (Some first) (Some now) items cut =
    (gave first part items now × (over now ≡ any_closes items)) ⊎ (front first items × (cut ≡ true))
Reads gave front over part None (Some now) items cut = ⊥
Reads gave front over part (Some first) None items cut = ⊥

-- A front of the tuples that were poured was written, of the last of them perhaps a front of its text. While nothing
-- went
-- wrong all of them were, and where a write failed, its count rose.
pub record Wrote {K : Type 0} (took began : K → Tuples → K → Type 0) (faults : K → ℕ) (note : Note) (poured : Tuples)
    (first now : K) : Type 0 where
  pub written : Tuples
  pub is_front : IsPrefix written poured
  pub all : is_clean note ≡ true → (written ≡ poured) × took first written now
  pub text : took first written now ⊎ began first written now
  pub rises : faults first ≤ faults now
  pub fault : is_unwritten note ≡ true → Rose (faults first) (faults now)

abbrev pub Writes : {K : Type 0} → (K → Tuples → K → Type 0) → (K → Tuples → K → Type 0) → (K → ℕ)
    → Note → Tuples → Option K → Option K → Type 0
Writes took began faults note poured None None = Unit {0}
Writes took began faults note poured (Some first) (Some now) = Wrote took began faults note poured first now
Writes took began faults note poured None (Some now) = ⊥
Writes took began faults note poured (Some first) None = ⊥

pub record Meets {E S K : Type 0} (stands : E → Part → At → Tuples → Type 0) (gave : S → Part → List Item → S → Type 0)
    (front : S → List Item → Type 0) (over : S → Bool) (took began : K → Tuples → K → Type 0) (faults : K → ℕ)
    (part : Part) (element : E) (ins : List Inlet) (outs : List Outlet) (first source : Option S) (clean sink :
    Option K)
    (note : Note) : Type 0 where
  pub a : At
  pub poured : Tuples
  pub at : stands element part a poured
  pub whole : a.cut ≡ false → a.dropped ≡ []
  pub few : inputs part < 2 ^ 32
  pub input_count : length ins ≡ inputs part
  pub output_count : length outs ≡ outputs part
  pub takes : is_improper note ≡ false → TakenIs ins a
  pub sends : SentIs outs a
  pub cut : a.cut ≡ (is_stopping note || list_any is_cut_receipt (all_taken a))
  pub reads : Reads gave front over part first source (read_in (all_taken a)) a.cut
  pub writes : Writes took began faults note poured clean sink

abbrev pub NodeMeets : {E S K : Type 0} → (E → Part → At → Tuples → Type 0) → (S → Part → List Item → S → Type 0)
    → (S → List Item → Type 0) → (S → Bool) → (K → Tuples → K → Type 0) → (K → Tuples → K → Type 0) → (K → ℕ)
    → Part → Node E S K → Type 0
NodeMeets stands gave front over took began faults part n =
    Meets stands gave front over took began faults part n.element n.ins.items n.outs.items n.first.value n.source
    n.clean.value n.sink n.note

-- and its source is still to be read
pub record StillReading {E S K : Type 0} (stands : E → Part → At → Tuples → Type 0) (gave : S → Part → List Item
    → S → Type 0)
    (front : S → List Item → Type 0) (over : S → Bool) (took began : K → Tuples → K → Type 0) (faults : K → ℕ)
    (part : Part) (n : Node E S K) : Type 0 where
  pub meets : NodeMeets stands gave front over took began faults part n
  pub still : StillReads part meets.a

-- and the ends are those of these links
pub record Runs {E S K : Type 0} (stands : E → Part → At → Tuples → Type 0) (gave : S → Part → List Item → S → Type 0)
    (front : S → List Item → Type 0) (over : S → Bool) (took began : K → Tuples → K → Type 0) (faults : K → ℕ)
    (part : Part) (links : List Link) (n : Node E S K) : Type 0 where
  pub ins : InsPlaced links n.ins.items
  pub outs : OutsPlaced links n.outs.items
  pub meets : NodeMeets stands gave front over took began faults part n

-- and nothing is left to be done
pub record HasRun {E S K : Type 0} (stands : E → Part → At → Tuples → Type 0) (gave : S → Part → List Item → S → Type 0)
    (front : S → List Item → Type 0) (over : S → Bool) (took began : K → Tuples → K → Type 0) (faults : K → ℕ)
    (part : Part) (links : List Link) (n : Node E S K) : Type 0 where
  pub runs : Runs stands gave front over took began faults part links n
  pub stopped : HasStopped part runs.meets.a
