-- Laws of what one element owes.
use Rattle.std.specs.Prelude.{ℕ, true, List, [], ◌∷◌, ◌++◌, map, ◌≡◌}
use Rattle.spl_value.specs.Numbered.{stops_once}
use Rattle.stream_model.specs.Stream.{IsPrefix}
use Rattle.stream_model.specs.Operators.{Operator}
use Rattle.stream_model.specs.Stages.{start, gives_all}
use Rattle.stream_model.specs.Meaning.{Graph}
use Rattle.stream_model.specs.parts.Records.{finds_items}
use Rattle.stream_model.specs.Sending.{on_output}
use Rattle.network_model.specs.Packets.{without_cut}
use Rattle.network_model.specs.Networks.{Part, FromSource, FromLinks, Splitter, Replica, Merger}
use Rattle.network_model.specs.Receipts.{Receipt, item_events, Taken}
use Rattle.stream_model.specs.Chains.{passed}
use Rattle.network_model.specs.Owed.{owed, owed_for, taken_of, sends, send_all, item_lists, Binds}
use Rattle.network_model.specs.Adds.{adds}
use Rattle.network_model.specs.Sinks.{pours, pours_more}
use Rattle.stream_model.specs.Fans.{ports_of_fans, fans_out}
use Rattle.language_model.specs.declared.outs.Output.{Output}
use Rattle.network_model.specs.Wiring.{PartFits}

-- one has taken what the other has, and perhaps more, and each entry of its record found its item
pub record IsLess (t u : Taken) : Type 0 where
  pub packets : (i : ℕ) → IsPrefix (without_cut (t.packets i)) (without_cut (u.packets i))
  pub items : IsPrefix t.items u.items
  pub entries : IsPrefix t.entries u.entries
  pub found : finds_items (item_lists t) t.entries ≡ true

abbrev pub none_taken : Taken
none_taken = record { packets = λ i. []; items = []; entries = [] }

-- what a part owes: nothing at first, more for more, never `Cut`, and on each output nothing behind `Close`
pub record IsPart (part : Part) : Type 0 where
  pub begins : owed part none_taken ≡ []
  pub grows : (t u : Taken) → IsLess t u → Binds part u → IsPrefix (owed part t) (owed part u)
  pub binds : (t u : Taken) → IsLess t u → Binds part u → Binds part t
  pub stops : (t : Taken) (o : ℕ) → Binds part t → stops_once (on_output o (owed part t)) ≡ true
  pub no_cut : (t : Taken) (o : ℕ) → without_cut (on_output o (owed part t)) ≡ on_output o (owed part t)

-- what a chain that reads links owes for its receipts is what its operators give for the items in them, in order
abbrev pub ReceiptsLaw : Type 0
ReceiptsLaw = (op : Operator) (ops : List Operator) (outs : List ℕ) (receipts : List Receipt)
    → owed_for (FromLinks op ops outs) receipts
    ≡ send_all outs (passed (map start ops) (gives_all (start op) (item_events receipts)))

-- every element of a network that runs a graph is a part
abbrev pub PartLaw : Type 0
PartLaw = (g : Graph) (part : Part) → PartFits g part → IsPart part

-- ---- one receipt more

-- what a merger has taken binds it; for the others nothing is asked
abbrev pub Merges : Part → List Receipt → Type 0
Merges (FromSource source ops outs) receipts = Unit {0}
Merges (FromLinks op ops outs) receipts = Unit {0}
Merges (Splitter region) receipts = Unit {0}
Merges (Replica region channel) receipts = Unit {0}
Merges (Merger region outs) receipts = Binds (Merger region outs) (taken_of (Merger region outs) receipts)

abbrev pub NothingLaw : Type 0
NothingLaw = (part : Part) → owed_for part [] ≡ []

-- one receipt more owes what it adds more
abbrev pub AddsLaw : Type 0
AddsLaw = (part : Part) (receipts : List Receipt) (receipt : Receipt) → Merges part (receipts ++ receipt ∷ [])
    → owed_for part (receipts ++ receipt ∷ []) ≡ owed_for part receipts ++ adds part receipts receipt

-- and its sink is given more tuples
abbrev pub PoursLaw : Type 0
PoursLaw = (part : Part) (receipts : List Receipt) (receipt : Receipt)
    → pours part (receipts ++ receipt ∷ []) ≡ pours part receipts ++ pours_more part receipts receipt

-- ---- outputs by port

-- what is sent on outputs with their ports is what is sent by the number of connections of each port
abbrev pub FansLaw : Type 0
FansLaw = (fans : List ℕ) (given : Output) → sends (ports_of_fans fans) given ≡ fans_out fans given
