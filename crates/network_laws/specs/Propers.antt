-- What goes over a link is proper for the schema of what it carries in the meaning.
use Rattle.std.specs.Prelude.{ℕ, ◌<◌, true, List, ◌≡◌}
use Rattle.std.specs.List.{list_all}
use Rattle.spl_value.specs.declared.types.Named.{Named}
use Rattle.spl_value.specs.declared.types.SplType.{SplType}
use Rattle.spl_value.specs.Numbered.{item_fits, IsProper}
use Rattle.stream_model.specs.Meaning.{Graph, Lists, Entries, Meaning, meaning}
use Rattle.network_model.specs.Networks.{Net}
use Rattle.network_model.specs.Events.{Occurrence}
use Rattle.network_model.specs.States.{pushed_on, reached}
use Rattle.network_model.specs.Legal.{IsLegal}
use Rattle.network_model.specs.Joined.{NetworkLists, Joined, lists_of, sent_on, InProgress}
use Rattle.network_model.specs.Wiring.{IsWired, CarriesOn}
use Rattle.network_model.specs.Flow.{flow, IsUnder}
use Rattle.network_laws.specs.RegionStreams.{RegionsHold}

-- each tuple of a stream of the meaning has its schema
abbrev pub HasSchema : Meaning → ℕ → List (Named SplType) → Type 0
HasSchema m s schema = list_all (item_fits schema) (m.streams s) ≡ true

-- then what a link of that stream carries in the meaning is proper
abbrev pub StreamProper : Type 0
StreamProper = (g : Graph) (net : Net) (lists : NetworkLists) (rows : Lists) (entries : Entries)
    (schema : List (Named SplType)) → IsWired g net → RegionsHold net (meaning g rows entries)
    → InProgress net lists → IsUnder net lists rows entries → (l s : ℕ) → l < net.links
    → CarriesOn net l s → HasSchema (meaning g rows entries) s schema
    → IsProper schema (flow net rows (meaning g rows entries) l)

-- where what a link carries is proper, so is what went over it in joined lists, perhaps with `Cut` behind it
abbrev pub JoinedProper : Type 0
JoinedProper = (g : Graph) (net : Net) (lists : NetworkLists) (rows : Lists) (entries : Entries)
    (schema : List (Named SplType)) → IsWired g net → RegionsHold net (meaning g rows entries)
    → Joined net lists → IsUnder net lists rows entries → (l : ℕ) → l < net.links
    → IsProper schema (flow net rows (meaning g rows entries) l) → IsProper schema (sent_on net lists l)

-- and at any moment of a legal list
abbrev pub LegalProper : Type 0
LegalProper = (g : Graph) (net : Net) (list : List Occurrence) (rows : Lists) (entries : Entries)
    (schema : List (Named SplType)) → IsWired g net → RegionsHold net (meaning g rows entries)
    → IsLegal net list → IsUnder net (lists_of net (reached net list)) rows entries → (l : ℕ) → l < net.links
    → IsProper schema (flow net rows (meaning g rows entries) l)
    → IsProper schema (pushed_on net (reached net list) l)
