-- Laws of legal lists of events.
use Rattle.std.specs.Prelude.{ℕ, ◌<◌, List, ◌≡◌, false}
use Rattle.stream_model.specs.Stream.{IsPrefix}
use Rattle.stream_model.specs.Meaning.{Graph, Lists, Entries, meaning}
use Rattle.network_model.specs.Packets.{items_in}
use Rattle.network_model.specs.Networks.{Net}
use Rattle.network_model.specs.Events.{Occurrence}
use Rattle.network_model.specs.States.{pushed_on, reached}
use Rattle.network_model.specs.Legal.{IsLegal, AllDone, Clean}
use Rattle.network_model.specs.Joined.{Joined, Settled, lists_of}
use Rattle.network_model.specs.Wiring.{IsWired, CarriesOn}
use Rattle.network_model.specs.Flow.{IsUnder}
use Rattle.network_laws.specs.RegionStreams.{RegionsHold, is_regional}

-- where every element is done, the lists are joined, and settled where none was cut
abbrev pub LegalLaw : Type 0
LegalLaw = (g : Graph) (net : Net) (list : List Occurrence) (rows : Lists) (entries : Entries) → IsWired g net
    → RegionsHold net (meaning g rows entries) → IsLegal net list
    → IsUnder net (lists_of net (reached net list)) rows entries → AllDone net (reached net list)
    → Joined net (lists_of net (reached net list))
    × (Clean net (reached net list) → Settled net (lists_of net (reached net list)))

-- without regions this asks for no rows and no meaning
abbrev pub PlainLaw : Type 0
PlainLaw = (g : Graph) (net : Net) (list : List Occurrence) → IsWired g net
    → ((e : ℕ) → e < net.size → is_regional (net.part e) ≡ false) → IsLegal net list
    → AllDone net (reached net list)
    → Joined net (lists_of net (reached net list))
    × (Clean net (reached net list) → Settled net (lists_of net (reached net list)))

-- at any moment of a legal list, what went over a link is a front of its stream
abbrev pub MomentLaw : Type 0
MomentLaw = (g : Graph) (net : Net) (list : List Occurrence) (rows : Lists) (entries : Entries) → IsWired g net
    → RegionsHold net (meaning g rows entries) → IsLegal net list
    → IsUnder net (lists_of net (reached net list)) rows entries
    → (l s : ℕ) → l < net.links → CarriesOn net l s
    → IsPrefix (items_in (pushed_on net (reached net list) l)) ((meaning g rows entries).streams s)
