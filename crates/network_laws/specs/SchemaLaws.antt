-- What the links of a network that runs a checked program carry is proper, channels of regions too.
use Rattle.std.specs.Prelude.{◌<◌, ℕ, List}
use Rattle.spl_value.specs.Numbered.{IsProper}
use Rattle.language_model.specs.CheckedGraph.{CheckedGraph}
use Rattle.language_model.specs.StreamTypes.{Attributes}
use Rattle.stream_model.specs.declared.plan.Region.{Region}
use Rattle.stream_model.specs.CheckedMeaning.{graph_of, schema_at}
use Rattle.stream_model.specs.Meaning.{Lists, Entries, meaning}
use Rattle.network_model.specs.Networks.{Net}
use Rattle.network_model.specs.Joined.{NetworkLists, InProgress}
use Rattle.network_model.specs.OutputSchemas.{SchemaOn}
use Rattle.network_model.specs.Flow.{flow, IsUnder}
use Rattle.network_laws.specs.Propers.{HasSchema}
use Rattle.network_laws.specs.PlannedLaws.{RunsPlan}

-- where each stream of the meaning has its attributes, each link carries what is proper for those of its sender's
-- output
abbrev pub RunsProper : Type 0
RunsProper = (c : CheckedGraph) (plan : List Region) (width : ℕ) (net : Net) (lists : NetworkLists) (rows : Lists)
    (entries : Entries) → RunsPlan c plan width net
    → ((s : ℕ) → HasSchema (meaning (graph_of c) rows entries) s (schema_at c s))
    → InProgress net lists → IsUnder net lists rows entries → (l : ℕ) (schema : Attributes) → l < net.links
    → SchemaOn c (net.part (net.link l).from) (net.link l).output schema
    → IsProper schema (flow net rows (meaning (graph_of c) rows entries) l)
