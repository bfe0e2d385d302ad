-- The attributes of what an element of a network that runs a checked graph sends.
use Rattle.std.specs.Prelude.{◌≡◌, ℕ}
use Rattle.language_model.specs.CheckedGraph.{CheckedGraph}
use Rattle.language_model.specs.StreamTypes.{Attributes}
use Rattle.stream_model.specs.CheckedMeaning.{schema_at}
use Rattle.network_model.specs.Networks.{Part, FromSource, FromLinks, Splitter, Replica, Merger}
use Rattle.network_model.specs.Wiring.{Carries}

-- on an output those of the stream that it carries; of a splitter those of the stream that enters the region, and of a
-- replica those of the one that leaves it
abbrev pub SchemaOn : CheckedGraph → Part → ℕ → Attributes → Type 0
SchemaOn c (FromSource source ops outs) o schema =
    (s : ℕ) × Carries (FromSource source ops outs) o s × (schema ≡ schema_at c s)
SchemaOn c (FromLinks op ops outs) o schema = (s : ℕ) × Carries (FromLinks op ops outs) o s × (schema ≡ schema_at c s)
SchemaOn c (Splitter region) o schema = schema ≡ schema_at c region.entry
SchemaOn c (Replica region channel) o schema = schema ≡ schema_at c region.exit
SchemaOn c (Merger region outs) o schema = (s : ℕ) × Carries (Merger region outs) o s × (schema ≡ schema_at c s)
