-- Where streams are made as the code has it, and which leads to which.
use Rattle.std.specs.Prelude.{◌≡◌, ℕ, suc, true, List, length, Option, Some, None, slice_get}
use Rattle.std.specs.Option.{option_and_then, option_map, option_to_list}
use Rattle.spl_tree.specs.declared.graph.Expansion.{Expansion}
use Rattle.spl_tree.specs.declared.graph.Graph.{Graph}
use Rattle.spl_tree.specs.declared.graph.Site.{Site}
use Rattle.spl_tree.specs.declared.unit.Definition.{Definition}
use Rattle.language_model.specs.StreamTypes.{Origin, attributes_within, stream_attributes, stream_leads}
use Rattle.language_model.specs.Typing.{mismatch}
use Rattle.stream_rules.specs.Circles.{TellsStreams, flag_at}
use Rattle.stream_rules.specs.declared.origins.Leads.{Leads}
use Rattle.stream_rules.specs.declared.origins.Origin.{Origin as Kept}
use Rattle.body_sites.specs.Bodies.{body_at_sites, body_seen}

abbrev pub origin_seen : Kept → Origin
origin_seen o = record { body = body_seen o.body; output = o.output.now }

-- the output of an invocation at a site
abbrev pub origin_in : List Definition → List Expansion → Site → ℕ → Option Origin
origin_in unit expansions site port =
    option_and_then (λ b. option_and_then (λ i. option_map (λ o. record { body = b; output = o }) (slice_get i.outputs port)) (slice_get b.composite.graph site.invocation))
    (body_at_sites unit expansions site.expansion)

-- where a place leads, by a row of what each leads to; one past its end leads nowhere
abbrev pub lead_at : List (Option ℕ) → ℕ → Option ℕ
lead_at next place = option_and_then (λ lead. lead) (slice_get next place)

-- `count` places, each of which leads to at most one
pub record Steps (count : ℕ) (next : List (Option ℕ)) (f : ℕ → List ℕ) : Type 0 where
  pub size : length next ≡ count
  pub each : (place : ℕ) → option_to_list (lead_at next place) ≡ f place

pub record IsLed (unit : List Definition) (g : Graph) (leads : Leads) : Type 0 where
  pub steps : Steps (length g.streams) leads.next.items (stream_leads unit g)
  pub back : TellsStreams unit g leads.back.items

-- the stream that it leads to leads back to itself
abbrev pub IsEnd : Leads → ℕ → Type 0
IsEnd leads at = (to : ℕ) → lead_at leads.next.items at ≡ Some to → flag_at leads.back.items to ≡ true

-- the attributes of a stream are those of the last one in its row
abbrev pub EndsAt : List Definition → Graph → Leads → ℕ → Option ℕ → Type 0
EndsAt unit g leads stream None = stream_attributes unit g stream ≡ mismatch 0
EndsAt unit g leads stream (Some at) = (left : ℕ) × (stream_attributes unit g stream ≡ attributes_within (suc left) unit g at) × IsEnd leads at

-- where no name is followed any more
abbrev pub EndsHere : List Definition → Graph → Leads → ℕ → Option ℕ → Type 0
EndsHere unit g leads at None = attributes_within 1 unit g at ≡ mismatch 0
EndsHere unit g leads at (Some last) = (last ≡ at) × IsEnd leads at
