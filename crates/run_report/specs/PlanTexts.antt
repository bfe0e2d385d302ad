-- The text of a plan: a line for each region, and for each operator that stands in none.
use Prim.Native.Nat.{suc}
use Rattle.std.specs.Prelude.{ℕ, ◌==◌, Bool, false, List, [], ◌∷◌, ◌++◌, flat_map, slice_get, if◌then◌else◌, codes, Some}
use Rattle.std.specs.Fmt.{decimal}
use Rattle.std.specs.List.{list_any}
use Rattle.std.specs.Option.{option_map_or, unwrap_or}
use Rattle.language_model.specs.CheckedGraph.{CheckedGraph}
use Rattle.language_model.specs.StreamTypes.{Attributes}
use Rattle.stream_model.specs.declared.plan.Merge.{Merge}
use Rattle.stream_model.specs.declared.plan.Merge.TheVariants as M
use Rattle.stream_model.specs.declared.plan.Region.{Region}
use Rattle.stream_model.specs.CheckedMeaning.{first_schema}
use Rattle.run_report.specs.Texts.{operator_name}

-- ---- a region

-- how the outputs of the replicas are put in order, as it is told
abbrev pub merge_text : Merge → List ℕ
merge_text M.Turns = codes "turns"
merge_text M.Numbers = codes "numbers"
merge_text M.Pulses = codes "pulses"

-- the attributes of the stream that an operator reads by its first port; none where it reads none or isn't there
abbrev pub read_schema : CheckedGraph → ℕ → Attributes
read_schema c n = option_map_or (λ op. first_schema c (unwrap_or (slice_get op.ins 0) [])) (slice_get c.graph.ops n) []

-- those of the stream that a region of these operators reads, which are the first one's
abbrev pub region_schema : CheckedGraph → List ℕ → Attributes
region_schema c ops = option_map_or (read_schema c) (slice_get ops 0) []

-- an attribute's name; nothing where there is no such attribute
abbrev pub attribute_name : Attributes → ℕ → List ℕ
attribute_name schema place = option_map_or (λ attribute. attribute.name) (slice_get schema place) []

-- the names of a key's attributes, with a comma between them; a hyphen where there is no key
abbrev pub key_text : Attributes → List ℕ → List ℕ
key_text schema [] = codes "-"
key_text schema (place ∷ places) =
    attribute_name schema place ++ flat_map (λ later. codes "," ++ attribute_name schema later) places

-- the line of a region with this number: its merge, its key, and its operators
abbrev pub region_text : CheckedGraph → ℕ → Region → List ℕ
region_text c number region =
    codes "region " ++ decimal number ++ codes " merge " ++ merge_text region.merge
    ++ codes " key " ++ key_text (region_schema c region.ops) region.key
    ++ codes ":" ++ flat_map (λ n. codes " " ++ operator_name (Some c) n) region.ops ++ codes "\n"

-- ---- the lines of an operator

-- it is the first of these
abbrev pub is_first : ℕ → List ℕ → Bool
is_first n ops = option_map_or (λ m. m == n) (slice_get ops 0) false

-- the lines of the regions that it begins, where the first of all these regions has this number
abbrev pub begun_text : CheckedGraph → ℕ → ℕ → List Region → List ℕ
begun_text c n number [] = []
begun_text c n number (region ∷ regions) =
    (if is_first n region.ops then region_text c number region else []) ++ begun_text c n (suc number) regions

abbrev pub stands_in : ℕ → Region → Bool
stands_in n region = list_any (λ m. m == n) region.ops

-- an operator that stands in a region has that region's line if it is the first there, and none if it is another one.
-- Any other operator has a line of its own
abbrev pub operator_text : CheckedGraph → List Region → ℕ → List ℕ
operator_text c plan n =
    if list_any (stands_in n) plan then begun_text c n 0 plan
    else codes "single " ++ operator_name (Some c) n ++ codes "\n"

-- ---- a plan

-- the operators in topological order, where regions are numbered in the order of the plan
abbrev pub plan_text : CheckedGraph → List Region → List ℕ
plan_text c plan = flat_map (operator_text c plan) c.graph.topo
