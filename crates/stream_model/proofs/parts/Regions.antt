-- Words for parts of the rules of regions, by which proofs speak of them.
use Rattle.std.specs.Prelude.{ℕ, ◌==◌, Bool, false, List, map, filter, length, take, slice_get}
use Rattle.std.specs.List.{concat, flat_map, list_any}
use Rattle.std.specs.Option.{option_map_or}
use Rattle.stream_model.specs.declared.plan.Region.{Region}
use Rattle.stream_model.specs.Meaning.{Graph}
use Rattle.stream_model.specs.Operators.{Operator, connections}
use Rattle.stream_model.specs.Regions.{is_eligible}
use Rattle.stream_model.specs.Selectivity.{is_single}

abbrev pub is_one : {A : Type 0} → List A → Bool
is_one xs = is_single xs

-- how many connections take a stream
abbrev pub readings : Graph → ℕ → ℕ
readings g s = length (filter (λ t. t == s) (concat (map connections g.ops)))

abbrev pub reads : Operator → ℕ → Bool
reads op s = list_any (λ t. t == s) (connections op)

abbrev pub eligible_numbers : Graph → List ℕ
eligible_numbers g = filter (λ n. option_map_or is_eligible (slice_get g.ops n) false) g.topo

abbrev pub first_number : List ℕ → List ℕ
first_number ns = take 1 ns

abbrev pub firsts : List Region → List ℕ
firsts regions = flat_map (λ (r : Region). take 1 r.ops) regions
