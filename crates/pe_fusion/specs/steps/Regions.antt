-- The region of each operator, as far as it runs in replicas.
use Prim.Native.Nat.{suc}
use Rattle.std.specs.Prelude.{ℕ, List, [], ◌∷◌, Option, Some, set, if◌then◌else◌}
use Rattle.stream_model.specs.declared.plan.Region.{Region}
use Rattle.stream_model.specs.Regions.{width_of}
use Rattle.pe_fusion.specs.declared.regions.OperatorRegion.{OperatorRegion}
use Rattle.pe_fusion.specs.Pieces.{is_replicated}

abbrev pub set_all : List (Option OperatorRegion) → List ℕ → OperatorRegion → List (Option OperatorRegion)
set_all regions [] region = regions
set_all regions (n ∷ ns) region = set_all (set regions n (Some region)) ns region

abbrev pub operator_region : ℕ → ℕ → Region → ℕ → OperatorRegion
operator_region width i region first = record { region = i; first = first; width = width_of region width }

abbrev pub entered_by : ℕ → ℕ → Region → List (Option OperatorRegion) → List ℕ → List (Option OperatorRegion)
entered_by width i region regions [] = regions
entered_by width i region regions (n ∷ ns) =
    if is_replicated width region then set_all regions (n ∷ ns) (operator_region width i region n) else regions

-- with the region at place i of the plan
abbrev pub entered : ℕ → ℕ → Region → List (Option OperatorRegion) → List (Option OperatorRegion)
entered width i region regions = entered_by width i region regions region.ops

-- with those from place i on
abbrev pub enter_all : ℕ → ℕ → List Region → List (Option OperatorRegion) → List (Option OperatorRegion)
enter_all width i [] regions = regions
enter_all width i (region ∷ plan) regions = enter_all width (suc i) plan (entered width i region regions)
