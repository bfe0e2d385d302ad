-- The plan of a program.
use Rattle.std.specs.Prelude.{◌≡◌, List}
use Rattle.language_model.specs.CheckedGraph.{CheckedGraph}
use Rattle.language_model.specs.Keeping.{Keeps}
use Rattle.stream_model.specs.declared.plan.Region.{Region}
use Rattle.stream_model.specs.CheckedMeaning.{graph_of}
use Rattle.stream_model.specs.Regions.{IsPlan}

-- the graph of every checked program has a plan
abbrev pub PlanLaw : Type 0
PlanLaw = (c : CheckedGraph) → Keeps c → (plan : List Region) × IsPlan (graph_of c) plan

-- and no other one
abbrev pub OnePlanLaw : Type 0
OnePlanLaw = (c : CheckedGraph) → Keeps c → (plan other : List Region) → IsPlan (graph_of c) plan → IsPlan (graph_of c) other → plan ≡ other
