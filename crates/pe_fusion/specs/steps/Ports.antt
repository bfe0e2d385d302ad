-- The inputs and outputs of an element, by a table of connections.
use Rattle.std.specs.Prelude.{ℕ, List, [], ◌∷◌, map, length, replicate}
use Rattle.language_model.specs.CheckedGraph.{CheckedGraph}
use Rattle.stream_model.specs.declared.plan.Region.{Region}
use Rattle.stream_model.specs.declared.shape.Role.{Role}
use Rattle.stream_model.specs.declared.shape.Role.TheVariants as L
use Rattle.stream_model.specs.declared.shape.ShapeElement.{ShapeElement}
use Rattle.pe_fusion.specs.declared.ports.ElementPorts.{ElementPorts}
use Rattle.pe_fusion.specs.ElementPorts.{channels_of, ins_by, source_of}
use Rattle.pe_fusion.specs.steps.Building.{last_outs}
use Rattle.pe_fusion.specs.steps.Reading.{Table, read_by}

abbrev pub counts_in : Table → List ℕ → List ℕ
counts_in readers outs = map (λ s. length (read_by readers s)) outs

abbrev pub fans_with : Table → Role → ℕ → List ℕ → List ℕ
fans_with readers L.Chain width outs = counts_in readers outs
fans_with readers L.Splitter width outs = replicate width 1
fans_with readers (L.Replica channel) width outs = 1 ∷ []
fans_with readers L.Merger width outs = counts_in readers outs

abbrev pub ports_with : CheckedGraph → List Region → ℕ → Table → ShapeElement → ElementPorts
ports_with c plan width readers e = record {
  ids = e.ids;
  ins = ins_by c e.role (channels_of plan width e.region) e.ids;
  fans = fans_with readers e.role (channels_of plan width e.region) (last_outs c.graph.ops e.ids);
  source = source_of c e.ids;
}
