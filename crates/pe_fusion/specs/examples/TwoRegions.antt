-- A graph with two regions, and its shape at width 1 and at width 2.
use Rattle.std.specs.Prelude.{ℕ, true, List, [], ◌∷◌, None, Some}
use Rattle.language_model.specs.declared.checked.CheckedClauses.TheVariants as A
use Rattle.stream_model.specs.declared.plan.Merge.TheVariants as M
use Rattle.stream_model.specs.declared.plan.Region.{Region}
use Rattle.stream_model.specs.declared.shape.Role.TheVariants as L
use Rattle.stream_model.specs.declared.shape.Shape.{Shape}
use Rattle.stream_model.specs.declared.shape.ShapeLink.{ShapeLink}
use Rattle.stream_model.specs.Operators.{Operator}
use Rattle.stream_model.specs.Meaning.{Graph}
use Rattle.stream_model.specs.examples.SomeOperators.{operator_of}
use Rattle.pe_fusion.specs.Shapes.{element}

-- a filter that reads stream r and makes stream s
abbrev pub filter_of : ℕ → ℕ → ℕ → Operator
filter_of n r s = operator_of n (A.Filter None) ((r ∷ []) ∷ []) (s ∷ [])

-- a source, which filters 1 and 2 read; filter 3 reads what filter 1 makes; and sinks of what the filters 3 and 2 make
abbrev pub two_branches : Graph
two_branches = record {
  ops = operator_of 0 (A.FileSource [] true) [] (0 ∷ []) ∷ filter_of 1 0 1 ∷ filter_of 2 0 2 ∷ filter_of 3 1 3
      ∷ operator_of 4 (A.FileSink []) ((3 ∷ []) ∷ []) [] ∷ operator_of 5 (A.FileSink []) ((2 ∷ []) ∷ []) [] ∷ [];
  topo = 0 ∷ 1 ∷ 2 ∷ 3 ∷ 4 ∷ 5 ∷ [];
}

abbrev pub two_regions : List Region
two_regions = record { ops = 1 ∷ 3 ∷ []; key = []; merge = M.Turns } ∷ record { ops = 2 ∷ []; key = []; merge = M.Turns } ∷ []

-- from an output of an element to an input of another one
abbrev pub link : ℕ → ℕ → ℕ → ℕ → ShapeLink
link from output to input = record { from = from; output = output; to = to; input = input }

-- at width 1 filters are fused with what alone reads them
abbrev pub three_chains : Shape
three_chains = record {
  elements = element L.Chain None (0 ∷ []) ∷ element L.Chain None (1 ∷ 3 ∷ 4 ∷ []) ∷ element L.Chain None (2 ∷ 5 ∷ []) ∷ [];
  links = link 0 0 1 0 ∷ link 0 1 2 0 ∷ [];
}

abbrev pub two_replicas : Shape
two_replicas = record {
  elements = element L.Chain None (0 ∷ [])
      ∷ element L.Splitter (Some 0) (1 ∷ 3 ∷ []) ∷ element (L.Replica 0) (Some 0) (1 ∷ 3 ∷ []) ∷ element (L.Replica 1) (Some 0) (1 ∷ 3 ∷ []) ∷ element L.Merger (Some 0) (1 ∷ 3 ∷ [])
      ∷ element L.Splitter (Some 1) (2 ∷ []) ∷ element (L.Replica 0) (Some 1) (2 ∷ []) ∷ element (L.Replica 1) (Some 1) (2 ∷ []) ∷ element L.Merger (Some 1) (2 ∷ [])
      ∷ element L.Chain None (4 ∷ []) ∷ element L.Chain None (5 ∷ []) ∷ [];
  links = link 0 0 1 0 ∷ link 0 1 5 0
      ∷ link 1 0 2 0 ∷ link 1 1 3 0 ∷ link 2 0 4 0 ∷ link 3 0 4 1 ∷ link 4 0 9 0
      ∷ link 5 0 6 0 ∷ link 5 1 7 0 ∷ link 6 0 8 0 ∷ link 7 0 8 1 ∷ link 8 0 10 0 ∷ [];
}
