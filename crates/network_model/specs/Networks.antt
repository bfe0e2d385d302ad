-- Networks: what each element runs, and the links between elements.
use Rattle.std.specs.Prelude.{ℕ, Bool, true, false, List, [], ◌∷◌, length}
use Rattle.spl_value.specs.declared.routing.Routing.{Routing}
use Rattle.spl_value.specs.Numbered.{Rule}
use Rattle.stream_model.specs.declared.shape.ShapeLink.{ShapeLink}
use Rattle.stream_model.specs.Operators.{Operator, ports}

-- a region as its elements run it: the stream that enters it and the one that it makes, its chain, how items are routed
-- and merged, and the number of channels
pub record RegionPart : Type 0 where
  pub entry : ℕ
  pub exit : ℕ
  pub ops : List Operator
  pub routing : Routing
  pub rule : Rule
  pub width : ℕ

-- What an element runs. A chain begins with a FileSource or with an operator that reads links; `ops` are the operators
-- behind that one. `outs` has for each output the output port, of the last operator, whose stream it carries: outputs
-- are numbered by port and then by connection.
pub data Part : Type 0 where
  FromSource : (source : Operator) (ops : List Operator) (outs : List ℕ) → Part
  FromLinks : (op : Operator) (ops : List Operator) (outs : List ℕ) → Part
  Splitter : (region : RegionPart) → Part
  Replica : (region : RegionPart) (channel : ℕ) → Part
  Merger : (region : RegionPart) (outs : List ℕ) → Part

-- the last of an operator and those behind it
abbrev pub last_of : Operator → List Operator → Operator
last_of op [] = op
last_of op (next ∷ ops) = last_of next ops

-- the number of inputs and of outputs
abbrev pub inputs : Part → ℕ
inputs (FromSource source ops outs) = 0
inputs (FromLinks op ops outs) = length (ports op)
inputs (Splitter region) = 1
inputs (Replica region channel) = 1
inputs (Merger region outs) = region.width

abbrev pub outputs : Part → ℕ
outputs (FromSource source ops outs) = length outs
outputs (FromLinks op ops outs) = length outs
outputs (Splitter region) = region.width
outputs (Replica region channel) = 1
outputs (Merger region outs) = length outs

-- it reads a source
abbrev pub is_sourced : Part → Bool
is_sourced (FromSource source ops outs) = true
is_sourced (FromLinks op ops outs) = false
is_sourced (Splitter region) = false
is_sourced (Replica region channel) = false
is_sourced (Merger region outs) = false

-- an output of one element and the input of another to which it leads
abbrev pub Link : Type 0
Link = ShapeLink

-- so many elements and links, each by its number, and how many packets a link holds
pub record Net : Type 0 where
  pub part : ℕ → Part
  pub size : ℕ
  pub link : ℕ → Link
  pub links : ℕ
  pub capacity : ℕ
