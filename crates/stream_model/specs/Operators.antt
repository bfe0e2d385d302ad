-- An operator of a graph, and the ports of its inputs.
use Prim.Native.Nat.{suc}
use Rattle.std.specs.Prelude.{ℕ, List, [], ◌∷◌, ◌++◌, map, slice_get}
use Rattle.std.specs.List.{concat}
use Rattle.std.specs.Option.{unwrap_or}
use Rattle.spl_tree.specs.declared.body.Function.{Function}
use Rattle.language_model.specs.declared.checked.CheckedClauses.{CheckedClauses}
use Rattle.language_model.specs.declared.checked.PortTypes.{PortTypes}
use Rattle.language_model.specs.StreamTypes.{Attributes}

-- its number, its checked clauses, the functions that these may call, the attributes of its input and output ports, the
-- streams that each input port takes, and the stream of each output port
pub record Operator : Type 0 where
  pub number : ℕ
  pub clauses : CheckedClauses
  pub functions : List Function
  pub types : PortTypes
  pub ins : List (List ℕ)
  pub outs : List ℕ

-- the stream of each input
abbrev pub connections : Operator → List ℕ
connections op = concat op.ins

-- the attributes of an input port and of an output port; none where there is no such port
abbrev pub input_attributes : Operator → ℕ → Attributes
input_attributes op p = unwrap_or (slice_get op.types.ins p) []

abbrev pub output_attributes : Operator → ℕ → Attributes
output_attributes op p = unwrap_or (slice_get op.types.outs p) []

-- the port of each connection, by port and then by place within the port, from port p on
abbrev pub ports_from : ℕ → List (List ℕ) → List ℕ
ports_from p [] = []
ports_from p (streams ∷ ins) = map (λ s. p) streams ++ ports_from (suc p) ins

-- the port of each input
abbrev pub ports : Operator → List ℕ
ports op = ports_from 0 op.ins
