-- What stands at the sites of bodies, and the streams that follow from it.
use Rattle.std.specs.Prelude.{ℕ, zero, suc, ◌+◌, ◌==◌, ◌&&◌, Bool, false, List, [], ◌∷◌, map, length, replicate, if◌then◌else◌, Option, Some, None, slice_get, slice_set}
use Rattle.std.specs.HashMap.{get}
use Rattle.std.specs.Option.{option_and_then, option_map_or}
use Rattle.spl_tree.specs.declared.graph.Site.{Site}
use Rattle.spl_tree.specs.declared.unit.Composite.{Composite}
use Rattle.spl_tree.specs.declared.unit.Definition.{Definition}
use Rattle.language_model.specs.declared.expansion.Operation.{Operation}
use Rattle.language_model.specs.Composites.{composites}
use Rattle.language_model.specs.Expansion.{source}
use Rattle.language_model.specs.Numbering.{is_site, site_at, output_place}
use Rattle.language_model.specs.parts.Numbering.{graph_outputs}
use Rattle.composite_tables.specs.declared.made.Body.{Body}
use Rattle.stream_numbering.specs.declared.sites.Sites.{Sites}
use Rattle.stream_numbering.specs.steps.StreamTable.{Table, stream_in}

abbrev pub same_pair : ℕ × ℕ → ℕ × ℕ → Bool
same_pair x y = (x.0 == y.0) && (x.1 == y.1)

-- the number that is given for a site
abbrev pub number_at : Sites → Site → Option ℕ
number_at sites s = get same_pair sites.numbers (s.expansion, s.invocation)

-- the first stream of the first operator at a site, where that of the first operator of all has a number
abbrev pub first_at : ℕ → List Operation → Site → Option ℕ
first_at first [] s = None
first_at first (op ∷ ops) s = if is_site op.site s then Some first else first_at (first + op.outputs) ops s

-- the first body at a site, where the first of all has a number
abbrev pub body_at : ℕ → List Body → Site → Option ℕ
body_at number [] s = None
body_at number (b ∷ bs) s = if option_map_or (is_site s) b.site false then Some number else body_at (suc number) bs s

-- an expansion as code has it: the composites of the unit, the bodies, and the operators
pub record Parts : Type 0 where
  pub composites : List Composite
  pub bodies : List Body
  pub operations : List Operation

abbrev pub parts_of : List Definition → List Body → List Operation → Parts
parts_of unit bodies operations = record { composites = composites unit; bodies = bodies; operations = operations }

abbrev pub composite_of : Parts → ℕ → Option Composite
composite_of parts number = option_and_then (λ b. slice_get parts.composites b.composite) (slice_get parts.bodies number)

-- the stream of an output of the body of a number
abbrev pub output_of : Parts → Table → ℕ → ℕ → Option ℕ
output_of parts table k number =
    option_and_then (λ c. option_and_then (λ place. stream_in table (source number place)) (output_place c k)) (composite_of parts number)

-- the stream of an output of the invocation at a site, whose operator has a first one or none
abbrev pub first_or_output : Parts → Table → Site → ℕ → Option ℕ → Option ℕ
first_or_output parts table s k (Some first) = Some (first + k)
first_or_output parts table s k None = option_and_then (output_of parts table k) (body_at 0 parts.bodies s)

abbrev pub stream_there : Parts → Table → Site → ℕ → Option ℕ
stream_there parts table s k = first_or_output parts table s k (first_at 0 parts.operations s)

-- the streams of the names of a body's graph
abbrev pub row_of : Parts → Table → ℕ → Composite → List (Option ℕ)
row_of parts table number c = map (λ o. stream_there parts table (site_at number o) o.output) (graph_outputs c)

abbrev pub row_at : Parts → Table → ℕ → List (Option ℕ)
row_at parts table number = option_map_or (row_of parts table number) (composite_of parts number) []

-- the rows below a number are filled, the last of them first
abbrev pub filled : Parts → ℕ → Table → Table
filled parts zero table = table
filled parts (suc number) table = filled parts number (slice_set table number (row_at parts table number))

abbrev pub table_of : Parts → Table
table_of parts = filled parts (length parts.bodies) (replicate (length parts.bodies) [])
