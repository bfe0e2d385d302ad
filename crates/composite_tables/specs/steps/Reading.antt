-- What is read of an expansion on the way to the streams that a name takes.
use Rattle.std.specs.Prelude.{◌≡◌, ℕ, suc, ◌+◌, ◌*◌, ◌^◌, min, List, [], ◌∷◌, ◌++◌, flat_map, length, sum_by, take, Option, Some, None, slice_get}
use Rattle.std.specs.Option.{option_and_then, option_map_or, option_to_list}
use Rattle.spl_tree.specs.declared.expression.Placed.{Placed}
use Rattle.spl_tree.specs.declared.graph.Site.{Site}
use Rattle.spl_tree.specs.declared.unit.Composite.{Composite}
use Rattle.spl_tree.specs.declared.unit.Definition.{Definition}
use Rattle.language_model.specs.declared.expansion.Source.{Source}
use Rattle.language_model.specs.Composites.{composites}
use Rattle.language_model.specs.Expansion.{Inlined, names_of_port, port_names, sources_of}
use Rattle.composite_tables.specs.declared.inputs.Counted.{Counted}
use Rattle.composite_tables.specs.declared.made.Body.{Body}
use Rattle.composite_tables.specs.declared.made.Input.{Input}
use Rattle.composite_tables.specs.declared.sources.Next.{Next}
use Rattle.composite_tables.specs.declared.sources.Next.TheVariants as N
use Rattle.composite_tables.specs.declared.sources.Reading.{Reading}
use Rattle.composite_tables.specs.Inputs.{StandsFor}

-- how many there are in a list, as far as they are counted, and the first
pub record CountsSources (counted : Counted) (list : List Source) : Type 0 where
  pub count : counted.count ≡ min (length list) (2 ^ 30)
  pub first : option_to_list counted.first ≡ take 1 list

-- inputs that take what the ports of the invocation at a site take
pub record PortsStand (xs : List Inlined) (site : Site) (inputs : List Input) : Type 0 where
  pub each : (j : ℕ) (i : Input) → slice_get inputs j ≡ Some i
      → StandsFor xs (suc site.expansion) i (flat_map (λ n. sources_of xs site.expansion n.what) (port_names xs site j))

-- ---- the bodies as they are kept

abbrev pub composite_at : List Definition → List Body → ℕ → Option Composite
composite_at unit bodies number = option_and_then (λ b. slice_get (composites unit) b.composite) (slice_get bodies number)

-- the names of a port of the invocation at a site
abbrev pub names_in : Site → ℕ → Option Composite → List (Placed (List ℕ))
names_in site port None = []
names_in site port (Some c) = option_map_or (names_of_port port) (slice_get c.graph site.invocation) []

-- ---- what is still to be read

abbrev pub list_read : List Inlined → Reading → List Source
list_read xs r = flat_map (λ n. sources_of xs r.number n.what) r.names.now

-- the last one is read first
abbrev pub list_left : List Inlined → List Reading → List Source
list_left xs [] = []
list_left xs (r ∷ rs) = list_left xs rs ++ list_read xs r

abbrev pub list_followed : List Inlined → Next → List Source
list_followed xs N.Nothing = []
list_followed xs (N.One s) = s ∷ []
list_followed xs (N.Names r) = list_read xs r

-- ---- how long that takes at most

-- no port has more names than all ports of all composites
abbrev pub most_names : List Definition → ℕ
most_names unit = sum_by (λ c. sum_by (λ i. sum_by (λ q. length q.streams) i.inputs) c.graph) (composites unit)

abbrev pub size_read : ℕ → Reading → ℕ
size_read base r = 1 + length r.names.now * base ^ r.number

abbrev pub size_left : ℕ → List Reading → ℕ
size_left base rs = sum_by (size_read base) rs

abbrev pub size_followed : ℕ → Next → ℕ
size_followed base N.Nothing = 0
size_followed base (N.One s) = 0
size_followed base (N.Names r) = size_read base r
