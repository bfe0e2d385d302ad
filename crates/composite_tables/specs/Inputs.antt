-- The bodies that an expansion has opened, by their numbers, and what the inputs of their heads take.
use Rattle.std.specs.Prelude.{◌≡◌, ℕ, ◌^◌, ◌<◌, min, List, [], ◌∷◌, flat_map, length, take, Option, Some, None, slice_get}
use Rattle.std.specs.Option.{option_to_list}
use Rattle.spl_tree.specs.declared.graph.Site.{Site}
use Rattle.spl_tree.specs.declared.unit.Composite.{Composite}
use Rattle.spl_tree.specs.declared.unit.Definition.{Definition}
use Rattle.language_model.specs.declared.expansion.Source.{Source}
use Rattle.language_model.specs.Composites.{composites}
use Rattle.language_model.specs.Expansion.{Inlined, sources_of, port_names, input_sources}
use Rattle.composite_tables.specs.declared.made.Body.{Body}
use Rattle.composite_tables.specs.declared.made.Input.{Input}
use Rattle.composite_tables.specs.declared.made.Taken.{Taken}
use Rattle.composite_tables.specs.declared.made.Taken.TheVariants as T

-- a body that is given by the place of its composite
pub record ShowsBody (unit : List Definition) (b : Body) (x : Inlined) : Type 0 where
  pub place : b.composite ≡ x.composite.place
  pub composite : slice_get (composites unit) b.composite ≡ Some x.composite.what
  pub site : b.site ≡ x.site

pub record Shows (unit : List Definition) (bodies : List Body) (xs : List Inlined) : Type 0 where
  pub count : length bodies ≡ length xs
  pub each : (k : ℕ) (b : Body) (x : Inlined) → slice_get bodies k ≡ Some b → slice_get xs k ≡ Some x → ShowsBody unit b x

-- a site within a body of a lower number; or none
abbrev pub IsBefore : ℕ → Option Site → Type 0
IsBefore number None = Unit {0}
IsBefore number (Some s) = s.expansion < number

-- each body is invoked in one that stands before it
abbrev pub AreNested : List Inlined → Type 0
AreNested xs = (k : ℕ) (x : Inlined) → slice_get xs k ≡ Some x → IsBefore k x.site

-- the streams that are taken
abbrev pub list_taken : List Inlined → Taken → List Source
list_taken xs (T.One s) = s ∷ []
list_taken xs (T.Port site port) = flat_map (λ n. sources_of xs site.expansion n.what) (port_names xs site port)

abbrev pub IsTakenBefore : ℕ → Taken → Type 0
IsTakenBefore number (T.One s) = Unit {0}
IsTakenBefore number (T.Port site port) = site.expansion < number

-- an input of the body of that number takes these streams: their count up to 2^30, the first of them, and which they are
pub record StandsFor (xs : List Inlined) (number : ℕ) (i : Input) (list : List Source) : Type 0 where
  pub count : i.count ≡ min (length list) (2 ^ 30)
  pub first : option_to_list i.first ≡ take 1 list
  pub taken : list_taken xs i.taken ≡ list
  pub before : IsTakenBefore number i.taken

-- the inputs of the body of a number, which stands there
pub record AreInputs (xs : List Inlined) (number : ℕ) (x : Inlined) (row : List Input) : Type 0 where
  pub count : length row ≡ length x.composite.what.inputs
  pub each : (j : ℕ) (i : Input) → slice_get row j ≡ Some i → StandsFor xs number i (input_sources (sources_of xs) xs x.site j)

-- those of all bodies
pub record InputsStand (xs : List Inlined) (rows : List (List Input)) : Type 0 where
  pub count : length rows ≡ length xs
  pub each : (k : ℕ) (x : Inlined) (row : List Input) → slice_get xs k ≡ Some x → slice_get rows k ≡ Some row → AreInputs xs k x row

-- the body of that number is one of the composite, and the row is that of its inputs
pub record IsBody (xs : List Inlined) (number : ℕ) (c : Composite) (row : List Input) : Type 0 where
  pub body : Inlined
  pub here : slice_get xs number ≡ Some body
  pub composite : body.composite.what ≡ c
  pub inputs : AreInputs xs number body row
  pub nested : AreNested xs

-- the bodies of an expansion, and a row of inputs for each
pub record AreKept (unit : List Definition) (bodies : List Body) (rows : List (List Input)) (xs : List Inlined) : Type 0 where
  pub shows : Shows unit bodies xs
  pub inputs : InputsStand xs rows
  pub nested : AreNested xs
