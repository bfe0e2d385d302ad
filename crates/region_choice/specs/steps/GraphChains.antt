-- What the choice of regions asks of a graph.
use Rattle.std.specs.Prelude.{ℕ, ◌||◌, not, Bool, false, List, [], ◌∷◌, slice_get}
use Rattle.std.specs.Option.{option_map_or}
use Rattle.stream_model.specs.Meaning.{Graph}
use Rattle.stream_model.specs.Operators.{Operator}
use Rattle.stream_model.specs.Regions.{any_keyed, chain_key, is_chain, is_eligible, ops_of}
use Rattle.stream_model.specs.Stream.{is_empty}
use Rattle.region_choice.specs.steps.Choosing.{Chains}

-- operators without a Keyed one, or with a key
abbrev pub has_key : List Operator → Bool
has_key ops = not (any_keyed ops) || not (is_empty (chain_key ops))

-- the operators with these numbers are a chain
abbrev pub is_pair : Graph → ℕ → ℕ → Bool
is_pair g a b = option_map_or (λ x. option_map_or (λ y. is_chain g (x ∷ y ∷ [])) (slice_get g.ops b) false) (slice_get g.ops a) false

abbrev pub chains_of : Graph → Chains
chains_of g =
    record {
      topo = g.topo;
      eligible = λ n. option_map_or is_eligible (slice_get g.ops n) false;
      links = is_pair g;
      safe = λ ns. has_key (ops_of g ns);
    }
