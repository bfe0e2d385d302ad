-- Tuples at places of a list in two parts.
use Rattle.std.proofs.Common.{ℕ, ◌<◌, List, [], ◌++◌, ◌≡◌, sym, ap, ◌∙◌, length, slice_index_or, Some, slice_get}
use Rattle.std.specs.Option.{unwrap_or}
use Rattle.std.proofs.lemmas.Option.{slice_get-get_or}
use Rattle.spl_value.specs.declared.value.Value.{Value}
use Rattle.spl_value.proofs.Lists.{append_front}
use Rattle.operator_chains.specs.Places.{tuple_at}

-- what stands at a place of the front is the tuple there
pub front_tuple : (places front back : List (List Value)) (at : ℕ) (d : List Value) → places ≡ front ++ back → at < length front
    → slice_index_or front at d ≡ tuple_at places at
front_tuple places front back at d e l =
    let here : slice_get front at ≡ Some (slice_index_or front at d) = slice_get-get_or front at d l in
    let there : slice_get places at ≡ Some (slice_index_or front at d) =
    ap (λ xs. slice_get xs at) e ∙ append_front front back at (slice_index_or front at d) here in
    sym (ap (λ o. unwrap_or o []) there)
