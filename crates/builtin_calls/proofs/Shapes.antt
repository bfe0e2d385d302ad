-- What fits a type is of its shape.
use Rattle.std.proofs.Common.{◌≡◌, IsTrue, List, inl, inr, subst, sym, ◌∙◌}
use Rattle.std.specs.List.{list_all}
use Rattle.spl_value.specs.declared.types.SplType.{SplType}
use Rattle.spl_value.specs.declared.types.SplType.TheVariants as S
use Rattle.spl_value.specs.declared.value.Value.{Value}
use Rattle.spl_value.specs.declared.value.Value.TheVariants as V
use Rattle.spl_value.specs.Calls.{FitsCollection}
use Rattle.spl_value.proofs.FitsLaws.{pair_fits, fits_map, list_from_fits, map_from_fits}
use Rattle.spl_value.specs.Pairs.{are_pairs}
use Rattle.spl_value.specs.Values.{fits}
use Rattle.spl_value.proofs.Bools.{and_left as first_true}

-- a list or a map
pub not_collection : (v : Value) → FitsCollection v → ((vs : List Value) → v ≡ V.List vs → ⊥) → ((ps : List (Value × Value)) → v ≡ V.Map ps → ⊥) → ⊥
not_collection v (t, inl (element, e), f) not_list not_map =
    let is = list_from_fits element v (subst (λ (u : SplType). IsTrue (fits u v)) e f) in not_list is.0 is.1
not_collection v (t, inr (key, held, e), f) not_list not_map =
    let is = map_from_fits key held v (subst (λ (u : SplType). IsTrue (fits u v)) e f) in not_map is.0 is.1

-- the pairs of a map
pub are_pairs_of : (k t : SplType) (v : Value) (ps : List (Value × Value)) → v ≡ V.Map ps → IsTrue (fits (S.Map k t) v) → IsTrue (are_pairs ps)
are_pairs_of k t v ps e h = first_true (are_pairs ps) (list_all (pair_fits k t) ps) (sym (fits_map k t ps) ∙ subst (λ (m : Value). IsTrue (fits (S.Map k t) m)) e h)
