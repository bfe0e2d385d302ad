-- A number alone is a tuple of one int64, and a key.
use Rattle.std.proofs.Common.{◌≡◌, ◌&&◌, true, List, [], ◌∷◌, sym, ap, ◌∙◌, subst}
use Rattle.std.specs.Prelude.{IsTrue}
use Rattle.spl_value.specs.declared.types.IntKind.TheVariants.{I64}
use Rattle.spl_value.specs.declared.types.SplType.TheVariants as T
use Rattle.spl_value.specs.declared.value.Value.{Value}
use Rattle.spl_value.specs.declared.value.Value.TheVariants as V
use Rattle.spl_value.specs.Key.{are_key_places, is_key_value}
use Rattle.spl_value.specs.Values.{fits}
use Rattle.spl_value.proofs.FitsLaws.{fits_tuple}
use Rattle.language_model.specs.StreamTypes.{Attributes}
use Rattle.element_tests.specs.Driving.{HasNumber}

pub number_fits : (v : Value) (vs : List Value) → vs ≡ v ∷ [] → IsTrue (fits (T.Int I64) v) → (types : Attributes) → HasNumber types → IsTrue (fits (T.Tuple types) (V.Tuple vs))
number_fits v vs is fit types has =
    subst (λ ts. IsTrue (fits (T.Tuple ts) (V.Tuple vs))) (sym has.1)
    (subst (λ us. IsTrue (fits (T.Tuple (record { name = has.0; kind = T.Int I64 } ∷ [])) (V.Tuple us))) (sym is)
    (fits_tuple (record { name = has.0; kind = T.Int I64 } ∷ []) (v ∷ []) ∙ ap (λ b. b && true) fit))

pub number_key : (v : Value) (vs : List Value) → vs ≡ v ∷ [] → is_key_value v ≡ true → IsTrue (are_key_places vs (0 ∷ []))
number_key v vs is key = subst (λ us. IsTrue (are_key_places us (0 ∷ []))) (sym is) (ap (λ b. b && true) key)
