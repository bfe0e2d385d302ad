-- The variables of a state have first values.
use Rattle.std.specs.Prelude.{◌≡◌, ℕ, zero, suc, IsTrue, List, [], ◌∷◌, slice_get, Some}
use Rattle.std.proofs.Common.{refl, ap, subst}
use Rattle.spl_value.specs.declared.value.Value.{Value}
use Rattle.spl_value.specs.Values.{fits}
use Rattle.language_model.specs.declared.checked.StateVariable.{StateVariable}
use Rattle.language_model.specs.CodeFits.{CodeFits}
use Rattle.language_model.specs.FitLaws.{no_names}
use Rattle.language_model.specs.parts.LogicTyping.{is_plain}
use Rattle.evaluation_laws.specs.HandlerLaws.{AreFirst, FirstValuesLaw}
use Rattle.evaluation_laws.specs.LiteralLaws.{IsAlways}
use Rattle.evaluation_laws.proofs.PlainCodes.{literal_law}

-- what holds of a variable and its value
abbrev Each : (StateVariable → Value → Type 0) → List StateVariable → List Value → Type 0
Each P state values = (k : ℕ) (x : StateVariable) → slice_get state k ≡ Some x → (v : Value) × (slice_get values k ≡ Some v) × P x v

each_more : (P : StateVariable → Value → Type 0) (x : StateVariable) (v : Value) → P x v → (state : List StateVariable) (values : List Value) → Each P state values
    → Each P (x ∷ state) (v ∷ values)
each_more P x v h state values rest zero y e = let same : x ≡ y = cc in (v, refl, subst (λ y. P y v) same h)
each_more P x v h state values rest (suc k) y e = rest k y e

pub one_more : (x : StateVariable) (v : Value) → IsTrue (fits x.variable.kind v) → IsAlways x.first v → (state : List StateVariable) (values : List Value)
    → AreFirst state values → AreFirst (x ∷ state) (v ∷ values)
one_more x v f always state values rest = record {
  fit = record { count = ap suc rest.fit.count; each = each_more (λ x v. IsTrue (fits x.variable.kind v)) x v f state values rest.fit.each };
  first = each_more (λ x v. IsAlways x.first v) x v always state values rest.first;
}

pub none_first : AreFirst [] []
none_first = record { fit = record { count = refl; each = λ k x e. absurd cc }; first = λ k x e. absurd cc }

-- each first value is one of literals, of its variable's type
abbrev OfLiterals : List StateVariable → Type 0
OfLiterals state = (k : ℕ) (x : StateVariable) → slice_get state k ≡ Some x → CodeFits no_names x.first x.variable.kind × IsTrue (is_plain x.first)

first_values : (state : List StateVariable) → OfLiterals state → (values : List Value) × AreFirst state values
first_values [] h = ([], none_first)
first_values (x ∷ state) h =
    let here = h zero x refl in
    let one = literal_law x.first x.variable.kind here.0 here.1 in
    let rest = first_values state (λ k y e. h (suc k) y e) in
    (one.0 ∷ rest.0, one_more x one.0 one.1 one.2 state rest.0 rest.1)

pub first_values_law : FirstValuesLaw
first_values_law scope outs handlers h = first_values handlers.state (λ k x e. (h.state k x e, h.plain k x e))
