-- A code has the same result over the names of its slots.
use Rattle.std.specs.Prelude.{◌≡◌, ℕ, true, false, List, if◌then◌else◌, slice_get, Some}
use Rattle.std.specs.Option.{option_map, option_map_or, option_and_then}
use Rattle.std.proofs.Common.{refl, sym, ap, ap₂, ◌∙◌, eq-eqb, eqb-true, inl, inr}
use Rattle.spl_value.specs.declared.types.Named.{Named}
use Rattle.spl_value.specs.declared.types.SplType.{SplType}
use Rattle.spl_value.specs.declared.types.SplType.TheVariants as S
use Rattle.spl_tree.specs.declared.code.Code.{Code}
use Rattle.spl_tree.specs.declared.code.Slot.{Slot}
use Rattle.spl_tree.specs.declared.code.Slot.TheVariants as L
use Rattle.spl_tree.specs.declared.code.Selector.{Selector}
use Rattle.language_model.specs.declared.scope.Port.{Port}
use Rattle.language_model.specs.declared.scope.Scope.{Scope}
use Rattle.language_model.specs.CodeFits as F
use Rattle.language_model.specs.CodeFits.{CanBeNamed, CodeFits, SlotFits, ElementsFit, PairsFit, FieldsFit, ArgumentsFit, StepsLead}
use Rattle.language_model.specs.Evaluation.{World, Calls, slot_value, world_of}
use Rattle.language_model.specs.Scopes.{at_place, Meant, OfVariable, OfAttribute, OfPort, Nothing, meant, attributes_of, attribute_of}
use Rattle.language_model.proofs.parts.Scopes.{variable_meant, port_of}
use Rattle.language_model.specs.ValueLaws.{WrittenLaw, NamesLaw}
use Rattle.language_model.specs.Written.{Bare, Of, meant_slot, attribute_slot, slot_of_written, no_name, is_port, attribute_name, written, before_renaming, named_world}
use Rattle.language_laws.proofs.Agreeing.{Agree, ValuesAgree, PairsAgree, FieldsAgree, StepsAgree, literals_agree, names_agree, lists_agree, maps_agree, tuples_agree, selects_agree, unaries_agree, binaries_agree, conditionals_agree, built_ins_agree, calls_agree, markers_agree, not_markers_agree, more_values, more_pairs, more_fields, members_agree, elements_agree, keys_agree}
use Rattle.language_laws.proofs.Fitting.{MeantFits, name_meant, fit_law}
use Rattle.language_laws.proofs.Renaming.{renaming_law}

-- ---- names of slots

-- a meaning that is a port at a place is the one that is there
port_at : (scope : Scope) (i : ℕ) (p : Port) (m : Meant) → slice_get scope.ports i ≡ Some p → MeantFits scope m → is_port i m ≡ true → m ≡ OfPort (at_place i p)
port_at scope i p (OfPort q) at h e =
    let place : q.place ≡ i = eqb-true q.place i e in
    let some : Some q.what ≡ Some p = sym h.0 ∙ ap (slice_get scope.ports) place ∙ at in
    let what : q.what ≡ p = cc in
    ap₂ (λ i p. OfPort (at_place i p)) place what
port_at scope i p (OfVariable v) at h e = absurd cc
port_at scope i p (OfAttribute a) at h e = absurd cc
port_at scope i p Nothing at h e = absurd cc

module _ (scope : Scope) (i j : ℕ) (p : Port) (a : Named SplType) (at : slice_get scope.ports i ≡ Some p) (part : slice_get p.schema j ≡ Some a)
    (first : attribute_of p.schema a.name ≡ Some (at_place j a)) where
  behind_port : meant scope p.name ≡ OfPort (at_place i p) → slot_of_written scope (Of p.name a.name) ≡ Some (L.Attribute i j)
  behind_port named = ap (λ m. attribute_slot m a.name) named ∙ ap (option_map (λ a. L.Attribute i a.place)) first

  attribute_written : written scope (L.Attribute i j) ≡ attribute_name scope i p a.name
  attribute_written =
      ap (λ o. option_map_or (λ p. option_map_or (λ a. attribute_name scope i p a.name) (slice_get p.schema j) no_name) o no_name) at
      ∙ ap (λ o. option_map_or (λ a. attribute_name scope i p a.name) o no_name) part

  named_attribute : CanBeNamed scope i j p a → slot_of_written scope (attribute_name scope i p a.name) ≡ Some (L.Attribute i j)
  named_attribute (inl alone) =
      elim (is_port i (meant scope p.name)) as (λ b. is_port i (meant scope p.name) ≡ b → slot_of_written scope (if b then Of p.name a.name else Bare a.name) ≡ Some (L.Attribute i j)) [
        | true ↦ λ is. behind_port (port_at scope i p (meant scope p.name) at (name_meant scope p.name) is)
        | false ↦ λ other. ap meant_slot alone
      ] refl
  named_attribute (inr port) =
      let is : is_port i (meant scope p.name) ≡ true = ap (is_port i) port ∙ eq-eqb i i refl in
      ap (λ b. slot_of_written scope (if b then Of p.name a.name else Bare a.name)) is ∙ behind_port port

pub written_law : WrittenLaw
written_law scope _ _ (F.variable i v at found) =
    ap (λ o. slot_of_written scope (option_map_or (λ v. Bare v.name) o no_name)) at
    ∙ ap (λ o. meant_slot (variable_meant o (attributes_of scope v.name) (port_of scope v.name))) found
written_law scope _ _ (F.attribute i j p a at part first named) =
    ap (slot_of_written scope) (attribute_written scope i j p a at part first) ∙ named_attribute scope i j p a at part first named
written_law scope _ _ (F.port i p at named) = ap (λ o. slot_of_written scope (option_map_or (λ p. Bare p.name) o no_name)) at ∙ ap meant_slot named

-- ---- codes that fit

-- where slots that fit have the same values in two worlds, so have codes that fit
module _ (scope : Scope) (calls : Calls) (w v : World Slot) (values : (s : Slot) (t : SplType) → SlotFits scope s t → w.value_of s ≡ v.value_of s) (marker : w.marker ≡ v.marker) where
  mutual
    code_agrees : (x : Code Slot) (t : SplType) → CodeFits scope x t → Agree calls w v x x
    code_agrees _ _ (F.literal u t h) = literals_agree calls w v u
    code_agrees _ _ (F.name s t h) = names_agree calls w v s s (values s t h)
    code_agrees _ _ (F.list xs t h) = lists_agree calls w v xs xs (elements_agreed xs t h)
    code_agrees _ _ (F.map xs k t h) = maps_agree calls w v xs xs (pairs_agreed xs k t h)
    code_agrees _ _ (F.tuple fs schema h each) = tuples_agree calls w v fs fs (fields_agreed fs schema h)
    code_agrees _ _ (F.select x steps t u f h) = selects_agree calls w v x x steps steps (code_agrees x t f) (steps_agreed steps t u h)
    code_agrees _ _ (F.unary ops x t u f gives) = unaries_agree calls w v ops x x (code_agrees x t f)
    code_agrees _ _ (F.binary op x y t u r f h gives) = binaries_agree calls w v op x y x y (code_agrees x t f) (code_agrees y u h)
    code_agrees _ _ (F.conditional c x y t f h i) = conditionals_agree calls w v c x y c x y (code_agrees c S.Bool f) (code_agrees x t h) (code_agrees y t i)
    code_agrees _ _ (F.built_in call xs ts t h gives) = built_ins_agree calls w v call xs xs (arguments_agreed xs ts h)
    code_agrees _ _ (F.call i xs f t at result h) = calls_agree calls w v i xs xs (arguments_agreed xs f.parameters h)
    code_agrees _ _ (F.is_marker m h) = markers_agree calls w v m marker
    code_agrees _ _ (F.is_not_marker m h) = not_markers_agree calls w v m marker

    elements_agreed : (xs : List (Code Slot)) (t : SplType) → ElementsFit scope xs t → ValuesAgree calls w v xs xs
    elements_agreed _ _ (F.no_elements t) = λ turns. refl
    elements_agreed _ _ (F.element x xs t f h) = more_values calls w v x x xs xs (code_agrees x t f) (elements_agreed xs t h)

    pairs_agreed : (xs : List (Code Slot × Code Slot)) (k t : SplType) → PairsFit scope xs k t → PairsAgree calls w v xs xs
    pairs_agreed _ _ _ (F.no_pairs k t) = λ turns. refl
    pairs_agreed _ _ _ (F.pair x y xs k t f h i) = more_pairs calls w v x y x y xs xs (code_agrees x k f) (code_agrees y t h) (pairs_agreed xs k t i)

    fields_agreed : (fs : List (ℕ × Code Slot)) (schema : List (Named SplType)) → FieldsFit scope fs schema → FieldsAgree calls w v fs fs
    fields_agreed _ _ (F.no_fields schema) = λ turns. refl
    fields_agreed _ _ (F.field i x fs schema a at f h) = more_fields calls w v i x x fs fs (code_agrees x a.kind f) (fields_agreed fs schema h)

    arguments_agreed : (xs : List (Code Slot)) (ts : List SplType) → ArgumentsFit scope xs ts → ValuesAgree calls w v xs xs
    arguments_agreed _ _ F.no_arguments = λ turns. refl
    arguments_agreed _ _ (F.argument x xs t ts f h) = more_values calls w v x x xs xs (code_agrees x t f) (arguments_agreed xs ts h)

    steps_agreed : (steps : List (Selector (Code Slot))) (t u : SplType) → StepsLead scope steps t u → StepsAgree calls w v steps steps
    steps_agreed _ _ _ (F.here t) = λ x turns. refl
    steps_agreed _ _ _ (F.member i steps schema a u at h) = members_agree calls w v i steps steps (steps_agreed steps a.kind u h)
    steps_agreed _ _ _ (F.index x steps k t u f h) = elements_agree calls w v x x steps steps (code_agrees x (S.Int k) f) (steps_agreed steps t u h)
    steps_agreed _ _ _ (F.at_key x steps k t u f h) = keys_agree calls w v x x steps steps (code_agrees x k f) (steps_agreed steps t u h)

pub names_law : NamesLaw
names_law calls scope e wanted t fine found env turns =
    let named = named_world scope env in
    renaming_law calls (written scope) t.code named turns
    ∙ code_agrees scope calls (before_renaming (written scope) named) (world_of env) (λ s u h. ap (option_and_then (slot_value env)) (written_law scope s u h)) refl
    t.code t.kind (fit_law scope e wanted t fine found) turns
