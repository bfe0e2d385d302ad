-- A code that fits one scope fits another where what it may name does, so one that names nothing fits everywhere.
use Rattle.std.specs.Prelude.{◌≡◌, ℕ, IsTrue, List, [], slice_get, Some}
use Rattle.std.proofs.Common.{refl, sym, ap, ◌∙◌}
use Rattle.spl_value.specs.declared.types.Named.{Named}
use Rattle.spl_value.specs.declared.types.SplType.{SplType}
use Rattle.spl_value.specs.declared.types.SplType.TheVariants as S
use Rattle.spl_tree.specs.declared.code.Code.{Code}
use Rattle.spl_tree.specs.declared.code.Slot.{Slot}
use Rattle.spl_tree.specs.declared.code.Selector.{Selector}
use Rattle.language_model.specs.declared.scope.Scope.{Scope}
use Rattle.language_model.specs.declared.scope.Signature.{Signature}
use Rattle.language_model.specs.CodeFits as F
use Rattle.language_model.specs.CodeFits.{CodeFits, SlotFits, ElementsFit, PairsFit, FieldsFit, ArgumentsFit, StepsLead}
use Rattle.language_model.specs.FitLaws.{no_names, DollarsFit, ClosedLaw, ConstantLaw}

module _ (one other : Scope) (slots : (s : Slot) (t : SplType) → SlotFits one s t → SlotFits other s t)
    (functions : (i : ℕ) (f : Signature) → slice_get one.functions i ≡ Some f → slice_get other.functions i ≡ Some f) (punct : IsTrue one.punct → IsTrue other.punct) where
  mutual
    refits : (x : Code Slot) (t : SplType) → CodeFits one x t → CodeFits other x t
    refits _ _ (F.literal v t h) = F.literal v t h
    refits _ _ (F.name s t h) = F.name s t (slots s t h)
    refits _ _ (F.list xs t h) = F.list xs t (elements_refit xs t h)
    refits _ _ (F.map xs k t h) = F.map xs k t (pairs_refit xs k t h)
    refits _ _ (F.tuple fs schema h each) = F.tuple fs schema (fields_refit fs schema h) each
    refits _ _ (F.select x steps t u f h) = F.select x steps t u (refits x t f) (steps_relead steps t u h)
    refits _ _ (F.unary ops x t u f gives) = F.unary ops x t u (refits x t f) gives
    refits _ _ (F.binary op x y t u r f h gives) = F.binary op x y t u r (refits x t f) (refits y u h) gives
    refits _ _ (F.conditional c x y t f h i) = F.conditional c x y t (refits c S.Bool f) (refits x t h) (refits y t i)
    refits _ _ (F.built_in call xs ts t h gives) = F.built_in call xs ts t (arguments_refit xs ts h) gives
    refits _ _ (F.call i xs f t at result h) = F.call i xs f t (functions i f at) result (arguments_refit xs f.parameters h)
    refits _ _ (F.is_marker m h) = F.is_marker m (punct h)
    refits _ _ (F.is_not_marker m h) = F.is_not_marker m (punct h)

    elements_refit : (xs : List (Code Slot)) (t : SplType) → ElementsFit one xs t → ElementsFit other xs t
    elements_refit _ _ (F.no_elements t) = F.no_elements t
    elements_refit _ _ (F.element x xs t f h) = F.element x xs t (refits x t f) (elements_refit xs t h)

    pairs_refit : (xs : List (Code Slot × Code Slot)) (k t : SplType) → PairsFit one xs k t → PairsFit other xs k t
    pairs_refit _ _ _ (F.no_pairs k t) = F.no_pairs k t
    pairs_refit _ _ _ (F.pair x y xs k t f h i) = F.pair x y xs k t (refits x k f) (refits y t h) (pairs_refit xs k t i)

    fields_refit : (fs : List (ℕ × Code Slot)) (schema : List (Named SplType)) → FieldsFit one fs schema → FieldsFit other fs schema
    fields_refit _ _ (F.no_fields schema) = F.no_fields schema
    fields_refit _ _ (F.field i x fs schema a at f h) = F.field i x fs schema a at (refits x a.kind f) (fields_refit fs schema h)

    arguments_refit : (xs : List (Code Slot)) (ts : List SplType) → ArgumentsFit one xs ts → ArgumentsFit other xs ts
    arguments_refit _ _ F.no_arguments = F.no_arguments
    arguments_refit _ _ (F.argument x xs t ts f h) = F.argument x xs t ts (refits x t f) (arguments_refit xs ts h)

    steps_relead : (steps : List (Selector (Code Slot))) (t u : SplType) → StepsLead one steps t u → StepsLead other steps t u
    steps_relead _ _ _ (F.here t) = F.here t
    steps_relead _ _ _ (F.member i steps schema a u at h) = F.member i steps schema a u at (steps_relead steps a.kind u h)
    steps_relead _ _ _ (F.index x steps k t u f h) = F.index x steps k t u (refits x (S.Int k) f) (steps_relead steps t u h)
    steps_relead _ _ _ (F.at_key x steps k t u f h) = F.at_key x steps k t u (refits x k f) (steps_relead steps t u h)

-- no slot is one of a scope with no variable and no port
no_slot : (one other : Scope) → one.vars ≡ [] → one.ports ≡ [] → (s : Slot) (t : SplType) → SlotFits one s t → SlotFits other s t
no_slot one other vars ports _ _ (F.variable i v at named) = let none : slice_get [] i ≡ Some v = ap (λ vs. slice_get vs i) (sym vars) ∙ at in absurd cc
no_slot one other vars ports _ _ (F.attribute i j p a at of first named) = let none : slice_get [] i ≡ Some p = ap (λ ps. slice_get ps i) (sym ports) ∙ at in absurd cc
no_slot one other vars ports _ _ (F.port i p at named) = let none : slice_get [] i ≡ Some p = ap (λ ps. slice_get ps i) (sym ports) ∙ at in absurd cc

pub closed_law : ClosedLaw
closed_law scope code t h = refits no_names scope (no_slot no_names scope refl refl) (λ i f at. absurd cc) (λ p. absurd cc) code t h

pub constant_law : ConstantLaw
constant_law dollars code t h =
    let one : Scope = record no_names { dollars = dollars } in
    refits one no_names (no_slot one no_names refl refl) (λ i f at. at) (λ p. p) code t h

pub no_dollars_fit : DollarsFit []
no_dollars_fit name t is = absurd cc
