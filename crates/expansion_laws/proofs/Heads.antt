-- What an invocation that is declared and fits its head has.
use Rattle.std.specs.Prelude.{◌≡◌, ℕ, zero, suc, Bool, true, false, not, List, [], ◌∷◌, ◌++◌, filter, flat_map, length, Option, Some, None, Ok, slice_get, if◌then◌else◌}
use Rattle.std.specs.List.{list_all}
use Rattle.std.proofs.Common.{refl, sym, ap, ◌∙◌, eqb-true}
use Rattle.spl_tree.specs.declared.expression.Placed.{Placed}
use Rattle.spl_tree.specs.declared.unit.Composite.{Composite}
use Rattle.spl_tree.specs.declared.unit.Definition.{Definition}
use Rattle.spl_tree.specs.declared.unit.HeadPort.{HeadPort}
use Rattle.spl_tree.specs.declared.unit.InputPort.{InputPort}
use Rattle.spl_tree.specs.declared.unit.Invocation.{Invocation}
use Rattle.language_model.specs.Declarations.{first_of}
use Rattle.language_model.specs.Expansion.{Expanded, Made}
use Rattle.language_model.proofs.parts.Expansion.{if_declared}
use Rattle.language_model.specs.Invoking.{target_of, is_nothing, undeclared, stream_names, fits_head}
use Rattle.language_model.specs.Names.{is_named}
use Rattle.language_model.specs.parts.Invoking.{is_readable}
use Rattle.expansion_laws.proofs.Growing.{AreReadable, IsReadable}
use Rattle.spl_value.proofs.Bools.{and_parts}

pub all_pass : {A : Type 0} (p : A → Bool) (xs : List A) (k : ℕ) (x : A) → list_all p xs ≡ true → slice_get xs k ≡ Some x → p x ≡ true
all_pass p [] k x all at = absurd cc
all_pass p (y ∷ ys) zero x all at = let same : y ≡ x = cc in ap p (sym same) ∙ (and_parts (p y) (list_all p ys) all).0
all_pass p (y ∷ ys) (suc k) x all at = all_pass p ys k x (and_parts (p y) (list_all p ys) all).1 at

-- ---- heads

module _ (c : Composite) (i : Invocation) (fits : fits_head c i ≡ true) where
  pub outputs_fit : length i.outputs ≡ length c.outputs
  outputs_fit = eqb-true (length i.outputs) (length c.outputs) (and_parts _ _ (and_parts _ _ (and_parts _ _ (and_parts _ _ fits).0).0).0).0

  pub inputs_fit : length i.inputs ≡ length c.inputs
  inputs_fit = eqb-true (length i.inputs) (length c.inputs) (and_parts _ _ (and_parts _ _ (and_parts _ _ (and_parts _ _ fits).0).0).0).1

  pub output_made : (k : ℕ) (p : HeadPort) → slice_get c.outputs k ≡ Some p → is_named (stream_names c) p.name.what ≡ true
  output_made k p at = all_pass (λ p. is_named (stream_names c) p.name.what) c.outputs k p (and_parts _ _ fits).1 at

-- ---- what is declared

pub declared_none : (o : Option (Placed (List ℕ))) (found : Expanded Made) (made : Made) → if_declared o found ≡ Ok made → o ≡ None
declared_none None found made e = refl
declared_none (Some n) found made e = absurd cc

pub first_none : {A : Type 0} (xs : List A) → first_of xs ≡ None → xs ≡ []
first_none [] e = refl
first_none (x ∷ xs) e = absurd cc

pub parts_nil : {A : Type 0} (xs ys : List A) → xs ++ ys ≡ [] → (xs ≡ []) × (ys ≡ [])
parts_nil [] ys e = (refl, e)
parts_nil (x ∷ xs) ys e = absurd cc

-- where none is left of a list that fails, each passes
none_fails : {A : Type 0} (p : A → Bool) (x : A) (xs : List A) → filter (λ y. not (p y)) (x ∷ xs) ≡ [] → (p x ≡ true) × (filter (λ y. not (p y)) xs ≡ [])
none_fails {A = A} p x xs e =
    elim (p x) as (λ b. (if not b then x ∷ filter (λ y. not (p y)) xs else filter (λ y. not (p y)) xs) ≡ [] → (b ≡ true) × (filter (λ y. not (p y)) xs ≡ [])) [
      | true ↦ λ h. (refl, h)
      | false ↦ λ h. absurd cc
    ] e

none_fails_in : {A : Type 0} (p : A → Bool) (xs ys : List A) → filter (λ y. not (p y)) (xs ++ ys) ≡ []
    → ((j : ℕ) (x : A) → slice_get xs j ≡ Some x → p x ≡ true) × (filter (λ y. not (p y)) ys ≡ [])
none_fails_in p [] ys e = (λ j x at. absurd cc, e)
none_fails_in {A = A} p (z ∷ xs) ys e =
    let h = none_fails p z (xs ++ ys) e in
    let rest = none_fails_in p xs ys h.1 in
    (each h.0 rest.0, rest.1)
  where
    each : p z ≡ true → ((j : ℕ) (x : A) → slice_get xs j ≡ Some x → p x ≡ true) → (j : ℕ) (x : A) → slice_get (z ∷ xs) j ≡ Some x → p x ≡ true
    each first later zero x at = let same : z ≡ x = cc in ap p (sym same) ∙ first
    each first later (suc j) x at = later j x at

ports_readable : (c : Composite) (qs : List InputPort) → filter (λ n. not (is_readable c n.what)) (flat_map (λ q. q.streams) qs) ≡ []
    → (k : ℕ) (q : InputPort) → slice_get qs k ≡ Some q → AreReadable c q.streams
ports_readable c [] e k q at = absurd cc
ports_readable c (r ∷ qs) e zero q at =
    let same : r ≡ q = cc in
    λ j n there. (none_fails_in (λ n. is_readable c n.what) r.streams (flat_map (λ q. q.streams) qs) e).0 j n (ap (λ (x : InputPort). slice_get x.streams j) same ∙ there)
ports_readable c (r ∷ qs) e (suc k) q at = ports_readable c qs (none_fails_in (λ n. is_readable c n.what) r.streams (flat_map (λ q. q.streams) qs) e).1 k q at

pub all_readable : (unit : List Definition) (c : Composite) (i : Invocation) → first_of (undeclared unit c i) ≡ None → IsReadable c i
all_readable unit c i none k q at =
    let all = first_none (undeclared unit c i) none in
    let front = (parts_nil _ _ all).0 in
    ports_readable c i.inputs (parts_nil (if is_nothing (target_of unit i.operator.what) then i.operator ∷ [] else []) _ front).1 k q at
