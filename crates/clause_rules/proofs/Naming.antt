-- Ports by what has their names, with their attributes.
use Rattle.std.specs.Prelude.{◌≡◌, ℕ, List, [], ◌∷◌, ◌++◌, length, Option, Some, None, slice_get}
use Rattle.std.proofs.Common.{refl, sym, ap, ◌∙◌, append-nil}
use Rattle.language_model.specs.declared.scope.Port.{Port}
use Rattle.language_model.specs.StreamTypes.{Attributes}
use Rattle.clause_rules.specs.steps.Operators.{named}

-- the port of what has a name, where there is one
abbrev pub port_of : {A : Type 0} → (A → List ℕ) → Attributes → Option A → List Port
port_of name schema None = []
port_of name schema (Some x) = record { name = name x; schema = schema } ∷ []

pub named_none : {A : Type 0} (name : A → List ℕ) (xs : List A) → named name xs [] ≡ []
named_none name [] = refl
named_none name (x ∷ xs) = refl

-- with one more list of attributes there is one port more, as long as there are names
pub named_more : {A : Type 0} (name : A → List ℕ) (xs : List A) (schemas : List Attributes) (schema : Attributes)
    → named name xs (schemas ++ schema ∷ []) ≡ named name xs schemas ++ port_of name schema (slice_get xs (length (named name xs schemas)))
named_more name [] [] schema = refl
named_more name [] (s ∷ schemas) schema = refl
named_more name (x ∷ xs) [] schema = ap (λ ps. record { name = name x; schema = schema } ∷ ps) (named_none name xs)
named_more name (x ∷ xs) (s ∷ schemas) schema = ap (λ ps. record { name = name x; schema = s } ∷ ps) (named_more name xs schemas schema)

pub named_past : {A : Type 0} (name : A → List ℕ) (xs : List A) (schemas : List Attributes) (schema : Attributes) (ports : List Port)
    → ports ≡ named name xs schemas → slice_get xs (length ports) ≡ None → ports ≡ named name xs (schemas ++ schema ∷ [])
named_past name xs schemas schema ports e none =
    sym (append-nil ports) ∙ ap (λ o. ports ++ port_of name schema o) (sym none)
    ∙ ap (λ ps. ps ++ port_of name schema (slice_get xs (length ps))) e ∙ sym (named_more name xs schemas schema)

pub named_next : {A : Type 0} (name : A → List ℕ) (xs : List A) (schemas : List Attributes) (schema : Attributes) (ports : List Port) (x : A)
    → ports ≡ named name xs schemas → slice_get xs (length ports) ≡ Some x → ports ++ record { name = name x; schema = schema } ∷ [] ≡ named name xs (schemas ++ schema ∷ [])
named_next name xs schemas schema ports x e some =
    ap (λ o. ports ++ port_of name schema o) (sym some)
    ∙ ap (λ ps. ps ++ port_of name schema (slice_get xs (length ps))) e ∙ sym (named_more name xs schemas schema)
