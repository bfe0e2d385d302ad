-- What names mean is there, and has the name.
use Rattle.std.specs.Prelude.{◌≡◌, ◌+◌, ℕ, suc, Bool, true, false, List, [], ◌∷◌, ◌++◌, Option, Some, None, slice_get, if◌then◌else◌}
use Rattle.std.specs.Str.{bytes_eq}
use Rattle.std.specs.Cmp.Lexicographic.{bytes_decides}
use Rattle.std.proofs.Common.{refl, subst, arith}
use Rattle.spl_value.specs.declared.types.Named.{Named}
use Rattle.spl_value.specs.declared.types.SplType.{SplType}
use Rattle.language_model.specs.declared.scope.Port.{Port}
use Rattle.language_model.specs.declared.scope.Scope.{Scope}
use Rattle.language_model.specs.Scopes.{At, at_place, first_from, last_from, variable_of, attribute_of, PortAttribute, attributes_from, attributes_of, function_of}
use Rattle.language_model.proofs.parts.Scopes.{or_before, port_of}
use Rattle.language_model.specs.parts.Scopes.{in_port}

-- what was found in a list that begins at a place is there, and passes
abbrev pub Stands : {A : Type 0} → (A → Bool) → List A → ℕ → Option (At A) → Type 0
Stands p xs i None = Unit {0}
Stands p xs i (Some a) = (k : ℕ) × (a.place ≡ i + k) × (slice_get xs k ≡ Some a.what) × (p a.what ≡ true)

stands_later : {A : Type 0} (p : A → Bool) (x : A) (xs : List A) (i : ℕ) (o : Option (At A)) → Stands p xs (suc i) o → Stands p (x ∷ xs) i o
stands_later p x xs i None h = tt
stands_later p x xs i (Some a) h = let place : a.place ≡ suc i + h.0 = h.1 in (suc h.0, omega arith, h.2, h.3)

pub first_stands : {A : Type 0} (p : A → Bool) (xs : List A) (i : ℕ) → Stands p xs i (first_from p i xs)
first_stands p [] i = tt
first_stands p (x ∷ xs) i =
    elim (p x) as (λ b. p x ≡ b → Stands p (x ∷ xs) i (if b then Some (at_place i x) else first_from p (suc i) xs)) [
      | true ↦ λ passes. (0, omega arith, refl, passes)
      | false ↦ λ fails. stands_later p x xs i (first_from p (suc i) xs) (first_stands p xs (suc i))
    ] refl

pub found_first : {A : Type 0} (p : A → Bool) (i : ℕ) (xs : List A) (x : At A) → first_from p i xs ≡ Some x → (k : ℕ) × (x.place ≡ i + k) × (slice_get xs k ≡ Some x.what)
found_first p i xs x is = let h = subst (Stands p xs i) is (first_stands p xs i) in (h.0, h.1, h.2)

or_before_stands : {A : Type 0} (p : A → Bool) (xs : List A) (i : ℕ) (o before : Option (At A)) → Stands p xs i o → Stands p xs i before → Stands p xs i (or_before o before)
or_before_stands p xs i None before h b = b
or_before_stands p xs i (Some a) before h b = h

pub last_stands : {A : Type 0} (p : A → Bool) (xs : List A) (i : ℕ) → Stands p xs i (last_from p i xs)
last_stands p [] i = tt
last_stands p (x ∷ xs) i =
    or_before_stands p (x ∷ xs) i (last_from p (suc i) xs) (if p x then Some (at_place i x) else None)
    (stands_later p x xs i (last_from p (suc i) xs) (last_stands p xs (suc i)))
    (elim (p x) as (λ b. p x ≡ b → Stands p (x ∷ xs) i (if b then Some (at_place i x) else None)) [
      | true ↦ λ passes. (0, omega arith, refl, passes)
      | false ↦ λ fails. tt
    ] refl)

-- what was found is at its place, and has the name
abbrev pub Bears : {A : Type 0} → (A → List ℕ) → List A → List ℕ → Option (At A) → Type 0
Bears name_of xs name None = Unit {0}
Bears name_of xs name (Some a) = (slice_get xs a.place ≡ Some a.what) × (name_of a.what ≡ name)

bears : {A : Type 0} (name_of : A → List ℕ) (xs : List A) (name : List ℕ) (o : Option (At A)) → Stands (λ x. bytes_eq (name_of x) name) xs 0 o → Bears name_of xs name o
bears name_of xs name None h = tt
bears name_of xs name (Some a) h =
    let place : a.place ≡ 0 + h.0 = h.1 in
    let same : a.place ≡ h.0 = omega arith in
    (rw same h.2, (bytes_decides (name_of a.what) name).0 h.3)

pub variable_there : (scope : Scope) (name : List ℕ) → Bears (λ v. v.name) scope.vars name (variable_of scope name)
variable_there scope name = bears (λ v. v.name) scope.vars name (variable_of scope name) (last_stands (λ v. bytes_eq v.name name) scope.vars 0)

pub attribute_there : (schema : List (Named SplType)) (name : List ℕ) → Bears (λ a. a.name) schema name (attribute_of schema name)
attribute_there schema name = bears (λ a. a.name) schema name (attribute_of schema name) (first_stands (λ a. bytes_eq a.name name) schema 0)

pub port_there : (scope : Scope) (name : List ℕ) → Bears (λ p. p.name) scope.ports name (port_of scope name)
port_there scope name = bears (λ p. p.name) scope.ports name (port_of scope name) (first_stands (λ p. bytes_eq p.name name) scope.ports 0)

pub function_there : (scope : Scope) (name : List ℕ) → Bears (λ f. f.name) scope.functions name (function_of scope name)
function_there scope name = bears (λ f. f.name) scope.functions name (function_of scope name) (first_stands (λ f. bytes_eq f.name name) scope.functions 0)

-- an attribute of the name is one of some ports that begin at a place, the first of its name there
pub record InPorts (ps : List Port) (i : ℕ) (name : List ℕ) (a : PortAttribute) : Type 0 where
  pub later : ℕ
  pub port : Port
  pub attribute : Named SplType
  pub place : a.port ≡ i + later
  pub port_is : slice_get ps later ≡ Some port
  pub attribute_is : slice_get port.schema a.attribute ≡ Some attribute
  pub kind : attribute.kind ≡ a.kind
  pub named : attribute.name ≡ name
  pub first : attribute_of port.schema name ≡ Some (at_place a.attribute attribute)

abbrev pub FirstOf : List Port → ℕ → List ℕ → List PortAttribute → Type 0
FirstOf ps i name [] = Unit {0}
FirstOf ps i name (a ∷ as') = InPorts ps i name a

in_later : (p : Port) (ps : List Port) (i : ℕ) (name : List ℕ) (a : PortAttribute) → InPorts ps (suc i) name a → InPorts (p ∷ ps) i name a
in_later p ps i name a h =
    let place : a.port ≡ suc i + h.later = h.place in
    record {
      later = suc h.later;
      port = h.port;
      attribute = h.attribute;
      place = omega arith;
      port_is = h.port_is;
      attribute_is = h.attribute_is;
      kind = h.kind;
      named = h.named;
      first = h.first;
    }

first_later : (p : Port) (ps : List Port) (i : ℕ) (name : List ℕ) (as' : List PortAttribute) → FirstOf ps (suc i) name as' → FirstOf (p ∷ ps) i name as'
first_later p ps i name [] h = tt
first_later p ps i name (a ∷ as') h = in_later p ps i name a h

first_in_port : (p : Port) (ps : List Port) (i : ℕ) (name : List ℕ) (o : Option (At (Named SplType))) (rest : List PortAttribute) → attribute_of p.schema name ≡ o
    → Bears (λ a. a.name) p.schema name o → FirstOf (p ∷ ps) i name rest → FirstOf (p ∷ ps) i name (in_port i o ++ rest)
first_in_port p ps i name None rest e h g = g
first_in_port p ps i name (Some a) rest e h g = record {
  later = 0;
  port = p;
  attribute = a.what;
  place = omega arith;
  port_is = refl;
  attribute_is = h.0;
  kind = refl;
  named = h.1;
  first = e;
}

attributes_first : (ps : List Port) (i : ℕ) (name : List ℕ) → FirstOf ps i name (attributes_from i ps name)
attributes_first [] i name = tt
attributes_first (p ∷ ps) i name =
    first_in_port p ps i name (attribute_of p.schema name) (attributes_from (suc i) ps name) refl (attribute_there p.schema name)
    (first_later p ps i name (attributes_from (suc i) ps name) (attributes_first ps (suc i) name))

pub attributes_there : (scope : Scope) (name : List ℕ) → FirstOf scope.ports 0 name (attributes_of scope name)
attributes_there scope name = attributes_first scope.ports 0 name
