-- The code of a submit, by the port that has the stream's name.
use Rattle.std.specs.Prelude.{◌≡◌, ◌+◌, ℕ, suc, true, false, List, [], ◌∷◌, map, if◌then◌else◌, slice_get, Option, Some, None, Err}
use Rattle.std.specs.Option.{option_map}
use Rattle.std.specs.Str.{bytes_eq}
use Rattle.std.proofs.Common.{refl, ap, sym, subst, ◌∙◌, arith}
use Rattle.std.proofs.lemmas.Option.{slice_get-map}
use Rattle.spl_value.specs.declared.types.Named.{Named}
use Rattle.spl_value.specs.declared.types.SplType.{SplType}
use Rattle.spl_tree.specs.declared.body.Statement.{Statement}
use Rattle.spl_tree.specs.declared.expression.Placed.{Placed}
use Rattle.spl_tree.specs.Trees.{Expr}
use Rattle.language_model.specs.declared.scope.Port.{Port}
use Rattle.language_model.specs.declared.scope.Scope.{Scope}
use Rattle.language_model.specs.BodyTyping.{submit_typing, submitted}
use Rattle.language_model.proofs.parts.BodyTyping.{submitted_on, submitted_to}
use Rattle.language_model.specs.Scopes.{At, at_place, first_from}
use Rattle.language_model.specs.Typing.{Found, unknown}
use Rattle.language_model.specs.declared.answer.TypeAnswer.{TypeAnswer}
use Rattle.language_model.specs.declared.answer.TypeAnswer.TheVariants.{Refused, Memory}
use Rattle.language_model.specs.Finds.{Finds, IsUnknown}
use Rattle.body_rules.specs.declared.bodies.BodyPurpose.{BodyPurpose}
use Rattle.body_rules.specs.declared.bodies.BodySetting.{BodySetting}
use Rattle.body_rules.specs.Settings.{purpose_meant, setting_meant}

abbrev pub port_by : List Port → List ℕ → ℕ → Option (At Port)
port_by ports name i = first_from (λ p. bytes_eq p.name name) i ports

named_in : (ports : List Port) (name : List ℕ) (i : ℕ)
    → first_from (λ n. bytes_eq n name) i (map (λ p. p.name) ports) ≡ option_map (λ a. at_place a.place a.what.name) (port_by ports name i)
named_in [] name i = refl
named_in (p ∷ ports) name i =
    elim (bytes_eq p.name name) as (λ b. (if b then Some (at_place i p.name) else first_from (λ n. bytes_eq n name) (suc i) (map (λ p. p.name) ports))
    ≡ option_map (λ a. at_place a.place a.what.name) (if b then Some (at_place i p) else port_by ports name (suc i))) [
      | true ↦ refl
      | false ↦ named_in ports name (suc i)
    ]

-- what was found in a list that begins at a place is there
abbrev Stands : List Port → ℕ → Option (At Port) → Type 0
Stands ports i None = Unit {0}
Stands ports i (Some a) = (k : ℕ) × (a.place ≡ i + k) × (slice_get ports k ≡ Some a.what)

stands_later : (p : Port) (ports : List Port) (i : ℕ) (o : Option (At Port)) → Stands ports (suc i) o → Stands (p ∷ ports) i o
stands_later p ports i None h = tt
stands_later p ports i (Some a) h = let place : a.place ≡ suc i + h.0 = h.1 in (suc h.0, omega arith, h.2)

stands : (ports : List Port) (name : List ℕ) (i : ℕ) → Stands ports i (port_by ports name i)
stands [] name i = tt
stands (p ∷ ports) name i =
    elim (bytes_eq p.name name) as (λ b. Stands (p ∷ ports) i (if b then Some (at_place i p) else port_by ports name (suc i))) [
      | true ↦ (0, omega arith, refl)
      | false ↦ stands_later p ports i (port_by ports name (suc i)) (stands ports name (suc i))
    ]

port_at : (ports : List Port) (name : List ℕ) (a : At Port) → port_by ports name 0 ≡ Some a → slice_get ports a.place ≡ Some a.what
port_at ports name a e =
    let there : Stands ports 0 (Some a) = subst (Stands ports 0) e (stands ports name 0) in
    let place : a.place ≡ 0 + there.0 = there.1 in
    let same : a.place ≡ there.0 = omega arith in
    ap (slice_get ports) same ∙ there.2

module _ (ports : List Port) (scope : Scope) (e : Expr) (stream : Placed (List ℕ)) where
  abbrev schemas : List (List (Named SplType))
  schemas = map (λ p. p.schema) ports

  abbrev pub submitted_by : Option (At Port) → Found Statement
  submitted_by o = submitted_to schemas scope e (option_map (λ a. at_place a.place a.what.name) o) stream

  abbrev pub on_ports : Found Statement
  on_ports = submitted_to schemas scope e (first_from (λ name. bytes_eq name stream.what) 0 (map (λ p. p.name) ports)) stream

  by_port : (o : Option (At Port)) → port_by ports stream.what 0 ≡ o → on_ports ≡ submitted_by o
  by_port o is =
      ap (λ o. submitted_to schemas scope e o stream) (named_in ports stream.what 0) ∙ ap submitted_by is

  pub no_port : port_by ports stream.what 0 ≡ None → on_ports ≡ unknown stream.at stream.what
  no_port is = by_port None is

  pub this_port : (i : ℕ) (p : Port) → port_by ports stream.what 0 ≡ Some (at_place i p) → on_ports ≡ submitted scope i p.schema e
  this_port i p is =
      by_port (Some (at_place i p)) is
      ∙ ap (λ o. submitted_on scope e i o stream) (slice_get-map (λ p. p.schema) ports i ∙ ap (option_map (λ p. p.schema)) (port_at ports stream.what (at_place i p) is))

-- a submit by what a body is that of
abbrev pub submits_as : ℕ → BodySetting → Scope → Expr → Placed (List ℕ) → BodyPurpose → Found Statement
submits_as at setting scope e stream purpose =
    submit_typing at (setting_meant (record setting { purpose = purpose })) (purpose_meant purpose) scope e stream

pub unknown_is : (at : ℕ) (name : List ℕ) (e : TypeAnswer) → IsUnknown at name e → Finds {A = Statement} (unknown at name) (Err e)
unknown_is at name (Refused r) h = ap Err (sym h)
unknown_is at name Memory h = tt
