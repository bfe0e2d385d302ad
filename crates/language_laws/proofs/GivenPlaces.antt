-- A place that has a type is given where its variable may be changed, and refused where it may not.
use Rattle.std.specs.Prelude.{◌≡◌, ℕ, false, List, [], ◌∷◌, Some, None, Ok, if◌then◌else◌}
use Rattle.std.specs.Option.{option_map_or}
use Rattle.std.proofs.Common.{sym, ap, subst, ◌∙◌}
use Rattle.spl_tree.specs.Trees.{Expr, placed}
use Rattle.spl_tree.specs.declared.body.Place.{Place}
use Rattle.spl_tree.specs.declared.code.Code.{Code}
use Rattle.spl_tree.specs.declared.code.Code.TheVariants as C
use Rattle.spl_tree.specs.declared.code.Code.TheViews.{out-Code}
use Rattle.spl_tree.specs.declared.code.Slot.{Slot}
use Rattle.spl_tree.specs.declared.code.Slot.TheVariants as L
use Rattle.spl_tree.specs.declared.code.Selector.{Selector}
use Rattle.spl_tree.specs.declared.expression.ExprKind.TheVariants as E
use Rattle.spl_tree.specs.declared.expression.ExprKind.TheOpen as X
use Rattle.spl_tree.specs.declared.expression.Placed.{Placed}
use Rattle.spl_tree.specs.declared.expression.Step.{Step}
use Rattle.language_model.specs.declared.scope.Scope.{Scope}
use Rattle.language_model.specs.declared.scope.Typed.{Typed}
use Rattle.language_model.specs.declared.scope.CheckError.TheVariants as N
use Rattle.language_model.specs.declared.scope.Variable.{Variable}
use Rattle.language_model.specs.Readings.{level_name, level_root, root_of}
use Rattle.language_model.specs.Scopes.{At, OfVariable, meant, variable_of, attributes_of}
use Rattle.language_model.proofs.parts.Scopes.{variable_meant, port_of}
use Rattle.language_model.specs.Typing.{Found, after, as_wanted, refused, Part, meant_typed, steps_typed, selected, select_typed, of_port, is_mutable, if_mutable, typed, typing}
use Rattle.language_model.specs.parts.Typing.{of_base}
use Rattle.language_model.proofs.ReadingLaws.{fold_at}
use Rattle.language_model.proofs.TypingLaws as W
use Rattle.language_model.specs.TypingLaws.{parted, step_parts}
use Rattle.language_model.specs.StatementTyping.{TypedPlace, level_variable, level_place, place_given, place_typing}
use Rattle.language_laws.specs.PlaceLaws as P
use Rattle.language_laws.specs.PlaceLaws.{read_code, IsPlace, NamePlaceLaw, PlaceGivenLaw, PlaceRefusedLaw}
use Rattle.language_model.proofs.Wanting.{Some_thing, gives_some, part_of}
use Rattle.language_laws.proofs.PlaceTyping.{variable_found}
use Rattle.language_model.proofs.FoundAnswers.{Gives, gives_after, gives_from}

-- the code reads a place
abbrev HasPlace : Typed → Type 0
HasPlace t = (place : Place) × (level_place (out-Code Slot t.code) ≡ Some place)

-- reading a place reads that place
pub selected_reads_back : (place : Place) → level_place (out-Code Slot (read_code place)) ≡ Some place
selected_reads_back place = taken_back place.variable place.takings
  where
    taken_back : (i : ℕ) (takings : List (Selector (Code Slot))) → level_place (out-Code Slot (selected (C.Name (L.Variable i)) takings)) ≡ Some (record { variable = i; takings = takings })
    taken_back i [] = ap level_place (C.outs-Name (L.Variable i))
    taken_back i (s ∷ ss) = ap level_place (C.outs-Select (C.Name (L.Variable i)) (s ∷ ss)) ∙ ap (level_variable (s ∷ ss)) (C.outs-Name (L.Variable i))

selected_has : (i : ℕ) (takings : List (Selector (Code Slot))) → (place : Place) × (level_place (out-Code Slot (selected (C.Name (L.Variable i)) takings)) ≡ Some place)
selected_has i takings = let place : Place = record { variable = i; takings = takings } in (place, selected_reads_back place)

module _ (scope : Scope) (name : List ℕ) (v : At Variable) (is : variable_of scope name ≡ Some v) where
  variable_is : meant scope name ≡ OfVariable v
  variable_is = ap (λ o. variable_meant o (attributes_of scope name) (port_of scope name)) is

  name_is : (at : ℕ) → typing scope (placed at (E.Name name)) None ≡ Ok (typed v.what.kind (C.Name (L.Variable v.place)))
  name_is at = W.name_typed name at scope None ∙ ap (λ m. after (meant_typed at name m) (as_wanted at None)) variable_is

  select_has : (base : ℕ) (steps : List (Step (Placed Part))) → Gives HasPlace (select_typed base scope (typed v.what.kind (C.Name (L.Variable v.place))) steps)
  select_has base steps =
      gives_after Some_thing HasPlace (steps_typed base scope v.what.kind steps) _ (gives_some (steps_typed base scope v.what.kind steps)) (λ xs s. selected_has v.place xs.0)

  -- what is taken of the name, as it is typed
  taken_is : (at base : ℕ) (steps : List (Step Expr)) → typing scope (placed at (E.Select (placed base (E.Name name)) steps)) None
      ≡ after (select_typed base scope (typed v.what.kind (C.Name (L.Variable v.place))) (step_parts steps)) (as_wanted at None)
  taken_is at base steps =
      let whole = placed base (E.Name name) in
      W.select_typed whole steps at scope None
      ∙ ap (λ o. after (of_base o (part_of whole) scope (step_parts steps)) (as_wanted at None)) (fold_at level_name (E.Name name) (X.Name name) (E.outs-Name name))
      ∙ ap (λ m. after (of_port m (part_of whole) scope (step_parts steps)) (as_wanted at None)) variable_is
      ∙ ap (λ r. after (after r (λ x. select_typed base scope x (step_parts steps))) (as_wanted at None)) (name_is base)

  has_place : (e : Expr) → IsPlace name e → Gives HasPlace (typing scope e None)
  has_place _ (P.whole at) = subst (Gives HasPlace) (sym (name_is at)) (selected_has v.place [])
  has_place _ (P.taken at base steps) =
      subst (Gives HasPlace) (sym (taken_is at base steps))
      (gives_after HasPlace HasPlace (select_typed base scope (typed v.what.kind (C.Name (L.Variable v.place))) (step_parts steps)) _ (select_has base (step_parts steps)) (λ t h. h))

root_is : (name : List ℕ) (e : Expr) → IsPlace name e → root_of e.what ≡ Some name
root_is name _ (P.whole at) = fold_at level_root (E.Name name) (X.Name name) (E.outs-Name name)
root_is name _ (P.taken at base steps) =
    fold_at level_root (E.Select (placed base (E.Name name)) steps) (X.Select (placed base (E.Name name)) steps) (E.outs-Select (placed base (E.Name name)) steps)
    ∙ fold_at level_root (E.Name name) (X.Name name) (E.outs-Name name)

module _ (scope : Scope) (name : List ℕ) (e : Expr) (t : Typed) (is : IsPlace name e) (found : typing scope e None ≡ Ok t) where
  abbrev given : Found TypedPlace
  given = place_given e.at t.kind (level_place (out-Code Slot t.code))

  -- where a place has a type, it is given or refused by its variable
  by_variable : place_typing scope e ≡ (if is_mutable scope name then given else refused N.NotMutable e.at None)
  by_variable =
      ap (λ r. after r (λ t. if_mutable e.at scope (parted e) (root_of e.what) (place_given e.at t.kind (level_place (out-Code Slot t.code))))) found
      ∙ ap (λ root. if_mutable e.at scope (parted e) root given) (root_is name e is)

pub place_given_law : PlaceGivenLaw
place_given_law scope name e t is may found =
    let v = variable_found (variable_of scope name) may in
    let has = gives_from HasPlace (typing scope e None) t (has_place scope name v.0 v.1 e is) found in (
      has.0,
      by_variable scope name e t is found
          ∙ ap (λ b. if b then given scope name e t is found else refused N.NotMutable e.at None) may
          ∙ ap (place_given e.at t.kind) has.1,
    )

pub place_refused_law : PlaceRefusedLaw
place_refused_law scope name e t is may found =
    by_variable scope name e t is found ∙ ap (λ b. if b then given scope name e t is found else refused N.NotMutable e.at None) may

pub name_place_law : NamePlaceLaw
name_place_law scope at name v is may =
    let whole : Expr = placed at (E.Name name) in
    let variable : Typed = typed v.what.kind (C.Name (L.Variable v.place)) in
    let found = name_is scope name v is at in
    by_variable scope name whole variable (P.whole at) found
    ∙ ap (λ b. if b then given scope name whole variable (P.whole at) found else refused N.NotMutable at None) (ap (λ o. option_map_or (λ w. w.what.mutable) o false) is ∙ may)
    ∙ ap (place_given at v.what.kind) (ap level_place (C.outs-Name (L.Variable v.place)))
