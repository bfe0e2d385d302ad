-- Calls that change a place change the one that their first argument reads.
use Rattle.std.specs.Prelude.{◌≡◌, ℕ, List, [], ◌∷◌, codes, Some, None, Ok, if◌then◌else◌}
use Rattle.std.proofs.Common.{ap, ◌∙◌}
use Rattle.spl_value.specs.declared.types.SplType.{SplType}
use Rattle.spl_value.specs.declared.types.SplType.TheVariants as S
use Rattle.spl_value.specs.declared.types.SplType.TheViews.{out-SplType}
use Rattle.spl_tree.specs.Trees.{Expr}
use Rattle.spl_tree.specs.declared.body.Change.TheVariants as H
use Rattle.spl_tree.specs.declared.code.CallName.{CallName}
use Rattle.spl_tree.specs.declared.code.CallName.TheVariants as A
use Rattle.spl_tree.specs.declared.code.Code.{Code}
use Rattle.spl_tree.specs.declared.code.Code.TheViews.{out-Code}
use Rattle.spl_tree.specs.declared.code.Slot.{Slot}
use Rattle.spl_tree.specs.declared.expression.ExprKind.TheVariants as E
use Rattle.spl_tree.specs.declared.expression.ExprKind.TheOpen as X
use Rattle.spl_tree.specs.declared.expression.Placed.{Placed}
use Rattle.language_model.specs.declared.scope.Scope.{Scope}
use Rattle.language_model.specs.declared.scope.CheckError.TheVariants as N
use Rattle.language_model.specs.declared.scope.Typed.{Typed}
use Rattle.language_model.specs.BodyFits as B
use Rattle.language_model.specs.BodyFits.{ChangeFits}
use Rattle.language_model.specs.Typing.{Found, after, refused, Part, if_mutable, level_changed, changed_typed, arguments_typed, typing}
use Rattle.language_model.specs.TypingLaws.{parted}
use Rattle.language_model.specs.StatementTyping.{TypedPlace, level_place, place_given, place_typing, change_made, change_typing, level_call, call_typing}
use Rattle.language_laws.specs.PlaceLaws.{read_code, called, AppendLaw, RemoveLaw, ClearLaw}
use Rattle.language_laws.proofs.PlaceTyping.{PlaceIn, gives_place}
use Rattle.language_laws.proofs.GivenPlaces.{selected_reads_back}
use Rattle.language_model.proofs.FoundAnswers.{gives_from}

module _ (at : ℕ) (scope : Scope) (call : CallName) (e : Expr) (es : List (Placed Part)) (p : TypedPlace) (types : List SplType) (of : PlaceIn scope e p)
    (is : level_changed call (out-SplType p.kind) ≡ Some types) where
  abbrev arguments : Found (List (Code Slot))
  arguments = arguments_typed scope types es

  may_change : changed_typed at scope (parted e) es (Some types) ≡ arguments
  may_change =
      ap (λ root. if_mutable at scope (parted e) root arguments) of.may.1
      ∙ ap (λ b. if b then arguments else refused N.NotMutable e.at None) of.may.2

  -- the arguments after the place decide
  pub changes_place : change_typing at scope call (parted e ∷ es) ≡ after arguments (λ xs. change_made at call p.place xs)
  changes_place =
      ap (λ r. after r (λ x. after (changed_typed at scope (parted e) es (level_changed call (out-SplType x.kind))) (λ xs.
      after (place_given e.at x.kind (level_place (out-Code Slot x.code))) (λ q. change_made at call q.place xs)))) of.reads
      ∙ ap (λ o. after (changed_typed at scope (parted e) es o) (λ xs.
      after (place_given e.at p.kind (level_place (out-Code Slot (read_code p.place)))) (λ q. change_made at call q.place xs))) is
      ∙ ap (λ o. after (changed_typed at scope (parted e) es (Some types)) (λ xs. after (place_given e.at p.kind o) (λ q. change_made at call q.place xs))) (selected_reads_back p.place)
      ∙ ap (λ r. after r (λ xs. change_made at call p.place xs)) may_change

place_found : (scope : Scope) (e : Expr) (p : TypedPlace) → place_typing scope e ≡ Ok p → PlaceIn scope e p
place_found scope e p found = gives_from (PlaceIn scope e) (place_typing scope e) p (gives_place scope e) found

pub called_is : (at : ℕ) (scope : Scope) (name : List ℕ) (es : List Expr) → call_typing scope (called at name es) ≡ level_call at scope (X.Call name es)
called_is at scope name es = ap (level_call at scope) (E.outs-Call name es)

one_argument : (scope : Scope) (t : SplType) (x : Expr) (y : Typed) → typing scope x (Some t) ≡ Ok y → arguments_typed scope (t ∷ []) (parted x ∷ []) ≡ Ok (y.code ∷ [])
one_argument scope t x y found = ap (λ r. after r (λ z. Ok (z.code ∷ []))) found

pub append_law : AppendLaw
append_law scope at e x p t y found is argument =
    let on : level_changed A.AppendM (out-SplType p.kind) ≡ Some (t ∷ []) = ap (level_changed A.AppendM) (ap out-SplType is ∙ S.outs-List t) in
    called_is at scope (codes "appendM") (e ∷ x ∷ [])
    ∙ changes_place at scope A.AppendM e (parted x ∷ []) p (t ∷ []) (place_found scope e p found) on
    ∙ ap (λ r. after r (λ xs. change_made at A.AppendM p.place xs)) (one_argument scope t x y argument)

pub remove_law : RemoveLaw
remove_law scope at e x p k t y found is argument =
    let on : level_changed A.RemoveM (out-SplType p.kind) ≡ Some (k ∷ []) = ap (level_changed A.RemoveM) (ap out-SplType is ∙ S.outs-Map k t) in
    called_is at scope (codes "removeM") (e ∷ x ∷ [])
    ∙ changes_place at scope A.RemoveM e (parted x ∷ []) p (k ∷ []) (place_found scope e p found) on
    ∙ ap (λ r. after r (λ xs. change_made at A.RemoveM p.place xs)) (one_argument scope k x y argument)

cleared : (scope : Scope) (t : SplType) → ChangeFits scope H.Clear t → level_changed A.ClearM (out-SplType t) ≡ Some []
cleared scope _ (B.clears_list t) = ap (level_changed A.ClearM) (S.outs-List t)
cleared scope _ (B.clears_map k t) = ap (level_changed A.ClearM) (S.outs-Map k t)

pub clear_law : ClearLaw
clear_law scope at e p found fit =
    called_is at scope (codes "clearM") (e ∷ [])
    ∙ changes_place at scope A.ClearM e [] p [] (place_found scope e p found) (cleared scope p.kind fit)
