-- A compound assignment is the assignment that it stands for.
use Rattle.std.specs.Prelude.{◌≡◌, ◌≢◌, ◌&&◌, ℕ, Bool, true, false, List, Option, Some, None, Ok, Err}
use Rattle.std.proofs.Common.{refl, sym, ap, ◌∙◌}
use Rattle.spl_value.specs.declared.types.SplType.TheViews.{out-SplType}
use Rattle.spl_tree.specs.Trees.{Expr}
use Rattle.spl_tree.specs.declared.body.Change.TheVariants as H
use Rattle.spl_tree.specs.declared.body.Statement.{Statement}
use Rattle.spl_tree.specs.declared.body.Statement.TheVariants as Y
use Rattle.spl_tree.specs.declared.code.Marker.{Marker}
use Rattle.spl_tree.specs.declared.expression.BinaryOperator.{BinaryOperator}
use Rattle.spl_tree.specs.declared.expression.BinaryOperator.TheVariants as B
use Rattle.spl_tree.specs.declared.expression.ExprKind.{ExprKind}
use Rattle.spl_tree.specs.declared.expression.ExprKind.TheOpen as X
use Rattle.spl_tree.specs.declared.expression.ExprKind.TheOpen.{ExprKind-F}
use Rattle.spl_tree.specs.declared.expression.ExprKind.TheViews.{out-ExprKind}
use Rattle.spl_tree.specs.declared.expression.ExprKind.TheFolds.{fold_out-ExprKind, map-ExprKind}
use Rattle.language_model.specs.declared.scope.Scope.{Scope}
use Rattle.language_model.specs.declared.scope.Typed.{Typed}
use Rattle.language_model.specs.Readings.{asks_punct, level_asks, level_root, named_marker, root_of}
use Rattle.language_model.specs.Typing.{Found, after, as_wanted, level_operator, operands_typed, binary_typed, marker_asked, typing}
use Rattle.language_model.specs.parts.Typing.{binary_or_marker}
use Rattle.language_model.proofs.TypingLaws as W
use Rattle.language_model.specs.StatementTyping.{TypedPlace, place_typing}
use Rattle.language_laws.specs.PlaceLaws.{written_out, CompoundLaw}
use Rattle.language_model.proofs.Wanting.{part_of}
use Rattle.language_laws.proofs.PlaceTyping.{PlaceIn, gives_place}
use Rattle.language_model.proofs.FoundAnswers.{Gives, after_after}

after_same : {A B : Type 0} (P : A → Type 0) (r : Found A) (f g : A → Found B) → Gives P r → ((x : A) → P x → f x ≡ g x) → after r f ≡ after r g
after_same P (Ok x) f g h same = same x h
after_same P (Err refusal) f g h same = refl

-- an expression with a root name doesn't ask for the marker
root_alone : (x : ExprKind-F ExprKind) (name : List ℕ) → level_root (map-ExprKind ExprKind (Option (List ℕ)) root_of x) ≡ Some name
    → level_asks (map-ExprKind ExprKind Bool asks_punct x) ≡ false
root_alone (X.Name n) name root = refl
root_alone (X.Select base ss) name root = refl
root_alone _ name root = absurd cc

root_asks : (e : ExprKind) (name : List ℕ) → root_of e ≡ Some name → asks_punct e ≡ false
root_asks e name root = fold_out-ExprKind Bool level_asks e ∙ root_alone (out-ExprKind e) name (sym (fold_out-ExprKind (Option (List ℕ)) level_root e) ∙ root)

-- an operator other than `in` on its operands
between_operands : (scope : Scope) (op : BinaryOperator) (e right : Expr) → op ≢ B.In
    → binary_typed scope op (part_of e) (part_of right)
    ≡ after (typing scope e None) (λ t. operands_typed scope t (part_of e) (part_of right) (level_operator op (out-SplType t.kind)))
between_operands scope B.In e right other = absurd (other refl)
between_operands scope op e right other = refl

not_asked : (punct asks : Bool) (op : BinaryOperator) (m : Option Marker) → asks ≡ false → marker_asked (punct && asks) op m ≡ None
not_asked true asks op m none = rw none refl
not_asked false asks op m none = refl

written_typing : (scope : Scope) (op : BinaryOperator) (e right : Expr) (x : TypedPlace) → op ≢ B.In → asks_punct e.what ≡ false
    → typing scope (written_out op e right) (Some x.kind)
    ≡ after (after (typing scope e None) (λ t. operands_typed scope t (part_of e) (part_of right) (level_operator op (out-SplType t.kind)))) (as_wanted e.at (Some x.kind))
written_typing scope op e right x other none =
    W.binary_typed op e right e.at scope (Some x.kind)
    ∙ ap (λ asked. after (binary_or_marker asked scope op (part_of e) (part_of right)) (as_wanted e.at (Some x.kind)))
    (not_asked scope.punct (asks_punct e.what) op (named_marker right.what) none)
    ∙ ap (λ r. after r (as_wanted e.at (Some x.kind))) (between_operands scope op e right other)

pub compound_law : CompoundLaw
compound_law scope op e right other =
    after_same (PlaceIn scope e) (place_typing scope e) _ _ (gives_place scope e) (λ x of.
    let operands : Typed → Found Typed = λ t. operands_typed scope t (part_of e) (part_of right) (level_operator op (out-SplType t.kind)) in
    let change : Typed → Found Statement = λ t. Ok (Y.Change x.place (H.Put t.code)) in
    sym (ap (λ r. after r change) (written_typing scope op e right x other (root_asks e.what of.may.0 of.may.1))
    ∙ after_after (after (typing scope e None) operands) (as_wanted e.at (Some x.kind)) change
    ∙ after_after (typing scope e None) operands (λ y. after (as_wanted e.at (Some x.kind) y) change)))
