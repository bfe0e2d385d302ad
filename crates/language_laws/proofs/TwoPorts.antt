-- The type and the code of a comparison of two ports' attributes, and that code over names.
use Rattle.std.specs.Prelude.{◌≡◌, List, [], ◌∷◌, if◌then◌else◌, codes, Some, None, Ok}
use Rattle.std.proofs.Common.{ap, ap₂, ◌∙◌}
use Rattle.spl_value.specs.declared.types.IntKind.TheVariants.{I32}
use Rattle.spl_value.specs.declared.types.SplType.TheVariants as S
use Rattle.spl_value.specs.declared.types.SplType.TheViews.{out-SplType}
use Rattle.spl_tree.specs.Trees.{Expr, placed}
use Rattle.spl_tree.specs.declared.expression.BinaryOperator.TheVariants as B
use Rattle.spl_tree.specs.declared.expression.ExprKind.TheVariants as E
use Rattle.spl_tree.specs.declared.expression.ExprKind.TheOpen as X
use Rattle.spl_tree.specs.declared.expression.Step.{Step}
use Rattle.spl_tree.specs.declared.expression.Step.TheVariants as N
use Rattle.spl_tree.specs.declared.code.Code.{Code}
use Rattle.spl_tree.specs.declared.code.Code.TheVariants as C
use Rattle.spl_tree.specs.declared.code.Code.TheOpen as O
use Rattle.spl_tree.specs.declared.code.BinaryCode.TheVariants as D
use Rattle.spl_tree.specs.declared.code.OrderOperator.TheVariants.{Less}
use Rattle.spl_tree.specs.declared.code.Slot.{Slot}
use Rattle.spl_tree.specs.declared.code.Slot.TheVariants as L
use Rattle.language_model.specs.declared.scope.Scope.{Scope}
use Rattle.language_model.specs.declared.scope.Typed.{Typed}
use Rattle.language_laws.specs.examples.TwoPorts.{two_ports, comparison}
use Rattle.language_model.specs.Readings.{level_name}
use Rattle.language_model.specs.Typing.{Found, after, as_wanted, mismatch, typed, level_operator, operands_typed, typing}
use Rattle.language_model.specs.parts.Typing.{of_base}
use Rattle.language_model.specs.TypingLaws.{parted, step_parts}
use Rattle.language_model.specs.Written.{Of, written, renamed}
use Rattle.language_laws.proofs.Renaming.{renamed_at}
use Rattle.language_model.proofs.ReadingLaws.{fold_at}
use Rattle.language_model.proofs.TypingLaws as W
use Rattle.language_laws.proofs.SomeParameters.{one_type}

abbrev ports : Scope
ports = two_ports [] (codes "B")

abbrev pub compared : Code Slot
compared = C.Binary (D.Order Less) (C.Name (L.Attribute 0 0)) (C.Name (L.Attribute 1 1))

-- ---- its type

pub comparison_has_type : typing ports comparison None ≡ Ok (record { kind = S.Bool; code = compared })
comparison_has_type =
    let base : Expr = placed 0 (E.Name (codes "A")) in
    let steps : List (Step Expr) = N.Member (placed 2 (codes "k")) ∷ [] in
    let left : Expr = placed 0 (E.Select base steps) in
    let right : Expr = placed 6 (E.Name (codes "m")) in
    let number = typed (S.Int I32) (C.Name (L.Attribute 0 0)) in
    let other = typed (S.Int I32) (C.Name (L.Attribute 1 1)) in
    let with_left : Found Typed → Found Typed = λ r. after (after r (λ x. operands_typed ports x (parted left) (parted right) (level_operator B.Less (out-SplType x.kind)))) (as_wanted 0 None) in
    let with_right : Found Typed → Found Typed = λ r. after (after r (λ y. Ok (typed S.Bool (C.Binary (D.Order Less) number.code y.code)))) (as_wanted 0 None) in
    W.binary_typed B.Less left right 0 ports None
    ∙ ap with_left (W.select_typed base steps 0 ports None)
    ∙ ap (λ name. with_left (after (of_base name (parted base) ports (step_parts steps)) (as_wanted 0 None))) (fold_at level_name (E.Name (codes "A")) (X.Name (codes "A")) (E.outs-Name (codes "A")))
    ∙ ap (λ o. after (operands_typed ports number (parted left) (parted right) (level_operator B.Less o)) (as_wanted 0 None)) (S.outs-Int I32)
    ∙ ap with_right (W.name_typed (codes "m") 6 ports (Some (S.Int I32)))
    ∙ ap (λ b. with_right (if b then Ok other else mismatch 6)) one_type

-- ---- its names

pub comparison_over_names : renamed (written ports) compared ≡ C.Binary (D.Order Less) (C.Name (Of (codes "A") (codes "k"))) (C.Name (Of (codes "B") (codes "m")))
comparison_over_names =
    let left : Code Slot = C.Name (L.Attribute 0 0) in
    let right : Code Slot = C.Name (L.Attribute 1 1) in
    renamed_at (written ports) (C.Binary (D.Order Less) left right) (O.Binary (D.Order Less) left right) (C.outs-Binary (D.Order Less) left right)
    ∙ ap₂ (C.Binary (D.Order Less)) (renamed_at (written ports) left (O.Name (L.Attribute 0 0)) (C.outs-Name (L.Attribute 0 0)))
    (renamed_at (written ports) right (O.Name (L.Attribute 1 1)) (C.outs-Name (L.Attribute 1 1)))
