-- What expressions with a `$` parameter are.
use Rattle.std.specs.Prelude.{◌≡◌, pos, Bool, true, false, [], ◌∷◌, if◌then◌else◌, codes, Option, Some, None, Ok, Err}
use Rattle.std.specs.Option.{option_map}
use Rattle.std.specs.Str.{bytes_eq}
use Rattle.std.proofs.Common.{ap, ap₂, subst, ◌∙◌}
use Rattle.spl_value.specs.declared.types.IntKind.TheVariants.{I32}
use Rattle.spl_value.specs.declared.types.SplType.TheVariants as S
use Rattle.spl_value.specs.declared.types.SplType.TheViews.{out-SplType}
use Rattle.spl_value.specs.declared.value.Value.TheVariants as V
use Rattle.spl_value.proofs.FitsLaws.{fits_int}
use Rattle.spl_tree.specs.Trees.{Expr, placed}
use Rattle.spl_tree.specs.declared.code.Code.TheVariants as C
use Rattle.spl_tree.specs.declared.code.BinaryCode.TheVariants as D
use Rattle.spl_tree.specs.declared.code.IntegerOperator.TheVariants as I
use Rattle.spl_tree.specs.declared.expression.BinaryOperator.TheVariants as B
use Rattle.spl_tree.specs.declared.expression.ExprKind.TheVariants as E
use Rattle.spl_tree.specs.declared.token.Number.{Number}
use Rattle.language_model.specs.declared.scope.CheckError.TheVariants as N
use Rattle.language_model.specs.declared.scope.CheckRefusal.{CheckRefusal}
use Rattle.language_model.specs.declared.scope.Dollar.{Dollar}
use Rattle.language_model.specs.declared.scope.Typed.{Typed}
use Rattle.language_model.specs.CodeFits as F
use Rattle.language_model.specs.CodeFits.{CodeFits}
use Rattle.language_model.specs.FitLaws.{no_names, DollarsFit}
use Rattle.language_model.specs.Scopes.{at_place}
use Rattle.language_laws.specs.examples.SomeParameters.{five, parameter, with_parameters, one_more}
use Rattle.language_model.specs.Typing.{Found, after, as_wanted, mismatch, typed, same_types, level_same, level_operator, operands_typed, typing}
use Rattle.language_model.specs.TypingLaws.{parted}
use Rattle.language_model.proofs.TypingLaws as W
use Rattle.language_model.proofs.SameTypes.{same_is}

-- ---- what it means fits

five_fits : CodeFits no_names five.code five.kind
five_fits = F.literal (V.Int (pos 5)) (S.Int I32) (fits_int I32 (pos 5))

abbrev found_if : Bool → Option (Found Typed)
found_if b = option_map (λ d. d.what.found) (if b then Some (at_place {A = Dollar} 0 (parameter (Ok five))) else None)

pub five_stands : DollarsFit (parameter (Ok five) ∷ [])
five_stands name t is = by_cases (bytes_eq (codes "n") name) is
  where
    by_cases : (b : Bool) → found_if b ≡ Some (Ok t) → CodeFits no_names t.code t.kind
    by_cases true is = let same : five ≡ t = cc is in subst (λ (t : Typed). CodeFits no_names t.code t.kind) same five_fits
    by_cases false is = absurd cc

-- ---- types

abbrev number_one : Number
number_one = record { kind = I32; value = 1 }

pub one_type : same_types (S.Int I32) (S.Int I32) ≡ true
one_type = same_is (S.Int I32) (S.Int I32) ∙ ap₂ (level_same same_types) (S.outs-Int I32) (S.outs-Int I32)

pub sum_has_type : typing (with_parameters (parameter (Ok five) ∷ [])) one_more None
    ≡ Ok (record { kind = S.Int I32; code = C.Binary (D.Integers I.Add I32) (C.Literal (V.Int (pos 5))) (C.Literal (V.Int (pos 1))) })
sum_has_type =
    let scope = with_parameters (parameter (Ok five) ∷ []) in
    let left : Expr = placed 0 (E.Dollar (codes "n")) in
    let right : Expr = placed 5 (E.Number number_one) in
    let number = typed (S.Int I32) (C.Literal (V.Int (pos 1))) in
    let with_left : Found Typed → Found Typed = λ r. after (after r (λ x. operands_typed scope x (parted left) (parted right) (level_operator B.Add (out-SplType x.kind)))) (as_wanted 0 None) in
    let with_right : Found Typed → Found Typed = λ r. after (after r (λ y. Ok (typed (S.Int I32) (C.Binary (D.Integers I.Add I32) five.code y.code)))) (as_wanted 0 None) in
    W.binary_typed B.Add left right 0 scope None
    ∙ ap with_left (W.dollar_typed (codes "n") 0 scope None)
    ∙ ap (λ o. after (operands_typed scope five (parted left) (parted right) (level_operator B.Add o)) (as_wanted 0 None)) (S.outs-Int I32)
    ∙ ap with_right (W.number_typed number_one 5 scope (Some (S.Int I32)))
    ∙ ap (λ b. with_right (if b then Ok number else mismatch 5)) one_type

pub other_is_unknown : typing (with_parameters (parameter (Ok five) ∷ [])) (placed 7 (E.Dollar (codes "m"))) None
    ≡ Err (record { error = N.Unknown; at = 7; name = Some (codes "m") })
other_is_unknown = W.dollar_typed (codes "m") 7 (with_parameters (parameter (Ok five) ∷ [])) None

pub refused_is_refused : (r : CheckRefusal) → typing (with_parameters (parameter (Err r) ∷ [])) (placed 7 (E.Dollar (codes "n"))) None ≡ Err r
refused_is_refused r = W.dollar_typed (codes "n") 7 (with_parameters (parameter (Err r) ∷ [])) None

pub first_counts : (r : CheckRefusal) → typing (with_parameters (parameter (Ok five) ∷ parameter (Err r) ∷ [])) (placed 7 (E.Dollar (codes "n"))) None ≡ Ok five
first_counts r = W.dollar_typed (codes "n") 7 (with_parameters (parameter (Ok five) ∷ parameter (Err r) ∷ [])) None
