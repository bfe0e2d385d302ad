use Rattle.std.proofs.Common.{◌≡◌, ◌∙◌, sym, ap, subst, Some, Err}
use Rattle.std.specs.Prelude.{MatchOption}
use Rattle.language_model.specs.Composites.{main_of}
use Rattle.language_model.specs.Declarations.{declared_twice}
use Rattle.language_model.specs.Flat.{IsFlat, flat_from}
use Rattle.language_model.specs.Recursion.{IsRecursive, IsNotRecursive, HasNoRecursion, composite_callers}
use Rattle.composite_expand.specs.Expands.{Expands}
use Rattle.composite_expand.specs.steps.Answers.{IsAnswer}
use Rattle.composite_expand.proofs.Comes.{main_starts, recursive, answered, refused}
use Rattle.composite_expand.proofs.graph.expand.Goals as goal

pub returns-in-Some : goal.returns-in-Some
returns-in-Some c =
    subst (λ a. Expands c.args.unit.now c.args.names.now (Err a)) (sym c.refused.ensures) (IsFlat.twice c.in-Some.name (sym c.in_ok-name.ensures ∙ c.in-Some.is))

pub returns-in_default-main_of : goal.returns-in_default-main_of
returns-in_default-main_of c =
    IsFlat.no_main (sym c.in_ok-name.ensures ∙ c.in_default.is) (ap main_of (sym c.in_ok-composites.ensures) ∙ sym c.main_of.ensures ∙ c.in_default-main_of.is)

pub returns-in-Some-2 : goal.returns-in-Some-2
returns-in-Some-2 c =
    subst (λ a. Expands c.args.unit.now c.args.names.now (Err a)) (sym c.refused-in-Some-2.ensures)
    (recursive c.args.unit.now c.args.names.now c.in-Some-main_of.main c.in-Some-2.name (sym c.in_ok-name.ensures ∙ c.in_default.is)
    (ap main_of (sym c.in_ok-composites.ensures) ∙ sym c.main_of.ensures ∙ c.in-Some-main_of.is)
    (subst (λ o. MatchOption o (IsNotRecursive c.args.unit.now) (IsRecursive c.args.unit.now)) c.in-Some-2.is c.in_ok-name-2.ensures))

pub expand_main-requires : goal.expand_main-requires
expand_main-requires c =
    let none : IsNotRecursive c.args.unit.now = subst (λ o. MatchOption o (IsNotRecursive c.args.unit.now) (IsRecursive c.args.unit.now)) c.in_default-2.is c.in_ok-name-2.ensures in
    main_starts c.in_ok-composites.composites.unit.now c.in-Some-main_of.main (sym c.main_of.ensures ∙ c.in-Some-main_of.is)
    (subst (λ u. HasNoRecursion (composite_callers u)) (sym c.in_ok-composites.ensures) none.composites)

pub returns-in-Err : goal.returns-in-Err
returns-in-Err c =
    let none : IsNotRecursive c.args.unit.now = subst (λ o. MatchOption o (IsNotRecursive c.args.unit.now) (IsRecursive c.args.unit.now)) c.in_default-2.is c.in_ok-name-2.ensures in
    let none_there : IsNotRecursive c.in_ok-composites.composites.unit.now = subst IsNotRecursive (sym c.in_ok-composites.ensures) none in
    let is : main_of c.in_ok-composites.composites.unit.now ≡ Some c.in-Some-main_of.main = sym c.main_of.ensures ∙ c.in-Some-main_of.is in
    let m = main_starts c.in_ok-composites.composites.unit.now c.in-Some-main_of.main is none_there.composites in
    subst (λ u. Expands u c.args.names.now (Err c.in-Err.answer)) c.in_ok-composites.ensures
    (refused c.in_ok-composites.composites.unit.now c.args.names.now c.in-Some-main_of.main m.0 (ap declared_twice c.in_ok-composites.ensures ∙ sym c.in_ok-name.ensures ∙ c.in_default.is) is m.1 none_there
    c.in-Err.answer (c.in-Err.ensures m.0 m.1))

pub returns : goal.returns
returns c =
    let none : IsNotRecursive c.args.unit.now = subst (λ o. MatchOption o (IsNotRecursive c.args.unit.now) (IsRecursive c.args.unit.now)) c.in_default-2.is c.in_ok-name-2.ensures in
    let none_there : IsNotRecursive c.in_ok-composites.composites.unit.now = subst IsNotRecursive (sym c.in_ok-composites.ensures) none in
    let is : main_of c.in_ok-composites.composites.unit.now ≡ Some c.in-Some-main_of.main = sym c.main_of.ensures ∙ c.in-Some-main_of.is in
    let m = main_starts c.in_ok-composites.composites.unit.now c.in-Some-main_of.main is none_there.composites in
    subst (λ u. Expands u c.args.names.now c.graph_of.result) c.in_ok-composites.ensures
    (answered c.in_ok-composites.composites.unit.now c.args.names.now c.in-Some-main_of.main m.0 (ap declared_twice c.in_ok-composites.ensures ∙ sym c.in_ok-name.ensures ∙ c.in_default.is) is m.1 none_there
    c.graph_of.result (subst (λ ns. IsAnswer (flat_from c.in_ok-composites.composites.unit.now ns m.0) c.graph_of.result) c.as_slice.ensures
    (c.graph_of.ensures m.0 (c.in-Ok.ensures m.0 m.1))))
