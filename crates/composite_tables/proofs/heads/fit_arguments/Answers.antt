use Rattle.std.proofs.Common.{◌≡◌, [], ◌++◌, ◌∷◌, ◌∙◌, ◌+◌, true, ap, sym, subst, drop, take, eq-eqb}
use Rattle.std.specs.Prelude.{◌&&◌, length}
use Rattle.language_model.specs.Invoking.{is_parameter}
use Rattle.language_model.specs.Names.{is_named}
use Rattle.language_model.specs.parts.Invoking.{is_argument}
use Rattle.program_tables.specs.Names.{HoldsNames}
use Rattle.composite_tables.specs.steps.Arguments.{argument_names}
use Rattle.composite_tables.proofs.Fitting.{fit_behind, fitting, names_at, rest_at, stand_at}
use Rattle.composite_tables.proofs.heads.fit_arguments.Goals as goal

pub loop-argument-preserved : goal.loop-argument-preserved
loop-argument-preserved c =
    let composite = c.args.head.now.composite.now in
    let arguments = c.args.arguments.now in
    let i = c.loop-argument.argument-index in
    let a = c.argument-item.result in
    let inv = c.loop-argument.invariant in
    let within = c.loop-argument-test.true in
    let here = c.argument-item.is in
    let name = c.as_slice-name.ensures in
    let one : length a.values ≡ 1 = sym c.len.ensures ∙ c.if-len-ne1.false in
    let parameter : is_parameter composite a.name.what ≡ true = ap (is_parameter composite) (sym name) ∙ sym c.has_parameter.ensures ∙ c.if-not-has_parameter.false in
    let argument : is_argument composite a ≡ true = λ j. eq-eqb (length a.values) 1 one j && parameter j in
    let new = inv.1.among a.name.what ∙ ap (λ n. is_named (argument_names (take i arguments)) n) (sym name) ∙ sym (c.has.ensures (argument_names (take i arguments)) inv.2) ∙ c.if-has.false in (
      a.name ∷ inv.0,
      stand_at arguments i a within here inv.0 inv.1,
      subst (HoldsNames c.add.new.self) (ap (λ n. argument_names (take i arguments) ++ n ∷ []) name ∙ names_at arguments i a within here) (c.in_ok-add.ensures (argument_names (take i arguments)) inv.2),
      inv.3 ∙ ap (fit_behind composite inv.0) (rest_at arguments i a within here) ∙ fitting composite inv.0 a (drop (i + 1) arguments) argument new,
    )
