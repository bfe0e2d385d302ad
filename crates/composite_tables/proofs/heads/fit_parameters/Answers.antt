use Rattle.std.proofs.Common.{◌≡◌, ◌∙◌, true, false, ap, subst, sym, is_some}
use Rattle.std.specs.Prelude.{◌&&◌, ◌||◌}
use Rattle.std.specs.List.{list_all}
use Rattle.language_model.specs.Names.{is_named}
use Rattle.language_model.proofs.parts.Invoking.{has_value}
use Rattle.composite_tables.specs.steps.Arguments.{argument_names, FitArguments}
use Rattle.composite_tables.proofs.Fitting.{parameters_left}
use Rattle.composite_tables.proofs.heads.fit_parameters.Goals as goal

pub returns : goal.returns
returns c =
    let composite = c.args.head.now.composite.now in
    let arguments = c.args.arguments.now in
    let t : c.in_ok-fit.fit ≡ true = cc in
    let fits = subst (λ b. FitArguments composite arguments b c.fit_arguments.new.given) t c.in_ok-fit.ensures in
    parameters_left composite arguments c.have_values.result (c.have_values.ensures (argument_names arguments) fits.1 ∙ ap (list_all (λ p. is_some p.default || is_named (argument_names arguments) p.name.what)) c.as_slice.ensures) fits.0

pub returns-then-not-fit : goal.returns-then-not-fit
returns-then-not-fit c =
    let composite = c.args.head.now.composite.now in
    let arguments = c.args.arguments.now in
    let t : c.in_ok-fit.fit ≡ false = cc in
    let misfit = subst (λ b. FitArguments composite arguments b c.fit_arguments.new.given) t c.in_ok-fit.ensures in
    sym (ap (λ b. b && list_all (has_value arguments) composite.parameters) misfit)
