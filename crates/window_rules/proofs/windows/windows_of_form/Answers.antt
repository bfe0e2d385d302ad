use Rattle.std.specs.Prelude.{[], Err}
use Rattle.std.specs.Option.{option_copied}
use Rattle.std.proofs.Common.{ap, sym, ◌∙◌}
use Rattle.language_model.specs.Checking.{each_window, policy_of}
use Rattle.language_model.specs.Policies.{windows_typing}
use Rattle.literal_sites.specs.Sites.{numbers_at}
use Rattle.literal_sites.proofs.Answering.{fails_by}
use Rattle.window_rules.proofs.Windowing.{windows_written}
use Rattle.window_rules.proofs.windows.windows_of_form.Goals as goal
use Rattle.language_model.proofs.FoundAnswers.{finds_by, goes, stops}

pub returns-in_err-windows-in-Some : goal.returns-in_err-windows-in-Some
returns-in_err-windows-in-Some c =
    let numbers = numbers_at c.args.site.now in
    let ports = c.args.site.now.scope.now.ports in
    let w = c.in-Some.clause.now in
    let e = c.in_err-windows-in-Some.field-0.0 in
    fails_by _ _ _ e c.from_residual.ensures.1
    (windows_written c.args.form numbers c.args.at ports _ w (ap option_copied c.in-Some.is))
    (stops (windows_typing (policy_of c.args.form numbers) ports [] w.what) (λ windows. each_window c.args.at windows 0 ports) e
    (finds_by _ _ (Err e) (λ i. windows_typing (policy_of c.args.form numbers) (sym c.as_slice-ports.ensures i) [] (sym c.as_slice.ensures i)) c.in_err-windows-in-Some.ensures))

pub returns-in_ok-windows-in-Some : goal.returns-in_ok-windows-in-Some
returns-in_ok-windows-in-Some c =
    let numbers = numbers_at c.args.site.now in
    let ports = c.args.site.now.scope.now.ports in
    let w = c.in-Some.clause.now in
    let windows = c.in_ok-windows-in-Some.windows in
    finds_by _ _ c.each_window-in-Some.result
    (windows_written c.args.form numbers c.args.at ports _ w (ap option_copied c.in-Some.is))
    (goes (windows_typing (policy_of c.args.form numbers) ports [] w.what) (λ windows. each_window c.args.at windows 0 ports) windows c.each_window-in-Some.result
    ((λ i. windows_typing (policy_of c.args.form numbers) (sym c.as_slice-ports.ensures i) [] (sym c.as_slice.ensures i)) ∙ c.in_ok-windows-in-Some.ensures)
    (finds_by _ _ c.each_window-in-Some.result
    (λ i. each_window c.args.at (sym c.as_slice-in-Some.ensures i) 0 (sym c.as_slice-ports.ensures i)) c.each_window-in-Some.ensures))
