use Rattle.std.specs.Prelude.{map, reverse, drop, ◌+◌, Err}
use Rattle.std.proofs.Common.{ap, sym, ◌∙◌}
use Rattle.language_model.specs.Checking.{policy_of}
use Rattle.language_model.specs.Policies.{windows_typing}
use Rattle.language_model.specs.Finds.{with_front}
use Rattle.literal_sites.specs.Sites.{numbers_at}
use Rattle.literal_sites.proofs.Answering.{fails_by, row_on, row_stops}
use Rattle.literal_sites.proofs.Lists.{keys_more}
use Rattle.window_rules.proofs.Windowing.{window_behind, windows_row}
use Rattle.window_rules.proofs.windows.windows_typing.Goals as goal
use Rattle.language_model.proofs.FoundAnswers.{finds_by}

pub returns-in_err-next : goal.returns-in_err-next
returns-in_err-next c =
    let policy = policy_of c.args.form (numbers_at c.args.site.now) in
    let ports = c.args.ports.now in
    let found = c.loop-window.found in
    let e = c.in_err-next.field-0.0 in
    fails_by _ _ _ e c.from_residual.ensures.1 c.loop-window.invariant
    (row_stops (window_behind policy ports) (windows_typing policy ports) (λ x. x.0) (windows_row policy ports) c.args.windows.now c.loop-window.window-index found
    (reverse (map (λ x. x.0) found)) c.window-item.result c.loop-window-test.true c.window-item.is e
    (finds_by _ _ (Err e) (ap (λ xs. window_behind policy ports (reverse (map (λ x. x.0) xs)) c.window-item.result) (sym c.as_slice.ensures)) c.in_err-next.ensures))

pub loop-window-preserved : goal.loop-window-preserved
loop-window-preserved c =
    let policy = policy_of c.args.form (numbers_at c.args.site.now) in
    let ports = c.args.ports.now in
    let found = c.loop-window.found in
    c.loop-window.invariant
    ∙ row_on (window_behind policy ports) (windows_typing policy ports) (λ x. x.0) (windows_row policy ports) c.args.windows.now c.loop-window.window-index found
    (reverse (map (λ x. x.0) found)) c.window-item.result c.loop-window-test.true c.window-item.is c.in_ok-next.next c.push.new.self
    (ap (λ xs. window_behind policy ports (reverse (map (λ x. x.0) xs)) c.window-item.result) (sym c.as_slice.ensures) ∙ c.in_ok-next.ensures)
    c.in_ok-push.ensures.ok
    ∙ ap (λ before. with_front c.push.new.self (windows_typing policy ports before (drop (c.loop-window.window-index + 1) c.args.windows.now)))
    (sym (keys_more (λ x. x.0) found c.push.new.self c.in_ok-next.next c.in_ok-push.ensures.ok))
