use Rattle.std.specs.Prelude.{◌≡◌, ℕ, map, reverse, codes, Some, Ok, Err}
use Rattle.std.specs.Str.{bytes_eq}
use Rattle.std.proofs.Common.{ap, sym, ◌∙◌}
use Rattle.language_model.specs.declared.checked.Policy.{Policy}
use Rattle.language_model.specs.declared.scope.CheckError.TheVariants as E
use Rattle.language_model.specs.Checking.{policy_of}
use Rattle.language_model.specs.Scopes.{at_place, first_from}
use Rattle.language_model.specs.Typing.{after}
use Rattle.literal_sites.specs.Sites.{numbers_at}
use Rattle.literal_sites.proofs.Answering.{fails_by, refuses}
use Rattle.window_rules.proofs.Windowing.{window_once, window_twice}
use Rattle.window_rules.proofs.windows.window_of.Goals as goal
use Rattle.language_model.proofs.FoundAnswers.{finds_by, stops}

pub returns-then-has_window : goal.returns-then-has_window
returns-then-has_window c =
    let ports = c.args.ports.now in
    let policy = policy_of c.args.form (numbers_at c.args.site.now) in
    let given = reverse (map (λ x. x.0) c.args.found.now) in
    let place = c.in_ok-place.place in
    let port = c.in-Some.port.now in
    let named : first_from (λ p. bytes_eq p.name c.args.window.now.port.what) 0 ports ≡ Some (at_place place port) =
    ap (λ name. first_from (λ p. bytes_eq p.name name) 0 ports) (sym c.as_slice-name.ensures) ∙ c.in-Some.ensures ∙ ap (λ n. Some (at_place n port)) (sym c.in_ok-place.ensures) in
    finds_by _ _ (Err c.extra.result)
    (window_twice policy given c.args.window.now _ place port named (sym c.has_window.ensures ∙ c.if-has_window.true))
    (refuses (ℕ × Policy) E.ExtraParameter c.args.window.now.port.at (codes "window") _ c.extra.ensures)

pub returns-in_err-policy : goal.returns-in_err-policy
returns-in_err-policy c =
    let ports = c.args.ports.now in
    let policy = policy_of c.args.form (numbers_at c.args.site.now) in
    let given = reverse (map (λ x. x.0) c.args.found.now) in
    let place = c.in_ok-place.place in
    let port = c.in-Some.port.now in
    let named : first_from (λ p. bytes_eq p.name c.args.window.now.port.what) 0 ports ≡ Some (at_place place port) =
    ap (λ name. first_from (λ p. bytes_eq p.name name) 0 ports) (sym c.as_slice-name.ensures) ∙ c.in-Some.ensures ∙ ap (λ n. Some (at_place n port)) (sym c.in_ok-place.ensures) in
    fails_by _ _ _ c.in_err-policy.field-0.0 c.from_residual-in_err-policy.ensures.1
    (window_once policy given c.args.window.now _ place port named (sym c.has_window.ensures ∙ c.if-has_window.false))
    (stops (policy port c.args.window.now) (λ x. Ok (place, x)) c.in_err-policy.field-0.0 c.in_err-policy.ensures)

pub returns : goal.returns
returns c =
    let ports = c.args.ports.now in
    let policy = policy_of c.args.form (numbers_at c.args.site.now) in
    let given = reverse (map (λ x. x.0) c.args.found.now) in
    let place = c.in_ok-place.place in
    let port = c.in-Some.port.now in
    let named : first_from (λ p. bytes_eq p.name c.args.window.now.port.what) 0 ports ≡ Some (at_place place port) =
    ap (λ name. first_from (λ p. bytes_eq p.name name) 0 ports) (sym c.as_slice-name.ensures) ∙ c.in-Some.ensures ∙ ap (λ n. Some (at_place n port)) (sym c.in_ok-place.ensures) in
    window_once policy given c.args.window.now _ place port named (sym c.has_window.ensures ∙ c.if-has_window.false)
    ∙ ap (λ o. after o (λ x. Ok (place, x))) c.in_ok-policy.ensures
