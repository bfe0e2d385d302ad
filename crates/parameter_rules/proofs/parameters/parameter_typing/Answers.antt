use Rattle.std.specs.Prelude.{map, reverse, Some, Ok, Err}
use Rattle.std.specs.List.{list_any}
use Rattle.std.specs.Str.{bytes_eq}
use Rattle.std.proofs.Common.{ap, sym, ◌∙◌}
use Rattle.language_model.specs.declared.checked.Given.{Given}
use Rattle.language_model.specs.declared.scope.CheckError.TheVariants as E
use Rattle.language_model.specs.ParameterTyping.{role_of, value_typing}
use Rattle.language_model.specs.Typing.{after, refused}
use Rattle.literal_sites.specs.Sites.{site_seen}
use Rattle.literal_sites.proofs.Answering.{fails_by, refuses}
use Rattle.literal_sites.proofs.Lists.{any_key}
use Rattle.parameter_rules.proofs.Giving.{parameter_once, parameter_twice}
use Rattle.parameter_rules.proofs.parameters.parameter_typing.Goals as goal
use Rattle.language_model.proofs.FoundAnswers.{finds_by, stops}

pub returns-then-is_given : goal.returns-then-is_given
returns-then-is_given c =
    let site = site_seen c.args.site.now in
    let p = c.args.parameter.now in
    let before = reverse (map (λ g. g.name) c.args.given.now) in
    let is = ap (role_of c.args.kind c.args.partitioned) (sym c.as_slice-name.ensures) ∙ sym c.in-Some.ensures in
    let had = any_key {A = Given} (λ n. bytes_eq n c.as_slice-name.result.now) (λ g. g.name) c.args.given.now ∙ sym c.is_given.ensures ∙ c.if-is_given.true in
    finds_by _ _ (Err c.extra-then-is_given.result)
    (parameter_twice site before p _ c.in-Some.role is (ap (λ name. list_any (λ n. bytes_eq n name) before) (sym c.as_slice-name.ensures) ∙ had)
    ∙ ap (λ name. refused E.ExtraParameter p.name.at (Some name)) (sym c.as_slice-name.ensures))
    (refuses Given E.ExtraParameter p.name.at c.as_slice-name.result.now _ c.extra-then-is_given.ensures)

pub returns-in_err-value : goal.returns-in_err-value
returns-in_err-value c =
    let site = site_seen c.args.site.now in
    let p = c.args.parameter.now in
    let role = c.in-Some.role in
    let before = reverse (map (λ g. g.name) c.args.given.now) in
    let is = ap (role_of c.args.kind c.args.partitioned) (sym c.as_slice-name.ensures) ∙ sym c.in-Some.ensures in
    let had = any_key {A = Given} (λ n. bytes_eq n c.as_slice-name.result.now) (λ g. g.name) c.args.given.now ∙ sym c.is_given.ensures ∙ c.if-is_given.false in
    fails_by _ _ _ c.in_err-value.field-0.0 c.from_residual-in_err-value.ensures.1
    (parameter_once site before p _ role is (ap (λ name. list_any (λ n. bytes_eq n name) before) (sym c.as_slice-name.ensures) ∙ had))
    (stops (value_typing site p role) (λ value. Ok (record { name = p.name.what; value = value })) c.in_err-value.field-0.0 c.in_err-value.ensures)

pub returns : goal.returns
returns c =
    let site = site_seen c.args.site.now in
    let p = c.args.parameter.now in
    let role = c.in-Some.role in
    let before = reverse (map (λ g. g.name) c.args.given.now) in
    let is = ap (role_of c.args.kind c.args.partitioned) (sym c.as_slice-name.ensures) ∙ sym c.in-Some.ensures in
    let had = any_key {A = Given} (λ n. bytes_eq n c.as_slice-name.result.now) (λ g. g.name) c.args.given.now ∙ sym c.is_given.ensures ∙ c.if-is_given.false in
    parameter_once site before p _ role is (ap (λ name. list_any (λ n. bytes_eq n name) before) (sym c.as_slice-name.ensures) ∙ had)
    ∙ ap (λ o. after o (λ value. Ok (record { name = p.name.what; value = value }))) c.in_ok-value.ensures
    ∙ ap (λ name. Ok (record { name = name; value = c.in_ok-value.value })) (sym (c.in_ok-name.ensures ∙ c.as_slice-name.ensures))
