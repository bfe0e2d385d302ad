use Rattle.std.proofs.Common.{ap, sym, map, ◌∙◌}
use Rattle.std.specs.Option.{option_copied}
use Rattle.std.proofs.lemmas.Result.{IfOk-weaker}
use Rattle.language_model.specs.Declarations.{declared_name, first_of, graph_names, repeated, repeated_names}
use Rattle.language_model.specs.parts.Declarations.{is_declared}
use Rattle.duplicate_rules.proofs.Firsts.{second_of_three, third_of_three}
use Rattle.duplicate_rules.proofs.declarations.composites.repeated_in_composite.Goals as goal

pub returns-in-Some-2 : goal.returns-in-Some-2
returns-in-Some-2 c =
    let composite = c.args.composite.now in
    sym
    (second_of_three (map declared_name (repeated is_declared (graph_names composite))) (repeated_names (map (λ t. t.name) composite.types)) (repeated_names (map (λ p. p.name) composite.parameters)) _
    (sym c.in_ok-name.ensures ∙ ap option_copied c.in_default.is)
    (ap (λ ts. first_of (repeated_names (map (λ t. t.name) ts))) (sym c.as_slice.ensures) ∙ sym c.in_ok-name-2.ensures ∙ ap option_copied c.in-Some-2.is))

pub returns : goal.returns
returns c =
    let composite = c.args.composite.now in
    IfOk-weaker c.first_repeated-2.result _ _
    (λ found e.
    e ∙ ap (λ ps. first_of (repeated_names (map (λ p. p.name) ps))) c.as_slice-2.ensures
    ∙ sym
    (third_of_three (map declared_name (repeated is_declared (graph_names composite))) (repeated_names (map (λ t. t.name) composite.types)) (repeated_names (map (λ p. p.name) composite.parameters))
    (sym c.in_ok-name.ensures ∙ ap option_copied c.in_default.is)
    (ap (λ ts. first_of (repeated_names (map (λ t. t.name) ts))) (sym c.as_slice.ensures) ∙ sym c.in_ok-name-2.ensures ∙ ap option_copied c.in_default-2.is)))
    c.first_repeated-2.ensures
