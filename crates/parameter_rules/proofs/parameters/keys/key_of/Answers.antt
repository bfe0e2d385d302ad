use Rattle.std.specs.Prelude.{◌≡◌, ℕ, true, reverse, Some, Err}
use Rattle.std.proofs.Common.{refl, sym, ap, arith, ◌∙◌}
use Rattle.spl_value.specs.declared.types.SplType.TheViews.{out-SplType}
use Rattle.language_model.specs.parts.ParameterTyping.{level_key, word_of}
use Rattle.language_model.specs.Scopes.{at_place}
use Rattle.literal_sites.proofs.Answering.{refused_by}
use Rattle.parameter_rules.proofs.Giving.{key_once, key_twice}
use Rattle.parameter_rules.proofs.parameters.keys.key_of.Goals as goal
use Rattle.language_model.proofs.FoundAnswers.{finds_by}

pub returns-then-is_among : goal.returns-then-is_among
returns-then-is_among c =
    let a = c.in-Some-attribute_named.found.now in
    let e = c.args.value.now in
    let named = c.in-Some-attribute_named.ensures ∙ ap (λ n. Some (at_place n a)) (sym c.in_ok-place.ensures) in
    let fits : level_key (out-SplType a.kind) ≡ true = grind arith in
    finds_by _ _ (Err c.mismatch-then-is_among.result)
    (key_twice c.args.schema.now (reverse c.args.before.now) e.at (word_of e) c.in-Some.name.now c.in_ok-place.place a (sym c.in-Some.ensures) named fits
    (sym c.is_among.ensures ∙ c.if-is_among.true))
    (refused_by ℕ _ _ _ c.mismatch-then-is_among.ensures refl)

pub returns-else-is_among : goal.returns-else-is_among
returns-else-is_among c =
    let a = c.in-Some-attribute_named.found.now in
    let e = c.args.value.now in
    let named = c.in-Some-attribute_named.ensures ∙ ap (λ n. Some (at_place n a)) (sym c.in_ok-place.ensures) in
    let fits : level_key (out-SplType a.kind) ≡ true = grind arith in
    key_once c.args.schema.now (reverse c.args.before.now) e.at (word_of e) c.in-Some.name.now c.in_ok-place.place a (sym c.in-Some.ensures) named fits
    (sym c.is_among.ensures ∙ c.if-is_among.false)
