use Rattle.std.specs.Prelude.{◌≡◌, ◌≤◌, ℕ, List, [], ◌∷◌, length, Result, get_or}
use Rattle.std.proofs.Common.{subst, arith}
use Rattle.spl_tree.specs.Trees.{Expr}
use Rattle.language_model.specs.declared.answer.TypeAnswer.{TypeAnswer}
use Rattle.language_model.specs.declared.checked.ParameterValue.{ParameterValue}
use Rattle.language_model.specs.Finds.{Finds}
use Rattle.language_model.specs.ParameterTyping.{one_value, single_value}
use Rattle.language_model.specs.Typing.{Found, after, mismatch}
use Rattle.literal_sites.specs.Sites.{site_seen}
use Rattle.parameter_rules.proofs.parameters.values.one_value.Goals as goal

-- the first of two values or more, and the second, which is refused
with_second : (at : ℕ) (value : Expr → Found ParameterValue) (es : List Expr) (e d : Expr) (r : Result ParameterValue TypeAnswer) → 2 ≤ length es
    → e ≡ get_or es 0 e → d ≡ get_or es 1 d → Finds (after (value e) (λ x. mismatch d.at)) r → Finds (one_value at value es) r
with_second at value [] e d r many first second f = absurd (omega arith)
with_second at value (x ∷ []) e d r many first second f = absurd (omega arith)
with_second at value (x ∷ y ∷ es) e d r many first second f =
    subst (λ (e : Expr). Finds (after (value e) (λ v. mismatch y.at)) r) first (subst (λ (d : Expr). Finds (after (value e) (λ v. mismatch d.at)) r) second f)

pub returns-in-len2-up : goal.returns-in-len2-up
returns-in-len2-up c =
    let value = single_value (site_seen c.args.site.now) c.args.role in
    with_second c.args.at value c.args.values.now c.value-item-2.result c.second-item.result c.not_alone.result c.in-len2-up.len_at_least c.value-item-2.is c.second-item.is
    (c.not_alone.ensures (value c.value-item-2.result) c.single_value-in-len2-up.ensures)
