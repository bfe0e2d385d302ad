use Rattle.std.proofs.Common.{◌≡◌, ◌+◌, ◌∷◌, Some, true, false, ap, sym, subst, ◌∙◌, drop, map}
use Rattle.std.specs.Prelude.{◌||◌}
use Rattle.std.specs.List.{list_any}
use Rattle.language_model.specs.Declarations.{definition_name, first_of, is_built_in, is_same, repeated_after}
use Rattle.language_model.proofs.parts.Declarations.{is_defined}
use Rattle.duplicate_rules.specs.steps.NamesBefore.{Has, Hold}
use Rattle.duplicate_rules.proofs.DefinitionNames.{same_names}
use Rattle.duplicate_rules.proofs.NameRows.{is_taken, not_taken, passed, stopped}
use Rattle.duplicate_rules.proofs.declarations.definitions.first_behind.Goals.{then-is_built_in-via-then-is_built_in, then-is_built_in-via-else-is_built_in+then-not-added}
use Rattle.duplicate_rules.proofs.declarations.definitions.first_behind.Goals as goal
use Rattle.spl_value.proofs.Bools.{or_last as or_true}
use Rattle.spl_value.proofs.Lists.{drop_at as rest_at}

pub loop-definition-preserved : goal.loop-definition-preserved
loop-definition-preserved c =
    let inv = c.loop-definition.invariant in
    let before = map definition_name inv.0 in
    let adds = c.in_ok-added.ensures before inv.1 in
    let d = c.definition-item.result in
    let rest = drop (c.loop-definition.definition-index + 1) c.args.unit.now in
    let t : c.in_ok-added.added ≡ true = cc in
    let f : c.is_built_in.result ≡ false = cc in
    let known : Has (definition_name d) before ≡ false = ap (λ n. Has n before) (sym c.name_of-name.ensures) ∙ not_taken (Has c.name_of-name.result.now before) c.in_ok-added.added adds.0 t in (
      d ∷ inv.0,
      subst (λ n. Hold c.add.new.self (n ∷ before)) c.name_of-name.ensures adds.1,
      inv.2
          ∙ ap (λ r. first_of (map definition_name (repeated_after is_defined inv.0 r))) (rest_at c.args.unit.now c.loop-definition.definition-index d c.loop-definition-test.true c.definition-item.is)
          ∙ ap (λ r. first_of (map definition_name r))
          (passed is_defined inv.0 d rest (λ i. (sym c.is_built_in.ensures ∙ f) i || (same_names (definition_name d) inv.0 ∙ known) i)),
    )

pub returns-then-is_built_in : goal.returns-then-is_built_in
returns-then-is_built_in c =
    let inv = c.loop-definition.invariant in
    let before = map definition_name inv.0 in
    let adds = c.in_ok-added.ensures before inv.1 in
    let d = c.definition-item.result in
    let rest = drop (c.loop-definition.definition-index + 1) c.args.unit.now in
    let known : is_defined inv.0 d ≡ true = elim c.then-is_built_in.branch [
      | then-is_built_in-via-then-is_built_in w ↦
          let t : c.is_built_in.result ≡ true = cc in
          ap (λ b. b || list_any (λ e. is_same (definition_name e) (definition_name d)) inv.0) (sym c.is_built_in.ensures ∙ t)
      | then-is_built_in-via-else-is_built_in+then-not-added w ↦
          let t : c.in_ok-added.added ≡ false = cc in
          or_true (is_built_in d) _
          (same_names (definition_name d) inv.0
          ∙ ap (λ n. Has n before) (sym c.name_of-name.ensures)
          ∙ is_taken (Has c.name_of-name.result.now before) c.in_ok-added.added adds.0 t)
    ] in
    ap Some c.name_of-name.ensures
    ∙ sym
    (inv.2
    ∙ ap (λ r. first_of (map definition_name (repeated_after is_defined inv.0 r))) (rest_at c.args.unit.now c.loop-definition.definition-index d c.loop-definition-test.true c.definition-item.is)
    ∙ ap (λ r. first_of (map definition_name r)) (stopped is_defined inv.0 d rest known))
