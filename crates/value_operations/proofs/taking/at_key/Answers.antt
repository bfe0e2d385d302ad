use Rattle.std.proofs.Common.{sym, ap, ◌∙◌}
use Rattle.value_operations.specs.Answers.{held}
use Rattle.value_operations.proofs.Parts.{not_map, keys_rise}
use Rattle.value_operations.proofs.taking.at_key.Goals as goal

pub unreachable-requires : goal.unreachable-requires
unreachable-requires c = not_map (held c.args.map) c.args.key.now c.requires (λ ps e. c.in_default.ensures ps (sym (ap held c.in-Own.is) ∙ e))

pub remove_key-requires : goal.remove_key-requires
remove_key-requires c = keys_rise (held c.args.map) c.args.key.now c.in-Some.pairs c.requires (ap held c.in-Own.is ∙ c.in-Some.ensures)

pub unreachable-requires-in_default-value : goal.unreachable-requires-in_default-value
unreachable-requires-in_default-value c =
    not_map (held c.args.map) c.args.key.now c.requires (λ ps e. c.in_default-value.not-Map ps (sym (ap held c.in-Lent.is) ∙ e))

pub find-requires : goal.find-requires
find-requires c = keys_rise (held c.args.map) c.args.key.now c.in-Map.pairs c.requires (ap held c.in-Lent.is ∙ c.in-Map.is)
