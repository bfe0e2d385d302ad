use Rattle.std.proofs.Common.{ap, sym, ◌∙◌}
use Rattle.std.specs.Prelude.{false}
use Rattle.std.specs.Option.{option_copied, option_map_or}
use Rattle.language_model.specs.Parameters.{has_meaning}
use Rattle.dollar_rules.proofs.Passing.{passes_read}
use Rattle.dollar_rules.proofs.heads.Head.has_meaning.Goals as goal

pub returns-in-Some : goal.returns-in-Some
returns-in-Some c =
    let head = c.args.self.now in
    ap (λ r. option_map_or (λ b. b) (option_copied r) false) (sym c.in-Some.is)
    ∙ passes_read (has_meaning head.parameters.now head.arguments.now) head.parameters.now c.deref.result.now c.args.place c.get.result
    (c.deref.ensures.value ∙ head.meant) c.get.ensures.lookup

pub returns-in-None : goal.returns-in-None
returns-in-None c =
    let head = c.args.self.now in
    ap (λ r. option_map_or (λ b. b) (option_copied r) false) (sym c.in-None.is)
    ∙ passes_read (has_meaning head.parameters.now head.arguments.now) head.parameters.now c.deref.result.now c.args.place c.get.result
    (c.deref.ensures.value ∙ head.meant) c.get.ensures.lookup
