use Rattle.std.proofs.Common.{◌∙◌, subst}
use Rattle.operator_chains.proofs.Passing.{ok_then}
use Rattle.element_notes.specs.Noting.{HasEnds}
use Rattle.element_notes.proofs.UnreadPorts.{ends_some}
use Rattle.element_notes.proofs.notes.ends_by.Goals as goal

pub returns-in-Some : goal.returns-in-Some
returns-in-Some c =
    ok_then _ _ c.ends_of.result
    (λ ends are part has. are ∙ ends_some part c.in-Some.op c.args.fans.now (subst (λ last. HasEnds part last c.args.fans.now) c.in-Some.is has))
    c.ends_of.ensures
