use Rattle.std.proofs.Common.{◌∙◌, ap, sym, subst}
use Rattle.language_model.specs.CheckedGraph.{CheckedGraph}
use Rattle.language_model.specs.Outcomes.{Done, followed}
use Rattle.stream_model.specs.CheckedMeaning.{operator_with}
use Rattle.stream_model.specs.Customs.{item_leaves}
use Rattle.stream_model.specs.React.{answer, makes_by}
use Rattle.port_reacts.proofs.Replying.{outs_fit, replies_by}
use Rattle.custom_logic.specs.steps.Running.{LeavesIdle, MayRunOn}
use Rattle.custom_logic.proofs.Standing.{stands_after, stands_idle, stands_to_run, stands_vars}
use Rattle.custom_logic.proofs.custom.calls.CustomOnPort.on_port.Goals as goal

pub on_item-requires-clause-fit : goal.on_item-requires-clause-fit
on_item-requires-clause-fit c =
    let s = c.args.self.now in
    subst (λ fs. MayRunOn fs s.handlers.now s.env.vars c.args.port c.args.item) (ap (λ (g : CheckedGraph). g.functions) (sym c.checked.view_is))
    (stands_to_run (operator_with s.at.checked.now s.at.number s.at.op.now s.at.part.now) s.handlers.now c.requires.0 s.env c.args.port c.args.item c.requires.1.0 c.requires.1.1 c.requires.2)

pub on_item-requires-clause-idle : goal.on_item-requires-clause-idle
on_item-requires-clause-idle c =
    let s = c.args.self.now in
    stands_idle (operator_with s.at.checked.now s.at.number s.at.op.now s.at.part.now) s.handlers.now c.requires.0 s.env c.args.port c.args.item c.requires.1.1 c.requires.2

pub returns-clause-replies : goal.returns-clause-replies
returns-clause-replies c h stands may =
    let s = c.args.self.now in
    let op = operator_with s.at.checked.now s.at.number s.at.op.now s.at.part.now in
    replies_by op h c.args.port c.args.item c.on_item.result _
    (ap (λ part. answer (makes_by part op h c.args.port c.args.item)) stands.0
    ∙ ap (λ vars. answer (followed (item_leaves op.functions s.handlers.now vars c.args.port c.args.item) (λ left turns. Done left.submits turns)))
    (stands_vars op s.handlers.now h s.env c.args.port c.args.item stands.1 may)
    ∙ ap (λ (g : CheckedGraph). answer (followed (item_leaves g.functions s.handlers.now s.env.vars c.args.port c.args.item) (λ left turns. Done left.submits turns))) (sym c.checked.view_is))
    c.on_item.ensures.replies

pub returns-clause-stands : goal.returns-clause-stands
returns-clause-stands c h stands may taken =
    let s = c.args.self.now in
    let op = operator_with s.at.checked.now s.at.number s.at.op.now s.at.part.now in (
      stands.0,
      stands_after op s.handlers.now h s.env c.on_item.new.env c.args.port c.args.item c.on_item.result c.evaluation_law.ensures.bodies c.slots_law.ensures.immutable
          stands.0 stands.1 may (returns-clause-replies c h stands may)
          (subst (λ (g : CheckedGraph). LeavesIdle (item_leaves g.functions s.handlers.now s.env.vars c.args.port c.args.item) c.on_item.result c.on_item.new.env) c.checked.view_is c.on_item.ensures.leaves)
          taken,
    )

pub returns-clause-fits : goal.returns-clause-fits
returns-clause-fits c =
    let s = c.args.self.now in
    outs_fit (operator_with s.at.checked.now s.at.number s.at.op.now s.at.part.now) c.requires.0 c.args.port c.args.item c.on_item.result c.fits_law.ensures.makes c.requires.2
    (returns-clause-replies c c.requires.0 c.requires.1 c.requires.2)
