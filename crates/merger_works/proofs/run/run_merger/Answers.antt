use Rattle.std.proofs.Common.{◌<◌, ◌∙◌, ap, sym, refl, subst}
use Rattle.channel_heads.specs.Held.{Held, width_of}
use Rattle.channel_heads.proofs.Leasts.{width-gives}
use Rattle.merger_works.proofs.Giving.{Giving, fewer, giving_more, has_given, heads_in}
use Rattle.merger_works.proofs.run.run_merger.Goals as goal

pub items-smaller : goal.items-smaller
items-smaller g c =
    let r = c.in-Some.ensures.gives in
    subst (λ (h : Held). heads_in h.heads < heads_in (g.M.Merge.held c.items.merger).heads) (sym r.3) (fewer r.0 r.1 c.in-Some.item (g.M.Merge.held c.items.merger) r.2)

pub items-preserved : goal.items-preserved
items-preserved g c =
    let r = c.in-Some.ensures.gives in (
      subst (Giving g.M.Merge.held g.M.Merge.stands g.M.Merge.rule c.args.merger.now c.args.fans.now c.args.channel c.args.packet c.emit.new.self c.args.outbox.now c.send_output.new.outbox c.args.how) (sym c.behind-how.ensures)
          (giving_more g.M.Merge.held g.M.Merge.stands g.M.Merge.rule c.args.merger.now c.args.fans.now c.args.channel c.args.packet c.items.merger c.emit.new.self c.args.outbox.now c.items.outbox c.send_output.new.outbox c.in-Some.item c.args.how c.items.how
          c.items.invariant.0 c.in-Some.ensures.stands (ap (λ (h : Held). h.cut) r.3) c.in_ok-send_output-in-Some.ensures),
      ap width_of r.3 ∙ width-gives r.0 c.in-Some.item (g.M.Merge.held c.items.merger) ∙ c.items.invariant.1,
    )

pub returns-in-None-clause-takes : goal.returns-in-None-clause-takes
returns-in-None-clause-takes g c region counts receipts same at order =
    let r = has_given g.M.Merge.held g.M.Merge.stands g.M.Merge.rule c.args.merger.now c.items.merger c.emit.new.self c.args.fans.now c.args.channel c.args.packet c.args.outbox.now c.items.outbox
    c.args.how c.items.how c.items.invariant.0 (c.in-None.ensures.whole refl) c.in-None.ensures.gives region counts receipts same at order in
    (r.0, r.1)

pub returns-in-None-clause-how : goal.returns-in-None-clause-how
returns-in-None-clause-how g c region counts receipts same at order =
    (has_given g.M.Merge.held g.M.Merge.stands g.M.Merge.rule c.args.merger.now c.items.merger c.emit.new.self c.args.fans.now c.args.channel c.args.packet c.args.outbox.now c.items.outbox
    c.args.how c.items.how c.items.invariant.0 (c.in-None.ensures.whole refl) c.in-None.ensures.gives region counts receipts same at order).2
