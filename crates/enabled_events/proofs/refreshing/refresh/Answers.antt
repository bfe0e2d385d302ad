use Rattle.std.proofs.Common.{◌∙◌, arith}
use Rattle.enabled_events.proofs.Righting.{entering_within, refreshed}
use Rattle.enabled_events.proofs.refreshing.refresh.Goals as goal

pub mark_read-requires : goal.mark_read-requires
mark_read-requires g c = record { at = (c.requires.at.0, c.requires.at.1.elements_at, c.requires.at.3, c.requires.at.2) }

pub entering-requires : goal.entering-requires
entering-requires g c = record { within = omega (arith, c.requires.at.1.links_at.size, c.requires.at.3) }

pub mark_pops-requires : goal.mark_pops-requires
mark_pops-requires g c =
    let m = c.requires.at.0 in
    let read = c.mark_read.ensures.righted m c.requires.at.1.elements_at c.requires.at.3 c.requires.at.2 in
    record {
      at = (
        m,
        c.requires.at.1,
        read.count ∙ c.requires.at.2,
        entering_within m c.args.links.now c.args.element c.entering.result.now c.requires.at.1.links_at c.entering.ensures,
      );
    }

pub mark_front-requires : goal.mark_front-requires
mark_front-requires g c =
    let m = c.requires.at.0 in
    let read = c.mark_read.ensures.righted m c.requires.at.1.elements_at c.requires.at.3 c.requires.at.2 in
    let rows = entering_within m c.args.links.now c.args.element c.entering.result.now c.requires.at.1.links_at c.entering.ensures in
    let pops = c.mark_pops.ensures.righted m c.requires.at.1 (read.count ∙ c.requires.at.2) rows in
    record { at = (m, c.requires.at.1, pops.count ∙ (read.count ∙ c.requires.at.2), c.requires.at.3) }

pub returns : goal.returns
returns g c m k count lt =
    let read = c.mark_read.ensures.righted m k.elements_at lt count in
    let rows = entering_within m c.args.links.now c.args.element c.entering.result.now k.links_at c.entering.ensures in
    let pops = c.mark_pops.ensures.righted m k (read.count ∙ count) rows in
    let front = c.mark_front.ensures.righted m k (pops.count ∙ (read.count ∙ count)) lt in
    refreshed m c.args.links.now c.args.element c.entering.result.now c.args.marks.now c.mark_read.new.marks c.mark_pops.new.marks c.mark_front.new.marks k.links_at c.entering.ensures lt
    read (c.mark_read.ensures.right m k.elements_at lt count) pops (c.mark_pops.ensures.right m k (read.count ∙ count) rows) front
    (c.mark_front.ensures.right m k (pops.count ∙ (read.count ∙ count)) lt)
