use Rattle.std.proofs.Common.{◌∙◌, ◌<◌, arith, get_or, length}
use Rattle.std.proofs.lemmas.Option.{slice_get-get_or, slice_get_within}
use Rattle.enabled_events.proofs.Righting.{pops_next, pops_none}
use Rattle.enabled_events.proofs.refreshing.mark_pops.Goals as goal

pub row-init : goal.row-init
row-init g c m k count rows = pops_none m.net m.state c.args.row.now c.args.marks.now

pub mark_pop-requires : goal.mark_pop-requires
mark_pop-requires g c =
    let m = c.requires.at.0 in
    let so-far = c.row.invariant m c.requires.at.1 c.requires.at.2 c.requires.at.3 in
    let here = slice_get-get_or c.args.row.now c.row.link-index 0 (omega arith) in
    record { at = (m, c.requires.at.1, c.requires.at.3 c.row.link-index _ here, so-far.0.count ∙ c.requires.at.2) }

pub row-preserved : goal.row-preserved
row-preserved g c m k count rows =
    let so-far = c.row.invariant m k count rows in
    let lt : c.row.link-index < length c.args.row.now = omega arith in
    let link = get_or c.args.row.now c.row.link-index 0 in
    let within = rows c.row.link-index link (slice_get-get_or c.args.row.now c.row.link-index 0 lt) in
    pops_next m.net m.state c.args.row.now c.row.link-index 0 c.args.marks.now c.row.marks c.mark_pop.new.marks rows lt so-far
    (c.mark_pop.ensures.righted m k within (so-far.0.count ∙ count)) (c.mark_pop.ensures.right m k within (so-far.0.count ∙ count))

pub returns : goal.returns
returns g c = record {
  righted = λ m k count rows. (c.row.invariant m k count rows).0;
  right = λ m k count rows j l e. (
      let low : j < length c.args.row.now = slice_get_within c.args.row.now j l e in
      (c.row.invariant m k count rows).1 j l (omega arith) e);
}
