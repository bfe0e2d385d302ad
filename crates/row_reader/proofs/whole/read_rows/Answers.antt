use Rattle.std.proofs.Common.{sym, ap, refl, subst, ◌∙◌, Bool}
use Rattle.std.specs.List.{All, list_any}
use Rattle.feed_pour.specs.Counts.{Counted}
use Rattle.stream_model.specs.Stream.{TuplesFit, any_closes, is_closed}
use Rattle.row_reader.specs.Reading.{setting, to_come}
use Rattle.stream_model.specs.SourceFaults.{NamesOperator, is_read_fault}
use Rattle.row_reader.proofs.Gathering.{all_fit, all_named, closed_last, none_failed, none_gathered, none_has, one_has, one_more, open_more, open_passes}
use Rattle.row_reader.proofs.whole.read_rows.Goals as goal

pub items-init : goal.items-init
items-init g c = record {
  gathered = none_gathered (to_come c.in_ok-rows.rows ((g.F.Feed).script c.args.feed.now)) c.new-items.result.items c.new-items.ensures.items;
  over = c.in_ok-rows.ensures.open;
  made = c.in_ok-rows.ensures.made;
  has = none_has (setting c.args.op c.args.schema.now c.args.strict c.args.limit) c.new-items.result.items c.new-items.ensures.items;
  closes = ap any_closes c.new-items.ensures.items;
  failed = ap (list_any is_read_fault) c.new-items.ensures.items;
  faults = refl;
}

pub items-preserved : goal.items-preserved
items-preserved g c =
    let o = setting c.args.op c.args.schema.now c.args.strict c.args.limit in
    let before = c.items.invariant in
    let live = sym c.closes-last.ensures ∙ c.if-last.false in
    record {
      gathered = one_more (to_come c.in_ok-rows.rows ((g.F.Feed).script c.args.feed.now)) (to_come c.items.rows ((g.F.Feed).script c.items.feed)) (to_come c.next.new.self ((g.F.Feed).script c.next.new.feed))
          c.reserve.new.self.items c.add.new.items.items c.in_ok-item.item (rw (sym c.in_ok-reserve.ensures.items) at before.gathered) c.in_ok-item.ensures.coming c.add.ensures;
      over = c.in_ok-item.ensures.over ∙ live;
      made = c.in_ok-item.ensures.kept o before.made;
      has = one_has o c.reserve.new.self.items c.add.new.items.items c.in_ok-item.item (rw (sym c.in_ok-reserve.ensures.items) at before.has) (c.in_ok-item.ensures.has o before.made) c.add.ensures;
      closes = ap any_closes c.add.ensures ∙ open_more c.reserve.new.self.items c.in_ok-item.item (ap any_closes c.in_ok-reserve.ensures.items ∙ before.closes) live;
      failed = ap (list_any is_read_fault) c.add.ensures ∙ sym (none_failed c.reserve.new.self.items c.in_ok-item.item (ap (list_any is_read_fault) c.in_ok-reserve.ensures.items ∙ before.failed)) ∙ open_passes c.in_ok-item.item live;
      faults = subst (λ (b : Bool). Counted b ((g.F.Feed).faults c.items.feed) ((g.F.Feed).faults c.next.new.feed)) (open_passes c.in_ok-item.item live) c.in_ok-item.ensures.cause ∙ before.faults;
    }

pub returns-then-last-clause-closed : goal.returns-then-last-clause-closed
returns-then-last-clause-closed g c =
    ap is_closed (c.from_vec.ensures ∙ c.add.ensures)
    ∙ closed_last c.reserve.new.self.items c.in_ok-item.item (ap any_closes c.in_ok-reserve.ensures.items ∙ c.items.invariant.closes) (sym c.closes-last.ensures ∙ c.if-last.true)

pub returns-then-last-clause-fit : goal.returns-then-last-clause-fit
returns-then-last-clause-fit g c =
    let o = setting c.args.op c.args.schema.now c.args.strict c.args.limit in
    let before = c.items.invariant in
    subst (TuplesFit c.args.schema.now) (sym c.from_vec.ensures)
    (all_fit o c.add.new.items.items (one_has o c.reserve.new.self.items c.add.new.items.items c.in_ok-item.item (rw (sym c.in_ok-reserve.ensures.items) at before.has) (c.in_ok-item.ensures.has o before.made) c.add.ensures))

pub returns-then-last-clause-faults : goal.returns-then-last-clause-faults
returns-then-last-clause-faults g c =
    let o = setting c.args.op c.args.schema.now c.args.strict c.args.limit in
    let before = c.items.invariant in
    subst (All (NamesOperator c.args.op)) (sym c.from_vec.ensures)
    (all_named o c.add.new.items.items (one_has o c.reserve.new.self.items c.add.new.items.items c.in_ok-item.item (rw (sym c.in_ok-reserve.ensures.items) at before.has) (c.in_ok-item.ensures.has o before.made) c.add.ensures))
