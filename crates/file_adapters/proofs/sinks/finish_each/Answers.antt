use Rattle.std.proofs.Common.{◌≡◌, ◌<◌, ◌≤◌, ◌∙◌, sym, ap, length, take, arith, length-drop}
use Rattle.std.specs.Vec.Iter.{into_iter_items}
use Rattle.std.proofs.lemmas.List.Elements.{All-weaker}
use Rattle.feed_pour.specs.Contents.{failed_read}
use Rattle.file_adapters.specs.declared.sinks.Sink.{Sink}
use Rattle.file_adapters.specs.steps.Steps.{first_failed}
use Rattle.file_adapters.proofs.Finishing.{all_faultless, before_more, no_fault, no_faults_more, one_counted, one_finished, turn_at}
use Rattle.file_adapters.proofs.sinks.finish_each.Goals as goal

pub pours-preserved : goal.pours-preserved
pours-preserved g c =
    let before = c.pours.invariant in
    let pours = c.args.pours.items in
    let sinks = c.args.sinks.now in
    let i = c.pours.at in
    let x = c.in-Some.pour in
    let s = c.index-sinks-at.result in
    let first = c.pours.first in
    let r = c.finish-finished.result in
    let turn = turn_at pours (into_iter_items c.next.new.self) i x (sym c.in-Some.ensures.steps.0 ∙ before.rest) in
    let many : length pours ≤ length sinks = c.requires.count in
    let within : i < length sinks = omega (arith, many, turn.within) in
    let now : c.first_failed-first.result ≡ first_failed first (failed_read r) i = c.first_failed-first.ensures in
    record {
      rest = turn.behind;
      len = let was = before.len in let one = ap length c.in-Some.ensures.steps.0 in let step = c.in-Some.ensures.steps.1 in omega (arith, was, one, step);
      some = omega (arith, turn.within);
      place = rw now (before_more first (failed_read r) i before.place);
      told = rw now (one_finished (g.H.Writer.Pour).poured (g.H.Writer.Pour).faults pours sinks i x s first (failed_read r) _ _ _ _ _ _ turn.within many turn.is c.index-sinks-at.is c.requires.distinct before.place
          before.counts (no_fault ((g.H.Writer.Pour).faults x) r c.finish-finished.ensures.fault) (rw (sym c.index-sinks-at.is) at c.finish-finished.ensures.cause)
          before.told (rw (sym c.index-sinks-at.is) at c.finish-finished.ensures.told));
      created = All-weaker (λ (t : Sink). (g.H.Shelf).created c.pours.shelf t.file) (λ (t : Sink). (g.H.Shelf).created c.finish-finished.new.self t.file) (λ t h. c.finish-finished.ensures.keeps_created t.file h)
          (take (length pours) sinks) before.created;
      keeps = λ n h. c.finish-finished.ensures.keeps_created n (before.keeps n h);
      counts = rw now (one_counted first (failed_read r) _ _ _ sinks i s within c.index-sinks-at.is c.requires.distinct before.place before.counts (rw (sym c.index-sinks-at.is) at c.finish-finished.ensures.cause));
      faults = rw now (no_faults_more (g.H.Writer.Pour).faults first pours i x r turn.within turn.is before.faults c.finish-finished.ensures.fault);
      lent = λ room. let was = before.lent room in let back = c.finish-finished.ensures.lent (omega (arith, was, room, turn.within)) in omega (arith, was, back);
    }

pub returns-clause-fault : goal.returns-clause-fault
returns-clause-fault g c =
    let before = c.pours.invariant in
    let size = length-drop c.pours.at c.args.pours.items in
    let left = ap length before.rest in
    let over = c.in-None.ensures.steps.0 in
    all_faultless (g.H.Writer.Pour).faults c.pours.first c.args.pours.items c.pours.at (omega (arith, size, left, over, before.len)) before.faults
