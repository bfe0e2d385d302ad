use Rattle.std.proofs.Common.{sym, ap, ◌∙◌, ◌≡◌}
use Rattle.spl_value.specs.declared.item.FaultKind.TheVariants as K
use Rattle.stream_model.specs.Rows.{source_fault}
use Rattle.row_reader.specs.Came.{item_of}
use Rattle.row_reader.specs.Reading.{to_come}
use Rattle.row_reader.proofs.Steps.{failed_unread, kept_stays, long_held, none_stays, piece_failed, piece_over, stays_gives, stays_stays, stopped_coming}
use Rattle.row_reader.proofs.rows.Rows.fill.Goals as goal

pub returns-in-Some-clause-coming : goal.returns-in-Some-clause-coming
returns-in-Some-clause-coming g c =
    let s = (g.F.Feed).script c.args.feed.now in
    let k = c.keep_held.new.self in
    let kept = c.in_ok-keep_held.ensures in
    stays_gives (to_come c.args.self.now s) (to_come k s) (to_come c.stop.new.self s) c.stop.result (kept_stays c.args.self.now k s c.requires.reading kept)
    (stopped_coming k c.stop.new.self c.stop.result c.in-Some.kind k.line s s (kept.stage ∙ c.requires.reading) c.stop.ensures.done.stage c.stop.ensures.item
    (λ t e. long_held k c.in-Some.kind t kept.filled (sym (rw c.length_of-len.ensures at c.in-Some.ensures))))

pub returns-in_ok-finish-in-Ok-eq0-clause-coming : goal.returns-in_ok-finish-in-Ok-eq0-clause-coming
returns-in_ok-finish-in-Ok-eq0-clause-coming g c =
    let s = (g.F.Feed).script c.args.feed.now in
    let now = (g.F.Feed).script c.read_piece.new.feed in
    let k = c.keep_held.new.self in
    let p = c.read_piece.new.self in
    let kept = c.in_ok-keep_held.ensures in
    let read = c.in-Ok-eq0.ensures in
    let none : c.in-Ok-eq0.field-0 ≡ 0 = cc in
    stays_gives (to_come c.args.self.now s) (to_come p s) (to_come c.finish.new.self now) (item_of c.in_ok-finish-in-Ok-eq0.field-0 c.finish.new.tuple)
    (stays_stays (to_come c.args.self.now s) (to_come k s) (to_come p s) (kept_stays c.args.self.now k s c.requires.reading kept)
    (none_stays k p c.in-Ok-eq0.field-0 s none (kept.stage ∙ c.requires.reading) kept.filled read.read))
    (c.in_ok-finish-in-Ok-eq0.ensures.coming s now (piece_over s now c.in-Ok-eq0.field-0 p.piece.items none read.piece))

pub returns-in-Err-clause-coming : goal.returns-in-Err-clause-coming
returns-in-Err-clause-coming g c =
    let s = (g.F.Feed).script c.args.feed.now in
    let now = (g.F.Feed).script c.read_piece.new.feed in
    let k = c.keep_held.new.self in
    let p = c.read_piece.new.self in
    let kept = c.in_ok-keep_held.ensures in
    let read = c.in-Err.ensures in
    stays_gives (to_come c.args.self.now s) (to_come k s) (to_come c.stop-in-Err.new.self now) c.stop-in-Err.result (kept_stays c.args.self.now k s c.requires.reading kept)
    (stopped_coming k c.stop-in-Err.new.self c.stop-in-Err.result K.ReadFailed k.line s now (kept.stage ∙ c.requires.reading) c.stop-in-Err.ensures.done.stage
    (c.stop-in-Err.ensures.item ∙ ap (λ o. source_fault o K.ReadFailed k.line) read.read.setting)
    (λ t e. failed_unread k t kept.filled (sym (rw (c.in_default.is, c.length_of-len.ensures) at c.long_fault.ensures)) (piece_failed s now c.in-Err.field-0 p.piece.items t read.piece e)))
