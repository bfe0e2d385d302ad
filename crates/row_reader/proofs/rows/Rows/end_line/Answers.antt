use Rattle.std.proofs.Common.{sym, ap, refl, ◌∙◌, ◌+◌, length}
use Rattle.stream_model.specs.Rows.{Bad, Nothing, source_fault}
use Rattle.spl_value.specs.declared.item.FaultKind.TheVariants as K
use Rattle.row_reader.proofs.Steps.{bad_passes, bad_unread, long_unread, none_coming, row_coming, row_given, stopped_coming}
use Rattle.row_reader.proofs.rows.Rows.end_line.Goals as goal

pub returns-in-Some-clause-coming : goal.returns-in-Some-clause-coming
returns-in-Some-clause-coming c = λ s.
    stopped_coming c.args.self.now c.stop.new.self c.stop.result c.in-Some.kind c.args.self.now.line s s c.requires.reading c.stop.ensures.done.stage c.stop.ensures.item
    (λ t e. long_unread c.args.self.now (c.length_of.result + c.args.i) c.args.i c.in-Some.kind t c.requires.end (ap (λ n. n + c.args.i) c.length_of.ensures) (sym c.in-Some.ensures))

pub returns-in-Row-clause-step : goal.returns-in-Row-clause-step
returns-in-Row-clause-step c =
    row_given c.args.self.now c.take_line.new.self (length c.args.self.now.carry.items + c.args.i) c.args.i c.take_line.new.tuple c.requires.reading
    (record { feed = c.requires.end; size = refl; short = sym (rw (c.in_default.is, c.length_of.ensures) at c.long_fault.ensures); is = rw c.in-Row.is at c.in_ok-take_line.ensures.given })
    c.in_ok-take_line.ensures.behind

pub returns-in-Row-clause-coming : goal.returns-in-Row-clause-coming
returns-in-Row-clause-coming c =
    row_coming c.args.self.now c.take_line.new.self (length c.args.self.now.carry.items + c.args.i) c.args.i c.take_line.new.tuple c.requires.reading
    (record { feed = c.requires.end; size = refl; short = sym (rw (c.in_default.is, c.length_of.ensures) at c.long_fault.ensures); is = rw c.in-Row.is at c.in_ok-take_line.ensures.given })
    c.in_ok-take_line.ensures.behind

pub returns-in-Nothing-clause-coming : goal.returns-in-Nothing-clause-coming
returns-in-Nothing-clause-coming c =
    none_coming c.args.self.now c.take_line.new.self (length c.args.self.now.carry.items + c.args.i) c.args.i Nothing c.requires.reading
    (record { feed = c.requires.end; size = refl; short = sym (rw (c.in_default.is, c.length_of.ensures) at c.long_fault.ensures); is = rw c.in-Nothing.is at c.in_ok-take_line.ensures.given })
    c.in_ok-take_line.ensures.behind (λ more. refl)

pub returns-then-self-clause-coming : goal.returns-then-self-clause-coming
returns-then-self-clause-coming c = λ s.
    let m = c.args.self.now in
    let behind = c.in_ok-take_line.ensures.behind in
    stopped_coming m c.stop-then-self.new.self c.stop-then-self.result K.BadRow m.line s s c.requires.reading c.stop-then-self.ensures.done.stage
    (c.stop-then-self.ensures.item ∙ ap (λ o. source_fault o K.BadRow m.line) behind.setting)
    (λ t e. bad_unread m c.take_line.new.self (length m.carry.items + c.args.i) c.args.i t
    (record { feed = c.requires.end; size = refl; short = sym (rw (c.in_default.is, c.length_of.ensures) at c.long_fault.ensures); is = rw c.in-Bad.is at c.in_ok-take_line.ensures.given })
    behind (sym (ap (λ o. o.strict) behind.setting) ∙ c.if-self.true))

pub returns-else-self-clause-coming : goal.returns-else-self-clause-coming
returns-else-self-clause-coming c =
    let m = c.args.self.now in
    let behind = c.in_ok-take_line.ensures.behind in
    none_coming m c.take_line.new.self (length m.carry.items + c.args.i) c.args.i Bad c.requires.reading
    (record { feed = c.requires.end; size = refl; short = sym (rw (c.in_default.is, c.length_of.ensures) at c.long_fault.ensures); is = rw c.in-Bad.is at c.in_ok-take_line.ensures.given })
    behind (bad_passes m (sym (ap (λ o. o.strict) behind.setting) ∙ c.if-self.false))
