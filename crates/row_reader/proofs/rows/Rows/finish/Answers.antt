use Rattle.std.proofs.Common.{sym, ap, refl, ◌∙◌}
use Rattle.stream_model.specs.Rows.{Bad, Nothing, source_fault}
use Rattle.spl_value.specs.declared.item.FaultKind.TheVariants as K
use Rattle.row_reader.proofs.Steps.{bad_passes, empty_coming, last_bad_coming, last_coming, last_given, mark_coming}
use Rattle.row_reader.proofs.rows.Rows.finish.Goals as goal

pub returns-then-length_of-eq0-clause-coming : goal.returns-then-length_of-eq0-clause-coming
returns-then-length_of-eq0-clause-coming c = λ s after h.
    empty_coming c.args.self.now c.mark.new.self c.mark.result s after c.requires.reading c.requires.empty (sym c.length_of.ensures ∙ c.if-length_of-eq0.true) c.mark.ensures.marked.stage c.mark.ensures.item h

pub returns-in-Row-clause-step : goal.returns-in-Row-clause-step
returns-in-Row-clause-step c =
    last_given c.args.self.now c.end.new.self c.read_last.new.tuple c.requires.reading (λ e. c.if-length_of-eq0.false (c.length_of.ensures ∙ e)) c.requires.short
    (c.end.ensures.setting ∙ c.in_ok-read_last.ensures.same.setting) c.end.ensures.stage (rw c.in-Row.is at c.in_ok-read_last.ensures.given)

pub returns-in-Row-clause-coming : goal.returns-in-Row-clause-coming
returns-in-Row-clause-coming c = λ s after h.
    last_coming c.args.self.now c.end.new.self c.read_last.new.tuple s after c.requires.reading c.requires.empty (λ e. c.if-length_of-eq0.false (c.length_of.ensures ∙ e)) c.requires.short
    c.end.ensures.stage (rw c.in-Row.is at c.in_ok-read_last.ensures.given) h

pub returns-in-Nothing-clause-coming : goal.returns-in-Nothing-clause-coming
returns-in-Nothing-clause-coming c = λ s after h.
    mark_coming c.args.self.now c.mark-in-Nothing.new.self c.mark-in-Nothing.result Nothing s after c.requires.reading c.requires.empty (λ e. c.if-length_of-eq0.false (c.length_of.ensures ∙ e)) c.requires.short
    c.mark-in-Nothing.ensures.marked.stage c.mark-in-Nothing.ensures.item (rw c.in-Nothing.is at c.in_ok-read_last.ensures.given) (λ more. refl) h

pub returns-then-self-clause-coming : goal.returns-then-self-clause-coming
returns-then-self-clause-coming c = λ s after h.
    let same = c.in_ok-read_last.ensures.same in
    last_bad_coming c.args.self.now c.stop.new.self c.stop.result s after c.requires.reading c.requires.empty (λ e. c.if-length_of-eq0.false (c.length_of.ensures ∙ e)) c.requires.short
    c.stop.ensures.done.stage (c.stop.ensures.item ∙ ap (λ o. source_fault o K.BadRow c.args.self.now.line) same.setting) (rw c.in-Bad.is at c.in_ok-read_last.ensures.given)
    (sym (ap (λ o. o.strict) same.setting) ∙ c.if-self.true) h

pub returns-else-self-clause-coming : goal.returns-else-self-clause-coming
returns-else-self-clause-coming c = λ s after h.
    let same = c.in_ok-read_last.ensures.same in
    mark_coming c.args.self.now c.mark-else-self.new.self c.mark-else-self.result Bad s after c.requires.reading c.requires.empty (λ e. c.if-length_of-eq0.false (c.length_of.ensures ∙ e)) c.requires.short
    c.mark-else-self.ensures.marked.stage c.mark-else-self.ensures.item (rw c.in-Bad.is at c.in_ok-read_last.ensures.given)
    (bad_passes c.args.self.now (sym (ap (λ o. o.strict) same.setting) ∙ c.if-self.false)) h
