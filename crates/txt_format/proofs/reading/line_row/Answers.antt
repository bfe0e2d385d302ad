use Rattle.std.proofs.Common.{arith, drop, ◌<◌, length, sym, ap, false, ◌∙◌}
use Rattle.txt_format.specs.steps.Bytes.{past_blanks, past_byte}
use Rattle.txt_format.specs.steps.Reading.{read_fields, read_value}
use Rattle.txt_format.proofs.Steps.{begun_none, ended_bad}
use Rattle.txt_format.proofs.reading.line_row.Goals as goal

pub returns-in_default : goal.returns-in_default
returns-in_default c =
    let line = c.args.line.now in
    let start = c.skip_blanks-start.result in
    let inside : start < length line = omega arith in
    begun_none c.args.schema.now line (past_blanks line) start inside c.skip_blanks-start.ensures.rest c.in_default.ensures

pub returns-else-skip_blanks-line : goal.returns-else-skip_blanks-line
returns-else-skip_blanks-line c =
    let line = c.args.line.now in
    let schema = c.args.schema.now in
    let behind = drop c.in-Some.behind line in
    let read = rw c.in-Some-2.is at c.in_ok-end.ensures in
    let inside : c.skip_blanks.result < length line = omega arith in
    ended_bad schema line (past_blanks line) behind (drop c.in-Some-2.end line) c.add_fields.new.values c.skip_blanks.result
    (ap (past_byte 123) (sym c.skip_blanks-start.ensures.rest) ∙ c.in-Some.ensures.1)
    (ap (λ vs. read_fields read_value false schema vs behind) (sym c.in_ok-values.ensures) ∙ read.1)
    c.skip_blanks.ensures.rest inside
