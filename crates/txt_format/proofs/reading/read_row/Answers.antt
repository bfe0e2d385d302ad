use Rattle.std.specs.Prelude.{IfOk, ◌≡◌}
use Rattle.std.proofs.Common.{subst}
use Rattle.txt_format.specs.steps.Reading.{read_line}
use Rattle.txt_format.proofs.Rows.{answer_empty, answer_row}
use Rattle.txt_format.proofs.reading.read_row.Goals as goal

pub returns-clause-empty : goal.returns-clause-empty
returns-clause-empty c =
    answer_empty c.args.schema.now c.args.line.now c.line_row.result (subst (λ s. IfOk c.line_row.result (λ row. row ≡ read_line s c.args.line.now)) c.as_slice.ensures c.line_row.ensures)

pub returns-clause-row : goal.returns-clause-row
returns-clause-row c =
    answer_row c.args.schema.now c.args.line.now c.line_row.result (subst (λ s. IfOk c.line_row.result (λ row. row ≡ read_line s c.args.line.now)) c.as_slice.ensures c.line_row.ensures)
