use Rattle.std.proofs.Common.{sym, ap, ◌∙◌}
use Rattle.csv.specs.Reading.{default_config, records}
use Rattle.stream_model.specs.Rows.{of_records}
use Rattle.row_reader.specs.Columns.{attributes}
use Rattle.row_reader.proofs.Records.{begins_at, no_record, none_at}
use Rattle.row_reader.proofs.marked.read_marked.Goals as goal

pub read_record-requires-clause-starts : goal.read_record-requires-clause-starts
read_record-requires-clause-starts c =
    sym c.behind_ends-from.ensures.same ∙ begins_at c.behind_mark-text.result.now c.behind_ends-from.result c.if-from-text.true (c.behind_ends-from.ensures.stop c.if-from-text.true)

pub returns-else-from-text : goal.returns-else-from-text
returns-else-from-text c =
    ap (λ z. of_records (attributes c.args.columns.now) (records default_config z)) (sym c.behind_mark-text.ensures)
    ∙ no_record (attributes c.args.columns.now) c.behind_mark-text.result.now (sym c.behind_ends-from.ensures.same ∙ none_at c.behind_mark-text.result.now c.behind_ends-from.result c.if-from-text.false)
