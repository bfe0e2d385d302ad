use Rattle.stream_model.proofs.RowsLaws.{rows_close}
use Rattle.stream_model.proofs.FileRows.{pieces_law, file_rows_law, failed_rows_law}
use Rattle.stream_model.proofs.laws.rows_law.Goals as goal

pub returns-clause-closes : goal.returns-clause-closes
returns-clause-closes c = rows_close

pub returns-clause-lines : goal.returns-clause-lines
returns-clause-lines c = pieces_law

pub returns-clause-all : goal.returns-clause-all
returns-clause-all c = file_rows_law

pub returns-clause-failed : goal.returns-clause-failed
returns-clause-failed c = failed_rows_law
