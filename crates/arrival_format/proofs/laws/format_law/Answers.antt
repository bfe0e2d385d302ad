use Rattle.arrival_format.proofs.RecordTexts.{one_record, read_back}
use Rattle.arrival_format.proofs.Spelling.{some_read}
use Rattle.arrival_format.proofs.WholeRecords.{whole_record}
use Rattle.arrival_format.proofs.laws.format_law.Goals as goal

pub returns-clause-one : goal.returns-clause-one
returns-clause-one c = one_record

pub returns-clause-some : goal.returns-clause-some
returns-clause-some c = some_read

pub returns-clause-read_back : goal.returns-clause-read_back
returns-clause-read_back c = read_back

pub returns-clause-whole : goal.returns-clause-whole
returns-clause-whole c = whole_record
