use Rattle.std.proofs.Common.{◌≡◌, false}
use Rattle.std.specs.List.{All, list_any}
use Rattle.stream_model.specs.Stream.{any_closes}
use Rattle.row_reader.specs.Reading.{IsFor, FitsSetting, is_over, most_left, setting, to_come}
use Rattle.stream_model.specs.SourceFaults.{is_read_fault}
use Rattle.row_reader.proofs.Gathering.{Gathered}
use Rattle.row_reader.proofs.whole.read_rows.Given as goal

abbrev pub invariant-items : goal.invariant-items
invariant-items g l = record {
  gathered : Gathered (to_come l.initial.rows ((g.F.Feed).script l.initial.feed)) l.items.items (to_come l.rows ((g.F.Feed).script l.feed));
  over : is_over l.rows ≡ false;
  made : IsFor l.rows (setting l.op l.schema l.strict l.limit);
  has : All (FitsSetting (setting l.op l.schema l.strict l.limit)) l.items.items;
  closes : any_closes l.items.items ≡ false;
  failed : list_any is_read_fault l.items.items ≡ false;
  faults : (g.F.Feed).faults l.feed ≡ (g.F.Feed).faults l.initial.feed;
}

abbrev pub decreases-items : goal.decreases-items
decreases-items g l = most_left l.rows
