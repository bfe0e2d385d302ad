use Rattle.std.proofs.Common.{◌≡◌, ◌≤◌}
use Rattle.row_reader.specs.declared.rows.Stage.TheVariants as S
use Rattle.row_reader.specs.Reading.{setting_of, to_come}
use Rattle.row_reader.specs.steps.Steps.{Stays, work}
use Rattle.row_reader.proofs.rows.Rows.read_on.Given as goal

abbrev pub invariant-steps : goal.invariant-steps
invariant-steps g l = record {
  reading : l.self.stage ≡ S.Reading;
  setting : setting_of l.self ≡ setting_of l.initial.self;
  left : l.self.left ≤ l.initial.self.left;
  coming : Stays (to_come l.initial.self ((g.F.Feed).script l.initial.feed)) (to_come l.self ((g.F.Feed).script l.feed));
  faults : (g.F.Feed).faults l.feed ≡ (g.F.Feed).faults l.initial.feed;
}

abbrev pub decreases-steps : goal.decreases-steps
decreases-steps g l = work l.self
