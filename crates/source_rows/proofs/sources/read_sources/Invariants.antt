use Rattle.std.proofs.Common.{◌≡◌, ◌<◌, ◌≤◌, ◌-◌, ◌^◌, ℕ, List, length, take}
use Rattle.std.specs.Prelude.{IfSome}
use Rattle.language_model.specs.Files.{source_files}
use Rattle.feed_pour.specs.Contents.{WhereTold, TellsSame}
use Rattle.source_rows.specs.Counting.{OnlyReads}
use Rattle.source_rows.specs.Sources.{ReadsFail}
use Rattle.source_rows.proofs.Operators.{RowsBefore}
use Rattle.source_rows.proofs.sources.read_sources.Given as goal

abbrev pub invariant-operators : goal.invariant-operators
invariant-operators g l = record {
  size : length l.rows ≡ l.number;
  some : l.number ≤ length l.checked.parts;
  rows : RowsBefore l.checked l.number l.rows ((g.H.Shelf).told l.initial.shelf) ((g.H.Shelf).counts l.initial.shelf) ((g.H.Shelf).counts l.shelf);
  grows : (n : List ℕ) → ((g.H.Shelf).counts l.initial.shelf n).reading ≤ ((g.H.Shelf).counts l.shelf n).reading;
  told : WhereTold ((g.H.Shelf).told l.initial.shelf) ((g.H.Shelf).told l.shelf) TellsSame;
  failing : IfSome ((g.H.Shelf).told l.initial.shelf) (ReadsFail ((g.H.Shelf).counts l.initial.shelf) ((g.H.Shelf).counts l.shelf));
  only : OnlyReads (source_files (take l.number l.checked.parts)) ((g.H.Shelf).counts l.initial.shelf) ((g.H.Shelf).counts l.shelf);
  lent : (g.H.Shelf).lent l.initial.shelf < 2 ^ 64 - 1 → (g.H.Shelf).lent l.shelf ≡ (g.H.Shelf).lent l.initial.shelf;
}
