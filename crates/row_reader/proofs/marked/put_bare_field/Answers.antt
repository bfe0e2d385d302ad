use Rattle.std.proofs.Common.{◌+◌, take}
use Rattle.row_reader.specs.Columns.{type_of}
use Rattle.row_reader.proofs.Puts.{puts_added, puts_room}
use Rattle.row_reader.proofs.Records.{bare_ends, fit_of, misfit_of}
use Rattle.row_reader.proofs.marked.put_bare_field.Goals as goal

pub returns-then-branch-clause-put : goal.returns-then-branch-clause-put
returns-then-branch-clause-put c =
    fit_of (type_of c.args.column) c.args.text.now c.args.at c.run_end-end.result _ (take c.args.place c.args.tuple.now) (take (c.args.place + 1) c.put_field.new.tuple) c.in_ok-put_field.field-0
    (bare_ends c.args.text.now c.args.at c.run_end-end.result c.requires.bare c.run_end-end.ensures.run c.run_end-end.ensures.stop) (puts_added _ c.in_ok-put_field.field-0 c.args.place c.args.tuple.now c.put_field.new.tuple c.in_ok-put_field.ensures) c.if-branch.true

pub returns-else-branch-clause-put : goal.returns-else-branch-clause-put
returns-else-branch-clause-put c =
    misfit_of (type_of c.args.column) c.args.text.now c.args.at c.run_end-end.result _ (take c.args.place c.args.tuple.now) (take (c.args.place + 1) c.put_field.new.tuple) c.in_ok-put_field.field-0
    (bare_ends c.args.text.now c.args.at c.run_end-end.result c.requires.bare c.run_end-end.ensures.run c.run_end-end.ensures.stop) (puts_added _ c.in_ok-put_field.field-0 c.args.place c.args.tuple.now c.put_field.new.tuple c.in_ok-put_field.ensures) c.if-branch.false

pub returns-then-branch-clause-room : goal.returns-then-branch-clause-room
returns-then-branch-clause-room c = puts_room _ c.in_ok-put_field.field-0 c.args.place c.args.tuple.now c.put_field.new.tuple c.in_ok-put_field.ensures c.if-branch.true
