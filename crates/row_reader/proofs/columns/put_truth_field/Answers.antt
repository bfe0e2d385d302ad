use Rattle.std.proofs.Common.{sym, ◌∙◌}
use Rattle.row_reader.proofs.FieldValues.{a_true, a_false, no_truth}
use Rattle.row_reader.proofs.columns.put_truth_field.Goals as goal

pub returns-in_ok-put_truth : goal.returns-in_ok-put_truth
returns-in_ok-put_truth c =
    a_true c.args.field.now c.args.at c.args.tuple.now c.put_truth.new.tuple (rw c.as_slice.ensures at (sym c.eq.ensures ∙ c.if-eq.true)) c.in_ok-put_truth.ensures

pub returns-in_ok-put_truth-2 : goal.returns-in_ok-put_truth-2
returns-in_ok-put_truth-2 c =
    a_false c.args.field.now c.args.at c.args.tuple.now c.put_truth-then-eq-2.new.tuple (rw c.as_slice.ensures at (sym c.eq.ensures ∙ c.if-eq.false))
    (rw c.as_slice-else-eq.ensures at (sym c.eq-else-eq.ensures ∙ c.if-eq-2.true)) c.in_ok-put_truth-2.ensures

pub returns-else-eq-2 : goal.returns-else-eq-2
returns-else-eq-2 c =
    no_truth c.args.field.now c.args.at c.args.tuple.now c.args.tuple.now (rw c.as_slice.ensures at (sym c.eq.ensures ∙ c.if-eq.false))
    (rw c.as_slice-else-eq.ensures at (sym c.eq-else-eq.ensures ∙ c.if-eq-2.false))
