use Rattle.std.proofs.Common.{arith}
use Rattle.row_reader.proofs.Records.{closed_at, doubled_at, never_closed, open_at_end}
use Rattle.row_reader.proofs.marked.add_quoted.Goals as goal
use Rattle.row_reader.proofs.marked.add_quoted.Goals.{else-at-text-via-then-at-text+else-text-at-eq34, else-at-text-via-else-at-text}

pub returns-in_default-clause-read : goal.returns-in_default-clause-read
returns-in_default-clause-read c =
    never_closed c.args.text.now c.args.from c.runs.at c.args.field.now.items c.runs.field.items _ c.runs.invariant.read (rw c.in_default.is at c.find.ensures) c.in_ok-extend_from_slice.ensures.items

pub runs-preserved : goal.runs-preserved
runs-preserved c = record {
  within = omega (arith, c.if-at-text.true);
  read = doubled_at c.args.text.now c.args.from c.runs.at c.in-Some.before c.args.field.now.items c.runs.field.items _ _ c.runs.invariant.read c.in-Some.ensures c.in_ok-extend_from_slice-2.ensures.items
      c.if-at-text.true c.if-text-at-eq34.true c.in_ok-push.ensures.items;
}

pub returns-else-at-text-clause-read : goal.returns-else-at-text-clause-read
returns-else-at-text-clause-read c =
    closed_at c.args.text.now c.args.from c.runs.at c.in-Some.before c.args.field.now.items c.runs.field.items _ c.runs.invariant.read c.in-Some.ensures c.in_ok-extend_from_slice-2.ensures.items
    (elim c.else-at-text.branch [
      | else-at-text-via-then-at-text+else-text-at-eq34 w ↦ λ lt is. w.if-text-at-eq34.false is
      | else-at-text-via-else-at-text w ↦ λ lt is. let le = w.if-at-text.false in omega (arith, lt, le)
    ])

pub returns-clause-read : goal.returns-clause-read
returns-clause-read c = open_at_end c.args.text.now c.args.from c.runs.at c.args.field.now.items c.runs.field.items c.runs.invariant.read c.runs-test.false
