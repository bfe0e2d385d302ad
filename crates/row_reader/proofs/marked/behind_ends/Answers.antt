use Rattle.std.proofs.Common.{sym, ◌∙◌, arith}
use Rattle.row_reader.proofs.Records.{passes_at}
use Rattle.row_reader.proofs.marked.behind_ends.Goals as goal

pub ends-preserved : goal.ends-preserved
ends-preserved c = record {
  within = omega (arith, c.ends-test.true);
  same = passes_at c.args.text.now c.ends.at c.ends-test.true (sym c.is_end.ensures ∙ c.if-not-is_end.false) ∙ c.ends.invariant.same;
}
