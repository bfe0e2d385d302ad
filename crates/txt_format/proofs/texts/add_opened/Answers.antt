use Rattle.std.proofs.Common.{arith}
use Rattle.txt_format.proofs.Steps.{text_plain}
use Rattle.txt_format.proofs.texts.add_opened.Goals as goal

pub returns-in_ok-push : goal.returns-in_ok-push
returns-in_ok-push c =
    (omega arith, text_plain c.args.line.now c.args.at c.plain_end-end.result c.args.values.now _ _ c.plain_end-end.ensures.end c.if-end-line.true c.if-line-end-eq34.true c.in_ok-from_slice.ensures c.in_ok-push.ensures.ok)
