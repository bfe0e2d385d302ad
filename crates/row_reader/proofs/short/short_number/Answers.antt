use Rattle.std.proofs.Common.{sym, ◌∙◌}
use Rattle.row_reader.proofs.Numbers.{short_is}
use Rattle.row_reader.proofs.short.short_number.Goals as goal

pub returns-then-is_of-clause-short : goal.returns-then-is_of-clause-short
returns-then-is_of-clause-short c =
    let found = c.leading_digits-n.ensures in
    short_is c.args.kind c.args.line.now c.leading_digits-n.result.0 c.leading_digits-n.result.1 found.within found.digits found.value c.if-end-eq0.false
    (c.ends_at.ensures c.if-not-ends_at.false) (sym c.is_of.ensures ∙ c.if-is_of.true)
