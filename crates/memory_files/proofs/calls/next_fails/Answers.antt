use Rattle.std.proofs.Common.{arith, sym, Bool, ◌∙◌, subst}
use Rattle.memory_files.proofs.Failing.{counted_next, counted_spent, none_is, not_lt}
use Rattle.memory_files.specs.Failing.{CallCounted, one_more}
use Rattle.memory_files.proofs.calls.next_fails.Goals as goal

pub returns-then-made-lt18446744073709551615-clause-step : goal.returns-then-made-lt18446744073709551615-clause-step
returns-then-made-lt18446744073709551615-clause-step c = counted_next c.is_named.result c.args.made c.args.failing.now (let h = c.if-made-lt18446744073709551615.true in omega arith) c.is_named.ensures

pub returns-else-made-lt18446744073709551615-clause-fails : goal.returns-else-made-lt18446744073709551615-clause-fails
returns-else-made-lt18446744073709551615-clause-fails c =
    let le = c.if-made-lt18446744073709551615.false in
    not_lt c.args.made 18446744073709551615 le ∙ sym (none_is c.args.made c.args.failing.now (λ i. let h = c.type_inv.failing i in omega arith))

pub returns-else-made-lt18446744073709551615-clause-step : goal.returns-else-made-lt18446744073709551615-clause-step
returns-else-made-lt18446744073709551615-clause-step c =
    let le = c.if-made-lt18446744073709551615.false in
    subst (λ (t : Bool). CallCounted t c.args.made (one_more c.args.made) c.args.failing.now) (sym (not_lt c.args.made 18446744073709551615 le))
    (counted_spent c.args.made (one_more c.args.made) c.args.failing.now (let h = c.ranges.made.fits in omega arith) (λ i. let h = c.type_inv.failing i in omega arith))
