use Rattle.txt_format.proofs.ShortNumbers.{short_negative, wide}
use Rattle.txt_format.proofs.numbers.add_integer.Goals as goal

pub returns-in-Some : goal.returns-in-Some
returns-in-Some c =
    short_negative c.args.kind c.args.line.now c.args.at c.in-Some.n c.in-Some.count c.args.values.now c.add_number.new.values c.add_number.result _ c.if-at-line.true c.if-line-at-eq45.true c.in-Some.ensures
    (wide c.in-Some.n c.from.result _ c.in-Some.count c.in-Some.ensures c.from.ensures) c.add_number.ensures
