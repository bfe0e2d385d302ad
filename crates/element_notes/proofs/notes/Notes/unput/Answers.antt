use Rattle.std.proofs.Common.{arith, subst, sym}
use Rattle.element_notes.specs.Noting.{HasNoted}
use Rattle.element_notes.proofs.Noted.{given_back, not_given_back, with_sent}
use Rattle.element_notes.proofs.notes.Notes.unput.Goals as goal

pub returns-then-output-len : goal.returns-then-output-len
returns-then-output-len c part kept pushed poured packet has was =
    subst (λ ns. HasNoted part (with_sent c.args.self.now ns) kept pushed poured) (sym c.set.ensures)
    (given_back c.args.self.now c.args.output c.args.before (let l = c.if-output-len.true in let n = c.len.ensures in omega (arith, l, n)) part kept pushed poured packet has was)

pub returns-else-output-len : goal.returns-else-output-len
returns-else-output-len c part kept pushed poured packet has was =
    not_given_back c.args.self.now c.args.output (λ l. let past = c.if-output-len.false in let n = c.len.ensures in absurd (omega (arith, past, n, l))) part kept pushed poured packet has
