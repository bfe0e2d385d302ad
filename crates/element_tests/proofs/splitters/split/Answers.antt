use Rattle.spl_value.specs.Numbered.{closes}
use Rattle.element_tests.proofs.Dividing.{one_split, still_open}
use Rattle.element_tests.proofs.splitters.split.Goals as goal

pub returns : goal.returns
returns c = λ more sent on. one_split c.args.width sent c.in_ok-item.item c.args.splitter.now c.run_splitter.new.splitter on
    (still_open c.closes-last.result (closes c.in_ok-item.item) more c.closes-last.ensures)
    (λ region receipts at unclosed. (c.in_ok-run_splitter.ensures.splits region receipts 0 at unclosed).0)
