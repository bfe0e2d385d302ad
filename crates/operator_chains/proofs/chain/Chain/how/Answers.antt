use Rattle.std.proofs.Common.{◌∙◌, ap, length, slice_get, sym, ◌-◌}
use Rattle.operator_chains.proofs.Ending.{how_last}
use Rattle.operator_chains.proofs.chain.Chain.how.Goals as goal

pub returns-in-Some-last : goal.returns-in-Some-last
returns-in-Some-last g c =
    how_last g.R.React.spec g.R.React.stands c.args.self.now c.args.alone c.in-Some.first c.in-Some-last.slot.now c.in-Some.is
    (ap (λ xs. slice_get xs (length xs - 1)) (sym c.as_slice.ensures.value) ∙ sym c.in-Some-last.ensures.value)
