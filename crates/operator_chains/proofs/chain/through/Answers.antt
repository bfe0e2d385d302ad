use Rattle.stream_model.specs.Stream.{came}
use Rattle.operator_chains.proofs.Passing.{first_fits, through_all, ok_then}
use Rattle.operator_chains.proofs.chain.through.Goals as goal

pub along-requires : goal.along-requires
along-requires g c =
    let may = c.requires.may in
    record { may = (_, may.1, may.3, may.4.1, first_fits g.R.React.spec g.R.React.stands c.args.first.now c.in_ok-caused.caused may.0 c.in_ok-caused.ensures.fits may.2) }

pub returns : goal.returns
returns g c = record {
  gives = ok_then _ _ c.along.result
      (λ outs along. through_all g.R.React.spec g.R.React.stands c.args.first.now c.enter.new.slot c.args.others.now c.along.new.slots (came c.args.input c.args.item) c.in_ok-caused.caused outs c.in_ok-caused.ensures.gives (λ s at may. c.in_ok-caused.ensures.fits) along)
      c.along.ensures.gives;
}
