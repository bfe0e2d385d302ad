use Rattle.std.proofs.Common.{sym, subst}
use Rattle.spl_value.specs.declared.item.Item.TheVariants as I
use Rattle.stream_model.specs.Replies.{AllFit}
use Rattle.stream_model.specs.Stream.{came}
use Rattle.operator_chains.specs.Places.{given_by, tuple_at}
use Rattle.operator_chains.proofs.Passing.{first_fits, ok_then, through_all}
use Rattle.operator_chains.proofs.along_places.through_places.Goals as goal

pub along_places-requires-clause-may : goal.along_places-requires-clause-may
along_places-requires-clause-may g c =
    let may = c.requires.may in
    let fits = subst (AllFit (g.R.React.spec c.args.first.now.operator)) (sym (c.in_ok-given.ensures.gives may.0 may.2 (may.4.0, tt)).0)
    (c.in_ok-given.ensures.fits may.0 may.2 (may.4.0, tt)) in (
      _,
      may.1,
      may.3,
      may.4.1,
      first_fits g.R.React.spec g.R.React.stands c.args.first.now
          (given_by c.in_ok-given.given c.enter_at.new.places c.enter_at.new.outs) may.0 fits may.2,
    )

pub returns-clause-gives : goal.returns-clause-gives
returns-clause-gives g c = ok_then _ _ c.along_places.result
    (λ given along. through_all g.R.React.spec g.R.React.stands c.args.first.now c.enter_at.new.slot c.args.others.now c.along_places.new.slots
    (came c.args.input (I.Tuple (tuple_at c.args.places.now 0))) (given_by c.in_ok-given.given c.enter_at.new.places c.enter_at.new.outs)
    (given_by given c.along_places.new.places c.along_places.new.outs) c.in_ok-given.ensures.gives
    (λ s at may. subst (AllFit (g.R.React.spec c.args.first.now.operator)) (sym (c.in_ok-given.ensures.gives s at may).0) (c.in_ok-given.ensures.fits s at may))
    along)
    c.along_places.ensures.gives
