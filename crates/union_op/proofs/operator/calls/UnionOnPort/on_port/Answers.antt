use Rattle.stream_model.specs.CheckedMeaning.{operator_with}
use Rattle.union_op.proofs.Unions.{places_there, union_fits}
use Rattle.union_op.proofs.operator.calls.UnionOnPort.on_port.Goals as goal

pub on_item-requires : goal.on_item-requires
on_item-requires c =
    let s = c.args.self.now in
    record { there = places_there (operator_with s.at.checked.now s.at.number s.at.op.now s.at.part.now) s.places.now c.requires.1 c.fits_law.ensures.makes c.requires.0 c.args.port c.args.item c.requires.2 }

pub returns-clause-fits : goal.returns-clause-fits
returns-clause-fits c =
    let s = c.args.self.now in
    union_fits (operator_with s.at.checked.now s.at.number s.at.op.now s.at.part.now) s.places.now c.requires.1 c.fits_law.ensures.makes c.requires.0 c.args.port c.args.item c.on_item.result c.requires.2 c.on_item.ensures
