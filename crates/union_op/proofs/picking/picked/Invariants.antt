use Rattle.std.proofs.Common.{◌≡◌, ◌++◌, drop}
use Rattle.std.specs.Option.{option_map}
use Rattle.stream_model.specs.Bodies.{values_at}
use Rattle.union_op.proofs.picking.picked.Given as goal

-- the values so far and those at what is left are all
abbrev pub invariant-loop-i : goal.invariant-loop-i
invariant-loop-i l = option_map (λ us. l.picked ++ us) (values_at l.left (drop l.i l.places)) ≡ values_at l.fn.values l.places
