-- What a Functor makes of a tuple.
use Rattle.std.specs.Prelude.{◌≡◌, ⊤, List, []}
use Rattle.spl_value.specs.declared.item.Item.TheVariants as I
use Rattle.language_model.specs.Outcomes.{Outcome}
use Rattle.language_model.specs.declared.outs.Output.{Output}
use Rattle.stream_model.specs.Bodies.{on_first}
use Rattle.stream_model.specs.React.{Gives, Faults, answer}
use Rattle.relational_ops.specs.declared.functor.making.Mapped.{Mapped}
use Rattle.relational_ops.specs.declared.functor.making.Mapped.TheVariants as M

-- the body gives a tuple, or nothing, or faults
abbrev pub MakesAs : Outcome (List Output) → Mapped → Type 0
MakesAs outcome (M.To values) = answer outcome ≡ Gives (on_first (I.Tuple values))
MakesAs outcome M.Dropped = answer outcome ≡ Gives []
MakesAs outcome (M.Faulted kind) = answer outcome ≡ Faults kind
MakesAs outcome M.Memory = ⊤
