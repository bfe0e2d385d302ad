-- The end of an operator by final markers.
use Rattle.std.specs.Prelude.{◌≡◌, ⊤, ◌++◌, ℕ, None}
use Rattle.spl_value.specs.declared.item.Item.TheVariants as I
use Rattle.stream_model.specs.declared.reply.Reply.{Reply}
use Rattle.stream_model.specs.declared.reply.Reply.TheVariants as R
use Rattle.stream_model.specs.Bodies.{on_each}

-- after what is given comes a final marker on each of `ports` output ports; a fault stays
abbrev pub EndsAs : ℕ → Reply → Reply → Type 0
EndsAs ports (R.Out outs) (R.Out given) = ⊥
EndsAs ports (R.Out outs) (R.Ended given fault) = (given ≡ outs ++ on_each ports I.Final) × (fault ≡ None)
EndsAs ports (R.Out outs) R.Memory = ⊤
EndsAs ports (R.Ended outs fault) reply = reply ≡ R.Ended outs fault
EndsAs ports R.Memory reply = reply ≡ R.Memory
