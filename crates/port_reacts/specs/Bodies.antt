-- Answers to what the body of an operator makes.
use Rattle.std.specs.Prelude.{◌≡◌, ⊤, ℕ, List, Some}
use Rattle.spl_value.specs.declared.item.Fault.{Fault}
use Rattle.spl_value.specs.declared.item.Item.{Item}
use Rattle.spl_value.specs.declared.item.Item.TheVariants as I
use Rattle.language_model.specs.declared.outs.Output.{Output}
use Rattle.stream_model.specs.declared.reply.Reply.{Reply}
use Rattle.stream_model.specs.declared.reply.Reply.TheVariants as R
use Rattle.stream_model.specs.Bodies.{on_each}
use Rattle.stream_model.specs.PathLaws.{fault_by}
use Rattle.stream_model.specs.React.{Reaction, Gives, Faults}

-- these items are given, and the operator goes on
abbrev pub GoesOn : List Output → Reply → Type 0
GoesOn given (R.Out outs) = outs ≡ given
GoesOn given (R.Ended outs fault) = ⊥
GoesOn given R.Memory = ⊤

-- the operator ends by a fault, which goes to each of its output ports, whose number is given
abbrev pub EndsBy : ℕ → Fault → Reply → Type 0
EndsBy ports f (R.Out outs) = ⊥
EndsBy ports f (R.Ended outs fault) = (outs ≡ on_each ports (I.Bad f)) × (fault ≡ Some f)
EndsBy ports f R.Memory = ⊤

-- the operator with this number and number of output ports gives what its body gives, or ends by its body's fault
abbrev pub RepliesTo : ℕ → ℕ → Reaction → Reply → Type 0
RepliesTo number ports (Gives outs) reply = GoesOn outs reply
RepliesTo number ports (Faults kind) reply = EndsBy ports (fault_by number kind) reply

-- it replies so to an item, of which its body makes this, except for a fault that comes: that ends it
abbrev pub RepliesToItem : ℕ → ℕ → Reaction → Item → Reply → Type 0
RepliesToItem number ports answer (I.Bad f) reply = EndsBy ports f reply
RepliesToItem number ports answer _ reply = RepliesTo number ports answer reply
