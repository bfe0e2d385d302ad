-- What an operator gives for a tuple that stands at a place, as the reply that gives the same.
use Rattle.std.specs.Prelude.{List, []}
use Rattle.spl_value.specs.declared.item.Item.TheVariants as I
use Rattle.spl_value.specs.declared.value.Value.{Value}
use Rattle.language_model.specs.declared.outs.Output.{Output}
use Rattle.stream_model.specs.Bodies.{on_first}
use Rattle.stream_model.specs.declared.reply.Reply.{Reply}
use Rattle.stream_model.specs.declared.reply.Reply.TheVariants as R
use Rattle.stream_model.specs.declared.went.Went.{Went}
use Rattle.stream_model.specs.declared.went.Went.TheVariants as W

-- by the tuples that stand then at the place on which one came and at the one for what is made, and the outputs
abbrev pub reply_of : Went → List Value → List Value → List Output → Reply
reply_of W.Kept came made outs = R.Out (on_first (I.Tuple came))
reply_of W.Made came made outs = R.Out (on_first (I.Tuple made))
reply_of W.Gone came made outs = R.Out []
reply_of W.Gave came made outs = R.Out outs
reply_of (W.Ended fault) came made outs = R.Ended outs fault
reply_of W.Memory came made outs = R.Memory
