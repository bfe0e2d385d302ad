use Rattle.spl_value.proofs.FitsLaws.{text_from_fits}
use Rattle.builtin_calls.proofs.texts.length.Goals as goal

pub unreachable-requires : goal.unreachable-requires
unreachable-requires c = let is = text_from_fits c.args.text.now c.requires in c.in_default.not-Text is.0 is.1
