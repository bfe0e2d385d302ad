use Rattle.spl_value.specs.declared.types.IntKind.TheVariants.{I32}
use Rattle.spl_value.proofs.FitsLaws.{int_from_fits, text_from_fits}
use Rattle.builtin_calls.proofs.texts.substring.Goals as goal

pub unreachable-requires : goal.unreachable-requires
unreachable-requires c = let is = text_from_fits c.args.s.now c.requires.text in c.in_default.not-Text is.0 is.1

pub unreachable-requires-in_default-from : goal.unreachable-requires-in_default-from
unreachable-requires-in_default-from c = let is = int_from_fits I32 c.args.from.now c.requires.from in c.in_default-from.not-Int is.0 is.1

pub unreachable-requires-in_default-count : goal.unreachable-requires-in_default-count
unreachable-requires-in_default-count c = let is = int_from_fits I32 c.args.count.now c.requires.count in c.in_default-count.not-Int is.0 is.1
