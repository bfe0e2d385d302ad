use Rattle.std.proofs.Common.{refl, true}
use Rattle.spl_value.specs.declared.types.IntKind.TheVariants.{I32}
use Rattle.spl_value.specs.declared.types.SplType.TheVariants as S
use Rattle.spl_value.specs.declared.value.Value.TheVariants as V
use Rattle.spl_value.proofs.FitsLaws.{fits_bool}
use Rattle.value_tests.proofs.Collections.{empty_map, put_map}
use Rattle.builtin_calls.proofs.Shapes.{are_pairs_of}
use Rattle.value_tests.proofs.calls.keyed.Goals as goal

pub loop-word-init : goal.loop-word-init
loop-word-init c = empty_map (S.Int I32) S.Bool c.new-pairs.result c.new-pairs.ensures

pub put-requires : goal.put-requires
put-requires c = are_pairs_of (S.Int I32) S.Bool (V.Map c.loop-word.pairs) c.loop-word.pairs refl c.loop-word.invariant

pub loop-word-preserved : goal.loop-word-preserved
loop-word-preserved c =
    put_map (S.Int I32) S.Bool c.loop-word.pairs c.put.new.self c.integer.result (V.Bool true)
    c.loop-word.invariant c.integer.ensures (fits_bool true) c.in_ok-put.ensures.ok
