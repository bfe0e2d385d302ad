use Rattle.std.proofs.Common.{◌≡◌, take}
use Rattle.spl_value.proofs.types.+copy.Given as goal

abbrev pub invariant-copy_schema-loop-attribute : goal.invariant-copy_schema-loop-attribute
invariant-copy_schema-loop-attribute l = l.copied ≡ take l.attribute-index l.schema
