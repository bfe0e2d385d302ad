use Rattle.std.proofs.Common.{◌≡◌, map, reverse, drop, []}
use Rattle.std.specs.Prelude.{flat_map}
use Rattle.language_model.specs.Declarations.{first_of, repeated_after}
use Rattle.language_model.specs.SinkFiles.{is_had, op_file}
use Rattle.duplicate_rules.specs.steps.Seen.{file_seen}
use Rattle.duplicate_rules.proofs.files.first_had.Given as goal

abbrev pub invariant-loop-op : goal.invariant-loop-op
invariant-loop-op l =
    first_of (map (λ f. f.file) (repeated_after (is_had l.names) [] (flat_map (op_file l.sites.unit.now l.sites.expansions.now) l.ops)))
    ≡ first_of (map (λ f. f.file) (repeated_after (is_had l.names) (reverse (map file_seen l.files.items)) (flat_map (op_file l.sites.unit.now l.sites.expansions.now) (drop l.op-index l.ops))))
