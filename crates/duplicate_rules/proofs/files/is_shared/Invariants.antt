use Rattle.std.proofs.Common.{◌≡◌, drop}
use Rattle.std.specs.Prelude.{◌&&◌, ◌||◌}
use Rattle.std.specs.List.{list_any}
use Rattle.std.specs.Str.{bytes_eq}
use Rattle.duplicate_rules.proofs.files.is_shared.Given as goal

abbrev pub invariant-loop-other : goal.invariant-loop-other
invariant-loop-other l =
    list_any (λ g. bytes_eq g.bytes.now l.file.bytes.now && (l.file.sink || g.sink)) l.files
    ≡ list_any (λ g. bytes_eq g.bytes.now l.file.bytes.now && (l.file.sink || g.sink)) (drop l.other-index l.files)
