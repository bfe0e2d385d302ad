use Rattle.std.specs.Prelude.{◌&&◌}
use Rattle.std.specs.List.{list_any}
use Rattle.std.specs.Str.{bytes_eq}
use Rattle.std.proofs.Common.{ap, sym, ◌∙◌}
use Rattle.duplicate_rules.proofs.Had.{had_is}
use Rattle.duplicate_rules.proofs.files.is_had_already.Goals as goal
use Rattle.duplicate_rules.proofs.files.is_had_already.Goals.{then-file, else-file}

pub returns-else-is_named : goal.returns-else-is_named
returns-else-is_named c =
    let named = list_any (λ n. bytes_eq n c.args.file.now.bytes.now) c.args.names.now in
    had_is c.args.names.now c.args.files.now c.args.file.now c.is_shared.result
    (elim c.if-file.branch [
      | then-file w ↦ ap (λ s. s && named) w.if-file.true ∙ sym w.is_named.ensures ∙ sym w.value-is ∙ c.if-is_named.false
      | else-file w ↦ ap (λ s. s && named) w.if-file.false
    ])
    c.is_shared.ensures
