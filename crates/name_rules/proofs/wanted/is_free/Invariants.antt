use Rattle.std.proofs.Common.{◌≡◌, drop}
use Rattle.std.specs.Prelude.{not}
use Rattle.std.specs.List.{list_all}
use Rattle.std.specs.Str.{bytes_eq}
use Rattle.language_model.specs.TypingLaws.{field_parts}
use Rattle.name_rules.proofs.wanted.is_free.Given as goal

abbrev pub invariant-loop-field : goal.invariant-loop-field
invariant-loop-field l =
    list_all (λ f. not (bytes_eq f.name.what l.name)) (field_parts l.fields)
    ≡ list_all (λ f. not (bytes_eq f.name.what l.name)) (field_parts (drop l.field-index l.fields))
