use Rattle.std.proofs.Common.{◌≡◌, drop}
use Rattle.std.specs.Prelude.{is_some}
use Rattle.std.specs.List.{list_all}
use Rattle.language_model.specs.Scopes.{attribute_of}
use Rattle.language_model.specs.TypingLaws.{field_parts}
use Rattle.name_rules.proofs.wanted.are_known.Given as goal

abbrev pub invariant-loop-field : goal.invariant-loop-field
invariant-loop-field l =
    list_all (λ f. is_some (attribute_of l.schema f.name.what)) (field_parts l.fields)
    ≡ list_all (λ f. is_some (attribute_of l.schema f.name.what)) (field_parts (drop l.field-index l.fields))
