-- Words for parts of the rules of copies: the source of an attribute of a Custom.
use Rattle.std.specs.Prelude.{ℕ, Option, None, if◌then◌else◌}
use Rattle.language_model.specs.declared.checked.Handlers.{Handlers}
use Rattle.stream_model.specs.Copies.{agreed, submits_in}
use Rattle.stream_model.specs.Stream.{is_empty}

-- no body on a marker submits a tuple, and every tuple that is submitted is the input tuple itself or a literal that gives that attribute
abbrev pub custom_source : Handlers → ℕ → Option ℕ
custom_source handlers a = if is_empty (submits_in handlers.on_punct) then agreed a (submits_in handlers.on_tuple) else None
