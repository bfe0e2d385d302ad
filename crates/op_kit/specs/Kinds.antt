-- The kinds of operators that there are here.
use Rattle.std.specs.Prelude.{Bool, true, false}
use Rattle.language_model.specs.declared.checked.CheckedClauses.{CheckedClauses}
use Rattle.language_model.specs.declared.checked.CheckedClauses.TheVariants as A

-- all but FileSource
abbrev pub is_held : CheckedClauses → Bool
is_held (A.FileSource file strict) = false
is_held _ = true
