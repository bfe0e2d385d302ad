-- What is wanted of a literal, by the parts of a type.
use Rattle.std.specs.Prelude.{Option, Some, None}
use Rattle.std.specs.Borrow.{Bor}
use Rattle.language_model.specs.Typing.{Wants, This, Another}

-- something of the literal's own form, or another type
abbrev pub this_or_other : {A : Type 0} → Option A → Wants A
this_or_other None = Another
this_or_other (Some x) = This x

abbrev pub pair_copied : {A B : Type 0} → Option (Bor A × Bor B) → Option (A × B)
pair_copied None = None
pair_copied (Some p) = Some (p.0.now, p.1.now)
