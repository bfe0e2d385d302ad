-- What is given among the arguments of a command.
use Rattle.std.specs.Prelude.{ℕ, Bool, true, false, ◌==◌, ◌&&◌, ◌||◌, nat_le, nat_lt, is_some, List, [], ◌∷◌, length, filter, Option, Some, None, option_and_then, if◌then◌else◌}
use Rattle.std.specs.List.{filter_map}
use Rattle.std.specs.Option.{option_map, option_flatten}
use Rattle.std.specs.Str.{bytes_eq}
use Rattle.spl_value.specs.Decimal.{natural}
use Rattle.command_line.specs.declared.arguments.Argument.{Argument}
use Rattle.command_line.specs.declared.arguments.Argument.TheVariants.{File, Valued, Counts}

-- the file name that an argument is
abbrev pub file_of : Argument → Option (List ℕ)
file_of (File name) = Some name
file_of _ = None

-- the value that it gives to this option
abbrev pub value_of : List ℕ → Argument → Option (List ℕ)
value_of option (Valued name value) = if bytes_eq name option then Some value else None
value_of option _ = None

abbrev pub is_counts : Argument → Bool
is_counts Counts = true
is_counts _ = false

-- none or one, and not several
abbrev pub at_most_one : {A : Type 0} → List A → Option (Option A)
at_most_one [] = Some None
at_most_one (x ∷ []) = Some (Some x)
at_most_one (x ∷ y ∷ xs) = None

-- the one file name, where there is neither none nor several
abbrev pub only_file : List Argument → Option (List ℕ)
only_file given = option_flatten (at_most_one (filter_map file_of given))

-- whether `--counts` is given, at most once
abbrev pub counts : List Argument → Option Bool
counts given = option_map is_some (at_most_one (filter is_counts given))

-- what is read of the value of an option, where it is given
abbrev pub read_by : {A : Type 0} → (List ℕ → Option A) → Option (List ℕ) → Option (Option A)
read_by read None = Some None
read_by read (Some value) = option_map Some (read value)

-- an option that may be left out: where it is given, it is given once, with a value that is read
abbrev pub optional : {A : Type 0} → (List ℕ → Option A) → List ℕ → List Argument → Option (Option A)
optional read option given = option_and_then (read_by read) (at_most_one (filter_map (value_of option) given))

-- an option that is given once, with a value that is read
abbrev pub required : {A : Type 0} → (List ℕ → Option A) → List ℕ → List Argument → Option A
required read option given = option_flatten (optional read option given)

-- a zero with more after it
abbrev pub leads_with_zero : List ℕ → Bool
leads_with_zero (b ∷ c ∷ bytes) = b == 48
leads_with_zero _ = false

-- the number that 1 to 19 digits without a leading zero spell
abbrev pub spelled_number : List ℕ → Option ℕ
spelled_number text = if leads_with_zero text || nat_lt 19 (length text) then None else natural text

-- such a number within limits
abbrev pub number_within : ℕ → ℕ → List ℕ → Option ℕ
number_within least most text =
    option_and_then (λ n. if nat_le least n && nat_le n most then Some n else None) (spelled_number text)
