-- The bytes at a place of a line, and what stands behind them.
use Rattle.std.specs.Prelude.{◌≡◌, ◌≤◌, ◌==◌, ◌||◌, ℕ, Bool, List, [], ◌∷◌, length, drop, Option, Some, None, if◌then◌else◌}
use Rattle.std.specs.Option.{option_and_then}
use Rattle.std.specs.List.{starts_with}
use Rattle.std.specs.Prelude.{nat_eq}
use Rattle.spl_value.specs.Decimal.{is_digit}
use Rattle.txt_format.specs.TxtSpelling.{is_blank}

-- what is behind the blanks at the front
abbrev pub past_blanks : List ℕ → List ℕ
past_blanks [] = []
past_blanks (b ∷ bs) = if is_blank b then past_blanks bs else b ∷ bs

-- what is behind this byte
abbrev pub past_byte : ℕ → List ℕ → Option (List ℕ)
past_byte c [] = None
past_byte c (b ∷ bs) = if b == c then Some bs else None

-- what is behind this byte and blanks around it
abbrev pub past_mark : ℕ → List ℕ → Option (List ℕ)
past_mark c bytes = option_and_then (λ behind. Some (past_blanks behind)) (past_byte c (past_blanks bytes))

-- what is behind a name
abbrev pub past_name : List ℕ → List ℕ → Option (List ℕ)
past_name name bytes = if starts_with nat_eq bytes name then Some (drop (length name) bytes) else None

-- a byte of an integer
abbrev pub is_part : ℕ → Bool
is_part b = is_digit b || (b == 45)

-- what is behind: the text at that place of the line
abbrev pub IsRest : Option (List ℕ) → List ℕ → Option ℕ → Type 0
IsRest rest line None = rest ≡ None
IsRest rest line (Some at) = (at ≤ length line) × (rest ≡ Some (drop at line))

-- what was read, and what is behind: this, and the text at that place of the line
abbrev pub IsRead : {A : Type 0} → Option (A × List ℕ) → List ℕ → A → Option ℕ → Type 0
IsRead read line x None = read ≡ None
IsRead read line x (Some at) = (at ≤ length line) × (read ≡ Some (x, drop at line))
