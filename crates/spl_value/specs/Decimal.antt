-- Integers as decimal text.
use Rattle.std.specs.Prelude.{◌+◌, ◌-◌, ◌*◌, ◌==◌, ◌&&◌, nat_lt, Bool, not, ℕ, ℤ, pos, neg_ℤ, List, [], ◌∷◌, fold, Option, Some, None, option_map, if◌then◌else◌}
use Rattle.std.specs.List.{list_all}
use Rattle.spl_value.specs.declared.types.IntKind.{IntKind}
use Rattle.spl_value.specs.Values.{kind_holds}

abbrev pub is_digit : ℕ → Bool
is_digit b = not (nat_lt b 48) && nat_lt b 58

-- one more digit at the end of a number
abbrev pub digit_step : ℕ → ℕ → ℕ
digit_step n b = n * 10 + (b - 48)

-- the number that one or more digits spell
abbrev pub natural : List ℕ → Option ℕ
natural [] = None
natural (b ∷ bs) = if list_all is_digit (b ∷ bs) then Some (fold digit_step 0 (b ∷ bs)) else None

-- the number that an optional `-` and digits spell
abbrev pub integer : List ℕ → Option ℤ
integer [] = None
integer (b ∷ bs) = if b == 45 then option_map (λ n. neg_ℤ (pos n)) (natural bs) else option_map pos (natural (b ∷ bs))

abbrev pub in_kind : IntKind → Option ℤ → Option ℤ
in_kind k None = None
in_kind k (Some n) = if kind_holds k n then Some n else None

-- the number of the kind that an optional `-` and digits spell
abbrev pub integer_of : IntKind → List ℕ → Option ℤ
integer_of k text = in_kind k (integer text)
