-- Texts between two `"`: escapes, and the bytes that stand for themselves.
use Rattle.std.specs.Prelude.{◌≡◌, ◌==◌, ◌||◌, ℕ, Bool, true, not, List, [], ◌∷◌, flat_map, if◌then◌else◌}

-- a byte that stands for itself: any but `"`, `\` and a line feed
abbrev pub is_plain : ℕ → Bool
is_plain b = not ((b == 34) || ((b == 92) || (b == 10)))

-- the byte after a backslash, and the byte that both stand for
pub data Escapes : ℕ → ℕ → Type 0 where
  double_quote : Escapes 34 34
  single_quote : Escapes 39 39
  backslash : Escapes 92 92
  line_feed : Escapes 110 10
  tab : Escapes 116 9
  carriage_return : Escapes 114 13

-- the bytes between the quotes, and those that they stand for
pub data Means : List ℕ → List ℕ → Type 0 where
  nothing : Means [] []
  plain : (b : ℕ) (bs cs : List ℕ) → is_plain b ≡ true → Means bs cs → Means (b ∷ bs) (b ∷ cs)
  escape : (c b : ℕ) (bs cs : List ℕ) → Escapes c b → Means bs cs → Means (92 ∷ c ∷ bs) (b ∷ cs)

-- how a byte is written: `"`, `\`, line feed, tab and carriage return by their escapes, and any other as it is
abbrev pub written : ℕ → List ℕ
written b =
    if b == 34 then 92 ∷ 34 ∷ []
    else if b == 92 then 92 ∷ 92 ∷ []
    else if b == 10 then 92 ∷ 110 ∷ []
    else if b == 9 then 92 ∷ 116 ∷ []
    else if b == 13 then 92 ∷ 114 ∷ []
    else b ∷ []

-- how bytes are written between the quotes
abbrev pub escaped : List ℕ → List ℕ
escaped = flat_map written
