-- Marks as numbers, and how they are counted by groups and by blocks.
use Rattle.std.specs.Prelude.{ℕ, ◌≡◌, ◌+◌, ◌-◌, ◌*◌, ◌<◌, ◌≤◌, ◌^◌, Bool, true, false, List, [], ◌∷◌, length, map, take, if◌then◌else◌}

abbrev pub total : List ℕ → ℕ
total [] = 0
total (n ∷ ns) = n + total ns

-- 1 for each mark
abbrev pub one : Bool → ℕ
one mark = if mark then 1 else 0

abbrev pub ones : List Bool → List ℕ
ones marks = map one marks

-- one more, or one less
abbrev pub changed : Bool → ℕ → ℕ
changed more n = if more then n + 1 else n - 1

abbrev pub CanChange : Bool → ℕ → Type 0
CanChange true n = n + 1 < 2 ^ 32
CanChange false n = 0 < n

-- each entry is the sum of 32 entries of a list
abbrev pub Groups : List ℕ → List ℕ → Type 0
Groups ns sums = (k : ℕ) → total (take k sums) ≡ total (take (k * 32) ns)

-- the counts of places by groups and by blocks, and of all
pub record IsCounted (marks : List Bool) (groups blocks : List ℕ) (count : ℕ) : Type 0 where
  pub few : length marks + 1 < 2 ^ 32
  pub by_group : Groups (ones marks) groups
  pub by_block : Groups groups blocks
  pub all_groups : length marks ≤ length groups * 32
  pub all_blocks : length groups ≤ length blocks * 32
  pub all : count ≡ total (ones marks)
