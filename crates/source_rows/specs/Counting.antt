-- How the counts of faults change where files are opened in order, and read to their ends.
use Rattle.std.specs.Prelude.{◌≡◌, ◌≢◌, ◌≤◌, ◌++◌, ◌∷◌, ℕ, List, false}
use Rattle.feed_pour.specs.Counts.{FaultCounts, PerName, Rose}
use Rattle.language_model.specs.Names.{is_named}

-- of a name no count changed but that of reading
pub record OnlyRead (old new : FaultCounts) : Type 0 where
  pub opening : new.opening ≡ old.opening
  pub creating : new.creating ≡ old.creating
  pub writing : new.writing ≡ old.writing

-- no count changed but those of reading of these files
pub record OnlyReads (files : List (List ℕ)) (old new : PerName) : Type 0 where
  pub others : (n : List ℕ) → is_named files n ≡ false → new n ≡ old n
  pub reads : (n : List ℕ) → OnlyRead (old n) (new n)

-- no count changed but of these files
abbrev pub OnlyOf : List (List ℕ) → PerName → PerName → Type 0
OnlyOf files old new = (n : List ℕ) → is_named files n ≡ false → new n ≡ old n

-- counts of reading don't fall
abbrev pub Grows : PerName → PerName → Type 0
Grows old new = (n : List ℕ) → (old n).reading ≤ (new n).reading

-- A file that is opened couldn't be. Nothing was counted of the files after it, and of those before it nothing but
-- reading.
pub record OpeningFailed (opened : List (List ℕ)) (name : List ℕ) (old new : PerName) : Type 0 where
  pub before : List (List ℕ)
  pub behind : List (List ℕ)
  pub order : opened ≡ before ++ name ∷ behind
  pub rose : Rose (old name).opening (new name).opening
  pub later : (n : List ℕ) → is_named before n ≡ false → n ≢ name → new n ≡ old n
  pub others : (n : List ℕ) → n ≢ name → OnlyRead (old n) (new n)
