-- How the counts of faults of a feed, a pour and a shelf change, and how many feeds and pours a shelf has lent.
use Rattle.std.specs.Prelude.{◌≡◌, ◌≢◌, ◌+◌, ◌-◌, ◌^◌, ◌≤◌, ◌<◌, ℕ, List, Bool, true, false, min}

-- the count rose, or stands at its type's end
abbrev pub Rose : ℕ → ℕ → Type 0
Rose before now = min (before + 1) (2 ^ 64 - 1) ≤ now

-- the count over a call that failed, or not
abbrev pub Counted : Bool → ℕ → ℕ → Type 0
Counted true before now = (before ≤ now) × Rose before now
Counted false before now = now ≡ before

-- what a shelf has counted for a name
pub record FaultCounts : Type 0 where
  pub opening : ℕ
  pub creating : ℕ
  pub reading : ℕ
  pub writing : ℕ

-- no fault
abbrev pub no_counts : FaultCounts
no_counts = record { opening = 0; creating = 0; reading = 0; writing = 0 }

-- one count per name
abbrev pub PerName : Type 0
PerName = List ℕ → FaultCounts

-- only what is told of this name changes
abbrev pub OthersStay : {A : Type 0} → (List ℕ → A) → (List ℕ → A) → List ℕ → Type 0
OthersStay old new name = (n : List ℕ) → n ≢ name → new n ≡ old n

-- a try to open counts under opening of its name where it failed, and nowhere else
pub record OpeningCounted (failed : Bool) (old new : PerName) (name : List ℕ) : Type 0 where
  pub others : OthersStay old new name
  pub count : Counted failed (old name).opening (new name).opening
  pub creating : (new name).creating ≡ (old name).creating
  pub reading : (new name).reading ≡ (old name).reading
  pub writing : (new name).writing ≡ (old name).writing

-- a try to create counts under creating of its name where it failed, and nowhere else
pub record CreatingCounted (failed : Bool) (old new : PerName) (name : List ℕ) : Type 0 where
  pub others : OthersStay old new name
  pub count : Counted failed (old name).creating (new name).creating
  pub opening : (new name).opening ≡ (old name).opening
  pub reading : (new name).reading ≡ (old name).reading
  pub writing : (new name).writing ≡ (old name).writing

-- a feed given back counts under reading of its name where it failed, and nowhere else
pub record ReadingCounted (failed : Bool) (old new : PerName) (name : List ℕ) : Type 0 where
  pub others : OthersStay old new name
  pub count : Counted failed (old name).reading (new name).reading
  pub opening : (new name).opening ≡ (old name).opening
  pub creating : (new name).creating ≡ (old name).creating
  pub writing : (new name).writing ≡ (old name).writing

-- a pour given back counts under writing of its name where it failed, and nowhere else
pub record WritingCounted (failed : Bool) (old new : PerName) (name : List ℕ) : Type 0 where
  pub others : OthersStay old new name
  pub count : Counted failed (old name).writing (new name).writing
  pub opening : (new name).opening ≡ (old name).opening
  pub creating : (new name).creating ≡ (old name).creating
  pub reading : (new name).reading ≡ (old name).reading

-- how many are lent, over a call that lends one more or none; of one more than 2^64 - 1 nothing is said
abbrev pub Lends : Bool → ℕ → ℕ → Type 0
Lends true before now = before < 2 ^ 64 - 1 → now ≡ before + 1
Lends false before now = now ≡ before

-- how many are lent, over a call that takes one back
abbrev pub Returns : ℕ → ℕ → Type 0
Returns before now = 0 < before → before ≡ now + 1
