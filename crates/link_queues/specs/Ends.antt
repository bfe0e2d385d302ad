-- Which links have an element at an end.
use Rattle.std.specs.Prelude.{◌≡◌, ◌≢◌, ℕ, List, Option, None, Some, slice_get}
use Rattle.stream_model.specs.declared.shape.ShapeLink.{ShapeLink}

abbrev pub sender : ShapeLink → ℕ
sender x = x.from

abbrev pub receiver : ShapeLink → ℕ
receiver x = x.to

-- by element, the links of which it is this end
pub record Lists (end_of : ShapeLink → ℕ) (links : List ShapeLink) (rows : List (List ℕ)) : Type 0 where
  pub listed : (l : ℕ) (x : ShapeLink) → slice_get links l ≡ Some x
      → (row : List ℕ) × (j : ℕ) × (slice_get rows (end_of x) ≡ Some row) × (slice_get row j ≡ Some l)
  pub alone : (e j l : ℕ) (row : List ℕ) → slice_get rows e ≡ Some row → slice_get row j ≡ Some l
      → (x : ShapeLink) × (slice_get links l ≡ Some x) × (end_of x ≡ e)

-- the links that lead to an element
pub record LeadsTo (links : List ShapeLink) (element : ℕ) (row : List ℕ) : Type 0 where
  pub listed : (l : ℕ) (x : ShapeLink) → slice_get links l ≡ Some x → x.to ≡ element
      → (j : ℕ) × (slice_get row j ≡ Some l)
  pub alone : (j l : ℕ) → slice_get row j ≡ Some l → (x : ShapeLink) × (slice_get links l ≡ Some x) × (x.to ≡ element)

-- one of some links that leads away from an output of its element, where there is one
abbrev pub IsAmong : List ShapeLink → List ℕ → ℕ → Option ℕ → Type 0
IsAmong links row output None =
    (j l : ℕ) (x : ShapeLink) → slice_get row j ≡ Some l → slice_get links l ≡ Some x → x.output ≢ output
IsAmong links row output (Some l) =
    (j : ℕ) × (x : ShapeLink) × (slice_get row j ≡ Some l) × (slice_get links l ≡ Some x) × (x.output ≡ output)

-- a link that leads away from an output of an element, where there is one
abbrev pub IsLeading : List ShapeLink → ℕ → ℕ → Option ℕ → Type 0
IsLeading links element output None =
    (l : ℕ) (x : ShapeLink) → slice_get links l ≡ Some x → x.from ≡ element → x.output ≢ output
IsLeading links element output (Some l) =
    (x : ShapeLink) × (slice_get links l ≡ Some x) × (x.from ≡ element) × (x.output ≡ output)
