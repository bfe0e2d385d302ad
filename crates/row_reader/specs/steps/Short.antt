-- A number without a sign that stands at the front of a line.
use Rattle.std.specs.Prelude.{◌≡◌, ℕ, List, take, Some, pos}
use Rattle.spl_value.specs.Decimal.{integer_of}
use Rattle.spl_value.specs.declared.types.IntKind.{IntKind}
use Rattle.row_reader.specs.steps.Plain.{IsCut}

-- the first field of a line has `end` bytes, and is this number of the kind
pub record IsShort (kind : IntKind) (line : List ℕ) (n end : ℕ) : Type 0 where
  pub cut : IsCut line end
  pub value : integer_of kind (take end line) ≡ Some (pos n)
