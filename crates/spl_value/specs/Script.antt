-- What a reader gives of a file: the bytes, and how they end.
use Rattle.std.specs.Prelude.{ℕ, List}

-- after the bytes the end of the file comes, or a read that fails
pub data Ending : Type 0 where
  End : Ending
  Failed : Ending

pub record Script : Type 0 where
  pub bytes : List ℕ
  pub ending : Ending
