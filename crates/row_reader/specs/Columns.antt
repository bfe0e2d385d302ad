-- The columns of a row as attributes with no name.
use Rattle.std.specs.Prelude.{List, [], map}
use Rattle.spl_value.specs.declared.types.Named.{Named}
use Rattle.spl_value.specs.declared.types.SplType.{SplType}
use Rattle.spl_value.specs.declared.types.SplType.TheVariants as T
use Rattle.row_reader.specs.declared.columns.Column.{Column}
use Rattle.row_reader.specs.declared.columns.Column.TheVariants as C

abbrev pub type_of : Column → SplType
type_of (C.Int kind) = T.Int kind
type_of C.Bool = T.Bool
type_of C.Text = T.Text

abbrev pub attribute : Column → Named SplType
attribute column = record { name = []; kind = type_of column }

abbrev pub attributes : List Column → List (Named SplType)
attributes columns = map attribute columns
