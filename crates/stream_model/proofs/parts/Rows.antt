-- Words for parts of the rules of rows, by which proofs speak of them.
use Rattle.std.specs.Prelude.{ℕ, List, [], ◌∷◌, Option}
use Rattle.std.specs.Option.{option_map_or, unwrap_or}
use Rattle.spl_value.specs.declared.item.FaultKind.{FaultKind}
use Rattle.spl_value.specs.declared.item.FaultKind.TheVariants as K
use Rattle.spl_value.specs.declared.item.Item.{Item}
use Rattle.spl_value.specs.declared.value.Value.{Value}
use Rattle.stream_model.specs.Rows.{Setting, Given, Row, Bad, source_fault}

abbrev pub fitting : Option (List Value) → Given
fitting values = option_map_or Row values Bad

-- a read failed in a line, whose bytes are dropped
abbrev pub cut_short : Setting → ℕ → Option FaultKind → List Item
cut_short o line fault = source_fault o (unwrap_or fault K.ReadFailed) line ∷ []
