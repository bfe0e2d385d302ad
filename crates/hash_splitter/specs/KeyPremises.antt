-- What the bytes of keys tell where it isn't known of both keys that their values are of the same types.
use Rattle.std.specs.Prelude.{◌≡◌, IsTrue, List}
use Rattle.std.specs.Cmp.Lexicographic.{pointwise}
use Rattle.spl_value.specs.declared.types.SplType.{SplType}
use Rattle.spl_value.specs.declared.value.Value.{Value}
use Rattle.spl_value.specs.Key.{enc_values, key_fits}

-- bytes tell a key of these types from each other one, whatever the types of that: this is not so
abbrev pub OneFittingSuffices : Type 0
OneFittingSuffices = (types : List SplType) (values others : List Value) → IsTrue (pointwise key_fits types values)
    → enc_values values ≡ enc_values others → values ≡ others
