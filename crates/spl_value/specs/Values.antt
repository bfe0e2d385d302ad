-- Which values belong to a type, and a type's default.
use Rattle.std.specs.Prelude.{ℕ, ◌-◌, ℤ, pos, negsuc, Bool, true, false, ◌&&◌, nat_lt, List, [], map}
use Rattle.std.specs.List.{list_all}
use Rattle.std.specs.Cmp.Lexicographic.{pointwise}
use Rattle.spl_value.specs.declared.types.IntKind.{IntKind}
use Rattle.spl_value.specs.declared.types.IntKind.TheVariants.{I8, I16, I32, I64, U8, U16, U32, U64}
use Rattle.spl_value.specs.declared.types.Named.{Named}
use Rattle.spl_value.specs.declared.types.SplType.{SplType}
use Rattle.spl_value.specs.declared.types.SplType.TheOpen as T
use Rattle.spl_value.specs.declared.types.SplType.TheOpen.{SplType-F}
use Rattle.spl_value.specs.declared.types.SplType.TheFolds.{fold-SplType}
use Rattle.spl_value.specs.declared.value.Value.{Value}
use Rattle.spl_value.specs.declared.value.Value.TheVariants as V
use Rattle.spl_value.specs.declared.value.Value.TheOpen as O
use Rattle.spl_value.specs.declared.value.Value.TheOpen.{Value-F}
use Rattle.spl_value.specs.declared.value.Value.TheViews.{out-Value}
use Rattle.spl_value.specs.Pairs.{are_pairs}

-- how many numbers a kind has, 2 to its width
abbrev pub modulus : IntKind → ℕ
modulus I8 = 256
modulus I16 = 65536
modulus I32 = 4294967296
modulus I64 = 18446744073709551616
modulus U8 = 256
modulus U16 = 65536
modulus U32 = 4294967296
modulus U64 = 18446744073709551616

-- the least number above those of a kind
abbrev pub top : IntKind → ℕ
top I8 = 128
top I16 = 32768
top I32 = 2147483648
top I64 = 9223372036854775808
top U8 = 256
top U16 = 65536
top U32 = 4294967296
top U64 = 18446744073709551616

-- the number is one of the kind's: one below 0, -1 - n, is where n is less than how many numbers below 0
-- the kind has
abbrev pub kind_holds : IntKind → ℤ → Bool
kind_holds k (pos n) = nat_lt n (top k)
kind_holds k (negsuc n) = nat_lt n (modulus k - top k)

-- a value belongs to a type, where f says it of their parts
abbrev pub level_fits : {A : Type 0} → (A → Value → Bool) → SplType-F A → Value-F Value → Bool
level_fits f (T.Int k) (O.Int n) = kind_holds k n
level_fits f T.Bool (O.Bool b) = true
level_fits f T.Text (O.Text bytes) = true
level_fits f (T.List t) (O.List vs) = list_all (f t) vs
level_fits f (T.Map k t) (O.Map ps) = are_pairs ps && list_all (λ p. f k p.0 && f t p.1) ps
level_fits f (T.Tuple schema) (O.Tuple vs) = pointwise (λ a v. f a.kind v) schema vs
level_fits f _ _ = false

-- the value belongs to the type
abbrev pub fits : SplType → Value → Bool
fits = fold-SplType (Value → Bool) (λ t v. level_fits (λ g u. g u) t (out-Value v))

-- there is a value for each attribute, in their order, and it belongs to the attribute's type
abbrev pub tuple_fits : List (Named SplType) → List Value → Bool
tuple_fits schema vs = pointwise (λ a v. fits a.kind v) schema vs

-- the default of a type, whose parts are replaced by their defaults
abbrev pub level_default : SplType-F Value → Value
level_default (T.Int k) = V.Int (pos 0)
level_default T.Bool = V.Bool false
level_default T.Text = V.Text []
level_default (T.List t) = V.List []
level_default (T.Map k t) = V.Map []
level_default (T.Tuple schema) = V.Tuple (map (λ a. a.kind) schema)

-- 0, false, the empty text, list and map, and tuples of these
abbrev pub default_value : SplType → Value
default_value = fold-SplType Value level_default
