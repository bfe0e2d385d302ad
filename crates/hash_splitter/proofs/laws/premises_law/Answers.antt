-- -1 and 2^64 - 1 have the same bytes.
use Rattle.std.specs.Prelude.{◌≡◌, IsTrue, pos, negsuc, [], ◌∷◌}
use Rattle.std.specs.Cmp.Lexicographic.{pointwise}
use Rattle.spl_value.specs.declared.types.IntKind.TheVariants as N
use Rattle.spl_value.specs.declared.types.SplType.TheVariants as S
use Rattle.spl_value.specs.declared.value.Value.TheVariants as V
use Rattle.spl_value.specs.Key.{enc_values, key_fits}
use Rattle.spl_value.proofs.FitsLaws.{fits_int}
use Rattle.hash_splitter.proofs.laws.premises_law.Goals as goal

fitting : IsTrue (pointwise key_fits (S.Int N.I64 ∷ []) (V.Int (negsuc 0) ∷ []))
fitting = rw (fits_int N.I64 (negsuc 0), S.outs-Int N.I64, V.outs-Int (negsuc 0))

same_bytes : enc_values (V.Int (negsuc 0) ∷ []) ≡ enc_values (V.Int (pos 0xffffffffffffffff) ∷ [])
same_bytes = rw (V.outs-Int (negsuc 0), V.outs-Int (pos 0xffffffffffffffff))

differ : V.Int (negsuc 0) ∷ [] ≡ V.Int (pos 0xffffffffffffffff) ∷ [] → ⊥
differ e = let numbers : negsuc 0 ≡ pos 0xffffffffffffffff = cc in cc

pub returns : goal.returns
returns c = record { of_both = λ law. differ (law (S.Int N.I64 ∷ []) (V.Int (negsuc 0) ∷ []) (V.Int (pos 0xffffffffffffffff) ∷ []) fitting same_bytes) }
