-- The samples fit their row.
use Rattle.std.proofs.Common.{ℕ, ℤ, zero, suc, pos, true, true≢false, List, [], ◌∷◌, ◌≡◌, ◌&&◌, slice_get, Some, refl, sym, ap, subst, ◌∙◌, inl, arith}
use Rattle.std.specs.Prelude.{IsTrue}
use Rattle.std.specs.Option.{unwrap_or}
use Rattle.spl_value.specs.declared.value.Value.{Value}
use Rattle.spl_value.specs.declared.value.Value.TheVariants as V
use Rattle.spl_value.specs.declared.types.SplType.{SplType}
use Rattle.spl_value.specs.declared.types.SplType.TheVariants as S
use Rattle.spl_value.specs.declared.types.IntKind.TheVariants as K
use Rattle.spl_value.specs.Values.{fits, kind_holds}
use Rattle.spl_value.proofs.FitsLaws.{fits_int, fits_tuple}
use Rattle.spl_tree.specs.declared.body.Function.{Function}
use Rattle.spl_tree.specs.declared.code.Code.{Code}
use Rattle.spl_tree.specs.declared.code.Code.TheVariants as C
use Rattle.spl_tree.specs.declared.code.BinaryCode.TheVariants as D
use Rattle.spl_tree.specs.declared.code.OrderOperator.TheVariants as O
use Rattle.spl_tree.specs.declared.code.Slot.{Slot}
use Rattle.spl_tree.specs.declared.code.Slot.TheVariants as L
use Rattle.language_model.specs.declared.scope.Port.{Port}
use Rattle.language_model.specs.declared.env.Env.{Env}
use Rattle.language_model.specs.CodeFits as F
use Rattle.language_model.specs.CodeFits.{CodeFits, OneEach, SlotFits}
use Rattle.language_model.specs.WorldFits.{Fits, EnvFits}
use Rattle.speed.specs.Samples.{above, both_above, swapped, attribute, numbers, row, scope, price, size, pair}

tuple_fits : IsTrue (fits (S.Tuple pair) (V.Tuple numbers))
tuple_fits = fits_tuple pair numbers ∙ (λ i. fits_int K.I64 (pos 700) i && (fits_int K.I64 (pos 3) i && true))

input : (i : ℕ) (q : Port) → slice_get scope.ports i ≡ Some q → (us : List Value) × (slice_get row.inputs i ≡ Some us) × IsTrue (fits (S.Tuple q.schema) (V.Tuple us))
input zero q at = (numbers, refl, subst (λ (r : Port). IsTrue (fits (S.Tuple r.schema) (V.Tuple numbers))) (ap (λ o. unwrap_or o q) at) tuple_fits)
input (suc i) q at = absurd cc

row_fits : EnvFits scope row
row_fits = record { variables = λ i x at. absurd cc; inputs = λ i q at. input i q at; marker = λ none. absurd (true≢false (sym none)) }

fit : (code : Code Slot) (t : SplType) → CodeFits scope code t → Fits [] code row t
fit code t f = record { scope = scope; code_fits = f; env_fits = row_fits; functions_fit = λ i s at. absurd cc }

price_there : CodeFits scope (attribute 0) (S.Int K.I64)
price_there = F.name (L.Attribute 0 0) (S.Int K.I64) (F.attribute 0 0 (record { name = []; schema = pair }) price refl refl refl (inl refl))

size_there : CodeFits scope (attribute 1) (S.Int K.I64)
size_there = F.name (L.Attribute 0 1) (S.Int K.I64) (F.attribute 0 1 (record { name = []; schema = pair }) size refl refl refl (inl refl))

compared : (i : ℕ) (n : ℤ) → CodeFits scope (attribute i) (S.Int K.I64) → IsTrue (kind_holds K.I64 n) → CodeFits scope (above i n) S.Bool
compared i n f h =
    F.binary (D.Order O.Greater) (attribute i) (C.Literal (V.Int n)) (S.Int K.I64) (S.Int K.I64) S.Bool f (F.literal (V.Int n) (S.Int K.I64) (fits_int K.I64 n ∙ h)) (F.orders_integers O.Greater K.I64)

pub above_fits : Fits [] (above 0 (pos 500)) row S.Bool
above_fits = fit (above 0 (pos 500)) S.Bool (compared 0 (pos 500) price_there refl)

pub both_fit : Fits [] both_above row S.Bool
both_fit =
    fit both_above S.Bool
    (F.binary D.And (above 0 (pos 500)) (above 1 (pos 2)) S.Bool S.Bool S.Bool (compared 0 (pos 500) price_there refl) (compared 1 (pos 2) size_there refl) F.both)

one_each : OneEach 2 ((0, attribute 1) ∷ (1, attribute 0) ∷ [])
one_each zero lt = refl
one_each (suc zero) lt = refl
one_each (suc (suc i)) lt = absurd (omega arith)

pub swapped_fits : Fits [] swapped row (S.Tuple pair)
swapped_fits =
    fit swapped (S.Tuple pair)
    (F.tuple ((0, attribute 1) ∷ (1, attribute 0) ∷ []) pair
    (F.field 0 (attribute 1) ((1, attribute 0) ∷ []) pair price refl size_there (F.field 1 (attribute 0) [] pair size refl price_there (F.no_fields pair))) one_each)

-- what is made of a sample fits where what stands for its row comes
pub fits_as : (t : SplType) (functions : List Function) (code sample : Code Slot) (env : Env) → functions ≡ [] → code ≡ sample → env ≡ row → Fits [] sample row t → Fits functions code env t
fits_as t functions code sample env none is there f =
    subst (λ fs. Fits fs code env t) (sym none) (subst (λ c. Fits [] c env t) (sym is) (subst (λ e. Fits [] sample e t) (sym there) f))
