-- `fits` and `default_value` by variants, and that a default fits its type.
use Rattle.std.specs.Prelude.{◌≡◌, ℕ, zero, suc, ℤ, pos, Bool, true, false, ◌&&◌, not, cond, IsTrue, List, [], ◌∷◌, map, Some, slice_get}
use Rattle.std.specs.List.{list_all, AllByRecursion}
use Rattle.std.specs.declared.cmp.Ordering.TheVariants.{Less, Equal, Greater}
use Rattle.std.specs.Ordering.{eq_by_cmp}
use Rattle.std.specs.Cmp.{first_so, second_so}
use Rattle.std.specs.Cmp.Derive.{both_true}
use Rattle.std.specs.FinMap.Entries.{by_order}
use Rattle.std.proofs.Common.{refl, sym, ap, ◌∙◌}
use Rattle.std.proofs.lemmas.Int.{to_z-of_z}
use Rattle.spl_value.specs.declared.types.IntKind.{IntKind}
use Rattle.spl_value.specs.declared.types.IntKind.TheVariants.{I8, I16, I32, I64, U8, U16, U32, U64}
use Rattle.spl_value.specs.declared.types.Named.{Named}
use Rattle.spl_value.specs.declared.types.SplType.{SplType}
use Rattle.spl_value.specs.declared.types.SplType.TheVariants as S
use Rattle.spl_value.specs.declared.types.SplType.TheOpen as T
use Rattle.spl_value.specs.declared.types.SplType.TheOpen.{SplType-F}
use Rattle.spl_value.specs.declared.types.SplType.TheViews.{out-SplType}
use Rattle.spl_value.specs.declared.types.SplType.TheFolds.{fold_out-SplType, map-SplType}
use Rattle.spl_value.specs.declared.value.Value.{Value}
use Rattle.spl_value.specs.declared.value.Value.TheVariants as V
use Rattle.spl_value.specs.declared.value.Value.TheOpen as O
use Rattle.spl_value.specs.declared.value.Value.TheOpen.{Value-F}
use Rattle.spl_value.specs.declared.value.Value.TheViews.{out-Value, roll-Value, roll-out-Value}
use Rattle.spl_value.specs.Values.{kind_holds, level_fits, fits, tuple_fits, level_default, default_value}
use Rattle.spl_value.specs.Order.{value_cmp}
use Rattle.spl_value.proofs.OrderLaws.{value_cmp-IsAntisymmetric}
use Rattle.spl_value.specs.Pairs.{are_pairs, pairs_get, pairs_put, pairs_without}
use Rattle.spl_value.proofs.PairsLaws.{put_are_pairs, without_are_pairs}
use Rattle.spl_value.proofs.Induction.{TypeSteps, type_ind}
use Rattle.spl_value.proofs.Lists.{pointwise-map}

level_fits-map : {A B : Type 0} (f : A → B) (R : B → Value → Bool) (t : SplType-F A) (x : Value-F Value) → level_fits R (map-SplType A B f t) x ≡ level_fits (λ a v. R (f a) v) t x
level_fits-map f R (T.Int k) (O.Int n) = refl
level_fits-map f R T.Bool (O.Bool b) = refl
level_fits-map f R T.Text (O.Text bytes) = refl
level_fits-map f R (T.List t) (O.List vs) = refl
level_fits-map f R (T.Map k t) (O.Map ps) = refl
level_fits-map f R (T.Tuple schema) (O.Tuple vs) = pointwise-map (λ a v. R a.kind v) (λ a. record { name = a.name; kind = f a.kind }) schema vs
level_fits-map f R (T.Int k) x = refl
level_fits-map f R T.Bool x = refl
level_fits-map f R T.Text x = refl
level_fits-map f R (T.List t) x = refl
level_fits-map f R (T.Map k t) x = refl
level_fits-map f R (T.Tuple schema) x = refl

pub fits_is : (t : SplType) (v : Value) → fits t v ≡ level_fits fits (out-SplType t) (out-Value v)
fits_is t v =
    ap (λ g. g v) (fold_out-SplType (Value → Bool) (λ t v. level_fits (λ g u. g u) t (out-Value v)) t)
    ∙ level_fits-map fits (λ (g : Value → Bool) u. g u) (out-SplType t) (out-Value v)

-- ---- by variants

fits_at : (t : SplType) (v : Value) (x : SplType-F SplType) (y : Value-F Value) → out-SplType t ≡ x → out-Value v ≡ y → fits t v ≡ level_fits fits x y
fits_at t v x y p q = fits_is t v ∙ (λ i. level_fits fits (p i) (q i))

pub fits_int : (k : IntKind) (n : ℤ) → fits (S.Int k) (V.Int n) ≡ kind_holds k n
fits_int k n = fits_at (S.Int k) (V.Int n) (T.Int k) (O.Int n) (S.outs-Int k) (V.outs-Int n)

pub fits_bool : (b : Bool) → fits S.Bool (V.Bool b) ≡ true
fits_bool b = fits_at S.Bool (V.Bool b) T.Bool (O.Bool b) S.outs-Bool (V.outs-Bool b)

pub fits_text : (bytes : List ℕ) → fits S.Text (V.Text bytes) ≡ true
fits_text bytes = fits_at S.Text (V.Text bytes) T.Text (O.Text bytes) S.outs-Text (V.outs-Text bytes)

pub fits_list : (t : SplType) (vs : List Value) → fits (S.List t) (V.List vs) ≡ list_all (fits t) vs
fits_list t vs = fits_at (S.List t) (V.List vs) (T.List t) (O.List vs) (S.outs-List t) (V.outs-List vs)

pub fits_map : (k t : SplType) (ps : List (Value × Value)) → fits (S.Map k t) (V.Map ps) ≡ (are_pairs ps && list_all (λ p. fits k p.0 && fits t p.1) ps)
fits_map k t ps = fits_at (S.Map k t) (V.Map ps) (T.Map k t) (O.Map ps) (S.outs-Map k t) (V.outs-Map ps)

pub fits_tuple : (schema : List (Named SplType)) (vs : List Value) → fits (S.Tuple schema) (V.Tuple vs) ≡ tuple_fits schema vs
fits_tuple schema vs = fits_at (S.Tuple schema) (V.Tuple vs) (T.Tuple schema) (O.Tuple vs) (S.outs-Tuple schema) (V.outs-Tuple vs)

pub ruleset fits_laws = (fits_int, fits_bool, fits_text, fits_list, fits_map, fits_tuple)

-- for functions that make or read integers
pub ruleset number_laws = (to_z-of_z, fits_int)

-- ---- and back: the variant of a value that fits

level_of : (t : SplType) (v : Value) (x : SplType-F SplType) → out-SplType t ≡ x → IsTrue (fits t v) → level_fits fits x (out-Value v) ≡ true
level_of t v x e h = sym (ap (λ z. level_fits fits z (out-Value v)) e) ∙ sym (fits_is t v) ∙ h

is_value : (v : Value) (y : Value-F Value) (w : Value) → out-Value v ≡ y → roll-Value y ≡ w → v ≡ w
is_value v y w e f = sym (roll-out-Value v) ∙ ap roll-Value e ∙ f

int_at : (k : IntKind) (v : Value) (y : Value-F Value) → out-Value v ≡ y → level_fits fits (T.Int k) y ≡ true → (n : ℤ) × (v ≡ V.Int n) × (kind_holds k n ≡ true)
int_at k v (O.Int n) e h = (n, is_value v (O.Int n) (V.Int n) e (V.rolls-Int n), h)
int_at k v y e h = absurd cc

pub int_from_fits : (k : IntKind) (v : Value) → IsTrue (fits (S.Int k) v) → (n : ℤ) × (v ≡ V.Int n) × IsTrue (kind_holds k n)
int_from_fits k v h = int_at k v (out-Value v) refl (level_of (S.Int k) v (T.Int k) (S.outs-Int k) h)

bool_at : (v : Value) (y : Value-F Value) → out-Value v ≡ y → level_fits fits T.Bool y ≡ true → (b : Bool) × (v ≡ V.Bool b)
bool_at v (O.Bool b) e h = (b, is_value v (O.Bool b) (V.Bool b) e (V.rolls-Bool b))
bool_at v y e h = absurd cc

pub bool_from_fits : (v : Value) → IsTrue (fits S.Bool v) → (b : Bool) × (v ≡ V.Bool b)
bool_from_fits v h = bool_at v (out-Value v) refl (level_of S.Bool v T.Bool S.outs-Bool h)

text_at : (v : Value) (y : Value-F Value) → out-Value v ≡ y → level_fits fits T.Text y ≡ true → (bytes : List ℕ) × (v ≡ V.Text bytes)
text_at v (O.Text bytes) e h = (bytes, is_value v (O.Text bytes) (V.Text bytes) e (V.rolls-Text bytes))
text_at v y e h = absurd cc

pub text_from_fits : (v : Value) → IsTrue (fits S.Text v) → (bytes : List ℕ) × (v ≡ V.Text bytes)
text_from_fits v h = text_at v (out-Value v) refl (level_of S.Text v T.Text S.outs-Text h)

list_at : (t : SplType) (v : Value) (y : Value-F Value) → out-Value v ≡ y → level_fits fits (T.List t) y ≡ true → (vs : List Value) × (v ≡ V.List vs) × (list_all (fits t) vs ≡ true)
list_at t v (O.List vs) e h = (vs, is_value v (O.List vs) (V.List vs) e (V.rolls-List vs), h)
list_at t v y e h = absurd cc

pub list_from_fits : (t : SplType) (v : Value) → IsTrue (fits (S.List t) v) → (vs : List Value) × (v ≡ V.List vs) × IsTrue (list_all (fits t) vs)
list_from_fits t v h = list_at t v (out-Value v) refl (level_of (S.List t) v (T.List t) (S.outs-List t) h)

-- a pair whose key and value fit
abbrev pub pair_fits : SplType → SplType → Value × Value → Bool
pair_fits k t p = fits k p.0 && fits t p.1

map_at : (k t : SplType) (v : Value) (y : Value-F Value) → out-Value v ≡ y → level_fits fits (T.Map k t) y ≡ true
    → (ps : List (Value × Value)) × (v ≡ V.Map ps) × (are_pairs ps ≡ true) × (list_all (pair_fits k t) ps ≡ true)
map_at k t v (O.Map ps) e h =
    (ps, is_value v (O.Map ps) (V.Map ps) e (V.rolls-Map ps), first_so (are_pairs ps) (list_all (pair_fits k t) ps) h, second_so (are_pairs ps) (list_all (pair_fits k t) ps) h)
map_at k t v y e h = absurd cc

pub map_from_fits : (k t : SplType) (v : Value) → IsTrue (fits (S.Map k t) v)
    → (ps : List (Value × Value)) × (v ≡ V.Map ps) × IsTrue (are_pairs ps) × IsTrue (list_all (pair_fits k t) ps)
map_from_fits k t v h = map_at k t v (out-Value v) refl (level_of (S.Map k t) v (T.Map k t) (S.outs-Map k t) h)

tuple_at : (schema : List (Named SplType)) (v : Value) (y : Value-F Value) → out-Value v ≡ y → level_fits fits (T.Tuple schema) y ≡ true → (vs : List Value) × (v ≡ V.Tuple vs) × (tuple_fits schema vs ≡ true)
tuple_at schema v (O.Tuple vs) e h = (vs, is_value v (O.Tuple vs) (V.Tuple vs) e (V.rolls-Tuple vs), h)
tuple_at schema v y e h = absurd cc

pub tuple_from_fits : (schema : List (Named SplType)) (v : Value) → IsTrue (fits (S.Tuple schema) v) → (vs : List Value) × (v ≡ V.Tuple vs) × IsTrue (tuple_fits schema vs)
tuple_from_fits schema v h = tuple_at schema v (out-Value v) refl (level_of (S.Tuple schema) v (T.Tuple schema) (S.outs-Tuple schema) h)

pub ruleset variants_from_fits = (int_from_fits, bool_from_fits, text_from_fits, list_from_fits, map_from_fits, tuple_from_fits)

-- ---- parts of a value that fits

pub all_at : {X : Type 0} (p : X → Bool) (xs : List X) (i : ℕ) (x : X) → IsTrue (list_all p xs) → slice_get xs i ≡ Some x → IsTrue (p x)
all_at p [] i x h e = absurd cc
all_at p (y ∷ xs) zero x h e = let s : y ≡ x = cc in ap p (sym s) ∙ first_so (p y) (list_all p xs) h
all_at p (y ∷ xs) (suc i) x h e = all_at p xs i x (second_so (p y) (list_all p xs) h) e

pub part_fits : (schema : List (Named SplType)) (vs : List Value) (i : ℕ) (a : Named SplType) (v : Value) → IsTrue (tuple_fits schema vs)
    → slice_get schema i ≡ Some a → slice_get vs i ≡ Some v → IsTrue (fits a.kind v)
part_fits [] vs i a v h e f = absurd cc
part_fits (b ∷ schema) [] i a v h e f = absurd cc
part_fits (b ∷ schema) (w ∷ vs) zero a v h e f =
    let s : b ≡ a = cc in let t : w ≡ v = cc in
    (λ i. fits (sym s i).kind (sym t i)) ∙ first_so (fits b.kind w) (tuple_fits schema vs) h
part_fits (b ∷ schema) (w ∷ vs) (suc i) a v h e f = part_fits schema vs i a v (second_so (fits b.kind w) (tuple_fits schema vs) h) e f

pub get_fits : (k t : SplType) (ps : List (Value × Value)) (key v : Value) → IsTrue (list_all (pair_fits k t) ps) → pairs_get ps key ≡ Some v → IsTrue (fits t v)
get_fits k t [] key v h e = absurd cc
get_fits k t (p ∷ ps) key v h e =
    elim (eq_by_cmp value_cmp key p.0) as (λ b. cond b (Some p.1) (pairs_get ps key) ≡ Some v → IsTrue (fits t v)) [
      | true ↦ λ (is : Some p.1 ≡ Some v). let s : p.1 ≡ v = cc in ap (fits t) (sym s) ∙ second_so (fits k p.0) (fits t p.1) (first_so (pair_fits k t p) (list_all (pair_fits k t) ps) h)
      | false ↦ λ is. get_fits k t ps key v (second_so (pair_fits k t p) (list_all (pair_fits k t) ps) h) is
    ] e

-- ---- maps that change

put_all : (p : Value × Value → Bool) (k v : Value) (ps : List (Value × Value)) → IsTrue (list_all p ps) → IsTrue (p (k, v)) → IsTrue (list_all p (pairs_put ps k v))
put_all p k v [] h e = both_true e refl
put_all p k v (q ∷ ps) h e =
    elim (value_cmp k q.0) as (λ r. value_cmp k q.0 ≡ r → list_all p (by_order r ((k, v) ∷ q ∷ ps) ((q.0, v) ∷ ps) (q ∷ pairs_put ps k v)) ≡ true) [
      | Less ↦ λ r. both_true e h
      | Equal ↦ λ r. both_true (ap (λ z. p (z, v)) (sym (value_cmp-IsAntisymmetric k q.0 r)) ∙ e) (second_so (p q) (list_all p ps) h)
      | Greater ↦ λ r. both_true (first_so (p q) (list_all p ps) h) (put_all p k v ps (second_so (p q) (list_all p ps) h) e)
    ] refl

without_all : (p : Value × Value → Bool) (k : Value) (ps : List (Value × Value)) → IsTrue (list_all p ps) → IsTrue (list_all p (pairs_without ps k))
without_all p k [] h = refl
without_all p k (q ∷ ps) h =
    let rest = without_all p k ps (second_so (p q) (list_all p ps) h) in
    elim (not (eq_by_cmp value_cmp k q.0)) as (λ b. list_all p (cond b (q ∷ pairs_without ps k) (pairs_without ps k)) ≡ true) [
      | true ↦ both_true (first_so (p q) (list_all p ps) h) rest
      | false ↦ rest
    ]

pub put_fits : (k t : SplType) (ps : List (Value × Value)) (key v : Value) → IsTrue (fits (S.Map k t) (V.Map ps)) → IsTrue (fits k key) → IsTrue (fits t v)
    → IsTrue (fits (S.Map k t) (V.Map (pairs_put ps key v)))
put_fits k t ps key v h e f =
    let both : (are_pairs ps && list_all (pair_fits k t) ps) ≡ true = sym (fits_map k t ps) ∙ h in
    let sorted = first_so (are_pairs ps) (list_all (pair_fits k t) ps) both in
    let all = second_so (are_pairs ps) (list_all (pair_fits k t) ps) both in
    fits_map k t (pairs_put ps key v)
    ∙ both_true (put_are_pairs ps key v sorted) (put_all (pair_fits k t) key v ps all (both_true e f))

pub without_fits : (k t : SplType) (ps : List (Value × Value)) (key : Value) → IsTrue (fits (S.Map k t) (V.Map ps)) → IsTrue (fits (S.Map k t) (V.Map (pairs_without ps key)))
without_fits k t ps key h =
    let both : (are_pairs ps && list_all (pair_fits k t) ps) ≡ true = sym (fits_map k t ps) ∙ h in
    let sorted = first_so (are_pairs ps) (list_all (pair_fits k t) ps) both in
    let all = second_so (are_pairs ps) (list_all (pair_fits k t) ps) both in
    fits_map k t (pairs_without ps key)
    ∙ both_true (without_are_pairs ps key sorted) (without_all (pair_fits k t) key ps all)

-- ---- the default

pub default_value_is : (t : SplType) → default_value t ≡ level_default (map-SplType SplType Value default_value (out-SplType t))
default_value_is t = fold_out-SplType Value level_default t

default_at : (t : SplType) (x : SplType-F SplType) → out-SplType t ≡ x → default_value t ≡ level_default (map-SplType SplType Value default_value x)
default_at t x p = default_value_is t ∙ ap (λ z. level_default (map-SplType SplType Value default_value z)) p

pub default_int : (k : IntKind) → default_value (S.Int k) ≡ V.Int (pos 0)
default_int k = default_at (S.Int k) (T.Int k) (S.outs-Int k)

pub default_bool : default_value S.Bool ≡ V.Bool false
default_bool = default_at S.Bool T.Bool S.outs-Bool

pub default_text : default_value S.Text ≡ V.Text []
default_text = default_at S.Text T.Text S.outs-Text

pub default_list : (t : SplType) → default_value (S.List t) ≡ V.List []
default_list t = default_at (S.List t) (T.List t) (S.outs-List t)

pub default_map : (k t : SplType) → default_value (S.Map k t) ≡ V.Map []
default_map k t = default_at (S.Map k t) (T.Map k t) (S.outs-Map k t)

pub default_tuple : (schema : List (Named SplType)) → default_value (S.Tuple schema) ≡ V.Tuple (map (λ a. default_value a.kind) schema)
default_tuple schema = default_at (S.Tuple schema) (T.Tuple schema) (S.outs-Tuple schema) ∙ ap V.Tuple (kinds schema)
  where
    kinds : (schema : List (Named SplType)) → map {A = Named Value} (λ a. a.kind) (map {A = Named SplType} (λ a. record { name = a.name; kind = default_value a.kind }) schema) ≡ map (λ a. default_value a.kind) schema
    kinds [] = refl
    kinds (a ∷ schema) = ap (λ l. default_value a.kind ∷ l) (kinds schema)

pub ruleset default_laws = (default_int, default_bool, default_text, default_list, default_map, default_tuple)

abbrev DefaultFits : SplType → Type 0
DefaultFits t = IsTrue (fits t (default_value t))

zero_of_kind : (k : IntKind) → kind_holds k (pos 0) ≡ true
zero_of_kind I8 = refl
zero_of_kind I16 = refl
zero_of_kind I32 = refl
zero_of_kind I64 = refl
zero_of_kind U8 = refl
zero_of_kind U16 = refl
zero_of_kind U32 = refl
zero_of_kind U64 = refl

tuple_of_defaults : (schema : List (Named SplType)) → AllByRecursion (λ a. DefaultFits a.kind) schema → tuple_fits schema (map (λ a. default_value a.kind) schema) ≡ true
tuple_of_defaults [] h = refl
tuple_of_defaults (a ∷ schema) h = λ i. h.0 i && tuple_of_defaults schema h.1 i

default_steps : TypeSteps DefaultFits
default_steps = record {
  int = λ k. ap (fits (S.Int k)) (default_int k) ∙ fits_int k (pos 0) ∙ zero_of_kind k;
  bool = ap (fits S.Bool) default_bool ∙ fits_bool false;
  text = ap (fits S.Text) default_text ∙ fits_text [];
  list = λ t h. ap (fits (S.List t)) (default_list t) ∙ fits_list t [];
  map_of = λ k t h g. ap (fits (S.Map k t)) (default_map k t) ∙ fits_map k t [];
  tuple = λ schema h.
      ap (fits (S.Tuple schema)) (default_tuple schema)
      ∙ fits_tuple schema (map (λ a. default_value a.kind) schema)
      ∙ tuple_of_defaults schema h;
}

pub default_fits : (t : SplType) → IsTrue (fits t (default_value t))
default_fits = type_ind DefaultFits default_steps
