-- What is read of a type, by its variants.
use Rattle.std.specs.Prelude.{◌≡◌, ℕ, true, false, Bool, List, [], ◌∷◌, map, Option}
use Rattle.std.specs.Option.{option_and_then}
use Rattle.std.proofs.Common.{refl, sym, ap, ◌∙◌}
use Rattle.spl_value.specs.declared.types.IntKind.{IntKind}
use Rattle.spl_value.specs.declared.types.Named.{Named}
use Rattle.spl_value.specs.declared.types.SplType.{SplType}
use Rattle.spl_value.specs.declared.types.SplType.TheVariants as S
use Rattle.spl_value.specs.declared.types.SplType.TheOpen as T
use Rattle.spl_value.specs.declared.types.SplType.TheOpen.{SplType-F}
use Rattle.spl_value.specs.declared.types.SplType.TheViews.{out-SplType}
use Rattle.spl_value.specs.declared.types.SplType.TheFolds.{fold_out-SplType, map-SplType}
use Rattle.spl_value.specs.declared.value.Value.{Value}
use Rattle.spl_value.specs.declared.value.Value.TheVariants as V
use Rattle.txt_format.specs.steps.Bytes.{past_byte}
use Rattle.txt_format.specs.steps.Reading.{as_other, level_pair, level_read, past_equals, push, read_fields, read_int, read_list, read_map, read_pair, read_pair_of, read_text, read_truth, read_tuple, read_value}

abbrev Reader : Type 0
Reader = List ℕ → Option (Value × List ℕ)

-- what reads an attribute's type may be looked up before
fields_map : {A B : Type 0} (f : A → B) (R : B → Reader) (later : Bool) (schema : List (Named A)) (vs : List Value) (bytes : List ℕ)
    → read_fields R later (map (λ a. record { name = a.name; kind = f a.kind }) schema) vs bytes ≡ read_fields (λ a. R (f a)) later schema vs bytes
fields_map f R later [] vs bytes = refl
fields_map {A} {B} f R later (a ∷ schema) vs bytes =
    ap (λ (g : List Value → List ℕ → Option (List Value × List ℕ)).
    option_and_then (λ behind. option_and_then (λ r. g (push vs r.0) r.1) (R (f a.kind) behind)) (past_equals later a.name bytes))
    (λ i ws rest. fields_map f R true schema ws rest i)

level_read-map : {A B : Type 0} (f : A → B) (R : B → Reader) (t : SplType-F A) (bytes : List ℕ) → level_read R (map-SplType A B f t) bytes ≡ level_read (λ a. R (f a)) t bytes
level_read-map f R (T.Int k) bytes = refl
level_read-map f R T.Bool bytes = refl
level_read-map f R T.Text bytes = refl
level_read-map f R (T.List t) bytes = refl
level_read-map f R (T.Map k t) bytes = refl
level_read-map f R (T.Tuple schema) bytes =
    ap (λ (g : List ℕ → Option (List Value × List ℕ)). option_and_then (λ behind. as_other V.Tuple (g behind)) (past_byte 123 bytes))
    (λ i behind. fields_map f R false schema [] behind i)

pub read_is : (t : SplType) (bytes : List ℕ) → read_value t bytes ≡ level_read read_value (out-SplType t) bytes
read_is t bytes =
    ap (λ (g : Reader). g bytes) (fold_out-SplType Reader (level_read (λ g bytes. g bytes)) t)
    ∙ level_read-map read_value (λ (g : Reader) bytes. g bytes) (out-SplType t) bytes

read_at : (t : SplType) (bytes : List ℕ) (x : SplType-F SplType) → out-SplType t ≡ x → read_value t bytes ≡ level_read read_value x bytes
read_at t bytes x p = read_is t bytes ∙ ap (λ z. level_read read_value z bytes) p

pub read_of_int : (k : IntKind) (bytes : List ℕ) → read_value (S.Int k) bytes ≡ read_int k bytes
read_of_int k bytes = read_at (S.Int k) bytes (T.Int k) (S.outs-Int k)

pub read_of_bool : (bytes : List ℕ) → read_value S.Bool bytes ≡ read_truth bytes
read_of_bool bytes = read_at S.Bool bytes T.Bool S.outs-Bool

pub read_of_text : (bytes : List ℕ) → read_value S.Text bytes ≡ read_text bytes
read_of_text bytes = read_at S.Text bytes T.Text S.outs-Text

pub read_of_list : (t : SplType) (bytes : List ℕ) → read_value (S.List t) bytes ≡ read_list (read_value t) bytes
read_of_list t bytes = read_at (S.List t) bytes (T.List t) (S.outs-List t)

pub read_of_map : (k t : SplType) (bytes : List ℕ) → read_value (S.Map k t) bytes ≡ read_map (read_pair (read_value k) (read_value t)) bytes
read_of_map k t bytes = read_at (S.Map k t) bytes (T.Map k t) (S.outs-Map k t)

pub read_of_tuple : (schema : List (Named SplType)) (bytes : List ℕ) → read_value (S.Tuple schema) bytes ≡ read_tuple read_value schema bytes
read_of_tuple schema bytes = read_at (S.Tuple schema) bytes (T.Tuple schema) (S.outs-Tuple schema)

pub pair_of_map : (k t : SplType) (bytes : List ℕ) → read_pair_of (S.Map k t) bytes ≡ read_pair (read_value k) (read_value t) bytes
pair_of_map k t bytes = ap (λ x. level_pair x bytes) (S.outs-Map k t)

pair_readers : (k t : SplType) → read_pair (read_value k) (read_value t) ≡ read_pair_of (S.Map k t)
pair_readers k t = λ i bytes. sym (pair_of_map k t bytes) i

pub read_of_pairs : (k t : SplType) (bytes : List ℕ) → read_value (S.Map k t) bytes ≡ read_map (read_pair_of (S.Map k t)) bytes
read_of_pairs k t bytes = read_of_map k t bytes ∙ ap (λ (f : List ℕ → Option ((Value × Value) × List ℕ)). read_map f bytes) (pair_readers k t)

pub ruleset reading_laws = (read_of_int, read_of_bool, read_of_text, read_of_list, read_of_pairs, read_of_tuple, pair_of_map)
