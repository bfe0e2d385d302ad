-- The text of a value, by its variants.
use Rattle.std.specs.Prelude.{◌≡◌, ℕ, ℤ, Bool, List, [], ◌∷◌, ◌++◌, map}
use Rattle.std.specs.Fmt.{signed_decimal}
use Rattle.std.proofs.Common.{refl, ap, ◌∙◌}
use Rattle.spl_value.specs.declared.types.IntKind.{IntKind}
use Rattle.spl_value.specs.declared.types.Named.{Named}
use Rattle.spl_value.specs.declared.types.SplType.{SplType}
use Rattle.spl_value.specs.declared.types.SplType.TheVariants as S
use Rattle.spl_value.specs.declared.types.SplType.TheOpen as T
use Rattle.spl_value.specs.declared.types.SplType.TheOpen.{SplType-F}
use Rattle.spl_value.specs.declared.types.SplType.TheViews.{out-SplType}
use Rattle.spl_value.specs.declared.types.SplType.TheFolds.{fold_out-SplType, map-SplType}
use Rattle.spl_value.specs.declared.value.Value.{Value}
use Rattle.spl_value.specs.declared.value.Value.TheVariants as V
use Rattle.spl_value.specs.declared.value.Value.TheOpen as O
use Rattle.spl_value.specs.declared.value.Value.TheOpen.{Value-F}
use Rattle.spl_value.specs.declared.value.Value.TheViews.{out-Value}
use Rattle.txt_format.specs.TxtText.{attribute_texts, bracketed, level_text, pair_text, quoted, truth_text, txt_text, value_text}

texts-map : {A B : Type 0} (f : A → B) (R : B → Value → List ℕ) (schema : List (Named A)) (vs : List Value)
    → attribute_texts R (map (λ a. record { name = a.name; kind = f a.kind }) schema) vs ≡ attribute_texts (λ a. R (f a)) schema vs
texts-map f R [] vs = refl
texts-map f R (a ∷ schema) [] = refl
texts-map f R (a ∷ schema) (v ∷ vs) = ap (λ ps. (a.name ++ 61 ∷ R (f a.kind) v) ∷ ps) (texts-map f R schema vs)

level_text-map : {A B : Type 0} (f : A → B) (R : B → Value → List ℕ) (t : SplType-F A) (x : Value-F Value) → level_text R (map-SplType A B f t) x ≡ level_text (λ a v. R (f a) v) t x
level_text-map f R (T.Int k) (O.Int n) = refl
level_text-map f R T.Bool (O.Bool b) = refl
level_text-map f R T.Text (O.Text bytes) = refl
level_text-map f R (T.List t) (O.List vs) = refl
level_text-map f R (T.Map k t) (O.Map ps) = refl
level_text-map f R (T.Tuple schema) (O.Tuple vs) = ap (bracketed 123 125) (texts-map f R schema vs)
level_text-map f R (T.Int k) x = refl
level_text-map f R T.Bool x = refl
level_text-map f R T.Text x = refl
level_text-map f R (T.List t) x = refl
level_text-map f R (T.Map k t) x = refl
level_text-map f R (T.Tuple schema) x = refl

pub text_is : (t : SplType) (v : Value) → value_text t v ≡ level_text value_text (out-SplType t) (out-Value v)
text_is t v =
    ap (λ g. g v) (fold_out-SplType (Value → List ℕ) (λ t v. level_text (λ g u. g u) t (out-Value v)) t)
    ∙ level_text-map value_text (λ (g : Value → List ℕ) u. g u) (out-SplType t) (out-Value v)

text_at : (t : SplType) (v : Value) (x : SplType-F SplType) (y : Value-F Value) → out-SplType t ≡ x → out-Value v ≡ y → value_text t v ≡ level_text value_text x y
text_at t v x y p q = text_is t v ∙ (λ i. level_text value_text (p i) (q i))

pub text_of_int : (k : IntKind) (n : ℤ) → value_text (S.Int k) (V.Int n) ≡ signed_decimal n
text_of_int k n = text_at (S.Int k) (V.Int n) (T.Int k) (O.Int n) (S.outs-Int k) (V.outs-Int n)

pub text_of_bool : (b : Bool) → value_text S.Bool (V.Bool b) ≡ truth_text b
text_of_bool b = text_at S.Bool (V.Bool b) T.Bool (O.Bool b) S.outs-Bool (V.outs-Bool b)

pub text_of_text : (bytes : List ℕ) → value_text S.Text (V.Text bytes) ≡ quoted bytes
text_of_text bytes = text_at S.Text (V.Text bytes) T.Text (O.Text bytes) S.outs-Text (V.outs-Text bytes)

pub text_of_list : (t : SplType) (vs : List Value) → value_text (S.List t) (V.List vs) ≡ bracketed 91 93 (map (value_text t) vs)
text_of_list t vs = text_at (S.List t) (V.List vs) (T.List t) (O.List vs) (S.outs-List t) (V.outs-List vs)

pub text_of_map : (k t : SplType) (ps : List (Value × Value)) → value_text (S.Map k t) (V.Map ps) ≡ bracketed 123 125 (map (pair_text (value_text k) (value_text t)) ps)
text_of_map k t ps = text_at (S.Map k t) (V.Map ps) (T.Map k t) (O.Map ps) (S.outs-Map k t) (V.outs-Map ps)

pub text_of_tuple : (schema : List (Named SplType)) (vs : List Value) → value_text (S.Tuple schema) (V.Tuple vs) ≡ txt_text schema vs
text_of_tuple schema vs = text_at (S.Tuple schema) (V.Tuple vs) (T.Tuple schema) (O.Tuple vs) (S.outs-Tuple schema) (V.outs-Tuple vs)

pub ruleset text_laws = (text_of_int, text_of_bool, text_of_text, text_of_list, text_of_map, text_of_tuple)
