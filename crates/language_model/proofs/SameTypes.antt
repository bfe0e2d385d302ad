-- Types that are the same are equal.
use Rattle.std.specs.Prelude.{◌≡◌, Bool, true, ◌&&◌, List, [], ◌∷◌, Some}
use Rattle.std.specs.List.{AllByRecursion}
use Rattle.std.specs.Cmp.{first_so, second_so}
use Rattle.std.specs.Cmp.Lexicographic.{pointwise, bytes_decides}
use Rattle.std.specs.Str.{bytes_eq}
use Rattle.std.proofs.Common.{refl, sym, ap, ◌∙◌}
use Rattle.spl_value.specs.declared.types.IntKind.{IntKind}
use Rattle.spl_value.specs.declared.types.Named.{Named}
use Rattle.spl_value.specs.declared.types.SplType.{SplType}
use Rattle.spl_value.specs.declared.types.SplType.TheVariants as S
use Rattle.spl_value.specs.declared.types.SplType.TheOpen as T
use Rattle.spl_value.specs.declared.types.SplType.TheOpen.{SplType-F}
use Rattle.spl_value.specs.declared.types.SplType.TheViews.{out-SplType, roll-SplType, roll-out-SplType}
use Rattle.spl_value.specs.declared.types.SplType.TheFolds.{fold_out-SplType, map-SplType}
use Rattle.spl_value.proofs.Induction.{type_ind}
use Rattle.spl_tree.specs.declared.keyword.Keyword.TheVariants as W
use Rattle.spl_tree.specs.Words.{keyword_word, keyword_of}
use Rattle.spl_tree.proofs.WordLaws.{keywords_law}
use Rattle.language_model.specs.Typing.{level_same, same_types}
use Rattle.spl_value.proofs.Lists.{pointwise-map}

level_same-map : {A B C : Type 0} (f : A → B) (R : B → C → Bool) (t : SplType-F A) (u : SplType-F C) → level_same R (map-SplType A B f t) u ≡ level_same (λ a v. R (f a) v) t u
level_same-map f R (T.Tuple xs) (T.Tuple ys) =
    pointwise-map (λ a b. bytes_eq a.name b.name && R a.kind b.kind) (λ a. record { name = a.name; kind = f a.kind }) xs ys
level_same-map f R (T.Int k) u = refl
level_same-map f R T.Bool u = refl
level_same-map f R T.Text u = refl
level_same-map f R (T.List t) u = refl
level_same-map f R (T.Map k t) u = refl
level_same-map f R (T.Tuple schema) u = refl

pub same_is : (t u : SplType) → same_types t u ≡ level_same same_types (out-SplType t) (out-SplType u)
same_is t u =
    ap (λ g. g u) (fold_out-SplType (SplType → Bool) (λ t u. level_same (λ f w. f w) t (out-SplType u)) t)
    ∙ level_same-map same_types (λ (g : SplType → Bool) w. g w) (out-SplType t) (out-SplType u)

-- what is the same as a type is that type
abbrev SameFrom : SplType → Type 0
SameFrom t = (u : SplType) → same_types t u ≡ true → t ≡ u

pub kind_same : (k l : IntKind) → bytes_eq (keyword_word (W.Int k)) (keyword_word (W.Int l)) ≡ true → k ≡ l
kind_same k l e =
    let words = (bytes_decides (keyword_word (W.Int k)) (keyword_word (W.Int l))).0 e in
    let words_same : Some (W.Int k) ≡ Some (W.Int l) = sym (keywords_law (W.Int k)) ∙ ap keyword_of words ∙ keywords_law (W.Int l) in
    cc

schema_same : (xs : List (Named SplType)) → AllByRecursion (λ a. SameFrom a.kind) xs → (ys : List (Named SplType))
    → pointwise (λ a b. bytes_eq a.name b.name && same_types a.kind b.kind) xs ys ≡ true → xs ≡ ys
schema_same [] h [] e = refl
schema_same [] h (y ∷ ys) e = absurd cc
schema_same (x ∷ xs) h [] e = absurd cc
schema_same (x ∷ xs) h (y ∷ ys) e =
    let first = first_so (bytes_eq x.name y.name && same_types x.kind y.kind) (pointwise (λ a b. bytes_eq a.name b.name && same_types a.kind b.kind) xs ys) e in
    let rest = second_so (bytes_eq x.name y.name && same_types x.kind y.kind) (pointwise (λ a b. bytes_eq a.name b.name && same_types a.kind b.kind) xs ys) e in
    let name = (bytes_decides x.name y.name).0 (first_so (bytes_eq x.name y.name) (same_types x.kind y.kind) first) in
    let kind = h.0 y.kind (second_so (bytes_eq x.name y.name) (same_types x.kind y.kind) first) in
    λ i. record { name = name i; kind = kind i } ∷ schema_same xs h.1 ys rest i

pub int_same : (k : IntKind) (u : SplType-F SplType) → level_same same_types (T.Int k) u ≡ true → T.Int k ≡ u
int_same k (T.Int l) e = ap T.Int (kind_same k l e)
int_same k _ e = absurd cc

pub bool_same : (u : SplType-F SplType) → level_same same_types T.Bool u ≡ true → T.Bool ≡ u
bool_same T.Bool e = refl
bool_same _ e = absurd cc

pub text_same : (u : SplType-F SplType) → level_same same_types T.Text u ≡ true → T.Text ≡ u
text_same T.Text e = refl
text_same _ e = absurd cc

list_same : (t : SplType) → SameFrom t → (u : SplType-F SplType) → level_same same_types (T.List t) u ≡ true → T.List t ≡ u
list_same t h (T.List u) e = ap T.List (h u e)
list_same t h _ e = absurd cc

map_same : (k t : SplType) → SameFrom k → SameFrom t → (u : SplType-F SplType) → level_same same_types (T.Map k t) u ≡ true → T.Map k t ≡ u
map_same k t g h (T.Map l u) e = λ i. T.Map (g l (first_so (same_types k l) (same_types t u) e) i) (h u (second_so (same_types k l) (same_types t u) e) i)
map_same k t g h _ e = absurd cc

tuple_same : (xs : List (Named SplType)) → AllByRecursion (λ a. SameFrom a.kind) xs → (u : SplType-F SplType) → level_same same_types (T.Tuple xs) u ≡ true → T.Tuple xs ≡ u
tuple_same xs h (T.Tuple ys) e = ap T.Tuple (schema_same xs h ys e)
tuple_same xs h _ e = absurd cc

same_through : (t : SplType) (x : SplType-F SplType) → out-SplType t ≡ x → ((y : SplType-F SplType) → level_same same_types x y ≡ true → x ≡ y) → SameFrom t
same_through t x e h u s =
    sym (roll-out-SplType t)
    ∙ ap roll-SplType (e ∙ h (out-SplType u) (ap (λ z. level_same same_types z (out-SplType u)) (sym e) ∙ sym (same_is t u) ∙ s))
    ∙ roll-out-SplType u

pub equal_from_same : (t u : SplType) → same_types t u ≡ true → t ≡ u
equal_from_same = type_ind SameFrom (record {
  int = λ k. same_through (S.Int k) (T.Int k) (S.outs-Int k) (int_same k);
  bool = same_through S.Bool T.Bool S.outs-Bool bool_same;
  text = same_through S.Text T.Text S.outs-Text text_same;
  list = λ t h. same_through (S.List t) (T.List t) (S.outs-List t) (list_same t h);
  map_of = λ k t g h. same_through (S.Map k t) (T.Map k t) (S.outs-Map k t) (map_same k t g h);
  tuple = λ xs h. same_through (S.Tuple xs) (T.Tuple xs) (S.outs-Tuple xs) (tuple_same xs h);
})
