-- The type of an expression by those of its parts, an equation for each form of expression. The types that the definition
-- calls the same are those that are equal.
use Rattle.std.specs.Prelude.{◌≡◌, ◌↔◌, IsTrue, ℕ, Bool, true, ◌&&◌, List, [], ◌∷◌}
use Rattle.std.specs.List.{AllByRecursion}
use Rattle.std.specs.Cmp.{first_so, second_so}
use Rattle.std.specs.Cmp.Lexicographic.{pointwise, bytes_decides}
use Rattle.std.specs.Str.{bytes_eq}
use Rattle.std.proofs.Common.{refl, sym, ap, ◌∙◌}
use Rattle.spl_value.specs.declared.types.Named.{Named}
use Rattle.spl_value.specs.declared.types.SplType.{SplType}
use Rattle.spl_value.specs.declared.types.SplType.TheVariants as S
use Rattle.spl_value.specs.declared.types.SplType.TheOpen as T
use Rattle.spl_value.specs.declared.types.SplType.TheOpen.{SplType-F}
use Rattle.spl_value.specs.declared.types.SplType.TheViews.{out-SplType, roll-SplType, roll-out-SplType}
use Rattle.spl_value.specs.declared.types.SplType.TheFolds.{map-SplType}
use Rattle.spl_value.proofs.Induction.{TypeSteps, type_ind}
use Rattle.spl_tree.specs.declared.token.Number.{Number}
use Rattle.spl_tree.specs.declared.keyword.Keyword.TheVariants as W
use Rattle.spl_tree.specs.Words.{keyword_word}
use Rattle.spl_tree.specs.Trees.{Expr}
use Rattle.spl_tree.specs.declared.expression.Placed.{Placed}
use Rattle.spl_tree.specs.declared.expression.Field.{Field}
use Rattle.spl_tree.specs.declared.expression.Step.{Step}
use Rattle.spl_tree.specs.declared.expression.Step.TheVariants as N
use Rattle.spl_tree.specs.declared.expression.PrefixOperator.{PrefixOperator}
use Rattle.spl_tree.specs.declared.expression.BinaryOperator.{BinaryOperator}
use Rattle.spl_tree.specs.declared.expression.ExprKind.{ExprKind}
use Rattle.spl_tree.specs.declared.expression.ExprKind.TheVariants as V
use Rattle.spl_tree.specs.declared.expression.ExprKind.TheOpen as X
use Rattle.spl_tree.specs.declared.expression.ExprKind.TheOpen.{ExprKind-F}
use Rattle.spl_tree.specs.declared.expression.ExprKind.TheViews.{out-ExprKind}
use Rattle.spl_tree.specs.declared.expression.ExprKind.TheFolds.{map-ExprKind}
use Rattle.language_model.specs.declared.scope.Scope.{Scope}
use Rattle.language_model.specs.Typing.{level_same, same_types, Wanted, Part, level_typed}
use Rattle.language_model.specs.TypingLaws.{entry_parts, field_parts, parted, parts, step_parts, part}
use Rattle.language_model.proofs.ReadingLaws.{para_at, steps_of}
use Rattle.language_model.proofs.SameTypes.{equal_from_same, same_is, int_same, bool_same, text_same}
use Rattle.spl_value.proofs.Bools.{both_true}

-- ---- one equation for each form of expression

pub typed_at : (k : ExprKind) (x : ExprKind-F ExprKind) → out-ExprKind k ≡ x → (part k).1 ≡ level_typed (map-ExprKind ExprKind Part part x)
typed_at k x e = para_at level_typed k x e

steps_mapped : (base : Expr) (ss : List (Step Expr)) → steps_of (map-ExprKind ExprKind Part part (X.Select base ss)) ≡ step_parts ss
steps_mapped base [] = refl
steps_mapped base (N.Member m ∷ ss) = ap (λ ys. N.Member m ∷ ys) (steps_mapped base ss)
steps_mapped base (N.Index e ∷ ss) = ap (λ ys. N.Index (parted e) ∷ ys) (steps_mapped base ss)

pub name_typed : (name : List ℕ) (at : ℕ) (scope : Scope) (wanted : Wanted) → (part (V.Name name)).1 at scope wanted ≡ level_typed (X.Name name) at scope wanted
name_typed name at scope wanted = ap (λ f. f at scope wanted) (typed_at (V.Name name) (X.Name name) (V.outs-Name name))

pub dollar_typed : (name : List ℕ) (at : ℕ) (scope : Scope) (wanted : Wanted) → (part (V.Dollar name)).1 at scope wanted ≡ level_typed (X.Dollar name) at scope wanted
dollar_typed name at scope wanted = ap (λ f. f at scope wanted) (typed_at (V.Dollar name) (X.Dollar name) (V.outs-Dollar name))

pub number_typed : (n : Number) (at : ℕ) (scope : Scope) (wanted : Wanted) → (part (V.Number n)).1 at scope wanted ≡ level_typed (X.Number n) at scope wanted
number_typed n at scope wanted = ap (λ f. f at scope wanted) (typed_at (V.Number n) (X.Number n) (V.outs-Number n))

pub text_typed : (bytes : List ℕ) (at : ℕ) (scope : Scope) (wanted : Wanted) → (part (V.Text bytes)).1 at scope wanted ≡ level_typed (X.Text bytes) at scope wanted
text_typed bytes at scope wanted = ap (λ f. f at scope wanted) (typed_at (V.Text bytes) (X.Text bytes) (V.outs-Text bytes))

pub bool_typed : (b : Bool) (at : ℕ) (scope : Scope) (wanted : Wanted) → (part (V.Bool b)).1 at scope wanted ≡ level_typed (X.Bool b) at scope wanted
bool_typed b at scope wanted = ap (λ f. f at scope wanted) (typed_at (V.Bool b) (X.Bool b) (V.outs-Bool b))

pub group_typed : (e : Expr) (at : ℕ) (scope : Scope) (wanted : Wanted) → (part (V.Group e)).1 at scope wanted ≡ level_typed (X.Group (parted e)) at scope wanted
group_typed e at scope wanted = ap (λ f. f at scope wanted) (typed_at (V.Group e) (X.Group e) (V.outs-Group e))

pub list_typed : (es : List Expr) (at : ℕ) (scope : Scope) (wanted : Wanted) → (part (V.List es)).1 at scope wanted ≡ level_typed (X.List (parts es)) at scope wanted
list_typed es at scope wanted = ap (λ f. f at scope wanted) (typed_at (V.List es) (X.List es) (V.outs-List es))

pub map_typed : (es : List (Expr × Expr)) (at : ℕ) (scope : Scope) (wanted : Wanted) → (part (V.Map es)).1 at scope wanted ≡ level_typed (X.Map (entry_parts es)) at scope wanted
map_typed es at scope wanted = ap (λ f. f at scope wanted) (typed_at (V.Map es) (X.Map es) (V.outs-Map es))

pub tuple_typed : (fs : List (Field Expr)) (at : ℕ) (scope : Scope) (wanted : Wanted) → (part (V.Tuple fs)).1 at scope wanted ≡ level_typed (X.Tuple (field_parts fs)) at scope wanted
tuple_typed fs at scope wanted = ap (λ f. f at scope wanted) (typed_at (V.Tuple fs) (X.Tuple fs) (V.outs-Tuple fs))

pub call_typed : (name : List ℕ) (es : List Expr) (at : ℕ) (scope : Scope) (wanted : Wanted) → (part (V.Call name es)).1 at scope wanted ≡ level_typed (X.Call name (parts es)) at scope wanted
call_typed name es at scope wanted = ap (λ f. f at scope wanted) (typed_at (V.Call name es) (X.Call name es) (V.outs-Call name es))

pub select_typed : (base : Expr) (ss : List (Step Expr)) (at : ℕ) (scope : Scope) (wanted : Wanted) → (part (V.Select base ss)).1 at scope wanted ≡ level_typed (X.Select (parted base) (step_parts ss)) at scope wanted
select_typed base ss at scope wanted =
    ap (λ f. f at scope wanted) (typed_at (V.Select base ss) (X.Select base ss) (V.outs-Select base ss) ∙ ap (λ ys. level_typed (X.Select (parted base) ys)) (steps_mapped base ss))

pub unary_typed : (ps : List (Placed PrefixOperator)) (e : Expr) (at : ℕ) (scope : Scope) (wanted : Wanted) → (part (V.Unary ps e)).1 at scope wanted ≡ level_typed (X.Unary ps (parted e)) at scope wanted
unary_typed ps e at scope wanted = ap (λ f. f at scope wanted) (typed_at (V.Unary ps e) (X.Unary ps e) (V.outs-Unary ps e))

pub binary_typed : (op : BinaryOperator) (l r : Expr) (at : ℕ) (scope : Scope) (wanted : Wanted) → (part (V.Binary op l r)).1 at scope wanted ≡ level_typed (X.Binary op (parted l) (parted r)) at scope wanted
binary_typed op l r at scope wanted = ap (λ f. f at scope wanted) (typed_at (V.Binary op l r) (X.Binary op l r) (V.outs-Binary op l r))

pub conditional_typed : (c a b : Expr) (at : ℕ) (scope : Scope) (wanted : Wanted) → (part (V.Conditional c a b)).1 at scope wanted ≡ level_typed (X.Conditional (parted c) (parted a) (parted b)) at scope wanted
conditional_typed c a b at scope wanted = ap (λ f. f at scope wanted) (typed_at (V.Conditional c a b) (X.Conditional c a b) (V.outs-Conditional c a b))

pub ruleset typing_laws = (name_typed, dollar_typed, number_typed, text_typed, bool_typed, group_typed, list_typed, map_typed, tuple_typed, call_typed, select_typed, unary_typed, binary_typed, conditional_typed)

-- ---- the same type

-- one level of the first type, whose parts are tests
tested : (x y : SplType-F SplType) → level_same (λ f w. f w) (map-SplType SplType (SplType → Bool) same_types x) y ≡ level_same same_types x y
tested (T.Int k) (T.Int l) = refl
tested (T.Int k) y = refl
tested T.Bool y = refl
tested T.Text y = refl
tested (T.List t) (T.List u) = refl
tested (T.List t) y = refl
tested (T.Map k t) (T.Map l u) = refl
tested (T.Map k t) y = refl
tested (T.Tuple xs) (T.Tuple ys) = attributes xs ys
  where
    attributes : (xs ys : List (Named SplType))
        → level_same (λ f w. f w) (map-SplType SplType (SplType → Bool) same_types (T.Tuple xs)) (T.Tuple ys) ≡ level_same same_types (T.Tuple xs) (T.Tuple ys)
    attributes [] [] = refl
    attributes [] (y ∷ ys) = refl
    attributes (x ∷ xs) [] = refl
    attributes (x ∷ xs) (y ∷ ys) = ap (λ b. (bytes_eq x.name y.name && same_types x.kind y.kind) && b) (attributes xs ys)
tested (T.Tuple xs) y = refl

abbrev Equal : SplType → Type 0
Equal t = (u : SplType) → same_types t u ≡ true → t ≡ u

attributes_equal : (xs : List (Named SplType)) → AllByRecursion (λ a. Equal a.kind) xs → (ys : List (Named SplType))
    → pointwise (λ a b. bytes_eq a.name b.name && same_types a.kind b.kind) xs ys ≡ true → xs ≡ ys
attributes_equal [] h [] e = refl
attributes_equal [] h (y ∷ ys) e = absurd cc
attributes_equal (x ∷ xs) h [] e = absurd cc
attributes_equal (x ∷ xs) h (y ∷ ys) e =
    let here = first_so (bytes_eq x.name y.name && same_types x.kind y.kind) (pointwise (λ a b. bytes_eq a.name b.name && same_types a.kind b.kind) xs ys) e in
    let rest = second_so (bytes_eq x.name y.name && same_types x.kind y.kind) (pointwise (λ a b. bytes_eq a.name b.name && same_types a.kind b.kind) xs ys) e in
    let name = (bytes_decides x.name y.name).0 (first_so (bytes_eq x.name y.name) (same_types x.kind y.kind) here) in
    let kind = h.0 y.kind (second_so (bytes_eq x.name y.name) (same_types x.kind y.kind) here) in
    λ i. record { name = name i; kind = kind i } ∷ attributes_equal xs h.1 ys rest i

list_equal : (t : SplType) → Equal t → (y : SplType-F SplType) → level_same same_types (T.List t) y ≡ true → T.List t ≡ y
list_equal t h (T.List u) e = ap T.List (h u e)
list_equal t h _ e = absurd cc

map_equal : (k t : SplType) → Equal k → Equal t → (y : SplType-F SplType) → level_same same_types (T.Map k t) y ≡ true → T.Map k t ≡ y
map_equal k t g h (T.Map l u) e = λ i. T.Map (g l (first_so (same_types k l) (same_types t u) e) i) (h u (second_so (same_types k l) (same_types t u) e) i)
map_equal k t g h _ e = absurd cc

tuple_equal : (xs : List (Named SplType)) → AllByRecursion (λ a. Equal a.kind) xs → (y : SplType-F SplType) → level_same same_types (T.Tuple xs) y ≡ true → T.Tuple xs ≡ y
tuple_equal xs h (T.Tuple ys) e = ap T.Tuple (attributes_equal xs h ys e)
tuple_equal xs h _ e = absurd cc

equal_through : (t : SplType) (x : SplType-F SplType) → out-SplType t ≡ x → ((y : SplType-F SplType) → level_same same_types x y ≡ true → x ≡ y) → Equal t
equal_through t x e h u s =
    sym (roll-out-SplType t)
    ∙ ap roll-SplType (e ∙ h (out-SplType u) (ap (λ z. level_same same_types z (out-SplType u)) (sym e) ∙ sym (same_is t u) ∙ s))
    ∙ roll-out-SplType u

equal_steps : TypeSteps Equal
equal_steps = record {
  int = λ k. equal_through (S.Int k) (T.Int k) (S.outs-Int k) (int_same k);
  bool = equal_through S.Bool T.Bool S.outs-Bool bool_same;
  text = equal_through S.Text T.Text S.outs-Text text_same;
  list = λ t h. equal_through (S.List t) (T.List t) (S.outs-List t) (list_equal t h);
  map_of = λ k t g h. equal_through (S.Map k t) (T.Map k t) (S.outs-Map k t) (map_equal k t g h);
  tuple = λ xs h. equal_through (S.Tuple xs) (T.Tuple xs) (S.outs-Tuple xs) (tuple_equal xs h);
}

abbrev Itself : SplType → Type 0
Itself t = same_types t t ≡ true

attributes_themselves : (xs : List (Named SplType)) → AllByRecursion (λ a. Itself a.kind) xs
    → pointwise (λ a b. bytes_eq a.name b.name && same_types a.kind b.kind) xs xs ≡ true
attributes_themselves [] h = refl
attributes_themselves (x ∷ xs) h = rw ((bytes_decides x.name x.name).1 refl, h.0) (attributes_themselves xs h.1)

itself_through : (t : SplType) (x : SplType-F SplType) → out-SplType t ≡ x → level_same same_types x x ≡ true → Itself t
itself_through t x e h = same_is t t ∙ (λ i. level_same same_types (e i) (e i)) ∙ h

itself_steps : TypeSteps Itself
itself_steps = record {
  int = λ k. itself_through (S.Int k) (T.Int k) (S.outs-Int k) ((bytes_decides (keyword_word (W.Int k)) (keyword_word (W.Int k))).1 refl);
  bool = itself_through S.Bool T.Bool S.outs-Bool refl;
  text = itself_through S.Text T.Text S.outs-Text refl;
  list = λ t h. itself_through (S.List t) (T.List t) (S.outs-List t) h;
  map_of = λ k t g h. itself_through (S.Map k t) (T.Map k t) (S.outs-Map k t) (rw (g, h) refl);
  tuple = λ xs h. itself_through (S.Tuple xs) (T.Tuple xs) (S.outs-Tuple xs) (attributes_themselves xs h);
}

types_themselves : (t : SplType) → same_types t t ≡ true
types_themselves = type_ind Itself itself_steps

-- two types are the same where they are equal
pub same_types_law : (t u : SplType) → IsTrue (same_types t u) ↔ (t ≡ u)
same_types_law t u = (equal_from_same t u, λ e. ap (same_types t) (sym e) ∙ types_themselves t)

-- a test that holds where two types are equal is that of the definition
pub same_as : (t u : SplType) (b : Bool) → (IsTrue b ↔ (t ≡ u)) → b ≡ same_types t u
same_as t u b h = both_true b (same_types t u) (t ≡ u) h (same_types_law t u)
