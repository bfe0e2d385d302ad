-- The derived `==` of types says whether they are equal.
use Rattle.std.specs.Prelude.{◌≡◌, ◌↔◌, IsTrue, Bool, true, false, ◌&&◌, List, [], ◌∷◌, nat_eq}
use Rattle.std.specs.List.{AllByRecursion}
use Rattle.std.specs.Cmp.{first_so, second_so}
use Rattle.std.specs.Cmp.Lexicographic.{pointwise, bytes_decides}
use Rattle.std.proofs.Common.{refl, sym, ap, ◌∙◌}
use Rattle.spl_value.specs.declared.types.IntKind.{IntKind}
use Rattle.spl_value.specs.declared.types.Named.{Named}
use Rattle.spl_value.specs.declared.types.SplType.{SplType}
use Rattle.spl_value.specs.declared.types.SplType.TheVariants as S
use Rattle.spl_value.specs.declared.types.SplType.TheOpen as T
use Rattle.spl_value.specs.declared.types.SplType.TheOpen.{SplType-F}
use Rattle.spl_value.specs.declared.types.SplType.TheViews.{out-SplType, roll-SplType, roll-out-SplType, out-roll-SplType}
use Rattle.spl_value.specs.contracts.types.IntKindPartialEq.TheImpl as KindEq
use Rattle.spl_value.specs.contracts.types.SplTypePartialEq.TheImpl as Derived
use Rattle.spl_value.specs.contracts.types.SplTypeEq.TheImpl.Laws as EqLaws
use Rattle.spl_value.specs.declared.types.IntKind.TheVariants.{I8, I16, I32, I64, U8, U16, U32, U64}
use Rattle.spl_value.specs.contracts.types.SplTypePartialEq.TheImpl.Laws as DerivedLaws
use Rattle.spl_value.proofs.Induction.{TypeSteps, type_ind}

-- one level of two types, whose parts are compared by E
abbrev level_eq : {A B : Type 0} → (A → B → Bool) → SplType-F A → SplType-F B → Bool
level_eq E (T.Int k) (T.Int l) = (KindEq.ghosts).eq k l
level_eq E T.Bool T.Bool = true
level_eq E T.Text T.Text = true
level_eq E (T.List t) (T.List u) = E t u
level_eq E (T.Map k t) (T.Map l u) = E k l && E t u
level_eq E (T.Tuple xs) (T.Tuple ys) = pointwise (λ a b. pointwise nat_eq a.name b.name && E a.kind b.kind) xs ys
level_eq E _ _ = false

derived_at : (x y : SplType-F SplType) → DerivedLaws.unfolded (roll-SplType x) (roll-SplType y) ≡ level_eq (Derived.ghosts).eq x y
derived_at (T.Int k) (T.Int l) = rw (out-roll-SplType (T.Int k), out-roll-SplType (T.Int l)) refl
derived_at (T.Map k t) (T.Map l u) = rw (out-roll-SplType (T.Map k t), out-roll-SplType (T.Map l u)) refl
derived_at (T.Tuple k) (T.Tuple l) = rw (out-roll-SplType (T.Tuple k), out-roll-SplType (T.Tuple l)) refl
derived_at (T.List k) (T.List l) = rw (out-roll-SplType (T.List k), out-roll-SplType (T.List l)) refl
derived_at T.Bool T.Bool = rw (out-roll-SplType T.Bool) refl
derived_at T.Text T.Text = rw (out-roll-SplType T.Text) refl
derived_at x y = rw (out-roll-SplType x, out-roll-SplType y) refl

derived_is : (t u : SplType) → (Derived.ghosts).eq t u ≡ level_eq (Derived.ghosts).eq (out-SplType t) (out-SplType u)
derived_is t u =
    DerivedLaws.is t u
    ∙ (λ i. DerivedLaws.unfolded (sym (roll-out-SplType t) i) (sym (roll-out-SplType u) i))
    ∙ derived_at (out-SplType t) (out-SplType u)

kind_same : (k l : IntKind) → (KindEq.ghosts).eq k l ≡ true → k ≡ l
kind_same I8 I8 e = refl
kind_same I16 I16 e = refl
kind_same I32 I32 e = refl
kind_same I64 I64 e = refl
kind_same U8 U8 e = refl
kind_same U16 U16 e = refl
kind_same U32 U32 e = refl
kind_same U64 U64 e = refl
kind_same k l e = absurd cc

abbrev SameFrom : {A : Type 0} → (A → A → Bool) → A → Type 0
SameFrom {A} E t = (u : A) → E t u ≡ true → t ≡ u

module _ {A : Type 0} (E : A → A → Bool) where
  schema_same : (xs : List (Named A)) → AllByRecursion (λ a. SameFrom E a.kind) xs → (ys : List (Named A))
      → pointwise (λ a b. pointwise nat_eq a.name b.name && E a.kind b.kind) xs ys ≡ true → xs ≡ ys
  schema_same [] h [] e = refl
  schema_same [] h (y ∷ ys) e = absurd cc
  schema_same (x ∷ xs) h [] e = absurd cc
  schema_same (x ∷ xs) h (y ∷ ys) e =
      let here = first_so (pointwise nat_eq x.name y.name && E x.kind y.kind) (pointwise (λ a b. pointwise nat_eq a.name b.name && E a.kind b.kind) xs ys) e in
      let rest = second_so (pointwise nat_eq x.name y.name && E x.kind y.kind) (pointwise (λ a b. pointwise nat_eq a.name b.name && E a.kind b.kind) xs ys) e in
      let name = (bytes_decides x.name y.name).0 (first_so (pointwise nat_eq x.name y.name) (E x.kind y.kind) here) in
      let kind = h.0 y.kind (second_so (pointwise nat_eq x.name y.name) (E x.kind y.kind) here) in
      λ i. record { name = name i; kind = kind i } ∷ schema_same xs h.1 ys rest i

  int_same : (k : IntKind) (y : SplType-F A) → level_eq E (T.Int k) y ≡ true → T.Int k ≡ y
  int_same k (T.Int l) e = ap T.Int (kind_same k l e)
  int_same k _ e = absurd cc

  bool_same : (y : SplType-F A) → level_eq E T.Bool y ≡ true → T.Bool ≡ y
  bool_same T.Bool e = refl
  bool_same _ e = absurd cc

  text_same : (y : SplType-F A) → level_eq E T.Text y ≡ true → T.Text ≡ y
  text_same T.Text e = refl
  text_same _ e = absurd cc

  list_same : (t : A) → SameFrom E t → (y : SplType-F A) → level_eq E (T.List t) y ≡ true → T.List t ≡ y
  list_same t h (T.List u) e = ap T.List (h u e)
  list_same t h _ e = absurd cc

  map_same : (k t : A) → SameFrom E k → SameFrom E t → (y : SplType-F A) → level_eq E (T.Map k t) y ≡ true → T.Map k t ≡ y
  map_same k t g h (T.Map l u) e = λ i. T.Map (g l (first_so (E k l) (E t u) e) i) (h u (second_so (E k l) (E t u) e) i)
  map_same k t g h _ e = absurd cc

  tuple_same : (xs : List (Named A)) → AllByRecursion (λ a. SameFrom E a.kind) xs → (y : SplType-F A) → level_eq E (T.Tuple xs) y ≡ true → T.Tuple xs ≡ y
  tuple_same xs h (T.Tuple ys) e = ap T.Tuple (schema_same xs h ys e)
  tuple_same xs h _ e = absurd cc

same_through : (t : SplType) (x : SplType-F SplType) → out-SplType t ≡ x → ((y : SplType-F SplType) → level_eq (Derived.ghosts).eq x y ≡ true → x ≡ y) → SameFrom (Derived.ghosts).eq t
same_through t x e h u s =
    sym (roll-out-SplType t)
    ∙ ap roll-SplType (e ∙ h (out-SplType u) (ap (λ z. level_eq (Derived.ghosts).eq z (out-SplType u)) (sym e) ∙ sym (derived_is t u) ∙ s))
    ∙ roll-out-SplType u

same_steps : TypeSteps (SameFrom (Derived.ghosts).eq)
same_steps = record {
  int = λ k. same_through (S.Int k) (T.Int k) (S.outs-Int k) (int_same (Derived.ghosts).eq k);
  bool = same_through S.Bool T.Bool S.outs-Bool (bool_same (Derived.ghosts).eq);
  text = same_through S.Text T.Text S.outs-Text (text_same (Derived.ghosts).eq);
  list = λ t h. same_through (S.List t) (T.List t) (S.outs-List t) (list_same (Derived.ghosts).eq t h);
  map_of = λ k t g h. same_through (S.Map k t) (T.Map k t) (S.outs-Map k t) (map_same (Derived.ghosts).eq k t g h);
  tuple = λ xs h. same_through (S.Tuple xs) (T.Tuple xs) (S.outs-Tuple xs) (tuple_same (Derived.ghosts).eq xs h);
}

type_eq-same : (t u : SplType) → (Derived.ghosts).eq t u ≡ true → t ≡ u
type_eq-same = type_ind (SameFrom (Derived.ghosts).eq) same_steps

pub type_eq : (t u : SplType) → IsTrue ((Derived.ghosts).eq t u) ↔ (t ≡ u)
type_eq t u = (type_eq-same t u, λ e. ap ((Derived.ghosts).eq t) (sym e) ∙ (EqLaws.laws-law).refl t)

pub rows_equal : (xs ys : List (Named SplType)) → S.Tuple xs ≡ S.Tuple ys → xs ≡ ys
rows_equal xs ys e = let open_equal : T.Tuple xs ≡ T.Tuple ys = sym (S.outs-Tuple xs) ∙ ap out-SplType e ∙ S.outs-Tuple ys in cc
