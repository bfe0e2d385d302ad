-- The order of values by variants, and its laws.
use Rattle.std.specs.Prelude.{◌≡◌, ◌↔◌, ℕ, ℤ, Bool, true, false, IsTrue, List, [], ◌∷◌, map}
use Rattle.std.specs.List.{AllByRecursion}
use Rattle.std.proofs.Common.{refl, sym, ap, subst, ◌∙◌}
use Rattle.std.specs.declared.cmp.Ordering.{Ordering}
use Rattle.std.specs.declared.cmp.Ordering.TheVariants.{Less, Equal, Greater}
use Rattle.std.specs.Ordering.{int_cmp, bool_cmp, nat_cmp, ordering_then, is_eq}
use Rattle.std.specs.Cmp.{IsTotalOrder, tied_itself}
use Rattle.std.specs.Cmp.Lexicographic.{slice_cmp}
use Rattle.std.specs.FinMap.{IsAntisymmetric, nat_cmp-IsAntisymmetric, int_cmp-IsAntisymmetric, slice_cmp-IsAntisymmetric}
use Rattle.spl_value.specs.declared.value.Value.{Value}
use Rattle.spl_value.specs.declared.value.Value.TheVariants as V
use Rattle.spl_value.specs.declared.value.Value.TheOpen as O
use Rattle.spl_value.specs.declared.value.Value.TheOpen.{Value-F}
use Rattle.spl_value.specs.declared.value.Value.TheViews.{out-Value, roll-Value, roll-out-Value, out-roll-Value}
use Rattle.spl_value.specs.declared.value.Value.TheFolds.{fold_out-Value, map-Value}
use Rattle.spl_value.specs.contracts.value.ValueOrd.TheImpl as Derived
use Rattle.spl_value.specs.contracts.value.ValueOrd.TheImpl.Laws as DerivedLaws
use Rattle.spl_value.specs.contracts.value.ValuePartialEq.TheImpl as DerivedEq
use Rattle.spl_value.proofs.Induction.{ValueSteps, value_ind}
use Rattle.spl_value.specs.Order.{pair_cmp, level_cmp, value_cmp}

-- R compares values by their parts. There is one such R
abbrev IsLevelwise : (Value → Value → Ordering) → Type 0
IsLevelwise R = (v w : Value) → R v w ≡ level_cmp R (out-Value v) (out-Value w)

slice_cmp-map : {A B C : Type 0} (R : B → C → Ordering) (f : A → B) (xs : List A) (ys : List C) → slice_cmp R (map f xs) ys ≡ slice_cmp (λ x y. R (f x) y) xs ys
slice_cmp-map R f [] [] = refl
slice_cmp-map R f [] (y ∷ ys) = refl
slice_cmp-map R f (x ∷ xs) [] = refl
slice_cmp-map R f (x ∷ xs) (y ∷ ys) = ap (ordering_then (R (f x) y)) (slice_cmp-map R f xs ys)

level_cmp-map : {A B C : Type 0} (R : B → C → Ordering) (f : A → B) (x : Value-F A) (y : Value-F C) → level_cmp R (map-Value A B f x) y ≡ level_cmp (λ a c. R (f a) c) x y
level_cmp-map R f (O.List vs) (O.List ws) = slice_cmp-map R f vs ws
level_cmp-map R f (O.Map ps) (O.Map qs) = slice_cmp-map (pair_cmp R) (λ p. (f p.0, f p.1)) ps qs
level_cmp-map R f (O.Tuple vs) (O.Tuple ws) = slice_cmp-map R f vs ws
level_cmp-map R f (O.Int n) (O.Int m) = refl
level_cmp-map R f (O.Bool b) (O.Bool c) = refl
level_cmp-map R f (O.Text xs) (O.Text ys) = refl
level_cmp-map R f (O.Int n) y = refl
level_cmp-map R f (O.Bool b) y = refl
level_cmp-map R f (O.Text xs) y = refl
level_cmp-map R f (O.List vs) y = refl
level_cmp-map R f (O.Map ps) y = refl
level_cmp-map R f (O.Tuple vs) y = refl

pub value_cmp_is : (v w : Value) → value_cmp v w ≡ level_cmp value_cmp (out-Value v) (out-Value w)
value_cmp_is v w =
    ap (λ f. f w) (fold_out-Value (Value → Ordering) (λ x u. level_cmp (λ f u. f u) x (out-Value u)) v)
    ∙ level_cmp-map (λ (f : Value → Ordering) u. f u) value_cmp (out-Value v) (out-Value w)

-- ---- by variants

cmp_at : (v w : Value) (x y : Value-F Value) → out-Value v ≡ x → out-Value w ≡ y → value_cmp v w ≡ level_cmp value_cmp x y
cmp_at v w x y p q = value_cmp_is v w ∙ (λ i. level_cmp value_cmp (p i) (q i))

pub cmp_int : (n m : ℤ) → value_cmp (V.Int n) (V.Int m) ≡ int_cmp n m
cmp_int n m = cmp_at (V.Int n) (V.Int m) (O.Int n) (O.Int m) (V.outs-Int n) (V.outs-Int m)

pub cmp_bool : (b c : Bool) → value_cmp (V.Bool b) (V.Bool c) ≡ bool_cmp b c
cmp_bool b c = cmp_at (V.Bool b) (V.Bool c) (O.Bool b) (O.Bool c) (V.outs-Bool b) (V.outs-Bool c)

pub cmp_text : (xs ys : List ℕ) → value_cmp (V.Text xs) (V.Text ys) ≡ slice_cmp nat_cmp xs ys
cmp_text xs ys = cmp_at (V.Text xs) (V.Text ys) (O.Text xs) (O.Text ys) (V.outs-Text xs) (V.outs-Text ys)

pub cmp_list : (vs ws : List Value) → value_cmp (V.List vs) (V.List ws) ≡ slice_cmp value_cmp vs ws
cmp_list vs ws = cmp_at (V.List vs) (V.List ws) (O.List vs) (O.List ws) (V.outs-List vs) (V.outs-List ws)

pub cmp_map : (ps qs : List (Value × Value)) → value_cmp (V.Map ps) (V.Map qs) ≡ slice_cmp (pair_cmp value_cmp) ps qs
cmp_map ps qs = cmp_at (V.Map ps) (V.Map qs) (O.Map ps) (O.Map qs) (V.outs-Map ps) (V.outs-Map qs)

pub cmp_tuple : (vs ws : List Value) → value_cmp (V.Tuple vs) (V.Tuple ws) ≡ slice_cmp value_cmp vs ws
cmp_tuple vs ws = cmp_at (V.Tuple vs) (V.Tuple ws) (O.Tuple vs) (O.Tuple ws) (V.outs-Tuple vs) (V.outs-Tuple ws)

pub ruleset order_laws = (cmp_int, cmp_bool, cmp_text, cmp_list, cmp_map, cmp_tuple)

-- ---- the derived comparison

derived_at : (x y : Value-F Value) → DerivedLaws.unfolded (roll-Value x) (roll-Value y) ≡ level_cmp (Derived.ghosts).cmp x y
derived_at (O.Int n) (O.Int m) = rw (out-roll-Value (O.Int n), out-roll-Value (O.Int m)) refl
derived_at (O.Bool n) (O.Bool m) = rw (out-roll-Value (O.Bool n), out-roll-Value (O.Bool m)) refl
derived_at (O.Text n) (O.Text m) = rw (out-roll-Value (O.Text n), out-roll-Value (O.Text m)) refl
derived_at (O.List n) (O.List m) = rw (out-roll-Value (O.List n), out-roll-Value (O.List m)) refl
derived_at (O.Map n) (O.Map m) = rw (out-roll-Value (O.Map n), out-roll-Value (O.Map m)) refl
derived_at (O.Tuple n) (O.Tuple m) = rw (out-roll-Value (O.Tuple n), out-roll-Value (O.Tuple m)) refl
derived_at x y = rw (out-roll-Value x, out-roll-Value y) refl

derived_is : IsLevelwise (Derived.ghosts).cmp
derived_is v w =
    DerivedLaws.is v w
    ∙ (λ i. DerivedLaws.unfolded (sym (roll-out-Value v) i) (sym (roll-out-Value w) i))
    ∙ derived_at (out-Value v) (out-Value w)

module _ {A B : Type 0} (R S : A → B → Ordering) where
  abbrev SameFrom : A → Type 0
  SameFrom v = (w : B) → R v w ≡ S v w

  slice_cmp-same : (vs : List A) → AllByRecursion SameFrom vs → (ws : List B) → slice_cmp R vs ws ≡ slice_cmp S vs ws
  slice_cmp-same [] h [] = refl
  slice_cmp-same [] h (w ∷ ws) = refl
  slice_cmp-same (v ∷ vs) h [] = refl
  slice_cmp-same (v ∷ vs) h (w ∷ ws) = λ i. ordering_then (h.0 w i) (slice_cmp-same vs h.1 ws i)

  pairs_cmp-same : (ps : List (A × A)) → AllByRecursion (λ p. SameFrom p.0 × SameFrom p.1) ps → (qs : List (B × B)) → slice_cmp (pair_cmp R) ps qs ≡ slice_cmp (pair_cmp S) ps qs
  pairs_cmp-same [] h [] = refl
  pairs_cmp-same [] h (q ∷ qs) = refl
  pairs_cmp-same (p ∷ ps) h [] = refl
  pairs_cmp-same (p ∷ ps) h (q ∷ qs) = λ i. ordering_then (ordering_then (h.0.0 q.0 i) (h.0.1 q.1 i)) (pairs_cmp-same ps h.1 qs i)

  list_level-same : (vs : List A) → AllByRecursion SameFrom vs → (y : Value-F B) → level_cmp R (O.List vs) y ≡ level_cmp S (O.List vs) y
  list_level-same vs h (O.List ws) = slice_cmp-same vs h ws
  list_level-same vs h y = refl

  tuple_level-same : (vs : List A) → AllByRecursion SameFrom vs → (y : Value-F B) → level_cmp R (O.Tuple vs) y ≡ level_cmp S (O.Tuple vs) y
  tuple_level-same vs h (O.Tuple ws) = slice_cmp-same vs h ws
  tuple_level-same vs h y = refl

  map_level-same : (ps : List (A × A)) → AllByRecursion (λ p. SameFrom p.0 × SameFrom p.1) ps → (y : Value-F B) → level_cmp R (O.Map ps) y ≡ level_cmp S (O.Map ps) y
  map_level-same ps h (O.Map qs) = pairs_cmp-same ps h qs
  map_level-same ps h y = refl

  int_level-same : (n : ℤ) (y : Value-F B) → level_cmp R (O.Int n) y ≡ level_cmp S (O.Int n) y
  int_level-same n (O.Int m) = refl
  int_level-same n y = refl

  bool_level-same : (b : Bool) (y : Value-F B) → level_cmp R (O.Bool b) y ≡ level_cmp S (O.Bool b) y
  bool_level-same b (O.Bool c) = refl
  bool_level-same b y = refl

  text_level-same : (xs : List ℕ) (y : Value-F B) → level_cmp R (O.Text xs) y ≡ level_cmp S (O.Text xs) y
  text_level-same xs (O.Text ys) = refl
  text_level-same xs y = refl

module _ (R S : Value → Value → Ordering) (r : IsLevelwise R) (s : IsLevelwise S) where
  through : (v : Value) (x : Value-F Value) → out-Value v ≡ x → ((y : Value-F Value) → level_cmp R x y ≡ level_cmp S x y) → (w : Value) → R v w ≡ S v w
  through v x e h w =
      r v w ∙ ap (λ z. level_cmp R z (out-Value w)) e ∙ h (out-Value w) ∙ sym (ap (λ z. level_cmp S z (out-Value w)) e) ∙ sym (s v w)

  one_step : ValueSteps (λ v. (w : Value) → R v w ≡ S v w)
  one_step = record {
    int = λ n. through (V.Int n) (O.Int n) (V.outs-Int n) (int_level-same R S n);
    bool = λ b. through (V.Bool b) (O.Bool b) (V.outs-Bool b) (bool_level-same R S b);
    text = λ xs. through (V.Text xs) (O.Text xs) (V.outs-Text xs) (text_level-same R S xs);
    list = λ vs h. through (V.List vs) (O.List vs) (V.outs-List vs) (list_level-same R S vs h);
    map_of = λ ps h. through (V.Map ps) (O.Map ps) (V.outs-Map ps) (map_level-same R S ps h);
    tuple = λ vs h. through (V.Tuple vs) (O.Tuple vs) (V.outs-Tuple vs) (tuple_level-same R S vs h);
  }

  one_levelwise : (v w : Value) → R v w ≡ S v w
  one_levelwise = value_ind (λ v. (w : Value) → R v w ≡ S v w) one_step

pub derived_cmp : (v w : Value) → (Derived.ghosts).cmp v w ≡ value_cmp v w
derived_cmp = one_levelwise (Derived.ghosts).cmp value_cmp derived_is value_cmp_is

pub value_cmp_total : IsTotalOrder value_cmp
value_cmp_total = subst IsTotalOrder (λ i v w. derived_cmp v w i) DerivedLaws.total-law

-- ---- only equal values tie

abbrev EqualFrom : {A : Type 0} → (A → A → Ordering) → A → Type 0
EqualFrom {A} R v = (w : A) → R v w ≡ Equal → v ≡ w

then_Equal : (o p : Ordering) → ordering_then o p ≡ Equal → (o ≡ Equal) × (p ≡ Equal)
then_Equal Less p e = absurd cc
then_Equal Equal p e = (refl, e)
then_Equal Greater p e = absurd cc

bool_cmp-equal : (b c : Bool) → bool_cmp b c ≡ Equal → b ≡ c
bool_cmp-equal true true e = refl
bool_cmp-equal true false e = absurd cc
bool_cmp-equal false true e = absurd cc
bool_cmp-equal false false e = refl

module _ {A : Type 0} (R : A → A → Ordering) where
  slice_cmp-equal : (vs : List A) → AllByRecursion (EqualFrom R) vs → (ws : List A) → slice_cmp R vs ws ≡ Equal → vs ≡ ws
  slice_cmp-equal [] h [] e = refl
  slice_cmp-equal [] h (w ∷ ws) e = absurd cc
  slice_cmp-equal (v ∷ vs) h [] e = absurd cc
  slice_cmp-equal (v ∷ vs) h (w ∷ ws) e =
      let t = then_Equal (R v w) (slice_cmp R vs ws) e in
      λ i. h.0 w t.0 i ∷ slice_cmp-equal vs h.1 ws t.1 i

  pairs_cmp-equal : (ps : List (A × A)) → AllByRecursion (λ p. EqualFrom R p.0 × EqualFrom R p.1) ps → (qs : List (A × A)) → slice_cmp (pair_cmp R) ps qs ≡ Equal → ps ≡ qs
  pairs_cmp-equal [] h [] e = refl
  pairs_cmp-equal [] h (q ∷ qs) e = absurd cc
  pairs_cmp-equal (p ∷ ps) h [] e = absurd cc
  pairs_cmp-equal (p ∷ ps) h (q ∷ qs) e =
      let t = then_Equal (pair_cmp R p q) (slice_cmp (pair_cmp R) ps qs) e in
      let u = then_Equal (R p.0 q.0) (R p.1 q.1) t.0 in
      λ i. (h.0.0 q.0 u.0 i, h.0.1 q.1 u.1 i) ∷ pairs_cmp-equal ps h.1 qs t.1 i

  list_level-equal : (vs : List A) → AllByRecursion (EqualFrom R) vs → (y : Value-F A) → level_cmp R (O.List vs) y ≡ Equal → O.List vs ≡ y
  list_level-equal vs h (O.List ws) e = ap O.List (slice_cmp-equal vs h ws e)
  list_level-equal vs h y e = absurd cc

  tuple_level-equal : (vs : List A) → AllByRecursion (EqualFrom R) vs → (y : Value-F A) → level_cmp R (O.Tuple vs) y ≡ Equal → O.Tuple vs ≡ y
  tuple_level-equal vs h (O.Tuple ws) e = ap O.Tuple (slice_cmp-equal vs h ws e)
  tuple_level-equal vs h y e = absurd cc

  map_level-equal : (ps : List (A × A)) → AllByRecursion (λ p. EqualFrom R p.0 × EqualFrom R p.1) ps → (y : Value-F A) → level_cmp R (O.Map ps) y ≡ Equal → O.Map ps ≡ y
  map_level-equal ps h (O.Map qs) e = ap O.Map (pairs_cmp-equal ps h qs e)
  map_level-equal ps h y e = absurd cc

  int_level-equal : (n : ℤ) (y : Value-F A) → level_cmp R (O.Int n) y ≡ Equal → O.Int n ≡ y
  int_level-equal n (O.Int m) e = ap O.Int (int_cmp-IsAntisymmetric n m e)
  int_level-equal n y e = absurd cc

  bool_level-equal : (b : Bool) (y : Value-F A) → level_cmp R (O.Bool b) y ≡ Equal → O.Bool b ≡ y
  bool_level-equal b (O.Bool c) e = ap O.Bool (bool_cmp-equal b c e)
  bool_level-equal b y e = absurd cc

  text_level-equal : (xs : List ℕ) (y : Value-F A) → level_cmp R (O.Text xs) y ≡ Equal → O.Text xs ≡ y
  text_level-equal xs (O.Text ys) e = ap O.Text (slice_cmp-IsAntisymmetric nat_cmp-IsAntisymmetric xs ys e)
  text_level-equal xs y e = absurd cc

equal_through : (v : Value) (x : Value-F Value) → out-Value v ≡ x → ((y : Value-F Value) → level_cmp value_cmp x y ≡ Equal → x ≡ y) → EqualFrom value_cmp v
equal_through v x e h w t =
    sym (roll-out-Value v)
    ∙ ap roll-Value (e ∙ h (out-Value w) (ap (λ z. level_cmp value_cmp z (out-Value w)) (sym e) ∙ sym (value_cmp_is v w) ∙ t))
    ∙ roll-out-Value w

equal_steps : ValueSteps (EqualFrom value_cmp)
equal_steps = record {
  int = λ n. equal_through (V.Int n) (O.Int n) (V.outs-Int n) (int_level-equal value_cmp n);
  bool = λ b. equal_through (V.Bool b) (O.Bool b) (V.outs-Bool b) (bool_level-equal value_cmp b);
  text = λ xs. equal_through (V.Text xs) (O.Text xs) (V.outs-Text xs) (text_level-equal value_cmp xs);
  list = λ vs h. equal_through (V.List vs) (O.List vs) (V.outs-List vs) (list_level-equal value_cmp vs h);
  map_of = λ ps h. equal_through (V.Map ps) (O.Map ps) (V.outs-Map ps) (map_level-equal value_cmp ps h);
  tuple = λ vs h. equal_through (V.Tuple vs) (O.Tuple vs) (V.outs-Tuple vs) (tuple_level-equal value_cmp vs h);
}

pub value_cmp-IsAntisymmetric : IsAntisymmetric value_cmp
value_cmp-IsAntisymmetric = value_ind (EqualFrom value_cmp) equal_steps

pub value_cmp-itself : (v : Value) → value_cmp v v ≡ Equal
value_cmp-itself v = tied_itself value_cmp_total v

pub value_cmp-Equal : (v w : Value) → (value_cmp v w ≡ Equal) ↔ (v ≡ w)
value_cmp-Equal v w = (value_cmp-IsAntisymmetric v w, λ e. ap (value_cmp v) (sym e) ∙ value_cmp-itself v)

-- ---- `==` decides equality

is_eq-Equal : (o : Ordering) → IsTrue (is_eq o) → o ≡ Equal
is_eq-Equal Less h = absurd cc
is_eq-Equal Equal h = refl
is_eq-Equal Greater h = absurd cc

pub derived_eq : (v w : Value) → IsTrue ((DerivedEq.ghosts).eq v w) ↔ (v ≡ w)
derived_eq v w =
    let is : (DerivedEq.ghosts).eq v w ≡ is_eq (value_cmp v w) = DerivedLaws.matches_eq-law v w ∙ ap is_eq (derived_cmp v w) in
    (λ h. (value_cmp-Equal v w).0 (is_eq-Equal (value_cmp v w) (subst IsTrue is h)), λ e. is ∙ ap is_eq ((value_cmp-Equal v w).1 e))
