-- The attributes of a group's tuple, each by the assignment that gets it.
use Rattle.std.proofs.Common.{◌≡◌, ◌<◌, ◌≤◌, ◌+◌, ◌-◌, ◌==◌, ℕ, suc, false, cond, List, [], ◌∷◌, ◌++◌, length, drop, get_or, Option, Some, None, refl, sym, ap, ◌∙◌, append_assoc, append-nil, arith}
use Rattle.std.specs.Option.{option_and_then, option_map}
use Rattle.std.proofs.lemmas.Bool.{eq-eqb}
use Rattle.std.proofs.lemmas.List.{drop_all}
use Rattle.spl_value.specs.declared.value.Value.{Value}
use Rattle.spl_value.proofs.Lists.{drop_at}
use Rattle.language_model.specs.declared.checked.CollectedAttribute.{CollectedAttribute}
use Rattle.language_model.specs.Evaluation.{field_at, tuple_from, tuple_of}
use Rattle.stream_model.specs.Aggregates.{collected}
use Rattle.tuple_groups.specs.Columns.{column, fields_at, tuple_at}

abbrev Fields : Type 0
Fields = List (ℕ × Value)

module _ (us : List (List Value)) where
  -- the attribute of the first assignment stands before those of the others
  fields_next : (p : ℕ) (x : CollectedAttribute) (xs : List CollectedAttribute) (fs : Fields) → fields_at p (x ∷ xs) us ≡ Some fs
      → (v : Value) × (gs : Fields) × (collected x.collector (length us) (column p us) ≡ Some v) × (fields_at (p + 1) xs us ≡ Some gs) × ((x.attribute, v) ∷ gs ≡ fs)
  fields_next p x xs fs e = by (collected x.collector (length us) (column p us)) (fields_at (p + 1) xs us) e
    where
      by : (o : Option Value) (rest : Option Fields) → option_and_then (λ v. option_map (λ gs. (x.attribute, v) ∷ gs) rest) o ≡ Some fs
          → (v : Value) × (gs : Fields) × (o ≡ Some v) × (rest ≡ Some gs) × ((x.attribute, v) ∷ gs ≡ fs)
      by None rest e = absurd cc
      by (Some v) None e = absurd cc
      by (Some v) (Some gs) e = (v, gs, refl, refl, let same : (x.attribute, v) ∷ gs ≡ fs = cc in same)

  -- there is one for each assignment
  pub as_many : (p : ℕ) (output : List CollectedAttribute) (fs : Fields) → fields_at p output us ≡ Some fs → length fs ≡ length output
  as_many p [] fs e = let none : [] ≡ fs = cc in sym (ap length none)
  as_many p (x ∷ xs) fs e =
      let next = fields_next p x xs fs e in
      sym (ap length next.4) ∙ ap suc (as_many (p + 1) xs next.1 next.3)

  module _ (p a : ℕ) (output : List CollectedAttribute) (k : ℕ) (gs : Fields) (are : fields_at (p + k) (drop k output) us ≡ Some gs) where
    -- no assignment is left
    pub none_gets : length output ≤ k → field_at a gs ≡ None
    none_gets past =
        let none : Some [] ≡ Some gs = sym (ap (λ xs. fields_at (p + k) xs us) (drop_all k output past)) ∙ are in
        let same : [] ≡ gs = cc in
        sym (ap (field_at a) same)

    module _ (x : CollectedAttribute) (within : k < length output) (is : x ≡ get_or output k x) where
      next_at : (v : Value) × (hs : Fields) × (collected x.collector (length us) (column (p + k) us) ≡ Some v) × (fields_at (p + k + 1) (drop (k + 1) output) us ≡ Some hs)
          × ((x.attribute, v) ∷ hs ≡ gs)
      next_at = fields_next (p + k) x (drop (k + 1) output) gs (sym (ap (λ xs. fields_at (p + k) xs us) (drop_at output k x within is)) ∙ are)

      -- the first assignment that is left gets the attribute
      pub this_gets : (o : Option Value) → x.attribute ≡ a → collected x.collector (length us) (column (p + k) us) ≡ o → field_at a gs ≡ o
      this_gets o same made =
          sym (ap (field_at a) next_at.4) ∙ ap (λ b. cond b (Some next_at.0) (field_at a next_at.1)) (eq-eqb x.attribute a same) ∙ sym next_at.2 ∙ made

      -- another one does
      pub others_get : (x.attribute == a) ≡ false → (hs : Fields) × (fields_at (p + (k + 1)) (drop (k + 1) output) us ≡ Some hs) × (field_at a hs ≡ field_at a gs)
      others_get other =
          let on : p + (k + 1) ≡ p + k + 1 = omega arith in (
            next_at.1,
            ap (λ n. fields_at n (drop (k + 1) output) us) on ∙ next_at.3,
            sym (ap (λ b. cond b (Some next_at.0) (field_at a next_at.1)) other) ∙ ap (field_at a) next_at.4,
          )

  -- the tuple is that of the attributes
  pub fields_of_tuple : (p : ℕ) (output : List CollectedAttribute) (vs : List Value) → tuple_at p output us ≡ Some vs
      → (fs : Fields) × (fields_at p output us ≡ Some fs) × (tuple_from 0 (length output) fs ≡ Some vs)
  fields_of_tuple p output vs e = by (fields_at p output us) refl e
    where
      by : (o : Option Fields) → fields_at p output us ≡ o → option_and_then tuple_of o ≡ Some vs → (fs : Fields) × (o ≡ Some fs) × (tuple_from 0 (length output) fs ≡ Some vs)
      by None is e = absurd cc
      by (Some fs) is e = (fs, refl, ap (λ n. tuple_from 0 n fs) (sym (as_many p output fs is)) ∙ e)

-- ---- attribute by attribute

pub nothing_yet : (fs : Fields) (n : ℕ) (values vs : List Value) → values ≡ [] → tuple_from 0 n fs ≡ Some vs → option_map (λ more. values ++ more) (tuple_from 0 (n - 0) fs) ≡ Some vs
nothing_yet fs n values vs none e =
    let all : n - 0 ≡ n = omega arith in
    (λ i. option_map (λ more. none i ++ more) (tuple_from 0 (all i) fs)) ∙ ap (option_map (λ more. [] ++ more)) e

module _ (fs : Fields) (a n : ℕ) (values vs : List Value) (so_far : option_map (λ more. values ++ more) (tuple_from a (n - a) fs) ≡ Some vs) where
  -- all attributes are there
  pub all_there : n ≤ a → values ≡ vs
  all_there past =
      let none : n - a ≡ 0 = omega arith in
      let all : Some (values ++ []) ≡ Some vs = sym (ap (λ k. option_map (λ more. values ++ more) (tuple_from a k fs)) none) ∙ so_far in
      let same : values ++ [] ≡ vs = cc in
      sym (append-nil values) ∙ same

  module _ (within : a < n) where
    left_is : option_map (λ more. values ++ more) (tuple_from a (suc (n - (a + 1))) fs) ≡ Some vs
    left_is = let one : suc (n - (a + 1)) ≡ n - a = omega arith in ap (λ k. option_map (λ more. values ++ more) (tuple_from a k fs)) one ∙ so_far

    -- the next one is
    pub next_there : (v : Value) × (field_at a fs ≡ Some v)
    next_there = by (field_at a fs) (tuple_from (suc a) (n - (a + 1)) fs) left_is
      where
        by : (o : Option Value) (rest : Option (List Value)) → option_map (λ more. values ++ more) (option_and_then (λ v. option_map (λ ws. v ∷ ws) rest) o) ≡ Some vs → (v : Value) × (o ≡ Some v)
        by None rest e = absurd cc
        by (Some v) rest e = (v, refl)

    pub one_more : (v : Value) → field_at a fs ≡ Some v → option_map (λ more. (values ++ v ∷ []) ++ more) (tuple_from (a + 1) (n - (a + 1)) fs) ≡ Some vs
    one_more v is =
        let on : a + 1 ≡ suc a = omega arith in
        ap (λ i. option_map (λ more. (values ++ v ∷ []) ++ more) (tuple_from i (n - (a + 1)) fs)) on
        ∙ by (tuple_from (suc a) (n - (a + 1)) fs)
        (sym (ap (λ o. option_map (λ more. values ++ more) (option_and_then (λ w. option_map (λ ws. w ∷ ws) (tuple_from (suc a) (n - (a + 1)) fs)) o)) is) ∙ left_is)
      where
        by : (rest : Option (List Value)) → option_map (λ more. values ++ more) (option_map (λ ws. v ∷ ws) rest) ≡ Some vs → option_map (λ more. (values ++ v ∷ []) ++ more) rest ≡ Some vs
        by None e = absurd cc
        by (Some ws) e = ap Some (append_assoc values (v ∷ []) ws) ∙ e
