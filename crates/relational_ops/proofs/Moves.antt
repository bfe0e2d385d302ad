-- The attributes that are moved, field by field.
use Rattle.std.proofs.Common.{◌≡◌, ◌⊎◌, ℕ, zero, suc, ◌==◌, Bool, true, false, not, cond, List, [], ◌∷◌, ◌++◌, length, slice_get, Option, None, Some, refl, sym, ap, subst, ◌∙◌, inl, inr, arith}
use Rattle.std.proofs.lemmas.Bool.{eq-eqb}
use Rattle.std.specs.HashSet.{HashSet}
use Rattle.spl_tree.specs.declared.code.Code.{Code}
use Rattle.spl_tree.specs.declared.code.Code.TheVariants as C
use Rattle.spl_tree.specs.declared.code.Slot.{Slot}
use Rattle.spl_tree.specs.declared.code.Slot.TheVariants as L
use Rattle.relational_ops.specs.steps.Moving.{AreSoFar, Keeps, Takes, is_moved}

-- what stands in a list to whose end something was added
at_pushed : {A : Type 0} (xs : List A) (x y : A) (i : ℕ) → slice_get (xs ++ x ∷ []) i ≡ Some y → (slice_get xs i ≡ Some y) ⊎ ((i ≡ length xs) × (x ≡ y))
at_pushed [] x y zero e = let same : x ≡ y = cc in inr (refl, same)
at_pushed [] x y (suc i) e = absurd cc
at_pushed (z ∷ xs) x y zero e = inl e
at_pushed (z ∷ xs) x y (suc i) e = elim (at_pushed xs x y i e) [
  | inl there ↦ inl there
  | inr last ↦ inr (ap suc last.0, last.1)
]

module _ {S : Type 0} (fields : List (ℕ × Code Slot)) (f : ℕ × Code Slot) (o : Option ℕ) (moves : List (Option ℕ)) (old new : HashSet ℕ S) (at : slice_get fields (length moves) ≡ Some f)
    (takes : Takes f.1 old o new) (so_far : AreSoFar fields moves old) where
  keeps : Keeps old new
  keeps = of o takes
    where
      of : (o : Option ℕ) → Takes f.1 old o new → Keeps old new
      of None t = t
      of (Some a) t = t.3

  takes_this : (a : ℕ) → o ≡ Some a → (f.1 ≡ C.Name (L.Attribute 0 a)) × (is_moved old a ≡ false) × (is_moved new a ≡ true) × Keeps old new
  takes_this a is = subst (λ o. Takes f.1 old o new) is takes

  -- another field after those so far
  pub so_far_on : AreSoFar fields (moves ++ o ∷ []) new
  so_far_on = record {
    alone = λ i a g m there.
        elim (at_pushed moves o (Some a) i m) [
          | inl before ↦ so_far.alone i a g before there
          | inr last ↦
              let both : Some f ≡ Some g = sym at ∙ ap (slice_get fields) (sym last.0) ∙ there in
              let same : f ≡ g = cc in
              subst (λ (g : ℕ × Code Slot). g.1 ≡ C.Name (L.Attribute 0 a)) same ((takes_this a last.1).0)
        ];
    once = λ i j a m n.
        elim (at_pushed moves o (Some a) i m) [
          | inl before ↦
              elim (at_pushed moves o (Some a) j n) [
                | inl earlier ↦ so_far.once i j a before earlier
                | inr last ↦ let was = so_far.marked i a before in let not = (takes_this a last.1).1 in absurd cc
              ]
          | inr last ↦
              elim (at_pushed moves o (Some a) j n) [
                | inl earlier ↦ let was = so_far.marked j a earlier in let not = (takes_this a last.1).1 in absurd cc
                | inr also ↦ last.0 ∙ sym also.0
              ]
        ];
    marked = λ i a m.
        elim (at_pushed moves o (Some a) i m) [
          | inl before ↦ keeps a (so_far.marked i a before)
          | inr last ↦ (takes_this a last.1).2
        ];
  }

-- ---- one attribute

module _ {S : Type 0} (code : Code Slot) (a : ℕ) (old new : HashSet ℕ S) (added : Bool) (is : code ≡ C.Name (L.Attribute 0 a)) (first : added ≡ not (is_moved old a))
    (updates : (q : ℕ) → is_moved new q ≡ cond (a == q) true (is_moved old q)) where
  stays : Keeps old new
  stays b was = updates b ∙ (elim (a == b) as (λ c. cond c true (is_moved old b) ≡ true) [
    | true ↦ refl
    | false ↦ was
  ])

  was_not : (b : Bool) → true ≡ not b → b ≡ false
  was_not true e = absurd cc
  was_not false e = refl

  pub newly : added ≡ true → Takes code old (Some a) new
  newly new_one = (is, was_not (is_moved old a) (sym new_one ∙ first), updates a ∙ ap (λ b. cond b true (is_moved old a)) (eq-eqb a a refl), stays)
