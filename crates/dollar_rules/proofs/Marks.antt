-- Marks of places, and the parameters that are marked.
use Rattle.std.specs.Prelude.{◌≡◌, ◌<◌, ◌≤◌, ◌+◌, ℕ, zero, suc, Bool, true, false, if◌then◌else◌, List, [], ◌∷◌, ◌++◌, length, take, Some, slice_get}
use Rattle.std.specs.List.{insert}
use Rattle.std.proofs.Common.{refl, ap, ◌∙◌, arith}
use Rattle.std.proofs.Math.ListN.{set}
use Rattle.std.proofs.lemmas.Option.{same_Some}
use Rattle.spl_tree.specs.declared.unit.CompositeParameter.{CompositeParameter}
use Rattle.language_model.specs.declared.scope.Dollar.{Dollar}
use Rattle.language_model.specs.declared.scope.Typed.{Typed}
use Rattle.language_model.specs.Parameters.{own_from}
use Rattle.language_model.specs.Typing.{Found}
use Rattle.dollar_rules.specs.steps.Given.{is_marked, marked, marks_in}

-- ---- counts

pub none_in : (marks : List Bool) (place : ℕ) → marks_in marks ≤ 0 → is_marked marks place ≡ false
none_in [] place le = refl
none_in (true ∷ bs) place le = absurd (omega (arith, le))
none_in (false ∷ bs) zero le = refl
none_in (false ∷ bs) (suc place) le = none_in bs place le

at_most : (marks : List Bool) → marks_in marks ≤ length marks
at_most [] = omega arith
at_most (true ∷ bs) = omega (arith, at_most bs)
at_most (false ∷ bs) = omega (arith, at_most bs)

-- where one isn't marked, there are fewer marks than places
pub fewer : (marks : List Bool) (place : ℕ) → place < length marks → is_marked marks place ≡ false → marks_in marks < length marks
fewer [] place below unset = absurd (omega (arith, below))
fewer (true ∷ bs) zero below unset = absurd cc
fewer (false ∷ bs) zero below unset = omega (arith, at_most bs)
fewer (true ∷ bs) (suc place) below unset = omega (arith, fewer bs place (omega (arith, below)) unset)
fewer (false ∷ bs) (suc place) below unset = omega (arith, fewer bs place (omega (arith, below)) unset)

pub one_more : (marks : List Bool) (place : ℕ) → place < length marks → is_marked marks place ≡ false → marks_in (set marks place true) ≡ suc (marks_in marks)
one_more [] place below unset = absurd (omega (arith, below))
one_more (true ∷ bs) zero below unset = absurd cc
one_more (false ∷ bs) zero below unset = refl
one_more (true ∷ bs) (suc place) below unset = ap suc (one_more bs place (omega (arith, below)) unset)
one_more (false ∷ bs) (suc place) below unset = one_more bs place (omega (arith, below)) unset

-- ---- those that are marked

abbrev pub entry : (CompositeParameter → Found Typed) → CompositeParameter → Dollar
entry found p = record { name = p.name.what; found = found p }

module _ (found : CompositeParameter → Found Typed) where
  pub marked_none : (marks : List Bool) (ps : List CompositeParameter) → marks_in marks ≤ 0 → marked found marks ps ≡ []
  marked_none [] ps le = refl
  marked_none (b ∷ bs) [] le = refl
  marked_none (true ∷ bs) (p ∷ ps) le = absurd (omega (arith, le))
  marked_none (false ∷ bs) (p ∷ ps) le = marked_none bs ps le

  -- a row in which those pass that are marked
  pub marked_is : (passes : ℕ → CompositeParameter → Bool) (marks : List Bool) (place : ℕ) (ps : List CompositeParameter)
      → ((k at : ℕ) (p : CompositeParameter) → at ≡ place + k → slice_get ps k ≡ Some p → passes at p ≡ is_marked marks k)
      → own_from passes found place ps ≡ marked found marks ps
  marked_is passes [] place [] same = refl
  marked_is passes (b ∷ bs) place [] same = refl
  marked_is passes [] place (p ∷ ps) same =
      (λ i. (if same 0 place p (omega arith) refl i then entry found p ∷ [] else []) ++ own_from passes found (suc place) ps)
      ∙ marked_is passes [] (suc place) ps (λ k at q e is. same (suc k) at q (omega arith) is)
  marked_is passes (b ∷ bs) place (p ∷ ps) same =
      (λ i. (if same 0 place p (omega arith) refl i then entry found p ∷ [] else [])
      ++ marked_is passes bs (suc place) ps (λ k at q e is. same (suc k) at q (omega arith) is) i)

  -- one more that is marked comes after those that are marked before it
  pub marked_more : (marks : List Bool) (ps : List CompositeParameter) (place : ℕ) (p : CompositeParameter) → slice_get ps place ≡ Some p → place < length marks
      → is_marked marks place ≡ false → marked found (set marks place true) ps ≡ insert (marked found marks ps) (marks_in (take place marks)) (entry found p)
  marked_more [] ps place p is below unset = absurd (omega (arith, below))
  marked_more (b ∷ bs) [] place p is below unset = absurd cc
  marked_more (true ∷ bs) (q ∷ ps) zero p is below unset = absurd cc
  marked_more (false ∷ bs) (q ∷ ps) zero p is below unset = ap (λ r. entry found r ∷ marked found bs ps) (same_Some q p is)
  marked_more (true ∷ bs) (q ∷ ps) (suc place) p is below unset = ap (λ xs. entry found q ∷ xs) (marked_more bs ps place p is (omega (arith, below)) unset)
  marked_more (false ∷ bs) (q ∷ ps) (suc place) p is below unset = marked_more bs ps place p is (omega (arith, below)) unset
