-- Which lists of operators are ordered.
use Rattle.std.specs.Prelude.{ℕ, ◌==◌, true, false, List, [], ◌∷◌, ◌++◌, ◌≡◌, ◌||◌}
use Rattle.std.specs.List.{list_any}
use Rattle.std.proofs.Common.{sym, ap, ◌∙◌, subst, inl, inr}
use Rattle.std.proofs.lemmas.Bool.{eqb-true, or_cases}
use Rattle.stream_model.specs.Operators.{Operator}
use Rattle.stream_model.specs.Laws.{makes_stream, reads_stream, is_made, IsOrdered}

-- no operators
pub IsOrdered-nil : IsOrdered []
IsOrdered-nil = record { once = λ before after op s e m. none before after op e; forward = λ before after op s e r. none before after op e }
  where
    none : {X : Type 0} (before after : List Operator) (op : Operator) → [] ≡ before ++ op ∷ after → X
    none [] after op e = absurd (cc)
    none (b ∷ before) after op e = absurd (cc)

-- an operator before others, none of which makes a stream that it makes or reads, and which reads none that it makes
pub IsOrdered-cons : (op : Operator) (ops : List Operator)
    → ((s : ℕ) → makes_stream op s ≡ true → is_made ops s ≡ false)
    → ((s : ℕ) → reads_stream op s ≡ true → is_made (op ∷ ops) s ≡ false)
    → IsOrdered ops → IsOrdered (op ∷ ops)
IsOrdered-cons op ops once forward rest = record { once = each_once; forward = each_forward }
  where
    each_once : (before after : List Operator) (o : Operator) (s : ℕ) → op ∷ ops ≡ before ++ o ∷ after → makes_stream o s ≡ true → is_made after s ≡ false
    each_once [] after o s e m =
        let first : o ≡ op = cc in let others : after ≡ ops = cc in
        ap (λ xs. is_made xs s) others ∙ once s (ap (λ (x : Operator). makes_stream x s) (sym first) ∙ m)
    each_once (b ∷ before) after o s e m = let others : ops ≡ before ++ o ∷ after = cc in rest.once before after o s others m

    each_forward : (before after : List Operator) (o : Operator) (s : ℕ) → op ∷ ops ≡ before ++ o ∷ after → reads_stream o s ≡ true → is_made (o ∷ after) s ≡ false
    each_forward [] after o s e r =
        let first : o ≡ op = cc in let whole : o ∷ after ≡ op ∷ ops = sym e in
        ap (λ xs. is_made xs s) whole ∙ forward s (ap (λ (x : Operator). reads_stream x s) (sym first) ∙ r)
    each_forward (b ∷ before) after o s e r = let others : ops ≡ before ++ o ∷ after = cc in rest.forward before after o s others r

same : (n s : ℕ) → ((n == s) || false) ≡ true → n ≡ s
same n s h = elim (or_cases (n == s) false h) [ inl e ↦ eqb-true n s e | inr e ↦ absurd (cc) ]

-- what holds of n holds of each number in a list of n alone
pub at_only : (n : ℕ) (P : ℕ → Type 0) → P n → (s : ℕ) → list_any (λ i. i == s) (n ∷ []) ≡ true → P s
at_only n P here s h = subst P (same n s h) here
