-- What folds make of what is kept for them.
use Rattle.std.proofs.Common.{◌≡◌, ◌≤◌, ◌+◌, ℕ, pos, suc, true, false, List, [], ◌∷◌, ◌++◌, length, map, drop, slice_get, Option, Some, refl, sym, ap, subst, ◌∙◌, append_assoc, arith}
use Rattle.std.specs.Option.{option_to_list}
use Rattle.spl_value.specs.declared.types.IntKind.{IntKind}
use Rattle.spl_value.specs.declared.value.Value.{Value}
use Rattle.spl_value.specs.declared.value.Value.TheVariants as V
use Rattle.spl_value.specs.Wrap.{wrapped}
use Rattle.spl_value.proofs.Lists.{next_rest}
use Rattle.tuple_groups.specs.Columns.{column}
use Rattle.running_folds.specs.declared.tally.Tally.{Tally}
use Rattle.running_folds.specs.declared.tally.Tally.TheVariants as Y
use Rattle.running_folds.specs.Folds.{AreRows, answers, answers_from, folded}
use Rattle.running_folds.specs.Tallies.{AreTallied, Tallied, fold_of, made_from, made_of}
use Rattle.running_folds.proofs.Columns.{folded_column}

-- one fold more
pub made_next : (at : ℕ) (old : List Tally) (t : Tally) (made whole : List Value) (o : Option Value) → slice_get old at ≡ Some t → o ≡ made_of t
    → made ++ made_from (drop at old) ≡ whole → (made ++ option_to_list o) ++ made_from (drop (at + 1) old) ≡ whole
made_next at old t made whole o there is so_far =
    let after : suc at ≡ at + 1 = omega arith in
    ap (λ n. (made ++ option_to_list o) ++ made_from (drop n old)) (sym after)
    ∙ append_assoc made (option_to_list o) (made_from (drop (suc at) old))
    ∙ ap (λ p. made ++ (option_to_list p ++ made_from (drop (suc at) old))) is
    ∙ ap (λ (ts : List Tally). made ++ made_from ts) (sym (next_rest old at t there)) ∙ so_far

-- a fold makes of what is kept what it makes of the values
pub tallied_made : (t : Tally) (vs : List Value) → Tallied t vs → made_of t ≡ folded (fold_of t) vs
tallied_made (Y.Sum t) vs is = ap (λ n. Some (V.Int n)) is
tallied_made (Y.Extreme true best) vs is = is
tallied_made (Y.Extreme false best) vs is = is
tallied_made (Y.First value) vs is = is
tallied_made (Y.Last value) vs is = is
tallied_made (Y.Count n) vs is = ap (λ z. Some (V.Int z)) (is.1 ∙ ap (λ (k : IntKind). wrapped k (pos (length vs))) is.0)

made_answers : (n k : ℕ) (ts : List Tally) (rows : List (List Value)) → AreRows n rows → k + length ts ≤ n
    → ((i : ℕ) (t : Tally) → slice_get ts i ≡ Some t → Tallied t (column (k + i) rows)) → made_from ts ≡ answers_from k (map fold_of ts) rows
made_answers n k [] rows long few each = refl
made_answers n k (t ∷ ts) rows long few each =
    let first : k + 0 ≡ k = omega arith in
    let one = tallied_made t (column k rows) (subst (λ i. Tallied t (column i rows)) first (each 0 t refl)) ∙ folded_column (fold_of t) n k rows (omega (arith, few)) long in
    (λ i. option_to_list (one i) ++ made_answers n (k + 1) ts rows long (omega (arith, few))
    (λ j u is. let next : k + suc j ≡ k + 1 + j = omega arith in subst (λ m. Tallied u (column m rows)) next (each (suc j) u is)) i)

-- what the folds make of what is kept of rows is their answers
pub all_made : (tallies : List Tally) (rows : List (List Value)) → AreTallied tallies rows → made_from tallies ≡ answers (map fold_of tallies) rows
all_made tallies rows are = made_answers (length tallies) 0 tallies rows are.long (omega arith) (λ i t is. let first : 0 + i ≡ i = omega arith in subst (λ m. Tallied t (column m rows)) (sym first) (are.each i t is))
