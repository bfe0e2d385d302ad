-- The operators and expansions of a graph, by their places.
use Rattle.std.proofs.Common.{ap, arith, refl, ◌∙◌}
use Rattle.std.specs.Option.{option_map}
use Rattle.std.specs.Prelude.{List, Some, [], length, slice_get, suc, zero, ℕ, ◌+◌, ◌∷◌, ◌≡◌}
use Rattle.language_model.specs.Expansion.{Inlined, Made}
use Rattle.language_model.specs.Numbering.{expansions_from, ops_from}
use Rattle.language_model.proofs.parts.Numbering.{expansion_of, op_of}
use Rattle.language_model.specs.declared.expansion.Operation.{Operation}

pub expansion_at : (made : Made) (n : ℕ) (es : List Inlined) (m : ℕ)
    → slice_get (expansions_from made n es) m ≡ option_map (expansion_of made (n + m)) (slice_get es m)
expansion_at made n [] m = refl
expansion_at made n (e ∷ es) zero = let same : n ≡ n + 0 = omega arith in ap (λ i. Some (expansion_of made i e)) same
expansion_at made n (e ∷ es) (suc m) =
    let same : suc n + m ≡ n + suc m = omega arith in
    expansion_at made (suc n) es m ∙ ap (λ i. option_map (expansion_of made i) (slice_get es m)) same

pub op_at : (made : Made) (n : ℕ) (ops : List Operation) (m : ℕ) → slice_get (ops_from made n ops) m ≡ option_map (op_of made (n + m)) (slice_get ops m)
op_at made n [] m = refl
op_at made n (o ∷ ops) zero = let same : n ≡ n + 0 = omega arith in ap (λ i. Some (op_of made i o)) same
op_at made n (o ∷ ops) (suc m) = let same : suc n + m ≡ n + suc m = omega arith in op_at made (suc n) ops m ∙ ap (λ i. option_map (op_of made i) (slice_get ops m)) same

pub ops_length : (made : Made) (n : ℕ) (ops : List Operation) → length (ops_from made n ops) ≡ length ops
ops_length made n [] = refl
ops_length made n (o ∷ ops) = ap suc (ops_length made (suc n) ops)
