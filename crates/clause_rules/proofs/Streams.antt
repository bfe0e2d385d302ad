-- The attributes of all streams, one after another.
use Rattle.std.specs.Prelude.{◌≡◌, ◌+◌, ◌-◌, ◌<◌, ℕ, suc, List, [], ◌∷◌, ◌++◌, Ok, Err}
use Rattle.std.proofs.Common.{refl, sym, ap, ◌∙◌, append_assoc, arith}
use Rattle.spl_tree.specs.declared.graph.Graph.{Graph}
use Rattle.spl_tree.specs.declared.unit.Definition.{Definition}
use Rattle.language_model.specs.parts.Checking.{each_stream}
use Rattle.language_model.specs.Numbering.{numbers_from}
use Rattle.language_model.specs.StreamTypes.{Attributes, stream_attributes}
use Rattle.language_model.specs.Typing.{Found, after}
use Rattle.language_model.specs.declared.answer.TypeAnswer.{TypeAnswer}
use Rattle.language_model.specs.Finds.{Finds, with_front}
use Rattle.language_model.proofs.FoundAnswers.{finds_by, stops}

pub numbers_next : (i n : ℕ) → i < n → numbers_from i (n - i) ≡ i ∷ numbers_from (i + 1) (n - (i + 1))
numbers_next i n lt =
    let one : n - i ≡ suc (n - (i + 1)) = omega arith in
    let next : suc i ≡ i + 1 = omega arith in
    ap (numbers_from i) one ∙ ap (λ k. i ∷ numbers_from k (n - (i + 1))) next

abbrev in_front : Attributes → List Attributes → Found (List Attributes)
in_front schema rest = Ok (schema ∷ rest)

joined : (front : List Attributes) (schema : Attributes) (rest : Found (List Attributes)) → with_front front (after rest (in_front schema)) ≡ with_front (front ++ schema ∷ []) rest
joined front schema (Ok xs) = ap Ok (sym (append_assoc front (schema ∷ []) xs))
joined front schema (Err r) = refl

module _ (unit : List Definition) (g : Graph) (all : Found (List Attributes)) (front : List Attributes) (i n : ℕ) (lt : i < n)
    (come : all ≡ with_front front (each_stream unit g (numbers_from i (n - i)))) where
  abbrev rest : Found (List Attributes)
  rest = each_stream unit g (numbers_from (i + 1) (n - (i + 1)))

  abbrev then_rest : Attributes → Found (List Attributes)
  then_rest schema = after rest (in_front schema)

  unrolled : all ≡ with_front front (after (stream_attributes unit g i) then_rest)
  unrolled = come ∙ ap (λ ns. with_front front (each_stream unit g ns)) (numbers_next i n lt)

  pub stream_found : (schema : Attributes) (more : List Attributes) → stream_attributes unit g i ≡ Ok schema → more ≡ front ++ schema ∷ []
      → all ≡ with_front more rest
  stream_found schema more is pushed =
      unrolled ∙ ap (λ o. with_front front (after o then_rest)) is ∙ joined front schema rest ∙ ap (λ xs. with_front xs rest) (sym pushed)

  pub stream_stops : (e : TypeAnswer) → Finds (stream_attributes unit g i) (Err e) → Finds all (Err e)
  stream_stops e h =
      finds_by all _ (Err e) unrolled (stops (after (stream_attributes unit g i) then_rest) (λ xs. Ok (front ++ xs)) e (stops (stream_attributes unit g i) then_rest e h))
