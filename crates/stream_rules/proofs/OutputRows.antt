-- The attributes of outputs, one output after another.
use Rattle.std.specs.Prelude.{◌≡◌, ℕ, ◌+◌, ◌<◌, List, [], ◌∷◌, ◌++◌, length, Ok}
use Rattle.std.proofs.Common.{ap, sym, ◌∙◌, append_assoc, drop, get_or}
use Rattle.std.proofs.lemmas.List.{drop_more}
use Rattle.spl_tree.specs.declared.graph.Graph.{Graph}
use Rattle.spl_tree.specs.declared.unit.Definition.{Definition}
use Rattle.spl_tree.specs.declared.unit.OutputStream.{OutputStream}
use Rattle.language_model.proofs.FoundAnswers.{after_after}
use Rattle.language_model.specs.Finds.{with_front}
use Rattle.language_model.specs.StreamTypes.{Attributes, Body, output_heads, outputs_attributes, stream_attributes}
use Rattle.language_model.specs.Typing.{Found, after}
use Rattle.stream_rules.specs.steps.Outside.{output_found}

abbrev pub put_first : Attributes → Found (List Attributes) → Found (List Attributes)
put_first schema rest = after rest (λ schemas. Ok (schema ∷ schemas))

module _ (unit : List Definition) (g : Graph) (b : Body) where
  first_output : (o : OutputStream) (os : List OutputStream) (s : ℕ) (outs : List ℕ)
      → outputs_attributes unit g b (o ∷ os) (s ∷ outs) ≡ after (output_found unit g b o s) (λ schema. put_first schema (outputs_attributes unit g b os outs))
  first_output o os s outs =
      let heads : Attributes → Found (Unit {0}) = λ schema. output_heads (length g.expansions) unit g schema b o.name.what in
      sym (after_after (stream_attributes unit g s) (λ schema. after (heads schema) (λ u. Ok schema)) (λ schema. put_first schema (outputs_attributes unit g b os outs))
      ∙ (λ i. after (stream_attributes unit g s) (λ schema. after_after (heads schema) (λ u. Ok schema) (λ schema. put_first schema (outputs_attributes unit g b os outs)) i)))

  module _ (i : ℕ) (os : List OutputStream) (o : OutputStream) (outs : List ℕ) (s : ℕ) (within : i < length os) (here : o ≡ get_or os i o) (there : i < length outs) (stream : s ≡ get_or outs i s) where
    pub output_at : outputs_attributes unit g b (drop i os) (drop i outs)
        ≡ after (output_found unit g b o s) (λ schema. put_first schema (outputs_attributes unit g b (drop (i + 1) os) (drop (i + 1) outs)))
    output_at =
        ap (λ os. outputs_attributes unit g b os (drop i outs)) (drop_more os i o within ∙ ap (λ o. o ∷ drop (i + 1) os) (sym here))
        ∙ ap (outputs_attributes unit g b (o ∷ drop (i + 1) os))
        (drop_more outs i s there ∙ ap (λ s. s ∷ drop (i + 1) outs) (sym stream))
        ∙ first_output o (drop (i + 1) os) s (drop (i + 1) outs)

    pub output_next : (front new : List Attributes) (schema : Attributes) → output_found unit g b o s ≡ Ok schema → new ≡ front ++ schema ∷ []
        → with_front front (outputs_attributes unit g b (drop i os) (drop i outs)) ≡ with_front new (outputs_attributes unit g b (drop (i + 1) os) (drop (i + 1) outs))
    output_next front new schema found grown =
        let rest = outputs_attributes unit g b (drop (i + 1) os) (drop (i + 1) outs) in
        ap (with_front front) (output_at ∙ ap (λ r. after r (λ schema. put_first schema rest)) found)
        ∙ after_after rest (λ schemas. Ok (schema ∷ schemas)) (λ xs. Ok (front ++ xs))
        ∙ (λ i. after rest (λ xs. Ok (sym (append_assoc front (schema ∷ []) xs) i)))
        ∙ ap (λ ys. after rest (λ xs. Ok (ys ++ xs))) (sym grown)
