-- What heads say of the ports of an operator, step by step outwards.
use Rattle.std.specs.Prelude.{◌≡◌, ℕ, suc, false, List, is_some, Option, Some, None, Result, Ok, Err, slice_get}
use Rattle.std.specs.Option.{option_map_or}
use Rattle.std.proofs.Common.{refl, ap, sym, subst, ◌∙◌}
use Rattle.spl_tree.specs.declared.graph.Graph.{Graph}
use Rattle.spl_tree.specs.declared.graph.Site.{Site}
use Rattle.spl_tree.specs.declared.unit.Definition.{Definition}
use Rattle.spl_tree.specs.declared.unit.OutputStream.{OutputStream}
use Rattle.language_model.specs.Expansion.{place_of}
use Rattle.language_model.specs.Invoking.{input_names, stream_names}
use Rattle.language_model.specs.StreamTypes.{Attributes, Body, input_heads, output_heads, passed, shape_matches}
use Rattle.language_model.proofs.parts.StreamTypes.{head_input, own_or_head}
use Rattle.language_model.specs.parts.StreamTypes.{invoked_input, outer_output, port_matches}
use Rattle.language_model.specs.Typing.{after}
use Rattle.language_model.specs.declared.answer.TypeAnswer.{TypeAnswer}
use Rattle.language_model.specs.declared.answer.TypeAnswer.TheVariants.{Refused, Memory}
use Rattle.language_model.specs.Finds.{Finds}
use Rattle.body_sites.specs.Bodies.{body_seen}
use Rattle.stream_rules.specs.steps.Outside.{StandsOutside}
use Rattle.stream_rules.specs.declared.origins.Origin.{Origin}
use Rattle.language_model.proofs.FoundAnswers.{finds_by, goes, stops}

pub none_of : {A : Type 0} (o : Option A) → is_some o ≡ false → o ≡ None
none_of None e = refl
none_of (Some x) e = absurd cc

module _ (unit : List Definition) (g : Graph) (schema : Attributes) where
  -- ---- outputs

  -- the heads around an output of an invocation, whose own type passes
  pub outwards_on : (b : Body) (o : OutputStream) (left fewer : ℕ) (name : List ℕ) (next : Origin) (r : Option Origin) → left ≡ suc fewer → name ≡ o.name.what
      → shape_matches unit g b schema o.shape ≡ Ok tt → r ≡ Some next → StandsOutside unit g schema b name (Ok r)
      → outer_output (output_heads left unit g schema) unit g schema b o ≡ outer_output (output_heads fewer unit g schema) unit g schema (body_seen next.body) next.output.now
  outwards_on b o left fewer name next r less named own is outside =
      let there : StandsOutside unit g schema b name (Ok (Some next)) = subst (λ r. StandsOutside unit g schema b name (Ok r)) is outside in
      ap (λ p. after p (λ u. output_heads left unit g schema b o.name.what)) own
      ∙ (λ i. output_heads (less i) unit g schema b (sym named i))
      ∙ there (output_heads fewer unit g schema)

  pub outside_first : (b : Body) (count fewer : ℕ) (name : List ℕ) (next : Origin) (r : Option Origin) → count ≡ suc fewer → r ≡ Some next → StandsOutside unit g schema b name (Ok r)
      → output_heads count unit g schema b name ≡ outer_output (output_heads fewer unit g schema) unit g schema (body_seen next.body) next.output.now
  outside_first b count fewer name next r less is outside =
      let there : StandsOutside unit g schema b name (Ok (Some next)) = subst (λ r. StandsOutside unit g schema b name (Ok r)) is outside in
      ap (λ n. output_heads n unit g schema b name) less ∙ there (output_heads fewer unit g schema)

  pub outside_none : (b : Body) (count fewer : ℕ) (name : List ℕ) (r : Option Origin) → count ≡ suc fewer → r ≡ None → StandsOutside unit g schema b name (Ok r)
      → output_heads count unit g schema b name ≡ passed
  outside_none b count fewer name r less is outside =
      let there : StandsOutside unit g schema b name (Ok None) = subst (λ r. StandsOutside unit g schema b name (Ok r)) is outside in
      ap (λ n. output_heads n unit g schema b name) less ∙ there (output_heads fewer unit g schema)

  pub outside_fails : (b : Body) (count fewer : ℕ) (name : List ℕ) (e : TypeAnswer) → count ≡ suc fewer → StandsOutside unit g schema b name (Err e)
      → Finds (output_heads count unit g schema b name) (Err e)
  outside_fails b count fewer name (Refused r) less outside = ap (λ n. output_heads n unit g schema b name) less ∙ outside (output_heads fewer unit g schema)
  outside_fails b count fewer name Memory less outside = tt

  -- the same where it is refused, and where none is around it
  pub outwards_fails : (b : Body) (o : OutputStream) (left fewer : ℕ) (name : List ℕ) (e : TypeAnswer) → left ≡ suc fewer → name ≡ o.name.what
      → shape_matches unit g b schema o.shape ≡ Ok tt → StandsOutside unit g schema b name (Err e) → Finds (outer_output (output_heads left unit g schema) unit g schema b o) (Err e)
  outwards_fails b o left fewer name e less named own outside =
      goes (shape_matches unit g b schema o.shape) (λ u. output_heads left unit g schema b o.name.what) tt (Err e) own
      (subst (λ n. Finds (output_heads left unit g schema b n) (Err e)) named (outside_fails b left fewer name e less outside))

  pub outwards_end : (b : Body) (o : OutputStream) (left fewer : ℕ) (name : List ℕ) (r : Option Origin) → left ≡ suc fewer → name ≡ o.name.what
      → shape_matches unit g b schema o.shape ≡ Ok tt → r ≡ None → StandsOutside unit g schema b name (Ok r)
      → outer_output (output_heads left unit g schema) unit g schema b o ≡ passed
  outwards_end b o left fewer name r less named own is outside =
      ap (λ p. after p (λ u. output_heads left unit g schema b o.name.what)) own
      ∙ ap (λ n. output_heads left unit g schema b n) (sym named)
      ∙ outside_none b left fewer name r less is outside

  -- ---- inputs

  pub head_here : (b : Body) (name : List ℕ) (left fewer place : ℕ) → left ≡ suc fewer → place_of name (stream_names b.composite) ≡ None → Some place ≡ place_of name (input_names b.composite)
      → input_heads left unit g schema b name ≡ head_input (input_heads fewer unit g schema) unit g schema b place
  head_here b name left fewer place less none there =
      ap (λ n. input_heads n unit g schema b name) less
      ∙ ap (own_or_head (input_heads fewer unit g schema) unit g schema b name) none
      ∙ ap (λ o. option_map_or (head_input (input_heads fewer unit g schema) unit g schema b) o passed) (sym there)

  module _ (b : Body) (name : List ℕ) (left fewer place : ℕ) (less : left ≡ suc fewer) (none : place_of name (stream_names b.composite) ≡ None)
      (there : Some place ≡ place_of name (input_names b.composite)) where
    pub head_stops : (e : TypeAnswer) → Finds (port_matches unit g b schema (slice_get b.composite.inputs place)) (Err e) → Finds (input_heads left unit g schema b name) (Err e)
    head_stops e h =
        finds_by _ _ (Err e) (head_here b name left fewer place less none there)
        (stops (port_matches unit g b schema (slice_get b.composite.inputs place)) (λ u. option_map_or (invoked_input (input_heads fewer unit g schema) unit g place) b.expansion.site passed) e h)

    pub head_on : (s : Site) (r : Result (Unit {0}) TypeAnswer) → port_matches unit g b schema (slice_get b.composite.inputs place) ≡ Ok tt → b.expansion.site ≡ Some s
        → Finds (invoked_input (input_heads fewer unit g schema) unit g place s) r → Finds (input_heads left unit g schema b name) r
    head_on s r own site h =
        finds_by _ _ r
        (head_here b name left fewer place less none there
        ∙ ap (λ p. after p (λ u. option_map_or (invoked_input (input_heads fewer unit g schema) unit g place) b.expansion.site passed)) own
        ∙ ap (λ o. option_map_or (invoked_input (input_heads fewer unit g schema) unit g place) o passed) site) h
