-- What stands in the body of an expansion.
use Rattle.std.specs.Prelude.{◌≡◌, ℕ, List, Option, Some, None, slice_get}
use Rattle.std.specs.Option.{option_and_then, option_map}
use Rattle.std.proofs.Common.{refl, sym, ap, ◌∙◌}
use Rattle.std.proofs.lemmas.Option.{same_Some}
use Rattle.spl_tree.specs.declared.graph.Expansion.{Expansion}
use Rattle.spl_tree.specs.declared.graph.Graph.{Graph}
use Rattle.spl_tree.specs.declared.unit.Composite.{Composite}
use Rattle.spl_tree.specs.declared.unit.Definition.{Definition}
use Rattle.language_model.specs.DollarTargets.{composite_of}
use Rattle.language_model.specs.StreamTypes.{Body, body_at}

-- the composite of an expansion, as a body
abbrev as_body : ℕ → Expansion → Option Composite → Option Body
as_body number x o = option_map (λ c. record { number = number; expansion = x; composite = c }) o

-- a body is that of the expansion at its number
pub record IsBodyOf (unit : List Definition) (expansions : List Expansion) (number : ℕ) (b : Body) : Type 0 where
  pub numbered : b.number ≡ number
  pub expansion : slice_get expansions number ≡ Some b.expansion
  pub composite : option_and_then (composite_of unit) (slice_get expansions number) ≡ Some b.composite

pub body_of : (unit : List Definition) (g : Graph) (number : ℕ) (b : Body) → body_at unit g number ≡ Some b → IsBodyOf unit g.expansions number b
body_of unit g number b e = of_expansion (slice_get g.expansions number) refl e
  where
    of_composite : (x : Expansion) → slice_get g.expansions number ≡ Some x → (c : Option Composite) → composite_of unit x ≡ c → as_body number x c ≡ Some b
        → IsBodyOf unit g.expansions number b
    of_composite x there None none e = absurd cc
    of_composite x there (Some c) own e =
        let same : ◌≡◌ {A = Body} (record { number = number; expansion = x; composite = c }) b = same_Some _ b e in
        record {
          numbered = sym (ap (λ (y : Body). y.number) same);
          expansion = there ∙ ap (λ (y : Body). Some y.expansion) same;
          composite = ap (option_and_then (composite_of unit)) there ∙ own ∙ ap (λ (y : Body). Some y.composite) same;
        }

    of_expansion : (o : Option Expansion) → slice_get g.expansions number ≡ o → option_and_then (λ x. as_body number x (composite_of unit x)) o ≡ Some b
        → IsBodyOf unit g.expansions number b
    of_expansion None there e = absurd cc
    of_expansion (Some x) there e = of_composite x there (composite_of unit x) refl e
