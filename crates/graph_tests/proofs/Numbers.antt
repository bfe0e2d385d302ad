-- Numbers below that of the parts are those of operators.
use Rattle.std.specs.Prelude.{◌≡◌, ◌<◌, ◌++◌, ℕ, List, [], ◌∷◌, length}
use Rattle.std.proofs.Common.{sym, ap, subst, ◌∙◌, inl, inr}
use Rattle.spl_value.proofs.Lists.{append_cases}
use Rattle.language_model.specs.CheckedGraph.{CheckedGraph}
use Rattle.language_model.specs.Keeping.{Keeps}
use Rattle.stream_model.specs.CheckedMeaning.{graph_of}
use Rattle.stream_model.specs.Meaning.{Graph}
use Rattle.stream_model.proofs.CheckedOperators.{operators_length}
use Rattle.attribute_flow.specs.Chains.{AreNumbers}
use Rattle.graph_tests.specs.Below.{AreBelow}

pub one_more : (count m : ℕ) (ns : List ℕ) → AreBelow count ns → m < count → AreBelow count (ns ++ m ∷ [])
one_more count m ns below lt i n at = elim (append_cases ns m i n at) [
  | inl there ↦ below i n there
  | inr last ↦ subst (λ k. k < count) last.1 lt
]

pub are_numbers : (c : CheckedGraph) → Keeps c → (ns : List ℕ) → AreBelow (length c.parts) ns → (g : Graph) → graph_of c ≡ g → AreNumbers g ns
are_numbers c keeps ns below g is i n at =
    let long : length (graph_of c).ops ≡ length c.graph.ops = operators_length c 0 c.graph.ops c.parts keeps.parts in
    subst (λ k. n < k) (keeps.parts ∙ sym long ∙ ap (λ (h : Graph). length h.ops) is) (below i n at)
