-- What was looked at of the inputs of heads.
use Rattle.std.specs.Prelude.{◌≡◌, ℕ, ◌==◌, Bool, true, false, ◌&&◌, ◌||◌, List}
use Rattle.std.specs.HashSet.{contains}
use Rattle.spl_tree.specs.declared.graph.Graph.{Graph}
use Rattle.spl_tree.specs.declared.graph.Site.{Site}
use Rattle.spl_tree.specs.declared.unit.Definition.{Definition}
use Rattle.language_model.specs.StreamTypes.{Attributes, input_heads, passed}
use Rattle.language_model.specs.parts.StreamTypes.{invoked_input}
use Rattle.stream_rules.specs.declared.ports.inputs.heads.Looked.{Looked}

abbrev pub same_port : ℕ × ℕ × ℕ × ℕ → ℕ × ℕ × ℕ × ℕ → Bool
same_port x y = (x.0 == y.0) && (x.1 == y.1) && (x.2 == y.2) && (x.3 == y.3)

abbrev pub has_looked : Looked → ℕ → Site → ℕ → Bool
has_looked looked left s port = contains same_port looked.ports (left, s.expansion, s.invocation, port)

abbrev pub nothing_looked : Looked → Type 0
nothing_looked looked = (left : ℕ) (s : Site) (port : ℕ) → has_looked looked left s port ≡ false

-- what the heads say has passed for each port that is there
abbrev pub HavePassed : List Definition → Graph → Attributes → Looked → Type 0
HavePassed unit g schema looked =
    (left : ℕ) (s : Site) (port : ℕ) → has_looked looked left s port ≡ true → invoked_input (input_heads left unit g schema) unit g port s ≡ passed

-- what is there was there, or is this port
abbrev pub PassesAlso : Looked → Looked → ℕ → Site → ℕ → Type 0
PassesAlso old new left s port =
    (l : ℕ) (t : Site) (p : ℕ) → has_looked new l t p ≡ (((left == l) && (s.expansion == t.expansion) && (s.invocation == t.invocation) && (port == p)) || has_looked old l t p)
