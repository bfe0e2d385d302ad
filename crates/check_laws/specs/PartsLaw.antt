-- What the checks of an operator's clauses give.
use Rattle.std.specs.Prelude.{◌≡◌, IsTrue, false, List, [], map, length, Ok}
use Rattle.spl_tree.specs.declared.graph.Op.{Op}
use Rattle.spl_tree.specs.declared.unit.Clauses.{Clauses}
use Rattle.spl_tree.specs.declared.unit.OutputStream.{OutputStream}
use Rattle.language_model.specs.declared.checked.CheckedClauses.{CheckedClauses}
use Rattle.language_model.specs.Checking.{clauses_checked, fit_ports}
use Rattle.language_model.specs.parts.Checking.{outputs_checked}
use Rattle.language_model.specs.FitLaws.{DollarsFit}
use Rattle.language_model.specs.Keeping.{PartFits}
use Rattle.language_model.specs.LogicTyping.{Surroundings}
use Rattle.language_model.specs.ParameterTyping.{Site}
use Rattle.language_model.specs.StreamTypes.{passed}

-- the clauses of an operator that are accepted fit its ports
abbrev pub PartsLaw : Type 0
PartsLaw = (site : Site) (op : Op) (around : Surroundings) (clauses : Clauses) (part : CheckedClauses) → around.scope ≡ site.scope → site.scope.vars ≡ [] → site.scope.punct ≡ false
    → DollarsFit site.scope.dollars
    → IsTrue (fit_ports op.kind (length site.scope.ports) (length around.schemas))
    → (os : List OutputStream) → length os ≡ length around.schemas → outputs_checked op.kind os around.schemas (map (λ p. p.schema) site.scope.ports) ≡ passed
    → clauses_checked op site around clauses ≡ Ok part
    → PartFits site.scope op.kind (map (λ p. p.schema) site.scope.ports) around.schemas part
