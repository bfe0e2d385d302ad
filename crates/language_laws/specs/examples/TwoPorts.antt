-- Scopes with two ports, and an expression in them, for examples of what names mean.
use Rattle.std.specs.Prelude.{ℕ, false, List, [], ◌∷◌, codes}
use Rattle.spl_value.specs.declared.types.IntKind.TheVariants.{I32}
use Rattle.spl_value.specs.declared.types.Named.{Named}
use Rattle.spl_value.specs.declared.types.SplType.{SplType}
use Rattle.spl_value.specs.declared.types.SplType.TheVariants as S
use Rattle.spl_tree.specs.Trees.{Expr, placed}
use Rattle.spl_tree.specs.declared.expression.BinaryOperator.TheVariants as B
use Rattle.spl_tree.specs.declared.expression.ExprKind.TheVariants as E
use Rattle.spl_tree.specs.declared.expression.Step.TheVariants as N
use Rattle.language_model.specs.declared.scope.Scope.{Scope}
use Rattle.language_model.specs.declared.scope.Variable.{Variable}

abbrev pub number : List ℕ → Named SplType
number name = record { name = name; kind = S.Int I32 }

-- these variables, the port `A` with the attributes `k` and `n`, and a port of this name with `k` and `m`
abbrev pub two_ports : List Variable → List ℕ → Scope
two_ports vars second =
    record {
      vars = vars;
      ports =
          record { name = codes "A"; schema = number (codes "k") ∷ number (codes "n") ∷ [] }
          ∷ record { name = second; schema = number (codes "k") ∷ number (codes "m") ∷ [] } ∷ [];
      functions = [];
      unresolved = [];
      dollars = [];
      punct = false;
    }

abbrev pub variable : List ℕ → Variable
variable name = record { name = name; kind = S.Int I32; mutable = false }

-- `A.k < m`
abbrev pub comparison : Expr
comparison = placed 0 (E.Binary B.Less (placed 0 (E.Select (placed 0 (E.Name (codes "A"))) (N.Member (placed 2 (codes "k")) ∷ []))) (placed 6 (E.Name (codes "m"))))
