-- Some units, as trees.
use Rattle.std.specs.Prelude.{ℕ, List, [], ◌∷◌, Some, None, codes}
use Rattle.spl_value.specs.declared.types.IntKind.TheVariants as N
use Rattle.spl_tree.specs.declared.expression.ExprKind.TheVariants as X
use Rattle.spl_tree.specs.declared.shape.ShapeKind.TheVariants as H
use Rattle.spl_tree.specs.declared.shape.TypeKind.TheVariants as Y
use Rattle.spl_tree.specs.declared.statement.StmtKind.TheVariants as Z
use Rattle.spl_tree.specs.declared.unit.Definition.{Definition}
use Rattle.spl_tree.specs.declared.unit.Definition.TheVariants as D
use Rattle.spl_tree.specs.Trees.{Expr, placed, Stmt}

abbrev pub expr_named : ℕ → List ℕ → Expr
expr_named at n = placed at (X.Name n)

-- type T=int8 a,U b;
abbrev pub type_of_two : List Definition
type_of_two =
    D.Type (record {
      name = placed 5 (codes "T");
      shape = placed 7 (H.Attributes (
          record { kind = placed 7 (Y.Int N.I8); name = placed 12 (codes "a") }
          ∷ record { kind = placed 14 (Y.Name (codes "U")); name = placed 16 (codes "b") } ∷ []));
    }) ∷ []

-- if(b)return;else return;
abbrev pub inner_if : Stmt
inner_if = placed 14 (Z.If ((expr_named 17 (codes "b"), placed 19 (Z.Return None)) ∷ []) (Some (placed 31 (Z.Return None))))

-- void f(){if(a)if(b)return;else return;}
abbrev pub nearest_else : List Definition
nearest_else =
    D.Function (record {
      result = None;
      name = placed 5 (codes "f");
      parameters = [];
      body = placed 9 (Z.If ((expr_named 12 (codes "a"), inner_if) ∷ []) None) ∷ [];
    }) ∷ []

-- composite M{graph()as S=F(A){config x:y;}}
abbrev pub alias_alone : List Definition
alias_alone =
    D.Composite (record {
      name = placed 10 (codes "M");
      outputs = [];
      inputs = [];
      parameters = [];
      types = [];
      graph = record {
        at = 17;
        outputs = [];
        alias = Some (placed 22 (codes "S"));
        operator = placed 24 (codes "F");
        inputs = record { streams = placed 26 (codes "A") ∷ []; alias = None } ∷ [];
        clauses = record {
          logic = None;
          window = None;
          parameters = [];
          output = None;
          config = record { name = placed 36 (codes "x"); values = expr_named 38 (codes "y") ∷ [] } ∷ [];
        };
      } ∷ [];
      config = [];
    }) ∷ []
