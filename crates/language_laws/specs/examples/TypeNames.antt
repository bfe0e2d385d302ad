-- Some definitions of types, in which names lead to each other.
use Rattle.std.specs.Prelude.{ℕ, List, [], ◌∷◌, codes}
use Rattle.spl_value.specs.declared.types.IntKind.TheVariants as N
use Rattle.spl_tree.specs.declared.keyword.LeftOut.TheVariants as L
use Rattle.spl_tree.specs.declared.shape.ShapeKind.TheVariants as H
use Rattle.spl_tree.specs.declared.shape.TypeKind.TheVariants as Y
use Rattle.spl_tree.specs.declared.unit.TypeDefinition.{TypeDefinition}
use Rattle.spl_tree.specs.Trees.{placed, TypeExpr}

-- a name in a type, at a place
abbrev pub name_type : ℕ → List ℕ → TypeExpr
name_type at name = placed at (Y.Name name)

abbrev pub as_shape : TypeExpr → List ℕ → TypeDefinition
as_shape t name = record { name = placed 0 name; shape = placed t.at (H.Type t) }

-- type Id = int32; Row = Id id, list<Text> texts; Text = rstring; Old = float64; A = list<B>; B = map<Id, A>; C = list<B>;
abbrev pub seven_types : List TypeDefinition
seven_types =
    as_shape (placed 10 (Y.Int N.I32)) (codes "Id")
    ∷ record {
      name = placed 0 (codes "Row");
      shape = placed 20 (H.Attributes (
          record { kind = name_type 20 (codes "Id"); name = placed 23 (codes "id") }
          ∷ record { kind = placed 27 (Y.List (name_type 32 (codes "Text"))); name = placed 38 (codes "texts") } ∷ []));
    }
    ∷ as_shape (placed 50 Y.Rstring) (codes "Text")
    ∷ as_shape (placed 60 (Y.LeftOut L.Float64)) (codes "Old")
    ∷ as_shape (placed 70 (Y.List (name_type 75 (codes "B")))) (codes "A")
    ∷ as_shape (placed 80 (Y.Map (name_type 84 (codes "Id")) (name_type 88 (codes "A")))) (codes "B")
    ∷ as_shape (placed 90 (Y.List (name_type 95 (codes "B")))) (codes "C")
    ∷ []
