-- Which tokens spell a type, attributes and a shape, by a relation for each kind of phrase.
use Rattle.std.specs.Prelude.{ℕ, List, [], ◌∷◌, ◌++◌}
use Rattle.spl_value.specs.declared.types.IntKind.{IntKind}
use Rattle.spl_tree.specs.declared.keyword.Keyword.TheVariants as K
use Rattle.spl_tree.specs.declared.keyword.LeftOut.{LeftOut}
use Rattle.spl_tree.specs.declared.shape.Attribute.{Attribute}
use Rattle.spl_tree.specs.declared.shape.ShapeKind.TheVariants as H
use Rattle.spl_tree.specs.declared.shape.TypeKind.TheVariants as Y
use Rattle.spl_tree.specs.declared.symbol.Symbol.TheVariants as S
use Rattle.spl_tree.specs.declared.token.Token.{Token}
use Rattle.spl_tree.specs.Trees.{TypeExpr, Shape, placed}
use Rattle.spl_tree.specs.spellings.Grammar.{Is, Names}
use Rattle.spl_tree.specs.spellings.Phrases.{IsKeyword}

-- a type, and the name of what is of it
abbrev pub named : TypeExpr → Token → List ℕ → Attribute TypeExpr
named k t n = record { kind = k; name = placed t.start n }

mutual
  pub data SpellsType : TypeExpr → List Token → Type 0 where
    boolean : (t : Token) → IsKeyword K.Boolean t → SpellsType (placed t.start Y.Boolean) (t ∷ [])
    rstring : (t : Token) → IsKeyword K.Rstring t → SpellsType (placed t.start Y.Rstring) (t ∷ [])
    int : (t : Token) (k : IntKind) → IsKeyword (K.Int k) t → SpellsType (placed t.start (Y.Int k)) (t ∷ [])
    left_out : (t : Token) (w : LeftOut) → IsKeyword (K.LeftOut w) t → SpellsType (placed t.start (Y.LeftOut w)) (t ∷ [])
    name : (t : Token) (n : List ℕ) → Names n t → SpellsType (placed t.start (Y.Name n)) (t ∷ [])
    list : (t o c : Token) (e : TypeExpr) (a : List Token) → IsKeyword K.List t → Is S.Less o → SpellsType e a → Is S.Greater c
        → SpellsType (placed t.start (Y.List e)) (t ∷ o ∷ (a ++ c ∷ []))
    map : (t o m c : Token) (k v : TypeExpr) (a b : List Token) → IsKeyword K.Map t → Is S.Less o → SpellsType k a → Is S.Comma m → SpellsType v b → Is S.Greater c
        → SpellsType (placed t.start (Y.Map k v)) (t ∷ o ∷ (a ++ m ∷ (b ++ c ∷ [])))
    tuple : (t o c : Token) (xs : List (Attribute TypeExpr)) (a : List Token) → IsKeyword K.Tuple t → Is S.Less o → SpellsAttributes xs a → Is S.Greater c
        → SpellsType (placed t.start (Y.Tuple xs)) (t ∷ o ∷ (a ++ c ∷ []))

  -- types with names, one or more, with commas between them
  pub data SpellsAttributes : List (Attribute TypeExpr) → List Token → Type 0 where
    first_attribute : (k : TypeExpr) (t : Token) (n : List ℕ) (a : List Token) → SpellsType k a → Names n t → SpellsAttributes (named k t n ∷ []) (a ++ t ∷ [])
    next_attribute : (xs : List (Attribute TypeExpr)) (k : TypeExpr) (c t : Token) (n : List ℕ) (a b : List Token) → SpellsAttributes xs a → Is S.Comma c
        → SpellsType k b → Names n t → SpellsAttributes (xs ++ named k t n ∷ []) (a ++ c ∷ (b ++ t ∷ []))

-- a type, or attributes as between the brackets of a tuple type
pub data SpellsShape : Shape → List Token → Type 0 where
  plain : (k : TypeExpr) (a : List Token) → SpellsType k a → SpellsShape (placed k.at (H.Type k)) a
  attributes : (x : Attribute TypeExpr) (xs : List (Attribute TypeExpr)) (a : List Token) → SpellsAttributes (x ∷ xs) a
      → SpellsShape (placed x.kind.at (H.Attributes (x ∷ xs))) a

-- the parameters of a function: types with names, or none
pub data SpellsFunctionParameters : List (Attribute TypeExpr) → List Token → Type 0 where
  no_parameters : SpellsFunctionParameters [] []
  parameters : (xs : List (Attribute TypeExpr)) (a : List Token) → SpellsAttributes xs a → SpellsFunctionParameters xs a
