-- A type is spelled by its line.
use Rattle.std.proofs.Common.{◌≡◌, ℕ, List, [], ◌∷◌, Some, refl}
use Rattle.spl_tree.specs.declared.shape.TypeKind.{TypeKind}
use Rattle.spl_tree.specs.declared.token.Token.{Token}
use Rattle.spl_tree.specs.Trees.{placed, TypeExpr}
use Rattle.spl_tree.specs.spellings.TypeGrammar as G
use Rattle.spl_tree.specs.spellings.TypeGrammar.{SpellsType}
use Rattle.grammar_laws.specs.Pieces.{one, joined, first}
use Rattle.grammar_laws.specs.Lines.{TypeLine, boolean, rstring, integer, left_out, name, list, map, tuple, TypeLineLaw}

-- what a line makes is a type
type_is : {k : TypeKind} (at : ℕ) {ts : List Token} → TypeLine k ts → first ts ≡ Some at → SpellsType (placed at k) ts
type_is at (boolean _ (one t is)) e = let same : t.start ≡ at = cc in rw (← same) (G.boolean t is)
type_is at (rstring _ (one t is)) e = let same : t.start ≡ at = cc in rw (← same) (G.rstring t is)
type_is at (integer k _ (one t is)) e = let same : t.start ≡ at = cc in rw (← same) (G.int t k is)
type_is at (left_out w _ (one t is)) e = let same : t.start ≡ at = cc in rw (← same) (G.left_out t w is)
type_is at (name n _ (one t is)) e = let same : t.start ≡ at = cc in rw (← same) (G.name t n is)
type_is at (list k _ (joined _ _ (one t is) (joined _ _ (one o left) (joined a _ d (one c right))))) e =
    let same : t.start ≡ at = cc in rw (← same) (G.list t o c k a is left d right)
type_is at (map k v _ (joined _ _ (one t is) (joined _ _ (one o left) (joined a _ d (joined _ _ (one m comma) (joined b _ f (one c right))))))) e =
    let same : t.start ≡ at = cc in rw (← same) (G.map t o m c k v a b is left d comma f right)
type_is at (tuple xs _ (joined _ _ (one t is) (joined _ _ (one o left) (joined a _ d (one c right))))) e =
    let same : t.start ≡ at = cc in rw (← same) (G.tuple t o c xs a is left d right)

-- and a type has its line
is_type : {k : TypeExpr} {ts : List Token} → SpellsType k ts → TypeLine k.what ts × (first ts ≡ Some k.at)
is_type (G.boolean t is) = (boolean (t ∷ []) (one t is), refl)
is_type (G.rstring t is) = (rstring (t ∷ []) (one t is), refl)
is_type (G.int t k is) = (integer k (t ∷ []) (one t is), refl)
is_type (G.left_out t w is) = (left_out w (t ∷ []) (one t is), refl)
is_type (G.name t n is) = (name n (t ∷ []) (one t is), refl)
is_type (G.list t o c k a is left d right) = (list k _ (joined (t ∷ []) _ (one t is) (joined (o ∷ []) _ (one o left) (joined a _ d (one c right)))), refl)
is_type (G.map t o m c k v a b is left d comma f right) =
    (map k v _ (joined (t ∷ []) _ (one t is) (joined (o ∷ []) _ (one o left) (joined a _ d (joined (m ∷ []) _ (one m comma) (joined b _ f (one c right)))))), refl)
is_type (G.tuple t o c xs a is left d right) = (tuple xs _ (joined (t ∷ []) _ (one t is) (joined (o ∷ []) _ (one o left) (joined a _ d (one c right)))), refl)

-- a type is spelled by its line
pub type_line_law : TypeLineLaw
type_line_law k ts = (is_type, λ h. type_is k.at h.0 h.1)
