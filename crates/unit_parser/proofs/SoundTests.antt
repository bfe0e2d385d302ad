-- What a token is that passes a test.
use Rattle.std.proofs.Common.{◌≡◌, true, [], ◌∷◌, Some, None, refl}
use Rattle.std.specs.Option.{is_some, unwrap_or}
use Rattle.spl_tree.specs.declared.keyword.Keyword.{Keyword}
use Rattle.spl_tree.specs.declared.keyword.Keyword.TheVariants as K
use Rattle.spl_tree.specs.declared.shape.TypeKind.TheVariants as Y
use Rattle.spl_tree.specs.declared.token.Token.{Token}
use Rattle.spl_tree.specs.declared.token.TokenKind.{TokenKind}
use Rattle.spl_tree.specs.declared.token.TokenKind.TheVariants as T
use Rattle.spl_tree.specs.Trees.{placed}
use Rattle.spl_tree.specs.spellings.TypeGrammar.{SpellsType, boolean, rstring, int, left_out, name}
use Rattle.spl_tree.specs.Operators.{assignment_of}
use Rattle.statement_parser.specs.Lines.{keyword_type, type_kind, is_type, type_of, dollar_kind, is_dollar, is_assignment, assignment_at}
use Rattle.expr_parser.proofs.TestLaws.{unwrap_or-is_some}

-- a type by itself
pub is_type-true : (t : Token) → is_type t ≡ true → SpellsType (type_of t) (t ∷ [])
is_type-true t e = by t.kind refl e
  where
    by_keyword : (k : Keyword) → t.kind ≡ T.Keyword k → is_some (keyword_type k) ≡ true
        → SpellsType (placed t.start (unwrap_or (keyword_type k) Y.Boolean)) (t ∷ [])
    by_keyword K.Boolean is e = boolean t is
    by_keyword K.Rstring is e = rstring t is
    by_keyword (K.Int kind) is e = int t kind is
    by_keyword (K.LeftOut word) is e = left_out t word is
    by_keyword _ is e = absurd (cc)

    by : (x : TokenKind) → t.kind ≡ x → is_some (type_kind x) ≡ true → SpellsType (placed t.start (unwrap_or (type_kind x) Y.Boolean)) (t ∷ [])
    by (T.Word n) is e = name t n is
    by (T.Keyword k) is e = by_keyword k is e
    by _ is e = absurd (cc)

-- a name after a `$`
pub is_dollar-true : (t : Token) → is_dollar t ≡ true → t.kind ≡ T.Dollar (unwrap_or (dollar_kind t.kind) [])
is_dollar-true t e = by t.kind e
  where
    by : (x : TokenKind) → is_some (dollar_kind x) ≡ true → x ≡ T.Dollar (unwrap_or (dollar_kind x) [])
    by (T.Dollar n) e = refl
    by _ e = absurd (cc)

-- the operator of an assignment
pub is_assignment-true : (t : Token) → is_assignment t ≡ true → assignment_of t.kind ≡ Some (assignment_at t)
is_assignment-true t e = unwrap_or-is_some (assignment_of t.kind) None e
