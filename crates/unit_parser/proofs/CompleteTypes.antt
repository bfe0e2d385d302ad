-- What is spelled as a type, as attributes or as a shape is read.
use Rattle.std.proofs.Common.{◌≡◌, ℕ, Bool, true, false, List, [], ◌∷◌, ◌++◌, refl, sym, ap, subst, append_assoc}
use Rattle.spl_tree.specs.declared.keyword.Keyword.{Keyword}
use Rattle.spl_tree.specs.declared.keyword.Keyword.TheVariants as K
use Rattle.spl_tree.specs.declared.shape.Attribute.{Attribute}
use Rattle.spl_tree.specs.declared.shape.ShapeKind.TheVariants as H
use Rattle.spl_tree.specs.declared.symbol.Symbol.{Symbol}
use Rattle.spl_tree.specs.declared.symbol.Symbol.TheVariants as S
use Rattle.spl_tree.specs.declared.token.Token.{Token}
use Rattle.spl_tree.specs.declared.token.TokenKind.{TokenKind}
use Rattle.spl_tree.specs.declared.token.TokenKind.TheVariants as T
use Rattle.spl_tree.specs.Operators.{is_symbol}
use Rattle.spl_tree.specs.Trees.{placed, TypeExpr, Shape}
use Rattle.spl_tree.specs.spellings.Grammar.{Is}
use Rattle.spl_tree.specs.spellings.StatementGrammar.{BeginsAt, begins}
use Rattle.spl_tree.specs.spellings.TypeGrammar.{named, SpellsType, boolean, rstring, int, left_out, name, list, map, tuple, SpellsAttributes, first_attribute, next_attribute, SpellsShape, plain, attributes, SpellsFunctionParameters, no_parameters, parameters}
use Rattle.expr_parser.specs.Rules.{done, stop, RuleResult, Took, RunsTo, Reads}
use Rattle.expr_parser.proofs.RuleLaws.{line, runs_done, runs_call}
use Rattle.spl_tree.specs.spellings.Phrases.{IsKeyword}
use Rattle.statement_parser.specs.Lines.{rule, R, is_type, type_of, a_type, TypeExpression, ListType, MapType, TupleType, Attributes, MoreAttributes, Shaped, FunctionParameters}
use Rattle.statement_parser.proofs.CompleteParts.{Heads, no_symbol, takes, skips, expects, only}

-- What a type begins with

-- reserved words that begin a type
abbrev pub type_word : Keyword → Bool
type_word K.Boolean = true
type_word K.Rstring = true
type_word (K.Int kind) = true
type_word (K.LeftOut word) = true
type_word K.List = true
type_word K.Map = true
type_word K.Tuple = true
type_word _ = false

-- tokens that begin one
abbrev pub type_kinds : TokenKind → Bool
type_kinds (T.Word n) = true
type_kinds (T.Keyword k) = type_word k
type_kinds _ = false

pub type_begins : {k : TypeExpr} {a : List Token} → SpellsType k a → (rest : List Token) → Heads type_kinds (a ++ rest)
type_begins (boolean t e) rest = rw e refl
type_begins (rstring t e) rest = rw e refl
type_begins (int t k e) rest = rw e refl
type_begins (left_out t w e) rest = rw e refl
type_begins (name t n e) rest = rw e refl
type_begins (list t o c k a e left d right) rest = rw e refl
type_begins (map t o m c k v a b e left dk comma dv right) rest = rw e refl
type_begins (tuple t o c xs a e left d right) rest = rw e refl

pub attributes_begin : {xs : List (Attribute TypeExpr)} {a : List Token} → SpellsAttributes xs a → (rest : List Token) → Heads type_kinds (a ++ rest)
attributes_begin (first_attribute k t n a d e) rest = rw (append_assoc a (t ∷ []) rest) (type_begins d (t ∷ rest))
attributes_begin (next_attribute xs k c t n a b ds comma d e) rest =
    rw (append_assoc a (c ∷ (b ++ t ∷ [])) rest) (attributes_begin ds (c ∷ ((b ++ t ∷ []) ++ rest)))

-- Types and attributes

-- attributes end at the symbol that closes them
pub attributes_end : (close : Symbol) (c : Token) (rest : List Token) (xs : List (Attribute TypeExpr)) → is_symbol S.Comma (T.Symbol close) ≡ false → Is close c
    → Reads rule (MoreAttributes close xs) (c ∷ rest) (Took xs rest)
unfolding rule
attributes_end close c rest xs no_comma right = line (skips (rw right no_comma) (expects right runs_done))

-- how a type begins: it is its first token, or a line after that token gives it
data Front (k : TypeExpr) : List Token → List Token → Type 0 where
  alone : (t : Token) (rest : List Token) → is_type t ≡ true → type_of t ≡ k → Front k (t ∷ rest) rest
  of_list : (t : Token) (ts rest : List Token) → IsKeyword K.List t → Reads rule (ListType t.start) ts (Took k rest) → Front k (t ∷ ts) rest
  of_map : (t : Token) (ts rest : List Token) → IsKeyword K.Map t → Reads rule (MapType t.start) ts (Took k rest) → Front k (t ∷ ts) rest
  of_tuple : (t : Token) (ts rest : List Token) → IsKeyword K.Tuple t → Reads rule (TupleType t.start) ts (Took k rest) → Front k (t ∷ ts) rest

-- so it is read where one may come
front_reads : {A : Type 0} (r : TypeExpr → R A) (other : R A) {o : RuleResult A} {k : TypeExpr} {ts rest : List Token} → Front k ts rest
    → RunsTo rule (r k) rest o → RunsTo rule (a_type r other) ts o
front_reads r other (alone t rest e is) s = takes e (rw is s)
front_reads r other (of_list t ts rest e d) s = skips (rw e refl) (takes (rw e refl) (runs_call d s))
front_reads r other (of_map t ts rest e d) s = skips (rw e refl) (skips (rw e refl) (takes (rw e refl) (runs_call d s)))
front_reads r other (of_tuple t ts rest e d) s = skips (rw e refl) (skips (rw e refl) (skips (rw e refl) (takes (rw e refl) (runs_call d s))))

-- and as a type
front_type : {k : TypeExpr} {ts rest : List Token} → Front k ts rest → Reads rule TypeExpression ts (Took k rest)
unfolding rule
front_type d = line (front_reads done stop d runs_done)

mutual
  unfolding rule

  -- each type begins so
  front : {k : TypeExpr} {a : List Token} → SpellsType k a → (rest : List Token) → Front k (a ++ rest) rest
  front (boolean t e) rest = alone t rest (rw e refl) (rw e refl)
  front (rstring t e) rest = alone t rest (rw e refl) (rw e refl)
  front (int t k e) rest = alone t rest (rw e refl) (rw e refl)
  front (left_out t w e) rest = alone t rest (rw e refl) (rw e refl)
  front (name t n e) rest = alone t rest (rw e refl) (rw e refl)
  front (list t o c k a e left d right) rest = rw (append_assoc a (c ∷ []) rest)
      (of_list t (o ∷ (a ++ c ∷ rest)) rest e (line (expects left (runs_call (front_type (front d (c ∷ rest))) (expects right runs_done)))))
  front (map t o m c k v a b e left dk comma dv right) rest = rw (append_assoc a (m ∷ (b ++ c ∷ [])) rest, append_assoc b (c ∷ []) rest)
      (of_map t (o ∷ (a ++ m ∷ (b ++ c ∷ rest))) rest e (line (expects left (runs_call (front_type (front dk (m ∷ (b ++ c ∷ rest)))) (expects comma
      (runs_call (front_type (front dv (c ∷ rest))) (expects right runs_done)))))))
  front (tuple t o c xs a e left d right) rest = rw (append_assoc a (c ∷ []) rest)
      (of_tuple t (o ∷ (a ++ c ∷ rest)) rest e
      (line (expects left (runs_call (attributes_reads d S.Greater (c ∷ rest) (attributes_end S.Greater c rest xs refl right)) runs_done))))

  -- attributes, and then what comes after them
  pub attributes_reads : {xs : List (Attribute TypeExpr)} {a : List Token} → SpellsAttributes xs a → (close : Symbol) (rest : List Token)
      {w : List (Attribute TypeExpr)} {out : List Token} → Reads rule (MoreAttributes close xs) rest (Took w out) → Reads rule (Attributes close []) (a ++ rest) (Took w out)
  attributes_reads (first_attribute k t n a d e) close rest s = rw (append_assoc a (t ∷ []) rest)
      (line (runs_call (front_type (front d (t ∷ rest))) (takes (rw e refl) (rw e (only s)))))
  attributes_reads (next_attribute xs k c t n a b ds comma d e) close rest s = rw (append_assoc a (c ∷ (b ++ t ∷ [])) rest, append_assoc b (t ∷ []) rest)
      (attributes_reads ds close (c ∷ (b ++ t ∷ rest)) (line (takes (rw comma refl)
      (runs_call (line (runs_call (front_type (front d (t ∷ rest))) (takes (rw e refl) (rw e (only s))))) runs_done))))

-- a type, where one may come
pub a_type_reads : {A : Type 0} (r : TypeExpr → R A) (other : R A) {o : RuleResult A} {k : TypeExpr} {a : List Token} → SpellsType k a → (rest : List Token)
    → RunsTo rule (r k) rest o → RunsTo rule (a_type r other) (a ++ rest) o
a_type_reads r other d rest s = front_reads r other (front d rest) s

-- a type
pub type_reads : {k : TypeExpr} {a : List Token} → SpellsType k a → (rest : List Token) → Reads rule TypeExpression (a ++ rest) (Took k rest)
type_reads d rest = front_type (front d rest)

-- the parameters of a function
pub parameters_reads : {xs : List (Attribute TypeExpr)} {a : List Token} → SpellsFunctionParameters xs a → (c : Token) (rest : List Token) → Is S.RightParen c
    → Reads rule FunctionParameters (a ++ c ∷ rest) (Took xs rest)
unfolding rule
parameters_reads no_parameters c rest right = line (takes (rw right refl) runs_done)
parameters_reads (parameters xs a d) c rest right =
    line (skips (no_symbol type_kinds S.RightParen refl (a ++ c ∷ rest) (attributes_begin d (c ∷ rest)))
    (only (attributes_reads d S.RightParen (c ∷ rest) (attributes_end S.RightParen c rest xs refl right))))

-- Shapes

-- what a shape that begins with these attributes gives, where these tokens come after them
record Begun (close : Symbol) (xs : List (Attribute TypeExpr)) (a rest : List Token) : Type 0 where
  first : Attribute TypeExpr
  others : List (Attribute TypeExpr)
  is : xs ≡ first ∷ others
  goes : {w : List (Attribute TypeExpr)} {out : List Token} → Reads rule (MoreAttributes close xs) rest (Took w out)
      → Reads rule (Shaped close) (a ++ rest) (Took (placed first.kind.at (H.Attributes w)) out)

-- attributes begin a shape
shape_begins : {xs : List (Attribute TypeExpr)} {a : List Token} → SpellsAttributes xs a → (close : Symbol) (rest : List Token) → Begun close xs a rest
unfolding rule
shape_begins (first_attribute k t n a d e) close rest = record {
  first = named k t n;
  others = [];
  is = refl;
  goes = λ s. rw (append_assoc a (t ∷ []) rest) (line (runs_call (type_reads d (t ∷ rest)) (takes (rw e refl) (rw e (runs_call s runs_done)))));
}
shape_begins (next_attribute xs k c t n a b ds comma d e) close rest =
    let begun = shape_begins ds close (c ∷ (b ++ t ∷ rest)) in
    record {
      first = begun.first;
      others = begun.others ++ named k t n ∷ [];
      is = ap (λ ys. ys ++ named k t n ∷ []) begun.is;
      goes = λ s. rw (append_assoc a (c ∷ (b ++ t ∷ [])) rest, append_assoc b (t ∷ []) rest)
          (begun.goes (line (takes (rw comma refl) (runs_call (line (runs_call (type_reads d (t ∷ rest)) (takes (rw e refl) (rw e (only s))))) runs_done))));
    }

-- a shape up to the symbol that closes it
pub shape_reads : {h : Shape} {a : List Token} → SpellsShape h a → (close : Symbol) (c : Token) (rest : List Token) → is_symbol S.Comma (T.Symbol close) ≡ false
    → Is close c → Reads rule (Shaped close) (a ++ c ∷ rest) (Took h rest)
unfolding rule
shape_reads (plain k a d) close c rest no_comma right =
    line (runs_call (type_reads d (c ∷ rest)) (skips (rw right refl) (expects right runs_done)))
shape_reads (attributes x xs a d) close c rest no_comma right =
    let begun = shape_begins d close (c ∷ rest) in
    let is = begun.is in
    let same : x ≡ begun.first = cc in
    subst (λ (y : Attribute TypeExpr). Reads rule (Shaped close) (a ++ c ∷ rest) (Took (placed y.kind.at (H.Attributes (x ∷ xs))) rest)) (sym same)
    (begun.goes (attributes_end close c rest (x ∷ xs) no_comma right))

-- Where a type stands

-- it is placed at its first token
pub type_at : {k : TypeExpr} {a : List Token} → SpellsType k a → BeginsAt k.at a
type_at (boolean t e) = begins t []
type_at (rstring t e) = begins t []
type_at (int t k e) = begins t []
type_at (left_out t w e) = begins t []
type_at (name t n e) = begins t []
type_at (list t o c k a e left d right) = begins t (o ∷ (a ++ c ∷ []))
type_at (map t o m c k v a b e left dk comma dv right) = begins t (o ∷ (a ++ m ∷ (b ++ c ∷ [])))
type_at (tuple t o c xs a e left d right) = begins t (o ∷ (a ++ c ∷ []))

-- tokens begin at one place, whatever comes after them
pub at_one : {m n : ℕ} {a : List Token} (b : List Token) → BeginsAt m a → BeginsAt n (a ++ b) → m ≡ n
at_one b (begins t a) y = by y refl
  where
    by : {n : ℕ} {c : List Token} → BeginsAt n c → c ≡ t ∷ (a ++ b) → t.start ≡ n
    by (begins u c) same = let first : u ≡ t = cc in sym (ap (λ x. x.start) first)
