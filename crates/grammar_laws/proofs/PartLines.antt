-- The parts of statements and types are spelled by their lines.
use Rattle.std.proofs.Common.{ℕ, Bool, true, List, [], ◌∷◌, ◌++◌, Option, Some}
use Rattle.spl_tree.specs.declared.expression.ExprKind.TheVariants as X
use Rattle.spl_tree.specs.declared.expression.Placed.{Placed}
use Rattle.spl_tree.specs.declared.expression.Step.{Step}
use Rattle.spl_tree.specs.declared.keyword.Keyword.TheVariants as K
use Rattle.spl_tree.specs.declared.shape.Attribute.{Attribute}
use Rattle.spl_tree.specs.declared.statement.Declaration.{Declaration}
use Rattle.spl_tree.specs.declared.symbol.Symbol.TheVariants as S
use Rattle.spl_tree.specs.declared.token.Token.{Token}
use Rattle.spl_tree.specs.Trees.{Expr, placed, TypeExpr, Stmt}
use Rattle.spl_tree.specs.spellings.Grammar.{Elements, Steps, Spells}
use Rattle.spl_tree.specs.spellings.TypeGrammar as Q
use Rattle.spl_tree.specs.spellings.TypeGrammar.{SpellsType, SpellsAttributes}
use Rattle.spl_tree.specs.spellings.StatementGrammar as G
use Rattle.spl_tree.specs.spellings.StatementGrammar.{SpellsPlace, SpellsCall, SpellsValue, SpellsMutable, SpellsDeclaration, SpellsStmt, SpellsStmts, SpellsBlock}
use Rattle.grammar_laws.specs.Pieces.{one, word, sign, Name, name, In, joined}
use Rattle.grammar_laws.specs.Lines.{PartLines}

variable : (n : Placed (List ℕ)) (ts : List Token) → Name n ts → SpellsPlace (placed n.at (X.Name n.what)) ts
variable _ _ (name t n named) = G.variable t n named

taken : (n : Placed (List ℕ)) (s : Step Expr) (ss : List (Step Expr)) (ts : List Token) → In (Name n ∷ Steps (s ∷ ss) ∷ []) ts
    → SpellsPlace (placed n.at (X.Select (placed n.at (X.Name n.what)) (s ∷ ss))) ts
taken _ s ss _ (joined _ a (name t n named) ds) = G.taken t n s ss a named ds

call : (n : Placed (List ℕ)) (es : List Expr) (ts : List Token) → In (Name n ∷ sign S.LeftParen ∷ Elements es ∷ sign S.RightParen ∷ []) ts
    → SpellsCall (placed n.at (X.Call n.what es)) ts
call _ es _ (joined _ _ (name t n named) (joined _ _ (one o left) (joined a _ d (one c right)))) = G.call t o c n es a named left d right

value : (e : Expr) (ts : List Token) → In (sign S.Assign ∷ Spells e ∷ []) ts → SpellsValue (Some e) ts
value e _ (joined _ a (one t assign) d) = G.value t e a assign d

mutable : (ts : List Token) → word K.Mutable ts → SpellsMutable true ts
mutable _ (one t is) = G.mutable t is

declaration_is : {m : Bool} {k : TypeExpr} {n : Placed (List ℕ)} {v : Option Expr} {ts : List Token}
    → In (SpellsMutable m ∷ SpellsType k ∷ Name n ∷ SpellsValue v ∷ sign S.Semicolon ∷ []) ts
    → SpellsDeclaration (record { mutable = m; kind = k; name = n; value = v }) ts
declaration_is {m} {k} {v = v} (joined a _ dm (joined b _ dk (joined _ _ (name t n named) (joined d _ dv (one s semicolon))))) =
    G.declaration m k t s n v a b d dm dk named dv semicolon

is_declaration : {d : Declaration} {ts : List Token} → SpellsDeclaration d ts
    → In (SpellsMutable d.mutable ∷ SpellsType d.kind ∷ Name d.name ∷ SpellsValue d.value ∷ sign S.Semicolon ∷ []) ts
is_declaration (G.declaration m k t s n v a b d dm dk named dv semicolon) =
    joined a _ dm (joined b _ dk (joined (t ∷ []) _ (name t n named) (joined d _ dv (one s semicolon))))

statements : (closed : Bool) (ss : List Stmt) (s : Stmt) (ts : List Token) → In (SpellsStmts ss ∷ SpellsStmt closed s ∷ []) ts → SpellsStmts (ss ++ s ∷ []) ts
statements closed ss s _ (joined a b ds d) = G.more_statements closed ss s a b ds d

block_is : {ss : List Stmt} {ts : List Token} → In (sign S.LeftBrace ∷ SpellsStmts ss ∷ sign S.RightBrace ∷ []) ts → SpellsBlock ss ts
block_is {ss} (joined _ _ (one o left) (joined a _ d (one c right))) = G.block_of o c ss a left d right

is_block : {ss : List Stmt} {ts : List Token} → SpellsBlock ss ts → In (sign S.LeftBrace ∷ SpellsStmts ss ∷ sign S.RightBrace ∷ []) ts
is_block (G.block_of o c ss a left d right) = joined (o ∷ []) _ (one o left) (joined a _ d (one c right))

attribute : (k : TypeExpr) (n : Placed (List ℕ)) (ts : List Token) → In (SpellsType k ∷ Name n ∷ []) ts → SpellsAttributes (record { kind = k; name = n } ∷ []) ts
attribute k _ _ (joined a _ d (name t n named)) = Q.first_attribute k t n a d named

attributes : (xs : List (Attribute TypeExpr)) (k : TypeExpr) (n : Placed (List ℕ)) (ts : List Token)
    → In (SpellsAttributes xs ∷ sign S.Comma ∷ SpellsType k ∷ Name n ∷ []) ts → SpellsAttributes (xs ++ record { kind = k; name = n } ∷ []) ts
attributes xs k _ _ (joined a _ ds (joined _ _ (one c comma) (joined b _ d (name t n named)))) = Q.next_attribute xs k c t n a b ds comma d named

pub part_lines : PartLines
part_lines = record {
  variable = variable;
  taken = taken;
  call = call;
  no_value = G.no_value;
  value = value;
  constant = G.constant;
  mutable = mutable;
  declaration = λ d ts. (is_declaration, declaration_is);
  no_statements = G.no_statements;
  statements = statements;
  block = λ ss ts. (is_block, block_is);
  attribute = attribute;
  attributes = attributes;
  type_shape = λ k ts d. Q.plain k ts d;
  shape = λ x xs ts d. Q.attributes x xs ts d;
  no_parameters = Q.no_parameters;
  parameters = λ xs ts d. Q.parameters xs ts d;
}
