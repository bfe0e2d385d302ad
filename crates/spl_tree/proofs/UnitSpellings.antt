-- How the tokens of some units spell them.
use Rattle.std.specs.Prelude.{◌≡◌, ℕ, suc, List, [], ◌∷◌, ◌++◌, None, true, false, codes}
use Rattle.std.proofs.Common.{refl}
use Rattle.spl_value.specs.declared.types.IntKind.TheVariants as N
use Rattle.spl_tree.specs.declared.keyword.Keyword.{Keyword}
use Rattle.spl_tree.specs.declared.keyword.Keyword.TheVariants as K
use Rattle.spl_tree.specs.declared.symbol.Symbol.{Symbol}
use Rattle.spl_tree.specs.declared.symbol.Symbol.TheVariants as S
use Rattle.spl_tree.specs.declared.token.Token.{Token}
use Rattle.spl_tree.specs.declared.token.TokenKind.{TokenKind}
use Rattle.spl_tree.specs.declared.token.TokenKind.TheVariants as T
use Rattle.spl_tree.specs.declared.expression.ExprKind.TheVariants as X
use Rattle.spl_tree.specs.declared.statement.StmtKind.TheVariants as Z
use Rattle.spl_tree.specs.Trees.{placed}
use Rattle.spl_tree.specs.spellings.Grammar.{Spells, plain, tighter, unary, operand, primary, name, first_item}
use Rattle.spl_tree.specs.spellings.Phrases as R
use Rattle.spl_tree.specs.spellings.TypeGrammar as Y
use Rattle.spl_tree.specs.spellings.StatementGrammar as Q
use Rattle.spl_tree.specs.spellings.UnitGrammar as U
use Rattle.spl_tree.specs.examples.Units.{type_of_two, inner_if, nearest_else, alias_alone}

abbrev pub token : TokenKind → ℕ → ℕ → Token
token k s e = record { kind = k; start = s; end = e }

abbrev pub word : Keyword → ℕ → ℕ → Token
word k s e = token (T.Keyword k) s e

abbrev pub name_token : List ℕ → ℕ → Token
name_token n s = token (T.Word n) s (suc s)

abbrev pub sign : Symbol → ℕ → Token
sign x s = token (T.Symbol x) s (suc s)

-- a name as an expression
pub named : (t : Token) (n : List ℕ) → t.kind ≡ T.Word n → Spells (placed t.start (X.Name n)) (t ∷ [])
named t n e =
    let operand = operand (placed t.start (X.Name n)) (t ∷ []) (primary _ _ (name t n e)) in
    plain _ _ (tighter 8 _ _ (tighter 7 _ _ (tighter 6 _ _ (tighter 5 _ _ (tighter 4 _ _ (tighter 3 _ _ (tighter 2 _ _ (tighter 1 _ _ (tighter 0 _ _ (unary _ _ operand))))))))))

-- type T=int8 a,U b;
abbrev pub attributes : List Token
attributes = word (K.Int N.I8) 7 11 ∷ name_token (codes "a") 12 ∷ sign S.Comma 13 ∷ name_token (codes "U") 14 ∷ name_token (codes "b") 16 ∷ []

pub spells_attributes : U.SpellsUnit type_of_two (word K.Type 0 4 ∷ name_token (codes "T") 5 ∷ sign S.Assign 6 ∷ (attributes ++ sign S.Semicolon 17 ∷ []))
spells_attributes =
    U.unit _ [] _ U.no_namespace (R.more [] _ [] _ R.none (U.a_typedef (word K.Type 0 4) _ _ refl
    (U.type_definition (name_token (codes "T") 5) (sign S.Assign 6) (sign S.Semicolon 17) (codes "T") _ attributes refl refl
    (Y.attributes _ _ attributes
    (Y.next_attribute _ _ (sign S.Comma 13) (name_token (codes "b") 16) (codes "b") (word (K.Int N.I8) 7 11 ∷ name_token (codes "a") 12 ∷ []) (name_token (codes "U") 14 ∷ [])
    (Y.first_attribute _ (name_token (codes "a") 12) (codes "a") (word (K.Int N.I8) 7 11 ∷ []) (Y.int (word (K.Int N.I8) 7 11) N.I8 refl) refl)
    refl (Y.name (name_token (codes "U") 14) (codes "U") refl) refl))
    refl)))

-- if(b)return;else return;
abbrev pub first_return : List Token
first_return = word K.Return 19 25 ∷ sign S.Semicolon 25 ∷ []

abbrev pub inner_arm : List Token
inner_arm = word K.If 14 16 ∷ sign S.LeftParen 16 ∷ (name_token (codes "b") 17 ∷ sign S.RightParen 18 ∷ first_return)

abbrev pub second_return : List Token
second_return = word K.Return 31 37 ∷ sign S.Semicolon 37 ∷ []

abbrev pub inner : List Token
inner = inner_arm ++ word K.Else 26 30 ∷ second_return

returns : (s e : ℕ) → Q.SpellsStmt true (placed s (Z.Return None)) (word K.Return s e ∷ sign S.Semicolon e ∷ [])
returns s e = Q.return (word K.Return s e) (sign S.Semicolon e) None [] refl Q.no_result refl

spells_inner : Q.SpellsStmt true inner_if inner
spells_inner =
    Q.if_else true 14 _ _ (word K.Else 26 30) inner_arm second_return
    (Q.first_arm true (word K.If 14 16) (sign S.LeftParen 16) (sign S.RightParen 18) _ _ (name_token (codes "b") 17 ∷ []) first_return refl refl
    (named (name_token (codes "b") 17) (codes "b") refl) refl (returns 19 25))
    refl (returns 31 37) (λ arms other e. cc)

-- void f(){if(a)if(b)return;else return;}
abbrev pub outer : List Token
outer = word K.If 9 11 ∷ sign S.LeftParen 11 ∷ name_token (codes "a") 12 ∷ sign S.RightParen 13 ∷ inner

spells_outer : Q.SpellsStmt false (placed 9 (Z.If ((placed 12 (X.Name (codes "a")), inner_if) ∷ []) None)) outer
spells_outer =
    Q.if_alone true 9 _ outer
    (Q.first_arm true (word K.If 9 11) (sign S.LeftParen 11) (sign S.RightParen 13) _ _ (name_token (codes "a") 12 ∷ []) inner refl refl
    (named (name_token (codes "a") 12) (codes "a") refl) refl spells_inner)

pub spells_nearest : U.SpellsUnit nearest_else (word K.Void 0 4 ∷ name_token (codes "f") 5 ∷ sign S.LeftParen 6 ∷ sign S.RightParen 7 ∷ sign S.LeftBrace 8 ∷ (outer ++ sign S.RightBrace 38 ∷ []))
spells_nearest =
    U.unit _ [] _ U.no_namespace (R.more [] _ [] _ R.none (U.a_function _ _
    (U.function None (name_token (codes "f") 5) (sign S.LeftParen 6) (sign S.RightParen 7) (codes "f") [] _ (word K.Void 0 4 ∷ []) [] (sign S.LeftBrace 8 ∷ (outer ++ sign S.RightBrace 38 ∷ []))
    (U.void (word K.Void 0 4) refl) refl refl Y.no_parameters refl
    (Q.block_of (sign S.LeftBrace 8) (sign S.RightBrace 38) _ outer refl (Q.more_statements false [] _ [] outer Q.no_statements spells_outer) refl))))

-- ()as S=F(A){config x:y;}
abbrev pub head : List Token
head = sign S.LeftParen 17 ∷ sign S.RightParen 18 ∷ word K.As 19 21 ∷ name_token (codes "S") 22 ∷ []

abbrev pub config : List Token
config = word K.Config 29 35 ∷ name_token (codes "x") 36 ∷ sign S.Colon 37 ∷ name_token (codes "y") 38 ∷ sign S.Semicolon 39 ∷ []

abbrev pub clauses : List Token
clauses = sign S.LeftBrace 28 ∷ (config ++ sign S.RightBrace 40 ∷ [])

abbrev pub invocation : List Token
invocation = head ++ sign S.Assign 23 ∷ name_token (codes "F") 24 ∷ sign S.LeftParen 25 ∷ name_token (codes "A") 26 ∷ sign S.RightParen 27 ∷ clauses

abbrev pub graph : List Token
graph = word K.Graph 12 17 ∷ invocation

spells_config : U.Clause K.Config U.SpellsParameter (record { name = placed 36 (codes "x"); values = placed 38 (X.Name (codes "y")) ∷ [] } ∷ []) config
spells_config =
    U.clause (word K.Config 29 35) _ _ refl (R.more [] _ [] _ R.none
    (U.parameter (name_token (codes "x") 36) (sign S.Colon 37) (sign S.Semicolon 39) (codes "x") _ (name_token (codes "y") 38 ∷ []) refl refl
    (first_item _ _ (named (name_token (codes "y") 38) (codes "y") refl)) refl))

spells_clauses : U.SpellsEnd (record { logic = None; window = None; parameters = []; output = None; config = record { name = placed 36 (codes "x"); values = placed 38 (X.Name (codes "y")) ∷ [] } ∷ [] }) clauses
spells_clauses =
    U.in_braces (sign S.LeftBrace 28) (sign S.RightBrace 40) _ config refl (U.clauses None None [] None _ [] [] [] [] config U.no_logic U.absent U.no_clause U.absent spells_config) refl

pub spells_alias : U.SpellsUnit alias_alone (word K.Composite 0 9 ∷ name_token (codes "M") 10 ∷ sign S.LeftBrace 11 ∷ (graph ++ sign S.RightBrace 41 ∷ []))
spells_alias =
    U.unit _ [] _ U.no_namespace (R.more [] _ [] _ R.none (U.a_composite _ _
    (U.composite (word K.Composite 0 9) (name_token (codes "M") 10) (sign S.LeftBrace 11) (sign S.RightBrace 41) (codes "M") [] [] [] [] _ [] [] [] [] [] graph []
    U.not_public refl refl U.no_ports refl U.no_clause U.no_clause
    (U.clause (word K.Graph 12 17) _ invocation refl (R.more [] _ [] invocation R.none
    (U.invocation 17 [] _ (sign S.Assign 23) (name_token (codes "F") 24) (sign S.LeftParen 25) (sign S.RightParen 27) (codes "F") _ _ head (name_token (codes "A") 26 ∷ []) clauses
    (U.no_stream (sign S.LeftParen 17) (sign S.RightParen 18) _ _ refl refl (U.alias (word K.As 19 21) (name_token (codes "S") 22) (codes "S") refl refl))
    (Q.begins (sign S.LeftParen 17) _) refl refl refl
    (R.some _ _ (R.first _ _ (U.input _ None (name_token (codes "A") 26 ∷ []) [] (R.first _ _ (U.name (name_token (codes "A") 26) (codes "A") refl)) U.no_alias)))
    refl spells_clauses)))
    U.no_clause refl)))
