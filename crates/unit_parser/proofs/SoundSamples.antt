-- Each line of units has a phrase.
use Rattle.std.proofs.Common.{Bool, true, false, List, [], ◌∷◌, ◌++◌, Option, Some, None, refl, append_assoc, append-nil}
use Rattle.spl_tree.specs.declared.expression.ExprKind.TheVariants as X
use Rattle.spl_tree.specs.declared.keyword.Keyword.{Keyword}
use Rattle.spl_tree.specs.declared.keyword.Keyword.TheVariants as K
use Rattle.spl_tree.specs.declared.shape.Attribute.{Attribute}
use Rattle.spl_tree.specs.declared.shape.ShapeKind.TheVariants as H
use Rattle.spl_tree.specs.declared.shape.TypeKind.TheVariants as Y
use Rattle.spl_tree.specs.declared.statement.StmtKind.TheVariants as Z
use Rattle.spl_tree.specs.declared.symbol.Symbol.{Symbol}
use Rattle.spl_tree.specs.declared.symbol.Symbol.TheVariants as S
use Rattle.spl_tree.specs.declared.token.Token.{Token}
use Rattle.spl_tree.specs.declared.token.TokenKind.{TokenKind}
use Rattle.spl_tree.specs.declared.token.TokenKind.TheVariants as T
use Rattle.spl_tree.specs.declared.unit.OutputStream.{OutputStream}
use Rattle.spl_tree.specs.Trees.{Expr, placed, TypeExpr, Shape, Stmt}
use Rattle.spl_tree.specs.spellings.Grammar.{Is, Spells, no_elements}
use Rattle.spl_tree.specs.spellings.Phrases.{Phrase, IsKeyword, none, first, empty}
use Rattle.spl_tree.specs.spellings.TypeGrammar as types
use Rattle.spl_tree.specs.spellings.TypeGrammar.{SpellsType, SpellsShape, no_parameters}
use Rattle.spl_tree.specs.spellings.StatementGrammar as statements
use Rattle.spl_tree.specs.spellings.StatementGrammar.{SpellsMutable, SpellsValue, SpellsDeclaration, declaration, SpellsStmt, constant, no_value, no_statements, block_of}
use Rattle.spl_tree.specs.spellings.UnitGrammar as units
use Rattle.spl_tree.specs.spellings.UnitGrammar.{SpellsName, SpellsOutputStream}
use Rattle.expr_parser.specs.Lines as expression_lines
use Rattle.spl_tree.specs.Fronts.{Starts}
use Rattle.expr_parser.specs.Parts.{Closed, closed}
use Rattle.expr_parser.proofs.Sound as expressions
use Rattle.expr_parser.proofs.Soundness.{EachStarts}
use Rattle.statement_parser.specs.Lines as lines
use Rattle.statement_parser.specs.Lines.{Line, Name, declared, parameter_with}
use Rattle.unit_parser.proofs.SoundPhrases.{Leading, SpellsAttribute, attribute, field, Phrases, part_with}

-- Tokens, and phrases of them

abbrev pub a_token : TokenKind → Token
a_token kind = record { kind = kind; start = 0; end = 0 }

abbrev pub a_symbol : Symbol → Token
a_symbol s = a_token (T.Symbol s)

abbrev pub a_keyword : Keyword → Token
a_keyword k = a_token (T.Keyword k)

abbrev pub a_word : Token
a_word = a_token (T.Word [])

abbrev a_name : Name
a_name = placed 0 []

a_name_spells : SpellsName a_name (a_word ∷ [])
a_name_spells = units.name a_word [] refl

abbrev a_type : TypeExpr
a_type = placed 0 Y.Boolean

abbrev some_type : List Token
some_type = a_keyword K.Boolean ∷ []

a_type_spells : SpellsType a_type some_type
a_type_spells = types.boolean (a_keyword K.Boolean) refl

abbrev a_shape : Shape
a_shape = placed 0 (H.Type a_type)

a_shape_spells : SpellsShape a_shape some_type
a_shape_spells = types.plain a_type some_type a_type_spells

abbrev an_attribute : Attribute TypeExpr
an_attribute = record { kind = a_type; name = a_name }

an_attribute_spells : SpellsAttribute an_attribute (a_keyword K.Boolean ∷ a_word ∷ [])
an_attribute_spells = attribute a_type a_word [] some_type a_type_spells refl

-- `break;`
abbrev a_statement : Stmt
a_statement = placed 0 Z.Break

abbrev some_statement : List Token
some_statement = a_keyword K.Break ∷ a_symbol S.Semicolon ∷ []

a_statement_spells : SpellsStmt true a_statement some_statement
a_statement_spells = statements.break (a_keyword K.Break) (a_symbol S.Semicolon) refl refl

-- an expression
abbrev an_expression : Starts Spells []
an_expression = expressions.has expression_lines.Whole

-- `stream<boolean>` and a name, without its first word
abbrev an_output : OutputStream
an_output = record { shape = a_shape; name = a_name }

abbrev behind_stream : List Token
behind_stream = a_symbol S.Less ∷ a_keyword K.Boolean ∷ a_symbol S.Greater ∷ a_word ∷ []

an_output_spells : (t : Token) → IsKeyword K.Stream t → SpellsOutputStream an_output (t ∷ behind_stream)
an_output_spells t is =
    units.output a_shape a_word [] _ (units.stream t (a_symbol S.Less) (a_symbol S.Greater) a_shape some_type is refl a_shape_spells refl) refl

-- Phrases that are closed

-- what is ready for one more, that one, and the symbol that closes all
pub listing_closed : {A : Type 0} {P : Phrase A} {Q : Phrase (List A)} {close : Symbol} (xs : List A) {x : A} (a : List Token) {b : List Token} (c : Token)
    → Leading P Q xs a → P x b → Is close c → Closed Q close (xs ++ x ∷ []) (a ++ (b ++ c ∷ []))
listing_closed xs {x} a {b} c lead d right = rw (← append_assoc a b (c ∷ [])) (closed (xs ++ x ∷ []) c (a ++ b) (lead x b d) right)

-- a variable, from its parts
pub declaration_spells : {m : Bool} {k : TypeExpr} {n : Name} {v : Option Expr} {z a c b : List Token} (s : Token)
    → SpellsMutable m z → SpellsType k a → SpellsName n c → SpellsValue v b → Is S.Semicolon s
    → SpellsDeclaration (declared m k n v) (z ++ (a ++ (c ++ (b ++ s ∷ []))))
declaration_spells {m} {k} {v} {z} {a} {b} s mut d (units.name t n word) dv semicolon = declaration m k t s n v z a b mut d word dv semicolon

-- a phrase of each line
pub has : EachStarts Phrases
has (lines.Expression x) = expressions.has x
has lines.TypeExpression = record { behind = some_type; value = a_type; spells = a_type_spells }
has (lines.ListType at) = record {
  behind = a_symbol S.Less ∷ a_keyword K.Boolean ∷ a_symbol S.Greater ∷ [];
  value = placed at (Y.List a_type);
  spells = λ t is start. rw (← start) (types.list t (a_symbol S.Less) (a_symbol S.Greater) a_type some_type is refl a_type_spells refl);
}
has (lines.MapType at) = record {
  behind = a_symbol S.Less ∷ a_keyword K.Boolean ∷ a_symbol S.Comma ∷ a_keyword K.Boolean ∷ a_symbol S.Greater ∷ [];
  value = placed at (Y.Map a_type a_type);
  spells = λ t is start. rw (← start)
      (types.map t (a_symbol S.Less) (a_symbol S.Comma) (a_symbol S.Greater) a_type a_type some_type some_type is refl a_type_spells refl a_type_spells refl);
}
has (lines.TupleType at) = record {
  behind = a_symbol S.Less ∷ a_keyword K.Boolean ∷ a_word ∷ a_symbol S.Greater ∷ [];
  value = placed at (Y.Tuple (an_attribute ∷ []));
  spells = λ t is start. rw (← start)
      (types.tuple t (a_symbol S.Less) (a_symbol S.Greater) (an_attribute ∷ []) (a_keyword K.Boolean ∷ a_word ∷ []) is refl
      (types.first_attribute a_type a_word [] some_type a_type_spells refl) refl);
}
has (lines.Attributes close xs) = record {
  behind = a_keyword K.Boolean ∷ a_word ∷ a_symbol close ∷ [];
  value = xs ++ an_attribute ∷ [];
  spells = λ a lead. listing_closed _ a _ lead an_attribute_spells refl;
}
has (lines.MoreAttributes close xs) = record { behind = a_symbol close ∷ []; value = xs; spells = λ a d. closed xs (a_symbol close) a d refl }
has (lines.Shaped close) = record {
  behind = a_keyword K.Boolean ∷ a_symbol close ∷ [];
  value = a_shape;
  spells = closed a_shape (a_symbol close) some_type a_shape_spells refl;
}
has lines.Declare = record {
  behind = a_keyword K.Boolean ∷ a_word ∷ a_symbol S.Semicolon ∷ [];
  value = declared false a_type a_name None;
  spells = declaration_spells (a_symbol S.Semicolon) constant a_type_spells a_name_spells no_value refl;
}
has (lines.Declared m k) = record {
  behind = a_word ∷ a_symbol S.Semicolon ∷ [];
  value = declared m k a_name None;
  spells = λ b d a mut. declaration_spells (a_symbol S.Semicolon) mut d a_name_spells no_value refl;
}
has (lines.Valued m k n) = record {
  behind = a_symbol S.Semicolon ∷ [];
  value = declared m k n None;
  spells = λ c named b d a mut. declaration_spells (a_symbol S.Semicolon) mut d named no_value refl;
}
has (lines.Declarations ds) = record { behind = a_symbol S.RightBrace ∷ []; value = ds; spells = λ a d. closed ds (a_symbol S.RightBrace) a d refl }
has lines.Statement = record { behind = some_statement; value = (a_statement, true); spells = a_statement_spells }
has lines.Other = record { behind = some_statement; value = (a_statement, true); spells = (a_statement_spells, λ arms other e. absurd (cc)) }
has (lines.Begun at n) = record {
  behind = a_symbol S.LeftParen ∷ a_symbol S.RightParen ∷ a_symbol S.Semicolon ∷ [];
  value = placed at (Z.Call (placed at (X.Call n [])));
  spells = λ t named start. rw (← start) (
    statements.call_alone (placed t.start (X.Call n [])) (a_symbol S.Semicolon) (t ∷ a_symbol S.LeftParen ∷ a_symbol S.RightParen ∷ [])
        (statements.call t (a_symbol S.LeftParen) (a_symbol S.RightParen) n [] [] named refl no_elements refl) refl,
    λ arms other e. absurd (cc),
  );
}
has (lines.Arms at arms) = record {
  behind = a_symbol S.LeftParen ∷ (an_expression.behind ++ a_symbol S.RightParen ∷ some_statement);
  value = (placed at (Z.If (arms ++ (an_expression.value, a_statement) ∷ []) None), false);
  spells = λ a lead. statements.if_alone true at (arms ++ (an_expression.value, a_statement) ∷ []) _
      (lead true (a_symbol S.LeftParen) (a_symbol S.RightParen) an_expression.value a_statement an_expression.behind some_statement refl an_expression.spells refl a_statement_spells);
}
has (lines.Statements ss) = record { behind = a_symbol S.RightBrace ∷ []; value = ss; spells = λ a d. closed ss (a_symbol S.RightBrace) a d refl }
has lines.Block = record {
  behind = a_symbol S.LeftBrace ∷ a_symbol S.RightBrace ∷ [];
  value = [];
  spells = block_of (a_symbol S.LeftBrace) (a_symbol S.RightBrace) [] [] refl no_statements refl;
}
has lines.Alias = record { behind = []; value = None; spells = units.no_alias }
has lines.Stream = record { behind = behind_stream; value = an_output; spells = an_output_spells }
has (lines.Streams xs) = record {
  behind = a_keyword K.Stream ∷ (behind_stream ++ a_symbol S.RightParen ∷ []);
  value = xs ++ an_output ∷ [];
  spells = λ a lead. listing_closed _ a _ lead (an_output_spells (a_keyword K.Stream) refl) refl;
}
has lines.StreamHead = record {
  behind = behind_stream;
  value = (an_output ∷ [], None);
  spells = λ t is. units.one_stream an_output None (t ∷ behind_stream) [] (an_output_spells t is) units.no_alias;
}
has lines.ListHead = record {
  behind = a_symbol S.RightParen ∷ a_keyword K.As ∷ a_word ∷ [];
  value = ([], Some a_name);
  spells = λ o left. units.no_stream o (a_symbol S.RightParen) a_name _ left refl (units.alias (a_keyword K.As) a_word [] refl refl);
}
has (lines.Invoked at xs l) = record {
  behind = a_symbol S.Assign ∷ a_word ∷ a_symbol S.LeftParen ∷ a_symbol S.RightParen ∷ a_symbol S.Semicolon ∷ [];
  value = record { at = at; outputs = xs; alias = l; operator = a_name; inputs = []; clauses = lines.no_clauses };
  spells = λ a head begins. units.invocation at xs l (a_symbol S.Assign) a_word (a_symbol S.LeftParen) (a_symbol S.RightParen) [] [] lines.no_clauses a [] _
      head begins refl refl refl empty refl (units.no_clauses (a_symbol S.Semicolon) refl);
}
has lines.Inputs = record { behind = a_symbol S.RightParen ∷ []; value = []; spells = closed [] (a_symbol S.RightParen) [] empty refl }
has (lines.MoreInputs ps) = record {
  behind = a_word ∷ a_symbol S.RightParen ∷ [];
  value = ps ++ record { streams = a_name ∷ []; alias = None } ∷ [];
  spells = λ a lead. listing_closed _ a _ lead (units.input (a_name ∷ []) None (a_word ∷ []) [] (first a_name (a_word ∷ []) a_name_spells) units.no_alias) refl;
}
has (lines.InputStreams ns) = record { behind = a_word ∷ []; value = ns ++ a_name ∷ []; spells = λ a lead. lead a_name (a_word ∷ []) a_name_spells }
has lines.End = record { behind = a_symbol S.Semicolon ∷ []; value = lines.no_clauses; spells = units.no_clauses (a_symbol S.Semicolon) refl }
has lines.LogicClause = record { behind = []; value = None; spells = units.no_logic }
has lines.State = record { behind = []; value = []; spells = units.no_state }
has (lines.Handlers hs) = record { behind = []; value = hs; spells = λ a d. rw (append-nil a) d }
has (lines.HandlerOf at event) = record {
  behind = a_word ∷ a_symbol S.Colon ∷ a_symbol S.LeftBrace ∷ a_symbol S.RightBrace ∷ [];
  value = placed at (record { event = event; port = a_name; body = [] });
  spells = λ t handles start. rw (← start)
      (units.handler t a_word (a_symbol S.Colon) event [] [] _ handles refl refl (block_of (a_symbol S.LeftBrace) (a_symbol S.RightBrace) [] [] refl no_statements refl));
}
has lines.WindowClause = record { behind = []; value = None; spells = units.absent }
has (lines.Windows ws) = record { behind = []; value = ws; spells = λ a d. rw (append-nil a) d }
has (lines.WindowParts ps) = record {
  behind = a_word ∷ a_symbol S.Semicolon ∷ [];
  value = ps ++ part_with a_word [] None ∷ [];
  spells = λ a lead. listing_closed _ a _ lead (units.word a_word [] refl) refl;
}
has lines.PartArguments = record { behind = []; value = None; spells = λ t n named. units.word t n named }
has (lines.ParameterClause word) = record { behind = []; value = []; spells = units.no_clause }
has (lines.Parameters ps) = record { behind = []; value = ps; spells = λ a d. rw (append-nil a) d }
has lines.OutputClause = record { behind = []; value = None; spells = units.absent }
has (lines.Outputs us) = record { behind = []; value = us; spells = λ a d. rw (append-nil a) d }
has (lines.Assignments fs) = record {
  behind = a_word ∷ a_symbol S.Assign ∷ (an_expression.behind ++ a_symbol S.Semicolon ∷ []);
  value = fs ++ record { name = a_name; value = an_expression.value } ∷ [];
  spells = λ a lead. listing_closed _ a _ lead (field a_word (a_symbol S.Assign) [] an_expression.value an_expression.behind refl refl an_expression.spells) refl;
}
has lines.CompositeOf = record {
  behind = a_word ∷ a_symbol S.LeftBrace ∷ a_symbol S.RightBrace ∷ [];
  value = record { name = a_name; outputs = []; inputs = []; parameters = []; types = []; graph = []; config = [] };
  spells = λ w z public is. units.composite w a_word (a_symbol S.LeftBrace) (a_symbol S.RightBrace) [] [] [] [] [] [] [] z [] [] [] [] []
      public is refl units.no_ports refl units.no_clause units.no_clause units.no_clause units.no_clause refl;
}
has lines.HeadPorts = record { behind = []; value = ([], []); spells = units.no_ports }
has (lines.Ports ps) = record {
  behind = a_word ∷ [];
  value = ps ++ record { shape = None; name = a_name } ∷ [];
  spells = λ a lead. lead _ (a_word ∷ []) (units.untyped a_word [] refl);
}
has lines.Port = record { behind = a_word ∷ []; value = record { shape = None; name = a_name }; spells = units.untyped a_word [] refl }
has lines.CompositeParameterClause = record { behind = []; value = []; spells = units.no_clause }
has (lines.CompositeParameters ps) = record { behind = []; value = ps; spells = λ a d. rw (append-nil a) d }
has (lines.Default k n) = record {
  behind = a_symbol S.Semicolon ∷ [];
  value = parameter_with k n None;
  spells = λ a lead. lead None (a_symbol S.Semicolon) [] units.no_default refl;
}
has lines.TypeClause = record { behind = []; value = []; spells = units.no_clause }
has (lines.Types ts) = record { behind = []; value = ts; spells = λ a d. rw (append-nil a) d }
has lines.GraphClause = record { behind = []; value = []; spells = units.no_clause }
has (lines.Graph xs) = record { behind = []; value = xs; spells = λ a d. rw (append-nil a) d }
has lines.TypeOf = record {
  behind = a_word ∷ a_symbol S.Assign ∷ a_keyword K.Boolean ∷ a_symbol S.Semicolon ∷ [];
  value = record { name = a_name; shape = a_shape };
  spells = units.type_definition a_word (a_symbol S.Assign) (a_symbol S.Semicolon) [] a_shape some_type refl refl a_shape_spells refl;
}
has (lines.FunctionOf result) = record {
  behind = a_word ∷ a_symbol S.LeftParen ∷ a_symbol S.RightParen ∷ a_symbol S.LeftBrace ∷ a_symbol S.RightBrace ∷ [];
  value = record { result = result; name = a_name; parameters = []; body = [] };
  spells = λ a d. units.function result a_word (a_symbol S.LeftParen) (a_symbol S.RightParen) [] [] [] a [] _ d refl refl no_parameters refl
      (block_of (a_symbol S.LeftBrace) (a_symbol S.RightBrace) [] [] refl no_statements refl);
}
has lines.FunctionParameters = record { behind = a_symbol S.RightParen ∷ []; value = []; spells = closed [] (a_symbol S.RightParen) [] no_parameters refl }
has (lines.Definitions xs) = record { behind = []; value = xs; spells = λ a d. rw (append-nil a) d }
has lines.Namespace = record {
  behind = a_word ∷ a_symbol S.Semicolon ∷ [];
  value = tt;
  spells = λ w ns a is lead. rw (← append_assoc a (a_word ∷ []) (a_symbol S.Semicolon ∷ []))
      (units.namespace w (a_symbol S.Semicolon) (ns ++ a_name ∷ []) (a ++ a_word ∷ []) is (lead a_name (a_word ∷ []) a_name_spells) refl);
}
has lines.Whole = record { behind = []; value = []; spells = units.unit [] [] [] units.no_namespace none }
