-- The lines by which units are read, and the rule of each.
use Rattle.std.specs.Prelude.{ℕ, Bool, true, false, List, [], ◌∷◌, ◌++◌, Option, Some, None, is_some, unwrap_or}
use Rattle.std.specs.Str.{bytes_eq}
use Rattle.spl_tree.specs.declared.expression.BinaryOperator.{BinaryOperator}
use Rattle.spl_tree.specs.declared.expression.ExprKind.TheVariants as X
use Rattle.spl_tree.specs.declared.expression.Field.{Field}
use Rattle.spl_tree.specs.declared.expression.Placed.{Placed}
use Rattle.spl_tree.specs.declared.keyword.Keyword.{Keyword}
use Rattle.spl_tree.specs.declared.keyword.Keyword.TheVariants as K
use Rattle.spl_tree.specs.declared.shape.Attribute.{Attribute}
use Rattle.spl_tree.specs.declared.shape.ShapeKind.TheVariants as H
use Rattle.spl_tree.specs.declared.shape.TypeKind.{TypeKind}
use Rattle.spl_tree.specs.declared.shape.TypeKind.TheVariants as Y
use Rattle.spl_tree.specs.declared.statement.Declaration.{Declaration}
use Rattle.spl_tree.specs.declared.statement.StmtKind.{StmtKind}
use Rattle.spl_tree.specs.declared.statement.StmtKind.TheVariants as Z
use Rattle.spl_tree.specs.declared.symbol.Symbol.{Symbol}
use Rattle.spl_tree.specs.declared.symbol.Symbol.TheVariants as S
use Rattle.spl_tree.specs.declared.token.Token.{Token}
use Rattle.spl_tree.specs.declared.token.TokenKind.{TokenKind}
use Rattle.spl_tree.specs.declared.token.TokenKind.TheVariants as T
use Rattle.spl_tree.specs.declared.unit.Clauses.{Clauses}
use Rattle.spl_tree.specs.declared.unit.Composite.{Composite}
use Rattle.spl_tree.specs.declared.unit.CompositeParameter.{CompositeParameter}
use Rattle.spl_tree.specs.declared.unit.Definition.{Definition}
use Rattle.spl_tree.specs.declared.unit.Definition.TheVariants as D
use Rattle.spl_tree.specs.declared.unit.FunctionDefinition.{FunctionDefinition}
use Rattle.spl_tree.specs.declared.unit.HandledEvent.{HandledEvent}
use Rattle.spl_tree.specs.declared.unit.HandledEvent.TheVariants as V
use Rattle.spl_tree.specs.declared.unit.Handler.{Handler}
use Rattle.spl_tree.specs.declared.unit.HeadPort.{HeadPort}
use Rattle.spl_tree.specs.declared.unit.InputPort.{InputPort}
use Rattle.spl_tree.specs.declared.unit.Invocation.{Invocation}
use Rattle.spl_tree.specs.declared.unit.Logic.{Logic}
use Rattle.spl_tree.specs.declared.unit.OutputStream.{OutputStream}
use Rattle.spl_tree.specs.declared.unit.Parameter.{Parameter}
use Rattle.spl_tree.specs.declared.unit.PortWindow.{PortWindow}
use Rattle.spl_tree.specs.declared.unit.OutputAssignments.{OutputAssignments}
use Rattle.spl_tree.specs.declared.unit.TypeDefinition.{TypeDefinition}
use Rattle.spl_tree.specs.declared.unit.WindowPart.{WindowPart}
use Rattle.spl_tree.specs.Words.{keyword_word}
use Rattle.spl_tree.specs.Trees.{Expr, placed, Stmt, TypeExpr, Shape}
use Rattle.spl_tree.specs.Operators.{assignment_of}
use Rattle.spl_tree.specs.spellings.TypeGrammar.{named}
use Rattle.expr_parser.specs.Rules.{Rule, done, stop, look, call}
use Rattle.expr_parser.specs.Lines as expressions
use Rattle.expr_parser.specs.Lines.{is, is_name, name_of}

abbrev pub Name : Type 0
Name = Placed (List ℕ)

pub data Line : Type 0 where
  -- a line of expressions
  Expression : expressions.Line → Line
  -- a type
  TypeExpression : Line
  -- a type, after the word `list`, `map` or `tuple` at a place
  ListType : ℕ → Line
  MapType : ℕ → Line
  TupleType : ℕ → Line
  -- one more type with a name, and more of them, after those read so far, and the symbol that closes them
  Attributes : Symbol → List (Attribute TypeExpr) → Line
  -- the same, after a type and a name
  MoreAttributes : Symbol → List (Attribute TypeExpr) → Line
  -- a shape, and the symbol that closes it
  Shaped : Symbol → Line
  -- a declaration of a variable
  Declare : Line
  -- the same, after its type
  Declared : Bool → TypeExpr → Line
  -- the same, after its name
  Valued : Bool → TypeExpr → Name → Line
  -- declarations up to the closing brace, after those read so far
  Declarations : List Declaration → Line
  -- a statement
  Statement : Line
  -- a statement that is no `if`
  Other : Line
  -- a statement, after the name at a place with which it begins
  Begun : ℕ → List ℕ → Line
  -- one more condition and statement of an `if` at a place, and what follows, after those read so far
  Arms : ℕ → List (Expr × Stmt) → Line
  -- statements up to the closing brace, after those read so far
  Statements : List Stmt → Line
  -- statements between braces
  Block : Line
  -- `as` and a name, or neither
  Alias : Line
  -- a stream, after the word `stream`
  Stream : Line
  -- one more stream of a head in parentheses, and more of them, after those read so far
  Streams : List OutputStream → Line
  -- what a head makes, and its alias, after `stream`
  StreamHead : Line
  -- the same, after an opening parenthesis
  ListHead : Line
  -- an invocation at a place, after its head
  Invoked : ℕ → List OutputStream → Option Name → Line
  -- the input ports up to the closing parenthesis
  Inputs : Line
  -- one more of them, and more, after those read so far
  MoreInputs : List InputPort → Line
  -- one more stream of a port, and more of them, after those read so far
  InputStreams : List Name → Line
  -- what ends an invocation
  End : Line
  -- `logic` and what follows, or nothing
  LogicClause : Line
  -- the variables of a state, or none
  State : Line
  -- handlers of events, after those read so far
  Handlers : List (Placed Handler) → Line
  -- a handler at a place, after its first word
  HandlerOf : ℕ → HandledEvent → Line
  -- `window` and what follows, or nothing
  WindowClause : Line
  Windows : List PortWindow → Line
  -- one more part of a window, and more of them up to the `;`, after those read so far
  WindowParts : List WindowPart → Line
  -- arguments in parentheses, or none
  PartArguments : Line
  -- `param` or `config`, and what follows, or nothing
  ParameterClause : Keyword → Line
  Parameters : List Parameter → Line
  -- `output` and what follows, or nothing
  OutputClause : Line
  Outputs : List OutputAssignments → Line
  -- one more assignment, and more of them up to the `;`, after those read so far
  Assignments : List (Field Expr) → Line
  -- a composite, after its first word
  CompositeOf : Line
  -- the ports of a head in parentheses, or none
  HeadPorts : Line
  -- the ports after `output` or `input`: one more of them, and more, after those read so far
  Ports : List HeadPort → Line
  -- a port
  Port : Line
  -- `param` and what follows, or nothing
  CompositeParameterClause : Line
  CompositeParameters : List CompositeParameter → Line
  -- the default of a parameter and the `;`
  Default : TypeExpr → Name → Line
  -- `type` and what follows, or nothing
  TypeClause : Line
  Types : List TypeDefinition → Line
  -- `graph` and what follows, or nothing
  GraphClause : Line
  Graph : List Invocation → Line
  -- a name and its shape
  TypeOf : Line
  -- a function, after the type of its result
  FunctionOf : Option TypeExpr → Line
  -- its parameters up to the closing parenthesis
  FunctionParameters : Line
  -- definitions, after those read so far
  Definitions : List Definition → Line
  -- one more name of a namespace, and more of them up to the `;`
  Namespace : Line
  -- a unit
  Whole : Line

abbrev pub Value : Line → Type 0
Value (Expression x) = expressions.Value x
Value TypeExpression = TypeExpr
Value (ListType at) = TypeExpr
Value (MapType at) = TypeExpr
Value (TupleType at) = TypeExpr
Value (Attributes close xs) = List (Attribute TypeExpr)
Value (MoreAttributes close xs) = List (Attribute TypeExpr)
Value (Shaped close) = Shape
Value Declare = Declaration
Value (Declared mutable kind) = Declaration
Value (Valued mutable kind name) = Declaration
Value (Declarations ds) = List Declaration
Value Statement = Stmt × Bool
Value Other = Stmt × Bool
Value (Begun at n) = Stmt
Value (Arms at arms) = Stmt × Bool
Value (Statements ss) = List Stmt
Value Block = List Stmt
Value Alias = Option Name
Value Stream = OutputStream
Value (Streams xs) = List OutputStream
Value StreamHead = List OutputStream × Option Name
Value ListHead = List OutputStream × Option Name
Value (Invoked at xs alias) = Invocation
Value Inputs = List InputPort
Value (MoreInputs ps) = List InputPort
Value (InputStreams ns) = List Name
Value End = Clauses
Value LogicClause = Option (Placed Logic)
Value State = List Declaration
Value (Handlers hs) = List (Placed Handler)
Value (HandlerOf at event) = Placed Handler
Value WindowClause = Option (Placed (List PortWindow))
Value (Windows ws) = List PortWindow
Value (WindowParts ps) = List WindowPart
Value PartArguments = Option (List Expr)
Value (ParameterClause word) = List Parameter
Value (Parameters ps) = List Parameter
Value OutputClause = Option (Placed (List OutputAssignments))
Value (Outputs us) = List OutputAssignments
Value (Assignments fs) = List (Field Expr)
Value CompositeOf = Composite
Value HeadPorts = List HeadPort × List HeadPort
Value (Ports ps) = List HeadPort
Value Port = HeadPort
Value CompositeParameterClause = List CompositeParameter
Value (CompositeParameters ps) = List CompositeParameter
Value (Default kind name) = CompositeParameter
Value TypeClause = List TypeDefinition
Value (Types ts) = List TypeDefinition
Value GraphClause = List Invocation
Value (Graph xs) = List Invocation
Value TypeOf = TypeDefinition
Value (FunctionOf result) = FunctionDefinition
Value FunctionParameters = List (Attribute TypeExpr)
Value (Definitions xs) = List Definition
Value Namespace = Unit {0}
Value Whole = List Definition

-- Tests of a token

abbrev pub word_kind : Keyword → TokenKind → Bool
word_kind k (T.Keyword x) = bytes_eq (keyword_word k) (keyword_word x)
word_kind k _ = false

abbrev pub is_word : Keyword → Token → Bool
is_word k t = word_kind k t.kind

abbrev pub name_at : Token → Name
name_at t = placed t.start (name_of t)

-- the type that a token is by itself
abbrev pub keyword_type : Keyword → Option TypeKind
keyword_type K.Boolean = Some Y.Boolean
keyword_type K.Rstring = Some Y.Rstring
keyword_type (K.Int kind) = Some (Y.Int kind)
keyword_type (K.LeftOut word) = Some (Y.LeftOut word)
keyword_type _ = None

abbrev pub type_kind : TokenKind → Option TypeKind
type_kind (T.Word n) = Some (Y.Name n)
type_kind (T.Keyword k) = keyword_type k
type_kind _ = None

abbrev pub is_type : Token → Bool
is_type t = is_some (type_kind t.kind)

abbrev pub type_of : Token → TypeExpr
type_of t = placed t.start (unwrap_or (type_kind t.kind) Y.Boolean)

abbrev pub dollar_kind : TokenKind → Option (List ℕ)
dollar_kind (T.Dollar n) = Some n
dollar_kind _ = None

abbrev pub is_dollar : Token → Bool
is_dollar t = is_some (dollar_kind t.kind)

abbrev pub dollar_at : Token → Name
dollar_at t = placed t.start (unwrap_or (dollar_kind t.kind) [])

abbrev pub is_assignment : Token → Bool
is_assignment t = is_some (assignment_of t.kind)

abbrev pub assignment_at : Token → Option BinaryOperator
assignment_at t = unwrap_or (assignment_of t.kind) None

-- Rules

abbrev pub R : Type 0 → Type 0
R A = Rule Line Value A

-- that symbol has to come
abbrev pub expect : {A : Type 0} → Symbol → R A → R A
expect s r = look (is s) (λ _. r) stop

-- that reserved word has to come
abbrev pub expect_word : {A : Type 0} → Keyword → R A → R A
expect_word k r = look (is_word k) (λ _. r) stop

-- a name has to come
abbrev pub expect_name : {A : Type 0} → (Name → R A) → R A
expect_name r = look is_name (λ t. r (name_at t)) stop

-- a name and that symbol after it have to come
abbrev pub name_before : Symbol → R Name
name_before s = expect_name (λ n. expect s (done n))

abbrev pub expression : {A : Type 0} → (Expr → R A) → R A
expression r = call (Expression expressions.Whole) r

-- a rule of expressions
abbrev pub lifted : {A : Type 0} → Rule expressions.Line expressions.Value A → R A
lifted (done x) = done x
lifted stop = stop
lifted (look p f d) = look p (λ t. lifted (f t)) (lifted d)
lifted (call x k) = call (Expression x) (λ y. lifted (k y))

-- an expression and that symbol after it
abbrev pub expression_before : Symbol → R Expr
expression_before s = expression (λ e. expect s (done e))

-- a type and that symbol after it, also with a symbol before it
abbrev pub type_before : Symbol → R TypeExpr
type_before s = call TypeExpression (λ k. expect s (done k))

abbrev pub type_between : Symbol → Symbol → R TypeExpr
type_between opening close = expect opening (type_before close)

-- a type, or another way where no type begins here
abbrev pub a_type : {A : Type 0} → (TypeExpr → R A) → R A → R A
a_type r other =
    look is_type (λ t. r (type_of t))
    (look (is_word K.List) (λ t. call (ListType t.start) r)
    (look (is_word K.Map) (λ t. call (MapType t.start) r)
    (look (is_word K.Tuple) (λ t. call (TupleType t.start) r)
    other)))

abbrev pub attributes_rule : Symbol → List (Attribute TypeExpr) → R (List (Attribute TypeExpr))
attributes_rule close xs =
    call TypeExpression (λ k. look is_name (λ t. call (MoreAttributes close (xs ++ named k t (name_of t) ∷ [])) done) stop)

abbrev pub more_attributes_rule : Symbol → List (Attribute TypeExpr) → R (List (Attribute TypeExpr))
more_attributes_rule close xs = look (is S.Comma) (λ _. call (Attributes close xs) done) (expect close (done xs))

-- a type alone, or with a name and then attributes
abbrev pub shape_rule : Symbol → R Shape
shape_rule close =
    call TypeExpression (λ k.
    look is_name (λ t. call (MoreAttributes close (named k t (name_of t) ∷ [])) (λ xs. done (placed k.at (H.Attributes xs))))
    (expect close (done (placed k.at (H.Type k)))))

abbrev pub declared : Bool → TypeExpr → Name → Option Expr → Declaration
declared m k n v = record { mutable = m; kind = k; name = n; value = v }

abbrev pub valued_rule : Bool → TypeExpr → Name → R Declaration
valued_rule m k n =
    look (is S.Assign) (λ _. expression (λ e. expect S.Semicolon (done (declared m k n (Some e)))))
    (expect S.Semicolon (done (declared m k n None)))

-- a condition in parentheses
abbrev pub condition_rule : {A : Type 0} → (Expr → R A) → R A
condition_rule r = expect S.LeftParen (expression (λ e. expect S.RightParen (r e)))

-- the variable of a `for` and what it goes over, in parentheses
abbrev pub for_head_rule : {A : Type 0} → (Attribute TypeExpr → Expr → R A) → R A
for_head_rule r =
    expect S.LeftParen (call TypeExpression (λ k. look is_name (λ v. expect_word K.In (expression (λ e. expect S.RightParen
    (r (named k v (name_of v)) e)))) stop))

-- statements at a place, after their first token
abbrev pub braces_rule : ℕ → R (Stmt × Bool)
braces_rule at = call (Statements []) (λ ss. done (placed at (Z.Block ss), true))

abbrev pub while_rule : ℕ → R (Stmt × Bool)
while_rule at = condition_rule (λ e. call Statement (λ s. done (placed at (Z.While e s.0), s.1)))

abbrev pub for_rule : ℕ → R (Stmt × Bool)
for_rule at = for_head_rule (λ v e. call Statement (λ s. done (placed at (Z.For v e s.0), s.1)))

-- a statement of one word
abbrev pub ended_rule : ℕ → StmtKind → R (Stmt × Bool)
ended_rule at s = expect S.Semicolon (done (placed at s, true))

abbrev pub returned_rule : ℕ → R (Stmt × Bool)
returned_rule at =
    look (is S.Semicolon) (λ _. done (placed at (Z.Return None), true))
    (expression (λ e. expect S.Semicolon (done (placed at (Z.Return (Some e)), true))))

abbrev pub submitted_rule : ℕ → R (Stmt × Bool)
submitted_rule at =
    expect S.LeftParen (expression (λ e. expect S.Comma (expect_name (λ n. expect S.RightParen (expect S.Semicolon
    (done (placed at (Z.Submit e n), true)))))))

abbrev pub mutable_rule : ℕ → R (Stmt × Bool)
mutable_rule at = call TypeExpression (λ k. call (Declared true k) (λ d. done (placed at (Z.Declare d), true)))

-- a declaration without `mutable`
abbrev pub variable_rule : R (Stmt × Bool)
variable_rule = call TypeExpression (λ k. call (Declared false k) (λ d. done (placed k.at (Z.Declare d), true)))

-- a statement with no statement in it
abbrev pub simple_rule : R (Stmt × Bool)
simple_rule =
    look (is_word K.Break) (λ t. ended_rule t.start Z.Break)
    (look (is_word K.Continue) (λ t. ended_rule t.start Z.Continue)
    (look (is_word K.Return) (λ t. returned_rule t.start)
    (look (is_word K.Submit) (λ t. submitted_rule t.start)
    (look (is_word K.Mutable) (λ t. mutable_rule t.start)
    (look is_name (λ t. call (Begun t.start (name_of t)) (λ s. done (s, true)))
    variable_rule)))))

abbrev pub other_rule : R (Stmt × Bool)
other_rule =
    look (is S.LeftBrace) (λ t. braces_rule t.start)
    (look (is_word K.While) (λ t. while_rule t.start)
    (look (is_word K.For) (λ t. for_rule t.start)
    simple_rule))

-- after its first name a statement is a declaration, a call or an assignment
abbrev pub begun_rule : ℕ → List ℕ → R Stmt
begun_rule at n =
    look is_name (λ t. call (Valued false (placed at (Y.Name n)) (name_at t)) (λ d. done (placed at (Z.Declare d))))
    (look (is S.LeftParen)
    (λ _. call (Expression (expressions.Elements S.RightParen)) (λ es. expect S.Semicolon (done (placed at (Z.Call (placed at (X.Call n es)))))))
    (call (Expression (expressions.Steps (placed at (X.Name n)) [])) (λ p.
    look is_assignment (λ t. expression (λ e. expect S.Semicolon (done (placed at (Z.Assign p (assignment_at t) e))))) stop)))

-- the statement after the last `else` of an `if`
abbrev pub last_branch_rule : ℕ → List (Expr × Stmt) → R (Stmt × Bool)
last_branch_rule at arms = call Other (λ s. done (placed at (Z.If arms (Some s.0)), s.1))

-- after the arms of an `if`: an `else` that could belong to the last statement was taken with it
abbrev pub arms_end : ℕ → List (Expr × Stmt) → Bool → R (Stmt × Bool)
arms_end at arms true =
    look (is_word K.Else) (λ _. look (is_word K.If) (λ _. call (Arms at arms) done) (last_branch_rule at arms))
    (done (placed at (Z.If arms None), false))
arms_end at arms false = done (placed at (Z.If arms None), false)

abbrev pub arms_rule : ℕ → List (Expr × Stmt) → R (Stmt × Bool)
arms_rule at arms =
    expect S.LeftParen (expression (λ e. expect S.RightParen (call Statement (λ s. arms_end at (arms ++ (e, s.0) ∷ []) s.1))))

abbrev pub streams_rule : List OutputStream → R (List OutputStream)
streams_rule xs =
    expect_word K.Stream (call Stream (λ x. let all = xs ++ x ∷ [] in
    look (is S.Semicolon) (λ _. call (Streams all) done) (expect S.RightParen (done all))))

abbrev pub list_head_rule : R (List OutputStream × Option Name)
list_head_rule =
    look (is S.RightParen) (λ _. expect_word K.As (expect_name (λ n. done ([], Some n))))
    (call (Streams []) (λ xs. call Alias (λ l. done (xs, l))))

abbrev pub invoked_rule : ℕ → List OutputStream → Option Name → R Invocation
invoked_rule at xs l =
    expect S.Assign (expect_name (λ n. expect S.LeftParen (call Inputs (λ ps. call End (λ c.
    done (record { at = at; outputs = xs; alias = l; operator = n; inputs = ps; clauses = c }))))))

abbrev pub more_inputs_rule : List InputPort → R (List InputPort)
more_inputs_rule ps =
    call (InputStreams []) (λ ns. call Alias (λ l. let all = ps ++ record { streams = ns; alias = l } ∷ [] in
    look (is S.Semicolon) (λ _. call (MoreInputs all) done) (expect S.RightParen (done all))))

abbrev pub no_clauses : Clauses
no_clauses = record { logic = None; window = None; parameters = []; output = None; config = [] }

abbrev pub end_rule : R Clauses
end_rule =
    look (is S.Semicolon) (λ _. done no_clauses)
    (expect S.LeftBrace (call LogicClause (λ l. call WindowClause (λ w. call (ParameterClause K.Param) (λ ps. call OutputClause (λ u. call (ParameterClause K.Config) (λ gs.
    expect S.RightBrace (done (record { logic = l; window = w; parameters = ps; output = u; config = gs })))))))))

abbrev pub state_rule : R (List Declaration)
state_rule =
    look (is_word K.State)
    (λ _. expect S.Colon (look (is S.LeftBrace) (λ _. call (Declarations []) done) (call Declare (λ d. done (d ∷ [])))))
    (done [])

abbrev pub handlers_rule : List (Placed Handler) → R (List (Placed Handler))
handlers_rule hs =
    look (is_word K.OnTuple) (λ t. call (HandlerOf t.start V.Tuple) (λ h. call (Handlers (hs ++ h ∷ [])) done))
    (look (is_word K.OnPunct) (λ t. call (HandlerOf t.start V.Punctuation) (λ h. call (Handlers (hs ++ h ∷ [])) done))
    (done hs))

abbrev pub window_parts_rule : List WindowPart → R (List WindowPart)
window_parts_rule ps =
    expect_name (λ n. call PartArguments (λ es. let all = ps ++ record { name = n; arguments = es } ∷ [] in
    look (is S.Comma) (λ _. call (WindowParts all) done) (expect S.Semicolon (done all))))

abbrev pub assignments_rule : List (Field Expr) → R (List (Field Expr))
assignments_rule fs =
    expect_name (λ n. expect S.Assign (expression (λ e. let all = fs ++ expressions.field n e ∷ [] in
    look (is S.Comma) (λ _. call (Assignments all) done) (expect S.Semicolon (done all)))))

abbrev pub composite_rule : R Composite
composite_rule =
    expect_name (λ n. call HeadPorts (λ h. expect S.LeftBrace (call CompositeParameterClause (λ ps. call TypeClause (λ ts. call GraphClause (λ xs.
    call (ParameterClause K.Config) (λ gs. expect S.RightBrace
    (done (record { name = n; outputs = h.0; inputs = h.1; parameters = ps; types = ts; graph = xs; config = gs })))))))))

abbrev pub head_ports_rule : R (List HeadPort × List HeadPort)
head_ports_rule =
    look (is S.LeftParen) (λ _.
    look (is_word K.Output) (λ _. call (Ports []) (λ outs.
    look (is S.Semicolon) (λ _. expect_word K.Input (call (Ports []) (λ ins. expect S.RightParen (done (outs, ins)))))
    (expect S.RightParen (done (outs, [])))))
    (expect_word K.Input (call (Ports []) (λ ins.
    look (is S.Semicolon) (λ _. expect_word K.Output (call (Ports []) (λ outs. expect S.RightParen (done (outs, ins)))))
    (expect S.RightParen (done ([], ins)))))))
    (done ([], []))

abbrev pub port_rule : R HeadPort
port_rule =
    look (is_word K.Stream)
    (λ _. expect S.Less (call (Shaped S.Greater) (λ h. expect_name (λ n. done (record { shape = Some h; name = n })))))
    (expect_name (λ n. done (record { shape = None; name = n })))

abbrev pub composite_parameters_rule : List CompositeParameter → R (List CompositeParameter)
composite_parameters_rule ps =
    look (is_word K.Expression)
    (λ _. expect S.Less (call TypeExpression (λ k. expect S.Greater (look is_dollar (λ t. call (Default k (dollar_at t)) (λ p. call (CompositeParameters (ps ++ p ∷ [])) done)) stop))))
    (done ps)

abbrev pub parameter_with : TypeExpr → Name → Option Expr → CompositeParameter
parameter_with k n e = record { kind = k; name = n; default = e }

abbrev pub default_rule : TypeExpr → Name → R CompositeParameter
default_rule k n =
    look (is S.Colon) (λ _. expression (λ e. expect S.Semicolon (done (parameter_with k n (Some e)))))
    (expect S.Semicolon (done (parameter_with k n None)))

abbrev pub graph_rule : List Invocation → R (List Invocation)
graph_rule xs =
    look (is_word K.Stream) (λ t. call StreamHead (λ h. call (Invoked t.start h.0 h.1) (λ x. call (Graph (xs ++ x ∷ [])) done)))
    (look (is S.LeftParen) (λ t. call ListHead (λ h. call (Invoked t.start h.0 h.1) (λ x. call (Graph (xs ++ x ∷ [])) done)))
    (done xs))

abbrev pub definitions_rule : List Definition → R (List Definition)
definitions_rule xs =
    look (is_word K.Type) (λ _. call TypeOf (λ x. call (Definitions (xs ++ D.Type x ∷ [])) done))
    (look (is_word K.Public) (λ _. expect_word K.Composite (call CompositeOf (λ x. call (Definitions (xs ++ D.Composite x ∷ [])) done)))
    (look (is_word K.Composite) (λ _. call CompositeOf (λ x. call (Definitions (xs ++ D.Composite x ∷ [])) done))
    (look (is_word K.Void) (λ _. call (FunctionOf None) (λ x. call (Definitions (xs ++ D.Function x ∷ [])) done))
    (a_type (λ k. call (FunctionOf (Some k)) (λ x. call (Definitions (xs ++ D.Function x ∷ [])) done))
    (done xs)))))

unfoldable pub rule : (x : Line) → R (Value x)
rule (Expression x) = lifted (expressions.rule x)
rule TypeExpression = a_type done stop
rule (ListType at) = expect S.Less (call TypeExpression (λ e. expect S.Greater (done (placed at (Y.List e)))))
rule (MapType at) =
    expect S.Less (call TypeExpression (λ k. expect S.Comma (call TypeExpression (λ v. expect S.Greater (done (placed at (Y.Map k v)))))))
rule (TupleType at) = expect S.Less (call (Attributes S.Greater []) (λ xs. done (placed at (Y.Tuple xs))))
rule (Attributes close xs) = attributes_rule close xs
rule (MoreAttributes close xs) = more_attributes_rule close xs
rule (Shaped close) = shape_rule close
rule Declare =
    look (is_word K.Mutable) (λ _. call TypeExpression (λ k. call (Declared true k) done)) (call TypeExpression (λ k. call (Declared false k) done))
rule (Declared m k) = expect_name (λ n. call (Valued m k n) done)
rule (Valued m k n) = valued_rule m k n
rule (Declarations ds) = look (is S.RightBrace) (λ _. done ds) (call Declare (λ d. call (Declarations (ds ++ d ∷ [])) done))
rule Statement = look (is_word K.If) (λ t. call (Arms t.start []) done) (call Other done)
rule Other = other_rule
rule (Begun at n) = begun_rule at n
rule (Arms at arms) = arms_rule at arms
rule (Statements ss) = look (is S.RightBrace) (λ _. done ss) (call Statement (λ s. call (Statements (ss ++ s.0 ∷ [])) done))
rule Block = expect S.LeftBrace (call (Statements []) done)
rule Alias = look (is_word K.As) (λ _. expect_name (λ n. done (Some n))) (done None)
rule Stream = expect S.Less (call (Shaped S.Greater) (λ h. expect_name (λ n. done (record { shape = h; name = n }))))
rule (Streams xs) = streams_rule xs
rule StreamHead = call Stream (λ x. call Alias (λ l. done (x ∷ [], l)))
rule ListHead = list_head_rule
rule (Invoked at xs l) = invoked_rule at xs l
rule Inputs = look (is S.RightParen) (λ _. done []) (call (MoreInputs []) done)
rule (MoreInputs ps) = more_inputs_rule ps
rule (InputStreams ns) =
    expect_name (λ n. look (is S.Comma) (λ _. call (InputStreams (ns ++ n ∷ [])) done) (done (ns ++ n ∷ [])))
rule End = end_rule
rule LogicClause =
    look (is_word K.Logic) (λ t. call State (λ ds. call (Handlers []) (λ hs. done (Some (placed t.start (record { state = ds; handlers = hs })))))) (done None)
rule State = state_rule
rule (Handlers hs) = handlers_rule hs
rule (HandlerOf at event) =
    expect_name (λ n. expect S.Colon (call Block (λ ss. done (placed at (record { event = event; port = n; body = ss })))))
rule WindowClause = look (is_word K.Window) (λ t. call (Windows []) (λ ws. done (Some (placed t.start ws)))) (done None)
rule (Windows ws) =
    look is_name (λ t. expect S.Colon (call (WindowParts []) (λ ps. call (Windows (ws ++ record { port = name_at t; parts = ps } ∷ [])) done))) (done ws)
rule (WindowParts ps) = window_parts_rule ps
rule PartArguments =
    look (is S.LeftParen) (λ _. call (Expression (expressions.Elements S.RightParen)) (λ es. done (Some es))) (done None)
rule (ParameterClause word) = look (is_word word) (λ _. call (Parameters []) done) (done [])
rule (Parameters ps) =
    look is_name (λ t. expect S.Colon (call (Expression (expressions.Items S.Semicolon [])) (λ es.
    call (Parameters (ps ++ record { name = name_at t; values = es } ∷ [])) done)))
    (done ps)
rule OutputClause = look (is_word K.Output) (λ t. call (Outputs []) (λ us. done (Some (placed t.start us)))) (done None)
rule (Outputs us) =
    look is_name (λ t. expect S.Colon (call (Assignments []) (λ fs. call (Outputs (us ++ record { stream = name_at t; assignments = fs } ∷ [])) done))) (done us)
rule (Assignments fs) = assignments_rule fs
rule CompositeOf = composite_rule
rule HeadPorts = head_ports_rule
rule (Ports ps) = call Port (λ p. look (is S.Comma) (λ _. call (Ports (ps ++ p ∷ [])) done) (done (ps ++ p ∷ [])))
rule Port = port_rule
rule CompositeParameterClause = look (is_word K.Param) (λ _. call (CompositeParameters []) done) (done [])
rule (CompositeParameters ps) = composite_parameters_rule ps
rule (Default k n) = default_rule k n
rule TypeClause = look (is_word K.Type) (λ _. call (Types []) done) (done [])
rule (Types ts) =
    look is_name (λ t. expect S.Assign (call (Shaped S.Semicolon) (λ h. call (Types (ts ++ record { name = name_at t; shape = h } ∷ [])) done))) (done ts)
rule GraphClause = look (is_word K.Graph) (λ _. call (Graph []) done) (done [])
rule (Graph xs) = graph_rule xs
rule TypeOf = expect_name (λ n. expect S.Assign (call (Shaped S.Semicolon) (λ h. done (record { name = n; shape = h }))))
rule (FunctionOf result) =
    expect_name (λ n. expect S.LeftParen (call FunctionParameters (λ xs. call Block (λ ss.
    done (record { result = result; name = n; parameters = xs; body = ss })))))
rule FunctionParameters = look (is S.RightParen) (λ _. done []) (call (Attributes S.RightParen []) done)
rule (Definitions xs) = definitions_rule xs
rule Namespace = expect_name (λ _. look (is S.Dot) (λ _. call Namespace done) (expect S.Semicolon (done tt)))
rule Whole = look (is_word K.Namespace) (λ _. call Namespace (λ _. call (Definitions []) done)) (call (Definitions []) done)
