-- What each line of units spells, after what it has.
use Rattle.std.proofs.Common.{◌≡◌, ℕ, Bool, true, List, [], ◌∷◌, ◌++◌, Option}
use Rattle.spl_tree.specs.declared.expression.Field.{Field}
use Rattle.spl_tree.specs.declared.keyword.Keyword.{Keyword}
use Rattle.spl_tree.specs.declared.keyword.Keyword.TheVariants as K
use Rattle.spl_tree.specs.declared.shape.Attribute.{Attribute}
use Rattle.spl_tree.specs.declared.symbol.Symbol.{Symbol}
use Rattle.spl_tree.specs.declared.symbol.Symbol.TheVariants as S
use Rattle.spl_tree.specs.declared.token.Token.{Token}
use Rattle.spl_tree.specs.declared.unit.WindowPart.{WindowPart}
use Rattle.spl_tree.specs.Trees.{Expr, placed, TypeExpr, Stmt, IsNoIf}
use Rattle.spl_tree.specs.spellings.Grammar.{Is, Names, Fields, Spells}
use Rattle.spl_tree.specs.spellings.Phrases.{Phrase, IsKeyword, Row, Separated, Listed}
use Rattle.spl_tree.specs.spellings.TypeGrammar.{named, SpellsType, SpellsAttributes, SpellsShape, SpellsFunctionParameters}
use Rattle.spl_tree.specs.spellings.StatementGrammar.{SpellsMutable, SpellsDeclaration, SpellsStmt, SpellsArms, SpellsStmts, SpellsBlock, BeginsAt}
use Rattle.spl_tree.specs.spellings.UnitGrammar.{SpellsName, SpellsAlias, SpellsTypeDefinition, SpellsParameter, Clause, PlacedClause, SpellsOutputStream, SpellsHead, SpellsInput, SpellsStateClause, HandlesEvent, SpellsHandler, SpellsLogic, SpellsWindowPart, SpellsPortWindow, SpellsOutputAssignments, SpellsEnd, SpellsInvocation, SpellsHeadPort, SpellsHeadPorts, SpellsDefault, SpellsCompositeParameter, SpellsPublic, SpellsComposite, SpellsResultType, SpellsFunction, SpellsDefinition, SpellsNamespace, SpellsUnit}
use Rattle.expr_parser.specs.Parts.{Closed}
use Rattle.expr_parser.proofs.Sound as sound
use Rattle.expr_parser.proofs.Soundness.{After}
use Rattle.statement_parser.specs.Lines.{Line, Value, Name, Expression, TypeExpression, ListType, MapType, TupleType, Attributes, MoreAttributes, Shaped, Declare, Declared, Valued, Declarations, Statement, Other, Begun, Arms, Statements, Block, Alias, Stream, Streams, StreamHead, ListHead, Invoked, Inputs, MoreInputs, InputStreams, End, LogicClause, State, Handlers, HandlerOf, WindowClause, Windows, WindowParts, PartArguments, ParameterClause, Parameters, OutputClause, Outputs, Assignments, CompositeOf, HeadPorts, Ports, Port, CompositeParameterClause, CompositeParameters, Default, TypeClause, Types, GraphClause, Graph, TypeOf, FunctionOf, FunctionParameters, Definitions, Namespace, Whole, parameter_with}

-- Parts of phrases

-- the tokens after a reserved word
abbrev pub BehindWord : {A : Type 0} → Keyword → Phrase A → Phrase A
BehindWord k U v b = (t : Token) → IsKeyword k t → U v (t ∷ b)

-- the tokens after a reserved word at a place
abbrev pub FromWord : {A : Type 0} → Keyword → ℕ → Phrase A → Phrase A
FromWord k at U v b = (t : Token) → IsKeyword k t → t.start ≡ at → U v (t ∷ b)

-- what one more phrase of P completes to a list of them
abbrev pub Leading : {A : Type 0} → Phrase A → Phrase (List A) → Phrase (List A)
Leading P Q xs a = (x : _) (b : List Token) → P x b → Q (xs ++ x ∷ []) (a ++ b)

-- one more phrase of a list, and more of them up to the symbol that closes it
abbrev pub Listing : {A : Type 0} → Phrase A → Phrase (List A) → Symbol → List A → Phrase (List A)
Listing P Q close xs = After (Leading P Q) (Closed Q close) xs

-- more phrases in a row
abbrev pub Rows : {A : Type 0} → Phrase A → List A → Phrase (List A)
Rows P xs = After (Row P) (Row P) xs

-- a type and a name
pub data SpellsAttribute : Attribute TypeExpr → List Token → Type 0 where
  attribute : (k : TypeExpr) (t : Token) (n : List ℕ) (a : List Token) → SpellsType k a → Names n t → SpellsAttribute (named k t n) (a ++ t ∷ [])

-- a name and its value
pub data SpellsField : Field Expr → List Token → Type 0 where
  field : (t s : Token) (n : List ℕ) (e : Expr) (a : List Token) → Names n t → Is S.Assign s → Spells e a
      → SpellsField (record { name = placed t.start n; value = e }) (t ∷ s ∷ a)

-- a statement, and whether it is closed
abbrev pub SpellsEither : Phrase (Stmt × Bool)
SpellsEither s a = SpellsStmt s.1 s.0 a

-- such a statement that is no `if`
abbrev pub SpellsOther : Phrase (Stmt × Bool)
SpellsOther s a = SpellsStmt s.1 s.0 a × IsNoIf s.0

-- what a condition and a statement complete to the arms of an `if`
abbrev pub LeadingArm : ℕ → List (Expr × Stmt) → List Token → Type 0
LeadingArm at arms a = (closed : Bool) (o c : Token) (e : Expr) (s : Stmt) (b d : List Token) → Is S.LeftParen o → Spells e b → Is S.RightParen c
    → SpellsStmt closed s d → SpellsArms closed at (arms ++ (e, s) ∷ []) (a ++ o ∷ (b ++ c ∷ d))

-- what a default and the `;` complete to a parameter
abbrev pub LeadingDefault : TypeExpr → Name → List Token → Type 0
LeadingDefault k n a = (e : Option Expr) (s : Token) (b : List Token) → SpellsDefault e b → Is S.Semicolon s
    → SpellsCompositeParameter (parameter_with k n e) (a ++ (b ++ s ∷ []))

abbrev pub part_with : Token → List ℕ → Option (List Expr) → WindowPart
part_with t n es = record { name = placed t.start n; arguments = es }

-- what each line spells, after what it has
abbrev pub Phrases : (x : Line) → Phrase (Value x)
Phrases (Expression x) = sound.Phrases x
Phrases TypeExpression = SpellsType
Phrases (ListType at) = FromWord K.List at SpellsType
Phrases (MapType at) = FromWord K.Map at SpellsType
Phrases (TupleType at) = FromWord K.Tuple at SpellsType
Phrases (Attributes close xs) = Listing SpellsAttribute SpellsAttributes close xs
Phrases (MoreAttributes close xs) = After SpellsAttributes (Closed SpellsAttributes close) xs
Phrases (Shaped close) = Closed SpellsShape close
Phrases Declare = SpellsDeclaration
Phrases (Declared m k) = After SpellsType (After SpellsMutable SpellsDeclaration m) k
Phrases (Valued m k n) = After SpellsName (After SpellsType (After SpellsMutable SpellsDeclaration m) k) n
Phrases (Declarations ds) = After (Row SpellsDeclaration) (Closed (Row SpellsDeclaration) S.RightBrace) ds
Phrases Statement = SpellsEither
Phrases Other = SpellsOther
Phrases (Begun at n) = λ s b. (t : Token) → Names n t → t.start ≡ at → SpellsOther (s, true) (t ∷ b)
Phrases (Arms at arms) = After (LeadingArm at) SpellsEither arms
Phrases (Statements ss) = After SpellsStmts (Closed SpellsStmts S.RightBrace) ss
Phrases Block = SpellsBlock
Phrases Alias = SpellsAlias
Phrases Stream = BehindWord K.Stream SpellsOutputStream
Phrases (Streams xs) = Listing SpellsOutputStream (Separated S.Semicolon SpellsOutputStream) S.RightParen xs
Phrases StreamHead = BehindWord K.Stream (λ h a. SpellsHead h.0 h.1 a)
Phrases ListHead = λ h b. (t : Token) → Is S.LeftParen t → SpellsHead h.0 h.1 (t ∷ b)
Phrases (Invoked at xs l) = λ x b. (a : List Token) → SpellsHead xs l a → BeginsAt at a → SpellsInvocation x (a ++ b)
Phrases Inputs = Closed (Listed S.Semicolon SpellsInput) S.RightParen
Phrases (MoreInputs ps) = Listing SpellsInput (Separated S.Semicolon SpellsInput) S.RightParen ps
Phrases (InputStreams ns) = After (Leading SpellsName (Separated S.Comma SpellsName)) (Separated S.Comma SpellsName) ns
Phrases End = SpellsEnd
Phrases LogicClause = SpellsLogic
Phrases State = SpellsStateClause
Phrases (Handlers hs) = Rows SpellsHandler hs
Phrases (HandlerOf at event) = λ h b. (t : Token) → HandlesEvent event t → t.start ≡ at → SpellsHandler h (t ∷ b)
Phrases WindowClause = PlacedClause K.Window SpellsPortWindow
Phrases (Windows ws) = Rows SpellsPortWindow ws
Phrases (WindowParts ps) = Listing SpellsWindowPart (Separated S.Comma SpellsWindowPart) S.Semicolon ps
Phrases PartArguments = λ es b. (t : Token) (n : List ℕ) → Names n t → SpellsWindowPart (part_with t n es) (t ∷ b)
Phrases (ParameterClause word) = Clause word SpellsParameter
Phrases (Parameters ps) = Rows SpellsParameter ps
Phrases OutputClause = PlacedClause K.Output SpellsOutputAssignments
Phrases (Outputs us) = Rows SpellsOutputAssignments us
Phrases (Assignments fs) = Listing SpellsField Fields S.Semicolon fs
Phrases CompositeOf = λ x b. (w : Token) (a : List Token) → SpellsPublic a → IsKeyword K.Composite w → SpellsComposite x (a ++ w ∷ b)
Phrases HeadPorts = λ h a. SpellsHeadPorts h.0 h.1 a
Phrases (Ports ps) = After (Leading SpellsHeadPort (Separated S.Comma SpellsHeadPort)) (Separated S.Comma SpellsHeadPort) ps
Phrases Port = SpellsHeadPort
Phrases CompositeParameterClause = Clause K.Param SpellsCompositeParameter
Phrases (CompositeParameters ps) = Rows SpellsCompositeParameter ps
Phrases (Default k n) = After (LeadingDefault k) SpellsCompositeParameter n
Phrases TypeClause = Clause K.Type SpellsTypeDefinition
Phrases (Types ts) = Rows SpellsTypeDefinition ts
Phrases GraphClause = Clause K.Graph SpellsInvocation
Phrases (Graph xs) = Rows SpellsInvocation xs
Phrases TypeOf = SpellsTypeDefinition
Phrases (FunctionOf result) = After SpellsResultType SpellsFunction result
Phrases FunctionParameters = Closed SpellsFunctionParameters S.RightParen
Phrases (Definitions xs) = Rows SpellsDefinition xs
Phrases Namespace = λ _ b. (w : Token) (ns : List Name) (a : List Token) → IsKeyword K.Namespace w → Leading SpellsName (Separated S.Dot SpellsName) ns a
    → SpellsNamespace (w ∷ (a ++ b))
Phrases Whole = SpellsUnit
