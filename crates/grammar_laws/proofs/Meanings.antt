-- What each phrase is of which the lines of the grammar speak: a piece that the relations of expressions, types, statements
-- and definitions say. What a line asks for is then such pieces one after another.
use Rattle.std.proofs.Common.{◌≡◌, ℕ, Bool, List, [], ◌∷◌, ◌++◌, Some, refl, sym, subst, append_assoc, append-nil}
use Rattle.spl_tree.specs.declared.expression.CastTarget.{CastTarget}
use Rattle.spl_tree.specs.declared.expression.PrefixOperator.{PrefixOperator}
use Rattle.spl_tree.specs.declared.expression.PrefixOperator.TheVariants as P
use Rattle.spl_tree.specs.declared.symbol.Symbol.{Symbol}
use Rattle.spl_tree.specs.declared.symbol.Symbol.TheVariants as S
use Rattle.spl_tree.specs.declared.token.Token.{Token}
use Rattle.spl_tree.specs.declared.token.TokenKind.{TokenKind}
use Rattle.spl_tree.specs.declared.token.TokenKind.TheVariants as T
use Rattle.spl_tree.specs.Operators.{prefix_of, target_of}
use Rattle.spl_tree.specs.spellings.Grammar as G
use Rattle.spl_tree.specs.Trees.{Prefix, placed, Stmt}
use Rattle.spl_tree.specs.spellings.Grammar.{Is}
use Rattle.spl_tree.specs.spellings.Phrases as R
use Rattle.spl_tree.specs.spellings.Phrases.{Row, Separated}
use Rattle.spl_tree.specs.spellings.TypeGrammar.{SpellsType, SpellsShape}
use Rattle.spl_tree.specs.spellings.StatementGrammar.{SpellsPlace, SpellsDeclaration, SpellsStmt, SpellsArms}
use Rattle.spl_tree.specs.spellings.UnitGrammar.{SpellsInvocation, SpellsHead, SpellsInput, SpellsStateClause, SpellsPortWindow, SpellsOutputAssignments, SpellsParameter, SpellsEnd, SpellsHeadPorts, SpellsDefinition, SpellsNamespace, SpellsUnit}
use Rattle.spl_tree.specs.Grammar as L
use Rattle.grammar_laws.specs.Pieces.{Piece, One, one, Name, name, Dollar, dollar, Joined, joined, Nothing, nothing, In, first}
use Rattle.grammar_laws.specs.ExpressionLines.{placed_at}
use Rattle.grammar_laws.proofs.StatementLines.{first-append}

-- ---- phrases

-- that piece, or no token
pub data Perhaps (P : List Token → Type 0) : List Token → Type 0 where
  absent : Perhaps P []
  present : (a : List Token) → P a → Perhaps P a

-- a prefix operator or a cast
pub data Front : Prefix → List Token → Type 0 where
  operator : (t : Token) (p : PrefixOperator) → prefix_of t.kind ≡ Some p → Front (placed t.start p) (t ∷ [])
  cast : (o t c : Token) (target : CastTarget) → Is S.LeftParen o → target_of t.kind ≡ Some target → Is S.RightParen c
      → Front (placed o.start (P.Cast target)) (o ∷ t ∷ c ∷ [])

-- a statement, closed or not
pub data SomeStmt (s : Stmt) (ts : List Token) : Type 0 where
  some_stmt : (closed : Bool) → SpellsStmt closed s ts → SomeStmt s ts

-- a phrase at the place where its first token begins; a name together with its place
abbrev pub AtPlace : ℕ → L.Phrase → Piece → Piece
AtPlace at (L.OneToken (T.Word n)) P = Name (placed at n)
AtPlace at (L.OneToken (T.Dollar n)) P = Dollar (placed at n)
AtPlace at p P = placed_at at P

-- what a phrase is
abbrev pub Meant : L.Phrase → Piece
Meant (L.OneToken kind) = One kind
Meant (L.At at p) = AtPlace at p (Meant p)
Meant (L.Optional p) = Perhaps (Meant p)
Meant (L.Primary e) = G.Primary e
Meant (L.Operand e) = G.Operand e
Meant (L.InFront p) = Front p
Meant (L.Unary e) = G.Unary e
Meant (L.Level k e) = G.At k e
Meant (L.Expression e) = G.Spells e
Meant (L.AType k) = SpellsType k
Meant (L.AShape h) = SpellsShape h
Meant (L.Place p) = SpellsPlace p
Meant (L.Variable d) = SpellsDeclaration d
Meant (L.Statement closed s) = SpellsStmt closed s
Meant (L.AnyStatement s) = SomeStmt s
Meant (L.Arms closed at arms) = SpellsArms closed at arms
Meant (L.AnInvocation v) = SpellsInvocation v
Meant (L.Head xs l) = SpellsHead xs l
Meant (L.Input p) = SpellsInput p
Meant (L.States ds) = SpellsStateClause ds
Meant (L.Windows w) = SpellsPortWindow w
Meant (L.Assignments u) = SpellsOutputAssignments u
Meant (L.AParameter p) = SpellsParameter p
Meant (L.Ending x) = SpellsEnd x
Meant (L.Ports us is) = SpellsHeadPorts us is
Meant (L.ADefinition d) = SpellsDefinition d
Meant L.Namespace = SpellsNamespace
Meant (L.Program ds) = SpellsUnit ds

-- a phrase is placed at its first token
pub placed_phrase : (p : L.Phrase) (t : Token) (a : List Token) → Meant p (t ∷ a) → Meant (L.At t.start p) (t ∷ a)
placed_phrase (L.OneToken (T.Word n)) t _ (one _ is) = name t n is
placed_phrase (L.OneToken (T.Dollar n)) t _ (one _ is) = dollar t n is
placed_phrase p t a d = (d, refl)

-- ---- phrases one after another

-- what phrases are, one after another
abbrev pub MeantAll : List L.Phrase → Piece
MeantAll [] = Nothing
MeantAll (p ∷ ps) = Joined (Meant p) (MeantAll ps)

-- where nothing follows
last : {P : Piece} {ts : List Token} → Joined P Nothing ts → P ts
last {P} (joined a _ d nothing) = subst P (sym (append-nil a)) d

-- the one phrase of a line
pub only : (p : L.Phrase) (ts : List Token) → MeantAll (p ∷ []) ts → Meant p ts
only p ts d = last d

-- the one phrase that is made of each
pub alone : {A : Type 0} (f : A → L.Phrase) (x : A) (ts : List Token) → MeantAll (L.alone f x) ts → Meant (f x) ts
alone f x ts d = last d

-- the phrases of a line as pieces
abbrev pub pieces : List L.Phrase → List Piece
pieces [] = []
pieces (p ∷ ps) = Meant p ∷ pieces ps

-- a line is its pieces
pub line : (ps : List L.Phrase) (ts : List Token) → MeantAll ps ts → In (pieces ps) ts
line [] ts h = h
line (p ∷ []) ts h = last h
line (p ∷ q ∷ ps) _ (joined a b d rest) = joined a b d (line (q ∷ ps) b rest)

pub whole_line : {p : L.Phrase} {ps : List L.Phrase} → L.Line p ps → (ts : List Token) → MeantAll ps ts → In (pieces ps) ts
whole_line {ps = ps} made ts h = line ps ts h

-- the same where the first phrase begins at a place
pub placed_line : {q : L.Phrase} {at : ℕ} {p : L.Phrase} {ps : List L.Phrase} → L.Line q (L.At at p ∷ ps) → (ts : List Token)
    → Joined (placed_at at (Meant p)) (MeantAll ps) ts → In (pieces (p ∷ ps)) ts × (first ts ≡ Some at)
placed_line {p = p} {ps} made _ (joined a b (d, start) rest) = (line (p ∷ ps) _ (joined a b d rest), first-append a b start)

-- ---- parts of a line

-- pieces that follow from pieces
pub both : {P Q A B : Piece} → ((ts : List Token) → P ts → A ts) → ((ts : List Token) → Q ts → B ts) → (ts : List Token) → Joined P Q ts → Joined A B ts
both f g _ (joined a b d e) = joined a b (f a d) (g b e)

-- the same behind a piece that stays as it is
pub keep : {P Q B : Piece} → ((ts : List Token) → Q ts → B ts) → (ts : List Token) → Joined P Q ts → Joined P B ts
keep g _ (joined a b d e) = joined a b d (g b e)

-- the same behind one that begins at a place
pub begun : {at : ℕ} {P Q B : Piece} → ((ts : List Token) → Q ts → B ts) → (ts : List Token) → Joined (placed_at at P) Q ts → Joined P B ts × (first ts ≡ Some at)
begun g _ (joined a b (d, start) rest) = (joined a b d (g b rest), first-append a b start)

-- of two pieces and a third, the first, and then the two others
pub along : {P Q A : Piece} (ts : List Token) → Joined (Joined P Q) A ts → Joined P (Joined Q A) ts
along {P} {Q} {A} _ (joined _ c (joined a b d e) f) = subst (Joined P (Joined Q A)) (sym (append_assoc a b c)) (joined a (b ++ c) d (joined b c e f))

-- the other way round
before : {P Q A : Piece} (a b : List Token) → P a → Joined Q A b → Joined (Joined P Q) A (a ++ b)
before {P} {Q} {A} a _ d (joined b c e f) = subst (Joined (Joined P Q) A) (append_assoc a b c) (joined (a ++ b) c (joined a b d e) f)

-- phrases, and others after them
pub split : (ps qs : List L.Phrase) (ts : List Token) → MeantAll (ps ++ qs) ts → Joined (MeantAll ps) (MeantAll qs) ts
split [] qs ts h = joined [] ts nothing h
split (p ∷ ps) qs _ (joined a b d rest) = before a b d (split ps qs b rest)

-- the same, with what both are
pub followed : {A B : Piece} (ps : List L.Phrase) → ((ts : List Token) → MeantAll ps ts → A ts) → (qs : List L.Phrase) → ((ts : List Token) → MeantAll qs ts → B ts)
    → (ts : List Token) → MeantAll (ps ++ qs) ts → Joined A B ts
followed ps each qs after ts h = both each after ts (split ps qs ts h)

-- phrases, and a token after them
pub ending : {A : Piece} (ps : List L.Phrase) → ((ts : List Token) → MeantAll ps ts → A ts) → (kind : TokenKind) → (ts : List Token)
    → MeantAll (ps ++ L.OneToken kind ∷ []) ts → Joined A (One kind) ts
ending ps each kind ts h = followed ps each (L.OneToken kind ∷ []) (only (L.OneToken kind)) ts h

-- phrases, a token after them, and then others
pub between : {A B : Piece} (ps : List L.Phrase) → ((ts : List Token) → MeantAll ps ts → A ts) → (kind : TokenKind) → (qs : List L.Phrase)
    → ((ts : List Token) → MeantAll qs ts → B ts) → (ts : List Token) → MeantAll ((ps ++ L.OneToken kind ∷ []) ++ qs) ts → Joined A (Joined (One kind) B) ts
between ps each kind qs after ts h = along ts (followed (ps ++ L.OneToken kind ∷ []) (ending ps each kind) qs after ts h)

-- ---- lists

row_joined : {A : Type 0} {Q : A → List Token → Type 0} (x : A) (a : List Token) {xs : List A} {b : List Token} → Q x a → Row Q xs b → Row Q (x ∷ xs) (a ++ b)
row_joined {Q = Q} x a d R.none = subst (Row Q (x ∷ [])) (sym (append-nil a)) (R.more [] x [] a R.none d)
row_joined {Q = Q} x a d (R.more ys y b c ds e) = subst (Row Q (x ∷ (ys ++ y ∷ []))) (append_assoc a b c) (R.more (x ∷ ys) y (a ++ b) c (row_joined x a d ds) e)

row_of : {A : Type 0} {Q : A → List Token → Type 0} {x : A} {xs : List A} {ts : List Token} → Joined (Q x) (Row Q xs) ts → Row Q (x ∷ xs) ts
row_of {x = x} (joined a b d ds) = row_joined x a d ds

-- phrases in a row
pub rows : {A : Type 0} {Q : A → List Token → Type 0} (f : A → List L.Phrase) → ((x : A) (ts : List Token) → MeantAll (f x) ts → Q x ts) → (xs : List A) (ts : List Token)
    → MeantAll (L.row f xs) ts → Row Q xs ts
rows f each [] _ nothing = R.none
rows f each (x ∷ xs) ts h = row_of (followed (f x) (each x) (L.row f xs) (λ b ds. rows f each xs b ds) ts h)

separated_joined : {A : Type 0} {s : Symbol} {Q : A → List Token → Type 0} (x : A) (a : List Token) (t : Token) {xs : List A} {b : List Token}
    → Q x a → Is s t → Separated s Q xs b → Separated s Q (x ∷ xs) (a ++ t ∷ b)
separated_joined x a t d is (R.first y b e) = R.next (x ∷ []) y t a b (R.first x a d) is e
separated_joined {s = s} {Q} x a t d is (R.next ys y u b c ds sign e) =
    subst (Separated s Q (x ∷ (ys ++ y ∷ []))) (append_assoc a (t ∷ b) (u ∷ c)) (R.next (x ∷ ys) y u (a ++ t ∷ b) c (separated_joined x a t d is ds) sign e)

separated_of : {A : Type 0} {s : Symbol} {Q : A → List Token → Type 0} {x : A} {xs : List A} {ts : List Token}
    → Joined (Q x) (Joined (One (T.Symbol s)) (Separated s Q xs)) ts → Separated s Q (x ∷ xs) ts
separated_of {x = x} (joined a _ d (joined _ b (one t is) ds)) = separated_joined x a t d is ds

-- one phrase or more, with that symbol between them
pub separate : {A : Type 0} {Q : A → List Token → Type 0} (s : Symbol) (f : A → List L.Phrase) → ((x : A) (ts : List Token) → MeantAll (f x) ts → Q x ts)
    → (x : A) (xs : List A) (ts : List Token) → MeantAll (L.separated s f (x ∷ xs)) ts → Separated s Q (x ∷ xs) ts
separate s f each x [] ts h = R.first x ts (each x ts h)
separate s f each x (y ∷ xs) ts h =
    separated_of (followed (f x) (each x) (L.Sign s ∷ L.separated s f (y ∷ xs)) (keep (λ b ds. separate s f each y xs b ds)) ts h)
