-- A statement is spelled by its line.
use Rattle.std.proofs.Common.{◌≡◌, ◌∙◌, ℕ, Bool, List, [], ◌∷◌, ◌++◌, Option, Some, None, refl, sym, ap}
use Rattle.spl_tree.specs.declared.expression.BinaryOperator.{BinaryOperator}
use Rattle.spl_tree.specs.declared.statement.StmtKind.{StmtKind}
use Rattle.spl_tree.specs.declared.symbol.Symbol.{Symbol}
use Rattle.spl_tree.specs.declared.symbol.Symbol.TheVariants as S
use Rattle.spl_tree.specs.declared.token.Token.{Token}
use Rattle.spl_tree.specs.declared.token.TokenKind.{TokenKind}
use Rattle.spl_tree.specs.declared.token.TokenKind.TheVariants as T
use Rattle.spl_tree.specs.Trees.{Expr, placed, Stmt}
use Rattle.spl_tree.specs.spellings.StatementGrammar as G
use Rattle.spl_tree.specs.Operators.{assignment_symbol, assignment_of}
use Rattle.spl_tree.specs.spellings.StatementGrammar.{SpellsPlace, variable, taken, SpellsCall, SpellsReturned, no_result, result, SpellsDeclaration, SpellsStmt, SpellsArms, first_arm, next_arm, BeginsAt, begins}
use Rattle.grammar_laws.specs.Pieces.{one, name, joined, first}
use Rattle.grammar_laws.specs.Lines.{Assigns, plain, add, subtract, multiply, divide, remainder, AssignSign, assign_sign, arms, StatementLine, block, declaration, assignment, call, open_if, if_else, while, for, break, continue, return, return_value, submit, StatementLineLaw, FirstArmLaw, NextArmLaw}

-- ---- places

pub first-append : {at : ℕ} (a b : List Token) → first a ≡ Some at → first (a ++ b) ≡ Some at
first-append [] b e = absurd (cc)
first-append (t ∷ a) b e = e

place_first : {p : Expr} {a : List Token} → SpellsPlace p a → first a ≡ Some p.at
place_first (variable t n is) = refl
place_first (taken t n s ss a is ds) = refl

call_first : {e : Expr} {a : List Token} → SpellsCall e a → first a ≡ Some e.at
call_first (G.call t o c n es a is left d right) = refl

arms_first : {last : Bool} {at : ℕ} {all : List (Expr × Stmt)} {a : List Token} → SpellsArms last at all a → first a ≡ Some at
arms_first (first_arm closed t o c e s a b is left d right ds) = refl
arms_first (next_arm closed at all l t o c e s a b d before else if left de right ds) = first-append a _ (arms_first before)

pub begins_first : {at : ℕ} {a : List Token} → BeginsAt at a → first a ≡ Some at
begins_first (begins t a) = refl

pub first_begins : {at : ℕ} (a : List Token) → first a ≡ Some at → BeginsAt at a
first_begins [] e = absurd (cc)
first_begins {at = at} (t ∷ a) e = let same : t.start ≡ at = cc in rw (← same) (begins t a)

-- one place
one_at : {at place : ℕ} {o : Option ℕ} → o ≡ Some at → o ≡ Some place → at ≡ place
one_at e f = let same = sym e ∙ f in cc

-- ---- parts

assigns_known : {op : Option BinaryOperator} {s : Symbol} → Assigns op s → assignment_symbol s ≡ Some op
assigns_known plain = refl
assigns_known add = refl
assigns_known subtract = refl
assigns_known multiply = refl
assigns_known divide = refl
assigns_known remainder = refl

assignment_sign : (op : Option BinaryOperator) (t : Token) → assignment_of t.kind ≡ Some op → AssignSign op (t ∷ [])
assignment_sign op t e = by t.kind refl e
  where
    by_symbol : (s : Symbol) → t.kind ≡ T.Symbol s → assignment_symbol s ≡ Some op → AssignSign op (t ∷ [])
    by_symbol S.Assign is e = let same : None ≡ op = cc in rw (← same) (assign_sign S.Assign (t ∷ []) plain (one t is))
    by_symbol S.PlusAssign is e = let same : _ ≡ op = cc in rw (← same) (assign_sign S.PlusAssign (t ∷ []) add (one t is))
    by_symbol S.MinusAssign is e = let same : _ ≡ op = cc in rw (← same) (assign_sign S.MinusAssign (t ∷ []) subtract (one t is))
    by_symbol S.StarAssign is e = let same : _ ≡ op = cc in rw (← same) (assign_sign S.StarAssign (t ∷ []) multiply (one t is))
    by_symbol S.SlashAssign is e = let same : _ ≡ op = cc in rw (← same) (assign_sign S.SlashAssign (t ∷ []) divide (one t is))
    by_symbol S.PercentAssign is e = let same : _ ≡ op = cc in rw (← same) (assign_sign S.PercentAssign (t ∷ []) remainder (one t is))
    by_symbol _ is e = absurd (cc)

    by : (k : TokenKind) → t.kind ≡ k → assignment_of k ≡ Some op → AssignSign op (t ∷ [])
    by (T.Symbol s) is e = by_symbol s is e
    by _ is e = absurd (cc)

-- ---- from the line to the statement

statement_is : {closed : Bool} {k : StmtKind} (at : ℕ) {ts : List Token} → StatementLine closed k ts → first ts ≡ Some at → SpellsStmt closed (placed at k) ts
statement_is at (block ss _ (joined _ _ (one o left) (joined a _ ds (one c right)))) e = let same : o.start ≡ at = cc in rw (← same) (G.block o c ss a left ds right)
statement_is at (declaration d ts h) e = G.declare d at ts h (first_begins ts e)
statement_is at (assignment p op v _ (joined a _ dp (joined _ _ (assign_sign s _ known (one t kind)) (joined b _ dv (one c semicolon))))) e =
    let same : p.at ≡ at = one_at (first-append a _ (place_first dp)) e in
    rw (← same) (G.assign p v t c op a b dp (ap assignment_of kind ∙ assigns_known known) dv semicolon)
statement_is at (call v _ (joined a _ d (one c semicolon))) e =
    let same : v.at ≡ at = one_at (first-append a _ (call_first d)) e in rw (← same) (G.call_alone v c a d semicolon)
statement_is at (open_if last all ts (arms place d)) e =
    let same : place ≡ at = one_at (arms_first d) e in rw (← same) (G.if_alone last place all ts d)
statement_is at (if_else closed all s _ other (joined a _ (arms place d) (joined _ b (one t is) ds))) e =
    let same : place ≡ at = one_at (first-append a _ (arms_first d)) e in rw (← same) (G.if_else closed place all s t a b d is ds other)
statement_is at (while closed v s _ (joined _ _ (one t is) (joined _ _ (one o left) (joined a _ d (joined _ b (one c right) ds))))) e =
    let same : t.start ≡ at = cc in rw (← same) (G.while closed t o c v s a b is left d right ds)
statement_is at (for closed k m v s _
    (joined _ _ (one t is) (joined _ _ (one o left) (joined a _ dk (joined _ _ (name w n named) (joined _ _ (one i within) (joined b _ d (joined _ f (one c right) ds)))))))) e =
    let same : t.start ≡ at = cc in rw (← same) (G.for closed t o w i c k n v s a b f is left dk named within d right ds)
statement_is at (break _ (joined _ _ (one t kind) (one s semicolon))) e = let same : t.start ≡ at = cc in rw (← same) (G.break t s kind semicolon)
statement_is at (continue _ (joined _ _ (one t kind) (one s semicolon))) e = let same : t.start ≡ at = cc in rw (← same) (G.continue t s kind semicolon)
statement_is at (return _ (joined _ _ (one t kind) (one s semicolon))) e =
    let same : t.start ≡ at = cc in rw (← same) (G.return t s None [] kind no_result semicolon)
statement_is at (return_value v _ (joined _ _ (one t kind) (joined a _ d (one s semicolon)))) e =
    let same : t.start ≡ at = cc in rw (← same) (G.return t s (Some v) a kind (result v a d) semicolon)
statement_is at (submit v stream _
    (joined _ _ (one t kind) (joined _ _ (one o left) (joined a _ d (joined _ _ (one m comma) (joined _ _ (name x n named) (joined _ _ (one c right) (one s semicolon)))))))) e =
    let same : t.start ≡ at = cc in rw (← same) (G.submit t o m x c s v n a kind left d comma named right semicolon)

-- ---- and back

is_statement : {closed : Bool} {s : Stmt} {ts : List Token} → SpellsStmt closed s ts → StatementLine closed s.what ts × (first ts ≡ Some s.at)
is_statement (G.block o c ss a left ds right) = (block ss _ (joined (o ∷ []) _ (one o left) (joined a _ ds (one c right))), refl)
is_statement (G.declare d at a h start) = (declaration d a h, begins_first start)
is_statement (G.assign p v t c op a b dp known dv semicolon) =
    (assignment p op v _ (joined a _ dp (joined (t ∷ []) _ (assignment_sign op t known) (joined b _ dv (one c semicolon)))), first-append a _ (place_first dp))
is_statement (G.call_alone v c a d semicolon) = (call v _ (joined a _ d (one c semicolon)), first-append a _ (call_first d))
is_statement (G.if_alone last at all a d) = (open_if last all a (arms at d), arms_first d)
is_statement (G.if_else closed at all s t a b d is ds other) =
    (if_else closed all s _ other (joined a _ (arms at d) (joined (t ∷ []) b (one t is) ds)), first-append a _ (arms_first d))
is_statement (G.while closed t o c v s a b is left d right ds) =
    (while closed v s _ (joined (t ∷ []) _ (one t is) (joined (o ∷ []) _ (one o left) (joined a _ d (joined (c ∷ []) b (one c right) ds)))), refl)
is_statement (G.for closed t o w i c k n v s a b f is left dk named within d right ds) = (
  for closed k (placed w.start n) v s _ (joined (t ∷ []) _ (one t is) (joined (o ∷ []) _ (one o left) (joined a _ dk (joined (w ∷ []) _ (name w n named)
      (joined (i ∷ []) _ (one i within) (joined b _ d (joined (c ∷ []) f (one c right) ds))))))),
  refl,
)
is_statement (G.break t s kind semicolon) = (break _ (joined (t ∷ []) _ (one t kind) (one s semicolon)), refl)
is_statement (G.continue t s kind semicolon) = (continue _ (joined (t ∷ []) _ (one t kind) (one s semicolon)), refl)
is_statement (G.return t s _ _ kind no_result semicolon) = (return _ (joined (t ∷ []) _ (one t kind) (one s semicolon)), refl)
is_statement (G.return t s _ _ kind (result v a d) semicolon) = (return_value v _ (joined (t ∷ []) _ (one t kind) (joined a _ d (one s semicolon))), refl)
is_statement (G.submit t o m x c s v n a kind left d comma named right semicolon) = (
  submit v (placed x.start n) _ (joined (t ∷ []) _ (one t kind) (joined (o ∷ []) _ (one o left) (joined a _ d (joined (m ∷ []) _ (one m comma)
      (joined (x ∷ []) _ (name x n named) (joined (c ∷ []) _ (one c right) (one s semicolon))))))),
  refl,
)

-- a statement is spelled by its line
pub statement_line_law : StatementLineLaw
statement_line_law closed s ts = (is_statement, λ h. statement_is s.at h.0 h.1)

pub first_arm_law : FirstArmLaw
first_arm_law closed e s ts (joined _ _ (one t is) (joined _ _ (one o left) (joined a _ d (joined _ b (one c right) ds)))) =
    arms t.start (first_arm closed t o c e s a b is left d right ds)

pub next_arm_law : NextArmLaw
next_arm_law closed all e s ts
    (joined a _ (arms at before) (joined _ _ (one l else) (joined _ _ (one t is) (joined _ _ (one o left) (joined b _ d (joined _ f (one c right) ds)))))) =
    arms at (next_arm closed at all l t o c e s a b f before else is left d right ds)
