-- What is spelled as a declaration, a statement or a block is read.
use Rattle.std.proofs.Common.{◌≡◌, ℕ, ◌<◌, Bool, true, false, List, [], ◌∷◌, ◌++◌, Option, Some, None, is_some, refl, arith, append_assoc}
use Rattle.spl_tree.specs.declared.expression.BinaryOperator.{BinaryOperator}
use Rattle.spl_tree.specs.declared.expression.ExprKind.TheVariants as X
use Rattle.spl_tree.specs.declared.expression.Step.{Step}
use Rattle.spl_tree.specs.declared.keyword.Keyword.{Keyword}
use Rattle.spl_tree.specs.declared.keyword.Keyword.TheVariants as K
use Rattle.spl_tree.specs.declared.shape.TypeKind.TheVariants as Y
use Rattle.spl_tree.specs.declared.statement.Declaration.{Declaration}
use Rattle.spl_tree.specs.declared.statement.StmtKind.TheVariants as Z
use Rattle.spl_tree.specs.declared.symbol.Symbol.{Symbol}
use Rattle.spl_tree.specs.declared.symbol.Symbol.TheVariants as S
use Rattle.spl_tree.specs.declared.token.Token.{Token}
use Rattle.spl_tree.specs.declared.token.TokenKind.{TokenKind}
use Rattle.spl_tree.specs.declared.token.TokenKind.TheVariants as T
use Rattle.spl_tree.specs.Operators.{is_symbol, assignment_symbol, assignment_of}
use Rattle.spl_tree.specs.Trees.{Expr, placed, TypeExpr, Stmt, IsNoIf}
use Rattle.spl_tree.specs.spellings.Grammar.{Is, Names, Spells, Steps, no_steps, member, index}
use Rattle.spl_tree.specs.spellings.TypeGrammar.{SpellsType, boolean, rstring, int, left_out, name, list, map, tuple}
use Rattle.spl_tree.specs.spellings.StatementGrammar.{SpellsPlace, variable, taken, SpellsCall, call, SpellsValue, no_value, value, SpellsMutable, constant, mutable, SpellsDeclaration, declaration, SpellsReturned, no_result, result, BeginsAt, begins, SpellsStmt, block, declare, assign, call_alone, if_alone, if_else, while, for, break, continue, return, submit, SpellsArms, first_arm, next_arm, SpellsStmts, no_statements, more_statements, SpellsBlock, block_of}
use Rattle.expr_parser.specs.Rules.{done, look, Took, RunsTo, Reads}
use Rattle.expr_parser.proofs.RuleLaws.{line, runs_done, runs_call}
use Rattle.expr_parser.specs.Taken.{begins_with}
use Rattle.expr_parser.specs.Lines as expressions
use Rattle.expr_parser.specs.Lines.{is, is_name, name_kind}
use Rattle.expr_parser.proofs.TestLaws.{Stops, binds, opens_kind}
use Rattle.expr_parser.proofs.Complete.{spells_opens, elements_reads, closes_parens, steps_reads, steps_end}
use Rattle.statement_parser.specs.Lines.{rule, R, is_word, Name, Declare, Declared, Valued, Statement, Other, Begun, Statements, Block, declared, expect, expression, other_rule, arms_end}
use Rattle.statement_parser.proofs.CompleteParts.{Heads, no_word, no_symbol, no_name, takes, skips, expects, expects_word, only, embedded, expression_reads}
use Rattle.unit_parser.proofs.CompleteTypes.{type_word, type_kinds, type_begins, type_reads, type_at, at_one}

-- What statements begin with

-- reserved words that begin a declaration
abbrev pub declaration_word : Keyword → Bool
declaration_word K.Mutable = true
declaration_word k = type_word k

-- tokens that begin one
abbrev pub declaration_kinds : TokenKind → Bool
declaration_kinds (T.Word n) = true
declaration_kinds (T.Keyword k) = declaration_word k
declaration_kinds _ = false

-- reserved words that begin a statement
abbrev statement_word : Keyword → Bool
statement_word K.If = true
statement_word K.While = true
statement_word K.For = true
statement_word K.Break = true
statement_word K.Continue = true
statement_word K.Return = true
statement_word K.Submit = true
statement_word k = declaration_word k

abbrev statement_symbol : Symbol → Bool
statement_symbol S.LeftBrace = true
statement_symbol _ = false

-- tokens that begin one
abbrev statement_kinds : TokenKind → Bool
statement_kinds (T.Word n) = true
statement_kinds (T.Keyword k) = statement_word k
statement_kinds (T.Symbol s) = statement_symbol s
statement_kinds _ = false

-- what passes one test passes another
heads_too : (q p : TokenKind → Bool) → ((k : TokenKind) → q k ≡ true → p k ≡ true) → (ts : List Token) → Heads q ts → Heads p ts
heads_too q p all [] e = absurd (cc)
heads_too q p all (t ∷ ts) e = all t.kind e

-- a type begins a declaration
type_declares : (k : TokenKind) → type_kinds k ≡ true → declaration_kinds k ≡ true
type_declares (T.Word n) e = refl
type_declares (T.Keyword k) e = by k e
  where
    by : (k : Keyword) → type_word k ≡ true → declaration_word k ≡ true
    by K.Mutable e = refl
    by _ e = e
type_declares _ e = absurd (cc)

-- and a declaration a statement
declaration_states : (k : TokenKind) → declaration_kinds k ≡ true → statement_kinds k ≡ true
declaration_states (T.Word n) e = refl
declaration_states (T.Keyword k) e = by k e
  where
    by : (k : Keyword) → declaration_word k ≡ true → statement_word k ≡ true
    by K.If e = refl
    by K.While e = refl
    by K.For e = refl
    by K.Break e = refl
    by K.Continue e = refl
    by K.Return e = refl
    by K.Submit e = refl
    by _ e = e
declaration_states _ e = absurd (cc)

pub declaration_begins : {d : Declaration} {a : List Token} → SpellsDeclaration d a → (rest : List Token) → Heads declaration_kinds (a ++ rest)
declaration_begins (declaration m k t s n v a b d sm dk named sv semi) rest = by sm
  where
    by : {m : Bool} {a : List Token} → SpellsMutable m a → Heads declaration_kinds ((a ++ (b ++ t ∷ (d ++ s ∷ []))) ++ rest)
    by constant = rw (append_assoc b (t ∷ (d ++ s ∷ [])) rest)
        (heads_too type_kinds declaration_kinds type_declares (b ++ t ∷ ((d ++ s ∷ []) ++ rest)) (type_begins dk (t ∷ ((d ++ s ∷ []) ++ rest))))
    by (mutable u e) = rw e refl

arms_begin : {last : Bool} {at : ℕ} {arms : List (Expr × Stmt)} {a : List Token} → SpellsArms last at arms a → (rest : List Token) → Heads statement_kinds (a ++ rest)
arms_begin (first_arm closed t o c e s a b word left d right ds) rest = rw word refl
arms_begin (next_arm closed at arms l t o c e s a b d ds other word left de right dst) rest =
    rw (append_assoc a (l ∷ t ∷ o ∷ (b ++ c ∷ d)) rest) (arms_begin ds (l ∷ t ∷ o ∷ ((b ++ c ∷ d) ++ rest)))

place_begins : {p : Expr} {a : List Token} → SpellsPlace p a → (rest : List Token) → Heads statement_kinds (a ++ rest)
place_begins (variable t n named) rest = rw named refl
place_begins (taken t n s ss a named ds) rest = rw named refl

call_begins : {e : Expr} {a : List Token} → SpellsCall e a → (rest : List Token) → Heads statement_kinds (a ++ rest)
call_begins (call t o c n es a named left d right) rest = rw named refl

statement_begins : {closed : Bool} {s : Stmt} {a : List Token} → SpellsStmt closed s a → (rest : List Token) → Heads statement_kinds (a ++ rest)
statement_begins (block o c ss a left ds right) rest = rw left refl
statement_begins (declare d at a sd place) rest = heads_too declaration_kinds statement_kinds declaration_states (a ++ rest) (declaration_begins sd rest)
statement_begins (assign p e t s op a b dp known d semi) rest = rw (append_assoc a (t ∷ (b ++ s ∷ [])) rest) (place_begins dp (t ∷ ((b ++ s ∷ []) ++ rest)))
statement_begins (call_alone e s a d semi) rest = rw (append_assoc a (s ∷ []) rest) (call_begins d (s ∷ rest))
statement_begins (if_alone last at arms a ds) rest = arms_begin ds rest
statement_begins (if_else closed at arms s t a b ds other dst no_if) rest = rw (append_assoc a (t ∷ b) rest) (arms_begin ds (t ∷ (b ++ rest)))
statement_begins (while closed t o c e s a b word left d right dst) rest = rw word refl
statement_begins (for closed t o v i c k n e s a b d word left dk named inside de right dst) rest = rw word refl
statement_begins (break t s word semi) rest = rw word refl
statement_begins (continue t s word semi) rest = rw word refl
statement_begins (return t s v a word d semi) rest = rw word refl
statement_begins (submit t o m n c s e stream a word left d comma named right semi) rest = rw word refl

-- Declarations

-- the value of a variable
value_reads : {v : Option Expr} {a : List Token} → SpellsValue v a → (m : Bool) (k : TypeExpr) (n : Name) (s : Token) (rest : List Token) → Is S.Semicolon s
    → Reads rule (Valued m k n) (a ++ s ∷ rest) (Took (declared m k n v) rest)
unfolding rule
value_reads no_value m k n s rest semi = line (skips (rw semi refl) (expects semi runs_done))
value_reads (value t e a equals d) m k n s rest semi =
    line (takes (rw equals refl) (expression_reads d S.Semicolon (omega arith) semi (expects semi runs_done)))

-- a variable after its type
declared_reads : {v : Option Expr} {a : List Token} → SpellsValue v a → (m : Bool) (k : TypeExpr) (t s : Token) (n : List ℕ) (rest : List Token) → Names n t
    → Is S.Semicolon s → Reads rule (Declared m k) (t ∷ (a ++ s ∷ rest)) (Took (declared m k (placed t.start n) v) rest)
unfolding rule
declared_reads d m k t s n rest named semi = line (takes (rw named refl) (rw named (only (value_reads d m k (placed t.start n) s rest semi))))

-- a declaration
pub declaration_reads : {d : Declaration} {a : List Token} → SpellsDeclaration d a → (rest : List Token) → Reads rule Declare (a ++ rest) (Took d rest)
unfolding rule
declaration_reads (declaration m k t s n v a b d sm dk named sv semi) rest = by sm
  where
    by : {m : Bool} {a : List Token} → SpellsMutable m a
        → Reads rule Declare ((a ++ (b ++ t ∷ (d ++ s ∷ []))) ++ rest) (Took (declared m k (placed t.start n) v) rest)
    by constant = rw (append_assoc b (t ∷ (d ++ s ∷ [])) rest, append_assoc d (s ∷ []) rest)
        (line (skips (no_word type_kinds K.Mutable refl (b ++ t ∷ (d ++ s ∷ rest)) (type_begins dk (t ∷ (d ++ s ∷ rest))))
        (runs_call (type_reads dk (t ∷ (d ++ s ∷ rest))) (runs_call (declared_reads sv false k t s n rest named semi) runs_done))))
    by (mutable u e) = rw (append_assoc b (t ∷ (d ++ s ∷ [])) rest, append_assoc d (s ∷ []) rest)
        (line (takes (rw e refl)
        (runs_call (type_reads dk (t ∷ (d ++ s ∷ rest))) (runs_call (declared_reads sv true k t s n rest named semi) runs_done))))

-- Statements that begin with a name or a type

-- a name that begins a statement
named_other : {t : Token} {n : List ℕ} {ts rest : List Token} {s : Stmt} → Names n t → Reads rule (Begun t.start n) ts (Took s rest)
    → RunsTo rule other_rule (t ∷ ts) (Took (s, true) rest)
named_other e r =
    skips (rw e refl) (skips (rw e refl) (skips (rw e refl) (skips (rw e refl) (skips (rw e refl) (skips (rw e refl) (skips (rw e refl) (skips (rw e refl)
    (takes (rw e refl) (rw e (runs_call r runs_done))))))))))

-- tokens that begin a type and are no name
abbrev word_kinds : TokenKind → Bool
word_kinds (T.Keyword k) = type_word k
word_kinds _ = false

-- a type is a name, or it begins with a reserved word
data NameOr : TypeExpr → List Token → Type 0 where
  a_name : (t : Token) (n : List ℕ) → Names n t → NameOr (placed t.start (Y.Name n)) (t ∷ [])
  a_word : (k : TypeExpr) (a : List Token) → ((rest : List Token) → Heads word_kinds (a ++ rest)) → NameOr k a

name_or : {k : TypeExpr} {a : List Token} → SpellsType k a → NameOr k a
name_or (boolean t e) = a_word (placed t.start Y.Boolean) (t ∷ []) (λ rest. rw e refl)
name_or (rstring t e) = a_word (placed t.start Y.Rstring) (t ∷ []) (λ rest. rw e refl)
name_or (int t k e) = a_word (placed t.start (Y.Int k)) (t ∷ []) (λ rest. rw e refl)
name_or (left_out t w e) = a_word (placed t.start (Y.LeftOut w)) (t ∷ []) (λ rest. rw e refl)
name_or (name t n e) = a_name t n e
name_or (list t o c k a e left d right) = a_word (placed t.start (Y.List k)) (t ∷ o ∷ (a ++ c ∷ [])) (λ rest. rw e refl)
name_or (map t o m c k v a b e left dk comma dv right) = a_word (placed t.start (Y.Map k v)) (t ∷ o ∷ (a ++ m ∷ (b ++ c ∷ []))) (λ rest. rw e refl)
name_or (tuple t o c xs a e left d right) = a_word (placed t.start (Y.Tuple xs)) (t ∷ o ∷ (a ++ c ∷ [])) (λ rest. rw e refl)

-- a declaration of a variable that stays, as a statement
constant_other : {k : TypeExpr} {v : Option Expr} {b d : List Token} → SpellsType k b → SpellsValue v d → (t s : Token) (n : List ℕ) (rest : List Token) → Names n t
    → Is S.Semicolon s → RunsTo rule other_rule (b ++ t ∷ (d ++ s ∷ rest)) (Took (placed k.at (Z.Declare (declared false k (placed t.start n) v)), true) rest)
unfolding rule
constant_other {v = v} {d = d} dk sv t s n rest named semi = by (name_or dk) dk
  where
    by : {k : TypeExpr} {b : List Token} → NameOr k b → SpellsType k b
        → RunsTo rule other_rule (b ++ t ∷ (d ++ s ∷ rest)) (Took (placed k.at (Z.Declare (declared false k (placed t.start n) v)), true) rest)
    by (a_name u m e) dk = named_other e (line (takes (rw named refl) (rw named
        (runs_call (value_reads sv false (placed u.start (Y.Name m)) (placed t.start n) s rest semi) runs_done))))
    by (a_word k b front) dk =
        let ts = b ++ t ∷ (d ++ s ∷ rest) in
        let h : Heads word_kinds ts = front (t ∷ (d ++ s ∷ rest)) in
        skips (no_symbol word_kinds S.LeftBrace refl ts h) (skips (no_word word_kinds K.While refl ts h) (skips (no_word word_kinds K.For refl ts h)
        (skips (no_word word_kinds K.Break refl ts h) (skips (no_word word_kinds K.Continue refl ts h) (skips (no_word word_kinds K.Return refl ts h)
        (skips (no_word word_kinds K.Submit refl ts h) (skips (no_word word_kinds K.Mutable refl ts h) (skips (no_name word_kinds (λ m. refl) ts h)
        (runs_call (type_reads dk (t ∷ (d ++ s ∷ rest))) (runs_call (declared_reads sv false k t s n rest named semi) runs_done))))))))))

-- a declaration, as a statement
declare_other : {d : Declaration} {at : ℕ} {a : List Token} → SpellsDeclaration d a → BeginsAt at a → (rest : List Token)
    → RunsTo rule other_rule (a ++ rest) (Took (placed at (Z.Declare d), true) rest)
unfolding rule
declare_other {at = at} (declaration m k t s n v a b d sm dk named sv semi) place rest = by sm place
  where
    by : {m : Bool} {a : List Token} → SpellsMutable m a → BeginsAt at (a ++ (b ++ t ∷ (d ++ s ∷ [])))
        → RunsTo rule other_rule ((a ++ (b ++ t ∷ (d ++ s ∷ []))) ++ rest) (Took (placed at (Z.Declare (declared m k (placed t.start n) v)), true) rest)
    by constant place = rw (append_assoc b (t ∷ (d ++ s ∷ [])) rest, append_assoc d (s ∷ []) rest, ← at_one (t ∷ (d ++ s ∷ [])) (type_at dk) place)
        (constant_other dk sv t s n rest named semi)
    by (mutable u e) place = rw (append_assoc b (t ∷ (d ++ s ∷ [])) rest, append_assoc d (s ∷ []) rest, ← at_one (b ++ t ∷ (d ++ s ∷ [])) (begins u []) place)
        (skips (rw e refl) (skips (rw e refl) (skips (rw e refl) (skips (rw e refl) (skips (rw e refl) (skips (rw e refl) (skips (rw e refl)
        (takes (rw e refl) (runs_call (type_reads dk (t ∷ (d ++ s ∷ rest))) (runs_call (declared_reads sv true k t s n rest named semi) runs_done))))))))))

-- a call alone
call_other : {e : Expr} {a : List Token} → SpellsCall e a → (s : Token) (rest : List Token) → Is S.Semicolon s
    → RunsTo rule other_rule (a ++ s ∷ rest) (Took (placed e.at (Z.Call e), true) rest)
unfolding rule
call_other (call t o c n es a named left d right) s rest semi = rw (append_assoc a (c ∷ []) (s ∷ rest))
    (named_other named (line (skips (rw left refl) (takes (rw left refl)
    (runs_call (embedded (elements_reads d S.RightParen closes_parens c (s ∷ rest) right)) (expects semi runs_done))))))

-- nothing of an expression goes on at the operator of an assignment
assignment_binds : (k : TokenKind) (op : Option BinaryOperator) → assignment_of k ≡ Some op → 0 < binds k
assignment_binds (T.Symbol s) op e = by s e
  where
    by : (s : Symbol) → assignment_symbol s ≡ Some op → 0 < binds (T.Symbol s)
    by S.Assign e = omega arith
    by S.PlusAssign e = omega arith
    by S.MinusAssign e = omega arith
    by S.StarAssign e = omega arith
    by S.SlashAssign e = omega arith
    by S.PercentAssign e = omega arith
    by _ e = absurd (cc)
assignment_binds _ op e = absurd (cc)

-- steps begin with a `.` or a `[`
steps_begin : (q : TokenKind → Bool) → q (T.Symbol S.Dot) ≡ false → q (T.Symbol S.LeftBracket) ≡ false → {ss : List (Step Expr)} {a : List Token} → Steps ss a
    → (rest : List Token) → begins_with (λ t. q t.kind) rest ≡ false → begins_with (λ t. q t.kind) (a ++ rest) ≡ false
steps_begin q no_dot no_bracket no_steps rest e = e
steps_begin q no_dot no_bracket (member ss a d t n ds dot named) rest e =
    rw (append_assoc a (d ∷ t ∷ []) rest) (steps_begin q no_dot no_bracket ds (d ∷ t ∷ rest) (rw dot no_dot))
steps_begin q no_dot no_bracket (index ss i o c a b ds left d right) rest e =
    rw (append_assoc a (o ∷ (b ++ c ∷ [])) rest) (steps_begin q no_dot no_bracket ds (o ∷ ((b ++ c ∷ []) ++ rest)) (rw left no_bracket))

-- an assignment after the name with which it begins
begun_assign : {p e : Expr} {ts b : List Token} {op : Option BinaryOperator} (at : ℕ) (n : List ℕ) (t s : Token) (rest : List Token) → begins_with is_name ts ≡ false
    → begins_with (is S.LeftParen) ts ≡ false → Reads expressions.rule (expressions.Steps (placed at (X.Name n)) []) ts (Took p (t ∷ (b ++ s ∷ rest)))
    → assignment_of t.kind ≡ Some op → Spells e b → Is S.Semicolon s → Reads rule (Begun at n) ts (Took (placed at (Z.Assign p op e)) rest)
unfolding rule
begun_assign at n t s rest no_name no_paren r known d semi =
    line (skips no_name (skips no_paren (runs_call (embedded r)
    (takes (rw known refl) (rw known (expression_reads d S.Semicolon (omega arith) semi (expects semi runs_done)))))))

-- an assignment
assign_other : {p e : Expr} {a b : List Token} {op : Option BinaryOperator} → SpellsPlace p a → (t s : Token) (rest : List Token) → assignment_of t.kind ≡ Some op
    → Spells e b → Is S.Semicolon s → RunsTo rule other_rule (a ++ t ∷ (b ++ s ∷ rest)) (Took (placed p.at (Z.Assign p op e), true) rest)
unfolding rule
assign_other {e = e} {b = b} {op = op} place t s rest known d semi = by place
  where
    kinds : TokenKind → Bool
    kinds k = is_some (assignment_of k)

    behind : List Token
    behind = t ∷ (b ++ s ∷ rest)

    first : Heads kinds behind
    first = rw known refl

    stops : Stops 0 behind
    stops = assignment_binds t.kind op known

    by : {p : Expr} {a : List Token} → SpellsPlace p a → RunsTo rule other_rule (a ++ behind) (Took (placed p.at (Z.Assign p op e), true) rest)
    by (variable u n named) = named_other named (begun_assign u.start n t s rest (no_name kinds (λ m. refl) behind first) (no_symbol kinds S.LeftParen refl behind first)
        (steps_end (placed u.start (X.Name n)) [] behind stops) known d semi)
    by (taken u n x xs a named ds) = named_other named (begun_assign u.start n t s rest
        (steps_begin (λ k. is_some (name_kind k)) refl refl ds behind (no_name kinds (λ m. refl) behind first))
        (steps_begin (is_symbol S.LeftParen) refl refl ds behind (no_symbol kinds S.LeftParen refl behind first))
        (steps_reads ds (placed u.start (X.Name n)) behind (steps_end (placed u.start (X.Name n)) (x ∷ xs) behind stops)) known d semi)

-- Statements

-- no `else` comes after a statement that is not closed
abbrev pub Ends : Bool → List Token → Type 0
Ends true rest = Unit {0}
Ends false rest = begins_with (is_word K.Else) rest ≡ false

-- where there is none, any statement may end
Ends-any : (closed : Bool) (rest : List Token) → begins_with (is_word K.Else) rest ≡ false → Ends closed rest
Ends-any true rest e = tt
Ends-any false rest e = e

-- a statement is read, and where it is no `if`, as such a one
record IsRead (closed : Bool) (s : Stmt) (a : List Token) : Type 0 where
  whole : (rest : List Token) → Ends closed rest → Reads rule Statement (a ++ rest) (Took (s, closed) rest)
  other : IsNoIf s → (rest : List Token) → Ends closed rest → Reads rule Other (a ++ rest) (Took (s, closed) rest)
  front : IsNoIf s → (rest : List Token) → begins_with (is_word K.If) (a ++ rest) ≡ false

-- one that is no `if`
is_other : {closed : Bool} {s : Stmt} {a : List Token} → ((rest : List Token) → begins_with (is_word K.If) (a ++ rest) ≡ false)
    → ((rest : List Token) → Ends closed rest → RunsTo rule other_rule (a ++ rest) (Took (s, closed) rest)) → IsRead closed s a
unfolding rule
is_other front r = record {
  whole = λ rest ends. line (skips (front rest) (runs_call (line (r rest ends)) runs_done));
  other = λ none rest ends. line (r rest ends);
  front = λ none rest. front rest;
}

-- one that is
is_if : {closed : Bool} {s : Stmt} {a : List Token} → (IsNoIf s → ⊥)
    → ((rest : List Token) → Ends closed rest → Reads rule Statement (a ++ rest) (Took (s, closed) rest)) → IsRead closed s a
is_if clash r = record { whole = r; other = λ none rest ends. absurd (clash none); front = λ none rest. absurd (clash none) }

-- what comes after `return`
abbrev return_rule : ℕ → R (Stmt × Bool)
return_rule at = look (is S.Semicolon) (λ _. done (placed at (Z.Return None), true))
    (expression (λ e. expect S.Semicolon (done (placed at (Z.Return (Some e)), true))))

-- the value of a `return`
returned_reads : {v : Option Expr} {a : List Token} → SpellsReturned v a → (at : ℕ) (s : Token) (rest : List Token) → Is S.Semicolon s
    → RunsTo rule (return_rule at) (a ++ s ∷ rest) (Took (placed at (Z.Return v), true) rest)
returned_reads no_result at s rest semi = takes (rw semi refl) runs_done
returned_reads (result e a d) at s rest semi =
    skips (no_symbol opens_kind S.Semicolon refl (a ++ s ∷ rest) (spells_opens d (s ∷ rest)))
    (expression_reads d S.Semicolon (omega arith) semi (expects semi runs_done))

-- no place begins with `if`
place_front : {p : Expr} {a : List Token} → SpellsPlace p a → (rest : List Token) → begins_with (is_word K.If) (a ++ rest) ≡ false
place_front (variable t n named) rest = rw named refl
place_front (taken t n s ss a named ds) rest = rw named refl

-- and no call
call_front : {e : Expr} {a : List Token} → SpellsCall e a → (rest : List Token) → begins_with (is_word K.If) (a ++ rest) ≡ false
call_front (call t o c n es a named left d right) rest = rw named refl

-- an `if` with no `else`
arms_alone : (at : ℕ) (arms : List (Expr × Stmt)) (last : Bool) (rest : List Token) → begins_with (is_word K.Else) rest ≡ false
    → RunsTo rule (arms_end at arms last) rest (Took (placed at (Z.If arms None), false) rest)
arms_alone at arms true rest e = skips e runs_done
arms_alone at arms false rest e = runs_done

-- no statement begins with `else`
no_else : {closed : Bool} {s : Stmt} {a : List Token} → SpellsStmt closed s a → (rest : List Token) → begins_with (is_word K.Else) (a ++ rest) ≡ false
no_else {a = a} d rest = no_word statement_kinds K.Else refl (a ++ rest) (statement_begins d rest)

mutual
  unfolding rule

  statement_reads : {closed : Bool} {s : Stmt} {a : List Token} → SpellsStmt closed s a → IsRead closed s a
  statement_reads (block o c ss a left ds right) = is_other (λ rest. rw left refl) (λ rest ends. rw (append_assoc a (c ∷ []) rest)
      (takes (rw left refl) (runs_call (statements_reads ds (c ∷ rest) (rw right refl) (line (takes (rw right refl) runs_done))) runs_done)))
  statement_reads (declare d at a sd place) = is_other
      (λ rest. no_word declaration_kinds K.If refl (a ++ rest) (declaration_begins sd rest))
      (λ rest ends. declare_other sd place rest)
  statement_reads (assign p e t s op a b dp known d semi) = is_other
      (λ rest. rw (append_assoc a (t ∷ (b ++ s ∷ [])) rest) (place_front dp (t ∷ ((b ++ s ∷ []) ++ rest))))
      (λ rest ends. rw (append_assoc a (t ∷ (b ++ s ∷ [])) rest, append_assoc b (s ∷ []) rest) (assign_other dp t s rest known d semi))
  statement_reads (call_alone e s a d semi) = is_other
      (λ rest. rw (append_assoc a (s ∷ []) rest) (call_front d (s ∷ rest)))
      (λ rest ends. rw (append_assoc a (s ∷ []) rest) (call_other d s rest semi))
  statement_reads (if_alone last at arms a ds) = is_if (λ none. none arms None refl)
      (λ rest ends. arms_reads ds rest (Ends-any last rest ends) (arms_alone at arms last rest ends))
  statement_reads (if_else closed at arms s t a b ds other dst no_if) = is_if (λ none. none arms (Some s) refl)
      (λ rest ends. rw (append_assoc a (t ∷ b) rest) (arms_reads ds (t ∷ (b ++ rest)) tt (takes (rw other refl)
      (skips ((statement_reads dst).front no_if rest) (runs_call ((statement_reads dst).other no_if rest ends) runs_done)))))
  statement_reads (while closed t o c e s a b word left d right dst) = is_other (λ rest. rw word refl) (λ rest ends. rw (append_assoc a (c ∷ b) rest)
      (skips (rw word refl) (takes (rw word refl) (expects left (expression_reads d S.RightParen (omega arith) right (expects right
      (runs_call ((statement_reads dst).whole rest ends) runs_done)))))))
  statement_reads (for closed t o v i c k n e s a b d word left dk named inside de right dst) = is_other (λ rest. rw word refl)
      (λ rest ends. rw (append_assoc a (v ∷ i ∷ (b ++ c ∷ d)) rest, append_assoc b (c ∷ d) rest)
      (skips (rw word refl) (skips (rw word refl) (takes (rw word refl) (expects left (runs_call (type_reads dk (v ∷ i ∷ (b ++ c ∷ (d ++ rest))))
      (takes (rw named refl) (rw named (expects_word inside (expression_reads de S.RightParen (omega arith) right (expects right
      (runs_call ((statement_reads dst).whole rest ends) runs_done))))))))))))
  statement_reads (break t s word semi) = is_other (λ rest. rw word refl) (λ rest ends.
      skips (rw word refl) (skips (rw word refl) (skips (rw word refl) (takes (rw word refl) (expects semi runs_done)))))
  statement_reads (continue t s word semi) = is_other (λ rest. rw word refl) (λ rest ends.
      skips (rw word refl) (skips (rw word refl) (skips (rw word refl) (skips (rw word refl) (takes (rw word refl) (expects semi runs_done))))))
  statement_reads (return t s v a word d semi) = is_other (λ rest. rw word refl) (λ rest ends. rw (append_assoc a (s ∷ []) rest)
      (skips (rw word refl) (skips (rw word refl) (skips (rw word refl) (skips (rw word refl) (skips (rw word refl) (takes (rw word refl)
      (returned_reads d t.start s rest semi))))))))
  statement_reads (submit t o m n c s e stream a word left d comma named right semi) = is_other (λ rest. rw word refl)
      (λ rest ends. rw (append_assoc a (m ∷ n ∷ c ∷ s ∷ []) rest)
      (skips (rw word refl) (skips (rw word refl) (skips (rw word refl) (skips (rw word refl) (skips (rw word refl) (skips (rw word refl) (takes (rw word refl)
      (expects left (expression_reads d S.Comma (omega arith) comma (expects comma
      (takes (rw named refl) (rw named (expects right (expects semi runs_done)))))))))))))))

  -- the arms of an `if`, and then what comes after them
  arms_reads : {last : Bool} {at : ℕ} {arms : List (Expr × Stmt)} {a : List Token} → SpellsArms last at arms a → (rest : List Token) → Ends last rest
      → {o : Stmt × Bool} {out : List Token} → RunsTo rule (arms_end at arms last) rest (Took o out) → Reads rule Statement (a ++ rest) (Took o out)
  arms_reads (first_arm closed t o c e s a b word left d right ds) rest ends r = rw (append_assoc a (c ∷ b) rest)
      (line (takes (rw word refl) (runs_call (line (expects left (expression_reads d S.RightParen (omega arith) right (expects right
      (runs_call ((statement_reads ds).whole rest ends) r))))) runs_done)))
  arms_reads (next_arm closed at arms l t o c e s a b d ds other word left de right dst) rest ends r =
      rw (append_assoc a (l ∷ t ∷ o ∷ (b ++ c ∷ d)) rest, append_assoc b (c ∷ d) rest)
      (arms_reads ds (l ∷ t ∷ o ∷ (b ++ c ∷ (d ++ rest))) tt (takes (rw other refl) (takes (rw word refl)
      (runs_call (line (expects left (expression_reads de S.RightParen (omega arith) right (expects right
      (runs_call ((statement_reads dst).whole rest ends) r))))) runs_done))))

  -- statements in a row, and then what comes after them
  statements_reads : {ss : List Stmt} {a : List Token} → SpellsStmts ss a → (rest : List Token) → begins_with (is_word K.Else) rest ≡ false
      → {w : List Stmt} {out : List Token} → Reads rule (Statements ss) rest (Took w out) → Reads rule (Statements []) (a ++ rest) (Took w out)
  statements_reads no_statements rest front r = r
  statements_reads (more_statements closed ss s a b ds d) rest front r = rw (append_assoc a b rest)
      (statements_reads ds (b ++ rest) (no_else d rest)
      (line (skips (no_symbol statement_kinds S.RightBrace refl (b ++ rest) (statement_begins d rest))
      (runs_call ((statement_reads d).whole rest (Ends-any closed rest front)) (runs_call r runs_done)))))

-- statements between braces
pub block_reads : {ss : List Stmt} {a : List Token} → SpellsBlock ss a → (rest : List Token) → Reads rule Block (a ++ rest) (Took ss rest)
unfolding rule
block_reads (block_of o c ss a left ds right) rest = rw (append_assoc a (c ∷ []) rest)
    (line (expects left (runs_call (statements_reads ds (c ∷ rest) (rw right refl) (line (takes (rw right refl) runs_done))) runs_done)))
