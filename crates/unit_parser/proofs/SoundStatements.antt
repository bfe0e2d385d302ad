-- What is read of statements is spelled so.
use Rattle.std.proofs.Common.{◌≡◌, ℕ, Bool, true, false, List, [], ◌∷◌, ◌++◌, Option, Some, None, refl, append_assoc, append-nil}
use Rattle.spl_tree.specs.declared.expression.BinaryOperator.{BinaryOperator}
use Rattle.spl_tree.specs.declared.expression.ExprKind.TheVariants as X
use Rattle.spl_tree.specs.declared.keyword.Keyword.TheVariants as K
use Rattle.spl_tree.specs.declared.shape.TypeKind.TheVariants as Y
use Rattle.spl_tree.specs.declared.statement.Declaration.{Declaration}
use Rattle.spl_tree.specs.declared.statement.StmtKind.TheVariants as Z
use Rattle.spl_tree.specs.declared.symbol.Symbol.TheVariants as S
use Rattle.spl_tree.specs.declared.token.Token.{Token}
use Rattle.spl_tree.specs.Trees.{Expr, placed, TypeExpr, Stmt, IsNoIf}
use Rattle.spl_tree.specs.spellings.Grammar.{Is, Names, Elements, no_steps, Spells}
use Rattle.spl_tree.specs.spellings.Phrases.{IsKeyword, more}
use Rattle.spl_tree.specs.spellings.TypeGrammar as types
use Rattle.spl_tree.specs.spellings.TypeGrammar.{SpellsType}
use Rattle.spl_tree.specs.spellings.StatementGrammar as statements
use Rattle.spl_tree.specs.Operators.{assignment_of}
use Rattle.spl_tree.specs.spellings.StatementGrammar.{SpellsPlace, variable, taken, no_value, SpellsMutable, constant, mutable, SpellsDeclaration, BeginsAt, begins, SpellsStmt, SpellsArms, first_arm, next_arm, SpellsStmts, no_statements, more_statements, SpellsBlock, block_of}
use Rattle.spl_tree.specs.spellings.UnitGrammar as units
use Rattle.spl_tree.specs.spellings.UnitGrammar.{SpellsName}
use Rattle.expr_parser.specs.Lines.{name_of}
use Rattle.expr_parser.specs.Parts.{Closed, closed, SpellsSteps, alone, selects}
use Rattle.expr_parser.proofs.Soundness.{After}
use Rattle.statement_parser.specs.Lines as lines
use Rattle.statement_parser.specs.Lines.{Name, rule, arms_end}
use Rattle.unit_parser.proofs.SoundPhrases.{SpellsEither, LeadingArm, Phrases}
use Rattle.unit_parser.proofs.SoundSamples.{declaration_spells}
use Rattle.unit_parser.proofs.SoundRules.{LeadsTo, weaker, ended, called, last, comes_symbol, comes_word, comes_name, comes_assignment, may_symbol, may_word, may_name}
use Rattle.unit_parser.proofs.SoundTypes.{begins_more}
use Rattle.unit_parser.proofs.CompleteTypes.{type_at}

-- Declarations

pub declare_leads : LeadsTo (Phrases lines.Declare) (rule lines.Declare)
unfolding rule
declare_leads = may_word K.Mutable
    (λ t is. called (λ k. last (λ v b r a d. r a d (t ∷ []) (mutable t is))))
    (called (λ k. last (λ v b r a d. r a d [] constant)))

pub declared_leads : (m : Bool) (k : TypeExpr) → LeadsTo (Phrases (lines.Declared m k)) (rule (lines.Declared m k))
unfolding rule
declared_leads m k = comes_name (λ t word. last (λ v b r a d z mut. r (t ∷ []) (units.name t (name_of t) word) a d z mut))

pub valued_leads : (m : Bool) (k : TypeExpr) (n : Name) → LeadsTo (Phrases (lines.Valued m k n)) (rule (lines.Valued m k n))
unfolding rule
valued_leads m k n = may_symbol S.Assign
    (λ t assign. called (λ e. comes_symbol S.Semicolon (λ s semicolon. ended (λ b de c name a d z mut.
    declaration_spells s mut d name (statements.value t e b assign de) semicolon))))
    (comes_symbol S.Semicolon (λ s semicolon. ended (λ c name a d z mut. declaration_spells s mut d name no_value semicolon)))

pub declarations_leads : (ds : List Declaration) → LeadsTo (Phrases (lines.Declarations ds)) (rule (lines.Declarations ds))
unfolding rule
declarations_leads ds = may_symbol S.RightBrace
    (λ c right. ended (λ a row. closed ds c a row right))
    (called (λ d. last (λ v b r c dd a row. simp append_assoc at (r (a ++ c) (more ds d a c row dd)))))

-- Statements

-- a statement of another kind is no `if`
abbrev Plain : Stmt → List Token → Type 0
Plain s a = SpellsStmt true s a × IsNoIf s

-- statements between braces
block_spells : {o : Token} {ss : List Stmt} {a : List Token} → Is S.LeftBrace o → Closed SpellsStmts S.RightBrace ss a → SpellsStmt true (placed o.start (Z.Block ss)) (o ∷ a)
block_spells {o} left (closed ss c a d right) = statements.block o c ss a left d right

-- a place, from its name and the steps that are taken of it
place_spells : {at : ℕ} {n : List ℕ} {p : Expr} {a : List Token} → SpellsSteps (placed at (X.Name n)) p a → (t : Token) → Names n t → t.start ≡ at → SpellsPlace p (t ∷ a)
place_spells {n} alone t word start = rw (← start) (variable t n word)
place_spells {n} (selects s ss a ds) t word start = rw (← start) (taken t n s ss a word ds)

-- what is taken of an expression is placed there
steps_at : {e p : Expr} {a : List Token} → SpellsSteps e p a → p.at ≡ e.at
steps_at alone = refl
steps_at (selects s ss a ds) = refl

-- a declaration as a statement
declare_spells : {at : ℕ} {d : Declaration} {a : List Token} → SpellsDeclaration d a → BeginsAt at a → Plain (placed at (Z.Declare d)) a
declare_spells {at} {d} {a} spells start = (statements.declare d at a spells start, λ arms other e. absurd (cc))

pub statement_leads : LeadsTo (Phrases lines.Statement) (rule lines.Statement)
unfolding rule
statement_leads = may_word K.If
    (λ t is. last (λ s b r. r (t ∷ []) (λ shut o c e s a d left de right ds. first_arm shut t o c e s a d is left de right ds)))
    (last (λ s b d. d.0))

pub other_leads : LeadsTo (Phrases lines.Other) (rule lines.Other)
unfolding rule
other_leads =
    may_symbol S.LeftBrace (λ o left. last (λ ss a r. (block_spells left (r [] no_statements), λ arms other e. absurd (cc))))
    (may_word K.While (λ t is. comes_symbol S.LeftParen (λ o left. called (λ e. comes_symbol S.RightParen (λ c right. last (λ s b ds a de.
    (statements.while s.1 t o c e s.0 a b is left de right ds, λ arms other e. absurd (cc)))))))
    (may_word K.For (λ t is. comes_symbol S.LeftParen (λ o left. called (λ k. comes_name (λ v word. comes_word K.In (λ i between. called (λ e. comes_symbol S.RightParen (λ c right.
    last (λ s d ds b de a dk.
    (statements.for s.1 t o v i c k (name_of v) e s.0 a b d is left dk word between de right ds, λ arms other e. absurd (cc))))))))))
    (may_word K.Break (λ t is. comes_symbol S.Semicolon (λ s semicolon. ended (statements.break t s is semicolon, λ arms other e. absurd (cc))))
    (may_word K.Continue (λ t is. comes_symbol S.Semicolon (λ s semicolon. ended (statements.continue t s is semicolon, λ arms other e. absurd (cc))))
    (may_word K.Return (λ t is. may_symbol S.Semicolon
    (λ s semicolon. ended (statements.return t s None [] is statements.no_result semicolon, λ arms other e. absurd (cc)))
    (called (λ e. comes_symbol S.Semicolon (λ s semicolon. ended (λ a d.
    (statements.return t s (Some e) a is (statements.result e a d) semicolon, λ arms other e. absurd (cc)))))))
    (may_word K.Submit (λ t is. comes_symbol S.LeftParen (λ o left. called (λ e. comes_symbol S.Comma (λ m comma. comes_name (λ n word. comes_symbol S.RightParen (λ c right.
    comes_symbol S.Semicolon (λ s semicolon. ended (λ a d.
    (statements.submit t o m n c s e (name_of n) a is left d comma word right semicolon, λ arms other e. absurd (cc))))))))))
    (may_word K.Mutable (λ t is. called (λ k. last (λ v b r a d. declare_spells (r a d (t ∷ []) (mutable t is)) (begins t (a ++ b)))))
    (may_name (λ t word. last (λ s b r. r t word refl))
    (called (λ k. last (λ v b r a d. declare_spells (r a d [] constant) (begins_more (type_at d) b))))))))))))

-- a declaration after the name of its type
begun_declaration : {at : ℕ} {n : List ℕ} {v : Token} {d : Declaration} {b : List Token}
    → After SpellsName (After SpellsType (After SpellsMutable SpellsDeclaration false) (placed at (Y.Name n))) (placed v.start (name_of v)) d b → Names (name_of v) v
    → (t : Token) → Names n t → t.start ≡ at → Plain (placed at (Z.Declare d)) (t ∷ v ∷ b)
begun_declaration {n} {v} {d} {b} r word t is start =
    declare_spells (r (v ∷ []) (units.name v (name_of v) word) (t ∷ []) (rw (← start) (types.name t n is)) [] constant) (rw (← start) (begins t (v ∷ b)))

-- a call after its name
begun_call : {n : List ℕ} {es : List Expr} {a : List Token} (o s t : Token) → Is S.LeftParen o → Closed Elements S.RightParen es a → Is S.Semicolon s
    → Names n t → Plain (placed t.start (Z.Call (placed t.start (X.Call n es)))) (t ∷ o ∷ (a ++ s ∷ []))
begun_call {n} o s t left (closed es c a d right) semicolon is = (
  statements.call_alone (placed t.start (X.Call n es)) s (t ∷ o ∷ (a ++ c ∷ [])) (statements.call t o c n es a is left d right) semicolon,
  λ arms other e. absurd (cc),
)

-- an assignment after its name
begun_assignment : {at : ℕ} {n : List ℕ} {p e : Expr} {op : Option BinaryOperator} {a b : List Token} (q s : Token) → SpellsSteps (placed at (X.Name n)) p a
    → assignment_of q.kind ≡ Some op → Spells e b → Is S.Semicolon s → (t : Token) → Names n t → t.start ≡ at
    → Plain (placed at (Z.Assign p op e)) (t ∷ (a ++ q ∷ (b ++ s ∷ [])))
begun_assignment {at} {n} {p} {e} {op} {a} {b} q s d known de semicolon t word start =
    let same : p.at ≡ at = steps_at d in
    rw (← same) (statements.assign p e q s op (t ∷ a) b (place_spells d t word start) known de semicolon, λ arms other e. absurd (cc))

pub begun_leads : (at : ℕ) (n : List ℕ) → LeadsTo (Phrases (lines.Begun at n)) (rule (lines.Begun at n))
unfolding rule
begun_leads at n =
    may_name (λ v word. last (λ d b r t is start. begun_declaration r word t is start))
    (may_symbol S.LeftParen (λ o left. called (λ es. comes_symbol S.Semicolon (λ s semicolon. ended (λ a d t is start.
    rw (← start) (begun_call o s t left d semicolon is)))))
    (called (λ p. comes_assignment (λ q known. called (λ e. comes_symbol S.Semicolon (λ s semicolon. ended (λ b de a steps t is start.
    begun_assignment q s (steps [] no_steps) known de semicolon t is start)))))))

-- Conditions

-- after `else if` one more condition may come
lead_next_arm : {at : ℕ} {arms : List (Expr × Stmt)} {a : List Token} (l t : Token) → SpellsArms true at arms a → IsKeyword K.Else l → IsKeyword K.If t
    → LeadingArm at arms (a ++ l ∷ t ∷ [])
lead_next_arm {at} {arms} {a} l t ds otherwise again shut o c e s b d left de right spells =
    rw (append_assoc a (l ∷ t ∷ []) (o ∷ (b ++ c ∷ d))) (next_arm shut at arms l t o c e s a b d ds otherwise again left de right spells)

-- what comes after arms
arms_end_leads : (at : ℕ) (arms : List (Expr × Stmt)) (shut : Bool) → LeadsTo (After (SpellsArms shut at) SpellsEither arms) (arms_end at arms shut)
arms_end_leads at arms true = may_word K.Else
    (λ l otherwise. may_word K.If
    (λ t again. last (λ s b r a ds. simp append_assoc at (r (a ++ l ∷ t ∷ []) (lead_next_arm l t ds otherwise again))))
    (last (λ s b d a ds. statements.if_else s.1 at arms s.0 l a b ds otherwise d.0 d.1)))
    (ended (λ a ds. rw (append-nil a) (statements.if_alone true at arms a ds)))
arms_end_leads at arms false = ended (λ a ds. rw (append-nil a) (statements.if_alone false at arms a ds))

pub arms_leads : (at : ℕ) (arms : List (Expr × Stmt)) → LeadsTo (Phrases (lines.Arms at arms)) (rule (lines.Arms at arms))
unfolding rule
arms_leads at arms = comes_symbol S.LeftParen (λ o left. called (λ e. comes_symbol S.RightParen (λ c right. called (λ s.
    weaker (arms_end_leads at (arms ++ (e, s.0) ∷ []) s.1) (λ v b u d ds a de z lead.
    simp append_assoc at (u (z ++ o ∷ (a ++ c ∷ d)) (lead s.1 o c e s.0 a d left de right ds)))))))

pub statements_leads : (ss : List Stmt) → LeadsTo (Phrases (lines.Statements ss)) (rule (lines.Statements ss))
unfolding rule
statements_leads ss = may_symbol S.RightBrace
    (λ c right. ended (λ a ds. closed ss c a ds right))
    (called (λ s. last (λ v b r c d a ds. simp append_assoc at (r (a ++ c) (more_statements s.1 ss s.0 a c ds d)))))

-- the statements of a block
block_of_spells : {ss : List Stmt} {a : List Token} (o : Token) → Is S.LeftBrace o → Closed SpellsStmts S.RightBrace ss a → SpellsBlock ss (o ∷ a)
block_of_spells o left (closed ss c a d right) = block_of o c ss a left d right

pub block_leads : LeadsTo (Phrases lines.Block) (rule lines.Block)
unfolding rule
block_leads = comes_symbol S.LeftBrace (λ o left. last (λ ss a r. block_of_spells o left (r [] no_statements)))
