-- What is spelled is read, where what follows does not go on.
use Rattle.std.proofs.Common.{◌≡◌, ℕ, zero, suc, ◌<◌, Bool, true, false, List, [], ◌∷◌, ◌++◌, Some, refl, subst, arith, append_assoc, append-nil}
use Rattle.std.proofs.lemmas.Bool.{eq-eqb}
use Rattle.spl_tree.specs.declared.symbol.Symbol.{Symbol}
use Rattle.spl_tree.specs.declared.symbol.Symbol.TheVariants as S
use Rattle.spl_tree.specs.declared.token.Token.{Token}
use Rattle.spl_tree.specs.declared.token.TokenKind.{TokenKind}
use Rattle.spl_tree.specs.declared.token.TokenKind.TheVariants as T
use Rattle.spl_tree.specs.declared.expression.PrefixOperator.{PrefixOperator}
use Rattle.spl_tree.specs.declared.expression.ExprKind.{ExprKind}
use Rattle.spl_tree.specs.declared.expression.ExprKind.TheVariants as X
use Rattle.spl_tree.specs.declared.expression.Field.{Field}
use Rattle.spl_tree.specs.declared.expression.Step.{Step}
use Rattle.spl_tree.specs.Operators.{level, prefix_symbol, prefix_of, is_symbol}
use Rattle.spl_tree.specs.Trees.{Expr, Prefix, placed}
use Rattle.spl_tree.specs.spellings.Grammar.{Is, Names, Literal, dollar, number, text, yes, no, Prefixes, no_prefixes, operator, cast, Primary, literal, name, call, group, list, empty_map, map, tuple, Elements, no_elements, elements, Items, first_item, next_item, Entries, first_entry, next_entry, Fields, first_field, next_field, Steps, no_steps, member, index, Operand, primary, select, Unary, operand, prefixed, At, unary, tighter, binary, Spells, plain, conditional}
use Rattle.expr_parser.specs.Rules as rules
use Rattle.expr_parser.specs.Rules.{done, stop, look, RuleResult, Took, RunsTo, Reads}
use Rattle.expr_parser.proofs.RuleLaws.{line, runs_done, runs_take, runs_skip, runs_call}
use Rattle.expr_parser.specs.Taken.{begins_with}
use Rattle.expr_parser.specs.Lines as lines
use Rattle.expr_parser.specs.Lines.{Line, Value, Whole, Prefixed, Brace, rule, R, is, is_prefix, is_target, is_operator, is_literal, literal_kind, is_name, name_of, expect, primary_rule, chain_rule, climb_rule, selected}
use Rattle.expr_parser.proofs.TestLaws.{opens, opens_kind, opens_symbol, is-opens, is_target-opens, begins-opens, symbol_binds, Stops, Stops-le, is-stops, is_operator-stops, binds_operator}

-- What a phrase begins with

-- whatever comes after them, the tokens begin with one that begins an expression
abbrev pub Opens : List Token → Type 0
Opens a = (rest : List Token) → begins_with opens (a ++ rest) ≡ true

-- what the tests say of a token that is an expression by itself
record IsLiteral (k : ExprKind) (t : Token) : Type 0 where
  known : literal_kind t.kind ≡ Some k
  opens : opens t ≡ true
  no_prefix : is_prefix t ≡ false
  no_paren : is S.LeftParen t ≡ false

-- what they say of each of these tokens
literal_tests : {k : ExprKind} {t : Token} → Literal k t → IsLiteral k t
literal_tests (dollar t n e) = record { known = rw e; opens = rw e; no_prefix = rw e; no_paren = rw e }
literal_tests (number t n e) = record { known = rw e; opens = rw e; no_prefix = rw e; no_paren = rw e }
literal_tests (text t bytes e) = record { known = rw e; opens = rw e; no_prefix = rw e; no_paren = rw e }
literal_tests (yes t e) = record { known = rw e; opens = rw e; no_prefix = rw e; no_paren = rw e }
literal_tests (no t e) = record { known = rw e; opens = rw e; no_prefix = rw e; no_paren = rw e }

-- so it is of each phrase

primary_opens : {e : Expr} {a : List Token} → Primary e a → Opens a
primary_opens (literal t k l) rest = (literal_tests l).opens
primary_opens (name t n named) rest = rw named
primary_opens (call t o c n es a named left d right) rest = rw named
primary_opens (group o c e a left d right) rest = rw left
primary_opens (list o c es a left d right) rest = rw left
primary_opens (empty_map o c left right) rest = rw left
primary_opens (map o c es a left d right) rest = rw left
primary_opens (tuple o c fs a left d right) rest = rw left

operand_opens : {e : Expr} {a : List Token} → Operand e a → Opens a
operand_opens (primary e a d) rest = primary_opens d rest
operand_opens (select e s ss a b d ds) rest = rw (append_assoc a b rest) (primary_opens d (b ++ rest))

-- an operator in front of an operand begins an expression
prefix_opens : (k : TokenKind) (p : PrefixOperator) → prefix_of k ≡ Some p → opens_kind k ≡ true
prefix_opens (T.Symbol s) p e = by s e
  where
    by : (s : Symbol) → prefix_symbol s ≡ Some p → opens_symbol s ≡ true
    by S.Exclamation e = refl
    by S.Minus e = refl
    by S.Tilde e = refl
    by _ e = absurd (cc)
prefix_opens _ p e = absurd (cc)

-- prefixes and an operand after them
prefixes_opens : {ps : List Prefix} {a : List Token} → Prefixes ps a → (rest : List Token) → begins_with opens rest ≡ true
    → begins_with opens (a ++ rest) ≡ true
prefixes_opens no_prefixes rest e = e
prefixes_opens (operator ps a t p ds known) rest e = rw (append_assoc a (t ∷ []) rest) (prefixes_opens ds (t ∷ rest) (prefix_opens t.kind p known))
prefixes_opens (cast ps a o t c target ds left known right) rest e =
    rw (append_assoc a (o ∷ t ∷ c ∷ []) rest) (prefixes_opens ds (o ∷ t ∷ c ∷ rest) (rw left))

unary_opens : {e : Expr} {a : List Token} → Unary e a → Opens a
unary_opens (operand e a d) rest = operand_opens d rest
unary_opens (prefixed p ps e a b ds d) rest = rw (append_assoc a b rest) (prefixes_opens ds (b ++ rest) (operand_opens d rest))

at_opens : {k : ℕ} {e : Expr} {a : List Token} → At k e a → Opens a
at_opens (unary e a d) rest = unary_opens d rest
at_opens (tighter k e a d) rest = at_opens d rest
at_opens (binary k l r op t a b d known at dr) rest = rw (append_assoc a (t ∷ b) rest) (at_opens d (t ∷ (b ++ rest)))

pub spells_opens : {e : Expr} {a : List Token} → Spells e a → Opens a
spells_opens (plain e a d) rest = at_opens d rest
spells_opens (conditional c x y q k a b d dc question dx colon dy) rest =
    rw (append_assoc a (q ∷ (b ++ k ∷ d)) rest) (at_opens dc (q ∷ ((b ++ k ∷ d) ++ rest)))

items_opens : {es : List Expr} {a : List Token} → Items es a → Opens a
items_opens (first_item e a d) rest = spells_opens d rest
items_opens (next_item es e t a b ds comma d) rest = rw (append_assoc a (t ∷ b) rest) (items_opens ds (t ∷ (b ++ rest)))

-- Steps of a reading

-- how a look at the first token goes
module _ {A : Type 0} {p : Token → Bool} {f : Token → R A} {d : R A} {o : RuleResult A} where
  -- the first token passes
  pub takes : {t : Token} {ts : List Token} → p t ≡ true → RunsTo rule (f t) ts o → RunsTo rule (look p f d) (t ∷ ts) o
  takes {t} {ts} passes r = runs_take (t ∷ ts) t ts refl passes r

  -- no first token does
  pub skips : {ts : List Token} → begins_with p ts ≡ false → RunsTo rule d ts o → RunsTo rule (look p f d) ts o
  skips {ts} none r = runs_skip ts none r

-- Where lines end

-- nothing more is taken of an expression
pub steps_end : (e : Expr) (ss : List (Step Expr)) (rest : List Token) → Stops 0 rest
    → Reads rule (lines.Steps e ss) rest (Took (selected e ss) rest)
unfolding rule
steps_end e ss rest stops =
    line (skips (is-stops S.Dot 0 rest (omega arith) stops) (skips (is-stops S.LeftBracket 0 rest (omega arith) stops) runs_done))

-- how operators go on after an expression of a level
abbrev goes_on : ℕ → Expr → R Expr
goes_on zero e = done e
goes_on (suc k) e = chain_rule k e

-- no operator goes on
level_ends : (k : ℕ) (e : Expr) (rest : List Token) → Stops k rest → RunsTo rule (goes_on k e) rest (Took e rest)
level_ends zero e rest stops = runs_done
level_ends (suc k) e rest stops = skips (is_operator-stops (suc k) rest stops) runs_done

-- Operands

-- prefixes are read up to what comes after them
prefixes_reads : {ps : List Prefix} {a : List Token} → Prefixes ps a → (rest : List Token) {w : Expr} {out : List Token}
    → Reads rule (Prefixed ps) rest (Took w out) → Reads rule (Prefixed []) (a ++ rest) (Took w out)
unfolding rule
prefixes_reads no_prefixes rest r = r
prefixes_reads (operator ps a t p ds known) rest r =
    rw (append_assoc a (t ∷ []) rest) (prefixes_reads ds (t ∷ rest) (line (takes (rw known) (runs_call (rw known r) runs_done))))
prefixes_reads (cast ps a o t c target ds left known right) rest r =
    rw (append_assoc a (o ∷ t ∷ c ∷ []) rest) (prefixes_reads ds (o ∷ t ∷ c ∷ rest)
    (line (skips (rw left) (takes (rw left) (takes (rw known) (takes (rw right) (runs_call (rw known r) runs_done)))))))

-- steps begin with no `(`
steps_front : {ss : List (Step Expr)} {b : List Token} → Steps ss b → (rest : List Token) → begins_with (is S.LeftParen) rest ≡ false
    → begins_with (is S.LeftParen) (b ++ rest) ≡ false
steps_front no_steps rest e = e
steps_front (member ss a d t n ds dot named) rest e = rw (append_assoc a (d ∷ t ∷ []) rest) (steps_front ds (d ∷ t ∷ rest) (rw dot))
steps_front (index ss i o c a b ds left d right) rest e =
    rw (append_assoc a (o ∷ (b ++ c ∷ [])) rest) (steps_front ds (o ∷ ((b ++ c ∷ []) ++ rest)) (rw left))

-- a symbol that ends a list of expressions
pub record Closes (s : Symbol) : Type 0 where
  pub opens_none : opens_symbol s ≡ false
  pub stops : 10 < symbol_binds s
  pub no_comma : is_symbol S.Comma (T.Symbol s) ≡ false
  pub itself : is_symbol s (T.Symbol s) ≡ true

-- those of calls
pub closes_parens : Closes S.RightParen
closes_parens = record { opens_none = refl; stops = omega arith; no_comma = refl; itself = refl }

-- and those of list literals
closes_brackets : Closes S.RightBracket
closes_brackets = record { opens_none = refl; stops = omega arith; no_comma = refl; itself = refl }

-- what comes after expressions with commas between them
abbrev pub behind_items : Symbol → List Expr → R (List Expr)
behind_items close es = look (is S.Comma) (λ _. rules.call (lines.Items close es) done) (expect close (done es))

-- what comes after entries of a map
abbrev behind_entries : ℕ → List (Expr × Expr) → R Expr
behind_entries at es =
    look (is S.Comma) (λ _. rules.call Whole (λ k. expect S.Colon (rules.call (lines.Entries at es k) done)))
    (expect S.RightBrace (done (placed at (X.Map es))))

-- what comes after fields of a tuple
abbrev behind_fields : ℕ → List (Field Expr) → R Expr
behind_fields at fs =
    look (is S.Comma) (λ _. look is_name (λ t. expect S.Assign (rules.call (lines.Fields at fs (placed t.start (name_of t))) done)) stop)
    (expect S.RightBrace (done (placed at (X.Tuple fs))))

-- an operand that begins with a primary expression without parentheses
by_primary : (ps : List Prefix) {e : Expr} {t : Token} {ts rest : List Token} {w : Expr} {out : List Token}
    → is_prefix t ≡ false → is S.LeftParen t ≡ false → RunsTo rule primary_rule (t ∷ ts) (Took e rest)
    → Reads rule (lines.Steps e []) rest (Took w out)
    → Reads rule (Prefixed ps) (t ∷ ts) (Took (lines.prefixed ps w) out)
unfolding rule
by_primary ps p o r s = line (skips p (skips o (runs_call (line r) (runs_call s runs_done))))

-- one in braces
by_brace : (ps : List Prefix) {e : Expr} {t : Token} {ts rest : List Token} {w : Expr} {out : List Token} → Is S.LeftBrace t
    → Reads rule (Brace t.start) ts (Took e rest) → Reads rule (lines.Steps e []) rest (Took w out)
    → Reads rule (Prefixed ps) (t ∷ ts) (Took (lines.prefixed ps w) out)
by_brace ps left r s =
    by_primary ps (rw left) (rw left) (skips (rw left) (skips (rw left) (skips (rw left) (takes (rw left) (runs_call r runs_done))))) s

-- an expression ends where nothing goes on after it
whole_ends : {u e : Expr} {ts behind rest : List Token} → Reads rule (Prefixed []) ts (Took u behind)
    → RunsTo rule (climb_rule 9 u) behind (Took e rest) → Stops 10 rest → Reads rule Whole ts (Took e rest)
unfolding rule
whole_ends {rest} r s stops =
    line (runs_call r (runs_call (line (runs_call (line s) (skips (is-stops S.Question 10 rest (omega arith) stops) runs_done))) runs_done))

-- a name alone is a primary expression
name_reads : (t : Token) (n : List ℕ) (rest : List Token) → Names n t → begins_with (is S.LeftParen) rest ≡ false
    → RunsTo rule primary_rule (t ∷ rest) (Took (placed t.start (X.Name n)) rest)
unfolding rule
name_reads t n rest named front = skips (rw named) (takes (rw named) (rw named (runs_call (line (skips front runs_done)) runs_done)))

-- an operand with no operator after it is an expression at each level
climb_ends : (k : ℕ) (u : Expr) (rest : List Token) → Stops k rest → RunsTo rule (climb_rule k u) rest (Took u rest)
unfolding rule
climb_ends zero u rest stops = runs_done
climb_ends (suc k) u rest stops =
    runs_call (line (climb_ends k u rest (Stops-le k (suc k) rest (omega arith) stops)))
    (runs_call (line (level_ends (suc k) u rest stops)) runs_done)

-- and so is a name
name_whole : (t : Token) (n : List ℕ) (rest : List Token) → Names n t → Stops 10 rest
    → Reads rule Whole (t ∷ rest) (Took (placed t.start (X.Name n)) rest)
name_whole t n rest named stops =
    let none = Stops-le 0 10 rest (omega arith) stops in
    whole_ends
    (by_primary [] (rw named) (rw named) (name_reads t n rest named (is-stops S.LeftParen 0 rest (omega arith) none))
    (steps_end (placed t.start (X.Name n)) [] rest none))
    (climb_ends 9 (placed t.start (X.Name n)) rest (Stops-le 9 10 rest (omega arith) stops)) stops

-- an expression is read up to its operators of a level, and then as these go on
record Holds (k : ℕ) (e : Expr) (ts rest : List Token) : Type 0 where
  first : Expr
  behind : List Token
  begins : Reads rule (Prefixed []) ts (Took first behind)
  goes : {w : Expr} {out : List Token} → RunsTo rule (goes_on k e) rest (Took w out) → RunsTo rule (climb_rule k first) behind (Took w out)

-- what follows goes on at no tighter level
abbrev StopsBelow : ℕ → List Token → Type 0
StopsBelow zero rest = Stops 0 rest
StopsBelow (suc k) rest = Stops k rest

-- that is so where it goes on at no level up to that
Stops-below : (k : ℕ) (rest : List Token) → Stops k rest → StopsBelow k rest
Stops-below zero rest stops = stops
Stops-below (suc k) rest stops = Stops-le k (suc k) rest (omega arith) stops

-- Phrases, up to what comes after them

mutual
  unfolding rule

  -- a primary expression, and then what is taken of it
  primary_reads : {e : Expr} {a : List Token} → Primary e a → (ps : List Prefix) (rest : List Token) {w : Expr} {out : List Token}
      → begins_with (is S.LeftParen) rest ≡ false → Reads rule (lines.Steps e []) rest (Took w out)
      → Reads rule (Prefixed ps) (a ++ rest) (Took (lines.prefixed ps w) out)
  primary_reads (literal t k l) ps rest front r =
      let tests = literal_tests l in
      let known = tests.known in
      by_primary ps tests.no_prefix tests.no_paren (takes (rw known) (rw known runs_done)) r
  primary_reads (name t n named) ps rest front r = by_primary ps (rw named) (rw named) (name_reads t n rest named front) r
  primary_reads (call t o c n es a named left d right) ps rest front r = rw (append_assoc a (c ∷ []) rest)
      (by_primary ps (rw named) (rw named) (skips (rw named) (takes (rw named) (rw named (runs_call
      (line (takes (rw left) (runs_call (elements_reads d S.RightParen closes_parens c rest right) runs_done))) runs_done)))) r)
  primary_reads (group o c e a left d right) ps rest front r = rw (append_assoc a (c ∷ []) rest)
      (line (skips (rw left) (takes (rw left)
      (skips (begins-opens is_target is_target-opens (a ++ c ∷ rest) (spells_opens d (c ∷ rest)))
      (runs_call (line (runs_call (spells_reads d (c ∷ rest) (rw right (omega arith))) (takes (rw right) runs_done))) (runs_call r runs_done))))))
  primary_reads (list o c es a left d right) ps rest front r = rw (append_assoc a (c ∷ []) rest)
      (by_primary ps (rw left) (rw left) (skips (rw left) (skips (rw left) (takes (rw left)
      (runs_call (elements_reads d S.RightBracket closes_brackets c rest right) runs_done)))) r)
  primary_reads (empty_map o c left right) ps rest front r = by_brace ps left (line (takes (rw right) runs_done)) r
  primary_reads (map o c es a left d right) ps rest front r = rw (append_assoc a (c ∷ []) rest)
      (by_brace ps left (entries_reads d o.start (c ∷ rest) (rw right (omega arith)) (skips (rw right) (takes (rw right) runs_done))) r)
  primary_reads (tuple o c fs a left d right) ps rest front r = rw (append_assoc a (c ∷ []) rest)
      (by_brace ps left (fields_reads d o.start (c ∷ rest) (rw right (omega arith)) (skips (rw right) (takes (rw right) runs_done))) r)

  -- expressions with commas between them, or none, and the closing bracket
  pub elements_reads : {es : List Expr} {a : List Token} → Elements es a → (close : Symbol) → Closes close → (c : Token) (rest : List Token)
      → Is close c → Reads rule (lines.Elements close) (a ++ c ∷ rest) (Took es rest)
  elements_reads no_elements close closes c rest right = line (takes (rw right closes.itself) runs_done)
  elements_reads (elements es a d) close closes c rest right =
      line (skips (begins-opens (is close) (is-opens close closes.opens_none) (a ++ c ∷ rest) (items_opens d (c ∷ rest)))
      (runs_call (items_reads d close (c ∷ rest) (rw right closes.stops)
      (skips (rw right closes.no_comma) (takes (rw right closes.itself) runs_done))) runs_done))

  -- expressions with commas between them, and then what comes after them
  pub items_reads : {es : List Expr} {a : List Token} → Items es a → (close : Symbol) (rest : List Token) {w : List Expr} {out : List Token}
      → Stops 10 rest → RunsTo rule (behind_items close es) rest (Took w out) → Reads rule (lines.Items close []) (a ++ rest) (Took w out)
  items_reads (first_item e a d) close rest stops r = line (runs_call (spells_reads d rest stops) r)
  items_reads (next_item es e t a b ds comma d) close rest stops r =
      rw (append_assoc a (t ∷ b) rest) (items_reads ds close (t ∷ (b ++ rest)) (rw comma (omega arith))
      (takes (rw comma) (runs_call (line (runs_call (spells_reads d rest stops) r)) runs_done)))

  -- entries of a map
  entries_reads : {es : List (Expr × Expr)} {a : List Token} → Entries es a → (at : ℕ) (rest : List Token) {w : Expr} {out : List Token}
      → Stops 10 rest → RunsTo rule (behind_entries at es) rest (Took w out) → Reads rule (Brace at) (a ++ rest) (Took w out)
  entries_reads (first_entry k v t a b dk colon dv) at rest stops r = rw (append_assoc a (t ∷ b) rest)
      (line (skips (begins-opens (is S.RightBrace) (is-opens S.RightBrace refl) (a ++ t ∷ (b ++ rest)) (spells_opens dk (t ∷ (b ++ rest))))
      (runs_call (spells_reads dk (t ∷ (b ++ rest)) (rw colon (omega arith)))
      (takes (rw colon) (runs_call (line (runs_call (spells_reads dv rest stops) r)) runs_done)))))
  entries_reads (next_entry es k v s t a b d ds comma dk colon dv) at rest stops r =
      rw (append_assoc a (s ∷ (b ++ t ∷ d)) rest, append_assoc b (t ∷ d) rest)
      (entries_reads ds at (s ∷ (b ++ t ∷ (d ++ rest))) (rw comma (omega arith))
      (takes (rw comma) (runs_call (spells_reads dk (t ∷ (d ++ rest)) (rw colon (omega arith)))
      (takes (rw colon) (runs_call (line (runs_call (spells_reads dv rest stops) r)) runs_done)))))

  -- fields of a tuple
  fields_reads : {fs : List (Field Expr)} {a : List Token} → Fields fs a → (at : ℕ) (rest : List Token) {w : Expr} {out : List Token}
      → Stops 10 rest → RunsTo rule (behind_fields at fs) rest (Took w out) → Reads rule (Brace at) (a ++ rest) (Took w out)
  fields_reads (first_field t s n e a named assign d) at rest stops r =
      line (skips (rw named) (runs_call (name_whole t n (s ∷ (a ++ rest)) named (rw assign (omega arith)))
      (skips (rw assign) (takes (rw assign) (runs_call (line (runs_call (spells_reads d rest stops) r)) runs_done)))))
  fields_reads (next_field fs c t s n e a b ds comma named assign d) at rest stops r =
      rw (append_assoc a (c ∷ t ∷ s ∷ b) rest) (fields_reads ds at (c ∷ t ∷ s ∷ (b ++ rest)) (rw comma (omega arith))
      (takes (rw comma) (takes (rw named) (takes (rw assign) (rw named (runs_call (line (runs_call (spells_reads d rest stops) r)) runs_done))))))

  -- what is taken of an expression, and then more of it
  pub steps_reads : {ss : List (Step Expr)} {b : List Token} → Steps ss b → (e : Expr) (rest : List Token) {w : Expr} {out : List Token}
      → Reads rule (lines.Steps e ss) rest (Took w out) → Reads rule (lines.Steps e []) (b ++ rest) (Took w out)
  steps_reads no_steps e rest r = r
  steps_reads (member ss a d t n ds dot named) e rest r =
      rw (append_assoc a (d ∷ t ∷ []) rest) (steps_reads ds e (d ∷ t ∷ rest)
      (line (takes (rw dot) (takes (rw named) (runs_call (rw named r) runs_done)))))
  steps_reads (index ss i o c a b ds left d right) e rest r =
      rw (append_assoc a (o ∷ (b ++ c ∷ [])) rest, append_assoc b (c ∷ []) rest)
      (steps_reads ds e (o ∷ (b ++ c ∷ rest))
      (line (skips (rw left) (takes (rw left) (runs_call (spells_reads d (c ∷ rest) (rw right (omega arith))) (takes (rw right) (runs_call r runs_done)))))))

  -- an operand, after prefixes that are read already
  operand_reads : {e : Expr} {a : List Token} → Operand e a → (ps : List Prefix) (rest : List Token) → Stops 0 rest
      → Reads rule (Prefixed ps) (a ++ rest) (Took (lines.prefixed ps e) rest)
  operand_reads (primary e a d) ps rest stops =
      primary_reads d ps rest (is-stops S.LeftParen 0 rest (omega arith) stops) (steps_end e [] rest stops)
  operand_reads (select e s ss a b d ds) ps rest stops = rw (append_assoc a b rest)
      (primary_reads d ps (b ++ rest) (steps_front ds rest (is-stops S.LeftParen 0 rest (omega arith) stops))
      (steps_reads ds e rest (steps_end e (s ∷ ss) rest stops)))

  -- an operand with its prefixes
  unary_reads : {e : Expr} {a : List Token} → Unary e a → (rest : List Token) → Stops 0 rest → Reads rule (Prefixed []) (a ++ rest) (Took e rest)
  unary_reads (operand e a d) rest stops = operand_reads d [] rest stops
  unary_reads (prefixed p ps e a b ds d) rest stops =
      rw (append_assoc a b rest) (prefixes_reads ds (b ++ rest) (operand_reads d (p ∷ ps) rest stops))

  -- operators up to a level
  at_reads : {k : ℕ} {e : Expr} {a : List Token} → At k e a → (rest : List Token) → StopsBelow k rest → Holds k e (a ++ rest) rest
  at_reads (unary e a d) rest stops = record { first = e; behind = rest; begins = unary_reads d rest stops; goes = λ r. r }
  at_reads (tighter k e a d) rest stops =
      let h = at_reads d rest (Stops-below k rest stops) in
      record {
        first = h.first;
        behind = h.behind;
        begins = h.begins;
        goes = λ r. runs_call (line (h.goes (level_ends k e rest stops))) (runs_call (line r) runs_done);
      }
  at_reads (binary k l r op t a b dl known at dr) rest stops =
      let tight = binds_operator t.kind op known in
      let left = at_reads dl (t ∷ (b ++ rest)) (omega arith) in
      let right = at_reads dr rest (Stops-below k rest stops) in
      record {
        first = left.first;
        behind = left.behind;
        begins = rw (append_assoc a (t ∷ b) rest) left.begins;
        goes = λ s.
            left.goes (takes (rw known (eq-eqb (level op) (suc k) at))
            (runs_call right.begins (runs_call (line (right.goes (level_ends k r rest stops))) (runs_call (line (rw known s)) runs_done))));
      }

  -- an expression, where nothing goes on after it
  pub spells_reads : {e : Expr} {a : List Token} → Spells e a → (rest : List Token) → Stops 10 rest → Reads rule Whole (a ++ rest) (Took e rest)
  spells_reads (plain e a d) rest stops =
      let h = at_reads d rest (Stops-le 8 10 rest (omega arith) stops) in
      whole_ends h.begins (h.goes (level_ends 9 e rest (Stops-le 9 10 rest (omega arith) stops))) stops
  spells_reads (conditional c x y q k a b d dc question dx colon dy) rest stops =
      let h = at_reads dc (q ∷ (b ++ k ∷ (d ++ rest))) (rw question (omega arith)) in
      rw (append_assoc a (q ∷ (b ++ k ∷ d)) rest, append_assoc b (k ∷ d) rest)
      (line (runs_call h.begins (runs_call (line
      (runs_call (line (h.goes (level_ends 9 c (q ∷ (b ++ k ∷ (d ++ rest))) (rw question (omega arith)))))
      (takes (rw question) (runs_call (spells_reads dx (k ∷ (d ++ rest)) (rw colon (omega arith))) (takes (rw colon)
      (runs_call (spells_reads dy rest stops) runs_done)))))) runs_done)))

-- the tokens that spell an expression, and no more, are read as that expression
pub complete : {e : Expr} {ts : List Token} → Spells e ts → Reads rule Whole ts (Took e [])
complete {e} {ts} d = subst (λ us. Reads rule Whole us (Took e [])) (append-nil ts) (spells_reads d [] tt)
