-- What the lines of the grammar make of some tokens is spelled by them: each line makes its phrase of what its phrases
-- are, and the rest is a recursion over what the lines make.
use Rattle.std.proofs.Common.{◌≡◌, ◌∙◌, ℕ, Bool, true, List, [], ◌∷◌, ◌++◌, Some, None, ap}
use Rattle.spl_tree.specs.declared.expression.ExprKind.TheVariants as X
use Rattle.spl_tree.specs.declared.expression.Placed.{Placed}
use Rattle.spl_tree.specs.declared.keyword.Keyword.TheVariants as K
use Rattle.spl_tree.specs.declared.shape.TypeKind.TheVariants as Y
use Rattle.spl_tree.specs.declared.statement.StmtKind.TheVariants as I
use Rattle.spl_tree.specs.declared.symbol.Symbol.TheVariants as S
use Rattle.spl_tree.specs.declared.token.Token.{Token}
use Rattle.spl_tree.specs.declared.token.TokenKind.TheVariants as T
use Rattle.spl_tree.specs.declared.unit.Definition.{Definition}
use Rattle.spl_tree.specs.declared.unit.Definition.TheVariants as D
use Rattle.spl_tree.specs.Operators.{binary_of, prefix_of, target_of, assignment_of}
use Rattle.spl_tree.specs.spellings.Grammar as G
use Rattle.spl_tree.specs.Trees.{Expr, placed, TypeExpr, Stmt}
use Rattle.spl_tree.specs.spellings.TypeGrammar as Q
use Rattle.spl_tree.specs.spellings.TypeGrammar.{SpellsType}
use Rattle.spl_tree.specs.spellings.StatementGrammar as Z
use Rattle.spl_tree.specs.spellings.StatementGrammar.{SpellsCall, SpellsStmt}
use Rattle.spl_tree.specs.spellings.UnitGrammar as U
use Rattle.spl_tree.specs.Grammar as L
use Rattle.grammar_laws.specs.Pieces.{one, sign, Name, name, Dollar, dollar, Joined, joined, nothing, first}
use Rattle.grammar_laws.specs.ExpressionLines as E
use Rattle.grammar_laws.specs.ExpressionLines.{PrimaryLine}
use Rattle.grammar_laws.specs.Lines as W
use Rattle.grammar_laws.specs.Lines.{TypeLine, StatementLine}
use Rattle.grammar_laws.specs.UnitLines as V
use Rattle.grammar_laws.proofs.ExpressionLines.{operator_lines, primary_line_law}
use Rattle.grammar_laws.proofs.TypeLines.{type_line_law}
use Rattle.grammar_laws.proofs.PartLines.{part_lines}
use Rattle.grammar_laws.proofs.StatementLines.{statement_line_law}
use Rattle.grammar_laws.proofs.DefinitionLines.{definition_lines, invocation_lines, port_lines}
use Rattle.grammar_laws.proofs.Meanings.{Meant, MeantAll, absent, present, operator, cast, some_stmt, placed_phrase, only, alone, whole_line, placed_line, both, keep, begun, followed, ending, between, rows, separate}
use Rattle.grammar_laws.proofs.LineParts.{items_of, elements_of, entries_of, fields_of, steps_of, prefixes_of, call_of, attributes_of, parameters_of, braces_of, block_of, mutable_of, first_value, value_of, result_of, names_of, alias_of, output_of, inputs_of, window_part_of, clauses_of, ports_of, two_ports, type_definition_of, public_of, body_of}

-- ---- phrases by their kinds

primary : {e : Expr} {ts : List Token} → PrimaryLine e.what ts × (first ts ≡ Some e.at) → G.Primary e ts
primary {e} {ts} h = (primary_line_law e ts).1 h

type : {k : TypeExpr} {ts : List Token} → TypeLine k.what ts × (first ts ≡ Some k.at) → SpellsType k ts
type {k} {ts} h = (type_line_law k ts).1 h

statement : {closed : Bool} {s : Stmt} {ts : List Token} → StatementLine closed s.what ts × (first ts ≡ Some s.at) → SpellsStmt closed s ts
statement {closed} {s} {ts} h = (statement_line_law closed s ts).1 h

name_alone : {n : Placed (List ℕ)} {ts : List Token} → Name n ts → G.Primary (placed n.at (X.Name n.what)) ts
name_alone (name t n is) = G.name t n is

dollar_alone : {n : Placed (List ℕ)} {ts : List Token} → Dollar n ts → G.Primary (placed n.at (X.Dollar n.what)) ts
dollar_alone (dollar t n is) = G.literal t (X.Dollar n) (G.dollar t n is)

type_name : {n : Placed (List ℕ)} {ts : List Token} → Name n ts → SpellsType (placed n.at (Y.Name n.what)) ts
type_name (name t n is) = Q.name t n is

call : {e : Expr} {ts : List Token} → SpellsCall e ts → G.Primary e ts
call (Z.call t o c n es a is left d right) = G.call t o c n es a is left d right

call_statement : {e : Expr} {ts : List Token} → Joined (SpellsCall e) (sign S.Semicolon) ts → SpellsStmt true (placed e.at (I.Call e)) ts
call_statement {e} (joined a _ d (one s semicolon)) = Z.call_alone e s a d semicolon

-- ---- lines

line_made : {p : L.Phrase} {ps : List L.Phrase} → L.Line p ps → (ts : List Token) → MeantAll ps ts → Meant p ts
line_made (L.absent p) _ nothing = absent
line_made (L.present p) ts h = present ts (only p ts h)
line_made (L.name n) ts h = name_alone {n = n} (only (L.Name n) ts h)
line_made (L.dollar at n) ts h = dollar_alone {n = placed at n} (only (L.At at (L.OneToken (T.Dollar n))) ts h)
line_made (L.number at n) ts h = let d = placed_line (L.number at n) ts h in primary (E.number n ts d.0, d.1)
line_made (L.text at bytes) ts h = let d = placed_line (L.text at bytes) ts h in primary (E.text bytes ts d.0, d.1)
line_made (L.yes at) ts h = let d = placed_line (L.yes at) ts h in primary (E.truth ts d.0, d.1)
line_made (L.no at) ts h = let d = placed_line (L.no at) ts h in primary (E.untruth ts d.0, d.1)
line_made (L.call n es) ts h = call (call_of n es ts h)
line_made (L.group at e) ts h = let d = placed_line (L.group at e) ts h in primary (E.group e ts d.0, d.1)
line_made (L.list at es) ts h = let d = begun (ending (L.expressions es) (elements_of es) (T.Symbol S.RightBracket)) ts h in primary (E.list es ts d.0, d.1)
line_made (L.map at []) ts h = let d = placed_line (L.map at []) ts h in primary (E.empty_map ts d.0, d.1)
line_made (L.map at (e ∷ es)) ts h =
    let d = begun (ending (L.separated S.Comma L.entry (e ∷ es)) (entries_of e es) (T.Symbol S.RightBrace)) ts h in primary (E.map (e ∷ es) ts d.0, d.1)
line_made (L.tuple at f fs) ts h =
    let d = begun (ending (L.separated S.Comma L.field (f ∷ fs)) (fields_of f fs) (T.Symbol S.RightBrace)) ts h in primary (E.tuple (f ∷ fs) ts d.0, d.1)
line_made (L.primary e) ts h = G.primary e ts (only (L.Primary e) ts h)
line_made (L.select e s ss) ts h = operator_lines.select e s ss ts (keep (steps_of (s ∷ ss)) ts h)
line_made (L.operator at (T.Symbol s) p known) _ (joined _ _ (one t is, start) nothing) =
    let same : t.start ≡ at = cc in rw (← same) (operator t p (ap prefix_of is ∙ known))
line_made (L.operator at kind p known) ts h = absurd (cc)
line_made (L.cast at kind target known) _ (joined _ _ (one o left, start) (joined _ _ (one t is) (joined _ _ (one c right) nothing))) =
    let same : o.start ≡ at = cc in rw (← same) (cast o t c target left (ap target_of is ∙ known) right)
line_made (L.operand e) ts h = G.operand e ts (only (L.Operand e) ts h)
line_made (L.prefixed p ps e) ts h =
    operator_lines.prefixed p ps e ts (followed (L.row (L.alone L.InFront) (p ∷ ps)) (prefixes_of (p ∷ ps)) (L.Operand e ∷ []) (only (L.Operand e)) ts h)
line_made (L.unary e) ts h = G.unary e ts (only (L.Unary e) ts h)
line_made (L.tighter k e) ts h = G.tighter k e ts (only (L.Level k e) ts h)
line_made (L.binary k l r op kind known tight) _ (joined a _ d (joined _ b (one t is) f)) = G.binary k l r op t a b d (ap binary_of is ∙ known) tight (only (L.Level k r) b f)
line_made (L.whole e) ts h = G.plain e ts (only (L.Level 9 e) ts h)
line_made (L.conditional c x y) ts h = operator_lines.conditional c x y ts (whole_line (L.conditional c x y) ts h)
line_made (L.boolean at) ts h = let d = placed_line (L.boolean at) ts h in type (W.boolean ts d.0, d.1)
line_made (L.rstring at) ts h = let d = placed_line (L.rstring at) ts h in type (W.rstring ts d.0, d.1)
line_made (L.integer at k) ts h = let d = placed_line (L.integer at k) ts h in type (W.integer k ts d.0, d.1)
line_made (L.left_out at w) ts h = let d = placed_line (L.left_out at w) ts h in type (W.left_out w ts d.0, d.1)
line_made (L.named n) ts h = type_name {n = n} (only (L.Name n) ts h)
line_made (L.list_of at k) ts h = let d = placed_line (L.list_of at k) ts h in type (W.list k ts d.0, d.1)
line_made (L.map_of at k v) ts h = let d = placed_line (L.map_of at k v) ts h in type (W.map k v ts d.0, d.1)
line_made (L.tuple_of at x xs) ts h =
    let d = begun (keep (ending (L.attributes (x ∷ xs)) (attributes_of x xs) (T.Symbol S.Greater))) ts h in type (W.tuple (x ∷ xs) ts d.0, d.1)
line_made (L.of_type k) ts h = Q.plain k ts (only (L.AType k) ts h)
line_made (L.of_attributes x xs) ts h = Q.attributes x xs ts (attributes_of x xs ts h)
line_made (L.variable n) ts h = part_lines.variable n ts (only (L.Name n) ts h)
line_made (L.taken n s ss) ts h = part_lines.taken n s ss ts (keep (steps_of (s ∷ ss)) ts h)
line_made (L.declaration d) ts h =
    (part_lines.declaration d ts).1 (followed (L.mutable_word d.mutable) (mutable_of d.mutable) (L.AType d.kind ∷ L.Name d.name ∷ (first_value d.value ++ L.Sign S.Semicolon ∷ []))
    (keep (keep (ending (first_value d.value) (value_of d.value) (T.Symbol S.Semicolon)))) ts h)
line_made (L.any closed s) ts h = some_stmt closed (only (L.Statement closed s) ts h)
line_made (L.compound at ss) ts h = let d = begun (braces_of ss) ts h in statement (W.block ss ts d.0, d.1)
line_made (L.declare at d) ts h = let p = placed_line (L.declare at d) ts h in statement (W.declaration d ts p.0, p.1)
line_made (L.assign p e op kind known) _ (joined a _ d (joined _ _ (one t is) (joined b _ f (joined _ _ (one s semicolon) nothing)))) =
    Z.assign p e t s op a b d (ap assignment_of is ∙ known) f semicolon
line_made (L.call_alone n es) ts h = call_statement (followed (L.call_of n es) (call_of n es) (L.Sign S.Semicolon ∷ []) (only (L.Sign S.Semicolon)) ts h)
line_made (L.if_alone last at arms) ts h = Z.if_alone last at arms ts (only (L.Arms last at arms) ts h)
line_made (L.if_else closed at arms s other) _ (joined a _ d (joined _ b (one t is) f)) = Z.if_else closed at arms s t a b d is (only (L.Statement closed s) b f) other
line_made (L.first_arm closed at e s) _ (joined _ _ (one t is, start) (joined _ _ (one o left) (joined a _ d (joined _ b (one c right) f)))) =
    let same : t.start ≡ at = cc in rw (← same) (Z.first_arm closed t o c e s a b is left d right (only (L.Statement closed s) b f))
line_made (L.next_arm closed at arms e s) _ (joined a _ before (joined _ _ (one l other) (joined _ _ (one t is) (joined _ _ (one o left) (joined b _ d (joined _ f (one c right) x)))))) =
    Z.next_arm closed at arms l t o c e s a b f before other is left d right (only (L.Statement closed s) f x)
line_made (L.while closed at e s) ts h = let d = placed_line (L.while closed at e s) ts h in statement (W.while closed e s ts d.0, d.1)
line_made (L.for closed at x e s) ts h = let d = placed_line (L.for closed at x e s) ts h in statement (W.for closed x.kind x.name e s ts d.0, d.1)
line_made (L.break at) ts h = let d = placed_line (L.break at) ts h in statement (W.break ts d.0, d.1)
line_made (L.continue at) ts h = let d = placed_line (L.continue at) ts h in statement (W.continue ts d.0, d.1)
line_made (L.return at None) ts h = let d = placed_line (L.return at None) ts h in statement (W.return ts d.0, d.1)
line_made (L.return at (Some e)) ts h = let d = placed_line (L.return at (Some e)) ts h in statement (W.return_value e ts d.0, d.1)
line_made (L.submit at e n) ts h = let d = placed_line (L.submit at e n) ts h in statement (W.submit e n ts d.0, d.1)
line_made (L.one_stream x l) ts h = port_lines.one_output x l ts (followed (L.output x) (output_of x) (L.alias l) (alias_of l) ts h)
line_made (L.streams x xs l) ts h =
    port_lines.outputs (x ∷ xs) l ts
    (keep (between (L.separated S.Semicolon L.output (x ∷ xs)) (separate S.Semicolon L.output output_of x xs) (T.Symbol S.RightParen) (L.alias l) (alias_of l)) ts h)
line_made (L.no_stream n) ts h = port_lines.no_output n ts (keep (keep (alias_of (Some n))) ts h)
line_made (L.input n ns l) ts h =
    (port_lines.input (record { streams = n ∷ ns; alias = l }) ts).1 (followed (L.separated S.Comma (L.alone L.Name) (n ∷ ns)) (names_of S.Comma n ns) (L.alias l) (alias_of l) ts h)
line_made L.no_state _ nothing = U.no_state
line_made (L.one_variable d) ts h = invocation_lines.state (d ∷ []) ts (keep (keep (λ b e. U.one_variable d b (only (L.Variable d) b e))) ts h)
line_made (L.variables ds) ts h =
    invocation_lines.state ds ts (keep (keep (λ b e. invocation_lines.variables ds b
    (keep (ending (L.row (L.alone L.Variable) ds) (rows (L.alone L.Variable) (alone L.Variable) ds) (T.Symbol S.RightBrace)) b e))) ts h)
line_made (L.port_window n w ws) ts h =
    (invocation_lines.port_window (record { port = n; parts = w ∷ ws }) ts).1
    (keep (keep (ending (L.separated S.Comma L.window_part (w ∷ ws)) (separate S.Comma L.window_part window_part_of w ws) (T.Symbol S.Semicolon))) ts h)
line_made (L.assignments n f fs) ts h =
    (invocation_lines.assignments (record { stream = n; assignments = f ∷ fs }) ts).1
    (keep (keep (ending (L.separated S.Comma L.field (f ∷ fs)) (fields_of f fs) (T.Symbol S.Semicolon))) ts h)
line_made (L.parameter n e es) ts h =
    (invocation_lines.parameter (record { name = n; values = e ∷ es }) ts).1 (keep (keep (ending (L.expressions (e ∷ es)) (items_of e es) (T.Symbol S.Semicolon))) ts h)
line_made L.no_clauses ts h = invocation_lines.no_clauses ts (only (L.Sign S.Semicolon) ts h)
line_made (L.with_clauses x) ts h = invocation_lines.in_braces x ts (keep (ending (L.clauses x) (clauses_of x) (T.Symbol S.RightBrace)) ts h)
line_made (L.invocation v) ts h =
    (invocation_lines.invocation v ts).1 (begun (keep (keep (keep
    (between (L.separated S.Semicolon (L.alone L.Input) v.inputs) (inputs_of v.inputs) (T.Symbol S.RightParen) (L.Ending v.clauses ∷ []) (only (L.Ending v.clauses)))))) ts h)
line_made L.no_ports _ nothing = U.no_ports
line_made (L.outputs_alone u us) ts h =
    definition_lines.in_parentheses (u ∷ us) [] ts
    (keep (ending (L.ports K.Output (u ∷ us)) (λ b d. U.outputs_alone (u ∷ us) b (ports_of K.Output u us b d)) (T.Symbol S.RightParen)) ts h)
line_made (L.inputs_alone i is) ts h =
    definition_lines.in_parentheses [] (i ∷ is) ts
    (keep (ending (L.ports K.Input (i ∷ is)) (λ b d. U.inputs_alone (i ∷ is) b (ports_of K.Input i is b d)) (T.Symbol S.RightParen)) ts h)
line_made (L.outputs_first u i us is) ts h =
    definition_lines.in_parentheses (u ∷ us) (i ∷ is) ts (keep (ending (L.ports K.Output (u ∷ us) ++ L.Sign S.Semicolon ∷ L.ports K.Input (i ∷ is))
    (λ b d. definition_lines.outputs_first (u ∷ us) (i ∷ is) b (two_ports K.Output K.Input u i us is b d)) (T.Symbol S.RightParen)) ts h)
line_made (L.inputs_first u i us is) ts h =
    definition_lines.in_parentheses (u ∷ us) (i ∷ is) ts (keep (ending (L.ports K.Input (i ∷ is) ++ L.Sign S.Semicolon ∷ L.ports K.Output (u ∷ us))
    (λ b d. definition_lines.inputs_first (u ∷ us) (i ∷ is) b (two_ports K.Input K.Output i u is us b d)) (T.Symbol S.RightParen)) ts h)
line_made (L.composite c) ts h = U.a_composite c ts ((definition_lines.composite c ts).1 (both public_of (keep (keep (keep (keep (body_of c))))) ts h))
line_made (L.typedef x) ts h = (definition_lines.definition (D.Type x) ts).1 (V.a_type x ts (keep (type_definition_of x) ts h))
line_made (L.function f) ts h =
    U.a_function f ts ((definition_lines.function f ts).1 (followed (L.result_type f.result) (result_of f.result) (L.Name f.name ∷ (L.in_parens (L.attributes f.parameters) ++ L.block f.body))
    (keep (keep (between (L.attributes f.parameters) (parameters_of f.parameters) (T.Symbol S.RightParen) (L.block f.body) (block_of f.body)))) ts h))
line_made L.no_namespace _ nothing = U.no_namespace
line_made (L.namespace n ns) ts h =
    definition_lines.namespace (n ∷ ns) ts (keep (ending (L.separated S.Dot (L.alone L.Name) (n ∷ ns)) (names_of S.Dot n ns) (T.Symbol S.Semicolon)) ts h)
line_made (L.program ds) ts h = (definition_lines.unit ds ts).1 (keep (rows (L.alone L.ADefinition) (alone L.ADefinition) ds) ts h)

-- ---- whole phrases

mutual
  pub meant : {p : L.Phrase} {ts : List Token} → L.Spells p ts → Meant p ts
  meant (L.token t kind is) = one t is
  meant (L.at_place p t a d) = placed_phrase p t a (meant d)
  meant (L.by_line p ps a line ds) = line_made line a (all_meant ds)

  all_meant : {ps : List L.Phrase} {ts : List Token} → L.SpellsAll ps ts → MeantAll ps ts
  all_meant L.none = nothing
  all_meant (L.more p ps a b d ds) = joined a b (meant d) (all_meant ds)

pub expression_from_lines : (e : Expr) (ts : List Token) → L.Spells (L.Expression e) ts → G.Spells e ts
expression_from_lines e ts d = meant d

pub unit_from_lines : (unit : List Definition) (ts : List Token) → L.Spells (L.Program unit) ts → U.SpellsUnit unit ts
unit_from_lines unit ts d = meant d
