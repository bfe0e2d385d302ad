-- What is spelled as a composite is read.
use Rattle.std.proofs.Common.{◌≡◌, ℕ, false, List, [], ◌∷◌, ◌++◌, Option, refl, arith, append_assoc}
use Rattle.spl_tree.specs.declared.keyword.Keyword.TheVariants as K
use Rattle.spl_tree.specs.declared.symbol.Symbol.TheVariants as S
use Rattle.spl_tree.specs.declared.token.Token.{Token}
use Rattle.spl_tree.specs.declared.unit.Composite.{Composite}
use Rattle.spl_tree.specs.declared.unit.CompositeParameter.{CompositeParameter}
use Rattle.spl_tree.specs.declared.unit.HeadPort.{HeadPort}
use Rattle.spl_tree.specs.declared.unit.Invocation.{Invocation}
use Rattle.spl_tree.specs.declared.unit.Parameter.{Parameter}
use Rattle.spl_tree.specs.declared.unit.TypeDefinition.{TypeDefinition}
use Rattle.spl_tree.specs.Trees.{Expr, placed, TypeExpr}
use Rattle.spl_tree.specs.spellings.Grammar.{Is, Names}
use Rattle.spl_tree.specs.spellings.Phrases.{Row, Separated}
use Rattle.spl_tree.specs.spellings.UnitGrammar.{Clause, SpellsTypeDefinition, type_definition, SpellsParameter, stream, SpellsInvocation, SpellsHeadPort, untyped, typed, ports, SpellsPortLists, outputs_alone, inputs_alone, outputs_first, inputs_first, SpellsHeadPorts, no_ports, in_parentheses, SpellsDefault, no_default, default, SpellsCompositeParameter, composite_parameter}
use Rattle.expr_parser.specs.Rules.{done, look, call, Took, RunsTo, Reads}
use Rattle.expr_parser.proofs.RuleLaws.{line, runs_done, runs_call}
use Rattle.expr_parser.specs.Taken.{begins_with}
use Rattle.expr_parser.specs.Lines.{is, is_name}
use Rattle.statement_parser.specs.Lines.{rule, R, Name, is_word, expect, expect_word, HeadPorts, Ports, Port, CompositeParameterClause, CompositeParameters, Default, parameter_with, TypeClause, ParameterClause, Types, GraphClause, CompositeOf, TypeOf}
use Rattle.statement_parser.proofs.CompleteParts.{Heads, no_word, no_symbol, no_name, takes, skips, expects, expects_word, only, expression_reads, row, separated}
use Rattle.unit_parser.proofs.CompleteTypes.{type_reads, shape_reads}
use Rattle.unit_parser.proofs.CompleteClauses.{one_of, clause_begins, clause_reads, parameter_clause_reads}
use Rattle.unit_parser.proofs.CompleteInvocations.{graph_reads}

-- Ports

-- a port of a head
port_reads : {p : HeadPort} {a : List Token} → SpellsHeadPort p a → (rest : List Token) → Reads rule Port (a ++ rest) (Took p rest)
unfolding rule
port_reads (untyped t n named) rest = line (skips (rw named refl) (takes (rw named refl) (rw named runs_done)))
port_reads (typed h t n b (stream w o c h' a e left d right) named) rest = rw (append_assoc (a ++ c ∷ []) (t ∷ []) rest, append_assoc a (c ∷ []) (t ∷ rest))
    (line (takes (rw e refl) (expects left (runs_call (shape_reads d S.Greater c (t ∷ rest) refl right) (takes (rw named refl) (rw named runs_done))))))

-- ports, up to what is no comma
port_list_reads : {ps : List HeadPort} {a : List Token} → Separated S.Comma SpellsHeadPort ps a → (rest : List Token) → begins_with (is S.Comma) rest ≡ false
    → Reads rule (Ports []) (a ++ rest) (Took ps rest)
unfolding rule
port_list_reads {ps = all} ds rest front =
    separated (λ ts. Unit {0}) Before Behind (λ t ts comma. tt) element (λ xs t ts comma r. takes (rw comma refl) (only r)) ds rest tt (skips front runs_done)
  where
    Before : List HeadPort → List Token → Type 0
    Before xs ts = Reads rule (Ports xs) ts (Took all rest)

    Behind : List HeadPort → List Token → Type 0
    Behind xs ts = RunsTo rule (look (is S.Comma) (λ _. call (Ports xs) done) (done xs)) ts (Took all rest)

    element : (xs : List HeadPort) (x : HeadPort) (b ts : List Token) → SpellsHeadPort x b → Unit {0} → Behind (xs ++ x ∷ []) ts → Before xs (b ++ ts)
    element xs x b ts d end r = line (runs_call (port_reads d ts) r)

-- what stands between the parentheses of a head, and the closing one
abbrev port_lists_rule : R (List HeadPort × List HeadPort)
port_lists_rule =
    look (is_word K.Output) (λ _. call (Ports []) (λ outs.
    look (is S.Semicolon) (λ _. expect_word K.Input (call (Ports []) (λ ins. expect S.RightParen (done (outs, ins)))))
    (expect S.RightParen (done (outs, [])))))
    (expect_word K.Input (call (Ports []) (λ ins.
    look (is S.Semicolon) (λ _. expect_word K.Output (call (Ports []) (λ outs. expect S.RightParen (done (outs, ins)))))
    (expect S.RightParen (done ([], ins))))))

port_lists_reads : {us ins : List HeadPort} {a : List Token} → SpellsPortLists us ins a → (c : Token) (rest : List Token) → Is S.RightParen c
    → RunsTo rule port_lists_rule (a ++ c ∷ rest) (Took (us, ins) rest)
port_lists_reads (outputs_alone us a' (ports k t ps a e ds)) c rest right =
    takes (rw e refl) (runs_call (port_list_reads ds (c ∷ rest) (rw right refl)) (skips (rw right refl) (expects right runs_done)))
port_lists_reads (inputs_alone ins a' (ports k t ps a e ds)) c rest right =
    skips (rw e refl) (expects_word e (runs_call (port_list_reads ds (c ∷ rest) (rw right refl)) (skips (rw right refl) (expects right runs_done))))
port_lists_reads (outputs_first us ins s a' b' (ports k t ps a e ds) semi (ports j u qs b f es)) c rest right = rw (append_assoc a (s ∷ u ∷ b) (c ∷ rest))
    (takes (rw e refl) (runs_call (port_list_reads ds (s ∷ u ∷ (b ++ c ∷ rest)) (rw semi refl)) (takes (rw semi refl)
    (expects_word f (runs_call (port_list_reads es (c ∷ rest) (rw right refl)) (expects right runs_done))))))
port_lists_reads (inputs_first us ins s a' b' (ports k t ps a e ds) semi (ports j u qs b f es)) c rest right = rw (append_assoc a (s ∷ u ∷ b) (c ∷ rest))
    (skips (rw e refl) (expects_word e (runs_call (port_list_reads ds (s ∷ u ∷ (b ++ c ∷ rest)) (rw semi refl)) (takes (rw semi refl)
    (expects_word f (runs_call (port_list_reads es (c ∷ rest) (rw right refl)) (expects right runs_done)))))))

-- the ports of a head, or none
head_ports_reads : {us ins : List HeadPort} {a : List Token} → SpellsHeadPorts us ins a → (rest : List Token) → begins_with (is S.LeftParen) rest ≡ false
    → Reads rule HeadPorts (a ++ rest) (Took (us, ins) rest)
unfolding rule
head_ports_reads no_ports rest front = line (skips front runs_done)
head_ports_reads (in_parentheses o c us ins a left d right) rest front = rw (append_assoc a (c ∷ []) rest)
    (line (takes (rw left refl) (port_lists_reads d c rest right)))

-- Parameters

-- the default of a parameter
default_reads : {e : Option Expr} {a : List Token} → SpellsDefault e a → (k : TypeExpr) (n : Name) (s : Token) (rest : List Token) → Is S.Semicolon s
    → Reads rule (Default k n) (a ++ s ∷ rest) (Took (parameter_with k n e) rest)
unfolding rule
default_reads no_default k n s rest semi = line (skips (rw semi refl) (expects semi runs_done))
default_reads (default c e a colon d) k n s rest semi =
    line (takes (rw colon refl) (expression_reads d S.Semicolon (omega arith) semi (expects semi runs_done)))

-- parameters in a row
composite_parameters_reads : {ps : List CompositeParameter} {a : List Token} → Row SpellsCompositeParameter ps a → (rest : List Token)
    → begins_with (is_word K.Expression) rest ≡ false → Reads rule (CompositeParameters []) (a ++ rest) (Took ps rest)
unfolding rule
composite_parameters_reads {ps = all} ds rest front = row Behind step ds rest (line (skips front runs_done))
  where
    Behind : List CompositeParameter → List Token → Type 0
    Behind xs ts = Reads rule (CompositeParameters xs) ts (Took all rest)

    step : (xs : List CompositeParameter) (x : CompositeParameter) (b ts : List Token) → SpellsCompositeParameter x b → Behind (xs ++ x ∷ []) ts → Behind xs (b ++ ts)
    step xs x b' ts (composite_parameter w o c t s k n e a b word left d right dollar value semi) r =
        rw (append_assoc a (c ∷ t ∷ (b ++ s ∷ [])) ts, append_assoc b (s ∷ []) ts)
        (line (takes (rw word refl) (expects left (runs_call (type_reads d (c ∷ t ∷ (b ++ s ∷ ts))) (expects right
        (takes (rw dollar refl) (rw dollar (runs_call (default_reads value k (placed t.start n) s ts semi) (only r)))))))))

-- Types

-- types in a row
types_reads : {xs : List TypeDefinition} {a : List Token} → Row SpellsTypeDefinition xs a → (rest : List Token) → begins_with is_name rest ≡ false
    → Reads rule (Types []) (a ++ rest) (Took xs rest)
unfolding rule
types_reads {xs = all} ds rest front = row Behind step ds rest (line (skips front runs_done))
  where
    Behind : List TypeDefinition → List Token → Type 0
    Behind xs ts = Reads rule (Types xs) ts (Took all rest)

    step : (xs : List TypeDefinition) (x : TypeDefinition) (b ts : List Token) → SpellsTypeDefinition x b → Behind (xs ++ x ∷ []) ts → Behind xs (b ++ ts)
    step xs x b ts (type_definition t q s n h a named assign d semi) r = rw (append_assoc a (s ∷ []) ts)
        (line (takes (rw named refl) (rw named (expects assign (runs_call (shape_reads d S.Semicolon s ts refl semi) (only r))))))

-- a type by itself
pub type_definition_reads : {x : TypeDefinition} {a : List Token} → SpellsTypeDefinition x a → (rest : List Token) → Reads rule TypeOf (a ++ rest) (Took x rest)
unfolding rule
type_definition_reads (type_definition t q s n h a named assign d semi) rest = rw (append_assoc a (s ∷ []) rest)
    (line (takes (rw named refl) (rw named (expects assign (runs_call (shape_reads d S.Semicolon s rest refl semi) runs_done)))))

-- Composites

-- the clauses of a composite, up to the closing brace
abbrev body_rule : Name → List HeadPort × List HeadPort → R Composite
body_rule n h =
    call CompositeParameterClause (λ ps. call TypeClause (λ ts. call GraphClause (λ xs. call (ParameterClause K.Config) (λ gs. expect S.RightBrace
    (done (record { name = n; outputs = h.0; inputs = h.1; parameters = ps; types = ts; graph = xs; config = gs }))))))

module _ {ps : List CompositeParameter} {ts : List TypeDefinition} {xs : List Invocation} {gs : List Parameter} {b d e f : List Token}
    (sp : Clause K.Param SpellsCompositeParameter ps b) (st : Clause K.Type SpellsTypeDefinition ts d) (sx : Clause K.Graph SpellsInvocation xs e)
    (sg : Clause K.Config SpellsParameter gs f) (c : Token) (rest : List Token) (right : Is S.RightBrace c) where
  behind_graph : List Token
  behind_graph = f ++ c ∷ rest

  behind_types : List Token
  behind_types = e ++ behind_graph

  behind_parameters : List Token
  behind_parameters = d ++ behind_types

  graph_words : Heads (one_of (K.Config ∷ [])) behind_graph
  unfolding behind_graph
  graph_words = clause_begins sg [] (c ∷ rest) (rw right refl)

  types_words : Heads (one_of (K.Graph ∷ K.Config ∷ [])) behind_types
  unfolding behind_types
  types_words = clause_begins sx (K.Config ∷ []) behind_graph graph_words

  parameters_words : Heads (one_of (K.Type ∷ K.Graph ∷ K.Config ∷ [])) behind_parameters
  unfolding behind_parameters
  parameters_words = clause_begins st (K.Graph ∷ K.Config ∷ []) behind_types types_words

  parameters_part : Reads rule CompositeParameterClause (b ++ behind_parameters) (Took ps behind_parameters)
  unfolding rule
  parameters_part =
      let words = one_of (K.Type ∷ K.Graph ∷ K.Config ∷ []) in
      line (clause_reads behind_parameters
      (λ ys a ds. only (composite_parameters_reads ds behind_parameters (no_word words K.Expression refl behind_parameters parameters_words)))
      (no_word words K.Param refl behind_parameters parameters_words) sp)

  types_part : Reads rule TypeClause behind_parameters (Took ts behind_types)
  unfolding rule behind_parameters
  types_part =
      let words = one_of (K.Graph ∷ K.Config ∷ []) in
      line (clause_reads behind_types
      (λ ys a ds. only (types_reads ds behind_types (no_name words (λ n. refl) behind_types types_words)))
      (no_word words K.Type refl behind_types types_words) st)

  graph_part : Reads rule GraphClause behind_types (Took xs behind_graph)
  unfolding rule behind_types
  graph_part =
      let words = one_of (K.Config ∷ []) in
      line (clause_reads behind_graph
      (λ ys a ds. only (graph_reads ds behind_graph (no_word words K.Stream refl behind_graph graph_words) (no_symbol words S.LeftParen refl behind_graph graph_words)))
      (no_word words K.Graph refl behind_graph graph_words) sx)

  body_reads : (n : Name) (h : List HeadPort × List HeadPort) → RunsTo rule (body_rule n h) (b ++ (d ++ (e ++ (f ++ c ∷ rest))))
      (Took (record { name = n; outputs = h.0; inputs = h.1; parameters = ps; types = ts; graph = xs; config = gs }) rest)
  unfolding behind_parameters behind_types behind_graph
  body_reads n h = runs_call parameters_part (runs_call types_part (runs_call graph_part
      (runs_call (parameter_clause_reads sg (c ∷ rest) (rw right refl) (rw right refl)) (expects right runs_done))))

  -- a composite after its first word
  pub composite_reads : {us ins : List HeadPort} {a : List Token} → SpellsHeadPorts us ins a → (t o : Token) (n : List ℕ) → Names n t → Is S.LeftBrace o
      → Reads rule CompositeOf (t ∷ (a ++ o ∷ (b ++ (d ++ (e ++ (f ++ c ∷ rest))))))
      (Took (record { name = placed t.start n; outputs = us; inputs = ins; parameters = ps; types = ts; graph = xs; config = gs }) rest)
  unfolding rule
  composite_reads {us = us} {ins = ins} dh t o n named left = line (takes (rw named refl) (rw named
      (runs_call (head_ports_reads dh (o ∷ (b ++ (d ++ (e ++ (f ++ c ∷ rest))))) (rw left refl)) (expects left (body_reads (placed t.start n) (us, ins))))))
