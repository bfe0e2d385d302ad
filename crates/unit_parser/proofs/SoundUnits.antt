-- What is read of composites and units is spelled so.
use Rattle.std.proofs.Common.{◌≡◌, List, [], ◌∷◌, ◌++◌, Option, Some, None, append_assoc, append-nil}
use Rattle.spl_tree.specs.declared.keyword.Keyword.{Keyword}
use Rattle.spl_tree.specs.declared.keyword.Keyword.TheVariants as K
use Rattle.spl_tree.specs.declared.shape.Attribute.{Attribute}
use Rattle.spl_tree.specs.declared.symbol.Symbol.TheVariants as S
use Rattle.spl_tree.specs.declared.token.Token.{Token}
use Rattle.spl_tree.specs.declared.token.TokenKind.TheVariants as T
use Rattle.spl_tree.specs.declared.unit.CompositeParameter.{CompositeParameter}
use Rattle.spl_tree.specs.declared.unit.Definition.{Definition}
use Rattle.spl_tree.specs.declared.unit.Definition.TheVariants as D
use Rattle.spl_tree.specs.declared.unit.HeadPort.{HeadPort}
use Rattle.spl_tree.specs.declared.unit.Invocation.{Invocation}
use Rattle.spl_tree.specs.declared.unit.TypeDefinition.{TypeDefinition}
use Rattle.spl_tree.specs.spellings.Grammar.{Is, Names}
use Rattle.spl_tree.specs.spellings.Phrases.{IsKeyword, none}
use Rattle.spl_tree.specs.Trees.{TypeExpr, Shape, Stmt}
use Rattle.spl_tree.specs.spellings.TypeGrammar.{SpellsType, SpellsAttributes, SpellsShape, SpellsFunctionParameters, no_parameters, parameters}
use Rattle.spl_tree.specs.spellings.StatementGrammar.{SpellsBlock, begins}
use Rattle.spl_tree.specs.spellings.UnitGrammar.{SpellsTypeDefinition, type_definition, no_clause, clause, untyped, typed, SpellsPorts, ports, SpellsHeadPorts, outputs_alone, inputs_alone, outputs_first, inputs_first, no_ports, in_parentheses, no_default, default, composite_parameter, not_public, public, composite, SpellsResultType, void, a_type, SpellsFunction, function, a_typedef, a_function, a_composite, no_namespace, namespace, unit}
use Rattle.expr_parser.specs.Rules.{call, done}
use Rattle.expr_parser.specs.Lines.{name_of}
use Rattle.expr_parser.specs.Parts.{Closed, closed}
use Rattle.statement_parser.specs.Lines as lines
use Rattle.statement_parser.specs.Lines.{Name, rule, name_at, dollar_at}
use Rattle.unit_parser.proofs.SoundPhrases.{LeadingDefault, Phrases}
use Rattle.unit_parser.proofs.SoundRules.{LeadsTo, ended, called, last, comes_symbol, comes_word, comes_name, comes_dollar, may_symbol, may_word, may_name, may_type, row_more, lead_first, lead_next}
use Rattle.unit_parser.proofs.SoundTypes.{lead_first_attribute}
use Rattle.unit_parser.proofs.SoundInvocations.{named_spells, stream_spells}

-- Definitions of types

-- a shape after its name
type_definition_spells : {h : Shape} {a : List Token} (t q : Token) → Names (name_of t) t → Is S.Assign q → Closed SpellsShape S.Semicolon h a
    → SpellsTypeDefinition (record { name = name_at t; shape = h }) (t ∷ q ∷ a)
type_definition_spells t q word assign (closed h s a d semicolon) = type_definition t q s (name_of t) h a word assign d semicolon

pub type_of_leads : LeadsTo (Phrases lines.TypeOf) (rule lines.TypeOf)
unfolding rule
type_of_leads = comes_name (λ t word. comes_symbol S.Assign (λ q assign. last (λ h a d. type_definition_spells t q word assign d)))

pub type_clause_leads : LeadsTo (Phrases lines.TypeClause) (rule lines.TypeClause)
unfolding rule
type_clause_leads = may_word K.Type (λ t is. last (λ ts b r. clause t ts b is (r [] none))) (ended no_clause)

pub types_leads : (ts : List TypeDefinition) → LeadsTo (Phrases (lines.Types ts)) (rule (lines.Types ts))
unfolding rule
types_leads ts =
    may_name (λ t word. comes_symbol S.Assign (λ q assign. called (λ h. last (λ v b r e d a row.
    row_more ts (record { name = name_at t; shape = h }) v a (t ∷ q ∷ e) b r row (type_definition_spells t q word assign d)))))
    (ended (λ a row. rw (append-nil a) row))

-- Heads of composites

pub port_leads : LeadsTo (Phrases lines.Port) (rule lines.Port)
unfolding rule
port_leads = may_word K.Stream
    (λ w is. comes_symbol S.Less (λ o less. called (λ h. comes_name (λ t word. ended (λ a d. typed h t (name_of t) (w ∷ o ∷ a) (stream_spells w o is less d) word)))))
    (comes_name (λ t word. ended (untyped t (name_of t) word)))

pub ports_leads : (ps : List HeadPort) → LeadsTo (Phrases (lines.Ports ps)) (rule (lines.Ports ps))
unfolding rule
ports_leads ps = called (λ p. may_symbol S.Comma
    (λ c comma. last (λ v b r a d z lead. simp append_assoc at (r ((z ++ a) ++ c ∷ []) (lead_next c (lead p a d) comma))))
    (ended (λ a d z lead. rw (append-nil a) (lead p a d))))

-- ports after their word
ports_spell : {ps : List HeadPort} {a : List Token} (k : Keyword) (t : Token) → IsKeyword k t → Phrases (lines.Ports []) ps a → SpellsPorts k ps (t ∷ a)
ports_spell {ps} {a} k t is d = ports k t ps a is (d [] lead_first)

-- a head with outputs and then inputs
outputs_inputs : {us is : List HeadPort} {a b : List Token} (o s c : Token) → Is S.LeftParen o → SpellsPorts K.Output us a → Is S.Semicolon s → SpellsPorts K.Input is b
    → Is S.RightParen c → SpellsHeadPorts us is (o ∷ (a ++ s ∷ (b ++ c ∷ [])))
outputs_inputs {us} {is} {a} {b} o s c left du semicolon di right =
    rw (← append_assoc a (s ∷ b) (c ∷ [])) (in_parentheses o c us is (a ++ s ∷ b) left (outputs_first us is s a b du semicolon di) right)

-- a head with inputs and then outputs
inputs_outputs : {us is : List HeadPort} {a b : List Token} (o s c : Token) → Is S.LeftParen o → SpellsPorts K.Input is a → Is S.Semicolon s → SpellsPorts K.Output us b
    → Is S.RightParen c → SpellsHeadPorts us is (o ∷ (a ++ s ∷ (b ++ c ∷ [])))
inputs_outputs {us} {is} {a} {b} o s c left di semicolon du right =
    rw (← append_assoc a (s ∷ b) (c ∷ [])) (in_parentheses o c us is (a ++ s ∷ b) left (inputs_first us is s a b di semicolon du) right)

pub head_ports_leads : LeadsTo (Phrases lines.HeadPorts) (rule lines.HeadPorts)
unfolding rule
head_ports_leads = may_symbol S.LeftParen
    (λ o left. may_word K.Output
    (λ u output. called (λ us. may_symbol S.Semicolon
    (λ s semicolon. comes_word K.Input (λ i input. called (λ is. comes_symbol S.RightParen (λ c right. ended (λ b di a du.
    outputs_inputs o s c left (ports_spell K.Output u output du) semicolon (ports_spell K.Input i input di) right)))))
    (comes_symbol S.RightParen (λ c right. ended (λ a du.
    in_parentheses o c us [] (u ∷ a) left (outputs_alone us (u ∷ a) (ports_spell K.Output u output du)) right)))))
    (comes_word K.Input (λ i input. called (λ is. may_symbol S.Semicolon
    (λ s semicolon. comes_word K.Output (λ u output. called (λ us. comes_symbol S.RightParen (λ c right. ended (λ a du b di.
    inputs_outputs o s c left (ports_spell K.Input i input di) semicolon (ports_spell K.Output u output du) right)))))
    (comes_symbol S.RightParen (λ c right. ended (λ b di.
    in_parentheses o c [] is (i ∷ b) left (inputs_alone is (i ∷ b) (ports_spell K.Input i input di)) right)))))))
    (ended no_ports)

-- Parameters of composites

pub composite_parameter_clause_leads : LeadsTo (Phrases lines.CompositeParameterClause) (rule lines.CompositeParameterClause)
unfolding rule
composite_parameter_clause_leads = may_word K.Param (λ t is. last (λ ps b r. clause t ps b is (r [] none))) (ended no_clause)

-- a parameter up to its name
lead_default : {k : TypeExpr} {a : List Token} (w o c t : Token) → IsKeyword K.Expression w → Is S.Less o → SpellsType k a → Is S.Greater c → t.kind ≡ T.Dollar (dollar_at t).what
    → LeadingDefault k (dollar_at t) (w ∷ o ∷ (a ++ c ∷ t ∷ []))
lead_default {k} {a} w o c t is less d greater dollar e s b de semicolon =
    rw (append_assoc a (c ∷ t ∷ []) (b ++ s ∷ [])) (composite_parameter w o c t s k (dollar_at t).what e a b is less d greater dollar de semicolon)

pub composite_parameters_leads : (ps : List CompositeParameter) → LeadsTo (Phrases (lines.CompositeParameters ps)) (rule (lines.CompositeParameters ps))
unfolding rule
composite_parameters_leads ps = may_word K.Expression
    (λ w is. comes_symbol S.Less (λ o less. called (λ k. comes_symbol S.Greater (λ c greater. comes_dollar (λ t dollar. called (λ p. last (λ v b r e d a dk z row.
    let before = w ∷ o ∷ (a ++ c ∷ t ∷ []) in
    simp append_assoc at (row_more ps p v z (before ++ e) b r row (d before (lead_default w o c t is less dk greater dollar))))))))))
    (ended (λ a row. rw (append-nil a) row))

pub default_leads : (k : TypeExpr) (n : Name) → LeadsTo (Phrases (lines.Default k n)) (rule (lines.Default k n))
unfolding rule
default_leads k n = may_symbol S.Colon
    (λ c colon. called (λ e. comes_symbol S.Semicolon (λ s semicolon. ended (λ b d z lead. lead (Some e) s (c ∷ b) (default c e b colon d) semicolon))))
    (comes_symbol S.Semicolon (λ s semicolon. ended (λ z lead. lead None s [] no_default semicolon)))

-- Composites

pub graph_clause_leads : LeadsTo (Phrases lines.GraphClause) (rule lines.GraphClause)
unfolding rule
graph_clause_leads = may_word K.Graph (λ t is. last (λ xs b r. clause t xs b is (r [] none))) (ended no_clause)

pub graph_leads : (xs : List Invocation) → LeadsTo (Phrases (lines.Graph xs)) (rule (lines.Graph xs))
unfolding rule
graph_leads xs =
    may_word K.Stream (λ t is. called (λ h. called (λ x. last (λ v b r e d a head z row.
    simp append_assoc at (row_more xs x v z (t ∷ (a ++ e)) b r row (d (t ∷ a) (head t is) (begins t a)))))))
    (may_symbol S.LeftParen (λ t is. called (λ h. called (λ x. last (λ v b r e d a head z row.
    simp append_assoc at (row_more xs x v z (t ∷ (a ++ e)) b r row (d (t ∷ a) (head t is) (begins t a)))))))
    (ended (λ a row. rw (append-nil a) row)))

pub composite_leads : LeadsTo (Phrases lines.CompositeOf) (rule lines.CompositeOf)
unfolding rule
composite_leads = comes_name (λ t word. called (λ h. comes_symbol S.LeftBrace (λ o left. called (λ ps. called (λ ts. called (λ xs. called (λ gs. comes_symbol S.RightBrace (λ c right.
    ended (λ f dg e dx d dt b dp a dh w z may is.
    composite w t o c (name_of t) h.0 h.1 ps ts xs gs z a b d e f may is word dh left dp dt dx dg right)))))))))

-- Functions

-- parameters of a function, one or more
function_parameters_spell : {xs : List (Attribute TypeExpr)} {a : List Token} → Closed SpellsAttributes S.RightParen xs a → Closed SpellsFunctionParameters S.RightParen xs a
function_parameters_spell (closed xs c a d right) = closed xs c a (parameters xs a d) right

pub function_parameters_leads : LeadsTo (Phrases lines.FunctionParameters) (rule lines.FunctionParameters)
unfolding rule
function_parameters_leads = may_symbol S.RightParen
    (λ c right. ended (closed [] c [] no_parameters right))
    (last (λ v b r. function_parameters_spell (r [] lead_first_attribute)))

-- a function from its parts
function_spells : {k : Option TypeExpr} {xs : List (Attribute TypeExpr)} {ss : List Stmt} {a b d : List Token} (t o : Token) → SpellsResultType k a → Names (name_of t) t → Is S.LeftParen o
    → Closed SpellsFunctionParameters S.RightParen xs b → SpellsBlock ss d
    → SpellsFunction (record { result = k; name = name_at t; parameters = xs; body = ss }) (a ++ t ∷ o ∷ (b ++ d))
function_spells {k} {ss} {a} {d} t o result word left (closed xs c b ds right) block =
    rw (append_assoc b (c ∷ []) d) (function k t o c (name_of t) xs ss a b d result word left ds right block)

pub function_leads : (result : Option TypeExpr) → LeadsTo (Phrases (lines.FunctionOf result)) (rule (lines.FunctionOf result))
unfolding rule
function_leads result = comes_name (λ t word. comes_symbol S.LeftParen (λ o left. called (λ xs. last (λ ss d block b ds a dr.
    function_spells t o dr word left ds block))))

-- Units

pub definitions_leads : (xs : List Definition) → LeadsTo (Phrases (lines.Definitions xs)) (rule (lines.Definitions xs))
unfolding rule
definitions_leads xs =
    may_word K.Type (λ w is. called (λ x. last (λ v b r c d a row. row_more xs (D.Type x) v a (w ∷ c) b r row (a_typedef w x c is d))))
    (may_word K.Public (λ p is_public. comes_word K.Composite (λ w is. called (λ x. last (λ v b r c d a row.
    row_more xs (D.Composite x) v a (p ∷ w ∷ c) b r row (a_composite x (p ∷ w ∷ c) (d w (p ∷ []) (public p is_public) is))))))
    (may_word K.Composite (λ w is. called (λ x. last (λ v b r c d a row.
    row_more xs (D.Composite x) v a (w ∷ c) b r row (a_composite x (w ∷ c) (d w [] not_public is)))))
    (may_word K.Void (λ t is. called (λ x. last (λ v b r c d a row.
    row_more xs (D.Function x) v a (t ∷ c) b r row (a_function x (t ∷ c) (d (t ∷ []) (void t is))))))
    (may_type (λ k. call (lines.FunctionOf (Some k)) (λ x. call (lines.Definitions (xs ++ D.Function x ∷ [])) done)) (λ k. called (λ x. last (λ v b r c d f kind a row.
    simp append_assoc at (row_more xs (D.Function x) v a (f ++ c) b r row (a_function x (f ++ c) (d f (a_type k f kind)))))))
    (ended (λ a row. rw (append-nil a) row))))))

pub namespace_leads : LeadsTo (Phrases lines.Namespace) (rule lines.Namespace)
unfolding rule
namespace_leads = comes_name (λ t word. may_symbol S.Dot
    (λ d dot. last (λ v b r w ns a is lead.
    simp append_assoc at (r w (ns ++ name_at t ∷ []) ((a ++ t ∷ []) ++ d ∷ []) is (lead_next d (lead (name_at t) (t ∷ []) (named_spells word)) dot))))
    (comes_symbol S.Semicolon (λ s semicolon. ended (λ w ns a is lead.
    rw (← append_assoc a (t ∷ []) (s ∷ [])) (namespace w s (ns ++ name_at t ∷ []) (a ++ t ∷ []) is (lead (name_at t) (t ∷ []) (named_spells word)) semicolon)))))

pub whole_leads : LeadsTo (Phrases lines.Whole) (rule lines.Whole)
unfolding rule
whole_leads = may_word K.Namespace
    (λ w is. called (λ u. last (λ xs b r a d. unit xs (w ∷ a) b (d w [] [] is lead_first) (r [] none))))
    (last (λ xs b r. unit xs [] b no_namespace (r [] none)))
