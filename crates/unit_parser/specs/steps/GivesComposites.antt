-- What calls that read parts of units answer, where no line says it.
use Rattle.std.specs.Prelude.{◌<◌, length, Bool, true, false, List, [], ◌∷◌, ◌++◌, Option, Some, None, Result, Ok, Err}
use Rattle.std.specs.Borrow.{Bor}
use Rattle.spl_tree.specs.declared.keyword.Keyword.{Keyword}
use Rattle.spl_tree.specs.declared.keyword.Keyword.TheVariants as K
use Rattle.spl_tree.specs.declared.symbol.Symbol.TheVariants as Y
use Rattle.spl_tree.specs.declared.token.Token.{Token}
use Rattle.spl_tree.specs.declared.token.TokenKind.{TokenKind}
use Rattle.spl_tree.specs.declared.token.TokenKind.TheVariants as T
use Rattle.spl_tree.specs.declared.unit.Definition.{Definition}
use Rattle.spl_tree.specs.declared.unit.Definition.TheVariants as D
use Rattle.spl_tree.specs.Trees.{TypeExpr}
use Rattle.spl_tree.specs.declared.unit.HeadPort.{HeadPort}
use Rattle.expr_parser.specs.declared.stop.Stop.{Stop}
use Rattle.expr_parser.specs.declared.stop.Stop.TheVariants as S
use Rattle.expr_parser.specs.Lines.{is}
use Rattle.expr_parser.specs.Rules.{done, look, call, RuleResult, Took, Refused, RunsTo, Reads}
use Rattle.statement_parser.specs.Gives.{Answered}
use Rattle.statement_parser.specs.Lines.{rule, R, expect, expect_word, CompositeOf, Definitions, FunctionOf, Namespace, Ports}

-- after the first ports of a head: `;` and the ports after that word, or none, and the closing parenthesis
abbrev pub other_ports_rule : Keyword → R (List HeadPort)
other_ports_rule word =
    look (is Y.Semicolon) (λ _. expect_word word (call (Ports []) (λ ps. expect Y.RightParen (done ps))))
    (expect Y.RightParen (done []))

-- the ports after the first word of a head, and those after the other word
abbrev pub both_ports_rule : Keyword → R (List HeadPort × List HeadPort)
both_ports_rule word =
    call (Ports []) (λ ps. look (is Y.Semicolon) (λ _. expect_word word (call (Ports []) (λ qs. expect Y.RightParen (done (ps, qs)))))
    (expect Y.RightParen (done (ps, []))))

-- the names of a namespace and the `;` come first, with these tokens after them
abbrev pub PassesNames : List Token → Result (Bor (List Token)) Stop → Type 0
PassesNames ts (Ok rest) = Reads rule Namespace ts (Took tt rest.now)
PassesNames ts (Err (S.At rest)) = Reads rule Namespace ts (Refused rest.now)
PassesNames ts (Err S.Memory) = Unit {0}

-- a token of that kind can begin a type
abbrev pub word_begins_type : Keyword → Bool
word_begins_type K.Boolean = true
word_begins_type K.Rstring = true
word_begins_type (K.Int kind) = true
word_begins_type (K.LeftOut word) = true
word_begins_type K.List = true
word_begins_type K.Map = true
word_begins_type K.Tuple = true
word_begins_type _ = false

abbrev pub begins_type : TokenKind → Bool
begins_type (T.Word n) = true
begins_type (T.Keyword k) = word_begins_type k
begins_type _ = false

abbrev pub is_type_front : Token → Bool
is_type_front t = begins_type t.kind

abbrev pub DefinitionFound : List Token → Option Definition → List Token → Type 0
DefinitionFound ts None rest = (xs : List Definition) → Reads rule (Definitions xs) ts (Took xs rest)
DefinitionFound ts (Some x) rest =
    (length rest < length ts) × ((xs : List Definition) (o : RuleResult (List Definition)) → Reads rule (Definitions (xs ++ x ∷ [])) rest o → Reads rule (Definitions xs) ts o)

-- one more definition, whatever stands before it, or none
abbrev pub DefinesOn : List Token → Answered (Option Definition) → Type 0
DefinesOn ts (Ok found) = DefinitionFound ts found.0 found.1.now
DefinesOn ts (Err (S.At rest)) = (xs : List Definition) → Reads rule (Definitions xs) ts (Refused rest.now)
DefinesOn ts (Err S.Memory) = Unit {0}

-- a composite, after its first words, and then more definitions after others
abbrev pub composite_behind : List Definition → R (List Definition)
composite_behind xs = call CompositeOf (λ x. call (Definitions (xs ++ D.Composite x ∷ [])) done)

-- likewise a function, after the type of its result
abbrev pub function_behind : Option TypeExpr → List Definition → R (List Definition)
function_behind kind xs = call (FunctionOf kind) (λ x. call (Definitions (xs ++ D.Function x ∷ [])) done)

-- one definition comes first, whatever stands before it, as a rule has it that goes on with more
abbrev pub Defines : (List Definition → R (List Definition)) → List Token → Answered (Option Definition) → Type 0
Defines r ts (Ok (Some x, rest)) =
    (length rest.now < length ts) × ((xs : List Definition) (o : RuleResult (List Definition)) → Reads rule (Definitions (xs ++ x ∷ [])) rest.now o → RunsTo rule (r xs) ts o)
Defines r ts (Ok (None, rest)) = ⊥
Defines r ts (Err (S.At rest)) = (xs : List Definition) → RunsTo rule (r xs) ts (Refused rest.now)
Defines r ts (Err S.Memory) = Unit {0}
