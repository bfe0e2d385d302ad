-- A program has one result, and its checked graph keeps what such a graph has to keep.
use Rattle.std.specs.Prelude.{◌≡◌, ℕ, List, Result, Ok, Err}
use Rattle.std.proofs.Common.{refl, sym, ap, ◌∙◌, subst, inl, inr}
use Rattle.spl_tree.specs.declared.graph.Graph.{Graph}
use Rattle.spl_tree.specs.declared.token.Tokens.{Tokens}
use Rattle.spl_tree.specs.declared.unit.Definition.{Definition}
use Rattle.spl_tree.specs.Laws.{LexedLaw}
use Rattle.spl_tree.specs.Tokens.{IsLexed, tokens}
use Rattle.spl_tree.specs.Tokens as lexical
use Rattle.expr_parser.specs.declared.answer.SyntaxAnswer.{SyntaxAnswer}
use Rattle.expr_parser.specs.declared.answer.SyntaxAnswer.TheVariants as S
use Rattle.unit_parser.specs.Parses.{ParsesUnit, OneAnswerLaw}
use Rattle.language_model.specs.declared.scope.CheckRefusal.{CheckRefusal}
use Rattle.language_model.specs.declared.refusal.Refusal.{Refusal}
use Rattle.language_model.specs.declared.refusal.Code.TheVariants as C
use Rattle.language_model.specs.Refusals.{expansion_refusal, refusal_by}
use Rattle.language_model.specs.Accepted.{IsAccepted, no_tokens, too_deep, unexpected, no_graph, checks}
use Rattle.language_model.proofs.parts.Accepted.{refused_check}
use Rattle.language_model.specs.CheckedGraph.{CheckedGraph}
use Rattle.language_model.specs.Checking.{checked}
use Rattle.language_model.specs.Expansion.{Expanded}
use Rattle.language_model.specs.Flat.{IsFlat}
use Rattle.language_model.specs.FlatLaws.{OneFlatLaw}
use Rattle.language_model.specs.Keeping.{Keeps}
use Rattle.check_laws.specs.KeepsLaw.{KeepsLaw}
use Rattle.spl_driver.specs.AcceptedLaws.{OneAcceptedLaw, KeptLaw}

abbrev Come : Type 0
Come = Result CheckedGraph Refusal

---- the result of a program, stage by stage

-- the result of a unit whose graph or refusal is this
abbrev behind_graph : List Definition → Expanded Graph → Come
behind_graph unit (Ok g) = refused_check (checked unit g)
behind_graph unit (Err refusal) = Err (expansion_refusal refusal)

-- the result of tokens of which this is answered
abbrev BehindAnswer : List (List ℕ) → Result (List Definition) SyntaxAnswer → Come → Type 0
BehindAnswer names (Ok unit) x = (found : Expanded Graph) × IsFlat unit names found × (x ≡ behind_graph unit found)
BehindAnswer names (Err (S.Unexpected at)) x = x ≡ Err (refusal_by C.Unexpected at)
BehindAnswer names (Err (S.TooDeep at)) x = x ≡ Err (refusal_by C.TooDeep at)
BehindAnswer names (Err S.Memory) x = ⊥

-- the result of bytes whose tokens or refusal this is
abbrev BehindTokens : List (List ℕ) → Result Tokens lexical.Refusal → Come → Type 0
BehindTokens names (Ok ts) x = (answer : Result (List Definition) SyntaxAnswer) × ParsesUnit ts answer × BehindAnswer names answer x
BehindTokens names (Err refusal) x = x ≡ Err (refusal_by (C.Lexical refusal.0) refusal.1)

-- what follows from the tokens or the refusal that bytes have follows from what is computed of them
of_computed : LexedLaw → (bytes : List ℕ) (names : List (List ℕ)) (r : Result Tokens lexical.Refusal) (x : Come) → IsLexed bytes r → BehindTokens names r x
    → BehindTokens names (tokens bytes) x
of_computed lexed bytes names r x is behind = subst (λ s. BehindTokens names s x) (sym ((lexed bytes r).0 is)) behind

by_stages : LexedLaw → (bytes : List ℕ) (names : List (List ℕ)) (x : Come) → IsAccepted bytes names x → BehindTokens names (tokens bytes) x
by_stages lexed bytes names x (no_tokens error at is) = of_computed lexed bytes names (Err (error, at)) (Err (refusal_by (C.Lexical error) at)) is refl
by_stages lexed bytes names x (too_deep ts at is deep) = of_computed lexed bytes names (Ok ts) (Err (refusal_by C.TooDeep at)) is (Err (S.TooDeep at), deep, refl)
by_stages lexed bytes names x (unexpected ts at is refused) = of_computed lexed bytes names (Ok ts) (Err (refusal_by C.Unexpected at)) is (Err (S.Unexpected at), refused, refl)
by_stages lexed bytes names x (no_graph ts unit refusal is spells flat) =
    of_computed lexed bytes names (Ok ts) (Err (expansion_refusal refusal)) is (Ok unit, spells, (Err refusal, flat, refl))
by_stages lexed bytes names x (checks ts unit g is spells flat) =
    of_computed lexed bytes names (Ok ts) (refused_check (checked unit g)) is (Ok unit, spells, (Ok g, flat, refl))

-- ---- one thing

one_behind : OneFlatLaw → (names : List (List ℕ)) (answer : Result (List Definition) SyntaxAnswer) (x y : Come) → BehindAnswer names answer x → BehindAnswer names answer y → x ≡ y
one_behind flats names (Ok unit) x y (found, flat, is) (other, flat', is') = is ∙ ap (behind_graph unit) (flats unit names found other flat flat') ∙ sym is'
one_behind flats names (Err (S.Unexpected at)) x y is is' = is ∙ sym is'
one_behind flats names (Err (S.TooDeep at)) x y is is' = is ∙ sym is'
one_behind flats names (Err S.Memory) x y is is' = absurd is

-- an answer was given
not_memory : (names : List (List ℕ)) (answer : Result (List Definition) SyntaxAnswer) (x : Come) → answer ≡ Err S.Memory → BehindAnswer names answer x → ⊥
not_memory names answer x is h = subst (λ r. BehindAnswer names r x) is h

one_come : OneAnswerLaw → OneFlatLaw → (names : List (List ℕ)) (r : Result Tokens lexical.Refusal) (x y : Come) → BehindTokens names r x → BehindTokens names r y → x ≡ y
one_come answers flats names (Ok ts) x y (a, parses, h) (b, parses', h') = elim (answers ts a b parses parses') [
  | inl memory ↦ absurd (not_memory names a x memory h)
  | inr others ↦ (elim others [
    | inl memory ↦ absurd (not_memory names b y memory h')
    | inr same ↦ one_behind flats names b x y (subst (λ r. BehindAnswer names r x) same h) h'
  ])
]
one_come answers flats names (Err refusal) x y is is' = is ∙ sym is'

pub one_accepted : LexedLaw → OneAnswerLaw → OneFlatLaw → OneAcceptedLaw
one_accepted lexed answers flats bytes names x y h k =
    one_come answers flats names (tokens bytes) x y (by_stages lexed bytes names x h) (by_stages lexed bytes names y k)

-- ---- what is kept

-- what is found of a graph, where that is a checked graph
pub found_is : (found : Result CheckedGraph CheckRefusal) (c : CheckedGraph) → refused_check found ≡ Ok c → found ≡ Ok c
found_is (Ok d) c is = let same : d ≡ c = cc in ap (λ (x : CheckedGraph). Ok x) same
found_is (Err refusal) c is = absurd cc

keeps : KeepsLaw → (bytes : List ℕ) (names : List (List ℕ)) (x : Come) (c : CheckedGraph) → IsAccepted bytes names x → x ≡ Ok c → Keeps c
keeps law bytes names x c (no_tokens error at is) same = absurd (no same)
  where
    no : x ≡ Ok c → ⊥
    no same = cc
keeps law bytes names x c (too_deep ts at is deep) same = absurd (no same)
  where
    no : x ≡ Ok c → ⊥
    no same = cc
keeps law bytes names x c (unexpected ts at is refused) same = absurd (no same)
  where
    no : x ≡ Ok c → ⊥
    no same = cc
keeps law bytes names x c (no_graph ts unit refusal is spells flat) same = absurd (no same)
  where
    no : x ≡ Ok c → ⊥
    no same = cc
keeps law bytes names x c (checks ts unit g is spells flat) same = law unit names g c flat (found_is (checked unit g) c same)

pub kept : KeepsLaw → KeptLaw
kept law bytes names c h = keeps law bytes names (Ok c) c h refl
