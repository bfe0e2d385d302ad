-- What is answered of a stage of a program is answered of the program.
use Rattle.std.specs.Prelude.{◌≡◌, ℕ, List, Result, Ok, Err}
use Rattle.std.specs.Result.{IsErrAnd}
use Rattle.std.proofs.Common.{refl, sym, subst}
use Rattle.spl_tree.specs.declared.graph.Graph.{Graph}
use Rattle.spl_tree.specs.declared.token.Tokens.{Tokens}
use Rattle.spl_tree.specs.declared.unit.Definition.{Definition}
use Rattle.spl_tree.specs.Laws.{LexedLaw}
use Rattle.spl_tree.specs.Tokens.{IsLexed, tokens}
use Rattle.spl_tree.specs.Units.{IsUnit}
use Rattle.spl_lexer.specs.declared.answer.LexAnswer.{LexAnswer}
use Rattle.spl_lexer.specs.declared.answer.LexAnswer.TheVariants as L
use Rattle.spl_lexer.specs.Answer.{Refuses}
use Rattle.expr_parser.specs.declared.answer.SyntaxAnswer.{SyntaxAnswer}
use Rattle.expr_parser.specs.declared.answer.SyntaxAnswer.TheVariants as S
use Rattle.unit_parser.specs.Parses.{ParsesUnit}
use Rattle.composite_expand.specs.declared.answer.ExpandAnswer.{ExpandAnswer}
use Rattle.composite_expand.specs.declared.answer.ExpandAnswer.TheVariants as X
use Rattle.composite_expand.specs.Expands.{Expands}
use Rattle.language_model.specs.declared.answer.TypeAnswer.{TypeAnswer}
use Rattle.language_model.specs.declared.answer.TypeAnswer.TheVariants as T
use Rattle.language_model.specs.Finds.{Finds}
use Rattle.language_model.specs.declared.scope.CheckRefusal.{CheckRefusal}
use Rattle.language_model.specs.Accepted.{IsAccepted, no_tokens, too_deep, unexpected, no_graph, checks}
use Rattle.language_model.proofs.parts.Accepted.{refused_check}
use Rattle.language_model.specs.CheckedGraph.{CheckedGraph}
use Rattle.language_model.specs.Checking.{checked}
use Rattle.language_model.specs.Flat.{IsFlat}
use Rattle.spl_driver.specs.declared.compile_answer.CompileAnswer.{CompileAnswer}
use Rattle.spl_driver.specs.CompileAnswers.{lexing_answer, parsing_answer, expanding_answer, checking_answer}
use Rattle.spl_driver.specs.Compiled.{IsCompiled}

abbrev Answered : Type 0
Answered = Result CheckedGraph CompileAnswer

-- the answer is this one
abbrev Is : Answered → CompileAnswer → Type 0
Is r answer = IsErrAnd r (λ a. a ≡ answer)

-- what holds of an answer holds of what is it
same_answer : (bytes : List ℕ) (names : List (List ℕ)) (r : Answered) (answer : CompileAnswer) → Is r answer → IsCompiled bytes names (Err answer) → IsCompiled bytes names r
same_answer bytes names (Ok c) answer is h = absurd is
same_answer bytes names (Err a) answer is h = subst (λ x. IsCompiled bytes names (Err x)) (sym is) h

module _ (law : LexedLaw) (bytes : List ℕ) (names : List (List ℕ)) where
  by_lexer : (answer : LexAnswer) → Refuses answer (tokens bytes) → IsCompiled bytes names (Err (lexing_answer answer))
  by_lexer (L.Refused error at) is = no_tokens error at ((law bytes (Err (error, at))).1 is)
  by_lexer L.Memory is = tt

  pub lexed : (r : Answered) (answer : LexAnswer) → Refuses answer (tokens bytes) → Is r (lexing_answer answer) → IsCompiled bytes names r
  lexed r answer refuses is = same_answer bytes names r (lexing_answer answer) is (by_lexer answer refuses)

  module _ (ts : Tokens) (are : tokens bytes ≡ Ok ts) where
    has : IsLexed bytes (Ok ts)
    has = (law bytes (Ok ts)).1 are

    by_parser : (answer : SyntaxAnswer) → ParsesUnit ts (Err answer) → IsCompiled bytes names (Err (parsing_answer answer))
    by_parser (S.Unexpected at) is = unexpected ts at has is
    by_parser (S.TooDeep at) is = too_deep ts at has is
    by_parser S.Memory is = tt

    pub parsed : (r : Answered) (answer : SyntaxAnswer) → ParsesUnit ts (Err answer) → Is r (parsing_answer answer) → IsCompiled bytes names r
    parsed r answer parses is = same_answer bytes names r (parsing_answer answer) is (by_parser answer parses)

    module _ (unit : List Definition) (spells : IsUnit ts unit) where
      by_expansion : (answer : ExpandAnswer) → Expands unit names (Err answer) → IsCompiled bytes names (Err (expanding_answer answer))
      by_expansion (X.Refused refusal) flat = no_graph ts unit refusal has spells flat
      by_expansion X.Memory flat = tt

      pub expanded : (r : Answered) (answer : ExpandAnswer) → Expands unit names (Err answer) → Is r (expanding_answer answer) → IsCompiled bytes names r
      expanded r answer expands is = same_answer bytes names r (expanding_answer answer) is (by_expansion answer expands)

      module _ (g : Graph) (flat : IsFlat unit names (Ok g)) where
        -- what is found of the graph is the result of the program
        comes_to : (found : Result CheckedGraph CheckRefusal) → checked unit g ≡ found → IsAccepted bytes names (refused_check found)
        comes_to found is = subst (λ x. IsAccepted bytes names (refused_check x)) is (checks ts unit g has spells flat)

        by_check : (answer : TypeAnswer) → Finds (checked unit g) (Err answer) → IsCompiled bytes names (Err (checking_answer answer))
        by_check (T.Refused refusal) is = comes_to (Err refusal) is
        by_check T.Memory is = tt

        pub refused : (r : Answered) (answer : TypeAnswer) → Finds (checked unit g) (Err answer) → Is r (checking_answer answer) → IsCompiled bytes names r
        refused r answer finds is = same_answer bytes names r (checking_answer answer) is (by_check answer finds)

        pub accepted : (c : CheckedGraph) → checked unit g ≡ Ok c → IsAccepted bytes names (Ok c)
        accepted c is = comes_to (Ok c) is
