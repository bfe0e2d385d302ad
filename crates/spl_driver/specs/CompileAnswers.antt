-- What compiling answers where a stage gives no result.
use Rattle.language_model.specs.declared.refusal.Code.TheVariants as C
use Rattle.language_model.specs.Refusals.{check_refusal, expansion_refusal, refusal_by}
use Rattle.spl_lexer.specs.declared.answer.LexAnswer.{LexAnswer}
use Rattle.spl_lexer.specs.declared.answer.LexAnswer.TheVariants as L
use Rattle.expr_parser.specs.declared.answer.SyntaxAnswer.{SyntaxAnswer}
use Rattle.expr_parser.specs.declared.answer.SyntaxAnswer.TheVariants as S
use Rattle.composite_expand.specs.declared.answer.ExpandAnswer.{ExpandAnswer}
use Rattle.composite_expand.specs.declared.answer.ExpandAnswer.TheVariants as X
use Rattle.language_model.specs.declared.answer.TypeAnswer.{TypeAnswer}
use Rattle.language_model.specs.declared.answer.TypeAnswer.TheVariants as T
use Rattle.spl_driver.specs.declared.compile_answer.CompileAnswer.{CompileAnswer}
use Rattle.spl_driver.specs.declared.compile_answer.CompileAnswer.TheVariants as A

abbrev pub lexing_answer : LexAnswer → CompileAnswer
lexing_answer (L.Refused error at) = A.Refused (refusal_by (C.Lexical error) at)
lexing_answer L.Memory = A.Memory

abbrev pub parsing_answer : SyntaxAnswer → CompileAnswer
parsing_answer (S.Unexpected at) = A.Refused (refusal_by C.Unexpected at)
parsing_answer (S.TooDeep at) = A.Refused (refusal_by C.TooDeep at)
parsing_answer S.Memory = A.Memory

abbrev pub expanding_answer : ExpandAnswer → CompileAnswer
expanding_answer (X.Refused refusal) = A.Refused (expansion_refusal refusal)
expanding_answer X.Memory = A.Memory

abbrev pub checking_answer : TypeAnswer → CompileAnswer
checking_answer (T.Refused refusal) = A.Refused (check_refusal refusal)
checking_answer T.Memory = A.Memory
