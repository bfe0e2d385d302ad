-- Answers to requests whose text names no operator.
use Rattle.std.proofs.Common.{◌≡◌, ◌<◌, ◌-◌, ◌^◌, ℕ, List, true, false, inl, inr, ◌∙◌, refl, sym, subst, Option, Some, None, Result, Ok, Err}
use Rattle.std.specs.Prelude.{IfOk}
use Rattle.spl_value.specs.declared.memory.NoMemory.{NoMemory}
use Rattle.feed_pour.specs.Counts.{PerName}
use Rattle.feed_pour.specs.Contents.{Told, WhereTold}
use Rattle.run_report.specs.declared.cause.Cause.{Cause}
use Rattle.run_report.specs.declared.cause.Cause.TheVariants as C
use Rattle.run_report.specs.Texts.{status_text}
use Rattle.command_line.specs.declared.request.Request.{Request}
use Rattle.command_line.specs.declared.request.Request.TheVariants as R
use Rattle.spl_driver.specs.Answer.{Answered, ByWords, IsRun, MayBe, is_report, IsOr}
use Rattle.spl_driver.specs.Shown.{IsReason, IsRunProgram, NothingRan, Shown}
use Rattle.spl_driver.specs.Built.{is_built}
use Rattle.spl_driver.specs.Texts.{wants_counts, IsToldOutcome}
use Rattle.spl_driver.specs.steps.Telling.{IsText}
use Rattle.spl_driver.specs.steps.Steps.{AnswersRequest}
use Rattle.spl_driver.proofs.Causes.{IsReport}
use Rattle.spl_driver.specs.declared.answer.Answer.{Answer}
use Rattle.spl_driver.proofs.Showing.{IsPlainCause, plain_record, or_ran, or_reason, plain_ran, quiet_shown}
use Rattle.spl_driver.proofs.Running.{or_text, plain_text}
use Rattle.spl_driver.proofs.Standing.{built_words, not_built_answer, words_answer}
use Rattle.spl_driver.proofs.Telling.{not_run}

-- the answer of a cause of which nothing was carried out
pub plain_request : (told now : Option Told) (request : Option Request) (k : Cause) (answer : Answer) (counts later : PerName) (lent left : ℕ) → answer.ended.cause ≡ k → (IsRun k → ⊥)
    → IsPlainCause k counts later → IsReason k request → MayBe request k → Shown k request counts later ⊥ → ByWords request k counts later → IfOk answer.text (λ l. l ≡ status_text None k) → NothingRan answer.ended
    → (lent < 2 ^ 64 - 257 → left ≡ lent) → WhereTold told now (Answered request answer.ended counts later ⊥) → AnswersRequest request answer told now counts later lent left
plain_request told now request k answer counts later lent left is other plain reason kind shown words text none given answered = record {
  answered = answered;
  shown = subst (λ (c : Cause). Shown c request counts later ⊥) (sym is) shown;
  text = text_at answer.text text;
  words = subst (λ (c : Cause). ByWords request c counts later) (sym is) words;
  kinds = subst (MayBe request) (sym is) kind;
  reason = subst (λ (c : Cause). IsReason c request) (sym is) reason;
  ran = subst (λ (c : Cause). Rattle.spl_driver.specs.Shown.RunShown c (IsRunProgram request) (IsReport request) answer.ended counts later) (sym is) (plain_ran k (IsRunProgram request) (IsReport request) answer.ended counts later plain none);
  lent = given;
}
  where
    text_at : (text : Result (List ℕ) NoMemory) → IfOk text (λ l. l ≡ status_text None k) → IfOk text (IsText (wants_counts request) answer.ended.cause (IsToldOutcome request told answer.ended.arrivals counts later))
    text_at (Ok l) e = plain_text (wants_counts request) answer.ended.cause k (IsToldOutcome request told answer.ended.arrivals counts later) l is other (plain_record k counts later plain) e
    text_at (Err x) e = tt

-- the answer of a cause, or of a lack of memory for its name, after which no count is shown by the words
pub named_request : (told now : Option Told) (request : Request) (k : Cause) (answer : Answer) (counts later : PerName) (lent left : ℕ) → IsOr k answer.ended.cause → (IsRun k → ⊥) → IsPlainCause k counts later → IsReason k (Some request)
    → MayBe (Some request) k → Shown answer.ended.cause (Some request) counts later ⊥ → is_built request ≡ true → IfOk answer.text (λ l. l ≡ status_text None answer.ended.cause) → NothingRan answer.ended
    → (lent < 2 ^ 64 - 257 → left ≡ lent) → WhereTold told now (Answered (Some request) answer.ended counts later ⊥) → AnswersRequest (Some request) answer told now counts later lent left
named_request told now request k answer counts later lent left is other plain reason kind shown built text none given answered = record {
  answered = answered;
  shown = shown;
  text = or_text (wants_counts (Some request)) k answer.ended.cause (IsToldOutcome (Some request) told answer.ended.arrivals counts later) answer.text is other (plain_record k counts later plain) text;
  words = built_words request answer.ended.cause counts later built;
  kinds = kinds is;
  reason = or_reason k answer.ended.cause (Some request) is reason;
  ran = or_ran k answer.ended.cause (IsRunProgram (Some request)) (IsReport (Some request)) answer.ended counts later is plain none;
  lent = given;
}
  where
    kinds : IsOr k answer.ended.cause → MayBe (Some request) answer.ended.cause
    kinds (inl e) = subst (MayBe (Some request)) (sym e) kind
    kinds (inr e) = subst (MayBe (Some request)) (sym e) tt

-- the same where the answer's cause is one that was found
same_or : (expected found cause : Cause) → cause ≡ found → IsOr expected found → IsOr expected cause
same_or expected found cause e (inl is) = inl (e ∙ is)
same_or expected found cause e (inr is) = inr (e ∙ is)

pub named_cause : (told now : Option Told) (request : Request) (k : Cause) (answer : Answer) (found : Cause) (counts later : PerName) (lent left : ℕ) → answer.ended.cause ≡ found → IsOr k found → (IsRun k → ⊥) → IsPlainCause k counts later → IsReason k (Some request)
    → MayBe (Some request) k → (IsOr k answer.ended.cause → Shown answer.ended.cause (Some request) counts later ⊥) → is_built request ≡ true → IfOk answer.text (λ l. l ≡ status_text None found)
    → NothingRan answer.ended → (lent < 2 ^ 64 - 257 → left ≡ lent) → (IsOr k answer.ended.cause → WhereTold told now (Answered (Some request) answer.ended counts later ⊥))
    → AnswersRequest (Some request) answer told now counts later lent left
named_cause told now request k answer found counts later lent left same is other plain reason kind shown built text none given answered =
    let or = same_or k found answer.ended.cause same is in
    named_request told now request k answer counts later lent left or other plain reason kind (shown or) built
    (subst (λ (c : Cause). IfOk answer.text (λ l. l ≡ status_text None c)) (sym same) text) none given (answered or)

not_report : (request : Request) → is_built request ≡ false → is_report (Some request) ≡ false
not_report (R.Check p) other = cc
not_report (R.Run p options) other = refl
not_report (R.Plan p) other = cc
not_report (R.Replay p arrivals) other = cc
not_report (R.Simulate p width schedule steps) other = refl
not_report (R.Make name rows start) other = refl

-- the answer to a request that isn't built by its words
pub not_built_request : (told : Option Told) (request : Request) (answer : Answer) (counts : PerName) (lent : ℕ) → is_built request ≡ false → answer.ended.cause ≡ C.NotBuilt
    → IfOk answer.text (λ l. l ≡ status_text None C.NotBuilt) → NothingRan answer.ended → AnswersRequest (Some request) answer told told counts counts lent lent
not_built_request told request answer counts lent other is text none =
    plain_request told told (Some request) C.NotBuilt answer counts counts lent lent is (not_run C.NotBuilt refl) tt other (not_report request other) (quiet_shown C.NotBuilt (Some request) counts counts tt tt (λ n. refl))
    (λ none. (inl refl, λ n. refl)) text none (λ small. refl) (not_built_answer told request answer.ended counts other is)

-- the answer where there is no request
pub no_request_answer : (told : Option Told) (answer : Answer) (counts : PerName) (lent : ℕ) → answer.ended.cause ≡ C.BadWords
    → IfOk answer.text (λ l. l ≡ status_text None C.BadWords) → NothingRan answer.ended → AnswersRequest None answer told told counts counts lent lent
no_request_answer told answer counts lent is text none =
    plain_request told told None C.BadWords answer counts counts lent lent is (not_run C.BadWords refl) tt tt tt (refl, λ n. refl)
    (inl refl, λ n. refl) text none (λ small. refl) (words_answer told answer.ended counts is)
