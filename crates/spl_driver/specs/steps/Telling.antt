-- How a text is told.
use Rattle.std.specs.Prelude.{◌≡◌, ◌⊎◌, ℕ, Bool, true, false, List, ◌++◌, codes, take, Option, Some, None, Result, Ok, Err, ⊤}
use Rattle.spl_value.specs.declared.memory.NoMemory.{NoMemory}
use Rattle.run_report.specs.declared.cause.Cause.{Cause}
use Rattle.run_report.specs.declared.cause.Cause.TheVariants as C
use Rattle.run_report.specs.Texts.{status_text}
use Rattle.spl_driver.specs.Answer.{IsRun}
use Rattle.spl_driver.specs.Outcome.{RequestOutcome}
use Rattle.spl_driver.specs.Texts.{IsTextOf}

-- the text of a cause; nothing is said of that of a lack of memory
abbrev pub IsText : Bool → Cause → (RequestOutcome → Type 0) → List ℕ → Type 0
IsText counted C.NoMemory Is text = ⊤
IsText counted C.Done Is text = IsTextOf counted Is C.Done text
IsText counted (C.Stopped fault) Is text = IsTextOf counted Is (C.Stopped fault) text
IsText counted (C.BadArrivals op) Is text = IsTextOf counted Is (C.BadArrivals op) text
IsText counted C.BadWords Is text = text ≡ status_text None C.BadWords
IsText counted (C.Refused refusal) Is text = text ≡ status_text None (C.Refused refusal)
IsText counted C.NotBuilt Is text = text ≡ status_text None C.NotBuilt
IsText counted (C.OpenFailed name) Is text = text ≡ status_text None (C.OpenFailed name)
IsText counted (C.ReadFailed name) Is text = text ≡ status_text None (C.ReadFailed name)
IsText counted (C.WriteFailed name) Is text = text ≡ status_text None (C.WriteFailed name)

-- the name that means standard output
abbrev pub OUT : List ℕ
OUT = codes "-"

-- a request was carried out
abbrev pub is_run : Cause → Bool
is_run C.Done = true
is_run (C.Stopped fault) = true
is_run C.BadWords = false
is_run (C.Refused refusal) = false
is_run C.NotBuilt = false
is_run (C.BadArrivals op) = false
is_run (C.OpenFailed name) = false
is_run (C.ReadFailed name) = false
is_run (C.WriteFailed name) = false
is_run C.NoMemory = false

-- what is told of a cause becomes of it: it stays, unless memory ran out; but where the text of a request that was carried out isn't
-- poured, its writing failed
abbrev pub ToldAs : Cause → Cause → Type 0 → Type 0
ToldAs cause result Failed = (result ≡ cause) ⊎ ((result ≡ C.NoMemory) ⊎ ((result ≡ C.WriteFailed OUT) × IsRun cause × Failed))

-- the text was poured whole; or a front of it, since the pour failed or memory ran out
pub data TextPoured (cause result : Cause) (text : List ℕ) (old : List ℕ) (now : Option (List ℕ)) (Failed : Type 0) : Type 0 where
  whole : result ≡ cause → now ≡ Some (old ++ text) → TextPoured cause result text old now Failed
  front : result ≡ cause → (IsRun cause → ⊥) → Failed → (n : ℕ) → now ≡ Some (old ++ take n text) → TextPoured cause result text old now Failed
  failed : result ≡ C.WriteFailed OUT → IsRun cause → Failed → (n : ℕ) → now ≡ Some (old ++ take n text) → TextPoured cause result text old now Failed
  wanting : result ≡ C.NoMemory → TextPoured cause result text old now Failed

abbrev pub Pours : Cause → Cause → List ℕ → Option (List ℕ) → Option (List ℕ) → Type 0 → Type 0
Pours cause result text None now Failed = ⊤
Pours cause result text (Some old) now Failed = TextPoured cause result text old now Failed

-- a text that there was memory for
abbrev pub PoursText : Cause → Cause → Result (List ℕ) NoMemory → Option (List ℕ) → Option (List ℕ) → Type 0 → Type 0
PoursText cause result (Ok text) old now Failed = Pours cause result text old now Failed
PoursText cause result (Err e) old now Failed = result ≡ C.NoMemory
