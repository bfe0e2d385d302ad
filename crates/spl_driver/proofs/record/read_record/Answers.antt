use Rattle.std.proofs.Common.{rules, ◌≡◌, ℕ, List, Err, refl, subst}
use Rattle.stream_model.specs.declared.record.Arrivals.{Arrivals}
use Rattle.arrival_format.specs.declared.answer.ArrivalsAnswer.{ArrivalsAnswer}
use Rattle.arrival_format.specs.declared.answer.ArrivalsAnswer.TheVariants as A
use Rattle.arrival_format.specs.ArrivalTexts.{Reads, Spells}
use Rattle.spl_driver.proofs.Fetching.{fetch_fails, first_opening, first_reading, quiet_fetch}
use Rattle.spl_driver.proofs.Replays.{record_bad, record_long, record_spelled}
use Rattle.spl_driver.proofs.record.read_record.Goals as goal

pub returns-in-OpenFailed-clause-cause : goal.returns-in-OpenFailed-clause-cause
returns-in-OpenFailed-clause-cause g c = first_opening _ _ _ _ refl c.in-OpenFailed.ensures.cause

pub returns-in-ReadFailed-clause-cause : goal.returns-in-ReadFailed-clause-cause
returns-in-ReadFailed-clause-cause g c = first_reading _ _ _ _ refl c.in-ReadFailed.ensures.cause

pub returns-in-Memory-clause-cause : goal.returns-in-Memory-clause-cause
returns-in-Memory-clause-cause g c = quiet_fetch _ _ _ _ refl refl c.in-Memory.ensures.cause

pub returns-in-TooLong-clause-cause : goal.returns-in-TooLong-clause-cause
returns-in-TooLong-clause-cause g c = quiet_fetch _ _ _ _ refl refl c.in-TooLong.ensures.cause

pub returns-in-TooLong-clause-made : goal.returns-in-TooLong-clause-made
returns-in-TooLong-clause-made g c = record_long _ c.args.checked.now c.args.file.now c.in-TooLong.ensures.read

pub returns-in-Ok-clause-made : goal.returns-in-Ok-clause-made
returns-in-Ok-clause-made g c =
    let same : c.as_slice.result.now ≡ c.in-Whole.bytes = search rules in
    record_spelled _ c.args.checked.now c.args.file.now c.in-Whole.bytes c.in-Ok.arrivals c.in-Whole.ensures.read
    (subst (λ (bs : List ℕ). Spells c.args.checked.now bs c.in-Ok.arrivals) same c.in-Ok.ensures)

pub returns-in-Ok-clause-order : goal.returns-in-Ok-clause-order
returns-in-Ok-clause-order g c = let is : Spells c.args.checked.now c.as_slice.result.now c.in-Ok.arrivals = c.in-Ok.ensures in is.made.lists

pub returns-in-Ok-clause-cause : goal.returns-in-Ok-clause-cause
returns-in-Ok-clause-cause g c = quiet_fetch _ _ _ _ refl refl c.in-Whole.ensures.cause

pub returns-in-Err-Bad-clause-made : goal.returns-in-Err-Bad-clause-made
returns-in-Err-Bad-clause-made g c =
    let same : c.as_slice.result.now ≡ c.in-Whole.bytes = search rules in
    let none : Reads c.args.checked.now c.as_slice.result.now (Err A.Bad) = subst (λ (a : ArrivalsAnswer). Reads c.args.checked.now c.as_slice.result.now (Err a)) c.in-Err-Bad.field-0-is c.in-Err-Bad.ensures in
    record_bad _ c.args.checked.now c.args.file.now c.in-Whole.bytes c.in-Whole.ensures.read
    (subst (λ (bs : List ℕ). (arrivals : Arrivals) → Spells c.args.checked.now bs arrivals → ⊥) same none)

pub returns-in-Err-Bad-clause-cause : goal.returns-in-Err-Bad-clause-cause
returns-in-Err-Bad-clause-cause g c = quiet_fetch _ _ _ _ refl refl c.in-Whole.ensures.cause

pub returns-clause-cause : goal.returns-clause-cause
returns-clause-cause g c = quiet_fetch _ _ _ _ refl refl c.in-Whole.ensures.cause

pub returns-in-ReadFailed-clause-reads : goal.returns-in-ReadFailed-clause-reads
returns-in-ReadFailed-clause-reads g c = fetch_fails _ _ _ _ _ c.in-ReadFailed.ensures.cause c.in-ReadFailed.ensures.read
