-- What is told of a cause.
use Rattle.std.proofs.Common.{◌≡◌, ◌∙◌, ℕ, Bool, true, false, List, ◌++◌, take, refl, sym, ap, subst, inl, inr, Option, Some, None, Result, Ok, Err}
use Rattle.std.specs.Prelude.{IfOk}
use Rattle.spl_value.specs.declared.item.Fault.{Fault}
use Rattle.spl_value.specs.declared.memory.NoMemory.{NoMemory}
use Rattle.feed_pour.specs.Contents.{AllPoured, failed_write}
use Rattle.feed_pour.specs.Counts.{Counted, PerName, Rose}
use Rattle.feed_pour.specs.declared.outside.PourAnswer.{PourAnswer}
use Rattle.feed_pour.specs.declared.outside.PourAnswer.TheVariants as E
use Rattle.run_report.specs.declared.cause.Cause.{Cause}
use Rattle.run_report.specs.declared.cause.Cause.TheVariants as C
use Rattle.command_line.specs.declared.request.Request.{Request}
use Rattle.spl_driver.specs.Answer.{IsOr, IsRun, cause_of}
use Rattle.spl_driver.specs.Shown.{TextShown, Shown, ShownBy}
use Rattle.spl_driver.specs.Texts.{wants_counts, IsTextOf, PouredText, Said}
use Rattle.spl_driver.specs.steps.Telling.{is_run, ToldAs, TextPoured, whole, front, failed, wanting, Pours, PoursText, IsText, OUT}
use Rattle.spl_driver.specs.Outcome.{RequestOutcome}
use Rattle.spl_driver.proofs.Showing.{text_shown}

-- ---- causes of requests that were carried out

pub run_is : (c : Cause) → is_run c ≡ true → IsRun c
run_is C.Done e = (None, refl)
run_is (C.Stopped fault) e = (Some fault, refl)
run_is C.BadWords e = cc
run_is (C.Refused refusal) e = cc
run_is C.NotBuilt e = cc
run_is (C.OpenFailed name) e = cc
run_is (C.ReadFailed name) e = cc
run_is (C.BadArrivals op) e = cc
run_is (C.WriteFailed name) e = cc
run_is C.NoMemory e = cc

of_fault : (fault : Option Fault) → is_run (cause_of fault) ≡ true
of_fault None = refl
of_fault (Some fault) = refl

is_run_of : (c : Cause) → IsRun c → is_run c ≡ true
is_run_of c (fault, e) = ap is_run e ∙ of_fault fault

pub not_run : (c : Cause) → is_run c ≡ false → IsRun c → ⊥
not_run c e run = let h : false ≡ true = sym e ∙ is_run_of c run in cc

-- ---- pours

pub poured_whole : (cause : Cause) (text : List ℕ) (old now : Option (List ℕ)) (Failed : Type 0) → AllPoured old now (Ok tt) text → Pours cause cause text old now Failed
poured_whole cause text None now Failed poured = tt
poured_whole cause text (Some old) now Failed poured = whole refl poured

pub poured_front : (cause : Cause) (text : List ℕ) (old now : Option (List ℕ)) (before after : ℕ) (e : PourAnswer) → e ≡ E.Failed → is_run cause ≡ false
    → AllPoured old now (Err e) text → Counted (failed_write {T = Unit {0}} (Err e)) before after → Pours cause cause text old now (Rose before after)
poured_front cause text None now before after e is other poured counted = tt
poured_front cause text (Some old) now before after e is other (n, within, held) counted =
    front refl (not_run cause other) (subst (λ (x : PourAnswer). Counted (failed_write {T = Unit {0}} (Err x)) before after) is counted).1 n held

pub poured_failed : (cause : Cause) (text : List ℕ) (old now : Option (List ℕ)) (before after : ℕ) (e : PourAnswer) → e ≡ E.Failed → is_run cause ≡ true
    → AllPoured old now (Err e) text → Counted (failed_write {T = Unit {0}} (Err e)) before after → Pours cause (C.WriteFailed OUT) text old now (Rose before after)
poured_failed cause text None now before after e is run poured counted = tt
poured_failed cause text (Some old) now before after e is run (n, within, held) counted =
    failed refl (run_is cause run) (subst (λ (x : PourAnswer). Counted (failed_write {T = Unit {0}} (Err x)) before after) is counted).1 n held

pub poured_wanting : (cause : Cause) (text : List ℕ) (old now : Option (List ℕ)) (Failed : Type 0) → Pours cause C.NoMemory text old now Failed
poured_wanting cause text None now Failed = tt
poured_wanting cause text (Some old) now Failed = wanting refl

pub rose_by : (before after : ℕ) (e : PourAnswer) → e ≡ E.Failed → Counted (failed_write {T = Unit {0}} (Err e)) before after → Rose before after
rose_by before after e is counted = (subst (λ (x : PourAnswer). Counted (failed_write {T = Unit {0}} (Err x)) before after) is counted).1

-- ---- what was said

-- the text of a request that was carried out
text_of_run : (counted : Bool) (Is : RequestOutcome → Type 0) (cause : Cause) (text : List ℕ) (fault : Option Fault) → cause ≡ cause_of fault → IsText counted cause Is text → IsTextOf counted Is (cause_of fault) text
text_of_run counted Is cause text None e is = subst (λ (c : Cause). IsText counted c Is text) e is
text_of_run counted Is cause text (Some f) e is = subst (λ (c : Cause). IsText counted c Is text) e is

text_whole : (wanted text old : List ℕ) (now : Option (List ℕ)) (Failed : Type 0) → text ≡ wanted → now ≡ Some (old ++ text) → PouredText wanted old now Failed
text_whole wanted text old now Failed e held = inl (held ∙ ap (λ (l : List ℕ). Some (old ++ l)) e)

text_front : (wanted text old : List ℕ) (now : Option (List ℕ)) (Failed : Type 0) → text ≡ wanted → Failed → (n : ℕ) → now ≡ Some (old ++ take n text) → PouredText wanted old now Failed
text_front wanted text old now Failed e rises n held = inr (rises, (n, held ∙ ap (λ (l : List ℕ). Some (old ++ take n l)) e))

-- what the counts of the shelf show of a cause, before it is told
abbrev pub ShelfShows : Cause → Option Request → PerName → PerName → Type 0 → Type 0
ShelfShows cause request counts later Failed =
    ((name : List ℕ) → cause ≡ C.WriteFailed name → ShownBy (C.WriteFailed name) request counts later) × (IsRun cause → Failed → TextShown OUT request counts later Failed)

said_whole : (cause : Cause) (request : Option Request) (Is : RequestOutcome → Type 0) (counts later : PerName) (text old : List ℕ) (now : Option (List ℕ)) (Failed : Type 0) → ShelfShows cause request counts later Failed
    → IsText (wants_counts request) cause Is text → now ≡ Some (old ++ text) → Said cause request Is counts later (Some old) now Failed
said_whole C.Done request Is counts later text old now Failed shows is held = (text, is, held)
said_whole (C.Stopped fault) request Is counts later text old now Failed shows is held = (text, is, held)
said_whole C.NoMemory request Is counts later text old now Failed shows is held = tt
said_whole C.BadWords request Is counts later text old now Failed shows is held = text_whole _ text old now Failed is held
said_whole (C.Refused refusal) request Is counts later text old now Failed shows is held = text_whole _ text old now Failed is held
said_whole C.NotBuilt request Is counts later text old now Failed shows is held = text_whole _ text old now Failed is held
said_whole (C.OpenFailed name) request Is counts later text old now Failed shows is held = text_whole _ text old now Failed is held
said_whole (C.ReadFailed name) request Is counts later text old now Failed shows is held = text_whole _ text old now Failed is held
said_whole (C.BadArrivals op) request Is counts later text old now Failed shows is held = (text, is, inl held)
said_whole (C.WriteFailed name) request Is counts later text old now Failed shows is held = inl (shows.0 name refl, text_whole _ text old now Failed is held)

said_front : (cause : Cause) (request : Option Request) (Is : RequestOutcome → Type 0) (counts later : PerName) (text old : List ℕ) (now : Option (List ℕ)) (Failed : Type 0) → ShelfShows cause request counts later Failed
    → IsText (wants_counts request) cause Is text → (IsRun cause → ⊥) → Failed → (n : ℕ) → now ≡ Some (old ++ take n text) → Said cause request Is counts later (Some old) now Failed
said_front C.Done request Is counts later text old now Failed shows is other rises n held = absurd (other (None, refl))
said_front (C.Stopped fault) request Is counts later text old now Failed shows is other rises n held = absurd (other (Some fault, refl))
said_front C.NoMemory request Is counts later text old now Failed shows is other rises n held = tt
said_front C.BadWords request Is counts later text old now Failed shows is other rises n held = text_front _ text old now Failed is rises n held
said_front (C.Refused refusal) request Is counts later text old now Failed shows is other rises n held = text_front _ text old now Failed is rises n held
said_front C.NotBuilt request Is counts later text old now Failed shows is other rises n held = text_front _ text old now Failed is rises n held
said_front (C.OpenFailed name) request Is counts later text old now Failed shows is other rises n held = text_front _ text old now Failed is rises n held
said_front (C.ReadFailed name) request Is counts later text old now Failed shows is other rises n held = text_front _ text old now Failed is rises n held
said_front (C.BadArrivals op) request Is counts later text old now Failed shows is other rises n held = (text, is, inr (rises, (n, held)))
said_front (C.WriteFailed name) request Is counts later text old now Failed shows is other rises n held = inl (shows.0 name refl, text_front _ text old now Failed is rises n held)

said_poured : (cause r : Cause) (request : Option Request) (Is : RequestOutcome → Type 0) (counts later : PerName) (text old : List ℕ) (now : Option (List ℕ)) (Failed : Type 0) → ShelfShows cause request counts later Failed
    → IsText (wants_counts request) cause Is text → TextPoured cause r text old now Failed → Said r request Is counts later (Some old) now Failed
said_poured cause r request Is counts later text old now Failed shows is (whole e held) =
    subst (λ (c : Cause). Said c request Is counts later (Some old) now Failed) (sym e) (said_whole cause request Is counts later text old now Failed shows is held)
said_poured cause r request Is counts later text old now Failed shows is (front e other rises n held) =
    subst (λ (c : Cause). Said c request Is counts later (Some old) now Failed) (sym e) (said_front cause request Is counts later text old now Failed shows is other rises n held)
said_poured cause r request Is counts later text old now Failed shows is (failed e (fault, run) rises n held) =
    subst (λ (c : Cause). Said c request Is counts later (Some old) now Failed) (sym e)
    (inr (shows.1 (fault, run) rises, (cause_of fault, text, text_of_run (wants_counts request) Is cause text fault run is, n, held)))
said_poured cause r request Is counts later text old now Failed shows is (wanting e) = subst (λ (c : Cause). Said c request Is counts later (Some old) now Failed) (sym e) tt

said_nothing : (r : Cause) (request : Option Request) (Is : RequestOutcome → Type 0) (counts later : PerName) (old now : Option (List ℕ)) (Failed : Type 0) → r ≡ C.NoMemory → Said r request Is counts later old now Failed
said_nothing r request Is counts later None now Failed e = tt
said_nothing r request Is counts later (Some old) now Failed e = subst (λ (c : Cause). Said c request Is counts later (Some old) now Failed) (sym e) tt

-- what the shelf's counts show before the text is told
shelf_shows : (cause : Cause) (request : Option Request) (counts later : PerName) (Failed : Type 0) → Shown cause request counts later ⊥ → ShelfShows cause request counts later Failed
shelf_shows cause request counts later Failed h = (wrote, λ run failed. text_shown cause request counts later ⊥ Failed run failed h)
  where
    at_write : (name : List ℕ) → Shown (C.WriteFailed name) request counts later ⊥ → ShownBy (C.WriteFailed name) request counts later
    at_write name (inl h) = h
    at_write name (inr h) = absurd h.2.1

    wrote : (name : List ℕ) → cause ≡ C.WriteFailed name → ShownBy (C.WriteFailed name) request counts later
    wrote name e = at_write name (subst (λ (c : Cause). Shown c request counts later ⊥) e h)

-- the text of a cause, once it is told
pub said : (cause r : Cause) (request : Option Request) (Is : RequestOutcome → Type 0) (counts later : PerName) (text : Result (List ℕ) NoMemory) (old now : Option (List ℕ)) (Failed : Type 0)
    → Shown cause request counts later ⊥ → IfOk text (IsText (wants_counts request) cause Is) → PoursText cause r text old now Failed → Said r request Is counts later old now Failed
said cause r request Is counts later (Ok text) None now Failed shown is poured = tt
said cause r request Is counts later (Ok text) (Some old) now Failed shown is poured =
    said_poured cause r request Is counts later text old now Failed (shelf_shows cause request counts later Failed shown) is poured
said cause r request Is counts later (Err e) old now Failed shown is poured = said_nothing r request Is counts later old now Failed poured

---- how the text of a request that was carried out is told

-- its writing failed, or memory ran out for that name
pub unwritten : (cause r : Cause) (Failed : Type 0) → IsOr (C.WriteFailed OUT) r → IsRun cause → Failed → ToldAs cause r Failed
unwritten cause r Failed (inl e) run rises = inr (inr (e, run, rises))
unwritten cause r Failed (inr e) run rises = inr (inl e)

pub poured_unwritten : (cause r : Cause) (text : List ℕ) (old now : Option (List ℕ)) (Failed : Type 0) → IsOr (C.WriteFailed OUT) r → Pours cause (C.WriteFailed OUT) text old now Failed → Pours cause r text old now Failed
poured_unwritten cause r text old now Failed (inl e) h = subst (λ (c : Cause). Pours cause c text old now Failed) (sym e) h
poured_unwritten cause r text old now Failed (inr e) h = subst (λ (c : Cause). Pours cause c text old now Failed) (sym e) (poured_wanting cause text old now Failed)

pub unwritten_run : (expected r : Cause) → IsOr (C.WriteFailed OUT) r → IsRun r → ⊥
unwritten_run expected r (inl e) (None, is) = let h : C.WriteFailed OUT ≡ C.Done = sym e ∙ is in cc
unwritten_run expected r (inl e) (Some fault, is) = let h : C.WriteFailed OUT ≡ C.Stopped fault = sym e ∙ is in cc
unwritten_run expected r (inr e) (None, is) = let h : C.NoMemory ≡ C.Done = sym e ∙ is in cc
unwritten_run expected r (inr e) (Some fault, is) = let h : C.NoMemory ≡ C.Stopped fault = sym e ∙ is in cc
