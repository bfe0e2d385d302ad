-- What the program tells.
use Rattle.std.specs.Prelude.{◌≡◌, ◌⊎◌, ℕ, Bool, false, if◌then◌else◌, List, [], ◌++◌, take, Option, Some, None, ⊤, IfSome}
use Rattle.feed_pour.specs.Contents.{Told}
use Rattle.feed_pour.specs.Counts.{PerName}
use Rattle.language_model.specs.CheckedGraph.{CheckedGraph}
use Rattle.stream_model.specs.declared.plan.Region.{Region}
use Rattle.stream_model.specs.declared.record.Arrivals.{Arrivals}
use Rattle.stream_model.specs.declared.record.Counts.{Counts}
use Rattle.stream_model.specs.CheckedMeaning.{graph_of}
use Rattle.stream_model.specs.Ends.{run_fault}
use Rattle.stream_model.specs.Regions.{IsPlan}
use Rattle.run_report.specs.declared.cause.Cause.{Cause}
use Rattle.run_report.specs.declared.cause.Cause.TheVariants as C
use Rattle.run_report.specs.CountTexts.{counts_text}
use Rattle.run_report.specs.PlanTexts.{plan_text}
use Rattle.run_report.specs.Texts.{status_text, check_text}
use Rattle.command_line.specs.declared.request.Request.{Request}
use Rattle.command_line.specs.declared.request.Request.TheVariants as R
use Rattle.spl_driver.specs.Answer.{cause_of}
use Rattle.stream_model.specs.Runs.{counts_of}
use Rattle.spl_driver.specs.Outcome.{Report, OfSize, OfPlan, RequestOutcome, Reports, BadArrivals, Runs, IsOutcome, IsProgramOf}
use Rattle.spl_driver.specs.Shown.{IsBadFor, TextShown, RanTo, ShownBy}

-- What the result of a request may be whose program is accepted, whatever its files hold: what is told of the checked graph of a
-- program, a meaning that a run of it had, or a record that isn't one or isn't whole.
abbrev pub MayComeTo : Option Request → Arrivals → PerName → PerName → RequestOutcome → Type 0
MayComeTo (Some (R.Check program)) arrivals counts now (Reports OfSize c) = IsProgramOf (Some (R.Check program)) c
MayComeTo (Some (R.Plan program)) arrivals counts now (Reports OfPlan c) = IsProgramOf (Some (R.Plan program)) c
MayComeTo (Some (R.Run program options)) arrivals counts now (Runs c g m) =
    IsProgramOf (Some (R.Run program options)) c × RanTo c g m arrivals counts now
MayComeTo (Some (R.Replay program file)) arrivals counts now (Runs c g m) =
    IsProgramOf (Some (R.Replay program file)) c × RanTo c g m arrivals counts now
MayComeTo (Some (R.Replay program file)) arrivals counts now (BadArrivals c op) =
    IsProgramOf (Some (R.Replay program file)) c × IsBadFor c op
MayComeTo _ arrivals counts now _ = ⊥

-- what its result may be, which is its outcome where the shelf tells its files
abbrev pub IsToldOutcome : Option Request → Option Told → Arrivals → PerName → PerName → RequestOutcome → Type 0
IsToldOutcome request told arrivals counts now result =
    MayComeTo request arrivals counts now result × IfSome told (λ t. IsOutcome t arrivals request result)

-- the text of a program that isn't run: its size, or its plan, which is the one plan of its graph
abbrev pub IsReportText : Report → CheckedGraph → List ℕ → Type 0
IsReportText OfSize c text = text ≡ check_text c
IsReportText OfPlan c text = (plan : List Region) × IsPlan (graph_of c) plan × (text ≡ plan_text c plan)

-- the request asks for the counts of its run
abbrev pub wants_counts : Option Request → Bool
wants_counts (Some (R.Run program options)) = options.counts
wants_counts _ = false

-- the text of a run with these counts: they are told where they are asked for, and then how it ended
abbrev pub run_text : Bool → CheckedGraph → Counts → Cause → List ℕ
run_text counted c counts cause = (if counted then counts_text c counts else []) ++ status_text (Some c) cause

-- How a request ends whose program is accepted, and its text: a program is told of, and that is done; a run ends with its fault, or without; or
-- a record is bad.
abbrev pub EndsTelling : Bool → RequestOutcome → Cause → List ℕ → Type 0
EndsTelling counted (Reports report c) cause text = (cause ≡ C.Done) × IsReportText report c text
EndsTelling counted (Runs c g m) cause text =
    (cause ≡ cause_of (run_fault g m)) × (text ≡ run_text counted c (counts_of g m) cause)
EndsTelling counted (BadArrivals c op) cause text = (cause ≡ C.BadArrivals op) × (text ≡ status_text (Some c) cause)
EndsTelling counted _ cause text = ⊥

-- a request of such an outcome ended so, and this is its text
abbrev pub IsTextOf : Bool → (RequestOutcome → Type 0) → Cause → List ℕ → Type 0
IsTextOf counted Is cause text = (result : RequestOutcome) × Is result × EndsTelling counted result cause text

-- these bytes were poured, or a front of them where the pour's count rose
abbrev pub PouredText : List ℕ → List ℕ → Option (List ℕ) → Type 0 → Type 0
PouredText bytes old now Failed =
    (now ≡ Some (old ++ bytes)) ⊎ (Failed × ((n : ℕ) × (now ≡ Some (old ++ take n bytes))))

-- a text of a request that was carried out was poured whole
abbrev pub PouredWhole : Bool → (RequestOutcome → Type 0) → Cause → List ℕ → Option (List ℕ) → Type 0
PouredWhole counted Is cause old now = (text : List ℕ) × IsTextOf counted Is cause text × (now ≡ Some (old ++ text))

-- The cause's text was poured; nothing is said of a lack of memory. Where a write failed, that is one of a file that the request creates, and
-- its text was poured; or it is that of the text that would have come, which was begun.
abbrev pub Said : Cause → Option Request → (RequestOutcome → Type 0) → PerName → PerName → Option (List ℕ)
    → Option (List ℕ) → Type 0 → Type 0
Said cause request Is counts later None now Failed = ⊤
Said C.NoMemory request Is counts later (Some old) now Failed = ⊤
Said C.Done request Is counts later (Some old) now Failed = PouredWhole (wants_counts request) Is C.Done old now
Said (C.Stopped fault) request Is counts later (Some old) now Failed =
    PouredWhole (wants_counts request) Is (C.Stopped fault) old now
Said (C.BadArrivals op) request Is counts later (Some old) now Failed =
    (text : List ℕ) × IsTextOf (wants_counts request) Is (C.BadArrivals op) text × PouredText text old now Failed
Said (C.WriteFailed name) request Is counts later (Some old) now Failed =
    (ShownBy (C.WriteFailed name) request counts later
    × PouredText (status_text None (C.WriteFailed name)) old now Failed)
    ⊎ (TextShown name request counts later Failed
    × ((cause : Cause) × (text : List ℕ) × IsTextOf (wants_counts request) Is cause text
    × (n : ℕ) × (now ≡ Some (old ++ take n text))))
Said C.BadWords request Is counts later (Some old) now Failed = PouredText (status_text None C.BadWords) old now Failed
Said (C.Refused refusal) request Is counts later (Some old) now Failed =
    PouredText (status_text None (C.Refused refusal)) old now Failed
Said C.NotBuilt request Is counts later (Some old) now Failed = PouredText (status_text None C.NotBuilt) old now Failed
Said (C.OpenFailed name) request Is counts later (Some old) now Failed =
    PouredText (status_text None (C.OpenFailed name)) old now Failed
Said (C.ReadFailed name) request Is counts later (Some old) now Failed =
    PouredText (status_text None (C.ReadFailed name)) old now Failed
