-- The outcome of a request is one, and so are the operators of its program.
use Rattle.std.proofs.Common.{◌≡◌, ◌∙◌, ℕ, Bool, true, false, List, [], refl, sym, ap, subst, inl, inr, ◌⊎◌, Option, Some, None, Result, Ok, Err}
use Rattle.std.specs.Prelude.{option_and_then}
use Rattle.feed_pour.specs.Contents.{Told}
use Rattle.language_model.specs.declared.checked.CheckedClauses.{CheckedClauses}
use Rattle.language_model.specs.declared.refusal.Refusal.{Refusal}
use Rattle.language_model.specs.Accepted.{IsAccepted}
use Rattle.language_model.specs.CheckedGraph.{CheckedGraph}
use Rattle.stream_model.specs.declared.record.Arrivals.{Arrivals}
use Rattle.command_line.specs.declared.request.Request.{Request}
use Rattle.command_line.specs.declared.request.Request.TheVariants as R
use Rattle.command_line.specs.Request.{file_names}
use Rattle.language_model.specs.Keeping.{Keeps}
use Rattle.arrival_format.specs.FormatLaws.{OneRecordLaw, SomeReadLaw}
use Rattle.spl_driver.specs.AcceptedLaws.{KeptLaw, OneAcceptedLaw, SomeAcceptedLaw}
use Rattle.spl_driver.specs.Built.{is_built}
use Rattle.spl_driver.specs.Files.{program_of, parts_of}
use Rattle.spl_driver.specs.Outcome.{RequestOutcome, NoRequest, Unreadable, Refused, NotBuilt, OfPlan, OfSize, Reports, BadArrivals, has_fault, has_record_fault, run_outcome, IsFound, IsOutcome, IsReplay, IsUnder, unread, misspelt, spelled, partial, whole, no_request, not_built, unreadable, refused, checks, plans, runs, replays, ArePartsIn, of_no_program, of_unreadable, of_program}
use Rattle.spl_driver.specs.RequestLaws.{OneOutcomeLaw, SomeOutcomeLaw, OnePartsLaw, SomePartsLaw}
use Rattle.spl_driver.specs.steps.Steps.{IsAcceptedOutcome}
use Rattle.spl_driver.proofs.Replaying.{one_replay, some_replay}

-- ---- the outcome, question by question

-- by what is found of the program
abbrev pub IsFoundOutcome : Request → Told → Arrivals → Result CheckedGraph Refusal → RequestOutcome → Type 0
IsFoundOutcome request t arrivals (Err refusal) r = r ≡ Refused refusal
IsFoundOutcome request t arrivals (Ok c) r = IsAcceptedOutcome request c arrivals t r

-- by whether its file has a fault
abbrev OutcomeByFault : Bool → Request → List ℕ → List ℕ → Told → Arrivals → RequestOutcome → Type 0
OutcomeByFault true request program bytes t arrivals r = r ≡ Unreadable program
OutcomeByFault false request program bytes t arrivals r = (found : Result CheckedGraph Refusal) × IsAccepted bytes (file_names request) found × IsFoundOutcome request t arrivals found r

-- by the program's file
abbrev OutcomeByFile : Option (List ℕ) → Request → Told → Arrivals → RequestOutcome → Type 0
OutcomeByFile None request t arrivals r = r ≡ NotBuilt
OutcomeByFile (Some p) request t arrivals r = OutcomeByFault (has_fault (t.script p)) request p (t.script p).bytes t arrivals r

-- by whether the words ask for what is built
abbrev OutcomeByWords : Bool → Request → Told → Arrivals → RequestOutcome → Type 0
OutcomeByWords true request t arrivals r = OutcomeByFile (program_of request) request t arrivals r
OutcomeByWords false request t arrivals r = r ≡ NotBuilt

abbrev OutcomeBy : Option Request → Told → Arrivals → RequestOutcome → Type 0
OutcomeBy None t arrivals r = r ≡ NoRequest
OutcomeBy (Some request) t arrivals r = OutcomeByWords (is_built request) request t arrivals r

at_program : (t : Told) (arrivals : Arrivals) (request : Request) (program : List ℕ) (r : RequestOutcome) → is_built request ≡ true → program_of request ≡ Some program
    → OutcomeByFile (Some program) request t arrivals r → OutcomeBy (Some request) t arrivals r
at_program t arrivals request program r built of h =
    subst (λ (b : Bool). OutcomeByWords b request t arrivals r) (sym built) (subst (λ (p : Option (List ℕ)). OutcomeByFile p request t arrivals r) (sym of) h)

at_found : (t : Told) (arrivals : Arrivals) (request : Request) (program : List ℕ) (found : Result CheckedGraph Refusal) (r : RequestOutcome) → is_built request ≡ true → program_of request ≡ Some program
    → IsFound t program (file_names request) found → IsFoundOutcome request t arrivals found r → OutcomeBy (Some request) t arrivals r
at_found t arrivals request program found r built of h is =
    at_program t arrivals request program r built of
    (subst (λ (b : Bool). OutcomeByFault b request program (t.script program).bytes t arrivals r) (sym h.read) (found, h.accepted, is))

by_questions : (t : Told) (arrivals : Arrivals) (request : Option Request) (r : RequestOutcome) → IsOutcome t arrivals request r → OutcomeBy request t arrivals r
by_questions t arrivals request r no_request = refl
by_questions t arrivals request r (not_built asked other) = subst (λ (b : Bool). OutcomeByWords b asked t arrivals NotBuilt) (sym other) refl
by_questions t arrivals request r (unreadable asked program built of fault) =
    at_program t arrivals asked program (Unreadable program) built of
    (subst (λ (b : Bool). OutcomeByFault b asked program (t.script program).bytes t arrivals (Unreadable program)) (sym fault) refl)
by_questions t arrivals request r (refused asked program refusal built of found) = at_found t arrivals asked program (Err refusal) (Refused refusal) built of found refl
by_questions t arrivals request r (checks program c found) = at_found t arrivals (R.Check program) program (Ok c) (Reports OfSize c) refl refl found refl
by_questions t arrivals request r (plans program c found) = at_found t arrivals (R.Plan program) program (Ok c) (Reports OfPlan c) refl refl found refl
by_questions t arrivals request r (runs program options c plain found) = at_found t arrivals (R.Run program options) program (Ok c) (run_outcome c t arrivals) plain refl found refl
by_questions t arrivals request r (replays program file c _ found is) = at_found t arrivals (R.Replay program file) program (Ok c) r refl refl found is

-- ---- and back

same_program : (p program : List ℕ) → Some p ≡ Some program → program ≡ p
same_program p program e = cc

-- the outcome of an accepted program
outcome_accepted : (t : Told) (arrivals : Arrivals) (request : Request) (program : List ℕ) (c : CheckedGraph) (r : RequestOutcome) → is_built request ≡ true → program_of request ≡ Some program
    → IsFound t program (file_names request) (Ok c) → IsAcceptedOutcome request c arrivals t r → IsOutcome t arrivals (Some request) r
outcome_accepted t arrivals (R.Check p) program c r built of found is =
    subst (IsOutcome t arrivals (Some (R.Check p))) (sym is) (checks p c (subst (λ (q : List ℕ). IsFound t q (file_names (R.Check p)) (Ok c)) (same_program p program of) found))
outcome_accepted t arrivals (R.Run p options) program c r built of found is =
    subst (IsOutcome t arrivals (Some (R.Run p options))) (sym is) (runs p options c built (subst (λ (q : List ℕ). IsFound t q (file_names (R.Run p options)) (Ok c)) (same_program p program of) found))
outcome_accepted t arrivals (R.Plan p) program c r built of found is =
    subst (IsOutcome t arrivals (Some (R.Plan p))) (sym is) (plans p c (subst (λ (q : List ℕ). IsFound t q (file_names (R.Plan p)) (Ok c)) (same_program p program of) found))
outcome_accepted t arrivals (R.Replay p file) program c r built of found is =
    replays p file c r (subst (λ (q : List ℕ). IsFound t q (file_names (R.Replay p file)) (Ok c)) (same_program p program of) found) is
outcome_accepted t arrivals (R.Simulate p width schedule steps) program c r built of found is = cc
outcome_accepted t arrivals (R.Make name rows start) program c r built of found is = cc

-- the outcome by what is found of the program
pub outcome_found : (t : Told) (arrivals : Arrivals) (request : Request) (program : List ℕ) (found : Result CheckedGraph Refusal) (r : RequestOutcome) → is_built request ≡ true → program_of request ≡ Some program
    → IsFound t program (file_names request) found → IsFoundOutcome request t arrivals found r → IsOutcome t arrivals (Some request) r
outcome_found t arrivals request program (Err refusal) r built of found is = subst (IsOutcome t arrivals (Some request)) (sym is) (refused request program refusal built of found)
outcome_found t arrivals request program (Ok c) r built of found is = outcome_accepted t arrivals request program c r built of found is

-- a request that is built has a program
has_program : (request : Request) → is_built request ≡ true → program_of request ≡ None → ⊥
has_program (R.Check p) built none = cc
has_program (R.Run p options) built none = cc
has_program (R.Plan p) built none = cc
has_program (R.Replay p record_name) built none = cc
has_program (R.Simulate p width schedule steps) built none = cc
has_program (R.Make name rows start) built none = cc

pub from_questions : (t : Told) (arrivals : Arrivals) (request : Option Request) (r : RequestOutcome) → OutcomeBy request t arrivals r → IsOutcome t arrivals request r
from_questions t arrivals None r e = subst (IsOutcome t arrivals None) (sym e) no_request
from_questions t arrivals (Some request) r h = by_words (is_built request) refl h
  where
    by_fault : (program : List ℕ) → is_built request ≡ true → program_of request ≡ Some program → (b : Bool) → has_fault (t.script program) ≡ b
        → OutcomeByFault b request program (t.script program).bytes t arrivals r → IsOutcome t arrivals (Some request) r
    by_fault program built of true fault e = subst (IsOutcome t arrivals (Some request)) (sym e) (unreadable request program built of fault)
    by_fault program built of false quiet (found, accepted, e) =
        outcome_found t arrivals request program found r built of (record { read = quiet; accepted = accepted }) e

    by_file : is_built request ≡ true → (o : Option (List ℕ)) → program_of request ≡ o → OutcomeByFile o request t arrivals r → IsOutcome t arrivals (Some request) r
    by_file built None none h = absurd (has_program request built none)
    by_file built (Some program) of h = by_fault program built of (has_fault (t.script program)) refl h

    by_words : (b : Bool) → is_built request ≡ b → OutcomeByWords b request t arrivals r → IsOutcome t arrivals (Some request) r
    by_words true built h = by_file built (program_of request) refl h
    by_words false other e = subst (IsOutcome t arrivals (Some request)) (sym e) (not_built request other)

-- ---- one outcome

-- what is known of programs and of records
record Laws : Type 0 where
  pub one : OneAcceptedLaw
  pub kept : KeptLaw
  pub record_one : OneRecordLaw

one_accepted_outcome : OneRecordLaw → (request : Request) (c : CheckedGraph) (arrivals : Arrivals) (t : Told) (r s : RequestOutcome) → Keeps c → IsAcceptedOutcome request c arrivals t r → IsAcceptedOutcome request c arrivals t s → r ≡ s
one_accepted_outcome law (R.Check p) c arrivals t r s k e d = e ∙ sym d
one_accepted_outcome law (R.Plan p) c arrivals t r s k e d = e ∙ sym d
one_accepted_outcome law (R.Run p options) c arrivals t r s k e d = e ∙ sym d
one_accepted_outcome law (R.Replay p file) c arrivals t r s k e d = one_replay law t c file r s k e d
one_accepted_outcome law (R.Simulate p width schedule steps) c arrivals t r s k e d = e ∙ sym d
one_accepted_outcome law (R.Make name rows start) c arrivals t r s k e d = e ∙ sym d

one_found : Laws → (request : Request) (bytes : List ℕ) (t : Told) (arrivals : Arrivals) (found : Result CheckedGraph Refusal) (r s : RequestOutcome) → IsAccepted bytes (file_names request) found
    → IsFoundOutcome request t arrivals found r → IsFoundOutcome request t arrivals found s → r ≡ s
one_found laws request bytes t arrivals (Err refusal) r s is e d = e ∙ sym d
one_found laws request bytes t arrivals (Ok c) r s is e d = one_accepted_outcome laws.record_one request c arrivals t r s (laws.kept bytes (file_names request) c is) e d

one_by_fault : Laws → (b : Bool) (request : Request) (program bytes : List ℕ) (t : Told) (arrivals : Arrivals) (r s : RequestOutcome)
    → OutcomeByFault b request program bytes t arrivals r → OutcomeByFault b request program bytes t arrivals s → r ≡ s
one_by_fault laws true request program bytes t arrivals r s e d = e ∙ sym d
one_by_fault laws false request program bytes t arrivals r s (x, is, e) (y, has, d) =
    one_found laws request bytes t arrivals x r s is e
    (subst (λ (found : Result CheckedGraph Refusal). IsFoundOutcome request t arrivals found s) (laws.one bytes (file_names request) y x has is) d)

one_by_file : Laws → (program : Option (List ℕ)) (request : Request) (t : Told) (arrivals : Arrivals) (r s : RequestOutcome)
    → OutcomeByFile program request t arrivals r → OutcomeByFile program request t arrivals s → r ≡ s
one_by_file laws None request t arrivals r s e d = e ∙ sym d
one_by_file laws (Some p) request t arrivals r s e d = one_by_fault laws (has_fault (t.script p)) request p (t.script p).bytes t arrivals r s e d

one_by_words : Laws → (b : Bool) (request : Request) (t : Told) (arrivals : Arrivals) (r s : RequestOutcome)
    → OutcomeByWords b request t arrivals r → OutcomeByWords b request t arrivals s → r ≡ s
one_by_words laws true request t arrivals r s e d = one_by_file laws (program_of request) request t arrivals r s e d
one_by_words laws false request t arrivals r s e d = e ∙ sym d

one_by : Laws → (request : Option Request) (t : Told) (arrivals : Arrivals) (r s : RequestOutcome) → OutcomeBy request t arrivals r → OutcomeBy request t arrivals s → r ≡ s
one_by laws None t arrivals r s e d = e ∙ sym d
one_by laws (Some request) t arrivals r s e d = one_by_words laws (is_built request) request t arrivals r s e d

pub one_outcome : OneAcceptedLaw → KeptLaw → OneRecordLaw → OneOutcomeLaw
one_outcome one kept law request t arrivals r s e d =
    one_by (record { one = one; kept = kept; record_one = law }) request t arrivals r s (by_questions t arrivals request r e) (by_questions t arrivals request s d)

-- the result of a program that is accepted with this graph
pub back_found : OneAcceptedLaw → (t : Told) (arrivals : Arrivals) (request : Request) (program : List ℕ) (c : CheckedGraph) (r : RequestOutcome) → is_built request ≡ true → program_of request ≡ Some program
    → IsFound t program (file_names request) (Ok c) → IsOutcome t arrivals (Some request) r → IsAcceptedOutcome request c arrivals t r
back_found one t arrivals request program c r built of found is =
    let by = subst (λ (b : Bool). OutcomeByWords b request t arrivals r) built (by_questions t arrivals (Some request) r is) in
    let at = subst (λ (o : Option (List ℕ)). OutcomeByFile o request t arrivals r) of by in
    let x = subst (λ (b : Bool). OutcomeByFault b request program (t.script program).bytes t arrivals r) found.read at in
    subst (λ (f : Result CheckedGraph Refusal). IsFoundOutcome request t arrivals f r) (one (t.script program).bytes (file_names request) x.0 (Ok c) x.1 found.accepted) x.2

-- ---- some outcome

module _ (some : SomeAcceptedLaw) (kept : KeptLaw) (read : SomeReadLaw) where
  some_accepted_outcome : (request : Request) (c : CheckedGraph) (arrivals : Arrivals) (t : Told) → Keeps c → (r : RequestOutcome) × IsAcceptedOutcome request c arrivals t r
  some_accepted_outcome (R.Check p) c arrivals t k = (Reports OfSize c, refl)
  some_accepted_outcome (R.Plan p) c arrivals t k = (Reports OfPlan c, refl)
  some_accepted_outcome (R.Run p options) c arrivals t k = (run_outcome c t arrivals, refl)
  some_accepted_outcome (R.Replay p file) c arrivals t k = some_replay read t c file k
  some_accepted_outcome (R.Simulate p width schedule steps) c arrivals t k = (NotBuilt, refl)
  some_accepted_outcome (R.Make name rows start) c arrivals t k = (NotBuilt, refl)

  some_found : (request : Request) (bytes : List ℕ) (t : Told) (arrivals : Arrivals) (found : Result CheckedGraph Refusal) → IsAccepted bytes (file_names request) found
      → (r : RequestOutcome) × IsFoundOutcome request t arrivals found r
  some_found request bytes t arrivals (Err refusal) is = (Refused refusal, refl)
  some_found request bytes t arrivals (Ok c) is = some_accepted_outcome request c arrivals t (kept bytes (file_names request) c is)

  some_by_fault : (b : Bool) (request : Request) (program bytes : List ℕ) (t : Told) (arrivals : Arrivals) → (r : RequestOutcome) × OutcomeByFault b request program bytes t arrivals r
  some_by_fault true request program bytes t arrivals = (Unreadable program, refl)
  some_by_fault false request program bytes t arrivals =
      let x = some bytes (file_names request) in
      let h = some_found request bytes t arrivals x.0 x.1 in
      (h.0, (x.0, x.1, h.1))

  some_by_file : (program : Option (List ℕ)) (request : Request) (t : Told) (arrivals : Arrivals) → (r : RequestOutcome) × OutcomeByFile program request t arrivals r
  some_by_file None request t arrivals = (NotBuilt, refl)
  some_by_file (Some p) request t arrivals = some_by_fault (has_fault (t.script p)) request p (t.script p).bytes t arrivals

  some_by_words : (b : Bool) (request : Request) (t : Told) (arrivals : Arrivals) → (r : RequestOutcome) × OutcomeByWords b request t arrivals r
  some_by_words true request t arrivals = some_by_file (program_of request) request t arrivals
  some_by_words false request t arrivals = (NotBuilt, refl)

  some_by : (request : Option Request) (t : Told) (arrivals : Arrivals) → (r : RequestOutcome) × OutcomeBy request t arrivals r
  some_by None t arrivals = (NoRequest, refl)
  some_by (Some request) t arrivals = some_by_words (is_built request) request t arrivals

  pub some_outcome : SomeOutcomeLaw
  some_outcome request t arrivals = let h = some_by request t arrivals in (h.0, from_questions t arrivals request h.0 h.1)

-- ---- a file that can't be read

-- the program of a request, where it can't be read
pub record ProgramUnread (t : Told) (request : Option Request) (file : List ℕ) : Type 0 where
  pub asked : Request
  pub is : request ≡ Some asked
  pub built : is_built asked ≡ true
  pub of : program_of asked ≡ Some file
  pub fault : has_fault (t.script file) ≡ true

-- the record of a replay
pub record RecordUnread (t : Told) (request : Option Request) (file : List ℕ) : Type 0 where
  pub program : List ℕ
  pub is : request ≡ Some (R.Replay program file)
  pub fault : has_record_fault (t.script file) ≡ true

abbrev pub IsUnreadable : Told → Option Request → List ℕ → Type 0
IsUnreadable t request file = ProgramUnread t request file ⊎ RecordUnread t request file

run_not_unread : (c : CheckedGraph) (t : Told) (arrivals : Arrivals) (file : List ℕ) → run_outcome c t arrivals ≡ Unreadable file → ⊥
run_not_unread c t arrivals file e = cc

under_unread : (t : Told) (c : CheckedGraph) (arrivals : Arrivals) (r : RequestOutcome) (file : List ℕ) → IsUnder t c arrivals r → r ≡ Unreadable file → ⊥
under_unread t c arrivals r file (partial n first) e = let bad : BadArrivals c (Some n) ≡ Unreadable file = e in cc
under_unread t c arrivals r file (whole all) e = run_not_unread c t arrivals file e

replay_unread : (t : Told) (c : CheckedGraph) (record_file : List ℕ) (r : RequestOutcome) (file : List ℕ) → IsReplay t c record_file r → r ≡ Unreadable file → (record_file ≡ file) × (has_record_fault (t.script record_file) ≡ true)
replay_unread t c record_file r file (unread fault) e = let is : Unreadable record_file ≡ Unreadable file = e in (cc, fault)
replay_unread t c record_file r file (misspelt quiet none) e = absurd (let bad : BadArrivals c None ≡ Unreadable file = e in cc)
replay_unread t c record_file r file (spelled a _ quiet has is) e = absurd (under_unread t c a r file is e)

unread_at : (t : Told) (arrivals : Arrivals) (request : Option Request) (r : RequestOutcome) (file : List ℕ) → IsOutcome t arrivals request r → r ≡ Unreadable file → IsUnreadable t request file
unread_at t arrivals request r file no_request e = absurd (let bad : NoRequest ≡ Unreadable file = e in cc)
unread_at t arrivals request r file (not_built asked other) e = absurd (let bad : NotBuilt ≡ Unreadable file = e in cc)
unread_at t arrivals request r file (unreadable asked program built of fault) e =
    let is : Unreadable program ≡ Unreadable file = e in
    let same : program ≡ file = cc in
    inl (subst (ProgramUnread t (Some asked)) same (record { asked = asked; is = refl; built = built; of = of; fault = fault }))
unread_at t arrivals request r file (refused asked program refusal built of found) e = absurd (let bad : Refused refusal ≡ Unreadable file = e in cc)
unread_at t arrivals request r file (checks program c found) e = absurd (let bad : Reports OfSize c ≡ Unreadable file = e in cc)
unread_at t arrivals request r file (plans program c found) e = absurd (let bad : Reports OfPlan c ≡ Unreadable file = e in cc)
unread_at t arrivals request r file (runs program options c plain found) e = absurd (run_not_unread c t arrivals file e)
unread_at t arrivals request r file (replays program record_file c _ found is) e =
    let both = replay_unread t c record_file r file is e in
    inr (subst (RecordUnread t (Some (R.Replay program record_file))) both.0 (record { program = program; is = refl; fault = both.1 }))

pub unread_by : (t : Told) (arrivals : Arrivals) (request : Option Request) (file : List ℕ) → IsOutcome t arrivals request (Unreadable file) → IsUnreadable t request file
unread_by t arrivals request file is = unread_at t arrivals request (Unreadable file) file is refl

-- ---- the operators of its program

abbrev PartsByFault : Bool → Request → List ℕ → List CheckedClauses → Type 0
PartsByFault true request bytes parts = parts ≡ []
PartsByFault false request bytes parts = (found : Result CheckedGraph Refusal) × IsAccepted bytes (file_names request) found × (parts ≡ parts_of found)

abbrev PartsByFile : Option (List ℕ) → Request → Told → List CheckedClauses → Type 0
PartsByFile None request t parts = parts ≡ []
PartsByFile (Some p) request t parts = PartsByFault (has_fault (t.script p)) request (t.script p).bytes parts

abbrev PartsBy : Option Request → Told → List CheckedClauses → Type 0
PartsBy None t parts = parts ≡ []
PartsBy (Some request) t parts = PartsByFile (program_of request) request t parts

no_program_by : (t : Told) (request : Option Request) → option_and_then program_of request ≡ None → PartsBy request t []
no_program_by t None none = refl
no_program_by t (Some request) none = subst (λ (p : Option (List ℕ)). PartsByFile p request t []) (sym none) refl

parts_by : (t : Told) (request : Option Request) (parts : List CheckedClauses) → ArePartsIn t request parts → PartsBy request t parts
parts_by t request parts (of_no_program asked none) = no_program_by t asked none
parts_by t request parts (of_unreadable asked program of fault) =
    subst (λ (p : Option (List ℕ)). PartsByFile p asked t []) (sym of) (subst (λ (b : Bool). PartsByFault b asked (t.script program).bytes []) (sym fault) refl)
parts_by t request parts (of_program asked program found of is) =
    subst (λ (p : Option (List ℕ)). PartsByFile p asked t (parts_of found)) (sym of)
    (subst (λ (b : Bool). PartsByFault b asked (t.script program).bytes (parts_of found)) (sym is.read) (found, is.accepted, refl))

pub parts_from : (t : Told) (request : Option Request) (parts : List CheckedClauses) → PartsBy request t parts → ArePartsIn t request parts
parts_from t None parts e = subst (ArePartsIn t None) (sym e) (of_no_program None refl)
parts_from t (Some request) parts h = by_file (program_of request) refl h
  where
    by_fault : (program : List ℕ) → program_of request ≡ Some program → (b : Bool) → has_fault (t.script program) ≡ b → PartsByFault b request (t.script program).bytes parts
        → ArePartsIn t (Some request) parts
    by_fault program of true fault e = subst (ArePartsIn t (Some request)) (sym e) (of_unreadable request program of fault)
    by_fault program of false quiet (found, accepted, e) =
        subst (ArePartsIn t (Some request)) (sym e) (of_program request program found of (record { read = quiet; accepted = accepted }))

    by_file : (o : Option (List ℕ)) → program_of request ≡ o → PartsByFile o request t parts → ArePartsIn t (Some request) parts
    by_file None none e = subst (ArePartsIn t (Some request)) (sym e) (of_no_program (Some request) none)
    by_file (Some program) of h = by_fault program of (has_fault (t.script program)) refl h

one_parts_by_fault : OneAcceptedLaw → (fault : Bool) (request : Request) (bytes : List ℕ) (x y : List CheckedClauses) → PartsByFault fault request bytes x → PartsByFault fault request bytes y → x ≡ y
one_parts_by_fault law true request bytes x y e d = e ∙ sym d
one_parts_by_fault law false request bytes x y (a, is, e) (b, has, d) = e ∙ ap parts_of (law bytes (file_names request) a b is has) ∙ sym d

one_parts_by_file : OneAcceptedLaw → (program : Option (List ℕ)) (request : Request) (t : Told) (x y : List CheckedClauses) → PartsByFile program request t x → PartsByFile program request t y → x ≡ y
one_parts_by_file law None request t x y e d = e ∙ sym d
one_parts_by_file law (Some p) request t x y e d = one_parts_by_fault law (has_fault (t.script p)) request (t.script p).bytes x y e d

one_parts_by : OneAcceptedLaw → (request : Option Request) (t : Told) (x y : List CheckedClauses) → PartsBy request t x → PartsBy request t y → x ≡ y
one_parts_by law None t x y e d = e ∙ sym d
one_parts_by law (Some request) t x y e d = one_parts_by_file law (program_of request) request t x y e d

pub one_parts : OneAcceptedLaw → OnePartsLaw
one_parts law request t x y e d = one_parts_by law request t x y (parts_by t request x e) (parts_by t request y d)

module _ (some : SomeAcceptedLaw) where
  some_parts_by_fault : (fault : Bool) (request : Request) (bytes : List ℕ) → (x : List CheckedClauses) × PartsByFault fault request bytes x
  some_parts_by_fault true request bytes = ([], refl)
  some_parts_by_fault false request bytes = let h = some bytes (file_names request) in (parts_of h.0, (h.0, h.1, refl))

  some_parts_by_file : (program : Option (List ℕ)) (request : Request) (t : Told) → (x : List CheckedClauses) × PartsByFile program request t x
  some_parts_by_file None request t = ([], refl)
  some_parts_by_file (Some p) request t = some_parts_by_fault (has_fault (t.script p)) request (t.script p).bytes

  some_parts_by : (request : Option Request) (t : Told) → (x : List CheckedClauses) × PartsBy request t x
  some_parts_by None t = ([], refl)
  some_parts_by (Some request) t = some_parts_by_file (program_of request) request t

  pub some_parts : SomePartsLaw
  some_parts request t = let h = some_parts_by request t in (h.0, parts_from t request h.0 h.1)
