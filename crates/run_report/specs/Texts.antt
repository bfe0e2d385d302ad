-- The lines that the program tells: why it ended, and what it checked.
use Rattle.std.specs.Prelude.{ℕ, Bool, true, false, List, [], ◌++◌, length, if◌then◌else◌, codes, Option, Some, None, option_and_then, slice_get}
use Rattle.std.specs.Fmt.{decimal}
use Rattle.std.specs.Option.{option_map_or}
use Rattle.spl_value.specs.declared.item.Fault.{Fault}
use Rattle.spl_value.specs.declared.item.FaultKind.{FaultKind}
use Rattle.spl_value.specs.declared.item.FaultKind.TheVariants as K
use Rattle.language_model.specs.declared.refusal.Refusal.{Refusal}
use Rattle.language_model.specs.CheckedGraph.{CheckedGraph}
use Rattle.language_model.specs.Refusals.{told_code}
use Rattle.run_report.specs.declared.cause.Cause.{Cause}
use Rattle.run_report.specs.declared.cause.Cause.TheVariants as W

-- ---- refusals

abbrev pub refusal_text : Refusal → List ℕ
refusal_text refusal =
    codes "refused " ++ (told_code refusal.code).0 ++ codes " at " ++ decimal refusal.at
    ++ option_map_or (λ name. codes " " ++ name) (if (told_code refusal.code).1 then refusal.name else None) []
    ++ codes "\n"

-- ---- faults

-- the kind of a fault, as it is told
abbrev pub kind_text : FaultKind → List ℕ
kind_text K.DivZero = codes "DivZero"
kind_text K.Index = codes "Index"
kind_text K.NoKey = codes "NoKey"
kind_text K.Turns = codes "Turns"
kind_text K.BadRow = codes "BadRow"
kind_text K.LongRow = codes "LongRow"
kind_text K.LongFile = codes "LongFile"
kind_text K.ReadFailed = codes "ReadFailed"

-- a source's fault has a line of its file
abbrev pub has_line : FaultKind → Bool
has_line K.DivZero = false
has_line K.Index = false
has_line K.NoKey = false
has_line K.Turns = false
has_line _ = true

-- the operator's name, the fault's kind, and the line of a source's fault
abbrev pub stopped_text : List ℕ → Fault → List ℕ
stopped_text name fault =
    codes "stopped " ++ name ++ codes " " ++ kind_text fault.kind
    ++ (if has_line fault.kind then codes " line " ++ decimal fault.line else []) ++ codes "\n"

-- ---- why the program ended

-- an operator's name; nothing where there is no such operator
abbrev pub operator_name : Option CheckedGraph → ℕ → List ℕ
operator_name c n = option_map_or (λ op. op.name) (option_and_then (λ c. slice_get c.graph.ops n) c) []

-- nothing is told where the request was carried out; the operator is the first for which an arrival record isn't whole
abbrev pub status_text : Option CheckedGraph → Cause → List ℕ
status_text c W.Done = []
status_text c W.BadWords = codes "bad words\n"
status_text c (W.Refused refusal) = refusal_text refusal
status_text c (W.Stopped fault) = stopped_text (operator_name c fault.op) fault
status_text c W.NotBuilt = codes "not built\n"
status_text c (W.OpenFailed name) = codes "cannot open " ++ name ++ codes "\n"
status_text c (W.ReadFailed name) = codes "cannot read " ++ name ++ codes "\n"
status_text c (W.WriteFailed name) = codes "cannot write " ++ name ++ codes "\n"
status_text c (W.BadArrivals None) = codes "bad arrivals\n"
status_text c (W.BadArrivals (Some op)) = codes "bad arrivals at " ++ operator_name c op ++ codes "\n"
status_text c W.NoMemory = codes "no memory\n"

-- ---- what was checked

abbrev pub check_text : CheckedGraph → List ℕ
check_text c =
    codes "ok " ++ decimal (length c.graph.ops) ++ codes " operators "
    ++ decimal (length c.graph.streams) ++ codes " streams\n"
