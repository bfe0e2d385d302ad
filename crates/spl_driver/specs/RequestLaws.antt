-- The results of requests.
use Rattle.std.specs.Prelude.{◌≡◌, List, Option}
use Rattle.feed_pour.specs.Contents.{Told}
use Rattle.language_model.specs.declared.checked.CheckedClauses.{CheckedClauses}
use Rattle.stream_model.specs.declared.record.Arrivals.{Arrivals}
use Rattle.command_line.specs.declared.request.Request.{Request}
use Rattle.spl_driver.specs.Outcome.{RequestOutcome, IsOutcome, ArePartsIn}

-- a request has one result at most, under an arrival record
abbrev pub OneOutcomeLaw : Type 0
OneOutcomeLaw = (request : Option Request) (t : Told) (arrivals : Arrivals) (r s : RequestOutcome) → IsOutcome t arrivals request r → IsOutcome t arrivals request s → r ≡ s

-- and each has one
abbrev pub SomeOutcomeLaw : Type 0
SomeOutcomeLaw = (request : Option Request) (t : Told) (arrivals : Arrivals) → (r : RequestOutcome) × IsOutcome t arrivals request r

-- its program has the operators of one list at most
abbrev pub OnePartsLaw : Type 0
OnePartsLaw = (request : Option Request) (t : Told) (x y : List CheckedClauses) → ArePartsIn t request x → ArePartsIn t request y → x ≡ y

-- and it has those of one
abbrev pub SomePartsLaw : Type 0
SomePartsLaw = (request : Option Request) (t : Told) → (x : List CheckedClauses) × ArePartsIn t request x
