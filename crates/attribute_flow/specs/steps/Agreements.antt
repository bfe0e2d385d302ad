-- What some tuples that are submitted have as the source of one attribute, as far as copies ask: there is none, all have one and the same, or
-- they don't.
use Rattle.std.specs.Prelude.{ℕ, ◌==◌, Bool, true, false, List, [], ◌∷◌, map, Option, None, Some, if◌then◌else◌}
use Rattle.spl_tree.specs.declared.body.Statement.{Statement}
use Rattle.spl_tree.specs.declared.body.Statement.TheFolds.{fold-Statement}
use Rattle.spl_tree.specs.declared.code.Code.{Code}
use Rattle.spl_tree.specs.declared.code.Slot.{Slot}
use Rattle.spl_value.specs.Flattened.{flattened}
use Rattle.stream_model.specs.Copies.{level_submits, submits_of, tuple_source}
use Rattle.attribute_flow.specs.declared.agreement.Agreement.{Agreement}
use Rattle.attribute_flow.specs.declared.agreement.Agreement.TheVariants as A

-- that of one tuple with this source
abbrev pub of_source : Option ℕ → Agreement
of_source None = A.Failed
of_source (Some b) = A.On b

-- of some tuples and of others
abbrev pub and_then : Agreement → Agreement → Agreement
and_then A.Unseen j = j
and_then A.Failed j = A.Failed
and_then (A.On b) A.Unseen = A.On b
and_then (A.On b) (A.On c) = if c == b then A.On b else A.Failed
and_then (A.On b) A.Failed = A.Failed

-- of the tuples of these expressions, for the attribute a
abbrev pub agreement : ℕ → List (Code Slot) → Agreement
agreement a [] = A.Unseen
agreement a (code ∷ codes) = and_then (of_source (tuple_source a code)) (agreement a codes)

-- the source that all have, where there is a tuple
abbrev pub agreed_on : Agreement → Option ℕ
agreed_on A.Unseen = None
agreed_on (A.On b) = Some b
agreed_on A.Failed = None

abbrev pub is_unseen : Agreement → Bool
is_unseen A.Unseen = true
is_unseen (A.On b) = false
is_unseen A.Failed = false

-- ---- submits

-- those of one statement, and those of the rows after conditions
abbrev pub statement_submits : Statement → List (Code Slot)
statement_submits = fold-Statement (List (Code Slot)) level_submits

abbrev pub arms_submits : List (Code Slot × List Statement) → List (Code Slot)
arms_submits arms = flattened (map (λ arm. submits_of arm.1) arms)
