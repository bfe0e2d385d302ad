-- What calls answer that look for one more of a row and may find none, against the lines of the row.
use Rattle.std.specs.Prelude.{◌<◌, ℕ, length, List, [], ◌∷◌, ◌++◌, Option, Some, None, Ok, Err}
use Rattle.std.specs.Borrow.{Bor}
use Rattle.spl_tree.specs.declared.expression.Placed.{Placed}
use Rattle.spl_tree.specs.declared.token.Token.{Token}
use Rattle.spl_tree.specs.declared.unit.HandledEvent.{HandledEvent}
use Rattle.spl_tree.specs.declared.unit.Handler.{Handler}
use Rattle.spl_tree.specs.declared.unit.Invocation.{Invocation}
use Rattle.expr_parser.specs.declared.stop.Stop.TheVariants as S
use Rattle.expr_parser.specs.Rules.{done, call, RuleResult, Took, Refused, RunsTo, Reads}
use Rattle.statement_parser.specs.Gives.{Answered}
use Rattle.statement_parser.specs.Lines.{Handlers, HandlerOf, Graph, rule, R}

-- one more handler, after its first word at a place, and more of them, after others
abbrev pub more_handlers : ℕ → HandledEvent → List (Placed Handler) → R (List (Placed Handler))
more_handlers at event hs = call (HandlerOf at event) (λ h. call (Handlers (hs ++ h ∷ [])) done)

-- the first word of a handler comes first, with these tokens after it, or no handler does
abbrev pub EventFirst : List Token → Option (ℕ × HandledEvent × Bor (List Token)) → Type 0
EventFirst ts None = (hs : List (Placed Handler)) → Reads rule (Handlers hs) ts (Took hs ts)
EventFirst ts (Some found) =
    (length found.2.now < length ts)
    × ((hs : List (Placed Handler)) (o : RuleResult (List (Placed Handler))) → RunsTo rule (more_handlers found.0 found.1 hs) found.2.now o → Reads rule (Handlers hs) ts o)

-- one more invocation comes first, with these tokens after it, or no invocation does
abbrev pub InvocationFound : List Token → Option Invocation → List Token → Type 0
InvocationFound ts None rest = (xs : List Invocation) → Reads rule (Graph xs) ts (Took xs rest)
InvocationFound ts (Some x) rest =
    (length rest < length ts) × ((xs : List Invocation) (o : RuleResult (List Invocation)) → Reads rule (Graph (xs ++ x ∷ [])) rest o → Reads rule (Graph xs) ts o)

-- one more invocation or none, or one is begun that doesn't go on
abbrev pub InvocationsOn : List Token → Answered (Option Invocation) → Type 0
InvocationsOn ts (Ok found) = InvocationFound ts found.0 found.1.now
InvocationsOn ts (Err (S.At rest)) = (xs : List Invocation) → Reads rule (Graph xs) ts (Refused rest.now)
InvocationsOn ts (Err S.Memory) = Unit {0}
