-- Words for parts of the rules of OutputTyping, each for itself: places, and what is assigned and collected.
use Rattle.std.specs.Prelude.{ℕ, List, ◌∷◌, if◌then◌else◌, Ok, fold, map}
use Rattle.std.specs.Option.{option_map_or}
use Rattle.spl_tree.specs.declared.code.Code.{Code}
use Rattle.spl_tree.specs.declared.code.Slot.{Slot}
use Rattle.language_model.specs.declared.checked.CollectedAttribute.{CollectedAttribute}
use Rattle.language_model.specs.declared.checked.Collector.TheVariants as K
use Rattle.language_model.specs.declared.checked.CollectorCall.{CollectorCall}
use Rattle.language_model.specs.declared.scope.Scope.{Scope}
use Rattle.language_model.specs.Typing.{Found, Wanted, after, mismatch, same_types, typing}
use Rattle.language_model.specs.OutputTyping.{Assigned, Assigns, Fills, gathers, taken_over}

-- the places of those that are assigned so far
abbrev pub places : {A : Type 0} → List ℕ → Assigned A → List ℕ
places before xs = fold (λ known x. x.0 ∷ known) before xs

abbrev pub assigned_code : Scope → Assigns (Code Slot)
assigned_code scope wanted e = after (typing scope e wanted) (λ t. Ok t.code)

abbrev pub of_wanted : ℕ → Wanted → CollectorCall → Found CollectorCall
of_wanted at wanted g = option_map_or (λ t. if same_types g.kind t then Ok g else mismatch at) wanted (Ok g)

-- without an assignment: the group's last tuple's attribute
abbrev pub last_of : Scope → ℕ → Fills CollectorCall
last_of scope at a = after (taken_over scope at a) (λ code. Ok (gathers K.Last code a.kind))

abbrev pub collected : Assigned CollectorCall → List CollectedAttribute
collected xs = map (λ x. record { attribute = x.0; collector = x.1.collector; argument = x.1.argument }) xs
