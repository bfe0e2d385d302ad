-- The rule of an element: what it has pushed and what waits in its outbox are together what it owes for what it has taken.
use Rattle.std.specs.Prelude.{ℕ, ◌≤◌, true, false, List, [], ◌∷◌, ◌++◌, ◌≡◌}
use Rattle.stream_model.specs.Stream.{IsPrefix}
use Rattle.stream_model.specs.Sending.{on_output}
use Rattle.stream_model.specs.declared.outgoing.Outgoing.{Outgoing}
use Rattle.network_model.specs.Networks.{Part, inputs, outputs}
use Rattle.network_model.specs.Receipts.{Receipt, popped}
use Rattle.network_model.specs.Owed.{owed_for}
use Rattle.network_model.specs.PartLaws.{IsPart, Merges}
use Rattle.network_model.specs.States.{At, all_taken, cuts_from, cut_off, lacks, new_element, puts, takes}
use Rattle.network_model.specs.Legal.{IsDone}
use Rattle.network_model.specs.Joined.{IsInProgress, IsJoined, taken_at}

-- an element that is cut had pushed a front of what it owed, and owes since then `Cut` on each output on which it had
-- pushed neither `Close` nor `Cut`
pub record IsCutBehind (part : Part) (a : At) : Type 0 where
  pub front : List Outgoing
  pub is_front : Merges part a.kept → IsPrefix front (owed_for part a.kept)
  pub owes : a.pushed ++ a.outbox ≡ front ++ cuts_from 0 (outputs part) front

-- a merger keeps the rule while the packets that it has taken are in order
pub record KeepsRule (part : Part) (a : At) : Type 0 where
  pub whole : a.cut ≡ false → Merges part a.kept → a.pushed ++ a.outbox ≡ owed_for part a.kept
  pub off : a.cut ≡ true → IsCutBehind part a

-- ---- every step keeps it

abbrev pub BeginsLaw : Type 0
BeginsLaw = (part : Part) → KeepsRule part new_element

abbrev pub TakesLaw : Type 0
TakesLaw = (part : Part) (a : At) (taken : Receipt) → KeepsRule part a
    → KeepsRule part (takes part a taken) × KeepsRule part (lacks part a taken)

abbrev pub PutsLaw : Type 0
PutsLaw = (part : Part) (a : At) (s : Outgoing) (rest : List Outgoing) → a.outbox ≡ s ∷ rest
    → KeepsRule part a → KeepsRule part (puts a s)

abbrev pub CutsLaw : Type 0
CutsLaw = (part : Part) (a : At) → KeepsRule part a → KeepsRule part (cut_off part a)

-- ---- what it says of the lists of an element

-- what it took came at its inputs, and before it is cut it drops nothing
pub record TakesInRange (part : Part) (a : At) : Type 0 where
  pub in_range : (i : ℕ) → inputs part ≤ i → popped i (all_taken a) ≡ []
  pub none_dropped : a.cut ≡ false → a.dropped ≡ []

-- at any moment an element has pushed on each output a front of what it owes there for all that it took, but for `Cut`
abbrev pub MovesLaw : Type 0
MovesLaw = (part : Part) (a : At) → IsPart part → KeepsRule part a → TakesInRange part a
    → IsInProgress part (taken_at part a) (λ o. on_output o a.pushed)

-- one that is done has pushed all of it, or where it was cut a front of it with `Cut` behind it
abbrev pub DoneLaw : Type 0
DoneLaw = (part : Part) (a : At) → IsPart part → KeepsRule part a → TakesInRange part a → IsDone part a
    → IsJoined part (taken_at part a) (λ o. on_output o a.pushed) a.cut
