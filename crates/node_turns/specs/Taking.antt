-- An element takes something; where there is no memory for it, it is cut, and that is noted.
use Rattle.std.specs.Prelude.{◌≡◌, ◌⊎◌, ℕ}
use Rattle.spl_value.specs.declared.packet.Packet.{Packet}
use Rattle.network_model.specs.Networks.{Part}
use Rattle.network_model.specs.Receipts.{Receipt, Popped}
use Rattle.network_model.specs.States.{At, cut_off, lacks, takes}
use Rattle.node_turns.specs.declared.note.Note.{Note}
use Rattle.node_turns.specs.declared.note.Note.TheVariants as N
use Rattle.node_turns.specs.Calls.{Goes, IsFew, Tuples}
use Rattle.node_turns.specs.Notes.{is_improper, is_stopping, worse}

abbrev pub HasTaken : {E : Type 0} → (E → Part → At → Tuples → Type 0) → E → E → Note → Note → Receipt → Type 0
HasTaken stands e next note now r =
    ((now ≡ note) × Goes stands stands e next (λ part a. takes part a r))
    ⊎ ((now ≡ worse note N.Memory) × Goes stands stands e next (λ part a. lacks part a r))

-- a packet of an input from which fewer were taken than a link carries
abbrev pub TakesFew : {E : Type 0} → (E → Part → At → Tuples → Type 0) → E → E → Note → Note → ℕ → Packet → Type 0
TakesFew stands e next note now input packet =
    ((now ≡ note) × ((part : Part) (a : At) (poured : Tuples) → stands e part a poured → IsFew a input
    → stands next part (takes part a (Popped input packet)) poured))
    ⊎ ((now ≡ worse note N.Memory) × ((part : Part) (a : At) (poured : Tuples) → stands e part a poured → IsFew a input
    → stands next part (lacks part a (Popped input packet)) poured))

-- it is as it was, as far as a note says, or it was cut for want of memory
abbrev pub HasKept : {E : Type 0} → (E → Part → At → Tuples → Type 0) → E → E → Note → Note → Type 0
HasKept stands e next note now =
    ((next ≡ e) × (is_stopping now ≡ is_stopping note) × (is_improper now ≡ is_improper note))
    ⊎ ((now ≡ worse note N.Memory) × Goes stands stands e next (λ part a. cut_off part a))
