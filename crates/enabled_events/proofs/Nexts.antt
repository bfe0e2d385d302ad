-- What an element may do, by what it does next.
use Rattle.std.proofs.Common.{◌≡◌, ◌⊎◌, inl, inr, ℕ, ◌==◌, Bool, true, false, not, ◌&&◌, ◌||◌, List, [], ◌∷◌, Some, None, refl, sym, ap, ◌∙◌, cond}
use Rattle.std.specs.Prelude.{is_some}
use Rattle.stream_model.specs.Stream.{any_closes, is_closed, is_empty}
use Rattle.stream_model.specs.declared.outgoing.Outgoing.{Outgoing}
use Rattle.network_model.specs.Legal.{IsDone, wants_at}
use Rattle.network_model.specs.Networks.{Part, is_sourced}
use Rattle.network_model.specs.Packets.{has_last}
use Rattle.network_model.specs.Picking.{front_for, may_pop, may_read}
use Rattle.network_model.specs.Receipts.{popped, read_in}
use Rattle.network_model.specs.States.{At, all_taken}
use Rattle.elements.specs.Standing.{StillReads}

-- ---- what is read

abbrev Open : Part → At → Bool
Open part a = is_sourced part && (not a.cut && not (any_closes (read_in a.kept)))

closed_off : (part : Part) (a : At) → (StillReads part a → ⊥) → Open part a ≡ false
closed_off part a never = go (is_sourced part) a.cut (any_closes (read_in a.kept)) refl refl refl
  where
    go : (b c d : Bool) → is_sourced part ≡ b → a.cut ≡ c → any_closes (read_in a.kept) ≡ d → (b && (not c && not d)) ≡ false
    go true false false p q r = absurd (never (record { whole = q; sourced = p; unclosed = r }))
    go true false true p q r = refl
    go true true d p q r = refl
    go false c d p q r = refl

pub reads_now : (part : Part) (a : At) → a.outbox ≡ [] → StillReads part a → true ≡ may_read part a
reads_now part a idle still =
    sym (ap (λ z. is_empty z && Open part a) idle ∙ ap (λ b. b && (not a.cut && not (any_closes (read_in a.kept)))) still.sourced
    ∙ ap (λ b. not b && not (any_closes (read_in a.kept))) still.whole ∙ ap not still.unclosed)

pub reads_not : (part : Part) (a : At) → a.outbox ≡ [] → (StillReads part a → ⊥) → false ≡ may_read part a
reads_not part a idle never = sym (ap (λ z. is_empty z && Open part a) idle ∙ closed_off part a never)

pub reads_behind : (part : Part) (a : At) (s : Outgoing) (rest : List Outgoing) → a.outbox ≡ s ∷ rest → false ≡ may_read part a
reads_behind part a s rest e = sym (ap (λ z. is_empty z && Open part a) e)

pub done_reads : (part : Part) (a : At) → any_closes (read_in a.kept) ≡ is_closed (read_in a.kept) → IsDone part a → StillReads part a → ⊥
done_reads part a same done still = go (done.source_ends still.sourced)
  where
    go : ((a.cut ≡ true) ⊎ (is_closed (read_in a.kept) ≡ true)) → ⊥
    go (inl cut) = let clash : true ≡ false = sym cut ∙ still.whole in cc
    go (inr closed) = let clash : true ≡ false = sym closed ∙ sym same ∙ still.unclosed in cc

-- ---- what is popped

abbrev Wanted : Part → At → ℕ → Bool
Wanted part a input = not (has_last (popped input (all_taken a))) && (a.cut || wants_at part a input)

pub pops_idle : (part : Part) (a : At) (input : ℕ) (w : Bool) → a.outbox ≡ [] → w ≡ (not (has_last (popped input (all_taken a))) && (a.cut || wants_at part a input))
    → w ≡ may_pop part a input
pops_idle part a input w idle e = e ∙ sym (ap (λ z. is_empty z && Wanted part a input) idle)

pub pops_behind : (part : Part) (a : At) (input : ℕ) (s : Outgoing) (rest : List Outgoing) → a.outbox ≡ s ∷ rest → false ≡ may_pop part a input
pops_behind part a input s rest e = sym (ap (λ z. is_empty z && Wanted part a input) e)

-- ---- what is pushed

front_is : (s : Outgoing) (rest : List Outgoing) (o : ℕ) → is_some (front_for o (s ∷ rest)) ≡ (s.output == o)
front_is s rest o = go (s.output == o)
  where
    go : (b : Bool) → is_some (cond b (Some s.packet) None) ≡ b
    go true = refl
    go false = refl

pub pushes_first : (outbox : List Outgoing) (s : Outgoing) (rest : List Outgoing) (first o : ℕ) → outbox ≡ s ∷ rest → s.output ≡ first → (first == o) ≡ is_some (front_for o outbox)
pushes_first outbox s rest first o e f = sym (ap (λ z. is_some (front_for o z)) e ∙ front_is s rest o ∙ ap (λ k. k == o) f)

pub pushes_none : (outbox : List Outgoing) (o : ℕ) → outbox ≡ [] → false ≡ is_some (front_for o outbox)
pushes_none outbox o e = sym (ap (λ z. is_some (front_for o z)) e)
