-- An operator more behind the others.
use Rattle.std.proofs.Common.{List, [], ◌∷◌, ◌++◌, ◌≡◌, Option, None, Some, sym, ap, subst}
use Rattle.stream_model.specs.Operators.{Operator}
use Rattle.stream_model.specs.Stages.{Stage, start}
use Rattle.stream_model.specs.Stream.{Event}
use Rattle.operator_chains.specs.Standing.{AtFirst, AtStage, AtStages, is_over}
use Rattle.operator_chains.specs.declared.how.How.TheVariants as H
use Rattle.operator_chains.specs.declared.slot.Slot.{Slot}

module _ {R : Type 0} (spec : R → Operator) (stands : R → List Event → Type 0) where
  at_start : (slot : Slot R) (operator : R) → slot.operator ≡ operator → slot.how ≡ H.Live → stands operator [] → AtStage spec stands slot (start (spec operator))
  at_start slot operator is live new = record {
    operator = ap spec is;
    over = ap is_over live;
    how = live;
    state = λ q. subst (λ r. stands r []) (sym is) new;
  }

  stages_more : (slots : List (Slot R)) (ss : List Stage) (slot : Slot R) (s : Stage) → AtStages spec stands slots ss → AtStage spec stands slot s → AtStages spec stands (slots ++ slot ∷ []) (ss ++ s ∷ [])
  stages_more [] [] slot s at one = (one, tt)
  stages_more [] (t ∷ ss) slot s at one = absurd at
  stages_more (x ∷ slots) [] slot s at one = absurd at
  stages_more (x ∷ slots) (t ∷ ss) slot s at one = (at.0, stages_more slots ss slot s at.1 one)

  pub other_pushed : (first : Option (Slot R)) (others : List (Slot R)) (slot : Slot R) (operator : R) (x : Slot R) → first ≡ Some x → slot.operator ≡ operator → slot.how ≡ H.Live
      → (ss : List Stage) → AtFirst spec stands first others ss → stands operator [] → AtFirst spec stands first (others ++ slot ∷ []) (ss ++ start (spec operator) ∷ [])
  other_pushed None others slot operator y some is live ss at new = absurd (cc)
  other_pushed (Some x) others slot operator y some is live [] at new = absurd at
  other_pushed (Some x) others slot operator y some is live (s ∷ ss) at new = (at.0, stages_more others ss slot (start (spec operator)) at.1 (at_start slot operator is live new))
