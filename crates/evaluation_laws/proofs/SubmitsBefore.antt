-- Statements do nothing with the submits before them.
use Rattle.std.specs.Prelude.{◌≡◌, List, [], ◌∷◌, slice_set}
use Rattle.std.proofs.Common.{refl, sym, ap, ◌∙◌, append_assoc}
use Rattle.spl_tree.specs.declared.code.Slot.{Slot}
use Rattle.language_model.specs.declared.flow.Flow.{Flow}
use Rattle.language_model.specs.declared.outs.Output.{Output}
use Rattle.language_model.specs.Statements.{State, Bodies, with_vars, declared, submitted}
use Rattle.language_model.proofs.parts.Statements.{ended}
use Rattle.language_model.specs.parts.Statements.{row_acts}
use Rattle.language_model.specs.Evaluation.{slot_value}
use Rattle.language_model.specs.Slots.{row_slots}
use Rattle.evaluation_laws.specs.SubmitsLaws.{in_front, SubmitsLaw}
use Rattle.evaluation_laws.proofs.Extending.{extends_with_none, at_turns, made_of}
use Rattle.evaluation_laws.proofs.LikeStatements.{Likeness, LedAlike, rows_follow}
use Rattle.evaluation_laws.proofs.NamedSlots.{all_of_any}

module _ (bodies : Bodies) (before : List Output) where
  abbrev Behind : State → State → Type 0
  Behind s u = u ≡ in_front before s

  abbrev AnySlot : Slot → Type 0
  AnySlot slot = Unit {0}

  likeness : Likeness 0 bodies bodies AnySlot Behind
  likeness = record {
    calls = λ i values turns. extends_with_none (bodies i values) turns;
    slot = λ slot named s u e. sym (ap (λ (u : State). slot_value u.env slot) e);
    marker = λ s u e. sym (ap (λ (u : State). u.env.punct) e);
    change = λ i named s u e v. ap (λ (u : State). with_vars u (slice_set u.env.vars i v)) e;
    declare = λ s u e v. ap (λ (u : State). declared u v) e;
    end = λ s u e t w f. ap (λ (u : State). ended u w) e ∙ ap (λ (w : State). ended s w) f;
    submit = λ s u e port item.
        ap (λ (u : State). submitted u port item) e
        ∙ ap (λ (outs : List Output). let t : State = record { env = s.env; submits = outs } in t) (append_assoc before s.submits (record { port = port; item = item } ∷ []));
  }

pub submits_law : SubmitsLaw
submits_law bodies row others s turns =
    let named = all_of_any (AnySlot bodies others) (λ slot. tt) (row_slots row) in
    made_of (LedAlike (Behind bodies others)) (λ w. (w.0, in_front others w.1)) (λ w v h. ap (λ (flow : Flow). (flow, v.1)) (sym h.0) ∙ ap (λ (u : State). (w.0, u)) h.1) _ _
    (at_turns (LedAlike (Behind bodies others)) (row_acts bodies row s turns) (row_acts bodies row (in_front others s)) turns
    (rows_follow 0 bodies bodies _ _ (likeness bodies others) row named s (in_front others s) refl turns))
