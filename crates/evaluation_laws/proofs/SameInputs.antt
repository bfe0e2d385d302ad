-- Statements do the same where each slot that they name has the same value.
use Rattle.std.specs.Prelude.{◌≡◌, ℕ, List, [], Option, slice_get, slice_set}
use Rattle.std.specs.Option.{option_map, option_and_then}
use Rattle.std.proofs.Common.{refl, sym, ap, ◌∙◌}
use Rattle.spl_value.specs.declared.value.Value.{Value}
use Rattle.spl_value.specs.declared.value.Value.TheVariants as V
use Rattle.spl_tree.specs.declared.body.Statement.{Statement}
use Rattle.spl_tree.specs.declared.code.Marker.{Marker}
use Rattle.spl_tree.specs.declared.code.Slot.{Slot}
use Rattle.spl_tree.specs.declared.code.Slot.TheVariants as L
use Rattle.language_model.specs.declared.env.Env.{Env}
use Rattle.language_model.specs.Evaluation.{code_value, slot_value}
use Rattle.language_model.specs.Functions.{bodies_of}
use Rattle.language_model.specs.Slots.{row_slots}
use Rattle.evaluation_laws.specs.SlotsLaws.{InputsLaw, AgreementLaw}
use Rattle.language_model.specs.Statements.{State, Bodies, Left, with_vars, declared, submitted, body_leaves}
use Rattle.language_model.proofs.parts.Statements.{ended}
use Rattle.evaluation_laws.proofs.Extending.{Same, extends_with_none, at_turns, same_answers}
use Rattle.evaluation_laws.proofs.LikeCodes.{codes_follow}
use Rattle.evaluation_laws.proofs.LikeStatements.{Likeness, left_alike}
use Rattle.evaluation_laws.proofs.NamedSlots.{All}

pub agreement_law : {N : Type 0} → AgreementLaw N
agreement_law {N} calls code w v turns marker named =
    same_answers (code_value calls code w turns) (code_value calls code v turns)
    (at_turns Same (code_value calls code w turns) (code_value calls code v) turns
    (codes_follow 0 calls calls (λ i values turns. extends_with_none (calls i values) turns) (λ (n : N). w.value_of n ≡ v.value_of n) w v (λ n e. e) marker code named turns))

module _ (bodies : Bodies) (env other : Env) where
  abbrev Agreed : Slot → Type 0
  Agreed slot = slot_value env slot ≡ slot_value other slot

  abbrev with_inputs : State → State
  with_inputs s = record { env = record { inputs = other.inputs; vars = s.env.vars; punct = s.env.punct }; submits = s.submits }

  abbrev Alike : State → State → Type 0
  Alike s u = (s.env.inputs ≡ env.inputs) × (u ≡ with_inputs s)

  same_slot : (s : State) → s.env.inputs ≡ env.inputs → (slot : Slot) → Agreed slot → slot_value s.env slot ≡ slot_value (with_inputs s).env slot
  same_slot s e (L.Variable i) agreed = refl
  same_slot s e (L.Attribute port i) agreed = ap (λ (inputs : List (List Value)). option_and_then (λ vs. slice_get vs i) (slice_get inputs port)) e ∙ agreed
  same_slot s e (L.Port port) agreed = ap (λ (inputs : List (List Value)). option_map V.Tuple (slice_get inputs port)) e ∙ agreed

  likeness : Likeness 0 bodies bodies Agreed Alike
  likeness = record {
    calls = λ i values turns. extends_with_none (bodies i values) turns;
    slot = λ slot agreed s u a. same_slot s a.0 slot agreed ∙ sym (ap (λ (u : State). slot_value u.env slot) a.1);
    marker = λ s u a. sym (ap (λ (u : State). u.env.punct) a.1);
    change = λ i agreed s u a v. (a.0, ap (λ (u : State). with_vars u (slice_set u.env.vars i v)) a.1);
    declare = λ s u a v. (a.0, ap (λ (u : State). declared u v) a.1);
    end = λ s u a t w b. (b.0, ap (λ (u : State). ended u w) a.1 ∙ ap (λ (w : State). ended s w) b.1);
    submit = λ s u a port item. (a.0, ap (λ (u : State). submitted u port item) a.1);
  }

  bodies_leave : (row : List Statement) → All Agreed (row_slots row) → Alike (record { env = env; submits = [] }) (record { env = other; submits = [] }) → (turns : ℕ)
      → body_leaves bodies row env turns ≡ body_leaves bodies row other turns
  bodies_leave row named a turns =
      same_answers (body_leaves bodies row env turns) (body_leaves bodies row other turns)
      (at_turns Same (body_leaves bodies row env turns) (body_leaves bodies row other) turns
      (left_alike 0 bodies bodies Agreed Alike likeness Same
      (λ s u a v. sym (ap (λ (u : State). let left : Left = record { vars = u.env.vars; submits = u.submits; returned = v } in left) a.1))
      row named env other a turns))

pub inputs_law : InputsLaw
inputs_law functions row env other turns vars punct named =
    bodies_leave (bodies_of functions turns) env other row named (refl, ap (λ vs. start vs other.punct) (sym vars) ∙ ap (start env.vars) (sym punct)) turns where
      start : List Value → Option Marker → State
      start vs marker = record { env = record { inputs = other.inputs; vars = vs; punct = marker }; submits = [] }
