-- The last stream in the row of those that a stream leads to.
use Rattle.std.specs.Prelude.{◌≡◌, ℕ, suc, ◌≤◌, false, List, Option, Some, None}
use Rattle.std.specs.Option.{option_to_list}
use Rattle.std.proofs.Common.{ap, sym, subst, ◌∙◌, arith}
use Rattle.spl_tree.specs.declared.graph.Graph.{Graph}
use Rattle.spl_tree.specs.declared.unit.Definition.{Definition}
use Rattle.language_model.specs.StreamTypes.{attributes_within, stream_attributes}
use Rattle.language_model.specs.Typing.{mismatch}
use Rattle.stream_rules.specs.declared.origins.Leads.{Leads}
use Rattle.stream_rules.specs.Circles.{flag_at}
use Rattle.stream_rules.specs.steps.Origins.{EndsAt, EndsHere, IsEnd, IsLed, lead_at}
use Rattle.stream_rules.proofs.StreamLeads.{step_on}

module _ (unit : List Definition) (g : Graph) (leads : Leads) (led : IsLed unit g leads) where
  step_to : (fuel at to : ℕ) → Some to ≡ lead_at leads.next.items at → flag_at leads.back.items to ≡ false → attributes_within (suc fuel) unit g at ≡ attributes_within fuel unit g to
  step_to fuel at to lead back =
      step_on unit g fuel at to (sym (led.steps.each at) ∙ ap option_to_list (sym lead)) (sym (led.back to) ∙ back)

  pub last_on : (stream left fewer at to : ℕ) → left ≡ suc fewer → Some to ≡ lead_at leads.next.items at → flag_at leads.back.items to ≡ false
      → stream_attributes unit g stream ≡ attributes_within (suc left) unit g at → stream_attributes unit g stream ≡ attributes_within (suc fewer) unit g to
  last_on stream left fewer at to less lead back before =
      before ∙ step_to left at to lead back ∙ ap (λ n. attributes_within n unit g to) less

  pub ends_nowhere : (at to : ℕ) → Some to ≡ lead_at leads.next.items at → flag_at leads.back.items to ≡ false → attributes_within 1 unit g at ≡ mismatch 0
  ends_nowhere at to lead back = step_to 0 at to lead back

pub ends_last : (unit : List Definition) (g : Graph) (leads : Leads) (stream left at : ℕ) (r : Option ℕ) → left ≤ 0
    → stream_attributes unit g stream ≡ attributes_within (suc left) unit g at → EndsHere unit g leads at r → EndsAt unit g leads stream r
ends_last unit g leads stream left at None none before h =
    let first : left ≡ 0 = omega arith in
    before ∙ ap (λ n. attributes_within (suc n) unit g at) first ∙ h
ends_last unit g leads stream left at (Some last) none before h =
    (left, before ∙ ap (λ a. attributes_within (suc left) unit g a) (sym h.0), subst (λ a. IsEnd leads a) (sym h.0) h.1)
