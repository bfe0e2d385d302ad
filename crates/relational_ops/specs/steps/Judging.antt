-- What is made of a tuple by what is evaluated with it.
use Rattle.std.specs.Prelude.{◌≡◌, ⊤, ℕ, Bool, List}
use Rattle.spl_value.specs.declared.value.Value.{Value}
use Rattle.language_model.specs.Outcomes.{Outcome, Done, Faulted}
use Rattle.relational_ops.specs.declared.judging.Judged.{Judged}
use Rattle.relational_ops.specs.declared.judging.Judged.TheVariants as J
use Rattle.relational_ops.specs.declared.split.picking.Picked.{Picked}
use Rattle.relational_ops.specs.declared.split.picking.Picked.TheVariants as P

-- the tuple comes back with the value of the condition for it
abbrev pub JudgedAs : Outcome Bool → List Value → Judged → Type 0
JudgedAs outcome values (J.Held b back) = (turns : ℕ) × (outcome ≡ Done b turns) × (back ≡ values)
JudgedAs outcome values (J.Faulted kind) = outcome ≡ Faulted kind
JudgedAs outcome values J.Memory = ⊤

-- the tuple comes back with the value of the index for it
abbrev pub PickedAs : Outcome Value → List Value → Picked → Type 0
PickedAs outcome values (P.Index v back) = (turns : ℕ) × (outcome ≡ Done v turns) × (back ≡ values)
PickedAs outcome values (P.Faulted kind) = outcome ≡ Faulted kind
PickedAs outcome values P.Memory = ⊤
