-- Operators have the state that their clauses say.
use Rattle.std.specs.Prelude.{◌≡◌, ℕ, [], ◌∷◌}
use Rattle.std.proofs.Common.{refl}
use Rattle.stream_model.specs.declared.plan.StateKind.{StateKind}
use Rattle.stream_model.specs.declared.plan.StateKind.TheVariants as K
use Rattle.stream_model.specs.Operators.{Operator}
use Rattle.stream_model.specs.StateKinds.{state_of}
use Rattle.stream_model.proofs.Keyed.{keyed_law}
use Rattle.stream_model.proofs.Stateless.{stateless_law}
use Rattle.state_analysis.specs.StateLaws.{HasState, StateLaw}

by_kind : (op : Operator) (s : ℕ) → op.ins ≡ (s ∷ []) ∷ [] → (kind : StateKind) → state_of op ≡ kind → HasState kind op
by_kind op s one K.Stateless is = stateless_law op s one is
by_kind op s one (K.Keyed places) is = keyed_law op s places one is
by_kind op s one K.Whole is = tt

pub holds : StateLaw
holds op s one = by_kind op s one (state_of op) refl
