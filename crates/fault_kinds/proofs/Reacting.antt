-- The faults that operators cause by themselves.
use Rattle.std.proofs.Common.{◌≡◌, ℕ, zero, suc, Bool, true, false, if◌then◌else◌, List, [], ◌∷◌, ◌++◌, refl, sym, ap, subst, ◌∙◌, length, slice_get, Some, None}
use Rattle.std.specs.List.{list_any}
use Rattle.std.proofs.lemmas.Bool.{or_parts}
use Rattle.spl_value.specs.declared.item.Fault.{Fault}
use Rattle.spl_value.specs.declared.item.FaultKind.{FaultKind}
use Rattle.spl_value.specs.declared.item.Item.{Item}
use Rattle.spl_value.specs.declared.item.Item.TheVariants as I
use Rattle.language_model.specs.declared.outs.Output.{Output}
use Rattle.language_model.specs.Outcomes.{Done, Faulted, Stuck}
use Rattle.stream_model.specs.Stream.{Event, is_fault}
use Rattle.spl_value.specs.Numbered.{closes}
use Rattle.stream_model.specs.Operators.{Operator, ports}
use Rattle.stream_model.specs.parts.Operators.{port_at}
use Rattle.stream_model.specs.PortEvents.{ends_all, is_waiting, port_events}
use Rattle.stream_model.specs.Bodies.{Makes, on_each, output}
use Rattle.stream_model.specs.React.{Reaction, Gives, Faults, answer, answered, body, ended, ended_by, makes_by, own_fault, react}
use Rattle.stream_model.specs.Fitting.{MakesFit, ReactsFit}
use Rattle.stream_model.proofs.AggregateFits.{aggregate_fits}
use Rattle.port_reacts.proofs.CustomFits.{custom_fits}
use Rattle.stream_model.proofs.FittingEvents.{of_kinds, reacts_fit}
use Rattle.stream_model.proofs.JoinFits.{join_fits}
use Rattle.stream_model.proofs.KindBodies.{body_law}
use Rattle.stream_model.proofs.SimpleFits.{simple_fits}
use Rattle.fault_kinds.specs.Kinds.{is_evaluation_kind}
use Rattle.fault_kinds.specs.OperatorKinds.{MakesKindsLaw, MayCome, BodyKindsLaw, IsOwn, ReactKindsLaw}
use Rattle.fault_kinds.proofs.Outcomes.{Own, own_law}
use Rattle.fault_kinds.proofs.Bodies.{own_makes}

pub makes_kinds : MakesKindsLaw
makes_kinds part op h port x = own_law (makes_by part op h port x) (own_makes part op h port x)

-- ---- the body

pub fitting : ReactsFit
fitting = reacts_fit (of_kinds simple_fits custom_fits aggregate_fits join_fits)

-- the kind of a fault of what fits
answer_kind : (op : Operator) (m : Makes) (kind : FaultKind) → Own m → MakesFit op m → answer m ≡ Faults kind → is_evaluation_kind kind ≡ true
answer_kind op (Done outs turns) kind h fit e = absurd cc
answer_kind op (Faulted own) kind h fit e = let same : own ≡ kind = cc in subst (λ k. is_evaluation_kind k ≡ true) same h
answer_kind op Stuck kind h fit e = absurd fit

pub body_kinds : BodyKindsLaw
body_kinds op h e kind may q =
    answer_kind op (makes_by op.clauses op (port_events op h) (port_at (ports op) e.input) e.item) kind
    (own_makes op.clauses op (port_events op h) (port_at (ports op) e.input) e.item) (fitting op h e may.clauses may.earlier may.live may.event).0 q

-- ---- what is caused

-- each fault of the outputs is the operator's own
abbrev OwnFaults : Operator → List Output → Type 0
OwnFaults op outs = (f : Fault) (i : ℕ) (o : Output) → slice_get outs i ≡ Some o → o.item ≡ I.Bad f → IsOwn op f

none_there : (op : Operator) → OwnFaults op []
none_there op f i o at q = absurd cc

one_more : (op : Operator) (x : Output) (outs : List Output) → ((f : Fault) → x.item ≡ I.Bad f → IsOwn op f) → OwnFaults op outs → OwnFaults op (x ∷ outs)
one_more op x outs h k f zero o at q = h f (let same : x ≡ o = cc in ap (λ (y : Output). y.item) same ∙ q)
one_more op x outs h k f (suc i) o at q = k f i o at q

both_own : (op : Operator) (a b : List Output) → OwnFaults op a → OwnFaults op b → OwnFaults op (a ++ b)
both_own op [] b h k = k
both_own op (x ∷ a) b h k = one_more op x (a ++ b) (λ f q. h f 0 x refl q) (both_own op a b (λ f i o at q. h f (suc i) o at q) k)

each_own : (op : Operator) (n : ℕ) (x : Item) → ((f : Fault) → x ≡ I.Bad f → IsOwn op f) → OwnFaults op (on_each n x)
each_own op zero x h = none_there op
each_own op (suc n) x h = both_own op (on_each n x) (output n x ∷ []) (each_own op n x h) (one_more op (output n x) [] h (none_there op))

open_item : (op : Operator) (x : Item) (f : Fault) → closes x ≡ false → x ≡ I.Bad f → IsOwn op f
open_item op x f h q = absurd (let clash : true ≡ false = sym (ap closes q) ∙ h in cc)

open_outs : (op : Operator) (outs : List Output) → list_any (λ o. closes o.item) outs ≡ false → OwnFaults op outs
open_outs op [] h = none_there op
open_outs op (o ∷ outs) h =
    let parts = or_parts (closes o.item) (list_any (λ x. closes x.item) outs) h in
    one_more op o outs (λ f q. open_item op o.item f parts.0 q) (open_outs op outs parts.1)

final_own : (op : Operator) (f : Fault) → I.Final ≡ I.Bad f → IsOwn op f
final_own op f q = absurd cc

fault_own : (op : Operator) (kind : FaultKind) → is_evaluation_kind kind ≡ true → (f : Fault) → own_fault op kind ≡ I.Bad f → IsOwn op f
fault_own op kind h f q =
    let own : Fault = record { op = op.number; kind = kind; line = 0 } in
    let same : own ≡ f = cc in
    subst (IsOwn op) same (record { number = refl; kind = h; line = refl })

module _ (op : Operator) (h : List Event) (e : Event) (may : MayCome op h e) where
  answered_own : (last : Bool) → OwnFaults op (answered op last (body op h e))
  answered_own last = go last (body op h e) refl
    where
      go : (l : Bool) (a : Reaction) → body op h e ≡ a → OwnFaults op (answered op l a)
      go l (Faults kind) q = each_own op (length op.outs) (own_fault op kind) (fault_own op kind (body_kinds op h e kind may q))
      go true (Gives outs) q =
          both_own op outs (on_each (length op.outs) I.Final) (open_outs op outs (body_law op h e outs q)) (each_own op (length op.outs) I.Final (final_own op))
      go false (Gives outs) q = open_outs op outs (body_law op h e outs q)

  react_own : is_fault e.item ≡ false → OwnFaults op (react op h e)
  react_own none = go (is_fault e.item) (is_waiting op h e) none
    where
      go : (f w : Bool) → f ≡ false → OwnFaults op (if f then on_each (length op.outs) e.item else if w then [] else answered op (ends_all op h e) (body op h e))
      go true w q = absurd (let clash : true ≡ false = q in cc)
      go false true q = none_there op
      go false false q = answered_own (ends_all op h e)

  end_own : is_fault e.item ≡ false → (f : Fault) → ended op h e ≡ Some (I.Bad f) → IsOwn op f
  end_own none f = go (is_fault e.item) (is_waiting op h e) (ends_all op h e) (body op h e) none refl
    where
      go : (x w last : Bool) (a : Reaction) → x ≡ false → body op h e ≡ a → (if x then Some e.item else if w then None else ended_by op last a) ≡ Some (I.Bad f) → IsOwn op f
      go true w last a q same r = absurd (let clash : true ≡ false = q in cc)
      go false true last a q same r = absurd cc
      go false false last (Faults kind) q same r =
          let is : own_fault op kind ≡ I.Bad f = cc in fault_own op kind (body_kinds op h e kind may same) f is
      go false false true (Gives outs) q same r = absurd cc
      go false false false (Gives outs) q same r = absurd cc

pub react_kinds : ReactKindsLaw
react_kinds op h e f may none = (λ i o at q. react_own op h e may none f i o at q, end_own op h e may none f)
