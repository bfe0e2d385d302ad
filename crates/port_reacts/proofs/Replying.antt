-- Replies by ports: from what a body makes, and of what fits.
use Rattle.std.proofs.Common.{◌≡◌, ℕ, zero, suc, Bool, true, false, if◌then◌else◌, List, [], ◌∷◌, length, is_none, Some, refl, sym, ap, subst, ◌∙◌}
use Rattle.spl_value.specs.declared.item.Fault.{Fault}
use Rattle.spl_value.specs.declared.item.Item.{Item}
use Rattle.spl_value.specs.declared.item.Item.TheVariants as I
use Rattle.spl_value.specs.declared.value.Value.{Value}
use Rattle.language_model.specs.Outcomes.{Done, Faulted, Stuck}
use Rattle.stream_model.specs.declared.reply.Reply.{Reply}
use Rattle.stream_model.specs.declared.reply.Reply.TheVariants as R
use Rattle.stream_model.specs.Stream.{Event, is_fault}
use Rattle.stream_model.specs.Operators.{Operator}
use Rattle.stream_model.specs.Bodies.{Makes, on_each, output}
use Rattle.stream_model.specs.React.{Reaction, Gives, Faults, answer, answered, ended_by, makes_by}
use Rattle.stream_model.specs.parts.React.{port_body}
use Rattle.stream_model.specs.Replies.{AllFit, OutsFit, end_by}
use Rattle.stream_model.specs.Fitting.{FitsAt, MakesFit, NoneFaulted, is_given}
use Rattle.stream_model.proofs.SimpleFits.{both_fit, none_fit, one_fits}
use Rattle.port_reacts.specs.PortReplies.{MayTakeAt, RepliesAt, ends_at, gives_at, goes_on}
use Rattle.port_reacts.specs.Bodies.{EndsBy, RepliesTo, RepliesToItem}
use Rattle.spl_value.proofs.Bools.{and_parts}

-- ---- what a body makes

-- what is replied to an item by what the body makes of it is what it causes
pub replies_at : (op : Operator) (h : List Event) (port : ℕ) (x : Item) (r : Reply) → RepliesToItem op.number (length op.outs) (port_body op h port x) x r
    → RepliesAt op h port x r
replies_at op h port x r k = by_item x r k
  where
    by_fault : (f : Fault) (r : Reply) → EndsBy (length op.outs) f r → RepliesAt op h port (I.Bad f) r
    by_fault f (R.Out outs) k = absurd k
    by_fault f (R.Ended outs fault) k = (k.0, ap (λ g. Some (end_by g)) (sym k.1))
    by_fault f R.Memory k = tt

    by_answer : (x : Item) → is_fault x ≡ false → (a : Reaction) (r : Reply) → port_body op h port x ≡ a → RepliesTo op.number (length op.outs) a r → RepliesAt op h port x r
    by_answer x calm (Gives outs) (R.Out given) is k = (
      k ∙ sym (λ i. if calm i then on_each (length op.outs) x else answered op false (is i)),
      (λ i. if calm i then Some x else ended_by op false (is i)),
    )
    by_answer x calm (Gives outs) (R.Ended given fault) is k = absurd k
    by_answer x calm (Gives outs) R.Memory is k = tt
    by_answer x calm (Faults kind) (R.Out given) is k = absurd k
    by_answer x calm (Faults kind) (R.Ended given fault) is k = (
      k.0 ∙ sym (λ i. if calm i then on_each (length op.outs) x else answered op false (is i)),
      (λ i. if calm i then Some x else ended_by op false (is i)) ∙ ap (λ g. Some (end_by g)) (sym k.1),
    )
    by_answer x calm (Faults kind) R.Memory is k = tt

    by_item : (x : Item) (r : Reply) → RepliesToItem op.number (length op.outs) (port_body op h port x) x r → RepliesAt op h port x r
    by_item (I.Tuple vs) r k = by_answer (I.Tuple vs) refl (port_body op h port (I.Tuple vs)) r refl k
    by_item I.Window r k = by_answer I.Window refl (port_body op h port I.Window) r refl k
    by_item I.Final r k = by_answer I.Final refl (port_body op h port I.Final) r refl k
    by_item (I.Bad f) r k = by_fault f r k

-- where the clauses are these, the body makes of an item what these make of it
pub replies_by : (op : Operator) (h : List Event) (port : ℕ) (x : Item) (r : Reply) (a : Reaction) → port_body op h port x ≡ a → RepliesToItem op.number (length op.outs) a x r
    → RepliesAt op h port x r
replies_by op h port x r a is k = replies_at op h port x r (subst (λ b. RepliesToItem op.number (length op.outs) b x r) (sym is) k)

-- a tuple causes what the body makes of it
pub tuple_replies : (op : Operator) (h : List Event) (port : ℕ) (x : Item) (vs : List Value) (r : Reply) (a : Reaction) → x ≡ I.Tuple vs → port_body op h port (I.Tuple vs) ≡ a
    → RepliesTo op.number (length op.outs) a r → RepliesAt op h port x r
tuple_replies op h port x vs r a is makes k = subst (λ x. RepliesAt op h port x r) (sym is) (replies_by op h port (I.Tuple vs) r a makes k)

-- ---- what fits

-- an operator that goes on had no fault
pub none_faulted : (op : Operator) (h : List Event) → goes_on op h ≡ true → NoneFaulted op h
none_faulted op [] goes = tt
none_faulted op (e ∷ h) goes =
    let parts = and_parts (goes_on op h) (is_none (ends_at op h e.input e.item)) goes in
    (by (is_fault e.item) (port_body op h e.input e.item) parts.1, none_faulted op h parts.0)
  where
    by : (f : Bool) (a : Reaction) → is_none (if f then Some e.item else ended_by op false a) ≡ true → is_given a ≡ true
    by true a none = absurd (let no : false ≡ true = none in cc)
    by false (Gives outs) none = refl
    by false (Faults kind) none = absurd (let no : false ≡ true = none in cc)

fault_fits : (op : Operator) (f : Fault) (n : ℕ) → AllFit op (on_each n (I.Bad f))
fault_fits op f zero = none_fit op
fault_fits op f (suc n) = both_fit op (on_each n (I.Bad f)) (output n (I.Bad f) ∷ []) (fault_fits op f n) (one_fits op (output n (I.Bad f)) refl)

-- what an item causes fits
given_fits : (op : Operator) (h : List Event) (port : ℕ) (x : Item) → FitsAt (λ part. true) → MayTakeAt op h port x → AllFit op (gives_at op h port x)
given_fits op h port x law may =
    by x (makes_by op.clauses op h port x) (law op h port x refl may.fitting may.history (none_faulted op h may.goes_on) may.has)
  where
    made : (m : Makes) → MakesFit op m → AllFit op (answered op false (answer m))
    made (Done outs turns) k = k
    made (Faulted kind) k = fault_fits op (record { op = op.number; kind = kind; line = 0 }) (length op.outs)
    made Stuck k = absurd k

    by : (x : Item) (m : Makes) → MakesFit op m → AllFit op (if is_fault x then on_each (length op.outs) x else answered op false (answer m))
    by (I.Tuple vs) m k = made m k
    by I.Window m k = made m k
    by I.Final m k = made m k
    by (I.Bad f) m k = fault_fits op f (length op.outs)

-- so what is replied fits
pub outs_fit : (op : Operator) (h : List Event) (port : ℕ) (x : Item) (r : Reply) → FitsAt (λ part. true) → MayTakeAt op h port x → RepliesAt op h port x r → OutsFit op r
outs_fit op h port x (R.Out outs) law may k = subst (AllFit op) (sym k.0) (given_fits op h port x law may)
outs_fit op h port x (R.Ended outs fault) law may k = subst (AllFit op) (sym k.0) (given_fits op h port x law may)
outs_fit op h port x R.Memory law may k = tt
