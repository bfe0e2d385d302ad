-- What a Union asks and replies.
use Rattle.std.proofs.Common.{◌≡◌, ℕ, true, List, length, slice_get, Option, Some, None, refl, ap, subst}
use Rattle.spl_value.specs.declared.item.Item.{Item}
use Rattle.spl_value.specs.declared.item.Item.TheVariants as I
use Rattle.spl_value.specs.declared.value.Value.{Value}
use Rattle.language_model.specs.declared.checked.CheckedClauses.TheVariants as A
use Rattle.language_model.specs.Outcomes.{Done, need}
use Rattle.stream_model.specs.declared.reply.Reply.{Reply}
use Rattle.stream_model.specs.Stream.{Event}
use Rattle.stream_model.specs.Operators.{Operator}
use Rattle.stream_model.specs.Bodies.{most_turns, on_first, union_body, values_at}
use Rattle.stream_model.specs.React.{answer, makes_by}
use Rattle.stream_model.specs.Replies.{OutsFit}
use Rattle.stream_model.specs.Fitting.{FitsAt, MakesFit}
use Rattle.port_reacts.specs.Bodies.{RepliesToItem}
use Rattle.port_reacts.specs.PortReplies.{MayTakeAt, RepliesAt}
use Rattle.port_reacts.proofs.Replying.{none_faulted, outs_fit, replies_by}
use Rattle.union_op.specs.Places.{PlacesThere}

-- what is made isn't stuck, so the values are there
makes_there : (op : Operator) (places : List (List ℕ)) (port : ℕ) (x : Item) → MakesFit op (union_body places port x) → PlacesThere places port x
makes_there op places port (I.Tuple vs) fit = by_port (slice_get places port) refl fit
  where
    by_values : (is : List ℕ) → slice_get places port ≡ Some is → (o : Option (List Value)) → values_at vs is ≡ o
        → MakesFit op (need o (λ us. Done (on_first (I.Tuple us)) most_turns)) → PlacesThere places port (I.Tuple vs)
    by_values is at None e fit = absurd fit
    by_values is at (Some us) e fit = (is, us, at, e)

    by_port : (o : Option (List ℕ)) → slice_get places port ≡ o
        → MakesFit op (need o (λ is. need (values_at vs is) (λ us. Done (on_first (I.Tuple us)) most_turns))) → PlacesThere places port (I.Tuple vs)
    by_port None at fit = absurd fit
    by_port (Some is) at fit = by_values is at (values_at vs is) refl fit
makes_there op places port I.Window fit = tt
makes_there op places port I.Final fit = tt
makes_there op places port (I.Bad f) fit = tt

-- an item that may come has values at the places of its port
pub places_there : (op : Operator) (places : List (List ℕ)) → op.clauses ≡ A.Union places → FitsAt (λ part. true) → (h : List Event) (port : ℕ) (x : Item) → MayTakeAt op h port x
    → PlacesThere places port x
places_there op places is law h port x may =
    makes_there op places port x
    (subst (λ part. MakesFit op (makes_by part op h port x)) is (law op h port x refl may.fitting may.history (none_faulted op h may.goes_on) may.has))

-- what is replied to it is what it causes
pub union_replies : (op : Operator) (places : List (List ℕ)) → op.clauses ≡ A.Union places → (h : List Event) (port : ℕ) (x : Item) (r : Reply)
    → RepliesToItem op.number (length op.outs) (answer (union_body places port x)) x r → RepliesAt op h port x r
union_replies op places is h port x r k = replies_by op h port x r (answer (union_body places port x)) (ap (λ part. answer (makes_by part op h port x)) is) k

pub union_fits : (op : Operator) (places : List (List ℕ)) → op.clauses ≡ A.Union places → FitsAt (λ part. true) → (h : List Event) (port : ℕ) (x : Item) (r : Reply) → MayTakeAt op h port x
    → RepliesToItem op.number (length op.outs) (answer (union_body places port x)) x r → OutsFit op r
union_fits op places is law h port x r may k = outs_fit op h port x r law may (union_replies op places is h port x r k)
