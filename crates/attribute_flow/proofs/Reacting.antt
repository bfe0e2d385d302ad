-- What holds of all that a body makes holds of all that its operator gives.
use Rattle.std.specs.Prelude.{◌≡◌, ℕ, zero, suc, Bool, true, false, List, [], ◌∷◌, length, Some, slice_get}
use Rattle.std.specs.List.{AllByRecursion}
use Rattle.std.proofs.Common.{refl, subst}
use Rattle.spl_value.specs.declared.item.Item.{Item}
use Rattle.spl_value.specs.declared.item.Item.TheVariants as I
use Rattle.spl_value.specs.declared.value.Value.{Value}
use Rattle.spl_tree.specs.declared.body.Function.{Function}
use Rattle.language_model.specs.declared.checked.CheckedClauses.{CheckedClauses}
use Rattle.language_model.specs.declared.checked.PortTypes.{PortTypes}
use Rattle.language_model.specs.declared.outs.Output.{Output}
use Rattle.language_model.specs.Outcomes.{Done, Faulted, Stuck}
use Rattle.language_model.proofs.Returning.{Only}
use Rattle.stream_model.specs.Stream.{Event, came, is_tuple}
use Rattle.stream_model.specs.Operators.{Operator}
use Rattle.stream_model.specs.PortEvents.{port_events}
use Rattle.stream_model.specs.Bodies.{Makes, on_each, output}
use Rattle.stream_model.specs.React.{answer, answered, makes_by, react}
use Rattle.stream_model.specs.Regions.{IsCopy}
use Rattle.stream_model.proofs.ContentMembers.{all_append}
use Rattle.stream_model.proofs.StageLaws.{one_in}

-- a fact of what is given that holds of all but tuples
abbrev pub OfMarkers : (Output → Type 0) → Type 0
OfMarkers P = (p : ℕ) (x : Item) → is_tuple x ≡ false → P (output p x)

abbrev pub AllMade : (Output → Type 0) → Makes → Type 0
AllMade P o = Only (AllByRecursion P) o

module _ (P : Output → Type 0) (markers : OfMarkers P) where
  pub each_has : (n : ℕ) (x : Item) → is_tuple x ≡ false → AllByRecursion P (on_each n x)
  each_has zero x e = tt
  each_has (suc n) x e = all_append P (on_each n x) (output n x ∷ []) (each_has n x e) (markers n x e, tt)

  answered_has : (op : Operator) (last : Bool) (o : Makes) → AllMade P o → AllByRecursion P (answered op last (answer o))
  answered_has op true (Done outs turns) h = all_append P outs (on_each (length op.outs) I.Final) h (each_has (length op.outs) I.Final refl)
  answered_has op false (Done outs turns) h = h
  answered_has op last (Faulted kind) h = each_has (length op.outs) _ refl
  answered_has op last Stuck h = each_has (length op.outs) _ refl

  -- after a history, at one event of an operator with one connection
  reacts : (n : ℕ) (part : CheckedClauses) (functions : List Function) (types : PortTypes) (s : ℕ) (outs : List ℕ) (h : List Event) (x : Item)
      → AllMade P (makes_by part (one_in n part functions types s outs) (port_events (one_in n part functions types s outs) h) 0 x)
      → AllByRecursion P (react (one_in n part functions types s outs) h (came 0 x))
  reacts n part functions types s outs h (I.Tuple vs) made = answered_has (one_in n part functions types s outs) false _ made
  reacts n part functions types s outs h I.Window made = answered_has (one_in n part functions types s outs) false _ made
  reacts n part functions types s outs h I.Final made = answered_has (one_in n part functions types s outs) true _ made
  reacts n part functions types s outs h (I.Bad f) made = each_has (length outs) (I.Bad f) refl

-- ---- copies

-- what is given has as its attribute a the attribute b of this tuple, where it is a tuple
abbrev pub Copied : ℕ → ℕ → List Value → Output → Type 0
Copied a b vs o = (us : List Value) → o.item ≡ I.Tuple us → slice_get us a ≡ slice_get vs b

-- and is no tuple
abbrev pub IsNoTuple : Output → Type 0
IsNoTuple o = is_tuple o.item ≡ false

pub copied_markers : (a b : ℕ) (vs : List Value) → OfMarkers (Copied a b vs)
copied_markers a b vs p (I.Tuple ts) e us is = absurd cc
copied_markers a b vs p I.Window e us is = absurd cc
copied_markers a b vs p I.Final e us is = absurd cc
copied_markers a b vs p (I.Bad f) e us is = absurd cc

-- what an operator makes of a tuple copies, and of others it makes no tuple
pub record Copies (a b : ℕ) (makes : Item → Makes) : Type 0 where
  pub tuples : (vs : List Value) → AllMade (Copied a b vs) (makes (I.Tuple vs))
  pub others : (x : Item) → is_tuple x ≡ false → AllMade IsNoTuple (makes x)

pub one_of : (P : Output → Type 0) (os : List Output) (i : ℕ) (o : Output) → AllByRecursion P os → slice_get os i ≡ Some o → P o
one_of P [] i o h e = absurd cc
one_of P (p ∷ os) zero o h e = let same : p ≡ o = cc in subst P same h.0
one_of P (p ∷ os) (suc i) o h e = one_of P os i o h.1 e

pub is_copy : (n : ℕ) (part : CheckedClauses) (functions : List Function) (types : PortTypes) (s : ℕ) (outs : List ℕ) (a b : ℕ)
    → ((h : List Event) → Copies a b (makes_by part (one_in n part functions types s outs) (port_events (one_in n part functions types s outs) h) 0))
    → IsCopy (one_in n part functions types s outs) a b
is_copy n part functions types s outs a b made = record {
  tuples = λ h vs us i o live at tuple.
      one_of (Copied a b vs) (react (one_in n part functions types s outs) h (came 0 (I.Tuple vs))) i o
      (reacts (Copied a b vs) (copied_markers a b vs) n part functions types s outs h (I.Tuple vs) ((made h).tuples vs)) at us tuple;
  others = λ h x i o e live at.
      one_of IsNoTuple (react (one_in n part functions types s outs) h (came 0 x)) i o
      (reacts IsNoTuple (λ p x e. e) n part functions types s outs h x ((made h).others x e)) at;
}
