-- What an operator replies by what its item makes, and what holds where it goes on.
use Rattle.std.proofs.Common.{◌≡◌, ◌&&◌, ℕ, Bool, true, false, List, ◌∷◌, is_none, refl, sym, ap, subst, ◌∙◌}
use Rattle.spl_value.specs.declared.item.Fault.{Fault}
use Rattle.spl_value.specs.declared.item.FaultKind.{FaultKind}
use Rattle.spl_value.specs.declared.item.Item.{Item}
use Rattle.language_model.specs.declared.outs.Output.{Output}
use Rattle.language_model.specs.Outcomes.{Done, Faulted}
use Rattle.stream_model.specs.declared.reply.Reply.{Reply}
use Rattle.stream_model.specs.declared.reply.Reply.TheVariants as R
use Rattle.stream_model.specs.Stream.{Event, came}
use Rattle.stream_model.specs.Operators.{Operator}
use Rattle.stream_model.specs.Bodies.{Makes}
use Rattle.stream_model.specs.PathLaws.{fault_by}
use Rattle.stream_model.specs.React.{Reaction, Gives, Faults, answer}
use Rattle.stream_model.specs.Replies.{IsTaken}
use Rattle.port_reacts.specs.Bodies.{EndsBy, RepliesTo}
use Rattle.port_reacts.specs.PortReplies.{RepliesAt, WhereOut, goes_on}

pub replies_done : (number ports : ℕ) (o : Makes) (outs : List Output) (turns : ℕ) → o ≡ Done outs turns → RepliesTo number ports (answer o) (R.Out outs)
replies_done number ports o outs turns e = subst (λ m. RepliesTo number ports (answer m) (R.Out outs)) (sym e) refl

pub replies_faulted : (number ports : ℕ) (o : Makes) (kind : FaultKind) (r : Reply) → o ≡ Faulted kind → EndsBy ports (fault_by number kind) r → RepliesTo number ports (answer o) r
replies_faulted number ports o kind r e k = subst (λ m. RepliesTo number ports (answer m) r) (sym e) k

and_false : (a : Bool) → (a && false) ≡ true → false ≡ true
and_false true e = e
and_false false e = e

-- an operator that goes on after a reply didn't end with it
pub where_out : (op : Operator) (h : List Event) (port : ℕ) (x : Item) (r : Reply) (P : Type 0) → RepliesAt op h port x r → IsTaken r → goes_on op (came port x ∷ h) ≡ true
    → WhereOut r P → P
where_out op h port x (R.Out outs) P replies taken goes k = k
where_out op h port x (R.Ended outs fault) P replies taken goes k =
    absurd (let no : false ≡ true = and_false (goes_on op h) (ap (λ o. goes_on op h && is_none o) (sym replies.1) ∙ goes) in cc)
where_out op h port x R.Memory P replies taken goes k = absurd taken

-- what two calls leave together
pub both_out : (reply : Reply) (P Q S : Type 0) → WhereOut reply P → WhereOut reply Q → (P → Q → S) → WhereOut reply S
both_out (R.Out outs) P Q S p q f = f p q
both_out (R.Ended outs fault) P Q S p q f = tt
both_out R.Memory P Q S p q f = tt

-- for lack of memory nothing is said
pub memory_replies : (number ports : ℕ) (a : Reaction) → RepliesTo number ports a R.Memory
memory_replies number ports (Gives outs) = tt
memory_replies number ports (Faults kind) = tt

pub ends_not_out : (ports : ℕ) (f : Fault) (r : Reply) (P : Type 0) → EndsBy ports f r → WhereOut r P
ends_not_out ports f (R.Out outs) P k = absurd k
ends_not_out ports f (R.Ended outs fault) P k = tt
ends_not_out ports f R.Memory P k = tt

-- where nothing goes on, whatever is said of that holds
pub not_out : (r : Reply) (P : Type 0) → WhereOut r ⊥ → WhereOut r P
not_out (R.Out outs) P k = absurd k
not_out (R.Ended outs fault) P k = tt
not_out R.Memory P k = tt
