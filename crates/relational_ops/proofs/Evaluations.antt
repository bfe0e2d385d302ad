-- What is evaluated where the tuple of an event has come, and what an operator replies by it.
use Rattle.std.proofs.Common.{◌≡◌, ◌∙◌, ℕ, ℤ, Bool, true, false, List, [], ◌∷◌, ◌++◌, sym, ap, subst, Option, Some, if◌then◌else◌}
use Rattle.spl_value.specs.declared.item.FaultKind.{FaultKind}
use Rattle.spl_value.specs.declared.item.Item.TheVariants as I
use Rattle.spl_value.specs.declared.value.Value.{Value}
use Rattle.spl_value.specs.declared.value.Value.TheViews.{out-Value}
use Rattle.language_model.specs.declared.checked.Position.{Position}
use Rattle.language_model.specs.Evaluation.{world_of}
use Rattle.language_model.specs.Functions.{value}
use Rattle.stream_model.specs.Windows.{integer_of}
use Rattle.spl_tree.specs.declared.body.Function.{Function}
use Rattle.spl_tree.specs.declared.code.Code.{Code}
use Rattle.spl_tree.specs.declared.code.Slot.{Slot}
use Rattle.language_model.specs.declared.env.Env.{Env}
use Rattle.language_model.specs.Outcomes.{Outcome, Done, Faulted, followed}
use Rattle.stream_model.specs.declared.reply.Reply.{Reply}
use Rattle.stream_model.specs.Bodies.{Makes, at_tuple, filter_body, holds, made_where, most_turns, on_first, on_picked, passes, punctor_body, split_body, tuple_by, with_marker}
use Rattle.stream_model.specs.PathLaws.{fault_by}
use Rattle.stream_model.specs.React.{Gives, Faults, answer}
use Rattle.port_reacts.specs.Bodies.{EndsBy, GoesOn, RepliesTo}
use Rattle.port_reacts.specs.Evaluation.{idle}

-- ---- the tuple in the environment

-- the idle environment with the tuple in it
with_tuple : (env : Env) (inputs : List (List Value)) (vs : List Value) → env ≡ idle → inputs ≡ env.inputs ++ vs ∷ []
    → record { inputs = inputs; vars = env.vars; punct = env.punct } ≡ at_tuple vs
with_tuple env inputs vs empty pushed = λ i. record {
  inputs = (pushed ∙ ap (λ (e : Env). e.inputs ++ vs ∷ []) empty) i;
  vars = ap (λ (e : Env). e.vars) empty i;
  punct = ap (λ (e : Env). e.punct) empty i;
}

-- is where the clauses are evaluated, with the turns of an event
pub at_event : {A : Type 0} (f : Env → ℕ → A) (env : Env) (inputs : List (List Value)) (vs : List Value) → env ≡ idle → inputs ≡ env.inputs ++ vs ∷ []
    → f (at_tuple vs) most_turns ≡ f (record { inputs = inputs; vars = env.vars; punct = env.punct }) 1000000
unfolding most_turns
at_event f env inputs vs empty pushed = ap (λ e. f e 1000000) (sym (with_tuple env inputs vs empty pushed))

-- so what fits the tuple fits there
pub fits_there : (P : Env → Type 0) (env : Env) (inputs : List (List Value)) (vs : List Value) → env ≡ idle → inputs ≡ env.inputs ++ vs ∷ [] → P (at_tuple vs)
    → P (record { inputs = inputs; vars = env.vars; punct = env.punct })
fits_there P env inputs vs empty pushed fit = subst P (sym (with_tuple env inputs vs empty pushed)) fit

only_last : {A : Type 0} (xs : List A) (x y : A) → x ∷ [] ≡ xs ++ y ∷ [] → y ≡ x
only_last [] x y e = cc
only_last (z ∷ []) x y e = cc
only_last (z ∷ w ∷ xs) x y e = cc

-- what is taken out is what was put in
pub taken_out : (env : Env) (inputs rest : List (List Value)) (vs last : List Value) → env ≡ idle → inputs ≡ env.inputs ++ vs ∷ [] → inputs ≡ rest ++ last ∷ [] → last ≡ vs
taken_out env inputs rest vs last empty pushed popped =
    only_last rest vs last (sym (pushed ∙ ap (λ (e : Env). e.inputs ++ vs ∷ []) empty) ∙ popped)

-- ---- replies

-- what follows an evaluation is replied to by its answer
pub replies_done : {A : Type 0} (number ports : ℕ) (reply : Reply) (o : Outcome A) (f : A → ℕ → Makes) (x : A) (turns : ℕ) → o ≡ Done x turns
    → RepliesTo number ports (answer (f x turns)) reply → RepliesTo number ports (answer (followed o f)) reply
replies_done number ports reply o f x turns is h = subst (λ o. RepliesTo number ports (answer (followed o f)) reply) (sym is) h

-- and its fault ends the operator
pub replies_fault : {A : Type 0} (number ports : ℕ) (reply : Reply) (o : Outcome A) (f : A → ℕ → Makes) (kind : FaultKind) → o ≡ Faulted kind
    → EndsBy ports (fault_by number kind) reply → RepliesTo number ports (answer (followed o f)) reply
replies_fault number ports reply o f kind is h = subst (λ o. RepliesTo number ports (answer (followed o f)) reply) (sym is) h

-- ---- a tuple that is made

-- where the condition holds, the output is evaluated with the turns that it leaves
holding : (functions : List Function) (condition : Option (Code Slot)) (output : Code Slot) (env : Env) (b : Bool) (turns : ℕ) → passes functions condition env 1000000 ≡ Done b turns
    → made_where functions condition output env most_turns ≡ (if b then followed (tuple_by functions output env turns) (λ vs turns. Done (on_first (I.Tuple vs)) turns) else Done [] turns)
unfolding most_turns
holding functions condition output env b turns is =
    ap (λ o. followed o (λ b turns. if b then followed (tuple_by functions output env turns) (λ vs turns. Done (on_first (I.Tuple vs)) turns) else Done [] turns)) is

pub made_to : (functions : List Function) (condition : Option (Code Slot)) (output : Code Slot) (env : Env) (turns left : ℕ) (vs : List Value)
    → passes functions condition env 1000000 ≡ Done true turns → tuple_by functions output env turns ≡ Done vs left
    → answer (made_where functions condition output env most_turns) ≡ Gives (on_first (I.Tuple vs))
made_to functions condition output env turns left vs holds is =
    ap answer (holding functions condition output env true turns holds ∙ ap (λ o. followed o (λ vs turns. Done (on_first (I.Tuple vs)) turns)) is)

pub made_fault : (functions : List Function) (condition : Option (Code Slot)) (output : Code Slot) (env : Env) (turns : ℕ) (kind : FaultKind)
    → passes functions condition env 1000000 ≡ Done true turns → tuple_by functions output env turns ≡ Faulted kind
    → answer (made_where functions condition output env most_turns) ≡ Faults kind
made_fault functions condition output env turns kind holds is =
    ap answer (holding functions condition output env true turns holds ∙ ap (λ o. followed o (λ vs turns. Done (on_first (I.Tuple vs)) turns)) is)

pub made_none : (functions : List Function) (condition : Option (Code Slot)) (output : Code Slot) (env : Env) (turns : ℕ)
    → passes functions condition env 1000000 ≡ Done false turns → answer (made_where functions condition output env most_turns) ≡ Gives []
made_none functions condition output env turns holds = ap answer (holding functions condition output env false turns holds)

pub condition_fault : (functions : List Function) (condition : Option (Code Slot)) (output : Code Slot) (env : Env) (kind : FaultKind)
    → passes functions condition env 1000000 ≡ Faulted kind → answer (made_where functions condition output env most_turns) ≡ Faults kind
unfolding most_turns
condition_fault functions condition output env kind is =
    ap (λ o. answer (followed o (λ b turns. if b then followed (tuple_by functions output env turns) (λ vs turns. Done (on_first (I.Tuple vs)) turns) else Done [] turns))) is

-- ---- conditions

-- the truth of a Filter's condition decides
pub filter_held : (number ports : ℕ) (reply : Reply) (functions : List Function) (condition : Option (Code Slot)) (code : Code Slot) (vs : List Value) (b : Bool) (turns : ℕ)
    → condition ≡ Some code → holds functions code (at_tuple vs) most_turns ≡ Done b turns → GoesOn (if b then on_first (I.Tuple vs) else []) reply
    → RepliesTo number ports (answer (filter_body functions condition (I.Tuple vs))) reply
filter_held number ports reply functions condition code vs b turns some is given =
    replies_done number ports reply (passes functions condition (at_tuple vs) most_turns) (λ b turns. Done (if b then on_first (I.Tuple vs) else []) turns) b turns
    (ap (λ c. passes functions c (at_tuple vs) most_turns) some ∙ is) given

pub filter_fault : (number ports : ℕ) (reply : Reply) (functions : List Function) (condition : Option (Code Slot)) (code : Code Slot) (vs : List Value) (kind : FaultKind)
    → condition ≡ Some code → holds functions code (at_tuple vs) most_turns ≡ Faulted kind → EndsBy ports (fault_by number kind) reply
    → RepliesTo number ports (answer (filter_body functions condition (I.Tuple vs))) reply
filter_fault number ports reply functions condition code vs kind some is ends =
    replies_fault number ports reply (passes functions condition (at_tuple vs) most_turns) (λ b turns. Done (if b then on_first (I.Tuple vs) else []) turns) kind
    (ap (λ c. passes functions c (at_tuple vs) most_turns) some ∙ is) ends

pub punctor_fault : (number ports : ℕ) (functions : List Function) (condition : Code Slot) (position : Position) (vs : List Value) (kind : FaultKind) (reply : Reply)
    → holds functions condition (at_tuple vs) most_turns ≡ Faulted kind → EndsBy ports (fault_by number kind) reply
    → RepliesTo number ports (answer (punctor_body functions condition position (I.Tuple vs))) reply
punctor_fault number ports functions condition position vs kind reply is ends =
    replies_fault number ports reply (holds functions condition (at_tuple vs) most_turns)
    (λ b turns. Done (if b then with_marker position vs else on_first (I.Tuple vs)) turns) kind is ends

-- ---- indexes

-- the integer of the index picks the port
pub picked_replies : (number ports : ℕ) (functions : List Function) (index : Code Slot) (vs us : List Value) (v : Value) (turns : ℕ) (n : ℤ) (reply : Reply)
    → value functions index (world_of (at_tuple vs)) most_turns ≡ Done v turns → integer_of (out-Value v) ≡ n → us ≡ vs → GoesOn (on_picked ports n (I.Tuple us)) reply
    → RepliesTo number ports (answer (split_body functions index ports (I.Tuple vs))) reply
picked_replies number ports functions index vs us v turns n reply is integer back given =
    replies_done number ports reply (value functions index (world_of (at_tuple vs)) most_turns)
    (λ v turns. Done (on_picked ports (integer_of (out-Value v)) (I.Tuple vs)) turns) v turns is
    (subst (λ m. GoesOn (on_picked ports m (I.Tuple vs)) reply) (sym integer) (subst (λ ws. GoesOn (on_picked ports n (I.Tuple ws)) reply) back given))

pub picked_fault : (number ports : ℕ) (functions : List Function) (index : Code Slot) (vs : List Value) (kind : FaultKind) (reply : Reply)
    → value functions index (world_of (at_tuple vs)) most_turns ≡ Faulted kind → EndsBy ports (fault_by number kind) reply
    → RepliesTo number ports (answer (split_body functions index ports (I.Tuple vs))) reply
picked_fault number ports functions index vs kind reply is ends =
    replies_fault number ports reply (value functions index (world_of (at_tuple vs)) most_turns)
    (λ v turns. Done (on_picked ports (integer_of (out-Value v)) (I.Tuple vs)) turns) kind is ends
