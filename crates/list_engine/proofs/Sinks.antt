-- What a sink gives its writer.
use Rattle.std.proofs.Common.{◌≡◌, ℕ, ◌+◌, ◌==◌, Bool, true, false, cond, if◌then◌else◌, List, [], ◌∷◌, ◌++◌, refl, sym, ap, subst, ◌∙◌, length, is_some, arith}
use Rattle.std.specs.List.{count_by, list_all}
use Rattle.std.proofs.lemmas.Bool.{and_from, and_parts}
use Rattle.std.proofs.lemmas.List.{nil_from_length}
use Rattle.std.proofs.lemmas.List.Folds.{list_all-append}
use Rattle.std.proofs.lemmas.List.Sums.{sum_by-cons}
use Rattle.spl_value.specs.declared.item.Item.{Item}
use Rattle.spl_value.specs.declared.item.Item.TheVariants as I
use Rattle.language_model.specs.declared.checked.CheckedClauses.TheVariants as A
use Rattle.language_model.specs.declared.outs.Output.{Output}
use Rattle.stream_model.specs.Bodies.{on_each}
use Rattle.stream_model.specs.parts.Bodies.{sink_body}
use Rattle.stream_model.specs.Operators.{Operator, ports}
use Rattle.stream_model.specs.parts.Operators.{port_at}
use Rattle.stream_model.specs.PortEvents.{ends_all, is_waiting, port_events}
use Rattle.stream_model.specs.React.{Reaction, Gives, Faults, answer, answered, body, ended, makes_by, own_fault, react}
use Rattle.stream_model.specs.Stages.{gives_all, next, on_port, out, start}
use Rattle.stream_model.specs.Stream.{Event, is_fault, is_tuple}
use Rattle.list_engine.specs.RunLaws.{SinkLaw}
use Rattle.list_engine.proofs.Ports.{sink_out}
use Rattle.stream_model.proofs.GraphParts.{operator_at}

abbrev all_tuples : List Output → Bool
all_tuples outs = list_all (λ o. is_tuple o.item) outs

port_tuples : (p : ℕ) (outs : List Output) → all_tuples outs ≡ true → list_all is_tuple (on_port p outs) ≡ true
port_tuples p [] h = refl
port_tuples p (o ∷ outs) h =
    let parts = and_parts (is_tuple o.item) (all_tuples outs) h in go (o.port == p) parts.0 (port_tuples p outs parts.1)
  where
    go : (b : Bool) → is_tuple o.item ≡ true → list_all is_tuple (on_port p outs) ≡ true → list_all is_tuple (cond b (o.item ∷ on_port p outs) (on_port p outs)) ≡ true
    go true here rest = and_from (is_tuple o.item) (list_all is_tuple (on_port p outs)) here rest
    go false here rest = rest

one_more : (x : Item) (xs : List Item) (n : ℕ) → n ≡ length xs → 1 + n ≡ length (x ∷ xs)
one_more x xs n e = omega (arith, e)

-- tuples alone are as many as the items
counted : (items : List Item) → list_all is_tuple items ≡ true → count_by is_tuple items ≡ length items
counted [] h = refl
counted (I.Tuple vs ∷ items) h = sum_by-cons (λ x. cond (is_tuple x) 1 0) (I.Tuple vs) items ∙ one_more (I.Tuple vs) items (count_by is_tuple items) (counted items h)
counted (I.Window ∷ items) h = absurd (let clash : false ≡ true = h in cc)
counted (I.Final ∷ items) h = absurd (let clash : false ≡ true = h in cc)
counted (I.Bad f ∷ items) h = absurd (let clash : false ≡ true = h in cc)

abbrev AnswersTuples : Reaction → Type 0
AnswersTuples (Gives outs) = all_tuples outs ≡ true
AnswersTuples (Faults kind) = Unit {0}

body_tuples : (x : Item) → AnswersTuples (answer (sink_body x))
body_tuples (I.Tuple vs) = refl
body_tuples I.Window = refl
body_tuples I.Final = refl
body_tuples (I.Bad f) = refl

both_tuples : (a b : List Output) → all_tuples a ≡ true → all_tuples b ≡ true → all_tuples (a ++ b) ≡ true
both_tuples a b h k = list_all-append (λ o. is_tuple o.item) a b ∙ and_from (all_tuples a) (all_tuples b) h k

module _ (op : Operator) (file : List ℕ) (kind : op.clauses ≡ A.FileSink file) (none : op.outs ≡ []) where
  body_is : (earlier : List Event) (e : Event) → body op earlier e ≡ answer (sink_body e.item)
  body_is earlier e = ap (λ part. answer (makes_by part op (port_events op earlier) (port_at (ports op) e.input) e.item)) kind

  no_port : (x : Item) → on_each (length op.outs) x ≡ []
  no_port x = ap (λ outs. on_each (length outs) x) none

  given_tuples : (last : Bool) (a : Reaction) → AnswersTuples a → all_tuples (answered op last a) ≡ true
  given_tuples last (Faults k) h = ap all_tuples (no_port (own_fault op k))
  given_tuples true (Gives outs) h = both_tuples outs (on_each (length op.outs) I.Final) h (ap all_tuples (no_port I.Final))
  given_tuples false (Gives outs) h = h

  react_tuples : (earlier : List Event) (e : Event) → all_tuples (react op earlier e) ≡ true
  react_tuples earlier e = go (is_fault e.item) (is_waiting op earlier e)
    where
      go : (f w : Bool) → all_tuples (if f then on_each (length op.outs) e.item else if w then [] else answered op (ends_all op earlier e) (body op earlier e)) ≡ true
      go true w = ap all_tuples (no_port e.item)
      go false true = refl
      go false false = given_tuples (ends_all op earlier e) (body op earlier e) (subst AnswersTuples (sym (body_is earlier e)) (body_tuples e.item))

  stage_tuples : (seen : List Event) (over : Bool) (events : List Event) → all_tuples (gives_all (record { op = op; seen = seen; over = over }) events) ≡ true
  stage_tuples seen over [] = refl
  stage_tuples seen true (e ∷ events) = stage_tuples seen true events
  stage_tuples seen false (e ∷ events) =
      both_tuples (react op seen e) (gives_all (next (record { op = op; seen = seen; over = false }) e) events) (react_tuples seen e)
      (stage_tuples (e ∷ seen) (is_some (ended op seen e)) events)

  out_tuples : (p : ℕ) (events : List Event) → list_all is_tuple (out op p events) ≡ true
  out_tuples p events = port_tuples p (gives_all (start op) events) (stage_tuples [] false events)

pub sink_law : SinkLaw
sink_law c g n op file k e at kind =
    let is = operator_at c g e n op at in
    let part : is.part ≡ A.FileSink file = ap (λ (x : Operator). x.clauses) (sym is.same) ∙ kind in
    let count : length op.outs ≡ 0 = ap (λ (x : Operator). length x.outs) is.same ∙ sink_out c n is.op is.part file k is.there is.has part in
    let none : op.outs ≡ [] = nil_from_length op.outs count in
    (none, λ events. counted (out op 0 events) (out_tuples op file kind none 0 events))
