-- Operators with one connection: which events may come, and that it stays so.
use Rattle.std.proofs.Common.{ℕ, ◌<◌, ◌==◌, ◌&&◌, Bool, true, false, cond, List, [], ◌∷◌, ◌≡◌, map, length, refl, sym, ap, ◌∙◌, subst, is_some, is_none, Option, Some, None, arith}
use Rattle.std.proofs.lemmas.Bool.{cond-false}
use Rattle.spl_value.specs.declared.item.Item.{Item}
use Rattle.spl_value.specs.declared.item.Item.TheVariants as I
use Rattle.spl_tree.specs.declared.body.Function.{Function}
use Rattle.language_model.specs.declared.checked.CheckedClauses.{CheckedClauses}
use Rattle.language_model.specs.declared.checked.PortTypes.{PortTypes}
use Rattle.language_model.specs.declared.outs.Output.{Output}
use Rattle.language_model.specs.StreamTypes.{Attributes}
use Rattle.stream_model.specs.Inputs.{came_on}
use Rattle.stream_model.specs.Operators.{Operator, ports, input_attributes}
use Rattle.stream_model.specs.parts.Operators.{port_at}
use Rattle.stream_model.specs.React.{body, ended}
use Rattle.stream_model.specs.Replies.{ItemHas, given_attributes, is_live}
use Rattle.stream_model.specs.Stages.{Stage, gives_all, next, on_port, stage_after}
use Rattle.stream_model.specs.Stream.{Event, came, any_closes, TuplesFit}
use Rattle.spl_value.specs.Numbered.{closes}
use Rattle.stream_model.proofs.Closings.{ended_by-last}
use Rattle.stream_model.proofs.StageLaws.{one_in, one_in-parts}
use Rattle.stream_model.specs.Chains.{onward, stages_passed}
use Rattle.operator_chains.specs.Standing.{Enters, IsInner, Joined, MayCome}

-- ---- an item that closes ends it

ended_one : (n s : ℕ) (clauses : CheckedClauses) (functions : List Function) (types : PortTypes) (outs : List ℕ) (seen : List Event) (x : Item) → closes x ≡ true
    → is_some (ended (one_in n clauses functions types s outs) seen (came 0 x)) ≡ true
ended_one n s clauses functions types outs seen (I.Tuple vs) h = cc
ended_one n s clauses functions types outs seen I.Window h = cc
ended_one n s clauses functions types outs seen I.Final h = ended_by-last (one_in n clauses functions types s outs) (body (one_in n clauses functions types s outs) seen (came 0 I.Final))
ended_one n s clauses functions types outs seen (I.Bad f) h = refl

ended_closing : (op : Operator) (s : ℕ) (seen : List Event) (x : Item) → op.ins ≡ (s ∷ []) ∷ [] → closes x ≡ true → is_some (ended op seen (came 0 x)) ≡ true
ended_closing op s seen x i h =
    ap (λ (o : Operator). is_some (ended o seen (came 0 x))) (one_in-parts op op.clauses s op.outs refl i refl)
    ∙ ended_one op.number s op.clauses op.functions op.types op.outs seen x h

-- ---- it stays so

pub live_next : (op : Operator) (seen : List Event) (e : Event) → is_live op seen ≡ true → is_some (ended op seen e) ≡ false → is_live op (e ∷ seen) ≡ true
live_next op seen e live q = ap (λ b. b && is_none (ended op seen e)) live ∙ go (ended op seen e) q
  where
    go : (x : Option Item) → is_some x ≡ false → (true && is_none x) ≡ true
    go None q = refl
    go (Some x) q = cc

unclosed_next : (op : Operator) (s : ℕ) (seen : List Event) (x : Item) → op.ins ≡ (s ∷ []) ∷ [] → any_closes (came_on (λ i. i == 0) seen) ≡ false
    → is_some (ended op seen (came 0 x)) ≡ false → any_closes (came_on (λ i. i == 0) (came 0 x ∷ seen)) ≡ false
unclosed_next op s seen x i h q = go (closes x) refl
  where
    go : (b : Bool) → closes x ≡ b → cond (closes x) true (any_closes (came_on (λ i. i == 0) seen)) ≡ false
    go true c = let both : true ≡ false = sym (ended_closing op s seen x i c) ∙ q in cc
    go false c = cond-false (closes x) true _ c ∙ h

pub inner_next : (s : Stage) (x : Item) → IsInner s → IsInner (next s (came 0 x))
inner_next s x inner = go s.over refl
  where
    go : (b : Bool) → s.over ≡ b → IsInner (cond b s (record { op = s.op; seen = came 0 x ∷ s.seen; over = is_some (ended s.op s.seen (came 0 x)) }))
    go true q = inner
    go false q = record {
      stream = inner.stream;
      one = inner.one;
      live = λ over. live_next s.op s.seen (came 0 x) (inner.live q) over;
      unclosed = λ over. unclosed_next s.op inner.stream s.seen x inner.one (inner.unclosed q) over;
    }

pub inner_after : (s : Stage) (items : List Item) → IsInner s → IsInner (stage_after s (map (came 0) items))
inner_after s [] inner = inner
inner_after s (x ∷ items) inner = inner_after (next s (came 0 x)) items (inner_next s x inner)

pub next_op : (s : Stage) (e : Event) → (next s e).op ≡ s.op
next_op s e = go s.over
  where
    go : (b : Bool) → (cond {A = Stage} b s (record { op = s.op; seen = e ∷ s.seen; over = is_some (ended s.op s.seen e) })).op ≡ s.op
    go true = refl
    go false = refl

pub after_op : (s : Stage) (events : List Event) → (stage_after s events).op ≡ s.op
after_op s [] = refl
after_op s (e ∷ events) = after_op (next s e) events ∙ next_op s e

pub joined_passed : (types : Attributes) (ss : List Stage) (outs : List Output) → Joined types ss → Joined types (stages_passed ss outs)
joined_passed types [] outs j = tt
joined_passed types (s ∷ ss) outs j =
    let same : (stage_after s (onward outs)).op ≡ s.op = after_op s (onward outs) in (
      ap (λ (o : Operator). input_attributes o 0) same ∙ j.0,
      inner_after s (on_port 0 outs) j.1,
      subst (λ (o : Operator). Joined (given_attributes o.clauses o 0) (stages_passed ss (gives_all s (onward outs)))) (sym same) (joined_passed (given_attributes s.op.clauses s.op 0) ss (gives_all s (onward outs)) j.2),
    )

-- ---- what may come

first_has : (types : Attributes) (x : Item) (items : List Item) → TuplesFit types (x ∷ items) → ItemHas types x
first_has types (I.Tuple vs) items h = h.0
first_has types I.Window items h = refl
first_has types I.Final items h = refl
first_has types (I.Bad f) items h = refl

others_fit : (types : Attributes) (x : Item) (items : List Item) → TuplesFit types (x ∷ items) → TuplesFit types items
others_fit types (I.Tuple vs) items h = h.1
others_fit types I.Window items h = h
others_fit types I.Final items h = h
others_fit types (I.Bad f) items h = h

ports_one : (op : Operator) (s : ℕ) → op.ins ≡ (s ∷ []) ∷ [] → ports op ≡ 0 ∷ []
ports_one op s i = ap (λ (o : Operator). ports o) (one_in-parts op op.clauses s op.outs refl i refl)

may_come : (s : Stage) (x : Item) → IsInner s → ItemHas (input_attributes s.op 0) x → MayCome s (came 0 x)
may_come s x inner has over =
    let one : ports s.op ≡ 0 ∷ [] = ports_one s.op inner.stream inner.one in
    record {
      live = inner.live over;
      input = subst (λ ps. 0 < length ps) (sym one) (let l : 0 < 1 = omega arith in l);
      is_open = inner.unclosed over;
      has = subst (λ ps. ItemHas (input_attributes s.op (port_at ps 0)) x) (sym one) has;
    }

pub inner_enters : (s : Stage) (items : List Item) → IsInner s → TuplesFit (input_attributes s.op 0) items → Enters s (map (came 0) items)
inner_enters s [] inner fit = tt
inner_enters s (x ∷ items) inner fit = (
  may_come s x inner (first_has (input_attributes s.op 0) x items fit),
  inner_enters (next s (came 0 x)) items (inner_next s x inner)
      (subst (λ (o : Operator). TuplesFit (input_attributes o 0) items) (sym (next_op s (came 0 x))) (others_fit (input_attributes s.op 0) x items fit)),
)
