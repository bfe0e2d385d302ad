-- What an operator's streams are closed by.
use Rattle.std.proofs.Common.{ℕ, zero, suc, ◌<◌, ◌≤◌, ◌==◌, Bool, true, false, cond, List, [], ◌∷◌, ◌++◌, ◌≡◌, refl, sym, ap, ◌∙◌, append-nil, map, length, Some, None, is_some, ◌⊎◌, inl, inr, arith}
use Rattle.std.proofs.lemmas.Bool.{cond-true, cond-false, cases_eq, or_parts, ne_eqb, eq-eqb}
use Rattle.spl_value.specs.declared.item.Item.{Item}
use Rattle.spl_value.specs.declared.item.Item.TheVariants as I
use Rattle.spl_value.specs.declared.item.FaultKind.{FaultKind}
use Rattle.language_model.specs.declared.checked.CheckedClauses.{CheckedClauses}
use Rattle.language_model.specs.declared.checked.PortTypes.{PortTypes}
use Rattle.language_model.specs.declared.outs.Output.{Output}
use Rattle.spl_tree.specs.declared.body.Function.{Function}
use Rattle.stream_model.specs.Stream.{Event, came, is_fault, any_closes, is_closed, is_empty}
use Rattle.spl_value.specs.Numbered.{closes}
use Rattle.stream_model.specs.Operators.{Operator}
use Rattle.stream_model.specs.PortEvents.{is_waiting, ends_all}
use Rattle.stream_model.specs.Bodies.{output, on_each}
use Rattle.stream_model.specs.React.{Reaction, Gives, Faults, body, react, ended, ended_by, answered, own_fault}
use Rattle.stream_model.proofs.KindBodies.{given, some_closes, given_open}
use Rattle.stream_model.specs.Stages.{Stage, gives_all, stage_after, on_port}
use Rattle.stream_model.proofs.StageLaws.{stage_at, one_in, one_in-parts, on_port-append, gives_all-over, after-over}
use Rattle.stream_model.specs.Laws.{has_ended, EndItemLaw, EndGivesLaw, OutCloses, ClosedEnds, ClosedGivesClosed}

-- no item on a port closes where no output does
on_port_open : (p : ℕ) (outs : List Output) → some_closes outs ≡ false → any_closes (on_port p outs) ≡ false
on_port_open p [] h = refl
on_port_open p (o ∷ outs) h =
    let parts = or_parts (closes o.item) (some_closes outs) h in go (o.port == p) parts.0 (on_port_open p outs parts.1)
  where
    go : (b : Bool) → closes o.item ≡ false → any_closes (on_port p outs) ≡ false → any_closes (cond b (o.item ∷ on_port p outs) (on_port p outs)) ≡ false
    go true closed rest = cond-false (closes o.item) true _ closed ∙ rest
    go false closed rest = rest

-- on a port past those n
on_port-each-past : (p n : ℕ) (x : Item) → n ≤ p → on_port p (on_each n x) ≡ []
on_port-each-past p zero x le = refl
on_port-each-past p (suc n) x le =
    on_port-append p (on_each n x) (output n x ∷ [])
    ∙ ap (λ xs. xs ++ on_port p (output n x ∷ [])) (on_port-each-past p n x (omega arith))
    ∙ cond-false (n == p) (x ∷ []) [] (ne_eqb n p (λ (e : n ≡ p). omega arith))

-- an item on each of n ports stands once on each
pub on_port-each : (p n : ℕ) (x : Item) → p < n → on_port p (on_each n x) ≡ x ∷ []
on_port-each p zero x lt = absurd (omega arith)
on_port-each p (suc n) x lt = on_port-append p (on_each n x) (output n x ∷ []) ∙ go (cases_eq n p) (on_port-each p n x)
  where
    go : (n ≡ p) ⊎ (n ≡ p → ⊥) → (p < n → on_port p (on_each n x) ≡ x ∷ []) → on_port p (on_each n x) ++ on_port p (output n x ∷ []) ≡ x ∷ []
    go (inl e) below =
        ap (λ xs. xs ++ on_port p (output n x ∷ [])) (on_port-each-past p n x (omega arith)) ∙ cond-true (n == p) (x ∷ []) [] (eq-eqb n p e)
    go (inr other) below =
        ap (λ xs. on_port p (on_each n x) ++ xs) (cond-false (n == p) (x ∷ []) [] (ne_eqb n p other))
        ∙ append-nil (on_port p (on_each n x)) ∙ below (omega arith)

is_closed-append : (xs ys : List Item) → any_closes xs ≡ false → is_closed (xs ++ ys) ≡ is_closed ys
is_closed-append [] ys h = refl
is_closed-append (I.Tuple vs ∷ xs) ys h = is_closed-append xs ys h
is_closed-append (I.Window ∷ xs) ys h = is_closed-append xs ys h
is_closed-append (I.Final ∷ xs) ys h = cc
is_closed-append (I.Bad f ∷ xs) ys h = cc

closes-fault : (x : Item) → is_fault x ≡ true → closes x ≡ true
closes-fault (I.Tuple vs) h = cc
closes-fault I.Window h = cc
closes-fault I.Final h = refl
closes-fault (I.Bad f) h = refl

-- on each port stands that item alone
is_closed-each : (p n : ℕ) (x : Item) → p < n → closes x ≡ true → is_closed (on_port p (on_each n x)) ≡ true
is_closed-each p n x lt h = ap is_closed (on_port-each p n x lt) ∙ cond-true (closes x) true false h

-- The item that arrived, whether it is a fault, whether its port waits, whether it is the last, and the body's answer.
abbrev caused : Operator → Item → Bool → Bool → Bool → Reaction → List Output
caused op x fault waits last a = cond fault (on_each (length op.outs) x) (cond waits [] (answered op last a))

abbrev ends : Operator → Item → Bool → Bool → Bool → Reaction → Bool
ends op x fault waits last a = is_some (cond fault (Some x) (cond waits None (ended_by op last a)))

caused_open : (op : Operator) (p : ℕ) (x : Item) (fault waits last : Bool) (a : Reaction) → some_closes (given a) ≡ false
    → ends op x fault waits last a ≡ false → any_closes (on_port p (caused op x fault waits last a)) ≡ false
caused_open op p x true waits last a opens q = cc
caused_open op p x false true last a opens q = refl
caused_open op p x false false true (Gives outs) opens q = cc
caused_open op p x false false false (Gives outs) opens q = on_port_open p outs opens
caused_open op p x false false last (Faults kind) opens q = cc

caused_closed : (op : Operator) (p : ℕ) (x : Item) (fault waits last : Bool) (a : Reaction) → some_closes (given a) ≡ false → p < length op.outs
    → (fault ≡ true → closes x ≡ true) → ends op x fault waits last a ≡ true → is_closed (on_port p (caused op x fault waits last a)) ≡ true
caused_closed op p x true waits last a opens lt closing q = is_closed-each p (length op.outs) x lt (closing refl)
caused_closed op p x false true last a opens lt closing q = cc
caused_closed op p x false false true (Gives outs) opens lt closing q =
    ap is_closed (on_port-append p outs (on_each (length op.outs) I.Final))
    ∙ is_closed-append (on_port p outs) (on_port p (on_each (length op.outs) I.Final)) (on_port_open p outs opens)
    ∙ is_closed-each p (length op.outs) I.Final lt refl
caused_closed op p x false false false (Gives outs) opens lt closing q = cc
caused_closed op p x false false last (Faults kind) opens lt closing q = is_closed-each p (length op.outs) (own_fault op kind) lt refl

-- an event that doesn't end the operator closes no stream
pub react_open : (op : Operator) (p : ℕ) (earlier : List Event) (e : Event) → is_some (ended op earlier e) ≡ false
    → any_closes (on_port p (react op earlier e)) ≡ false
react_open op p earlier e =
    caused_open op p e.item (is_fault e.item) (is_waiting op earlier e) (ends_all op earlier e) (body op earlier e) (given_open op earlier e)

-- one that ends it closes each
pub react_closed : (op : Operator) (p : ℕ) (earlier : List Event) (e : Event) → p < length op.outs → is_some (ended op earlier e) ≡ true
    → is_closed (on_port p (react op earlier e)) ≡ true
react_closed op p earlier e lt =
    caused_closed op p e.item (is_fault e.item) (is_waiting op earlier e) (ends_all op earlier e) (body op earlier e) (given_open op earlier e) lt (closes-fault e.item)

pub end_item_law : EndItemLaw
end_item_law op earlier e x q = go (is_fault e.item) (is_waiting op earlier e) (ends_all op earlier e) (body op earlier e) refl refl q
  where
    go : (fault waits last : Bool) (a : Reaction) → is_fault e.item ≡ fault → body op earlier e ≡ a
        → cond fault (Some e.item) (cond waits None (ended_by op last a)) ≡ Some x
        → (x ≡ I.Final) ⊎ (((x ≡ e.item) × (is_fault x ≡ true)) ⊎ ((kind : FaultKind) × (body op earlier e ≡ Faults kind) × (x ≡ own_fault op kind)))
    go true waits last a f b q = let same : x ≡ e.item = cc in inr (inl (same, ap is_fault same ∙ f))
    go false true last a f b q = absurd (cc)
    go false false true (Gives outs) f b q = let same : x ≡ I.Final = cc in inl same
    go false false false (Gives outs) f b q = absurd (cc)
    go false false last (Faults kind) f b q = let same : x ≡ own_fault op kind = cc in inr (inr (kind, b, same))

-- the last item on a port, with none before it that closes
abbrev EndsIn : List Item → Item → Type 0
EndsIn items x = (front : List Item) × (items ≡ front ++ x ∷ []) × (any_closes front ≡ false)

caused_ends : (op : Operator) (p : ℕ) (e x : Item) (fault waits last : Bool) (a : Reaction) → some_closes (given a) ≡ false → p < length op.outs
    → cond fault (Some e) (cond waits None (ended_by op last a)) ≡ Some x → EndsIn (on_port p (caused op e fault waits last a)) x
caused_ends op p e x true waits last a opens lt q = let same : e ≡ x = cc in ([], on_port-each p (length op.outs) e lt ∙ ap (λ y. y ∷ []) same, refl)
caused_ends op p e x false true last a opens lt q = absurd (cc)
caused_ends op p e x false false true (Gives outs) opens lt q =
    let same : I.Final ≡ x = cc in (
      on_port p outs,
      on_port-append p outs (on_each (length op.outs) I.Final)
          ∙ ap (λ xs. on_port p outs ++ xs) (on_port-each p (length op.outs) I.Final lt ∙ ap (λ y. y ∷ []) same),
      on_port_open p outs opens,
    )
caused_ends op p e x false false false (Gives outs) opens lt q = absurd (cc)
caused_ends op p e x false false last (Faults kind) opens lt q =
    let same : own_fault op kind ≡ x = cc in ([], on_port-each p (length op.outs) (own_fault op kind) lt ∙ ap (λ y. y ∷ []) same, refl)

pub end_gives_law : EndGivesLaw
end_gives_law op p earlier e lt = (
  λ x q. caused_ends op p e.item x (is_fault e.item) (is_waiting op earlier e) (ends_all op earlier e) (body op earlier e) (given_open op earlier e) lt q,
  λ q. react_open op p earlier e (ap is_some q),
)

closed_step : (op : Operator) (p : ℕ) (seen : List Event) (e : Event) (events : List Event) (b : Bool) → p < length op.outs → is_some (ended op seen e) ≡ b
    → is_closed (on_port p (gives_all (stage_at op (e ∷ seen) false) events)) ≡ (stage_after (stage_at op (e ∷ seen) false) events).over
    → is_closed (on_port p (react op seen e ++ gives_all (stage_at op (e ∷ seen) b) events)) ≡ (stage_after (stage_at op (e ∷ seen) b) events).over
closed_step op p seen e events true lt q rest =
    ap (λ outs. is_closed (on_port p (react op seen e ++ outs))) (gives_all-over (stage_at op (e ∷ seen) true) events refl)
    ∙ ap (λ outs. is_closed (on_port p outs)) (append-nil (react op seen e))
    ∙ react_closed op p seen e lt q
    ∙ ap (λ (s : Stage). s.over) (sym (after-over (stage_at op (e ∷ seen) true) events refl))
closed_step op p seen e events false lt q rest =
    ap is_closed (on_port-append p (react op seen e) (gives_all (stage_at op (e ∷ seen) false) events))
    ∙ is_closed-append (on_port p (react op seen e)) (on_port p (gives_all (stage_at op (e ∷ seen) false) events)) (react_open op p seen e q)
    ∙ rest

closed_from : (op : Operator) (p : ℕ) (seen events : List Event) → p < length op.outs
    → is_closed (on_port p (gives_all (stage_at op seen false) events)) ≡ (stage_after (stage_at op seen false) events).over
closed_from op p seen [] lt = refl
closed_from op p seen (e ∷ events) lt = closed_step op p seen e events (is_some (ended op seen e)) lt refl (closed_from op p (e ∷ seen) events lt)

pub out_closes : OutCloses
out_closes op p events lt = closed_from op p [] events lt

pub ended_by-last : (op : Operator) (a : Reaction) → is_some (ended_by op true a) ≡ true
ended_by-last op (Gives outs) = refl
ended_by-last op (Faults kind) = refl

-- an item that closes ends an operator with one connection
ended-closing : (n s : ℕ) (clauses : CheckedClauses) (functions : List Function) (types : PortTypes) (outs : List ℕ) (seen : List Event) (x : Item) → closes x ≡ true → is_some (ended (one_in n clauses functions types s outs) seen (came 0 x)) ≡ true
ended-closing n s clauses functions types outs seen (I.Tuple vs) h = cc
ended-closing n s clauses functions types outs seen I.Window h = cc
ended-closing n s clauses functions types outs seen I.Final h = ended_by-last (one_in n clauses functions types s outs) (body (one_in n clauses functions types s outs) seen (came 0 I.Final))
ended-closing n s clauses functions types outs seen (I.Bad f) h = refl

over-closed : (n s : ℕ) (clauses : CheckedClauses) (functions : List Function) (types : PortTypes) (outs : List ℕ) (seen : List Event) (items : List Item) → is_closed items ≡ true
    → (stage_after (stage_at (one_in n clauses functions types s outs) seen false) (map (came 0) items)).over ≡ true
over-closed n s clauses functions types outs seen [] h = cc
over-closed n s clauses functions types outs seen (x ∷ items) h =
    go (is_some (ended (one_in n clauses functions types s outs) seen (came 0 x))) (closes x) (ended-closing n s clauses functions types outs seen x) h
    (over-closed n s clauses functions types outs (came 0 x ∷ seen) items)
  where
    go : (b c : Bool) → (c ≡ true → b ≡ true) → cond c (is_empty items) (is_closed items) ≡ true
        → (is_closed items ≡ true → (stage_after (stage_at (one_in n clauses functions types s outs) (came 0 x ∷ seen) false) (map (came 0) items)).over ≡ true)
        → (stage_after (stage_at (one_in n clauses functions types s outs) (came 0 x ∷ seen) b) (map (came 0) items)).over ≡ true
    go true c f q rest = ap (λ (s : Stage). s.over) (after-over (stage_at (one_in n clauses functions types s outs) (came 0 x ∷ seen) true) (map (came 0) items) refl)
    go false true f q rest = let clash : false ≡ true = f refl in cc
    go false false f q rest = rest q

pub closed_ends : ClosedEnds
closed_ends op s items i h =
    ap (λ (one : Operator). has_ended one (map (came 0) items)) (one_in-parts op op.clauses s op.outs refl i refl)
    ∙ over-closed op.number s op.clauses op.functions op.types op.outs [] items h

pub closed_gives_closed : ClosedGivesClosed
closed_gives_closed op s p items i lt h = out_closes op p (map (came 0) items) lt ∙ closed_ends op s items i h
