-- What the faults of an operator's outputs and of its end have, where those of its events have it, and its own faults of evaluation.
use Rattle.std.proofs.Common.{◌≡◌, ℕ, zero, suc, ◌==◌, Bool, true, false, cond, if◌then◌else◌, List, [], ◌∷◌, ◌++◌, refl, sym, ap, subst, ◌∙◌, length, slice_get, Option, Some, None, is_some, inl, inr}
use Rattle.std.specs.Prelude.{⊤}
use Rattle.std.specs.List.{AllByRecursion, list_any}
use Rattle.std.specs.Option.{option_and_then, option_or}
use Rattle.std.proofs.lemmas.Bool.{or_parts}
use Rattle.spl_value.specs.declared.item.Fault.{Fault}
use Rattle.spl_value.specs.declared.item.FaultKind.{FaultKind}
use Rattle.spl_value.specs.declared.item.Item.{Item}
use Rattle.spl_value.specs.declared.item.Item.TheVariants as I
use Rattle.language_model.specs.declared.outs.Output.{Output}
use Rattle.stream_model.specs.Bodies.{on_each, output}
use Rattle.stream_model.specs.Ends.{end_from, fault_of, stream_fault}
use Rattle.stream_model.specs.parts.Ends.{operator_fault}
use Rattle.stream_model.specs.Fitting.{EventsFit, IsFitting}
use Rattle.stream_model.specs.Operators.{Operator}
use Rattle.stream_model.specs.PathLaws.{fault_by}
use Rattle.stream_model.specs.PortEvents.{ends_all, is_waiting}
use Rattle.stream_model.specs.React.{Reaction, Gives, Faults, answered, body, ended, own_fault, react}
use Rattle.stream_model.specs.Stages.{gives_all, next, on_port, out, start}
use Rattle.stream_model.specs.Stream.{Event, is_fault}
use Rattle.spl_value.specs.Numbered.{closes}
use Rattle.stream_model.proofs.Closings.{end_item_law}
use Rattle.stream_model.proofs.KindBodies.{body_law}
use Rattle.fault_kinds.specs.Kinds.{is_evaluation_kind}
use Rattle.fault_kinds.specs.OperatorKinds.{MayCome}
use Rattle.fault_kinds.proofs.Reacting.{body_kinds}
use Rattle.stream_schemas.proofs.Coming.{OfEach}
use Rattle.stream_schemas.proofs.Fitting.{Went, begun, gone_on}

module _ (P : Fault → Type 0) where
  -- where the item is a fault, that has it
  abbrev pub Has : Item → Type 0
  Has (I.Tuple vs) = ⊤
  Has I.Window = ⊤
  Has I.Final = ⊤
  Has (I.Bad f) = P f

  abbrev pub AllHave : List Item → Type 0
  AllHave items = AllByRecursion Has items

  abbrev pub EventHas : Event → Type 0
  EventHas e = Has e.item

  abbrev OutsHave : List Output → Type 0
  OutsHave outs = AllByRecursion (λ (o : Output). Has o.item) outs

  -- ---- the items of streams

  pub items_have : (items : List Item) → ((i : ℕ) (f : Fault) → slice_get items i ≡ Some (I.Bad f) → P f) → AllHave items
  items_have [] h = tt
  items_have (I.Tuple vs ∷ items) h = (tt, items_have items (λ i. h (suc i)))
  items_have (I.Window ∷ items) h = (tt, items_have items (λ i. h (suc i)))
  items_have (I.Final ∷ items) h = (tt, items_have items (λ i. h (suc i)))
  items_have (I.Bad f ∷ items) h = (h 0 f refl, items_have items (λ i. h (suc i)))

  pub item_has : (items : List Item) → AllHave items → (i : ℕ) (f : Fault) → slice_get items i ≡ Some (I.Bad f) → P f
  item_has [] h i f at = absurd cc
  item_has (x ∷ items) h zero f at = let same : x ≡ I.Bad f = cc in subst Has same h.0
  item_has (x ∷ items) h (suc i) f at = item_has items h.1 i f at

  pub stream_has : (items : List Item) (f : Fault) → AllHave items → stream_fault items ≡ Some f → P f
  stream_has [] f h e = absurd cc
  stream_has (I.Tuple vs ∷ items) f h e = stream_has items f h.1 e
  stream_has (I.Window ∷ items) f h e = stream_has items f h.1 e
  stream_has (I.Final ∷ items) f h e = absurd cc
  stream_has (I.Bad x ∷ items) f h e = let same : x ≡ f = cc in subst P same h.0

  pub came_have : (i : ℕ) (items : List Item) → AllHave items → OfEach EventHas i items
  came_have i [] h = tt
  came_have i (x ∷ items) h = (h.0, came_have i items h.1)

  -- ---- outputs

  outs_both : (a b : List Output) → OutsHave a → OutsHave b → OutsHave (a ++ b)
  outs_both [] b h k = k
  outs_both (o ∷ a) b h k = (h.0, outs_both a b h.1 k)

  each_has : (n : ℕ) (x : Item) → Has x → OutsHave (on_each n x)
  each_has zero x h = tt
  each_has (suc n) x h = outs_both (on_each n x) (output n x ∷ []) (each_has n x h) (h, tt)

  port_has : (p : ℕ) (outs : List Output) → OutsHave outs → AllHave (on_port p outs)
  port_has p [] h = tt
  port_has p (o ∷ outs) h = go (o.port == p) (port_has p outs h.1)
    where
      go : (b : Bool) → AllHave (on_port p outs) → AllHave (cond b (o.item ∷ on_port p outs) (on_port p outs))
      go true rest = (h.0, rest)
      go false rest = rest

  -- what doesn't close is no fault
  open_item : (x : Item) → closes x ≡ false → Has x
  open_item (I.Tuple vs) h = tt
  open_item I.Window h = tt
  open_item I.Final h = tt
  open_item (I.Bad f) h = absurd (let clash : true ≡ false = h in cc)

  open_outs : (outs : List Output) → list_any (λ o. closes o.item) outs ≡ false → OutsHave outs
  open_outs [] h = tt
  open_outs (o ∷ outs) h = let parts = or_parts (closes o.item) (list_any (λ x. closes x.item) outs) h in (open_item o.item parts.0, open_outs outs parts.1)

  -- ---- an operator

  -- F is what makes the events fit. Where it is known, the operator's own faults are of evaluation
  module _ (F : Type 0) (op : Operator) (fit : F → IsFitting op) (own : (kind : FaultKind) → (F → is_evaluation_kind kind ≡ true) → P (fault_by op.number kind)) where
    abbrev Come : List Event → Event → Type 0
    Come h e = F → MayCome op h e

    own_has : (h : List Event) (e : Event) (kind : FaultKind) → Come h e → body op h e ≡ Faults kind → P (fault_by op.number kind)
    own_has h e kind may q = own kind (λ known. body_kinds op h e kind (may known) q)

    answered_have : (last : Bool) (h : List Event) (e : Event) → Come h e → OutsHave (answered op last (body op h e))
    answered_have last h e may = go last (body op h e) refl
      where
        go : (l : Bool) (a : Reaction) → body op h e ≡ a → OutsHave (answered op l a)
        go l (Faults kind) q = each_has (length op.outs) (own_fault op kind) (own_has h e kind may q)
        go true (Gives outs) q = outs_both outs (on_each (length op.outs) I.Final) (open_outs outs (body_law op h e outs q)) (each_has (length op.outs) I.Final tt)
        go false (Gives outs) q = open_outs outs (body_law op h e outs q)

    react_has : (h : List Event) (e : Event) → Come h e → EventHas e → OutsHave (react op h e)
    react_has h e may has = go (is_fault e.item) (is_waiting op h e)
      where
        go : (f w : Bool) → OutsHave (if f then on_each (length op.outs) e.item else if w then [] else answered op (ends_all op h e) (body op h e))
        go true w = each_has (length op.outs) e.item has
        go false true = tt
        go false false = answered_have (ends_all op h e) h e may

    end_has : (h : List Event) (e : Event) (x : Item) → Come h e → EventHas e → ended op h e ≡ Some x → Has x
    end_has h e x may has q = elim (end_item_law op h e x q) [
      | inl final ↦ subst Has (sym final) tt
      | inr other ↦ elim other [
        | inl came_in ↦ subst Has (sym came_in.0) has
        | inr its_own ↦ subst Has (sym its_own.2) (own_has h e its_own.0 may its_own.1)
      ]
    ]

    come : (seen : List Event) (e : Event) (events : List Event) → (F → Went op seen false) → (F → EventsFit op (e ∷ events)) → Come seen e
    come seen e events w h known =
        record { clauses = (w known).clauses; earlier = (w known).earlier; live = (w known).live refl; event = (h known).0 }

    stage_has : (seen : List Event) (over : Bool) (events : List Event) → (F → Went op seen over) → (F → EventsFit op events) → AllByRecursion EventHas events
        → OutsHave (gives_all (record { op = op; seen = seen; over = over }) events)
    stage_has seen over [] w h has = tt
    stage_has seen true (e ∷ events) w h has = stage_has seen true events w (λ known. (h known).1) has.1
    stage_has seen false (e ∷ events) w h has =
        outs_both (react op seen e) (gives_all (next (record { op = op; seen = seen; over = false }) e) events) (react_has seen e (come seen e events w h) has.0)
        (stage_has (e ∷ seen) (is_some (ended op seen e)) events (λ known. gone_on op seen e (w known) (h known).0) (λ known. (h known).1) has.1)

    first : F → Went op [] false
    first known = begun op (fit known)

    pub out_has : (p : ℕ) (events : List Event) → (F → EventsFit op events) → AllByRecursion EventHas events → AllHave (out op p events)
    out_has p events h has = port_has p (gives_all (start op) events) (stage_has [] false events first h has)

    end_from_has : (seen : List Event) (over : Bool) (events : List Event) (x : Item) → over ≡ false → (F → Went op seen false) → (F → EventsFit op events)
        → AllByRecursion EventHas events → end_from (record { op = op; seen = seen; over = over }) events ≡ Some x → Has x
    end_from_has seen over [] x live w h has q = absurd (let clash : None ≡ Some x = q in cc)
    end_from_has seen true (e ∷ events) x live w h has q = absurd (let clash : true ≡ false = live in cc)
    end_from_has seen false (e ∷ events) x live w h has q =
        go (ended op seen e) refl q (λ same r. end_from_has (e ∷ seen) false events x refl (λ known. subst (Went op (e ∷ seen)) same (gone_on op seen e (w known) (h known).0))
        (λ known. (h known).1) has.1 r)
      where
        go : (found : Option Item) → ended op seen e ≡ found → option_or found (end_from (record { op = op; seen = e ∷ seen; over = is_some found }) events) ≡ Some x
            → (is_some (ended op seen e) ≡ false → end_from (record { op = op; seen = e ∷ seen; over = false }) events ≡ Some x → Has x) → Has x
        go None is r rest = rest (ap is_some is) r
        go (Some y) is r rest = end_has seen e x (come seen e events w h) has.0 (is ∙ r)

    pub fault_has : (events : List Event) (f : Fault) → (F → EventsFit op events) → AllByRecursion EventHas events → operator_fault op events ≡ Some f → P f
    fault_has events f h has q = go (end_from (start op) events) refl q
      where
        by_item : (x : Item) → Has x → fault_of x ≡ Some f → P f
        by_item (I.Tuple vs) k r = absurd (let clash : None ≡ Some f = r in cc)
        by_item I.Window k r = absurd (let clash : None ≡ Some f = r in cc)
        by_item I.Final k r = absurd (let clash : None ≡ Some f = r in cc)
        by_item (I.Bad y) k r = let same : y ≡ f = cc in subst P same k

        go : (found : Option Item) → end_from (start op) events ≡ found → option_and_then fault_of found ≡ Some f → P f
        go None is r = absurd (let clash : None ≡ Some f = r in cc)
        go (Some x) is r = by_item x (end_from_has [] false events x refl first h has is) r
