-- What events that fit cause, at an operator whose clauses fit.
use Rattle.std.proofs.Common.{◌≡◌, ℕ, zero, suc, ◌<◌, Bool, true, false, if◌then◌else◌, List, [], ◌∷◌, length, is_none, Some, None, refl, sym, ap, subst, ◌∙◌}
use Rattle.std.proofs.lemmas.Bool.{lt-ltb}
use Rattle.spl_value.specs.declared.item.Item.{Item}
use Rattle.spl_value.specs.declared.item.Item.TheVariants as I
use Rattle.language_model.specs.declared.checked.CheckedClauses.{CheckedClauses}
use Rattle.language_model.specs.declared.checked.CheckedClauses.TheVariants as A
use Rattle.language_model.specs.Outcomes.{Done, Faulted, Stuck}
use Rattle.stream_model.specs.Stream.{Event, came, is_fault, is_tuple}
use Rattle.stream_model.specs.Operators.{Operator, ports}
use Rattle.stream_model.specs.parts.Operators.{port_at}
use Rattle.stream_model.specs.PortEvents.{ends_all, is_waiting, port_events}
use Rattle.stream_model.specs.Bodies.{Makes, on_each, output}
use Rattle.stream_model.specs.React.{Reaction, Gives, Faults, answer, answered, body, ended, ended_by, makes_by, own_fault}
use Rattle.stream_model.specs.Replies.{AllFit, is_live}
use Rattle.stream_model.specs.Fitting.{EventFits, EventsFit, FitsAt, HasPort, HistoryFits, IsFitting, MakesFit, NoneFaulted, ReactsFit, is_given}
use Rattle.stream_model.specs.Laws.{is_custom}
use Rattle.stream_model.proofs.PartKinds.{is_aggregate, is_join, is_simple}
use Rattle.stream_model.proofs.SimpleFits.{both_fit, none_fit, one_fits}
use Rattle.stream_model.proofs.ByPorts.{input_port}
use Rattle.spl_value.proofs.Bools.{and_parts}

item_has : (op : Operator) (x : Item) (p : ℕ) → is_tuple x ≡ false → AllFit op (output p x ∷ [])
item_has op (I.Tuple vs) p q = absurd (let no : true ≡ false = q in cc)
item_has op I.Window p q = one_fits op (output p I.Window) refl
item_has op I.Final p q = one_fits op (output p I.Final) refl
item_has op (I.Bad f) p q = one_fits op (output p (I.Bad f)) refl

-- what isn't a tuple fits on each port
each_fits : (op : Operator) (x : Item) (n : ℕ) → is_tuple x ≡ false → AllFit op (on_each n x)
each_fits op x zero q = none_fit op
each_fits op x (suc n) q = both_fit op (on_each n x) (output n x ∷ []) (each_fits op x n q) (item_has op x n q)

-- an event that fits has an item of its port
pub event_port : (op : Operator) (e : Event) → IsFitting op → EventFits op e → HasPort op (port_at (ports op) e.input) e.item
event_port op e fit has = (subst (λ n. port_at (ports op) e.input < n) fit.ins (input_port op e.input (lt-ltb e.input (length (ports op)) has.0)).1, has.1)

-- an event that doesn't wait and doesn't end an operator gave no fault
not_faulted : (op : Operator) (h : List Event) (e : Event) → is_waiting op h e ≡ false → is_none (ended op h e) ≡ true → is_given (body op h e) ≡ true
not_faulted op h e moves stays = go (is_fault e.item) (body op h e) refl
    (ap (λ w. is_none (if is_fault e.item then Some e.item else if w then None else ended_by op (ends_all op h e) (body op h e))) (sym moves) ∙ stays)
  where
    go : (f : Bool) (a : Reaction) → is_fault e.item ≡ f → is_none (if f then Some e.item else ended_by op (ends_all op h e) a) ≡ true → is_given a ≡ true
    go true a q none = absurd (let no : false ≡ true = none in cc)
    go false (Gives outs) q none = refl
    go false (Faults kind) q none = absurd (let no : false ≡ true = none in cc)

-- the history by ports fits, and gave no fault
by_ports_fit : (op : Operator) (h : List Event) → IsFitting op → EventsFit op h → is_live op h ≡ true → HistoryFits op (port_events op h) × NoneFaulted op (port_events op h)
by_ports_fit op [] fit events live = (tt, tt)
by_ports_fit op (e ∷ h) fit events live =
    let parts = and_parts (is_live op h) (is_none (ended op h e)) live in
    go (is_waiting op h e) refl parts.1 (by_ports_fit op h fit events.1 parts.0)
  where
    e_at : Event
    e_at = came (port_at (ports op) e.input) e.item

    go : (w : Bool) → is_waiting op h e ≡ w → is_none (ended op h e) ≡ true → HistoryFits op (port_events op h) × NoneFaulted op (port_events op h)
        → HistoryFits op (if w then port_events op h else e_at ∷ port_events op h) × NoneFaulted op (if w then port_events op h else e_at ∷ port_events op h)
    go true q stays rest = rest
    go false q stays rest = ((event_port op e fit events.0, rest.0), (not_faulted op h e q stays, rest.1))

pub reacts_fit : FitsAt (λ part. true) → ReactsFit
reacts_fit fits op h e fit events live has = (makes, causes (is_fault e.item) (is_waiting op h e) refl)
  where
    history : HistoryFits op (port_events op h) × NoneFaulted op (port_events op h)
    history = by_ports_fit op h fit events live

    made : Makes
    made = makes_by op.clauses op (port_events op h) (port_at (ports op) e.input) e.item

    makes : MakesFit op made
    makes = fits op (port_events op h) (port_at (ports op) e.input) e.item refl fit history.0 history.1 (event_port op e fit has)

    given : (last : Bool) (m : Makes) → MakesFit op m → AllFit op (answered op last (answer m))
    given true (Done outs turns) k = both_fit op outs (on_each (length op.outs) I.Final) k (each_fits op I.Final (length op.outs) refl)
    given false (Done outs turns) k = k
    given last (Faulted kind) k = each_fits op (own_fault op kind) (length op.outs) refl
    given last Stuck k = absurd k

    bad : (x : Item) → is_fault x ≡ true → AllFit op (on_each (length op.outs) x)
    bad (I.Tuple vs) q = absurd (let no : false ≡ true = q in cc)
    bad I.Window q = absurd (let no : false ≡ true = q in cc)
    bad I.Final q = absurd (let no : false ≡ true = q in cc)
    bad (I.Bad f) q = each_fits op (I.Bad f) (length op.outs) refl

    causes : (f w : Bool) → is_fault e.item ≡ f
        → AllFit op (if f then on_each (length op.outs) e.item else if w then [] else answered op (ends_all op h e) (answer made))
    causes true w q = bad e.item q
    causes false true q = none_fit op
    causes false false q = given (ends_all op h e) made makes

-- whatever kind an operator is of
pub of_kinds : FitsAt is_simple → FitsAt is_custom → FitsAt is_aggregate → FitsAt is_join → FitsAt (λ part. true)
of_kinds simple custom aggregate join op h port x any fit history calm has = go op.clauses refl
  where
    go : (part : CheckedClauses) → op.clauses ≡ part → MakesFit op (makes_by op.clauses op h port x)
    go (A.Custom handlers) q = custom op h port x (ap is_custom q) fit history calm has
    go (A.Aggregate window partition group collects) q = aggregate op h port x (ap is_aggregate q) fit history calm has
    go (A.Join left right condition made) q = join op h port x (ap is_join q) fit history calm has
    go _ q = simple op h port x (ap is_simple q) fit history calm has
