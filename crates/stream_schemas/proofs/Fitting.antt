-- What an operator gives for events that fit has the attributes of its streams.
use Rattle.std.proofs.Common.{◌≡◌, ℕ, Bool, true, false, List, [], ◌∷◌, refl, Option, Some, None, is_some, is_none}
use Rattle.std.proofs.lemmas.Bool.{and_from}
use Rattle.spl_value.specs.declared.item.Item.{Item}
use Rattle.stream_model.specs.Fitting.{EventFits, EventsFit, IsFitting, ReactsFit}
use Rattle.stream_model.specs.Operators.{Operator}
use Rattle.stream_model.specs.React.{ended, react}
use Rattle.stream_model.specs.Replies.{AllFit, given_attributes, is_live}
use Rattle.stream_model.specs.Stages.{gives_all, next, out, start}
use Rattle.stream_model.specs.Stream.{Event, TuplesFit}
use Rattle.stream_model.proofs.SimpleFits.{both_fit, none_fit}
use Rattle.stream_model.proofs.AggregateFits.{aggregate_fits}
use Rattle.stream_model.proofs.FittingEvents.{of_kinds, reacts_fit}
use Rattle.stream_model.proofs.JoinFits.{join_fits}
use Rattle.stream_model.proofs.SimpleFits.{simple_fits}
use Rattle.port_reacts.proofs.CustomFits.{custom_fits}
use Rattle.list_engine.proofs.Taking.{port_fits}

fitting : ReactsFit
fitting = reacts_fit (of_kinds simple_fits custom_fits aggregate_fits join_fits)

-- ---- one operator

still_live : (op : Operator) (seen : List Event) (e : Event) → is_live op seen ≡ true → is_some (ended op seen e) ≡ false → is_live op (e ∷ seen) ≡ true
still_live op seen e live goes = and_from (is_live op seen) (is_none (ended op seen e)) live (none (ended op seen e) goes)
  where
    none : (x : Option Item) → is_some x ≡ false → is_none x ≡ true
    none None h = refl
    none (Some y) h = absurd (let clash : true ≡ false = h in cc)

-- an operator that has taken events that fit, and may go on
pub record Went (op : Operator) (seen : List Event) (over : Bool) : Type 0 where
  pub clauses : IsFitting op
  pub earlier : EventsFit op seen
  pub live : over ≡ false → is_live op seen ≡ true

pub begun : (op : Operator) → IsFitting op → Went op [] false
begun op fit = record { clauses = fit; earlier = tt; live = λ none. refl }

pub gone_on : (op : Operator) (seen : List Event) (e : Event) → Went op seen false → EventFits op e → Went op (e ∷ seen) (is_some (ended op seen e))
gone_on op seen e w h = record { clauses = w.clauses; earlier = (h, w.earlier); live = still_live op seen e (w.live refl) }

stage_fits : (op : Operator) (seen : List Event) (over : Bool) (events : List Event) → Went op seen over → EventsFit op events
    → AllFit op (gives_all (record { op = op; seen = seen; over = over }) events)
stage_fits op seen over [] w h = none_fit op
stage_fits op seen true (e ∷ events) w h = stage_fits op seen true events w h.1
stage_fits op seen false (e ∷ events) w h =
    both_fit op (react op seen e) (gives_all (next (record { op = op; seen = seen; over = false }) e) events)
    (fitting op seen e w.clauses w.earlier (w.live refl) h.0).1
    (stage_fits op (e ∷ seen) (is_some (ended op seen e)) events (gone_on op seen e w h.0) h.1)

pub out_fits : (op : Operator) (p : ℕ) (events : List Event) → IsFitting op → EventsFit op events → TuplesFit (given_attributes op.clauses op p) (out op p events)
out_fits op p events fit h = port_fits op p (gives_all (start op) events) (stage_fits op [] false events (begun op fit) h)
