-- Chains are parts: what they owe grows, and nothing is owed behind `Close`.
use Rattle.std.proofs.Common.{ℕ, ◌<◌, ◌==◌, Bool, true, false, cond, List, [], ◌∷◌, ◌++◌, ◌≡◌, refl, sym, ap, ◌∙◌, append-nil, length, map, Option, Some, None, is_some}
use Rattle.std.specs.Prelude.{slice_get}
use Rattle.spl_value.specs.declared.item.Item.{Item}
use Rattle.spl_value.specs.Numbered.{stops_once, closes}
use Rattle.language_model.specs.declared.outs.Output.{Output}
use Rattle.stream_model.specs.Stream.{Event, came, is_empty, IsPrefix}
use Rattle.stream_model.specs.Operators.{Operator}
use Rattle.stream_model.specs.React.{react, ended}
use Rattle.stream_model.specs.Bodies.{output}
use Rattle.stream_model.specs.Stages.{Stage, start, gives_all, stage_after, on_port, out}
use Rattle.stream_model.specs.Meaning.{arrive}
use Rattle.stream_model.proofs.StageLaws.{stage_at, gives_all-append, gives_all-over, on_port-append}
use Rattle.stream_model.proofs.Closings.{react_open, react_closed}
use Rattle.stream_model.specs.Sending.{on_output}
use Rattle.network_model.specs.Packets.{items_in, without_cut, is_stream}
use Rattle.network_model.specs.Networks.{FromSource, FromLinks}
use Rattle.network_model.specs.Receipts.{Taken}
use Rattle.stream_model.specs.Chains.{passed}
use Rattle.network_model.specs.Owed.{send_all, given, item_lists}
use Rattle.network_model.specs.Networks.{last_of}
use Rattle.network_model.specs.Wiring.{PortsFit}
use Rattle.network_model.specs.PartLaws.{IsLess, IsPart}
use Rattle.network_model.proofs.Packets.{front-map, front-left, items_in-without_cut, front-items, is_stream-append, closed-stream, without_cut-packets_of, stops-packets_of}
use Rattle.network_model.proofs.Sending.{on_output-send_all, on_output-no_output, front-send_all}
use Rattle.network_model.proofs.Arrivals.{arrive-longer, arrive-more}

-- ---- growing

pub front-on_port : (p : ℕ) (a b : List Output) → IsPrefix a b → IsPrefix (on_port p a) (on_port p b)
front-on_port p a b q = (on_port p q.0, sym (on_port-append p a q.0) ∙ ap (on_port p) q.1)

pub front-gives_all : (s : Stage) (a b : List Event) → IsPrefix a b → IsPrefix (gives_all s a) (gives_all s b)
front-gives_all s a b q = (gives_all (stage_after s a) q.0, sym (gives_all-append s a q.0) ∙ ap (gives_all s) q.1)

pub front-passed : (ops : List Operator) (a b : List Output) → IsPrefix a b → IsPrefix (passed (map start ops) a) (passed (map start ops) b)
front-passed [] a b q = q
front-passed (op ∷ ops) a b q =
    front-passed ops (gives_all (start op) (map (came 0) (on_port 0 a))) (gives_all (start op) (map (came 0) (on_port 0 b)))
    (front-gives_all (start op) (map (came 0) (on_port 0 a)) (map (came 0) (on_port 0 b))
    (front-map (came 0) (on_port 0 a) (on_port 0 b) (front-on_port 0 a b q)))

pub passed-none : (ops : List Operator) → passed (map start ops) [] ≡ []
passed-none [] = refl
passed-none (op ∷ ops) = passed-none ops

-- ---- streams

stream_step : (op : Operator) (p : ℕ) (seen : List Event) (e : Event) (events : List Event) (b : Bool) → p < length op.outs → is_some (ended op seen e) ≡ b
    → is_stream (on_port p (gives_all (stage_at op (e ∷ seen) false) events)) ≡ true
    → is_stream (on_port p (react op seen e ++ gives_all (stage_at op (e ∷ seen) b) events)) ≡ true
stream_step op p seen e events true lt q rest =
    ap (λ outs. is_stream (on_port p (react op seen e ++ outs))) (gives_all-over (stage_at op (e ∷ seen) true) events refl)
    ∙ ap (λ outs. is_stream (on_port p outs)) (append-nil (react op seen e))
    ∙ closed-stream (on_port p (react op seen e)) (react_closed op p seen e lt q)
stream_step op p seen e events false lt q rest =
    ap is_stream (on_port-append p (react op seen e) (gives_all (stage_at op (e ∷ seen) false) events))
    ∙ is_stream-append (on_port p (react op seen e)) (on_port p (gives_all (stage_at op (e ∷ seen) false) events)) (react_open op p seen e q)
    ∙ rest

stream_from : (op : Operator) (p : ℕ) (seen events : List Event) → p < length op.outs → is_stream (on_port p (gives_all (stage_at op seen false) events)) ≡ true
stream_from op p seen [] lt = refl
stream_from op p seen (e ∷ events) lt = stream_step op p seen e events (is_some (ended op seen e)) lt refl (stream_from op p (e ∷ seen) events lt)

-- what an operator gives on one of its ports is a stream
pub stream-out : (op : Operator) (p : ℕ) (events : List Event) → p < length op.outs → is_stream (out op p events) ≡ true
stream-out op p events lt = stream_from op p [] events lt

abbrev AreStreams : Operator → List Output → Type 0
AreStreams op outs = (p : ℕ) → p < length op.outs → is_stream (on_port p outs) ≡ true

stream-passed : (op : Operator) (ops : List Operator) (outs : List Output) → AreStreams op outs → AreStreams (last_of op ops) (passed (map start ops) outs)
stream-passed op [] outs h = h
stream-passed op (next ∷ ops) outs h =
    stream-passed next ops (gives_all (start next) (map (came 0) (on_port 0 outs))) (λ p lt. stream-out next p (map (came 0) (on_port 0 outs)) lt)

pub on_port-outputs : (p : ℕ) (items : List Item) → on_port p (map (output 0) items) ≡ cond (0 == p) items []
on_port-outputs p [] = none (0 == p)
  where
    none : (b : Bool) → [] ≡ cond {A = List Item} b [] []
    none true = refl
    none false = refl
on_port-outputs p (x ∷ items) = go (0 == p) (on_port-outputs p items)
  where
    go : (b : Bool) → on_port p (map (output 0) items) ≡ cond b items [] → cond b (x ∷ on_port p (map (output 0) items)) (on_port p (map (output 0) items)) ≡ cond b (x ∷ items) []
    go true rest = ap (λ zs. x ∷ zs) rest
    go false rest = rest

read-streams : (source : Operator) (items : List Item) → is_stream items ≡ true → AreStreams source (map (output 0) items)
read-streams source items h p lt = ap is_stream (on_port-outputs p items) ∙ go (0 == p)
  where
    go : (b : Bool) → is_stream (cond b items []) ≡ true
    go true = h
    go false = refl

-- ---- parts

stops-sent : (op : Operator) (outs : List ℕ) (given : List Output) (o : ℕ) → PortsFit op outs → AreStreams op given → stops_once (on_output o (send_all outs given)) ≡ true
stops-sent op outs given o fit streams = go (slice_get outs o) refl
  where
    go : (found : Option ℕ) → slice_get outs o ≡ found → stops_once (on_output o (send_all outs given)) ≡ true
    go None e = ap stops_once (on_output-no_output outs o given e)
    go (Some p) e = ap stops_once (on_output-send_all outs o p given e) ∙ stops-packets_of (on_port p given) (streams p (fit o p e))

pub without_cut-sent : (outs : List ℕ) (given : List Output) (o : ℕ) → without_cut (on_output o (send_all outs given)) ≡ on_output o (send_all outs given)
without_cut-sent outs given o = go (slice_get outs o) refl
  where
    go : (found : Option ℕ) → slice_get outs o ≡ found → without_cut (on_output o (send_all outs given)) ≡ on_output o (send_all outs given)
    go None e = let is = on_output-no_output outs o given e in ap without_cut is ∙ sym is
    go (Some p) e = let is = on_output-send_all outs o p given e in ap without_cut is ∙ without_cut-packets_of (on_port p given) ∙ sym is

pub front-lists : (t u : Taken) (i : ℕ) → IsPrefix (without_cut (t.packets i)) (without_cut (u.packets i)) → IsPrefix (item_lists t i) (item_lists u i)
front-lists t u i p =
    front-left (item_lists t i) (items_in (without_cut (t.packets i))) (item_lists u i) (items_in (without_cut (u.packets i)))
    (sym (items_in-without_cut (t.packets i))) (sym (items_in-without_cut (u.packets i))) (front-items (without_cut (t.packets i)) (without_cut (u.packets i)) p)

pub front-arrive : (t u : Taken) → IsLess t u → IsPrefix (arrive (item_lists t) t.entries) (arrive (item_lists u) u.entries)
front-arrive t u less =
    let same : arrive (item_lists u) t.entries ≡ arrive (item_lists t) t.entries =
    arrive-longer t.entries (item_lists t) (item_lists u) (λ i. front-lists t u i (less.packets i)) less.found in
    let more : IsPrefix (arrive (item_lists u) t.entries) (arrive (item_lists u) (t.entries ++ less.entries.0)) = arrive-more t.entries less.entries.0 (item_lists u) in
    (more.0, ap (λ zs. zs ++ more.0) (sym same) ∙ more.1 ∙ ap (arrive (item_lists u)) less.entries.1)

pub links-part : (op : Operator) (ops : List Operator) (outs : List ℕ) → PortsFit (last_of op ops) outs → IsPart (FromLinks op ops outs)
links-part op ops outs fit = record {
  begins = ap (send_all outs) (passed-none ops);
  grows = λ t u less b. front-send_all outs (given (FromLinks op ops outs) t) (given (FromLinks op ops outs) u)
      (front-passed ops (gives_all (start op) (arrive (item_lists t) t.entries)) (gives_all (start op) (arrive (item_lists u) u.entries))
      (front-gives_all (start op) (arrive (item_lists t) t.entries) (arrive (item_lists u) u.entries) (front-arrive t u less)));
  binds = λ t u less b. tt;
  stops = λ t o b. stops-sent (last_of op ops) outs (given (FromLinks op ops outs) t) o fit
      (stream-passed op ops (gives_all (start op) (arrive (item_lists t) t.entries)) (λ p lt. stream-out op p (arrive (item_lists t) t.entries) lt));
  no_cut = λ t o. without_cut-sent outs (given (FromLinks op ops outs) t) o;
}

-- a front of a stream is one
pub front-stream : (xs ys : List Item) → IsPrefix xs ys → is_stream ys ≡ true → is_stream xs ≡ true
front-stream [] ys p h = refl
front-stream (x ∷ xs) ys p h = go (closes x) (ap is_stream p.1 ∙ h) (λ q. front-stream xs (xs ++ p.0) (p.0, refl) q)
  where
    empty : (zs : List Item) → is_empty (zs ++ p.0) ≡ true → is_empty zs ≡ true
    empty [] e = refl
    empty (z ∷ zs) e = e

    go : (b : Bool) → cond b (is_empty (xs ++ p.0)) (is_stream (xs ++ p.0)) ≡ true → (is_stream (xs ++ p.0) ≡ true → is_stream xs ≡ true)
        → cond b (is_empty xs) (is_stream xs) ≡ true
    go true e rest = empty xs e
    go false e rest = rest e

pub source-part : (source : Operator) (ops : List Operator) (outs : List ℕ) → PortsFit (last_of source ops) outs → IsPart (FromSource source ops outs)
source-part source ops outs fit = record {
  begins = ap (send_all outs) (passed-none ops);
  grows = λ t u less b. front-send_all outs (given (FromSource source ops outs) t) (given (FromSource source ops outs) u)
      (front-passed ops (map (output 0) t.items) (map (output 0) u.items) (front-map (output 0) t.items u.items less.items));
  binds = λ t u less b. front-stream t.items u.items less.items b;
  stops = λ t o b. stops-sent (last_of source ops) outs (given (FromSource source ops outs) t) o fit
      (stream-passed source ops (map (output 0) t.items) (read-streams source t.items b));
  no_cut = λ t o. without_cut-sent outs (given (FromSource source ops outs) t) o;
}
