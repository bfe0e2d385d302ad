-- What the last operator of a chain gives has the attributes of its streams, where what the chain takes fits.
use Rattle.std.proofs.Common.{ℕ, ◌<◌, ◌==◌, Bool, true, false, cond, List, [], ◌∷◌, ◌≡◌, ◌⊎◌, inl, inr, refl, sym, ap, ◌∙◌, subst, arith, length, map, slice_get}
use Rattle.std.specs.List.{list_all}
use Rattle.std.proofs.lemmas.Bool.{and_from, and_parts, cond-true, eq-eqb}
use Rattle.spl_value.specs.declared.item.Item.{Item}
use Rattle.spl_value.specs.declared.item.Item.TheVariants as I
use Rattle.spl_value.specs.declared.packet.Packet.{Packet}
use Rattle.spl_value.specs.declared.packet.Packet.TheVariants as P
use Rattle.spl_value.specs.Numbered.{item_fits, items_of}
use Rattle.language_model.specs.CheckedGraph.{CheckedGraph}
use Rattle.language_model.specs.Keeping.{Keeps}
use Rattle.language_model.specs.StreamTypes.{Attributes}
use Rattle.stream_model.specs.Chains.{onward, passed}
use Rattle.stream_model.specs.CheckedMeaning.{graph_of, schema_at}
use Rattle.stream_model.specs.Fitting.{EventFits, EventsFit, IsFitting}
use Rattle.stream_model.specs.Operators.{Operator, input_attributes, ports, ports_from}
use Rattle.stream_model.specs.parts.Operators.{port_at}
use Rattle.stream_model.specs.Replies.{ItemHas, given_attributes}
use Rattle.stream_model.specs.Stages.{gives_all, on_port, start}
use Rattle.stream_model.specs.Stream.{Event, TuplesFit, came}
use Rattle.stream_model.proofs.CheckedOperators.{checked_fits}
use Rattle.stream_schemas.proofs.Fitting.{out_fits}
use Rattle.network_model.specs.Networks.{last_of}
use Rattle.network_model.specs.Packets.{items_in}
use Rattle.network_model.specs.Receipts.{Receipt, Popped, WasRead, event_first, item_events, popped}
use Rattle.network_model.specs.Wiring.{Path, Stands}
use Rattle.pe_fusion.proofs.Checked.{fits_law}
use Rattle.element_laws.proofs.Operators.{first-schema, gives-schema}

-- ---- tuples and items

pub items-fit : (schema : Attributes) (items : List Item) → TuplesFit schema items → list_all (item_fits schema) items ≡ true
items-fit schema [] h = refl
items-fit schema (I.Tuple vs ∷ items) h = and_from (item_fits schema (I.Tuple vs)) (list_all (item_fits schema) items) h.0 (items-fit schema items h.1)
items-fit schema (I.Window ∷ items) h = items-fit schema items h
items-fit schema (I.Final ∷ items) h = items-fit schema items h
items-fit schema (I.Bad f ∷ items) h = items-fit schema items h

pub packets-fit : (schema : Attributes) (ps : List Packet) → list_all (λ (q : ℕ × Item). item_fits schema q.1) (items_of ps) ≡ true → list_all (item_fits schema) (items_in ps) ≡ true
packets-fit schema [] h = refl
packets-fit schema (P.Item n x ∷ ps) h =
    let both = and_parts (item_fits schema x) (list_all (λ (q : ℕ × Item). item_fits schema q.1) (items_of ps)) h in
    and_from (item_fits schema x) (list_all (item_fits schema) (items_in ps)) both.0 (packets-fit schema ps both.1)
packets-fit schema (P.Pulse n ∷ ps) h = packets-fit schema ps h
packets-fit schema (P.Close ∷ ps) h = packets-fit schema ps h
packets-fit schema (P.Cut ∷ ps) h = packets-fit schema ps h

-- ---- events

-- items that an operator may take on an input
abbrev pub FitAt : Operator → ℕ → List Item → Type 0
FitAt op i items = ((i < length (ports op)) × (list_all (item_fits (input_attributes op (port_at (ports op) i))) items ≡ true)) ⊎ (items ≡ [])

fit-head : (op : Operator) (i : ℕ) (x : Item) (items : List Item) → FitAt op i (x ∷ items) → EventFits op (came i x)
fit-head op i x items (inl h) = (h.0, (and_parts (item_fits (input_attributes op (port_at (ports op) i)) x) (list_all (item_fits (input_attributes op (port_at (ports op) i))) items) h.1).0)
fit-head op i x items (inr none) = absurd (cc)

fit-rest : (op : Operator) (i : ℕ) (x : Item) (items : List Item) → FitAt op i (x ∷ items) → FitAt op i items
fit-rest op i x items (inl h) = inl (h.0, (and_parts (item_fits (input_attributes op (port_at (ports op) i)) x) (list_all (item_fits (input_attributes op (port_at (ports op) i))) items) h.1).1)
fit-rest op i x items (inr none) = absurd (cc)

fit-packets : (op : Operator) (i : ℕ) (p : Packet) (ps : List Packet) → FitAt op i (items_in (p ∷ ps)) → FitAt op i (items_in ps)
fit-packets op i (P.Item n x) ps h = fit-rest op i x (items_in ps) h
fit-packets op i (P.Pulse n) ps h = h
fit-packets op i P.Close ps h = h
fit-packets op i P.Cut ps h = h

-- the events of a chain fit, where the items at each input do
pub events-fit : (op : Operator) (T : List Receipt) → ((i : ℕ) → FitAt op i (items_in (popped i T))) → EventsFit op (item_events T)
events-fit op [] h = tt
events-fit op (WasRead x ∷ T) h = events-fit op T h
events-fit op (Popped j p ∷ T) h = first p (own p (h j)) (events-fit op T (λ i. rest i (j == i) (h i)))
  where
    rest : (i : ℕ) (b : Bool) → FitAt op i (items_in (cond b (p ∷ popped i T) (popped i T))) → FitAt op i (items_in (popped i T))
    rest i true f = fit-packets op i p (popped i T) f
    rest i false f = f

    own : (q : Packet) → FitAt op j (items_in (cond (j == j) (q ∷ popped j T) (popped j T))) → FitAt op j (items_in (q ∷ popped j T))
    own q f = subst (λ (ps : List Packet). FitAt op j (items_in ps)) (cond-true (j == j) (q ∷ popped j T) (popped j T) (eq-eqb j j refl)) f

    first : (q : Packet) → FitAt op j (items_in (q ∷ popped j T)) → EventsFit op (item_events T) → EventsFit op (event_first j q (item_events T))
    first (P.Item n x) f later = (fit-head op j x (items_in (popped j T)) f, later)
    first (P.Pulse n) f later = later
    first P.Close f later = later
    first P.Cut f later = later

-- ---- chains

module _ (c : CheckedGraph) (k : Keeps c) where
  clauses : (op : Operator) → Stands (graph_of c) op → IsFitting op
  clauses op stands = checked_fits c op.number op k ((fits_law c k).there op stands)

  -- what comes to the next operator of a chain fits
  pub came-fit : (op : Operator) (s : ℕ) (items : List Item) → Stands (graph_of c) op → op.ins ≡ (s ∷ []) ∷ [] → TuplesFit (schema_at c s) items → EventsFit op (map (came 0) items)
  came-fit op s items stands one h = go items (items-fit (schema_at c s) items h)
    where
      single : ports op ≡ 0 ∷ []
      single = ap (ports_from 0) one

      own : (x : Item) → item_fits (schema_at c s) x ≡ true → EventFits op (came 0 x)
      own x e = (
        subst (λ (ps : List ℕ). 0 < length ps) (sym single) (omega arith),
        subst (λ (schema : Attributes). ItemHas schema x) (sym (ap (λ (ps : List ℕ). input_attributes op (port_at ps 0)) single ∙ first-schema c k op s stands one)) e,
      )

      go : (xs : List Item) → list_all (item_fits (schema_at c s)) xs ≡ true → EventsFit op (map (came 0) xs)
      go [] e = tt
      go (x ∷ xs) e =
          let both = and_parts (item_fits (schema_at c s) x) (list_all (item_fits (schema_at c s)) xs) e in (own x both.0, go xs both.1)

  pub last-fits : (op : Operator) (ops : List Operator) (events : List Event) (p : ℕ) → Stands (graph_of c) op → Path (graph_of c) op ops → EventsFit op events
      → TuplesFit (given_attributes (last_of op ops).clauses (last_of op ops) p) (on_port p (passed (map start ops) (gives_all (start op) events)))
  last-fits op [] events p stands path h = out_fits op p events (clauses op stands) h
  last-fits op (next ∷ ops) events p stands path h =
      last-fits next ops (onward (gives_all (start op) events)) p path.3 path.5
      (came-fit next path.0 (on_port 0 (gives_all (start op) events)) path.3 path.2
      (subst (λ schema. TuplesFit schema (on_port 0 (gives_all (start op) events))) (gives-schema c k op 0 path.0 stands (ap (λ ss. slice_get ss 0) path.1))
      (out_fits op 0 events (clauses op stands) h)))
