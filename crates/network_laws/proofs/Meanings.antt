-- What a chain owes once it has taken its events in the meaning of the graph: the streams of the graph.
use Rattle.std.proofs.Common.{ℕ, ◌==◌, nat_lt, not, Bool, true, false, cond, List, [], ◌∷◌, ◌≡◌, refl, sym, ap, ◌∙◌, append-nil, map, Option, Some, None, position}
use Rattle.std.specs.List.{concat}
use Rattle.std.proofs.Math.Path.{fun_ext}
use Rattle.std.proofs.lemmas.Bool.{eq-eqb}
use Rattle.list_engine.proofs.Operators.{made_by_other, made_by_source}
use Rattle.spl_value.specs.declared.item.Item.{Item}
use Rattle.language_model.specs.declared.outs.Output.{Output}
use Rattle.stream_model.specs.Stream.{Event, came}
use Rattle.stream_model.specs.Operators.{Operator}
use Rattle.stream_model.specs.Bodies.{output}
use Rattle.stream_model.specs.Stages.{start, gives_all, on_port, out}
use Rattle.stream_model.specs.Meaning.{Graph, Lists, Entries, taking, arrive, lists_at, events_at, events_of, makes, meaning, in_topo}
use Rattle.stream_model.specs.Laws.{IsOrdered}
use Rattle.stream_model.proofs.parts.Meaning.{with_list}
use Rattle.stream_model.proofs.Graphs.{graph_law}
use Rattle.stream_model.proofs.OneAfterAnother.{arrive_from}
use Rattle.network_model.specs.Packets.{items_in, packets_of}
use Rattle.stream_model.specs.Chains.{passed}
use Rattle.network_model.specs.Networks.{last_of}
use Rattle.network_model.specs.Wiring.{is_source, Stands, Path, IsAt}
use Rattle.network_laws.specs.Flowing.{entries_for}
use Rattle.network_model.proofs.Packets.{items_in-packets_of}
use Rattle.network_model.proofs.Chains.{on_port-outputs}

-- ---- one operator

-- the one stream of an operator stands at port 0
pub position-one : (s : ℕ) → position (λ t. t == s) (s ∷ []) ≡ Some 0
position-one s = ap (λ b. found b) (eq-eqb s s refl)
  where
    found : Bool → Option ℕ
    found b = cond (nat_lt (cond (not b) 1 0) 1) (Some (cond (not b) 1 0)) None

at-one : (t p s : ℕ) → position (λ u. u == s) (t ∷ []) ≡ Some p → p ≡ 0
at-one t p s h = go (t == s) h
  where
    go : (b : Bool) → cond (nat_lt (cond (not b) 1 0) 1) (Some (cond (not b) 1 0)) None ≡ Some p → p ≡ 0
    go true e = cc
    go false e = absurd (cc)

module _ (g : Graph) (rows : Lists) (entries : Entries) (ordered : IsOrdered (in_topo g)) where
  -- what stands on the ports of an operator are its streams
  abbrev pub GivesStreams : Operator → List Output → Type 0
  GivesStreams op outs = (p s : ℕ) → IsAt op p s → on_port p outs ≡ (meaning g rows entries).streams s

  pub made-at : (op : Operator) → Stands g op → (p s : ℕ) → IsAt op p s → (meaning g rows entries).streams s ≡ makes op p (meaning g rows entries).streams rows entries
  made-at op stands p s at = graph_law g rows entries stands.before stands.behind op p s ordered stands.are at

  pub operator-gives : (op : Operator) (events : List Event) → Stands g op → is_source op.clauses ≡ false
      → ((p : ℕ) → out op p events ≡ out op p (events_of op (meaning g rows entries).streams (entries op.number)))
      → GivesStreams op (gives_all (start op) events)
  operator-gives op events stands none same p s at =
      same p
      ∙ sym (made_by_other op.clauses op p (events_of op (meaning g rows entries).streams (entries op.number)) (rows op.number) none)
      ∙ sym (made-at op stands p s at)

  pub source-gives : (source : Operator) (stream : ℕ) → Stands g source → is_source source.clauses ≡ true → source.outs ≡ stream ∷ []
      → GivesStreams source (map (output 0) (rows source.number))
  source-gives source stream stands reads one p s at =
      let first : p ≡ 0 = at-one stream p s (ap (λ outs. position (λ t. t == s) outs) (sym one) ∙ at) in
      ap (λ q. on_port q (map (output 0) (rows source.number))) first
      ∙ on_port-outputs 0 (rows source.number)
      ∙ sym (made_by_source source.clauses source p (events_of source (meaning g rows entries).streams (entries source.number)) (rows source.number) reads)
      ∙ sym (made-at source stands p s at)

  -- and so on along a chain
  pub passed-gives : (op : Operator) (ops : List Operator) (outs : List Output) → Path g op ops → GivesStreams op outs → GivesStreams (last_of op ops) (passed (map start ops) outs)
  passed-gives op [] outs path gives = gives
  passed-gives op (next ∷ ops) outs path gives =
      passed-gives next ops (gives_all (start next) (map (came 0) (on_port 0 outs))) path.5
      (λ p s at.
      ap (λ (items : List Item). out next p (map (came 0) items)) (gives 0 path.0 (ap (position (λ t. t == path.0)) path.1 ∙ position-one path.0))
      ∙ ap (λ ins. out next p (events_at (meaning g rows entries).streams (concat ins) (entries next.number))) (sym path.2)
      ∙ sym (made_by_other next.clauses next p (events_of next (meaning g rows entries).streams (entries next.number)) (rows next.number) path.4)
      ∙ sym (made-at next path.3 p s at))

-- ---- all that a chain takes in the meaning

arrive-none : (lists : Lists) (entries : List ℕ) → ((i : ℕ) → lists i ≡ []) → arrive lists entries ≡ []
arrive-none lists [] h = refl
arrive-none lists (i ∷ entries) h = ap (λ zs. taking i zs (λ items. arrive (with_list lists i items) entries)) (h i)

pub full-events : (streams : Lists) (conns entries : List ℕ)
    → arrive (λ i. items_in (packets_of (lists_at streams conns i))) (entries_for conns streams entries) ≡ events_at streams conns entries
full-events streams [] entries = arrive-none (λ i. items_in (packets_of (lists_at streams [] i))) entries (λ i. refl)
full-events streams (s ∷ []) entries =
    let lists : Lists = λ i. items_in (packets_of (lists_at streams (s ∷ []) i)) in
    let first : lists 0 ≡ streams s = items_in-packets_of (streams s) in
    ap (arrive lists) (ap (map (λ (x : Item). 0)) (sym first) ∙ sym (append-nil (map (λ (x : Item). 0) (lists 0))))
    ∙ arrive_from 1 0 lists
    ∙ append-nil (map (came 0) (lists 0))
    ∙ ap (map (came 0)) first
full-events streams (s ∷ t ∷ ss) entries = ap (λ (lists : Lists). arrive lists entries) (fun_ext (λ i. items_in-packets_of (lists_at streams (s ∷ t ∷ ss) i)))
