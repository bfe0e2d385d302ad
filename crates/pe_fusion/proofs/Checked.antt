-- A checked graph is as fusion wants it.
use Rattle.std.proofs.Common.{ℕ, zero, suc, ◌+◌, ◌<◌, ◌≤◌, ◌==◌, true, false, List, [], ◌∷◌, ◌++◌, append_assoc, ◌≡◌, ◌⊎◌, inl, inr, refl, sym, ap, subst, ◌∙◌, arith, length, Option, Some, None, slice_get}
use Rattle.std.specs.List.{concat, Contains, cons_option, filter_map, list_any}
use Rattle.std.proofs.lemmas.Bool.{cases_Bool, cases_eq, eqb-true, eq-eqb, ne_eqb}
use Rattle.std.proofs.lemmas.List.{nil_from_length}
use Rattle.std.proofs.lemmas.List.Elements.{Contains-append_left, Contains-append_right}
use Rattle.std.proofs.lemmas.Option.{slice_get_within}
use Rattle.spl_value.proofs.Lists.{contains_here}
use Rattle.language_model.specs.CheckedGraph.{CheckedGraph}
use Rattle.language_model.specs.Keeping as K
use Rattle.language_model.specs.Keeping.{Keeps, Once, PortsHave}
use Rattle.language_model.specs.StreamTypes.{Attributes}
use Rattle.stream_model.specs.CheckedMeaning.{graph_of}
use Rattle.stream_model.specs.Laws.{is_made, reads_stream, makes_stream}
use Rattle.stream_model.specs.Meaning.{Graph, in_topo}
use Rattle.stream_model.specs.Operators.{Operator, connections, ports}
use Rattle.stream_model.proofs.GraphParts.{operator_at, same_length}
use Rattle.network_model.specs.Wiring.{is_source, Stands}
use Rattle.pe_fusion.specs.Fusing.{GraphFits}
use Rattle.pe_fusion.specs.FusionLaws.{FitsLaw}
use Rattle.pe_fusion.specs.Totals.{one_if, times}
use Rattle.pe_fusion.proofs.Totals.{times-any, times-none, total-found, some-one}
use Rattle.pe_fusion.proofs.Chains.{any-at}
use Rattle.list_engine.proofs.Orders.{contains_from_any, any_from_contains, numbered, made_from, not_before, is_ordered}
use Rattle.list_engine.proofs.GraphOperators.{is_numbered, operator_there}
use Rattle.list_engine.proofs.Ports.{some_input, outs_once, source_out, input_count}

once-times : (s : ℕ) (xs : List ℕ) → Once xs → times (λ t. t == s) xs ≤ 1
once-times s [] once = omega arith
once-times s (x ∷ xs) once = go (cases_eq x s) (once-times s xs (λ i j p a b. let e : suc i ≡ suc j = once (suc i) (suc j) p a b in omega (arith, e)))
  where
    rest-none : (n : ℕ) → times (λ t. t == s) xs ≡ n → x ≡ s → times (λ t. t == s) xs ≡ 0
    rest-none zero e same = e
    rest-none (suc n) e same =
        let f = total-found (λ t. one_if (t == s)) xs (let k : times (λ t. t == s) xs ≡ suc n = e in omega (arith, k)) in
        let is : f.item ≡ s = eqb-true f.item s (some-one (f.item == s) f.counts) in
        let clash : 0 ≡ suc f.at = once 0 (suc f.at) s (ap (λ z. Some z) same) (f.is ∙ ap (λ z. Some z) is) in
        absurd (omega (arith, clash))

    go : (x ≡ s) ⊎ (x ≡ s → ⊥) → times (λ t. t == s) xs ≤ 1 → times (λ t. t == s) (x ∷ xs) ≤ 1
    go (inl same) later =
        let none = rest-none (times (λ t. t == s) xs) refl same in
        let one : one_if (x == s) ≡ 1 = ap one_if (eq-eqb x s same) in
        let z : one_if (x == s) + times (λ t. t == s) xs ≤ 1 = omega (arith, none, one) in z
    go (inr apart) later =
        let none : one_if (x == s) ≡ 0 = ap one_if (ne_eqb x s apart) in
        let z : one_if (x == s) + times (λ t. t == s) xs ≤ 1 = omega (arith, none, later) in z

-- operators by their numbers, and the numbers
as-numbers : (ops : List Operator) (n : ℕ) (op : Operator) → ((m : ℕ) (o : Operator) → slice_get ops m ≡ Some o → o.number ≡ m) → slice_get ops n ≡ Some op
    → (ms : List ℕ) → times (λ (o : Operator). o.number == n) (filter_map (slice_get ops) ms) ≡ times (λ m. m == n) ms
as-numbers ops n op own at [] = refl
as-numbers ops n op own at (m ∷ ms) = go (slice_get ops m) refl (as-numbers ops n op own at ms)
  where
    go : (found : Option Operator) → slice_get ops m ≡ found → times (λ (o : Operator). o.number == n) (filter_map (slice_get ops) ms) ≡ times (λ m. m == n) ms
        → times (λ (o : Operator). o.number == n) (cons_option found (filter_map (slice_get ops) ms)) ≡ times (λ m. m == n) (m ∷ ms)
    go None e rest =
        let apart : one_if (m == n) ≡ 0 = ap one_if (ne_eqb m n (λ same. let there : slice_get ops m ≡ Some op = ap (slice_get ops) same ∙ at in let k : None ≡ Some op = sym e ∙ there in cc)) in
        let z : times (λ (o : Operator). o.number == n) (filter_map (slice_get ops) ms) ≡ one_if (m == n) + times (λ m. m == n) ms = omega (arith, apart, rest) in z
    go (Some x) e rest =
        ap (λ k. one_if (k == n) + times (λ (o : Operator). o.number == n) (filter_map (slice_get ops) ms)) (own m x e)
        ∙ ap (λ k. one_if (m == n) + k) rest

one-of : (xs : List ℕ) → length xs ≡ 1 → (s : ℕ) × (xs ≡ s ∷ [])
one-of [] e = absurd (let k : 0 ≡ 1 = e in omega (arith, k))
one-of (x ∷ []) e = (x, refl)
one-of (x ∷ y ∷ xs) e = absurd (let k : suc (suc (length xs)) ≡ 1 = e in omega (arith, k))

port-some : (schemas : List Attributes) (ins : List (List ℕ)) (attributes : List Attributes) → PortsHave schemas ins attributes → (i : ℕ) (streams : List ℕ) → slice_get ins i ≡ Some streams → 0 < length streams
port-some schemas _ _ K.no_ports i streams at = absurd (cc)
port-some schemas _ _ (K.one_port own ins schema rest h hs) zero streams at = let same : own ≡ streams = cc in subst (λ ss. 0 < length ss) same h.some
port-some schemas _ _ (K.one_port own ins schema rest h hs) (suc i) streams at = port-some schemas ins rest hs i streams at

module _ (c : CheckedGraph) (k : Keeps c) where
  abbrev g : Graph
  g = graph_of c

  place : (op : Operator) → Stands g op → (n : ℕ) × (slice_get g.ops n ≡ Some op)
  place op stands = let is = numbered (slice_get g.ops) g.topo stands.before stands.behind op stands.are in (is.number, is.there)

  least : (n : ℕ) (before rest : List ℕ) → g.topo ≡ before ++ rest → times (λ m. m == n) rest ≤ 1
  least n before [] split = omega arith
  least n before (m ∷ rest) split = go (cases_eq m n) (cases_Bool (list_any (λ j. j == n) rest)) (least n (before ++ m ∷ []) rest (split ∙ sym (append_assoc before (m ∷ []) rest)))
    where
      go : (m ≡ n) ⊎ (m ≡ n → ⊥) → (list_any (λ j. j == n) rest ≡ true) ⊎ (list_any (λ j. j == n) rest ≡ false) → times (λ m. m == n) rest ≤ 1 → times (λ m. m == n) (m ∷ rest) ≤ 1
      go (inl same) (inl again) later =
          absurd (not_before c g k refl before rest m n split (contains_from_any n rest again)
          (Contains-append_right before (m ∷ []) n (subst (λ j. Contains (m ∷ []) j) same (contains_here m []))))
      go (inl same) (inr none) later =
          let zero_times = times-none (λ j. j == n) rest none in
          let one : one_if (m == n) ≡ 1 = ap one_if (eq-eqb m n same) in
          let z : one_if (m == n) + times (λ m. m == n) rest ≤ 1 = omega (arith, zero_times, one) in z
      go (inr apart) any later =
          let none : one_if (m == n) ≡ 0 = ap one_if (ne_eqb m n apart) in
          let z : one_if (m == n) + times (λ m. m == n) rest ≤ 1 = omega (arith, none, later) in z

  once : (n : ℕ) (op : Operator) → slice_get g.ops n ≡ Some op → times (λ (o : Operator). o.number == n) (in_topo g) ≡ 1
  once n op at =
      let same = as-numbers g.ops n op (is_numbered c g refl) at g.topo in
      let below = slice_get_within g.ops n op at in
      let long = same_length c g k refl in
      let there : Contains c.graph.topo n = (k.graph.ordered.all n).1 (omega (arith, below, long)) in
      let some = times-any (λ m. m == n) g.topo (any_from_contains n g.topo there) in
      let most = least n [] g.topo refl in
      omega (arith, same, some, most)

  there : (op : Operator) → Stands g op → slice_get g.ops op.number ≡ Some op
  there op stands = let p = place op stands in ap (slice_get g.ops) (is_numbered c g refl p.0 op p.1) ∙ p.1

  made : (op : Operator) (s : ℕ) → Stands g op → reads_stream op s ≡ true → is_made (in_topo g) s ≡ true
  made op s stands reads =
      let is = numbered (slice_get g.ops) g.topo stands.before stands.behind op stands.are in
      let op_is = operator_at c g refl is.number op is.there in
      let ins : connections op ≡ concat op_is.op.ins = ap connections op_is.same in
      let x = k.graph.ordered.behind is.first is.last is.number op_is.op is.whole op_is.there s
      (contains_from_any s (concat op_is.op.ins) (ap (list_any (λ t. t == s)) (sym ins) ∙ reads)) in
      let as_made = (k.graph.made s x.0).0 x.1 in
      let maker = operator_there c g k refl (x.0).maker (slice_get_within c.graph.ops (x.0).maker as_made.0 as_made.1) in
      let maker_is = operator_at c g refl (x.0).maker maker.0 maker.1 in
      let found : slice_get c.graph.ops (x.0).maker ≡ Some maker_is.op = maker_is.there in
      let same : maker_is.op ≡ as_made.0 = (let both : Some maker_is.op ≡ Some as_made.0 = sym found ∙ as_made.1 in cc) in
      let outs : (maker.0).outs ≡ (as_made.0).outs = ap (λ (o : Operator). o.outs) maker_is.same ∙ ap (λ o. o.outs) same in
      let makes : makes_stream maker.0 s ≡ true = any-at (λ o. o == s) (maker.0).outs (x.0).port s (ap (λ os. slice_get os (x.0).port) outs ∙ as_made.2) (eq-eqb s s refl) in
      made_from (slice_get g.ops) g.topo s (x.0).maker maker.0
      (subst (λ ns. Contains ns (x.0).maker) (sym is.whole) (Contains-append_left is.first (is.number ∷ is.last) (x.0).maker x.2)) maker.1 makes

  apart : (op : Operator) (s : ℕ) → Stands g op → times (λ o. o == s) op.outs ≤ 1
  apart op s stands =
      let p = place op stands in
      let is = operator_at c g refl p.0 op p.1 in
      once-times s op.outs (subst Once (sym (ap (λ (o : Operator). o.outs) is.same)) (outs_once c k p.0 is.op is.there))

  of_source : (op : Operator) → Stands g op → is_source op.clauses ≡ true → (length op.outs ≡ 1) × (length op.ins ≡ 0)
  of_source op stands e =
      let p = place op stands in
      let is = operator_at c g refl p.0 op p.1 in
      let lengths = source_out c p.0 is.op is.part k is.there is.has (ap is_source (ap (λ (o : Operator). o.clauses) (sym is.same)) ∙ e) in
      (ap (λ (o : Operator). length o.outs) is.same ∙ lengths.0, ap (λ (o : Operator). length o.ins) is.same ∙ lengths.1)

  reads : (op : Operator) → Stands g op → is_source op.clauses ≡ false → 0 < length (ports op)
  reads op stands e =
      let p = place op stands in
      let is = operator_at c g refl p.0 op p.1 in
      let some = some_input c p.0 is.op is.part k is.there is.has (ap is_source (ap (λ (o : Operator). o.clauses) (sym is.same)) ∙ e) in
      let same : length (connections op) ≡ length (concat is.op.ins) = ap (λ (o : Operator). length (connections o)) is.same in
      let many = input_count op in
      omega (arith, some, same, many)

  each-port : (op : Operator) (i : ℕ) (streams : List ℕ) → Stands g op → slice_get op.ins i ≡ Some streams → 0 < length streams
  each-port op i streams stands at =
      let p = place op stands in
      let is = operator_at c g refl p.0 op p.1 in
      let fit = k.operators p.0 is.op is.part is.there is.has in
      port-some c.schemas is.op.ins fit.ins fit.takes i streams (ap (λ (o : Operator). slice_get o.ins i) (sym is.same) ∙ at)

  fits : GraphFits g
  fits = record {
    ordered = is_ordered c g k refl;
    numbered = is_numbered c g refl;
    once = once;
    there = there;
    made = made;
    apart = apart;
    no_input = λ op stands e. nil_from_length op.ins (of_source op stands e).1;
    one_output = λ op stands e. one-of op.outs (of_source op stands e).0;
    reads = reads;
    ports = each-port;
  }

pub fits_law : FitsLaw
fits_law c k = fits c k
