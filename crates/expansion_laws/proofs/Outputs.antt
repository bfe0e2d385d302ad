-- The streams that the outputs of invocations are: each stands in the graph.
use Rattle.std.specs.Prelude.{◌≡◌, ◌+◌, ◌-◌, ◌&&◌, ◌||◌, ◌<◌, ◌≤◌, ℕ, zero, suc, Bool, true, false, List, [], ◌∷◌, map, flat_map, length, position, Option, Some, None, slice_get, if◌then◌else◌}
use Rattle.std.specs.List.{position_from}
use Rattle.std.specs.Option.{option_map, option_and_then, option_map_or}
use Rattle.std.specs.Str.{bytes_eq}
use Rattle.std.specs.Cmp.Lexicographic.{bytes_decides}
use Rattle.std.proofs.Common.{refl, sym, ap, ◌∙◌, arith, inl, inr, eq-eqb}
use Rattle.std.proofs.lemmas.Bool.{cases_lt}
use Rattle.std.proofs.lemmas.Iterator.Adapters.{position_from-zero}
use Rattle.std.proofs.lemmas.List.{length-map}
use Rattle.std.proofs.lemmas.Option.{same_Some, slice_get_within, slice_get-map}
use Rattle.spl_tree.specs.declared.graph.Graph.{Graph}
use Rattle.spl_tree.specs.declared.graph.Site.{Site}
use Rattle.spl_tree.specs.declared.unit.Composite.{Composite}
use Rattle.spl_tree.specs.declared.unit.Definition.{Definition}
use Rattle.spl_tree.specs.declared.unit.Invocation.{Invocation}
use Rattle.spl_tree.specs.declared.unit.OutputStream.{OutputStream}
use Rattle.language_model.specs.Expansion.{Made, Inlined, source, place_of}
use Rattle.language_model.proofs.parts.Flat.{graph_of}
use Rattle.language_model.specs.Invoking.{stream_names}
use Rattle.language_model.specs.Names.{is_named}
use Rattle.language_model.specs.Numbering.{numbers_from, first_stream, Output, outputs_from, is_site, site_at, output_place, operator_or_expansion, stream_of}
use Rattle.language_model.specs.parts.Numbering.{graph_outputs}
use Rattle.language_model.proofs.parts.Numbering.{operator_at, expansion_at, op_of, expansion_of}
use Rattle.language_model.specs.Scopes.{At, at_place, first_from}
use Rattle.graph_laws.proofs.Flattening.{behind, op_there, numbers_length, numbers_within, same_site}
use Rattle.graph_laws.proofs.Inlining.{Holds}
use Rattle.language_model.proofs.Standing.{Stands, first_stands}
use Rattle.spl_value.proofs.Lists.{append_front, get_below}
use Rattle.expansion_laws.specs.Standing.{site, IsBody, MakesAs, IsOutput, of_operator, of_composite}
use Rattle.expansion_laws.proofs.Growing.{IsWired, wired_main, wired_inner, IsInOrder}
use Rattle.expansion_laws.proofs.Heads.{outputs_fit, output_made}
use Rattle.expansion_laws.proofs.Stepping.{Comes, is_operator, is_body, makes_no_stream}
use Rattle.expansion_laws.proofs.Ways.{body_there}

-- ---- names and their places

pub place_has : (name : List ℕ) (names : List (List ℕ)) (k : ℕ) → place_of name names ≡ Some k → slice_get names k ≡ Some name
place_has name names k e = by (first_from (λ n. bytes_eq n name) 0 names) (first_stands (λ n. bytes_eq n name) names 0) e
  where
    by : (o : Option (At (List ℕ))) → Stands (λ n. bytes_eq n name) names 0 o → option_map (λ (n : At (List ℕ)). n.place) o ≡ Some k → slice_get names k ≡ Some name
    by None s e = absurd cc
    by (Some a) s e =
        let place : a.place ≡ k = same_Some a.place k e in
        let there : a.place ≡ 0 + s.0 = s.1 in
        let same : k ≡ s.0 = omega (arith, place, there) in
        ap (slice_get names) same ∙ s.2 ∙ ap Some ((bytes_decides a.what name).0 s.3)

found_from : (name : List ℕ) (i : ℕ) (names : List (List ℕ)) → is_named names name ≡ true → (k : ℕ) × (option_map (λ (n : At (List ℕ)). n.place) (first_from (λ n. bytes_eq n name) i names) ≡ Some k)
found_from name i [] e = absurd cc
found_from name i (n ∷ names) e =
    elim (bytes_eq n name)
    as (λ b. (b || is_named names name) ≡ true → (k : ℕ) × (option_map (λ (n : At (List ℕ)). n.place) (if b then Some (at_place i n) else first_from (λ n. bytes_eq n name) (suc i) names) ≡ Some k)) [
      | true ↦ λ h. (i, refl)
      | false ↦ λ h. found_from name (suc i) names h
    ] e

pub among_has : (name : List ℕ) (names : List (List ℕ)) → is_named names name ≡ true → (k : ℕ) × (place_of name names ≡ Some k)
among_has name names e = found_from name 0 names e

-- ---- the outputs of a graph

-- an output of the invocations that begin at a number
record IsThere (number : ℕ) (is : List Invocation) (name : List ℕ) (o : Output) : Type 0 where
  pub at : ℕ
  pub invocation : Invocation
  pub stream : OutputStream
  pub is_at : o.invocation ≡ number + at
  pub there : slice_get is at ≡ Some invocation
  pub made : slice_get invocation.outputs o.output ≡ Some stream
  pub named : stream.name.what ≡ name

abbrev names_of : List Invocation → List (List ℕ)
names_of is = flat_map (λ i. map (λ o. o.name.what) i.outputs) is

abbrev output : ℕ → ℕ → Output
output number k = record { invocation = number; output = k }

there_in : (number : ℕ) (is : List Invocation) (k : ℕ) (name : List ℕ) → slice_get (names_of is) k ≡ Some name
    → (o : Output) × (slice_get (outputs_from number is) k ≡ Some o) × IsThere number is name o
there_in number [] k name e = absurd cc
there_in number (i ∷ is) k name e = elim (cases_lt k (length i.outputs)) [ inl lt ↦ first lt | inr le ↦ rest le (there_in (suc number) is (k - length i.outputs) name (later le)) ]
  where
    own : List (List ℕ)
    own = map (λ o. o.name.what) i.outputs

    own_count : length own ≡ length i.outputs
    own_count = length-map i.outputs (λ (o : OutputStream). o.name.what)

    out_count : length (map (output number) (numbers_from 0 (length i.outputs))) ≡ length i.outputs
    out_count = length-map (numbers_from 0 (length i.outputs)) (output number) ∙ numbers_length 0 (length i.outputs)

    later : length i.outputs ≤ k → slice_get (names_of is) (k - length i.outputs) ≡ Some name
    later le = sym (behind own (names_of is) k (k - length i.outputs) (omega (arith, own_count))) ∙ e

    first : k < length i.outputs → (o : Output) × (slice_get (outputs_from number (i ∷ is)) k ≡ Some o) × IsThere number (i ∷ is) name o
    first lt =
        let s = get_below i.outputs k lt in
        let own_at : slice_get own k ≡ Some s.0.name.what = slice_get-map (λ (o : OutputStream). o.name.what) i.outputs k ∙ ap (option_map (λ (o : OutputStream). o.name.what)) s.1 in
        let named : s.0.name.what ≡ name = same_Some s.0.name.what name (sym (append_front own (names_of is) k s.0.name.what own_at) ∙ e) in
        let zero_more : 0 + k ≡ k = omega arith in
        let out_at : slice_get (map (output number) (numbers_from 0 (length i.outputs))) k ≡ Some (output number k) =
        slice_get-map (output number) (numbers_from 0 (length i.outputs)) k ∙ ap (option_map (output number)) (numbers_within 0 (length i.outputs) k lt ∙ ap Some zero_more) in (
          output number k,
          append_front (map (output number) (numbers_from 0 (length i.outputs))) (outputs_from (suc number) is) k (output number k) out_at,
          record { at = 0; invocation = i; stream = s.0; is_at = omega arith; there = refl; made = s.1; named = named },
        )

    rest : length i.outputs ≤ k → (o : Output) × (slice_get (outputs_from (suc number) is) (k - length i.outputs) ≡ Some o) × IsThere (suc number) is name o
        → (o : Output) × (slice_get (outputs_from number (i ∷ is)) k ≡ Some o) × IsThere number (i ∷ is) name o
    rest le h = (
      h.0,
      behind (map (output number) (numbers_from 0 (length i.outputs))) (outputs_from (suc number) is) k (k - length i.outputs) (omega (arith, out_count)) ∙ h.1,
      record {
        at = suc h.2.at;
        invocation = h.2.invocation;
        stream = h.2.stream;
        is_at = omega (arith, h.2.is_at);
        there = h.2.there;
        made = h.2.made;
        named = h.2.named;
      },
    )

-- ---- what stands at a site

none_from : {A : Type 0} (test : A → Bool) (i : ℕ) (xs : List A) → position_from test i xs ≡ None → (k : ℕ) (x : A) → slice_get xs k ≡ Some x → test x ≡ false
none_from test i [] e k x at = absurd cc
none_from {A = A} test i (y ∷ ys) e k x at =
    elim (test y) as (λ b. test y ≡ b → (if b then Some i else position_from test (i + 1) ys) ≡ None → test x ≡ false) [
      | true ↦ λ passes h. absurd cc
      | false ↦ λ fails h. each fails (none_from test (i + 1) ys h) k at
    ] refl e
  where
    each : test y ≡ false → ((k : ℕ) (x : A) → slice_get ys k ≡ Some x → test x ≡ false) → (k : ℕ) → slice_get (y ∷ ys) k ≡ Some x → test x ≡ false
    each fails rest zero at = let same : y ≡ x = cc in ap test (sym same) ∙ fails
    each fails rest (suc k) at = rest k x at

none_stands : {A : Type 0} (test : A → Bool) (xs : List A) → position test xs ≡ None → (k : ℕ) (x : A) → slice_get xs k ≡ Some x → test x ≡ false
none_stands test xs e = none_from test 0 xs (sym (position_from-zero test xs) ∙ e)

found_at_from : {A : Type 0} (test : A → Bool) (i : ℕ) (xs : List A) (n : ℕ) → position_from test i xs ≡ Some n → (k : ℕ) × (n ≡ i + k) × (x : A) × (slice_get xs k ≡ Some x) × (test x ≡ true)
found_at_from test i [] n e = absurd cc
found_at_from {A = A} test i (y ∷ ys) n e =
    elim (test y) as (λ b. test y ≡ b → (if b then Some i else position_from test (i + 1) ys) ≡ Some n → (k : ℕ) × (n ≡ i + k) × (x : A) × (slice_get (y ∷ ys) k ≡ Some x) × (test x ≡ true)) [
      | true ↦ λ passes h. (0, (let same : i ≡ n = same_Some i n h in omega arith), y, refl, passes)
      | false ↦ λ fails h. (let r = found_at_from test (i + 1) ys n h in (suc r.0, omega (arith, r.1), r.2, r.3, r.4))
    ] refl e

found_at : {A : Type 0} (test : A → Bool) (xs : List A) (n : ℕ) → position test xs ≡ Some n → (x : A) × (slice_get xs n ≡ Some x) × (test x ≡ true)
found_at test xs n e =
    let r = found_at_from test 0 xs n (sym (position_from-zero test xs) ∙ e) in
    let same : n ≡ r.0 = omega (arith, r.1) in
    (r.2, ap (slice_get xs) same ∙ r.3, r.4)

is_itself : (s t : Site) → s ≡ t → is_site s t ≡ true
is_itself s t e = λ i. eq-eqb s.expansion t.expansion (ap (λ (x : Site). x.expansion) e) i && eq-eqb s.invocation t.invocation (ap (λ (x : Site). x.invocation) e) i

same_body : (s : Site) (o : Option Site) → option_map_or (is_site s) o false ≡ true → o ≡ Some s
same_body s None e = absurd cc
same_body s (Some t) e = ap Some (sym (same_site s t e))

-- ---- streams of outputs

module _ (unit : List Definition) (made : Made) (topo : List ℕ) (h : Holds unit made) (in_order : IsInOrder unit made)
    (done : (k : ℕ) (e : Inlined) → slice_get made.expansions k ≡ Some e → (n : ℕ) (i : Invocation) → slice_get e.composite.what.graph n ≡ Some i → Comes unit made (site k n) i) where
  abbrev pub graph : Graph
  graph = graph_of made topo

  abbrev pub bodies : List Inlined
  bodies = made.expansions

  -- the stream of an output, which is followed inwards at most `count` times
  pub record IsStream (count : ℕ) (k place : ℕ) (c : Composite) (name : List ℕ) : Type 0 where
    pub stream : ℕ
    pub output : Output
    pub gives : stream_of count made (source k place) ≡ Some stream
    pub makes : MakesAs c name output.invocation output.output
    pub is : IsOutput unit graph (site k output.invocation) output.output stream

  pub body_is : (k : ℕ) (e : Inlined) → slice_get bodies k ≡ Some e → IsBody unit graph k (expansion_of made (0 + k) e) e.composite.what
  body_is k e at = record { there = body_there unit made topo h k e at; composite = h.bodies k e at }

  abbrev pub Follows : ℕ → Type 0
  Follows count = (k place : ℕ) (e : Inlined) (name : List ℕ) → slice_get bodies k ≡ Some e → length bodies ≤ k + count → slice_get (stream_names e.composite.what) place ≡ Some name
      → IsStream count k place e.composite.what name

  module _ (count : ℕ) (follows : Follows count) (k place : ℕ) (e : Inlined) (name : List ℕ) (at : slice_get bodies k ≡ Some e) (enough : length bodies ≤ k + suc count)
      (o : Output) (o_at : slice_get (graph_outputs e.composite.what) place ≡ Some o) (t : IsThere 0 e.composite.what.graph name o) where
    here : o.invocation ≡ t.at
    here = omega (arith, t.is_at)

    invoked : slice_get e.composite.what.graph o.invocation ≡ Some t.invocation
    invoked = ap (slice_get e.composite.what.graph) here ∙ t.there

    makes : MakesAs e.composite.what name o.invocation o.output
    makes = record { invocation = t.invocation; stream = t.stream; there = invoked; made = t.made; named = t.named }

    abbrev own_site : Site
    own_site = site_at k o

    -- what it gives, from the operator at the site
    by_operator : (stream : ℕ) → operator_or_expansion (stream_of count made) made own_site o.output (operator_at made own_site) ≡ Some stream
        → IsOutput unit graph own_site o.output stream → IsStream (suc count) k place e.composite.what name
    by_operator stream gives is = record {
      stream = stream;
      output = o;
      gives =
          ap (option_and_then (λ e. option_and_then
          (λ o. operator_or_expansion (stream_of count made) made (site_at k o) o.output (operator_at made (site_at k o)))
          (slice_get (graph_outputs e.composite.what) place))) at
          ∙ ap (option_and_then (λ o. operator_or_expansion (stream_of count made) made (site_at k o) o.output (operator_at made (site_at k o)))) o_at
          ∙ gives;
      makes = makes;
      is = is;
    }

    of_op : (n : ℕ) → operator_at made own_site ≡ Some n → IsStream (suc count) k place e.composite.what name
    of_op n found =
        let p = found_at (λ op. is_site op.site own_site) made.ops n found in
        let set = in_order.set n p.0 p.1 in
        let at_site : p.0.site ≡ own_site = same_site p.0.site own_site p.2 in
        let body : set.body ≡ e = same_Some set.body e (sym set.in_bodies ∙ ap (λ (s : Site). slice_get bodies s.expansion) at_site ∙ at) in
        let invocation : set.invocation ≡ t.invocation =
        same_Some set.invocation t.invocation (sym set.in_graph ∙ (λ i. slice_get (body i).composite.what.graph (at_site i).invocation) ∙ invoked) in
        let count_outputs : p.0.outputs ≡ length t.invocation.outputs = set.outputs ∙ ap (λ (i : Invocation). length i.outputs) invocation in
        let lt : o.output < p.0.outputs = (let less = slice_get_within t.invocation.outputs o.output t.stream t.made in omega (arith, count_outputs)) in
        by_operator (first_stream made.ops n + o.output) (ap (operator_or_expansion (stream_of count made) made own_site o.output) found)
        (of_operator own_site o.output (first_stream made.ops n + o.output) n (op_of made n p.0) (op_there made n p.0 p.1) at_site
        (numbers_within (first_stream made.ops n) p.0.outputs o.output lt))

    of_body : operator_at made own_site ≡ None → (m : ℕ) → expansion_at made own_site ≡ Some m → IsStream (suc count) k place e.composite.what name
    of_body none m found =
        let p = found_at (λ e. option_map_or (is_site own_site) e.site false) bodies m found in
        by_wired p.0 p.1 (same_body own_site p.0.site p.2) (in_order.wired m p.0 p.1)
      where
        by_wired : (d : Inlined) → slice_get bodies m ≡ Some d → d.site ≡ Some own_site → IsWired unit bodies m d → IsStream (suc count) k place e.composite.what name
        by_wired d there is (wired_main no_site ports) = absurd (let bad : None ≡ Some own_site = sym no_site ∙ is in cc)
        by_wired d there is (wired_inner s of_site w) =
            let one : s ≡ own_site = same_Some s own_site (sym of_site ∙ is) in
            let outer : w.outer ≡ e = same_Some w.outer e (sym w.outer_at ∙ ap (λ (s : Site). slice_get bodies s.expansion) one ∙ at) in
            let invocation : w.invocation ≡ t.invocation =
            same_Some w.invocation t.invocation (sym w.invoked ∙ (λ i. slice_get (outer i).composite.what.graph (one i).invocation) ∙ invoked) in
            let inner : k < m = (let same : s.expansion ≡ k = ap (λ (s : Site). s.expansion) one in omega (arith, w.before)) in
            let ports : length t.invocation.outputs ≡ length d.composite.what.outputs =
            ap (λ (i : Invocation). length i.outputs) (sym invocation) ∙ outputs_fit d.composite.what w.invocation w.fits in
            let less = slice_get_within t.invocation.outputs o.output t.stream t.made in
            let p = get_below d.composite.what.outputs o.output (omega (arith, ports, less)) in
            let among = output_made d.composite.what w.invocation w.fits o.output p.0 p.1 in
            let q = among_has p.0.name.what (stream_names d.composite.what) among in
            let r = follows m q.0 d p.0.name.what there (omega arith) (place_has p.0.name.what (stream_names d.composite.what) q.0 q.1) in
            let placed : output_place d.composite.what o.output ≡ Some q.0 = ap (option_and_then (λ p. place_of p.name.what (stream_names d.composite.what))) p.1 ∙ q.1 in
            by_operator r.stream
            (ap (operator_or_expansion (stream_of count made) made own_site o.output) none
            ∙ ap (option_and_then (λ e. option_and_then (λ x. option_and_then (λ place. stream_of count made (source e place)) (output_place x.composite.what o.output)) (slice_get bodies e))) found
            ∙ ap (option_and_then (λ x. option_and_then (λ place. stream_of count made (source m place)) (output_place x.composite.what o.output))) there
            ∙ ap (option_and_then (λ place. stream_of count made (source m place))) placed
            ∙ r.gives)
            (of_composite own_site o.output r.stream m (expansion_of made (0 + m) d) d.composite.what p.0 r.output.invocation r.output.output (body_is m d there) is p.1 r.makes r.is)

    by_comes : operator_at made own_site ≡ None → expansion_at made own_site ≡ None → Comes unit made (site k o.invocation) t.invocation → IsStream (suc count) k place e.composite.what name
    by_comes none gone (is_operator n p there is) =
        absurd (let fails : false ≡ true = sym (none_stands (λ op. is_site op.site own_site) made.ops none n p there) ∙ is_itself p.site own_site is in cc)
    by_comes none gone (is_body m d there is target) =
        absurd (let fails : false ≡ true =
        sym (none_stands (λ e. option_map_or (is_site own_site) e.site false) bodies gone m d there)
        ∙ ap (λ o. option_map_or (is_site own_site) o false) is ∙ is_itself own_site own_site refl in cc)
    by_comes none gone (makes_no_stream no_stream) = absurd (let less = slice_get_within t.invocation.outputs o.output t.stream t.made in omega arith)

    one_step : IsStream (suc count) k place e.composite.what name
    one_step = by (operator_at made own_site) refl
      where
        inside : operator_at made own_site ≡ None → (b : Option ℕ) → expansion_at made own_site ≡ b → IsStream (suc count) k place e.composite.what name
        inside none (Some m) found = of_body none m found
        inside none None gone = by_comes none gone (done k e at o.invocation t.invocation invoked)

        by : (a : Option ℕ) → operator_at made own_site ≡ a → IsStream (suc count) k place e.composite.what name
        by (Some n) found = of_op n found
        by None none = inside none (expansion_at made own_site) refl

  pub followed : (count : ℕ) → Follows count
  followed zero k place e name at enough there = absurd (let lt = slice_get_within bodies k e at in omega arith)
  followed (suc count) k place e name at enough there =
      let o = there_in 0 e.composite.what.graph place name there in
      one_step count (followed count) k place e name at enough o.0 o.1 o.2
