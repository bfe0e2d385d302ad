-- What names in bodies mean: each name that may be read means streams, and one list of them.
use Rattle.std.specs.Prelude.{◌≡◌, ◌+◌, ◌||◌, ◌↔◌, ◌<◌, ℕ, zero, suc, Bool, true, false, List, [], ◌∷◌, ◌++◌, map, flat_map, length, Option, Some, None, slice_get}
use Rattle.std.specs.Option.{option_map, option_map_or}
use Rattle.std.proofs.Common.{refl, sym, ap, ◌∙◌, subst, arith}
use Rattle.std.proofs.lemmas.List.Elements.{filter_map-append}
use Rattle.std.proofs.lemmas.Option.{same_Some, slice_get_within, slice_get-map}
use Rattle.spl_tree.specs.declared.expression.Placed.{Placed}
use Rattle.spl_tree.specs.declared.graph.Expansion.{Expansion}
use Rattle.spl_tree.specs.declared.graph.Graph.{Graph}
use Rattle.spl_tree.specs.declared.graph.Op.{Op}
use Rattle.spl_tree.specs.declared.graph.Site.{Site}
use Rattle.spl_tree.specs.declared.unit.Composite.{Composite}
use Rattle.spl_tree.specs.declared.unit.Definition.{Definition}
use Rattle.spl_tree.specs.declared.unit.HeadPort.{HeadPort}
use Rattle.spl_tree.specs.declared.unit.InputPort.{InputPort}
use Rattle.spl_tree.specs.declared.unit.Invocation.{Invocation}
use Rattle.language_model.specs.declared.expansion.Operation.{Operation}
use Rattle.language_model.specs.declared.expansion.Source.{Source}
use Rattle.language_model.specs.Composites.{composites, has_no_ports, is_empty}
use Rattle.language_model.specs.Declarations.{declared_twice}
use Rattle.language_model.specs.Expansion.{Made, Inlined, source, place_of, names_of_port, port_names, input_sources, taken_in}
use Rattle.language_model.proofs.parts.Expansion.{own_or_input}
use Rattle.language_model.proofs.parts.Flat.{graph_of}
use Rattle.language_model.specs.Invoking.{Operator, Body, target_of, stream_names, input_names}
use Rattle.language_model.specs.Names.{is_named}
use Rattle.language_model.specs.parts.Invoking.{is_readable}
use Rattle.language_model.specs.Numbering.{stream_of, streams_of}
use Rattle.language_model.proofs.parts.Numbering.{op_of, expansion_of}
use Rattle.language_model.specs.Scopes.{At}
use Rattle.language_model.specs.DollarTargets.{composite_of, invocation_at}
use Rattle.graph_laws.proofs.Flattening.{topo_of}
use Rattle.graph_laws.proofs.Inlining.{Holds}
use Rattle.expansion_laws.specs.Laws.{InputLaw, OneStandingLaw}
use Rattle.expansion_laws.specs.Standing.{site, IsBody, MakesAs, IsOutput, of_operator, of_composite, StandsFor, made as made_here, given, StandForAll, none as of_none, more}
use Rattle.expansion_laws.proofs.Declaring.{each_once, made_once, input_once, not_both}
use Rattle.expansion_laws.proofs.Expanding.{IsComplete}
use Rattle.expansion_laws.proofs.Graphs.{of_all}
use Rattle.expansion_laws.proofs.Growing.{AreReadable, IsWired, wired_main, wired_inner, IsSet, IsInOrder}
use Rattle.expansion_laws.proofs.Heads.{inputs_fit}
use Rattle.expansion_laws.proofs.Outputs.{place_has, among_has, body_is, followed}
use Rattle.expansion_laws.proofs.Ways.{body_was, op_was, invoked_at, one_site, one_body}
use Rattle.spl_value.proofs.Lists.{get_below}
use Rattle.spl_value.proofs.Bools.{and_parts}

-- ---- names

named_head : (name : List ℕ) (ps : List HeadPort) (k : ℕ) → slice_get (map (λ p. p.name.what) ps) k ≡ Some name → (p : HeadPort) × (slice_get ps k ≡ Some p) × (p.name.what ≡ name)
named_head name [] k e = absurd cc
named_head name (p ∷ ps) zero e = (p, refl, same_Some p.name.what name e)
named_head name (p ∷ ps) (suc k) e = named_head name ps k e

not_first : (a b : Bool) → a || b ≡ true → a ≡ false → b ≡ true
not_first true b e f = absurd (let bad : true ≡ false = f in cc)
not_first false b e f = e

no_place : (name : List ℕ) (names : List (List ℕ)) → place_of name names ≡ None → is_named names name ≡ false
no_place name names e =
    elim (is_named names name) as (λ b. is_named names name ≡ b → b ≡ false) [
      | true ↦ λ among. (let k = among_has name names among in absurd (let bad : None ≡ Some k.0 = sym e ∙ k.1 in cc))
      | false ↦ λ among. refl
    ] refl

no_inputs : (c : Composite) → has_no_ports c ≡ true → c.inputs ≡ []
no_inputs c e = by c.inputs refl (and_parts (is_empty c.outputs) (is_empty c.inputs) e).1
  where
    by : (ps : List HeadPort) → c.inputs ≡ ps → is_empty ps ≡ true → c.inputs ≡ []
    by [] is h = is
    by (p ∷ ps) is h = absurd cc

-- ---- what names mean

module _ (unit : List Definition) (made : Made) (topo : List ℕ) (h : Holds unit made) (c : (main : At Composite) × IsComplete unit main made) where
  abbrev graph : Graph
  graph = graph_of made topo

  abbrev bodies : List Inlined
  bodies = made.expansions

  abbrev in_order : IsInOrder unit made
  in_order = c.1.in_order

  abbrev Stands : ℕ → Type 0
  Stands count = (k : ℕ) (e : Inlined) (name : List ℕ) → slice_get bodies k ≡ Some e → k < count → is_readable e.composite.what name ≡ true
      → StandsFor unit graph k name (streams_of made (taken_in count bodies k name))

  abbrev at_inputs : ℕ → ℕ → List (Placed (List ℕ)) → List Source
  at_inputs count k ns = flat_map (λ n. taken_in count bodies k n.what) ns

  all_stand : (count : ℕ) → Stands count → (k : ℕ) (e : Inlined) → slice_get bodies k ≡ Some e → k < count → (ns : List (Placed (List ℕ))) → AreReadable e.composite.what ns
      → StandForAll unit graph k ns (streams_of made (at_inputs count k ns))
  all_stand count stands k e at lt [] readable = of_none k
  all_stand count stands k e at lt (n ∷ ns) readable =
      let first = stands k e n.what at lt (readable 0 n refl) in
      let rest = all_stand count stands k e at lt ns (λ j m there. readable (suc j) m there) in
      let split : streams_of made (at_inputs count k (n ∷ ns)) ≡ streams_of made (taken_in count bodies k n.what) ++ streams_of made (at_inputs count k ns) =
      filter_map-append (stream_of (length bodies) made) (taken_in count bodies k n.what) (at_inputs count k ns) in
      subst (StandForAll unit graph k (n ∷ ns)) (sym split) (more k n ns _ _ first rest)

  module _ (count : ℕ) (stands : Stands count) (k : ℕ) (e : Inlined) (name : List ℕ) (at : slice_get bodies k ≡ Some e) (lt : k < suc count) where
    abbrev own : Option ℕ → List Source
    own o = own_or_input (taken_in count bodies) bodies k e name o

    by_stream : (place : ℕ) → place_of name (stream_names e.composite.what) ≡ Some place → StandsFor unit graph k name (streams_of made (own (Some place)))
    by_stream place is =
        let s = followed unit made topo h in_order c.1.done (length bodies) k place e name at (omega arith) (place_has name (stream_names e.composite.what) place is) in
        let only : streams_of made (source k place ∷ []) ≡ s.stream ∷ [] = ap (λ o. Rattle.std.specs.List.cons_option o []) s.gives in
        subst (StandsFor unit graph k name) (sym only)
        (made_here k name (expansion_of made (0 + k) e) e.composite.what s.output.invocation s.output.output s.stream (body_is unit made topo h in_order c.1.done k e at) s.makes s.is)

    by_input : (port : ℕ) (p : HeadPort) → slice_get e.composite.what.inputs port ≡ Some p → p.name.what ≡ name → IsWired unit bodies k e
        → StandsFor unit graph k name (streams_of made (input_sources (taken_in count bodies) bodies e.site port))
    by_input port p is named (wired_main none ports) =
        absurd (let bad : None ≡ Some p = ap (λ ps. slice_get ps port) (sym (no_inputs e.composite.what ports)) ∙ is in cc)
    by_input port p is named (wired_inner s of_site w) =
        let count_ports = inputs_fit e.composite.what w.invocation w.fits in
        let less = slice_get_within e.composite.what.inputs port p is in
        let q = get_below w.invocation.inputs port (omega (arith, count_ports, less)) in
        let names : port_names bodies s port ≡ q.0.streams =
        ap (λ o. option_map_or (λ e. option_map_or (names_of_port port) (slice_get e.composite.what.graph s.invocation) []) o []) w.outer_at
        ∙ ap (λ o. option_map_or (names_of_port port) o []) w.invoked ∙ ap (λ o. option_map_or (λ (q : InputPort). q.streams) o []) q.1 in
        let taken : input_sources (taken_in count bodies) bodies e.site port ≡ at_inputs count s.expansion q.0.streams =
        ap (λ o. input_sources (taken_in count bodies) bodies o port) of_site ∙ ap (at_inputs count s.expansion) names in
        let all = all_stand count stands s.expansion w.outer w.outer_at (omega (arith, w.before, lt)) q.0.streams (w.readable port q.0 q.1) in
        subst (λ xs. StandsFor unit graph k name (streams_of made xs)) (sym taken)
        (given k name (expansion_of made (0 + k) e) e.composite.what port p s w.invocation q.0 _ (body_is unit made topo h in_order c.1.done k e at) is named of_site
        (invoked_at unit made topo h s w.outer w.invocation w.outer_at w.invoked) q.1 all)

    by_place : is_readable e.composite.what name ≡ true → (o : Option ℕ) → place_of name (stream_names e.composite.what) ≡ o → StandsFor unit graph k name (streams_of made (own o))
    by_place readable (Some place) is = by_stream place is
    by_place readable None is =
        let among = not_first (is_named (stream_names e.composite.what) name) (is_named (input_names e.composite.what) name) readable (no_place name (stream_names e.composite.what) is) in
        let port = among_has name (input_names e.composite.what) among in
        let p = named_head name e.composite.what.inputs port.0 (place_has name (input_names e.composite.what) port.0 port.1) in
        subst (λ o. StandsFor unit graph k name (streams_of made (option_map_or (input_sources (taken_in count bodies) bodies e.site) o []))) (sym port.1)
        (by_input port.0 p.0 p.1 p.2 (in_order.wired k e at))

  stand : (count : ℕ) → Stands count
  stand zero k e name at lt readable = absurd (omega arith)
  stand (suc count) k e name at lt readable =
      let own = by_place count (stand count) k e name at lt readable (place_of name (stream_names e.composite.what)) refl in
      let taken : taken_in (suc count) bodies k name ≡ own_or_input (taken_in count bodies) bodies k e name (place_of name (stream_names e.composite.what)) =
      ap (λ o. option_map_or (λ e. own_or_input (taken_in count bodies) bodies k e name (place_of name (stream_names e.composite.what))) o []) at in
      subst (λ xs. StandsFor unit graph k name (streams_of made xs)) (sym taken) own

  -- ---- once

  module _ (once : declared_twice unit ≡ None) where
    is_composite : (number : ℕ) (x : Expansion) (d : Composite) → IsBody unit graph number x d → slice_get (composites unit) x.composite ≡ Some d
    is_composite number x d b = b.composite

    one_making : (x : Expansion) (d : Composite) (name : List ℕ) (a b a' b' : ℕ) → composite_of unit x ≡ Some d → MakesAs d name a b → MakesAs d name a' b' → (a ≡ a') × (b ≡ b')
    one_making x d name a b a' b' is m n = made_once d (each_once unit once x.composite d is) name a b a' b' m n

    -- an operator and a body don't stand at one site
    not_op_and_body : (s : Site) (n : ℕ) (op : Op) (number : ℕ) (x : Expansion) → slice_get graph.ops n ≡ Some op → op.site ≡ s → slice_get graph.expansions number ≡ Some x → x.site ≡ Some s → ⊥
    not_op_and_body s n op number x at is there of_site =
        let o = op_was unit made topo h n op at in
        let set = in_order.set n o.0 o.1 in
        let e = body_was unit made topo h number x there in
        by o.0 set (ap (λ (z : Op). z.site) o.2 ∙ is) e.0 (ap (λ (z : Expansion). z.site) e.2 ∙ of_site) (in_order.wired number e.0 e.1)
      where
        by : (o : Operation) → IsSet unit bodies o → o.site ≡ s → (e : Inlined) → e.site ≡ Some s → IsWired unit bodies number e → ⊥
        by o set at_site e here (wired_main no_site ports) = let bad : None ≡ Some s = sym no_site ∙ here in cc
        by o set at_site e here (wired_inner t there w) =
            let one : t ≡ s = same_Some t s (sym there ∙ here) in
            let sites : o.site ≡ t = at_site ∙ sym one in
            let outer : set.body ≡ w.outer = same_Some set.body w.outer (sym set.in_bodies ∙ ap (λ (z : Site). slice_get bodies z.expansion) sites ∙ w.outer_at) in
            let invocation : set.invocation ≡ w.invocation =
            same_Some set.invocation w.invocation (sym set.in_graph ∙ (λ i. slice_get (outer i).composite.what.graph (sites i).invocation) ∙ w.invoked) in
            let bad : Operator o.kind ≡ Body e.composite = sym set.target ∙ ap (λ (z : Invocation). target_of unit z.operator.what) invocation ∙ w.target in
            cc

    one_output : (s : Site) (k a b : ℕ) → IsOutput unit graph s k a → IsOutput unit graph s k b → a ≡ b
    one_output s k a b (of_operator s1 k1 a1 n op at is out) (of_operator s2 k2 b2 m p at' is' out') =
        let number : n ≡ m = one_site unit made topo h in_order n m op p at at' (is ∙ sym is') in
        let same : op ≡ p = same_Some op p (sym at ∙ ap (slice_get graph.ops) number ∙ at') in
        same_Some a b (sym out ∙ ap (λ (z : Op). slice_get z.outs k) same ∙ out')
    one_output s k a b (of_operator s1 k1 a1 n op at is out) (of_composite s2 k2 b2 number x d p place inner body of_site head makes on) =
        absurd (not_op_and_body s n op number x at is body.there of_site)
    one_output s k a b (of_composite s1 k1 a1 number x d p place inner body of_site head makes on) (of_operator s2 k2 b2 n op at is out) =
        absurd (not_op_and_body s n op number x at is body.there of_site)
    one_output s k a b (of_composite s1 k1 a1 number x d p place inner body of_site head makes on) (of_composite s2 k2 b2 other y f q where_at out body' of_site' head' makes' on') =
        let numbers : number ≡ other = one_body unit made topo h in_order number other x y s body.there body'.there of_site of_site' in
        let bodies_same : x ≡ y = same_Some x y (sym body.there ∙ ap (slice_get graph.expansions) numbers ∙ body'.there) in
        let composite : d ≡ f = same_Some d f (sym body.composite ∙ ap (composite_of unit) bodies_same ∙ body'.composite) in
        let port : p ≡ q = same_Some p q (sym head ∙ ap (λ (z : Composite). slice_get z.outputs k) composite ∙ head') in
        let moved : MakesAs f p.name.what place inner = subst (λ (z : Composite). MakesAs z p.name.what place inner) composite makes in
        let named : MakesAs f q.name.what place inner = subst (λ (z : HeadPort). MakesAs f z.name.what place inner) port moved in
        let made_same = one_making y f q.name.what place inner where_at out body'.composite named makes' in
        let back : IsOutput unit graph (site number place) inner b =
        subst (λ (z : ℕ). IsOutput unit graph (site z place) inner b) (sym numbers)
        (subst (λ (z : ℕ). IsOutput unit graph (site other z) inner b) (sym made_same.0) (subst (λ (z : ℕ). IsOutput unit graph (site other where_at) z b) (sym made_same.1) on')) in
        one_output (site number place) inner a b on back

    not_made_and_given : (number : ℕ) (x y : Expansion) (d f : Composite) (name : List ℕ) (place output k : ℕ) (p : HeadPort) → IsBody unit graph number x d → IsBody unit graph number y f
        → MakesAs d name place output → slice_get f.inputs k ≡ Some p → p.name.what ≡ name → ⊥
    not_made_and_given number x y d f name place output k p body other makes at named =
        let same : x ≡ y = same_Some x y (sym body.there ∙ other.there) in
        let composite : d ≡ f = same_Some d f (sym body.composite ∙ ap (composite_of unit) same ∙ other.composite) in
        let moved : MakesAs f name place output = subst (λ (z : Composite). MakesAs z name place output) composite makes in
        not_both f (each_once unit once y.composite f other.composite) k p place output at (subst (λ (z : List ℕ). MakesAs f z place output) (sym named) moved)

    mutual
      one_standing : (number : ℕ) (name : List ℕ) (xs ys : List ℕ) → StandsFor unit graph number name xs → StandsFor unit graph number name ys → xs ≡ ys
      one_standing number name xs ys (made_here n1 m1 x d place output stream body makes out) (made_here n2 m2 y f place' output' stream' body' makes' out') =
          let same : x ≡ y = same_Some x y (sym body.there ∙ body'.there) in
          let composite : d ≡ f = same_Some d f (sym body.composite ∙ ap (composite_of unit) same ∙ body'.composite) in
          let moved : MakesAs f name place output = subst (λ (z : Composite). MakesAs z name place output) composite makes in
          let one = one_making y f name place output place' output' body'.composite moved makes' in
          let back : IsOutput unit graph (site number place) output stream' =
          subst (λ (z : ℕ). IsOutput unit graph (site number z) output stream') (sym one.0) (subst (λ (z : ℕ). IsOutput unit graph (site number place') z stream') (sym one.1) out') in
          ap (λ z. z ∷ []) (one_output (site number place) output stream stream' out back)
      one_standing number name xs ys (made_here n1 m1 x d place output stream body makes out) (given n2 m2 y f k p s i q streams body' at named of_site invoked port all) =
          absurd (not_made_and_given number x y d f name place output k p body body' makes at named)
      one_standing number name xs ys (given n1 m1 y f k p s i q streams body' at named of_site invoked port all) (made_here n2 m2 x d place output stream body makes out) =
          absurd (not_made_and_given number x y d f name place output k p body body' makes at named)
      one_standing number name xs ys (given n1 m1 x d k p s i q streams body at named of_site invoked port all) (given n2 m2 y f l r t j v others body' at' named' of_site' invoked' port' all') =
          let same : x ≡ y = same_Some x y (sym body.there ∙ body'.there) in
          let composite : d ≡ f = same_Some d f (sym body.composite ∙ ap (composite_of unit) same ∙ body'.composite) in
          let moved : slice_get f.inputs k ≡ Some p = ap (λ (z : Composite). slice_get z.inputs k) (sym composite) ∙ at in
          let number_same : k ≡ l = input_once f (each_once unit once y.composite f body'.composite) k l p r moved at' (named ∙ sym named') in
          let sites : s ≡ t = same_Some s t (sym of_site ∙ ap (λ (z : Expansion). z.site) same ∙ of_site') in
          let invocation : i ≡ j = same_Some i j (sym invoked ∙ ap (invocation_at unit graph.expansions) sites ∙ invoked') in
          let ports : q ≡ v = same_Some q v (sym port ∙ (λ z. slice_get (invocation z).inputs (number_same z)) ∙ port') in
          let back : StandForAll unit graph s.expansion q.streams ys =
          subst (λ (z : Site). StandForAll unit graph z.expansion q.streams ys) (sym sites) (subst (λ (z : InputPort). StandForAll unit graph t.expansion z.streams ys) (sym ports) all') in
          one_list s.expansion q.streams xs ys all back

      one_list : (number : ℕ) (ns : List (Placed (List ℕ))) (xs ys : List ℕ) → StandForAll unit graph number ns xs → StandForAll unit graph number ns ys → xs ≡ ys
      one_list number ns xs ys (of_none n1) all' = nothing ys all'
        where
          nothing : (ys : List ℕ) → StandForAll unit graph number [] ys → [] ≡ ys
          nothing ys (of_none n2) = refl
      one_list number ns xs ys (more n1 n rest a b first all) all' = more_of ys all' (λ c other. one_standing number n.what a c first other) (λ c other. one_list number rest b c all other)
        where
          more_of : (ys : List ℕ) → StandForAll unit graph number (n ∷ rest) ys
              → ((c : List ℕ) → StandsFor unit graph number n.what c → a ≡ c)
              → ((c : List ℕ) → StandForAll unit graph number rest c → b ≡ c) → a ++ b ≡ ys
          more_of ys (more n2 m2 rest2 c d first' all') one list = λ z. one c first' z ++ list d all' z

    -- ---- what operators take

    inputs_are : (n : ℕ) (op : Op) (i : Invocation) (k : ℕ) (q : InputPort) → slice_get graph.ops n ≡ Some op → invocation_at unit graph.expansions op.site ≡ Some i
        → slice_get i.inputs k ≡ Some q → (streams : List ℕ) → (slice_get op.ins k ≡ Some streams) ↔ StandForAll unit graph op.site.expansion q.streams streams
    inputs_are n op i k q at invoked port streams =
        let o = op_was unit made topo h n op at in
        by o.0 (in_order.set n o.0 o.1) o.2
      where
        by : (o : Operation) → IsSet unit bodies o → op_of made (0 + n) o ≡ op → (slice_get op.ins k ≡ Some streams) ↔ StandForAll unit graph op.site.expansion q.streams streams
        by o set is =
            let at_site : o.site ≡ op.site = ap (λ (z : Op). z.site) is in
            let there : invocation_at unit graph.expansions o.site ≡ Some set.invocation = invoked_at unit made topo h o.site set.body set.invocation set.in_bodies set.in_graph in
            let invocation : set.invocation ≡ i = same_Some set.invocation i (sym there ∙ ap (invocation_at unit graph.expansions) at_site ∙ invoked) in
            let own_port : slice_get set.invocation.inputs k ≡ Some q = ap (λ (z : Invocation). slice_get z.inputs k) invocation ∙ port in
            let streams_there = streams_of made (at_inputs (length bodies) o.site.expansion q.streams) in
            let ins : slice_get op.ins k ≡ Some streams_there =
            ap (λ (z : Op). slice_get z.ins k) (sym is) ∙ slice_get-map (streams_of made) o.ins k
            ∙ ap (λ (z : List (List Source)). option_map (streams_of made) (slice_get z k)) set.ins
            ∙ ap (option_map (streams_of made)) (slice_get-map (λ (q : InputPort). at_inputs (length bodies) o.site.expansion q.streams) set.invocation.inputs k
            ∙ ap (option_map (λ (q : InputPort). at_inputs (length bodies) o.site.expansion q.streams)) own_port) in
            let all : StandForAll unit graph op.site.expansion q.streams streams_there =
            subst (λ (z : Site). StandForAll unit graph z.expansion q.streams streams_there) at_site
            (all_stand (length bodies) (stand (length bodies)) o.site.expansion set.body set.in_bodies (slice_get_within bodies o.site.expansion set.body set.in_bodies) q.streams
            (set.readable k q own_port)) in (
              λ e. (let same : streams_there ≡ streams = same_Some streams_there streams (sym ins ∙ e) in subst (StandForAll unit graph op.site.expansion q.streams) same all),
              λ others. ins ∙ ap Some (one_list op.site.expansion q.streams streams_there streams all others),
            )

-- ---- the laws

pub input_law : InputLaw
input_law unit names g flat = of_all (λ unit g. (n : ℕ) (op : Op) (i : Invocation) (k : ℕ) (q : InputPort) → slice_get g.ops n ≡ Some op → invocation_at unit g.expansions op.site ≡ Some i
    → slice_get i.inputs k ≡ Some q → (streams : List ℕ) → (slice_get op.ins k ≡ Some streams) ↔ StandForAll unit g op.site.expansion q.streams streams) unit names g flat
    (λ main made once acyclic h c. inputs_are unit made (topo_of made) h (main, c) once)

pub one_standing_law : OneStandingLaw
one_standing_law unit names g flat = of_all (λ unit g. (number : ℕ) (name : List ℕ) (xs ys : List ℕ) → StandsFor unit g number name xs → StandsFor unit g number name ys → xs ≡ ys) unit names g flat
    (λ main made once acyclic h c. one_standing unit made (topo_of made) h (main, c) once)
