-- What ports take, counted one after another.
use Rattle.std.specs.Prelude.{◌≡◌, ◌+◌, ◌-◌, ◌^◌, ◌<◌, ◌≤◌, ℕ, suc, min, List, [], ◌∷◌, ◌++◌, flat_map, get_or, length, map, take, Some, slice_get}
use Rattle.std.specs.List.{sum_by}
use Rattle.std.specs.Option.{option_map_or}
use Rattle.std.proofs.Common.{inl, inr, sym, ap, subst, ◌∙◌, add-one, append-nil, arith}
use Rattle.std.proofs.lemmas.List.{map-append}
use Rattle.std.proofs.lemmas.Option.{slice_get_within}
use Rattle.std.proofs.lemmas.List.Sums.{sum_by-append}
use Rattle.std.proofs.Math.Seq.{take-suc}
use Rattle.spl_tree.specs.declared.expression.Placed.{Placed}
use Rattle.spl_tree.specs.declared.graph.Site.{Site}
use Rattle.spl_tree.specs.declared.unit.Composite.{Composite}
use Rattle.spl_tree.specs.declared.unit.InputPort.{InputPort}
use Rattle.spl_tree.specs.declared.unit.Invocation.{Invocation}
use Rattle.language_model.specs.declared.expansion.Source.{Source}
use Rattle.language_model.specs.Expansion.{Inlined, input_sources, names_of_port, port_names, sources_of}
use Rattle.composite_tables.specs.declared.made.Input.{Input}
use Rattle.composite_tables.specs.declared.made.Taken.TheVariants as T
use Rattle.composite_tables.specs.declared.inputs.Counted.{Counted}
use Rattle.composite_tables.specs.Inputs.{AreInputs, StandsFor, IsTakenBefore, IsBody}
use Rattle.composite_tables.specs.steps.Reading.{CountsSources, PortsStand}
use Rattle.composite_tables.proofs.Extending.{input_before, stands_before}
use Rattle.spl_value.proofs.Lists.{append_cases as at_or_last}

abbrev pub streams_taken : List Inlined → ℕ → InputPort → List Source
streams_taken xs number q = flat_map (λ n. sources_of xs number n.what) q.streams

-- one port more
pub port_counted : (xs : List Inlined) (number : ℕ) (ports : List InputPort) (i : ℕ) (q : InputPort) (before more sum count : ℕ) → i < length ports → q ≡ get_or ports i q
    → before ≡ min (sum_by length (map (streams_taken xs number) (take i ports))) (2 ^ 30) → more ≡ min (length (streams_taken xs number q)) (2 ^ 30)
    → sum ≡ min (before + more) (2 ^ 32 - 1) → count ≡ min sum (2 ^ 30)
    → count ≡ min (sum_by length (map (streams_taken xs number) (take (i + 1) ports))) (2 ^ 30)
port_counted xs number ports i q before more sum count within here counted port both limited =
    let ps = map (streams_taken xs number) (take i ports) in
    let rest : take (i + 1) ports ≡ take i ports ++ q ∷ [] = rw add-one (take-suc ports i q within ∙ ap (λ q. take i ports ++ q ∷ []) (sym here)) in
    let all : sum_by length (map (streams_taken xs number) (take (i + 1) ports)) ≡ sum_by length ps + (0 + length (streams_taken xs number q)) =
    ap (λ ports. sum_by length (map (streams_taken xs number) ports)) rest
    ∙ ap (sum_by length) (map-append (streams_taken xs number) (take i ports) (q ∷ []))
    ∙ sum_by-append length ps (streams_taken xs number q ∷ []) in
    omega arith

-- an input takes the same streams where the body has a greater number
pub later : (xs : List Inlined) (number more : ℕ) (i : Input) (list : List Source) → number ≤ more → StandsFor xs number i list → StandsFor xs more i list
later xs number more i list le stands = record {
  count = stands.count;
  first = stands.first;
  taken = stands.taken;
  before = by_taken i.taken stands.before;
} where
  by_taken : (t : _) → IsTakenBefore number t → IsTakenBefore more t
  by_taken (T.One s) before = tt
  by_taken (T.Port site port) before = omega arith

pub handed_on : (xs : List Inlined) (number : ℕ) (names : List (Placed (List ℕ))) (n : Placed (List ℕ)) (i : Input) → 1 ≤ length names → length names < 2 → n ≡ get_or names 0 n
    → StandsFor xs number i (sources_of xs number n.what) → StandsFor xs (suc number) i (flat_map (λ n. sources_of xs number n.what) names)
handed_on xs number [] n i some one here stands = absurd (omega arith)
handed_on xs number (m ∷ []) n i some one here stands =
    later xs number (suc number) i (sources_of xs number m.what ++ []) (omega arith)
    (subst (StandsFor xs number i) (ap (λ n. sources_of xs number n.what) here ∙ sym (append-nil (sources_of xs number m.what))) stands)
handed_on xs number (m ∷ k ∷ ns) n i some one here stands = absurd (omega arith)

pub of_port : (xs : List Inlined) (site : Site) (port : ℕ) (names : List (Placed (List ℕ))) (counted : Counted) → port_names xs site port ≡ names
    → CountsSources counted (flat_map (λ n. sources_of xs site.expansion n.what) names)
    → StandsFor xs (suc site.expansion) (record { count = counted.count; first = counted.first; taken = T.Port site port }) (flat_map (λ n. sources_of xs site.expansion n.what) names)
of_port xs site port names counted is counts = record {
  count = counts.count;
  first = counts.first;
  taken = ap (flat_map (λ n. sources_of xs site.expansion n.what)) is;
  before = omega arith;
}

-- the names of a port of the invocation at a site
pub names_there : (xs : List Inlined) (site : Site) (c : Composite) (row : List Input) (i : Invocation) (k : ℕ) (q : InputPort) → IsBody xs site.expansion c row
    → slice_get c.graph site.invocation ≡ Some i → slice_get i.inputs k ≡ Some q → port_names xs site k ≡ q.streams
names_there xs site c row i k q is here there =
    ap (λ o. option_map_or (λ e. option_map_or (names_of_port k) (slice_get e.composite.what.graph site.invocation) []) o []) is.here
    ∙ ap (λ d. option_map_or (names_of_port k) (slice_get d.graph site.invocation) []) is.composite
    ∙ ap (λ o. option_map_or (names_of_port k) o []) here
    ∙ ap (λ o. option_map_or (λ q. q.streams) o []) there

pub ports_more : (xs : List Inlined) (site : Site) (inputs : List Input) (i : Input) → PortsStand xs site inputs
    → StandsFor xs (suc site.expansion) i (flat_map (λ n. sources_of xs site.expansion n.what) (port_names xs site (length inputs)))
    → PortsStand xs site (inputs ++ i ∷ [])
ports_more xs site inputs i stand last = record {
  each = λ j k here.
      elim (at_or_last inputs i j k here) [
        | inl h ↦ stand.each j k h
        | inr h ↦
            subst (λ n. StandsFor xs (suc site.expansion) k (flat_map (λ m. sources_of xs site.expansion m.what) (port_names xs site n))) (sym h.0)
            (subst (λ k. StandsFor xs (suc site.expansion) k (flat_map (λ m. sources_of xs site.expansion m.what) (port_names xs site (length inputs)))) h.1 last)
      ];
}

pub ports_next : (xs : List Inlined) (site : Site) (c : Composite) (row : List Input) (v : Invocation) (inputs : List Input) (i : Input) (k : ℕ) (q : InputPort) (names : List (Placed (List ℕ)))
    → IsBody xs site.expansion c row → slice_get c.graph site.invocation ≡ Some v → slice_get v.inputs k ≡ Some q → names ≡ q.streams → length inputs ≡ k → PortsStand xs site inputs
    → (port_names xs site k ≡ names → StandsFor xs (suc site.expansion) i (flat_map (λ n. sources_of xs site.expansion n.what) names)) → PortsStand xs site (inputs ++ i ∷ [])
ports_next xs site c row v inputs i k q names is here there own count stand last =
    let given : port_names xs site k ≡ names = names_there xs site c row v k q is here there ∙ sym own in
    ports_more xs site inputs i stand
    (subst (λ n. StandsFor xs (suc site.expansion) i (flat_map (λ m. sources_of xs site.expansion m.what) (port_names xs site n))) (sym count)
    (subst (λ ns. StandsFor xs (suc site.expansion) i (flat_map (λ m. sources_of xs site.expansion m.what) ns)) (sym given) (last given)))

-- the inputs of a body that is opened after the others
pub opened : (xs : List Inlined) (site : Site) (c : Composite) (row inputs : List Input) (y : Inlined) → IsBody xs site.expansion c row → PortsStand xs site inputs
    → y.site ≡ Some site → length inputs ≡ length y.composite.what.inputs → AreInputs (xs ++ y ∷ []) (length xs) y inputs
opened xs site c row inputs y is stand at count = record {
  count = count;
  each = λ j i here.
      let outside : site.expansion < length xs = slice_get_within xs site.expansion is.body is.here in
      let own = stand.each j i here in
      subst (StandsFor (xs ++ y ∷ []) (length xs) i)
      (sym (ap (λ s. input_sources (sources_of (xs ++ y ∷ [])) (xs ++ y ∷ []) s j) at ∙ input_before xs (y ∷ []) is.nested (suc site.expansion) (omega arith) (Some site) (omega arith) j))
      (later (xs ++ y ∷ []) (suc site.expansion) (length xs) i _ (omega arith)
      (stands_before xs (y ∷ []) is.nested (suc site.expansion) (omega arith) i (flat_map (λ n. sources_of xs site.expansion n.what) (port_names xs site j)) own));
}
