-- Of the names of a port at least as many are counted as the port has streams.
use Rattle.std.specs.Prelude.{◌≡◌, ◌+◌, ◌<◌, ◌≤◌, ◌^◌, ℕ, zero, suc, List, [], ◌∷◌, ◌++◌, map, flat_map, filter_map, length, Option, Some, None, slice_get}
use Rattle.std.specs.List.{cons_option}
use Rattle.std.specs.Option.{option_and_then, option_map, option_map_or}
use Rattle.std.proofs.Common.{refl, sym, ap, ◌∙◌, subst, arith, length-append}
use Rattle.std.proofs.lemmas.List.{length-map}
use Rattle.std.proofs.lemmas.List.Concat.{flat_map-cons}
use Rattle.std.proofs.lemmas.Option.{same_Some, slice_get-map, slice_get_within}
use Rattle.spl_tree.specs.declared.expression.Placed.{Placed}
use Rattle.spl_tree.specs.declared.graph.Site.{Site}
use Rattle.spl_tree.specs.declared.unit.InputPort.{InputPort}
use Rattle.spl_tree.specs.declared.unit.Invocation.{Invocation}
use Rattle.language_model.specs.declared.expansion.Operation.{Operation}
use Rattle.language_model.specs.declared.expansion.Source.{Source}
use Rattle.language_model.specs.Expansion.{Inlined, Made, input_sources, names_of_port, place_of, port_names, sources_of, taken_in}
use Rattle.language_model.specs.parts.Expansion.{connections_of, ports_of}
use Rattle.language_model.proofs.parts.Expansion.{own_or_input}
use Rattle.language_model.specs.Invoking.{input_names, stream_names}
use Rattle.language_model.specs.Numbering.{input_streams, numbers_from, stream_of, streams_of}
use Rattle.language_model.proofs.parts.Numbering.{expansion_of}
use Rattle.language_model.specs.StreamTypes.{Body, name_places, taken_by}
use Rattle.language_model.specs.parts.StreamTypes.{so_often}
use Rattle.spl_value.proofs.Lists.{at_most_sum}
use Rattle.graph_laws.proofs.Flattening.{numbers_within, place_within}

-- ---- lists

flat_map_same : {A B : Type 0} (f g : A → List B) → ((x : A) → f x ≡ g x) → (xs : List A) → flat_map f xs ≡ flat_map g xs
flat_map_same f g same [] = refl
flat_map_same f g same (x ∷ xs) = flat_map-cons f x xs ∙ (λ i. same x i ++ flat_map_same f g same xs i) ∙ sym (flat_map-cons g x xs)

filter_map_within : {A B : Type 0} (f : A → Option B) (xs : List A) → length (filter_map f xs) ≤ length xs
filter_map_within f [] = omega arith
filter_map_within {A = A} {B = B} f (x ∷ xs) = with_first (f x) (filter_map_within f xs)
  where
    with_first : (o : Option B) → length (filter_map f xs) ≤ length xs → length (cons_option o (filter_map f xs)) ≤ suc (length xs)
    with_first None le = omega arith
    with_first (Some y) le = omega arith

often_length : (count at : ℕ) → length (so_often count at) ≡ count
often_length zero at = refl
often_length (suc count) at = ap suc (often_length count at)

pub number_at : (count k : ℕ) → k < count → slice_get (numbers_from 0 count) k ≡ Some k
number_at count k lt = let same : 0 + k ≡ k = omega arith in numbers_within 0 count k lt ∙ ap Some same

-- ---- what names mean

-- a name means the same with more bodies after these
module _ (earlier bodies : List Inlined) (front : (k : ℕ) → k < length earlier → slice_get bodies k ≡ slice_get earlier k)
    (behind : (k : ℕ) (e : Inlined) (s : Site) → slice_get bodies k ≡ Some e → e.site ≡ Some s → s.expansion < k) where
  port_names_same : (s : Site) (k : ℕ) → s.expansion < length earlier → port_names earlier s k ≡ port_names bodies s k
  port_names_same s k lt =
      ap (λ o. option_map_or (λ (e : Inlined). option_map_or (names_of_port k) (slice_get e.composite.what.graph s.invocation) []) o []) (sym (front s.expansion lt))

  inputs_same : (outside others : ℕ → List ℕ → List Source) (number : ℕ) (o : Option Site) (k : ℕ) → number < length earlier
      → ((s : Site) → o ≡ Some s → s.expansion < number) → ((m : ℕ) (name : List ℕ) → m < number → outside m name ≡ others m name)
      → input_sources outside earlier o k ≡ input_sources others bodies o k
  inputs_same outside others number None k lt before same = refl
  inputs_same outside others number (Some s) k lt before same =
      let less : s.expansion < number = before s refl in
      let within : s.expansion < length earlier = omega arith in
      flat_map_same (λ n. outside s.expansion n.what) (λ n. others s.expansion n.what) (λ n. same s.expansion n.what less) (port_names earlier s k)
      ∙ ap (flat_map (λ (n : Placed (List ℕ)). others s.expansion n.what)) (port_names_same s k within)

  own_same : (outside others : ℕ → List ℕ → List Source) (number : ℕ) (e : Inlined) (name : List ℕ) (o : Option ℕ) → number < length earlier
      → ((s : Site) → e.site ≡ Some s → s.expansion < number) → ((m : ℕ) (name : List ℕ) → m < number → outside m name ≡ others m name)
      → own_or_input outside earlier number e name o ≡ own_or_input others bodies number e name o
  own_same outside others number e name (Some k) lt before same = refl
  own_same outside others number e name None lt before same = at_place (place_of name (input_names e.composite.what))
    where
      at_place : (q : Option ℕ) → option_map_or (input_sources outside earlier e.site) q [] ≡ option_map_or (input_sources others bodies e.site) q []
      at_place None = refl
      at_place (Some k) = inputs_same outside others number e.site k lt before same

  body_same : (outside others : ℕ → List ℕ → List Source) (number : ℕ) (name : List ℕ) (o : Option Inlined) → slice_get earlier number ≡ o → number < length earlier
      → ((m : ℕ) (name : List ℕ) → m < number → outside m name ≡ others m name)
      → option_map_or (λ e. own_or_input outside earlier number e name (place_of name (stream_names e.composite.what))) o []
      ≡ option_map_or (λ e. own_or_input others bodies number e name (place_of name (stream_names e.composite.what))) o []
  body_same outside others number name None e lt same = refl
  body_same outside others number name (Some x) e lt same =
      own_same outside others number x name (place_of name (stream_names x.composite.what)) lt (λ s at. behind number x s (front number lt ∙ e) at) same

  taken_same : (count other number : ℕ) (name : List ℕ) → number < length earlier → number < count → number < other
      → taken_in count earlier number name ≡ taken_in other bodies number name
  taken_same zero other number name lt a b = absurd (omega arith)
  taken_same (suc count) zero number name lt a b = absurd (omega arith)
  taken_same (suc count) (suc other) number name lt a b =
      body_same (taken_in count earlier) (taken_in other bodies) number name (slice_get earlier number) refl lt
      (λ m n less. taken_same count other m n (omega arith) (omega arith) (omega arith))
      ∙ ap (λ o. option_map_or (λ (e : Inlined). own_or_input (taken_in other bodies) bodies number e name (place_of name (stream_names e.composite.what))) o [])
      (sym (front number lt))

-- ---- how many streams a name means

-- the body of an operator, in a graph
abbrev pub body_of : Made → ℕ → Inlined → Body
body_of made number e = record { number = number; expansion = expansion_of made number e; composite = e.composite.what }

module _ (made : Made) (earlier : List Inlined) (front : (k : ℕ) → k < length earlier → slice_get made.expansions k ≡ slice_get earlier k)
    (behind : (k : ℕ) (e : Inlined) (s : Site) → slice_get made.expansions k ≡ Some e → e.site ≡ Some s → s.expansion < k)
    (number : ℕ) (e : Inlined) (there : slice_get earlier number ≡ Some e) where
  abbrev all : List Inlined
  all = made.expansions

  sources_are : (name : List ℕ)
      → sources_of earlier number name ≡ own_or_input (sources_of all) all number e name (place_of name (stream_names e.composite.what))
  sources_are name =
      let lt : number < length earlier = slice_get_within earlier number e there in
      let at : slice_get all number ≡ Some e = front number lt ∙ there in
      let within : number < length all = slice_get_within all number e at in
      taken_same earlier all front behind (length earlier) (suc (length all)) number name lt lt (omega arith)
      ∙ ap (λ o. option_map_or (λ (x : Inlined). own_or_input (sources_of all) all number x name (place_of name (stream_names x.composite.what))) o []) at

  abbrev input_taken : ℕ → List Source
  input_taken k = input_sources (sources_of all) all e.site k

  input_there : (k : ℕ) → k < length e.composite.what.inputs → slice_get (expansion_of made number e).inputs k ≡ Some (input_streams made (input_taken k))
  input_there k lt =
      slice_get-map (λ k. input_streams made (input_taken k)) (numbers_from 0 (length e.composite.what.inputs)) k
      ∙ ap (option_map (λ k. input_streams made (input_taken k))) (number_at (length e.composite.what.inputs) k lt)

  counted : (name : List ℕ) (o : Option ℕ) → place_of name (input_names e.composite.what) ≡ o → length (option_map_or input_taken o []) < 2 ^ 30
      → length (option_map_or input_taken o []) ≤ option_map_or (λ i. i.count) (option_and_then (slice_get (expansion_of made number e).inputs) o) 0
  counted name None is few = omega arith
  counted name (Some k) is few =
      let named : k < length (input_names e.composite.what) = place_within name (input_names e.composite.what) k is in
      let lt : k < length e.composite.what.inputs = simp length-map at named in
      let few_taken : length (input_taken k) < 2 ^ 30 = few in
      subst (λ o. length (input_taken k) ≤ option_map_or (λ i. i.count) o 0) (sym (input_there k lt)) (omega arith)

  own_counted : (name : List ℕ) (o : Option ℕ) → length (own_or_input (sources_of all) all number e name o) < 2 ^ 30
      → length (own_or_input (sources_of all) all number e name o) ≤ taken_by (body_of made number e) name o
  own_counted name (Some k) few = omega arith
  own_counted name None few = counted name (place_of name (input_names e.composite.what)) refl few

  name_counted : (name : List ℕ) → length (sources_of earlier number name) < 2 ^ 30
      → length (sources_of earlier number name) ≤ taken_by (body_of made number e) name (place_of name (stream_names e.composite.what))
  name_counted name few =
      let few_own : length (own_or_input (sources_of all) all number e name (place_of name (stream_names e.composite.what))) < 2 ^ 30 =
      subst (λ (l : List Source). length l < 2 ^ 30) (sources_are name) few in
      subst (λ (l : List Source). length l ≤ taken_by (body_of made number e) name (place_of name (stream_names e.composite.what))) (sym (sources_are name))
      (own_counted name (place_of name (stream_names e.composite.what)) few_own)

  abbrev taken_by_name : Placed (List ℕ) → List Source
  taken_by_name n = sources_of earlier number n.what

  abbrev places_of_name : Placed (List ℕ) → List ℕ
  places_of_name n = so_often (taken_by (body_of made number e) n.what (place_of n.what (stream_names e.composite.what))) n.at

  names_counted : (names : List (Placed (List ℕ))) → length (flat_map taken_by_name names) < 2 ^ 30
      → length (flat_map taken_by_name names) ≤ length (flat_map places_of_name names)
  names_counted [] few = omega arith
  names_counted (n ∷ names) few =
      let split : length (flat_map taken_by_name (n ∷ names)) ≡ length (taken_by_name n) + length (flat_map taken_by_name names) =
      ap length (flat_map-cons taken_by_name n names) ∙ length-append (taken_by_name n) (flat_map taken_by_name names) in
      let placed : length (flat_map places_of_name (n ∷ names)) ≡ length (places_of_name n) + length (flat_map places_of_name names) =
      ap length (flat_map-cons places_of_name n names) ∙ length-append (places_of_name n) (flat_map places_of_name names) in
      let often : length (places_of_name n) ≡ taken_by (body_of made number e) n.what (place_of n.what (stream_names e.composite.what)) =
      often_length (taken_by (body_of made number e) n.what (place_of n.what (stream_names e.composite.what))) n.at in
      let few_first : length (taken_by_name n) < 2 ^ 30 = omega (arith, split, few) in
      let few_rest : length (flat_map taken_by_name names) < 2 ^ 30 = omega (arith, split, few) in
      let first : length (taken_by_name n) ≤ taken_by (body_of made number e) n.what (place_of n.what (stream_names e.composite.what)) = name_counted n.what few_first in
      let rest : length (flat_map taken_by_name names) ≤ length (flat_map places_of_name names) = names_counted names few_rest in
      omega (arith, split, placed, often, first, rest)

-- ---- what a port takes

pub streams_within : (made : Made) (xs : List Source) → length (streams_of made xs) ≤ length xs
streams_within made xs = filter_map_within (stream_of (length made.expansions) made) xs

-- a port of an operator has no more streams than its names are counted
pub port_counted : (made : Made) (o : Operation) (earlier : List Inlined) (e : Inlined) (i : Invocation)
    → ((k : ℕ) → k < length earlier → slice_get made.expansions k ≡ slice_get earlier k)
    → ((k : ℕ) (d : Inlined) (s : Site) → slice_get made.expansions k ≡ Some d → d.site ≡ Some s → s.expansion < k)
    → slice_get earlier o.site.expansion ≡ Some e → o.ins ≡ ports_of earlier o.site.expansion i → connections_of o < 2 ^ 30
    → (k : ℕ) (q : InputPort) (streams : List ℕ) → slice_get i.inputs k ≡ Some q → slice_get (map (streams_of made) o.ins) k ≡ Some streams
    → length streams ≤ length (name_places (body_of made o.site.expansion e) q)
port_counted made o earlier e i front behind there ins few k q streams at taken =
    let xs = flat_map (λ (n : Placed (List ℕ)). sources_of earlier o.site.expansion n.what) q.streams in
    let port : slice_get o.ins k ≡ Some xs =
    ap (λ l. slice_get l k) ins
    ∙ slice_get-map (λ (q : InputPort). flat_map (λ (n : Placed (List ℕ)). sources_of earlier o.site.expansion n.what) q.streams) i.inputs k
    ∙ ap (option_map (λ (q : InputPort). flat_map (λ (n : Placed (List ℕ)). sources_of earlier o.site.expansion n.what) q.streams)) at in
    let is : streams_of made xs ≡ streams =
    same_Some (streams_of made xs) streams (sym (slice_get-map (streams_of made) o.ins k ∙ ap (option_map (streams_of made)) port) ∙ taken) in
    let le : length xs ≤ connections_of o = at_most_sum length o.ins k xs port in
    let few_taken : length xs < 2 ^ 30 = omega (arith, le, few) in
    let counted = names_counted made earlier front behind o.site.expansion e there q.streams few_taken in
    let fewer : length (streams_of made xs) ≤ length xs = streams_within made xs in
    subst (λ (l : List ℕ). length l ≤ length (name_places (body_of made o.site.expansion e) q)) is (omega (arith, fewer, counted))
