-- What the graph of a unit was made of, and which operator makes which stream.
use Rattle.std.specs.Prelude.{◌≡◌, ◌+◌, ◌<◌, ◌↔◌, ◌-◌, ℕ, zero, suc, List, [], ◌∷◌, ◌++◌, map, length, take, Option, Some, None, Ok, slice_get, ◌==◌, true, Bool, false, if◌then◌else◌}
use Rattle.std.specs.Option.{option_map, IfSome}
use Rattle.std.proofs.Common.{refl, sym, ap, ◌∙◌, subst, arith, inl, inr, eqb-true}
use Rattle.std.proofs.lemmas.List.{length-map}
use Rattle.std.proofs.lemmas.Option.{slice_get-map}
use Rattle.std.proofs.lemmas.Bool.{cases_lt}
use Rattle.std.proofs.lemmas.List.Sums.{sum_by-cons}
use Rattle.spl_tree.specs.declared.expression.Placed.{Placed}
use Rattle.spl_tree.specs.declared.graph.Graph.{Graph}
use Rattle.spl_tree.specs.declared.graph.Op.{Op}
use Rattle.spl_tree.specs.declared.graph.Stream.{Stream}
use Rattle.spl_tree.specs.declared.unit.Composite.{Composite}
use Rattle.spl_tree.specs.declared.unit.Definition.{Definition}
use Rattle.language_model.specs.Declarations.{first_of}
use Rattle.language_model.specs.declared.expansion.Operation.{Operation}
use Rattle.language_model.specs.Expansion.{Made, after, expanded_main, place_of}
use Rattle.language_model.specs.Flat.{flat_from, ordered, with_own_files}
use Rattle.language_model.proofs.parts.Flat.{graph_of, if_all_taken, files_had, if_none_had}
use Rattle.language_model.specs.FlatLaws.{IsMadeAs, MakerLaw}
use Rattle.language_model.specs.Numbering.{numbers_from, first_stream, ops_from, streams_from, is_site}
use Rattle.language_model.proofs.parts.Numbering.{op_of}
use Rattle.language_model.specs.Scopes.{At, at_place, first_from}
use Rattle.language_model.specs.Taking.{taken, first_untaken}
use Rattle.language_model.proofs.Options.{mapped}
use Rattle.graph_laws.proofs.ExpansionAnswers.{op_at}
use Rattle.language_model.proofs.FoundAnswers.{after_gives}
use Rattle.spl_value.proofs.Lists.{before_more as in_front}
use Rattle.std.specs.Str.{bytes_eq}
use Rattle.spl_tree.specs.declared.graph.Site.{Site}
use Rattle.spl_value.proofs.Bools.{and_parts}

-- ---- what a graph was made of

abbrev pub topo_of : Made → List ℕ
topo_of made = taken (streams_from 0 made.ops) (ops_from made 0 made.ops)

all_taken : (made : Made) (topo : List ℕ) (o : Option ℕ) (g : Graph) → if_all_taken made topo o ≡ Ok g → (o ≡ None) × (graph_of made topo ≡ g)
all_taken made topo None g e = (refl, cc)
all_taken made topo (Some n) g e = absurd cc

pub none_had : (h : Graph) (o : Option (Placed (List ℕ))) (g : Graph) → if_none_had h o ≡ Ok g → h ≡ g
none_had h None g e = cc
none_had h (Some file) g e = absurd cc

-- a graph is that of what was expanded, in an order that has all operators
pub record MadeOf (unit : List Definition) (main : At Composite) (g : Graph) : Type 0 where
  pub made : Made
  pub expanded : expanded_main unit main ≡ Ok made
  pub all : first_untaken (topo_of made) 0 (length made.ops) ≡ None
  pub is : g ≡ graph_of made (topo_of made)

pub made_of : (unit : List Definition) (names : List (List ℕ)) (main : At Composite) (g : Graph) → flat_from unit names main ≡ Ok g → MadeOf unit main g
made_of unit names main g e =
    let x = after_gives (expanded_main unit main) (λ made. after (ordered made) (with_own_files unit names)) g e in
    let y = after_gives (ordered x.0) (with_own_files unit names) g x.2 in
    let z = all_taken x.0 (topo_of x.0) (first_untaken (topo_of x.0) 0 (length x.0.ops)) y.0 y.1 in
    let own : y.0 ≡ g = none_had y.0 (first_of (map (λ f. f.file) (files_had unit names y.0.expansions y.0.ops))) g y.2 in
    record { made = x.0; expanded = x.1; all = z.0; is = sym (z.1 ∙ own) }

-- ---- elements of lists

pub behind : {A : Type 0} (xs ys : List A) (i j : ℕ) → i ≡ length xs + j → slice_get (xs ++ ys) i ≡ slice_get ys j
behind [] ys i j e = let same : i ≡ j = omega arith in ap (slice_get ys) same
behind (x ∷ xs) ys zero j e = absurd (omega arith)
behind (x ∷ xs) ys (suc i) j e = behind xs ys i j (omega arith)

pub numbers_within : (n count i : ℕ) → i < count → slice_get (numbers_from n count) i ≡ Some (n + i)
numbers_within n zero i lt = absurd (omega arith)
numbers_within n (suc count) zero lt = let same : n ≡ n + 0 = omega arith in ap Some same
numbers_within n (suc count) (suc i) lt =
    let same : suc n + i ≡ n + suc i = omega arith in numbers_within (suc n) count i (omega arith) ∙ ap Some same

numbers_there : (n count i m : ℕ) → slice_get (numbers_from n count) i ≡ Some m → (i < count) × (m ≡ n + i)
numbers_there n zero i m e = absurd cc
numbers_there n (suc count) zero m e = let same : n ≡ m = cc in (omega arith, omega arith)
numbers_there n (suc count) (suc i) m e = let h = numbers_there (suc n) count i m e in (omega arith, omega arith)

pub numbers_length : (n count : ℕ) → length (numbers_from n count) ≡ count
numbers_length n zero = refl
numbers_length n (suc count) = ap suc (numbers_length (suc n) count)

-- ---- operators and streams of a graph

pub op_there : (made : Made) (n : ℕ) (o : Operation) → slice_get made.ops n ≡ Some o → slice_get (ops_from made 0 made.ops) n ≡ Some (op_of made n o)
op_there made n o e =
    let same : 0 + n ≡ n = omega arith in
    op_at made 0 made.ops n ∙ ap (λ i. option_map (op_of made i) (slice_get made.ops n)) same ∙ ap (option_map (op_of made n)) e

abbrev stream_by : ℕ → ℕ → Stream
stream_by n port = record { maker = n; port = port }

-- the streams of one operator
abbrev streams_by : ℕ → Operation → List Stream
streams_by n o = map (stream_by n) (numbers_from 0 o.outputs)

by_length : (n : ℕ) (o : Operation) → length (streams_by n o) ≡ o.outputs
by_length n o = length-map (numbers_from 0 o.outputs) (stream_by n) ∙ numbers_length 0 o.outputs

by_at : (n : ℕ) (o : Operation) (port : ℕ) → slice_get (streams_by n o) port ≡ option_map (stream_by n) (slice_get (numbers_from 0 o.outputs) port)
by_at n o port = slice_get-map (stream_by n) (numbers_from 0 o.outputs) port

later_first : (o : Operation) (ops : List Operation) (m : ℕ) → first_stream (o ∷ ops) (suc m) ≡ o.outputs + first_stream ops m
later_first o ops m = sum_by-cons (λ op. op.outputs) o (take m ops)

-- a stream of an operator is at its number
stream_at : (n : ℕ) (ops : List Operation) (m port : ℕ) (o : Operation) (k : ℕ) → slice_get ops m ≡ Some o → port < o.outputs → k ≡ first_stream ops m + port
    → slice_get (streams_from n ops) k ≡ Some (stream_by (n + m) port)
stream_at n [] m port o k there lt e = absurd cc
stream_at n (p ∷ ops) zero port o k there lt e =
    let same : p ≡ o = cc in let lt_p : port < p.outputs = rw same lt in let e_k : k ≡ port = omega arith in
    let within : k < length (streams_by n p) = omega (arith, by_length n p) in
    in_front (streams_by n p) (streams_from (suc n) ops) k within
    ∙ by_at n p k
    ∙ ap (option_map (stream_by n)) (numbers_within 0 p.outputs k (omega arith))
    ∙ (let first : n ≡ n + 0 = omega arith in let second : 0 + k ≡ port = omega arith in rw (second, ← first) refl)
stream_at n (p ∷ ops) (suc m) port o k there lt e =
    let same : suc n + m ≡ n + suc m = omega arith in
    behind (streams_by n p) (streams_from (suc n) ops) k (first_stream ops m + port) (omega (arith, by_length n p, later_first p ops m))
    ∙ stream_at (suc n) ops m port o (first_stream ops m + port) there lt refl
    ∙ ap (λ i. Some (stream_by i port)) same

-- the operator whose stream stands at a number
record By (ops : List Operation) (n k : ℕ) (s : Stream) : Type 0 where
  pub number : ℕ
  pub op : Operation
  pub there : slice_get ops number ≡ Some op
  pub maker : s.maker ≡ n + number
  pub within : s.port < op.outputs
  pub at : k ≡ first_stream ops number + s.port

by_later : (p : Operation) (ops : List Operation) (n k j : ℕ) (s : Stream) → k ≡ p.outputs + j → By ops (suc n) j s → By (p ∷ ops) n k s
by_later p ops n k j s e b = record {
  number = suc b.number;
  op = b.op;
  there = b.there;
  within = b.within;
  maker = omega (arith, b.maker);
  at = omega (arith, b.at, later_first p ops b.number);
}

by_here : (p : Operation) (ops : List Operation) (n k : ℕ) (s : Stream) → slice_get (streams_by n p) k ≡ Some s → By (p ∷ ops) n k s
by_here p ops n k s e =
    let x = mapped (stream_by n) (slice_get (numbers_from 0 p.outputs) k) s (sym (by_at n p k) ∙ e) in
    let y = numbers_there 0 p.outputs k x.0 x.1 in
    let maker : s.maker ≡ n = ap (λ (t : Stream). t.maker) (sym x.2) in
    let port : s.port ≡ x.0 = ap (λ (t : Stream). t.port) (sym x.2) in
    record { number = 0; op = p; there = refl; maker = omega (arith, maker); within = omega (arith, y.0, y.1, port); at = omega (arith, y.1, port) }

made_by : (n : ℕ) (ops : List Operation) (k : ℕ) (s : Stream) → slice_get (streams_from n ops) k ≡ Some s → By ops n k s
made_by n [] k s e = absurd cc
made_by n (p ∷ ops) k s e = elim (cases_lt k p.outputs) [
  | inl lt ↦
      let within : k < length (streams_by n p) = omega (arith, by_length n p) in
      by_here p ops n k s (sym (in_front (streams_by n p) (streams_from (suc n) ops) k within) ∙ e)
  | inr le ↦
      let same : k ≡ p.outputs + (k - p.outputs) = omega arith in
      let split : k ≡ length (streams_by n p) + (k - p.outputs) = omega (arith, by_length n p) in
      by_later p ops n k (k - p.outputs) s same
      (made_by (suc n) ops (k - p.outputs) s (sym (behind (streams_by n p) (streams_from (suc n) ops) k (k - p.outputs) split) ∙ e))
]

-- ---- each stream has one maker

one_maker : (made : Made) (topo : List ℕ) (number : ℕ) (s : Stream) → (slice_get (graph_of made topo).streams number ≡ Some s) ↔ IsMadeAs (graph_of made topo) s number
one_maker made topo number s = (to, from)
  where
    to : slice_get (streams_from 0 made.ops) number ≡ Some s → IsMadeAs (graph_of made topo) s number
    to e =
        let b = made_by 0 made.ops number s e in
        let at_maker : s.maker ≡ b.number = omega (arith, b.maker) in
        let first : first_stream made.ops s.maker + s.port ≡ number = rw at_maker (sym b.at) in (
          op_of made s.maker b.op,
          op_there made s.maker b.op (ap (slice_get made.ops) at_maker ∙ b.there),
          numbers_within (first_stream made.ops s.maker) b.op.outputs s.port b.within ∙ ap Some first,
        )

    from : IsMadeAs (graph_of made topo) s number → slice_get (streams_from 0 made.ops) number ≡ Some s
    from h =
        let x = mapped (op_of made (0 + s.maker)) (slice_get made.ops s.maker) h.0 (sym (op_at made 0 made.ops s.maker) ∙ h.1) in
        let zero_more : 0 + s.maker ≡ s.maker = omega arith in
        let outs : h.0.outs ≡ numbers_from (first_stream made.ops s.maker) x.0.outputs =
        ap (λ (o : Op). o.outs) (sym x.2) ∙ ap (λ n. numbers_from (first_stream made.ops n) x.0.outputs) zero_more in
        let y = numbers_there (first_stream made.ops s.maker) x.0.outputs s.port number (sym (ap (λ ks. slice_get ks s.port) outs) ∙ h.2) in
        stream_at 0 made.ops s.maker s.port x.0 number x.1 y.0 y.1 ∙ ap (λ n. Some (stream_by n s.port)) zero_more

pub maker_law : MakerLaw
maker_law unit names main g e number s =
    let m = made_of unit names main g e in
    subst (λ (h : Graph). (slice_get h.streams number ≡ Some s) ↔ IsMadeAs h s number) (sym m.is) (one_maker m.made (topo_of m.made) number s)

-- the place of a name is within the list
within_from : {A : Type 0} (p : A → Bool) (i : ℕ) (xs : List A) → IfSome (option_map (λ n. n.place) (first_from p i xs)) (λ k. k < i + length xs)
within_from p i [] = tt
within_from p i (x ∷ xs) =
    elim (p x) as (λ b. IfSome (option_map (λ n. n.place) (if b then Some (at_place i x) else first_from p (suc i) xs)) (λ k. k < i + suc (length xs))) [
      | true ↦ omega arith
      | false ↦ shifted (option_map (λ n. n.place) (first_from p (suc i) xs)) (within_from p (suc i) xs)
    ]
  where
    shifted : (o : Option ℕ) → IfSome o (λ k. k < suc i + length xs) → IfSome o (λ k. k < i + suc (length xs))
    shifted None h = tt
    shifted (Some k) h = omega arith

pub place_within : (name : List ℕ) (names : List (List ℕ)) (k : ℕ) → place_of name names ≡ Some k → k < length names
place_within name names k is =
    let h : k < 0 + length names = subst (λ o. IfSome o (λ k. k < 0 + length names)) is (within_from (λ n. bytes_eq n name) 0 names) in
    omega arith

pub same_site : (s t : Site) → is_site s t ≡ true → s ≡ t
same_site s t e =
    let h = and_parts (s.expansion == t.expansion) (s.invocation == t.invocation) e in
    λ i. record { expansion = eqb-true s.expansion t.expansion h.0 i; invocation = eqb-true s.invocation t.invocation h.1 i }
