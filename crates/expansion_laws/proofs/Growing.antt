-- What is known of the bodies and operators that an expansion has made so far.
use Rattle.std.specs.Prelude.{◌≡◌, ◌<◌, ℕ, zero, suc, true, List, [], ◌∷◌, ◌++◌, map, flat_map, length, codes, Option, Some, None, slice_get}
use Rattle.std.specs.Option.{option_map_or}
use Rattle.std.proofs.Common.{refl, sym, ap, ◌∙◌, arith}
use Rattle.std.proofs.lemmas.Option.{slice_get_within}
use Rattle.spl_tree.specs.declared.expression.Placed.{Placed}
use Rattle.spl_tree.specs.declared.graph.Site.{Site}
use Rattle.spl_tree.specs.declared.unit.Composite.{Composite}
use Rattle.spl_tree.specs.declared.unit.Definition.{Definition}
use Rattle.spl_tree.specs.declared.unit.InputPort.{InputPort}
use Rattle.spl_tree.specs.declared.unit.Invocation.{Invocation}
use Rattle.language_model.specs.declared.expansion.Operation.{Operation}
use Rattle.language_model.specs.declared.expansion.Source.{Source}
use Rattle.language_model.specs.Composites.{has_no_ports}
use Rattle.language_model.specs.Expansion.{Made, Inlined, invocation_name, place_of, names_of_port, port_names, input_sources, taken_in}
use Rattle.language_model.proofs.parts.Expansion.{own_or_input}
use Rattle.language_model.specs.parts.Expansion.{ports_of}
use Rattle.language_model.specs.Invoking.{Operator, Body, target_of, fits_head, stream_names, input_names}
use Rattle.language_model.specs.parts.Invoking.{is_readable}
use Rattle.graph_laws.proofs.Inlining.{Grows}
use Rattle.expansion_laws.specs.Bodies.{IsBefore}

-- ---- bodies

-- where a body lies
pub data LiesIn (es : List Inlined) : ℕ → List ℕ → List ℕ → Type 0 where
  main_lies : (n : ℕ) (e : Inlined) → slice_get es n ≡ Some e → e.site ≡ None → LiesIn es n [] []
  body_lies : (n : ℕ) (e outer : Inlined) (s : Site) (i : Invocation) (way prefix : List ℕ) → slice_get es n ≡ Some e → e.site ≡ Some s
      → slice_get es s.expansion ≡ Some outer → slice_get outer.composite.what.graph s.invocation ≡ Some i → LiesIn es s.expansion way prefix
      → LiesIn es n (way ++ s.invocation ∷ []) (prefix ++ invocation_name i ++ codes ".")

pub lies_on : (xs ys : List Inlined) → Grows xs ys → (n : ℕ) (way prefix : List ℕ) → LiesIn xs n way prefix → LiesIn ys n way prefix
lies_on xs ys grows n way prefix (main_lies m e at is) = main_lies m e (grows m e at) is
lies_on xs ys grows n way prefix (body_lies m e outer s i w p at is there invoked lies) =
    body_lies m e outer s i w p (grows m e at) is (grows s.expansion outer there) invoked (lies_on xs ys grows s.expansion w p lies)

-- each name at an input is one that may be read
abbrev pub AreReadable : Composite → List (Placed (List ℕ)) → Type 0
AreReadable c ns = (j : ℕ) (n : Placed (List ℕ)) → slice_get ns j ≡ Some n → is_readable c n.what ≡ true

abbrev pub IsReadable : Composite → Invocation → Type 0
IsReadable c i = (k : ℕ) (q : InputPort) → slice_get i.inputs k ≡ Some q → AreReadable c q.streams

-- a body in another one: that one stands in front, and its invocation is of this composite and fits
pub record IsInner (unit : List Definition) (es : List Inlined) (k : ℕ) (s : Site) (e : Inlined) : Type 0 where
  pub before : s.expansion < k
  pub outer : Inlined
  pub outer_at : slice_get es s.expansion ≡ Some outer
  pub invocation : Invocation
  pub invoked : slice_get outer.composite.what.graph s.invocation ≡ Some invocation
  pub target : target_of unit invocation.operator.what ≡ Body e.composite
  pub fits : fits_head e.composite.what invocation ≡ true
  pub readable : IsReadable outer.composite.what invocation

pub data IsWired (unit : List Definition) (es : List Inlined) (k : ℕ) (e : Inlined) : Type 0 where
  wired_main : e.site ≡ None → has_no_ports e.composite.what ≡ true → IsWired unit es k e
  wired_inner : (s : Site) → e.site ≡ Some s → IsInner unit es k s e → IsWired unit es k e

pub wired_on : (unit : List Definition) (xs ys : List Inlined) → Grows xs ys → (k : ℕ) (e : Inlined) → IsWired unit xs k e → IsWired unit ys k e
wired_on unit xs ys grows k e (wired_main none ports) = wired_main none ports
wired_on unit xs ys grows k e (wired_inner s is w) =
    wired_inner s is record {
      before = w.before;
      outer = w.outer;
      outer_at = grows s.expansion w.outer w.outer_at;
      invocation = w.invocation;
      invoked = w.invoked;
      target = w.target;
      fits = w.fits;
      readable = w.readable;
    }

abbrev pub AreWired : List Definition → List Inlined → Type 0
AreWired unit es = (k : ℕ) (e : Inlined) → slice_get es k ≡ Some e → IsWired unit es k e

-- ---- what ports take doesn't change with more bodies

abbrev at_name : (ℕ → List ℕ → List Source) → List Inlined → ℕ → List ℕ → Option Inlined → List Source
at_name outside es k name o = option_map_or (λ e. own_or_input outside es k e name (place_of name (stream_names e.composite.what))) o []

abbrev names_at : Site → ℕ → Option Inlined → List (Placed (List ℕ))
names_at s port o = option_map_or (λ e. option_map_or (names_of_port port) (slice_get e.composite.what.graph s.invocation) []) o []

abbrev ports_by : (List ℕ → List Source) → Invocation → List (List Source)
ports_by f i = map (λ q. flat_map (λ n. f n.what) q.streams) i.inputs

own_same : (f g : ℕ → List ℕ → List Source) (xs ys : List Inlined) (k : ℕ) (e : Inlined) (name : List ℕ)
    → ((port : ℕ) → input_sources f xs e.site port ≡ input_sources g ys e.site port)
    → (o : Option ℕ) → own_or_input f xs k e name o ≡ own_or_input g ys k e name o
own_same f g xs ys k e name same (Some place) = refl
own_same f g xs ys k e name same None = by_port (place_of name (input_names e.composite.what))
  where
    by_port : (q : Option ℕ) → option_map_or (input_sources f xs e.site) q [] ≡ option_map_or (input_sources g ys e.site) q []
    by_port None = refl
    by_port (Some port) = same port

module _ (unit : List Definition) (xs ys : List Inlined) (grows : Grows xs ys) (wired : AreWired unit xs) where
  abbrev Same : ℕ → ℕ → Type 0
  Same a b = (k : ℕ) (e : Inlined) → slice_get xs k ≡ Some e → k < a → k < b → (name : List ℕ) → taken_in a xs k name ≡ taken_in b ys k name

  same_inputs : (a b : ℕ) → Same a b → (k : ℕ) (e : Inlined) → k < suc a → k < suc b → (port : ℕ) (o : Option Site) → e.site ≡ o → IsWired unit xs k e
      → input_sources (taken_in a xs) xs o port ≡ input_sources (taken_in b ys) ys o port
  same_inputs a b same k e lt less port None is w = refl
  same_inputs a b same k e lt less port (Some s) is (wired_main none ports) = absurd (let h : None ≡ Some s = sym none ∙ is in cc)
  same_inputs a b same k e lt less port (Some s) is (wired_inner t there w) =
      let one : t ≡ s = (let h : Some t ≡ Some s = sym there ∙ is in cc) in
      let number : t.expansion ≡ s.expansion = ap (λ (x : Site). x.expansion) one in
      let before : s.expansion < k = omega (arith, w.before, number) in
      let outer_at : slice_get xs s.expansion ≡ Some w.outer = ap (slice_get xs) (sym number) ∙ w.outer_at in
      let names : port_names xs s port ≡ port_names ys s port = ap (names_at s port) outer_at ∙ ap (names_at s port) (sym (grows s.expansion w.outer outer_at)) in
      ap (flat_map (λ n. taken_in a xs s.expansion n.what)) names
      ∙ (λ i. flat_map (λ n. same s.expansion w.outer outer_at (omega (arith, before, lt)) (omega (arith, before, less)) n.what i) (port_names ys s port))

  pub same_taken : (a b : ℕ) → Same a b
  same_taken zero b k e at lt less name = absurd (omega arith)
  same_taken (suc a) zero k e at lt less name = absurd (omega arith)
  same_taken (suc a) (suc b) k e at lt less name =
      ap (at_name (taken_in a xs) xs k name) at
      ∙ own_same (taken_in a xs) (taken_in b ys) xs ys k e name (λ port. same_inputs a b (same_taken a b) k e lt less port e.site refl (wired k e at)) (place_of name (stream_names e.composite.what))
      ∙ ap (at_name (taken_in b ys) ys k name) (sym (grows k e at))

  pub same_ports : (k : ℕ) (e : Inlined) (i : Invocation) → slice_get xs k ≡ Some e → ports_of xs k i ≡ ports_of ys k i
  same_ports k e i at =
      let lt = slice_get_within xs k e at in
      let less = slice_get_within ys k e (grows k e at) in
      λ j. ports_by (λ name. same_taken (length xs) (length ys) k e at lt less name j) i

-- ---- operators

-- an operator: the invocation that it is of, where that lies, its name, and what it takes
pub record IsSet (unit : List Definition) (es : List Inlined) (o : Operation) : Type 0 where
  pub body : Inlined
  pub invocation : Invocation
  pub in_bodies : slice_get es o.site.expansion ≡ Some body
  pub in_graph : slice_get body.composite.what.graph o.site.invocation ≡ Some invocation
  pub target : target_of unit invocation.operator.what ≡ Operator o.kind
  pub way : List ℕ
  pub prefix : List ℕ
  pub lies : LiesIn es o.site.expansion way prefix
  pub name : o.name ≡ prefix ++ invocation_name invocation
  pub ins : o.ins ≡ ports_of es o.site.expansion invocation
  pub outputs : o.outputs ≡ length invocation.outputs
  pub readable : IsReadable body.composite.what invocation

pub set_on : (unit : List Definition) (xs ys : List Inlined) → Grows xs ys → AreWired unit xs → (o : Operation) → IsSet unit xs o → IsSet unit ys o
set_on unit xs ys grows wired o s = record {
  body = s.body;
  invocation = s.invocation;
  in_bodies = grows o.site.expansion s.body s.in_bodies;
  in_graph = s.in_graph;
  target = s.target;
  way = s.way;
  prefix = s.prefix;
  lies = lies_on xs ys grows o.site.expansion s.way s.prefix s.lies;
  name = s.name;
  ins = s.ins ∙ same_ports unit xs ys grows wired o.site.expansion s.body s.invocation s.in_bodies;
  outputs = s.outputs;
  readable = s.readable;
}

-- the first stands in front of the second in the text
pub record IsParted (es : List Inlined) (o q : Operation) : Type 0 where
  pub first : List ℕ
  pub first_prefix : List ℕ
  pub second : List ℕ
  pub second_prefix : List ℕ
  pub first_lies : LiesIn es o.site.expansion first first_prefix
  pub second_lies : LiesIn es q.site.expansion second second_prefix
  pub before : IsBefore (first ++ o.site.invocation ∷ []) (second ++ q.site.invocation ∷ [])

pub parted_on : (xs ys : List Inlined) → Grows xs ys → (o q : Operation) → IsParted xs o q → IsParted ys o q
parted_on xs ys grows o q p = record {
  first = p.first;
  first_prefix = p.first_prefix;
  second = p.second;
  second_prefix = p.second_prefix;
  first_lies = lies_on xs ys grows o.site.expansion p.first p.first_prefix p.first_lies;
  second_lies = lies_on xs ys grows q.site.expansion p.second p.second_prefix p.second_lies;
  before = p.before;
}

-- two bodies lie apart
pub record AreApart (es : List Inlined) (j l : ℕ) : Type 0 where
  pub first : List ℕ
  pub first_prefix : List ℕ
  pub second : List ℕ
  pub second_prefix : List ℕ
  pub first_lies : LiesIn es j first first_prefix
  pub second_lies : LiesIn es l second second_prefix
  pub apart : first ≡ second → ⊥

pub apart_on : (xs ys : List Inlined) → Grows xs ys → (j l : ℕ) → AreApart xs j l → AreApart ys j l
apart_on xs ys grows j l p = record {
  first = p.first;
  first_prefix = p.first_prefix;
  second = p.second;
  second_prefix = p.second_prefix;
  first_lies = lies_on xs ys grows j p.first p.first_prefix p.first_lies;
  second_lies = lies_on xs ys grows l p.second p.second_prefix p.second_lies;
  apart = p.apart;
}

-- ---- what was made

-- the body at a number lies somewhere
pub record IsLying (es : List Inlined) (k : ℕ) : Type 0 where
  pub way : List ℕ
  pub prefix : List ℕ
  pub lies : LiesIn es k way prefix

pub record IsInOrder (unit : List Definition) (made : Made) : Type 0 where
  pub wired : AreWired unit made.expansions
  pub lies : (k : ℕ) (e : Inlined) → slice_get made.expansions k ≡ Some e → IsLying made.expansions k
  pub set : (n : ℕ) (o : Operation) → slice_get made.ops n ≡ Some o → IsSet unit made.expansions o
  pub parted : (m n : ℕ) (o q : Operation) → m < n → slice_get made.ops m ≡ Some o → slice_get made.ops n ≡ Some q → IsParted made.expansions o q
  pub apart : (j l : ℕ) (e d : Inlined) → j < l → slice_get made.expansions j ≡ Some e → slice_get made.expansions l ≡ Some d → AreApart made.expansions j l
