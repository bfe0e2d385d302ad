-- The inputs and the outputs of the operators of a checked graph.
use Rattle.std.proofs.Common.{◌≡◌, ℕ, zero, suc, ◌+◌, ◌<◌, ◌≤◌, ◌&&◌, true, false, List, [], ◌∷◌, ◌++◌, map, refl, sym, ap, ◌∙◌, length, length-append, slice_get, Some, inl, inr, arith}
use Rattle.std.specs.Prelude.{◌⊎◌, nat_le}
use Rattle.std.specs.List.{concat, Contains}
use Rattle.std.specs.Option.{unwrap_or}
use Rattle.std.proofs.lemmas.Bool.{and_parts, leb-true}
use Rattle.std.proofs.lemmas.List.{length-map}
use Rattle.std.proofs.lemmas.Option.{slice_get_within, slice_get-get_or}
use Rattle.spl_tree.specs.declared.graph.Op.{Op}
use Rattle.spl_tree.specs.declared.graph.OpKind.{OpKind}
use Rattle.spl_tree.specs.declared.graph.Stream.{Stream}
use Rattle.language_model.specs.declared.checked.CheckedClauses.{CheckedClauses}
use Rattle.language_model.specs.declared.checked.CheckedClauses.TheVariants as A
use Rattle.language_model.specs.declared.scope.Scope.{Scope}
use Rattle.language_model.specs.CheckedGraph.{CheckedGraph}
use Rattle.language_model.specs.Checking.{fit_ports}
use Rattle.language_model.specs.Keeping as K
use Rattle.language_model.specs.Keeping.{Keeps, Once, PartFits, PortsHave, StreamsHave}
use Rattle.language_model.specs.Kinds.{between, exactly, is_within}
use Rattle.language_model.specs.StreamTypes.{Attributes}
use Rattle.stream_model.specs.CheckedMeaning.{first_schema, operator_with, schema_at}
use Rattle.stream_model.specs.Operators.{Operator, connections, input_attributes, output_attributes, ports, ports_from}
use Rattle.stream_model.specs.parts.Operators.{port_at}
use Rattle.stream_model.specs.Replies.{given_attributes}
use Rattle.list_engine.specs.Runs.{is_source}
use Rattle.stream_model.proofs.CheckedOperators.{first_is}

-- ---- inputs

-- there is a port for each connection
ports_length : (ins : List (List ℕ)) (p : ℕ) → length (ports_from p ins) ≡ length (concat ins)
ports_length [] p = refl
ports_length (streams ∷ ins) p =
    let both = length-append (map (λ (s : ℕ). p) streams) (ports_from (suc p) ins) in
    let mapped = length-map streams (λ (s : ℕ). p) in
    let rest = ports_length ins (suc p) in
    let all = length-append streams (concat ins) in
    omega (arith, both, mapped, rest, all)

pub input_count : (o : Operator) → length (ports o) ≡ length (connections o)
input_count o = ports_length o.ins 0

port_here : (p : ℕ) (streams : List ℕ) (more : List ℕ) (i : ℕ) → i < length streams → port_at (map (λ (s : ℕ). p) streams ++ more) i ≡ p
port_here p [] more i lt = absurd (omega (arith, lt))
port_here p (s ∷ streams) more zero lt = refl
port_here p (s ∷ streams) more (suc i) lt = port_here p streams more i (omega (arith, lt))

port_later : (p : ℕ) (streams : List ℕ) (more : List ℕ) (i : ℕ) → port_at (map (λ (s : ℕ). p) streams ++ more) (length streams + i) ≡ port_at more i
port_later p [] more i = let same : 0 + i ≡ i = omega arith in ap (port_at more) same
port_later p (s ∷ streams) more i =
    let same : length (s ∷ streams) + i ≡ suc (length streams + i) = omega arith in
    ap (port_at (map (λ (s : ℕ). p) (s ∷ streams) ++ more)) same ∙ port_later p streams more i

get_first : (xs ys : List ℕ) (i : ℕ) (s : ℕ) → i < length xs → slice_get (xs ++ ys) i ≡ Some s → Contains xs s
get_first [] ys i s lt e = absurd (omega (arith, lt))
get_first (x ∷ xs) ys zero s lt e = (0, omega arith, (let same : x ≡ s = cc in same))
get_first (x ∷ xs) ys (suc i) s lt e =
    let rest = get_first xs ys i s (omega (arith, lt)) e in
    let within : rest.0 < length xs = rest.1 in
    (suc rest.0, omega (arith, within), rest.2)

get_later : (xs ys : List ℕ) (i : ℕ) → slice_get (xs ++ ys) (length xs + i) ≡ slice_get ys i
get_later [] ys i = let same : 0 + i ≡ i = omega arith in ap (slice_get ys) same
get_later (x ∷ xs) ys i =
    let same : length (x ∷ xs) + i ≡ suc (length xs + i) = omega arith in
    ap (slice_get (x ∷ (xs ++ ys))) same ∙ get_later xs ys i

-- an input below n, or k after it
split_below : (n i : ℕ) → (i < n) ⊎ ((k : ℕ) × (i ≡ n + k))
split_below zero i = inr (i, omega arith)
split_below (suc n) zero = inl (omega arith)
split_below (suc n) (suc i) = elim (split_below n i) [
  | inl lt ↦ inl (omega (arith, lt))
  | inr r ↦ (let e : i ≡ n + r.0 = r.1 in inr (r.0, omega (arith, e)))
]

-- the place of the port of an input, from port p on, and its attributes
record PortOf (c : CheckedGraph) (ins : List (List ℕ)) (p i s : ℕ) : Type 0 where
  place : ℕ
  port : port_at (ports_from p ins) i ≡ p + place
  schema : unwrap_or (slice_get (map (first_schema c) ins) place) [] ≡ schema_at c s

port_of : (c : CheckedGraph) (ins : List (List ℕ)) (attributes : List Attributes) → PortsHave c.schemas ins attributes → (p i s : ℕ) → slice_get (concat ins) i ≡ Some s → PortOf c ins p i s
port_of c _ _ K.no_ports p i s e = absurd cc
port_of c _ _ (K.one_port streams ins schema rest h hs) p i s e = elim (split_below (length streams) i) [
  | inl lt ↦ record {
    place = 0;
    port = port_here p streams (ports_from (suc p) ins) i lt ∙ (let none : p ≡ p + 0 = omega arith in none);
    schema = first_is c streams schema h ∙ sym (ap (λ o. unwrap_or o []) (h.alike s (get_first streams (concat ins) i s lt e)));
  }
  | inr k ↦ (
      let later = port_of c ins rest hs (suc p) k.0 s (sym (get_later streams (concat ins) k.0) ∙ ap (slice_get (streams ++ concat ins)) (sym k.1) ∙ e) in
      record {
        place = suc later.place;
        port = ap (port_at (map (λ (s : ℕ). p) streams ++ ports_from (suc p) ins)) k.1 ∙ port_later p streams (ports_from (suc p) ins) k.0 ∙ later.port
            ∙ (let more : suc p + later.place ≡ p + suc later.place = omega arith in more);
        schema = later.schema;
      })
]

pub input_schema : (c : CheckedGraph) (m n : ℕ) (op : Op) (part : CheckedClauses) → Keeps c → slice_get c.graph.ops n ≡ Some op → slice_get c.parts n ≡ Some part
    → (i s : ℕ) → slice_get (concat op.ins) i ≡ Some s → input_attributes (operator_with c m op part) (port_at (ports (operator_with c m op part)) i) ≡ schema_at c s
input_schema c m n op part k there has i s at =
    let fit = k.operators n op part there has in
    let x = port_of c op.ins fit.ins fit.takes 0 i s at in
    let place : 0 + x.place ≡ x.place = omega arith in
    ap (λ q. unwrap_or (slice_get (map (first_schema c) op.ins) q) []) (x.port ∙ place) ∙ x.schema

-- an operator that is no source has an input
some_connection : (schemas : List Attributes) (ins : List (List ℕ)) (attributes : List Attributes) → PortsHave schemas ins attributes → 0 < length ins → 0 < length (concat ins)
some_connection schemas _ _ K.no_ports lt = absurd (omega (arith, lt))
some_connection schemas _ _ (K.one_port streams ins schema rest h hs) lt =
    let some = h.some in let all = length-append streams (concat ins) in omega (arith, some, all)

-- a number within bounds is one from the least to the greatest
at_least : (least most n : ℕ) → is_within (between least most) n ≡ true → least ≤ n
at_least least most n e = leb-true least n (and_parts (nat_le least n) (nat_le n most) e).0

at_most : (least most n : ℕ) → is_within (between least most) n ≡ true → n ≤ most
at_most least most n e = leb-true n most (and_parts (nat_le least n) (nat_le n most) e).1

is_exactly : (k n : ℕ) → is_within (exactly k) n ≡ true → n ≡ k
is_exactly k n e = let least = at_least k k n e in let most = at_most k k n e in omega (arith, least, most)

both_of : (m n a b : ℕ) → (is_within (exactly a) m && is_within (exactly b) n) ≡ true → (m ≡ a) × (n ≡ b)
both_of m n a b e =
    let parts = and_parts (is_within (exactly a) m) (is_within (exactly b) n) e in (is_exactly a m parts.0, is_exactly b n parts.1)

pub some_port : (scope : Scope) (kind : OpKind) (ins outs : List Attributes) (part : CheckedClauses) (m n : ℕ) → PartFits scope kind ins outs part → is_source part ≡ false → fit_ports kind m n ≡ true → 0 < m
some_port scope _ _ _ _ m n (K.file_source file strict schema a b) s e = absurd cc
some_port scope _ _ _ _ m n (K.file_sink file schema a b) s e = let is = (both_of m n 1 0 e).0 in omega (arith, is)
some_port scope _ _ _ _ m n (K.filter condition schema a) s e = let is = (both_of m n 1 1 e).0 in omega (arith, is)
some_port scope _ _ _ _ m n (K.functor condition fields input schema a b d) s e = let is = (both_of m n 1 1 e).0 in omega (arith, is)
some_port scope _ _ _ _ m n (K.punctor condition position schema a) s e = let is = (both_of m n 1 1 e).0 in omega (arith, is)
some_port scope _ _ _ _ m n (K.split index kind schema outs a b) s e = let is = is_exactly 1 m (and_parts (is_within (exactly 1) m) (is_within (between 1 16) n) e).0 in omega (arith, is)
some_port scope _ _ _ _ m n (K.union places ins schema a b) s e = let least = at_least 1 16 m (and_parts (is_within (between 1 16) m) (is_within (exactly 1) n) e).0 in omega (arith, least)
some_port scope _ _ _ _ m n (K.custom handlers ins outs a) s e = let least = at_least 1 16 m (and_parts (is_within (between 1 16) m) (is_within (between 0 16) n) e).0 in omega (arith, least)
some_port scope _ _ _ _ m n (K.aggregate window partition group output input schema a b d f h) s e = let is = (both_of m n 1 1 e).0 in omega (arith, is)
some_port scope _ _ _ _ m n (K.join left right condition fields first second schema a b d f h i j) s e = let is = (both_of m n 2 1 e).0 in omega (arith, is)

pub some_input : (c : CheckedGraph) (n : ℕ) (op : Op) (part : CheckedClauses) → Keeps c → slice_get c.graph.ops n ≡ Some op → slice_get c.parts n ≡ Some part → is_source part ≡ false → 0 < length (concat op.ins)
some_input c n op part k there has other =
    let fit = k.operators n op part there has in
    some_connection c.schemas op.ins fit.ins fit.takes (some_port fit.scope op.kind fit.ins fit.outs part (length op.ins) (length op.outs) fit.clauses other fit.ports)

-- ---- outputs

-- the tuples on an output port have the attributes of its stream
no_sink : (scope : Scope) (kind : OpKind) (ins outs : List Attributes) (part : CheckedClauses) (m n : ℕ) → PartFits scope kind ins outs part → fit_ports kind m n ≡ true → 0 < n
    → (o : Operator) (p : ℕ) → given_attributes part o p ≡ output_attributes o p
no_sink scope _ _ _ _ m n (K.file_source file strict schema a b) e lt o p = refl
no_sink scope _ _ _ _ m n (K.file_sink file schema a b) e lt o p = absurd (let is = (both_of m n 1 0 e).1 in omega (arith, is, lt))
no_sink scope _ _ _ _ m n (K.filter condition schema a) e lt o p = refl
no_sink scope _ _ _ _ m n (K.functor condition fields input schema a b d) e lt o p = refl
no_sink scope _ _ _ _ m n (K.punctor condition position schema a) e lt o p = refl
no_sink scope _ _ _ _ m n (K.split index kind schema outs a b) e lt o p = refl
no_sink scope _ _ _ _ m n (K.union places ins schema a b) e lt o p = refl
no_sink scope _ _ _ _ m n (K.custom handlers ins outs a) e lt o p = refl
no_sink scope _ _ _ _ m n (K.aggregate window partition group output input schema a b d f h) e lt o p = refl
no_sink scope _ _ _ _ m n (K.join left right condition fields first second schema a b d f h i j) e lt o p = refl

pub mapped : (f : ℕ → Attributes) (xs : List ℕ) (p s : ℕ) → slice_get xs p ≡ Some s → unwrap_or (slice_get (map f xs) p) [] ≡ f s
mapped f [] p s e = absurd cc
mapped f (x ∷ xs) zero s e = let same : x ≡ s = cc in ap f same
mapped f (x ∷ xs) (suc p) s e = mapped f xs p s e

pub output_schema : (c : CheckedGraph) (m n : ℕ) (op : Op) (part : CheckedClauses) → Keeps c → slice_get c.graph.ops n ≡ Some op → slice_get c.parts n ≡ Some part
    → (p s : ℕ) → slice_get op.outs p ≡ Some s → given_attributes part (operator_with c m op part) p ≡ schema_at c s
output_schema c m n op part k there has p s at =
    let fit = k.operators n op part there has in
    let within : p < length op.outs = slice_get_within op.outs p s at in
    no_sink fit.scope op.kind fit.ins fit.outs part (length op.ins) (length op.outs) fit.clauses fit.ports (omega (arith, within)) (operator_with c m op part) p
    ∙ mapped (schema_at c) op.outs p s at

-- each output has a stream of its own
pub outs_once : (c : CheckedGraph) → Keeps c → (n : ℕ) (op : Op) → slice_get c.graph.ops n ≡ Some op → Once op.outs
outs_once c k n op there i j s at also =
    let first = (k.graph.made s (record { maker = n; port = i })).1 (op, there, at) in
    let second = (k.graph.made s (record { maker = n; port = j })).1 (op, there, also) in
    let same : Some (record { maker = n; port = i }) ≡ Some (record { maker = n; port = j }) = sym first ∙ second in
    let both : record { maker = n; port = i } ≡ record { maker = n; port = j } = cc in
    ap (λ (x : Stream). x.port) both

pub out_within : (c : CheckedGraph) → Keeps c → (n : ℕ) (op : Op) → slice_get c.graph.ops n ≡ Some op → (s : ℕ) → Contains op.outs s → s < length c.graph.streams
out_within c k n op there s h =
    slice_get_within c.graph.streams s _ ((k.graph.made s (record { maker = n; port = h.0 })).1 (op, there, slice_get-get_or op.outs h.0 s h.1 ∙ ap (λ x. Some x) h.2))

-- a source has one output
pub source_out : (c : CheckedGraph) (n : ℕ) (op : Op) (part : CheckedClauses) → Keeps c → slice_get c.graph.ops n ≡ Some op → slice_get c.parts n ≡ Some part → is_source part ≡ true
    → (length op.outs ≡ 1) × (length op.ins ≡ 0)
source_out c n op part k there has is =
    let fit = k.operators n op part there has in by_kind fit.scope op.kind fit.ins fit.outs part fit.clauses is fit.ports
  where
    by_kind : (scope : Scope) (kind : OpKind) (ins outs : List Attributes) (part : CheckedClauses) → PartFits scope kind ins outs part → is_source part ≡ true
        → fit_ports kind (length op.ins) (length op.outs) ≡ true → (length op.outs ≡ 1) × (length op.ins ≡ 0)
    by_kind scope _ _ _ _ (K.file_source file strict schema a b) s e = let both = both_of (length op.ins) (length op.outs) 0 1 e in (both.1, both.0)
    by_kind scope _ _ _ _ (K.file_sink file schema a b) s e = absurd cc
    by_kind scope _ _ _ _ (K.filter condition schema a) s e = absurd cc
    by_kind scope _ _ _ _ (K.functor condition fields input schema a b d) s e = absurd cc
    by_kind scope _ _ _ _ (K.punctor condition position schema a) s e = absurd cc
    by_kind scope _ _ _ _ (K.split index kind schema outs a b) s e = absurd cc
    by_kind scope _ _ _ _ (K.union places ins schema a b) s e = absurd cc
    by_kind scope _ _ _ _ (K.custom handlers ins outs a) s e = absurd cc
    by_kind scope _ _ _ _ (K.aggregate window partition group output input schema a b d f h) s e = absurd cc
    by_kind scope _ _ _ _ (K.join left right condition fields first second schema a b d f h i j) s e = absurd cc

-- a sink has none
pub sink_out : (c : CheckedGraph) (n : ℕ) (op : Op) (part : CheckedClauses) (file : List ℕ) → Keeps c → slice_get c.graph.ops n ≡ Some op → slice_get c.parts n ≡ Some part → part ≡ A.FileSink file
    → length op.outs ≡ 0
sink_out c n op part file k there has is =
    let fit = k.operators n op part there has in by_kind fit.scope op.kind fit.ins fit.outs part fit.clauses is fit.ports
  where
    by_kind : (scope : Scope) (kind : OpKind) (ins outs : List Attributes) (part : CheckedClauses) → PartFits scope kind ins outs part → part ≡ A.FileSink file
        → fit_ports kind (length op.ins) (length op.outs) ≡ true → length op.outs ≡ 0
    by_kind scope _ _ _ _ (K.file_source own strict schema a b) s e = absurd cc
    by_kind scope _ _ _ _ (K.file_sink own schema a b) s e = (both_of (length op.ins) (length op.outs) 1 0 e).1
    by_kind scope _ _ _ _ (K.filter condition schema a) s e = absurd cc
    by_kind scope _ _ _ _ (K.functor condition fields input schema a b d) s e = absurd cc
    by_kind scope _ _ _ _ (K.punctor condition position schema a) s e = absurd cc
    by_kind scope _ _ _ _ (K.split index kind schema outs a b) s e = absurd cc
    by_kind scope _ _ _ _ (K.union places ins schema a b) s e = absurd cc
    by_kind scope _ _ _ _ (K.custom handlers ins outs a) s e = absurd cc
    by_kind scope _ _ _ _ (K.aggregate window partition group output input schema a b d f h) s e = absurd cc
    by_kind scope _ _ _ _ (K.join left right condition fields first second schema a b d f h i j) s e = absurd cc
