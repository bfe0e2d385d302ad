-- The attributes of streams, of outputs and of ports, where they were found.
use Rattle.std.specs.Prelude.{◌≡◌, ◌<◌, ◌≤◌, ℕ, zero, suc, true, false, List, [], ◌∷◌, length, if◌then◌else◌, Option, Some, None, Ok, slice_get}
use Rattle.std.specs.List.{Contains}
use Rattle.std.specs.Option.{option_and_then}
use Rattle.std.proofs.Common.{refl, sym, ap, ◌∙◌, subst, arith, inl, inr}
use Rattle.std.proofs.lemmas.Bool.{cases_lt}
use Rattle.std.proofs.lemmas.Option.{slice_get-get_or, slice_get_past}
use Rattle.spl_value.specs.declared.types.SplType.TheVariants as S
use Rattle.spl_tree.specs.declared.graph.Graph.{Graph}
use Rattle.spl_tree.specs.declared.graph.Stream.{Stream}
use Rattle.spl_tree.specs.declared.unit.Definition.{Definition}
use Rattle.spl_tree.specs.declared.unit.InputPort.{InputPort}
use Rattle.spl_tree.specs.declared.unit.OutputStream.{OutputStream}
use Rattle.language_model.specs.parts.Checking.{each_stream}
use Rattle.language_model.specs.Keeping.{PortHas, PortsHave, StreamsHave, no_ports, no_streams, one_port, stream}
use Rattle.language_model.specs.Numbering.{numbers_from}
use Rattle.language_model.specs.StreamTypes.{Attributes, Body, Origin, are_alike, attributes_within, each_name, input_heads, name_places, output_heads, output_of_op, outputs_attributes, port_attributes, ports_attributes, same_attributes, stream_attributes}
use Rattle.language_model.proofs.parts.StreamTypes.{tail, origin_attributes}
use Rattle.language_model.specs.Typing.{Found, after, mismatch}
use Rattle.language_model.proofs.TypingLaws.{same_types_law}
use Rattle.language_model.proofs.FoundAnswers.{after_gives, same_Ok}
use Rattle.check_laws.proofs.SourceCounts.{number_at}
use Rattle.graph_laws.proofs.Flattening.{numbers_length}
use Rattle.spl_value.proofs.TypesLaws.{rows_equal}

-- ---- streams

-- where the streams are, each has the attributes that were found for it
pub each_found : (unit : List Definition) (g : Graph) (streams : List ℕ) (schemas : List Attributes) → each_stream unit g streams ≡ Ok schemas
    → (k s : ℕ) (schema : Attributes) → slice_get streams k ≡ Some s → stream_attributes unit g s ≡ Ok schema → slice_get schemas k ≡ Some schema
each_found unit g [] schemas e k s schema at is = absurd cc
each_found unit g (t ∷ streams) schemas e zero s schema at is =
    let x = after_gives (stream_attributes unit g t) (λ own. after (each_stream unit g streams) (λ rest. Ok (own ∷ rest))) schemas e in
    let y = after_gives (each_stream unit g streams) (λ rest. Ok (x.0 ∷ rest)) schemas x.2 in
    let whole : x.0 ∷ y.0 ≡ schemas = same_Ok y.2 in
    let same : t ≡ s = cc in
    let own : x.0 ≡ schema = same_Ok (sym x.1 ∙ ap (stream_attributes unit g) same ∙ is) in
    sym (ap (λ l. slice_get l 0) whole) ∙ ap Some own
each_found unit g (t ∷ streams) schemas e (suc k) s schema at is =
    let x = after_gives (stream_attributes unit g t) (λ own. after (each_stream unit g streams) (λ rest. Ok (own ∷ rest))) schemas e in
    let y = after_gives (each_stream unit g streams) (λ rest. Ok (x.0 ∷ rest)) schemas x.2 in
    let whole : x.0 ∷ y.0 ≡ schemas = same_Ok y.2 in
    sym (ap (λ l. slice_get l (suc k)) whole) ∙ each_found unit g streams y.0 y.1 k s schema at is

as_many : (unit : List Definition) (g : Graph) (streams : List ℕ) (schemas : List Attributes) → each_stream unit g streams ≡ Ok schemas → length schemas ≡ length streams
as_many unit g [] schemas e = let none : [] ≡ schemas = same_Ok e in sym (ap length none)
as_many unit g (t ∷ streams) schemas e =
    let x = after_gives (stream_attributes unit g t) (λ own. after (each_stream unit g streams) (λ rest. Ok (own ∷ rest))) schemas e in
    let y = after_gives (each_stream unit g streams) (λ rest. Ok (x.0 ∷ rest)) schemas x.2 in
    let whole : x.0 ∷ y.0 ≡ schemas = same_Ok y.2 in
    sym (ap length whole) ∙ ap suc (as_many unit g streams y.0 y.1)

-- what has attributes is a stream
no_origin : (streams : ℕ → Found Attributes) (unit : List Definition) (g : Graph) (f : Stream → Option Origin) (o : Option Stream) (schema : Attributes)
    → origin_attributes streams unit g (option_and_then f o) ≡ Ok schema → o ≡ None → ⊥
no_origin streams unit g f None schema e none = cc
no_origin streams unit g f (Some s) schema e none = cc

is_stream : (unit : List Definition) (g : Graph) (s : ℕ) (schema : Attributes) → stream_attributes unit g s ≡ Ok schema → s < length g.streams
is_stream unit g s schema e = elim (cases_lt s (length g.streams)) [
  | inl lt ↦ lt
  | inr le ↦ absurd (no_origin (attributes_within (length g.streams) unit g) unit g (λ x. option_and_then (output_of_op unit g x.port) (slice_get g.ops x.maker))
      (slice_get g.streams s) schema e (slice_get_past g.streams s le))
]

-- the attributes of all streams of a graph
abbrev pub EachHas : List Definition → Graph → List Attributes → Type 0
EachHas unit g all = (s : ℕ) (schema : Attributes) → stream_attributes unit g s ≡ Ok schema → slice_get all s ≡ Some schema

pub streams_found : (unit : List Definition) (g : Graph) (all : List Attributes) → each_stream unit g (numbers_from 0 (length g.streams)) ≡ Ok all
    → EachHas unit g all × (length all ≡ length g.streams)
streams_found unit g all e = (
  λ s schema is. each_found unit g (numbers_from 0 (length g.streams)) all e s s schema (number_at (length g.streams) s (is_stream unit g s schema is)) is,
  as_many unit g (numbers_from 0 (length g.streams)) all e ∙ numbers_length 0 (length g.streams),
)

-- ---- outputs and ports

attributes_same : (own schema : Attributes) → same_attributes own schema ≡ true → own ≡ schema
attributes_same own schema e = rows_equal own schema ((same_types_law (S.Tuple own) (S.Tuple schema)).0 e)

contained_at : (xs : List ℕ) (x : ℕ) (c : Contains xs x) → slice_get xs c.0 ≡ Some x
contained_at xs x c = slice_get-get_or xs c.0 x c.1 ∙ ap Some c.2

module _ (unit : List Definition) (g : Graph) (all : List Attributes) (each : EachHas unit g all) where
  pub outputs_have : (b : Body) (os : List OutputStream) (outs : List ℕ) (schemas : List Attributes) → length outs ≡ length os
      → outputs_attributes unit g b os outs ≡ Ok schemas → StreamsHave all outs schemas × (length schemas ≡ length os)
  outputs_have b [] [] schemas same e =
      let none : [] ≡ schemas = same_Ok e in subst (λ (l : List Attributes). StreamsHave all [] l × (length l ≡ 0)) none (no_streams, refl)
  outputs_have b [] (s ∷ outs) schemas same e = absurd (omega arith)
  outputs_have b (o ∷ os) [] schemas same e = absurd (omega arith)
  outputs_have b (o ∷ os) (s ∷ outs) schemas same e =
      let x = after_gives (stream_attributes unit g s) (λ schema. after (output_heads (length g.expansions) unit g schema b o.name.what) (λ u.
      after (outputs_attributes unit g b os outs) (λ rest. Ok (schema ∷ rest)))) schemas e in
      let y = after_gives (output_heads (length g.expansions) unit g x.0 b o.name.what) (λ u.
      after (outputs_attributes unit g b os outs) (λ rest. Ok (x.0 ∷ rest))) schemas x.2 in
      let z = after_gives (outputs_attributes unit g b os outs) (λ rest. Ok (x.0 ∷ rest)) schemas y.2 in
      let whole : x.0 ∷ z.0 ≡ schemas = same_Ok z.2 in
      let fewer : length outs ≡ length os = omega arith in
      let rest = outputs_have b os outs z.0 fewer z.1 in
      subst (λ (l : List Attributes). StreamsHave all (s ∷ outs) l × (length l ≡ suc (length os))) whole
      (stream s outs x.0 z.0 (each s x.0 x.1) rest.0, ap suc rest.1)

  alike : (schema : Attributes) (places streams : List ℕ) (u : Unit {0}) → are_alike unit g schema places streams ≡ Ok u → length streams ≤ length places
      → (k s : ℕ) → slice_get streams k ≡ Some s → slice_get all s ≡ Some schema
  alike schema places [] u e le k s at = absurd cc
  alike schema [] (t ∷ streams) u e le k s at = absurd (omega arith)
  alike schema (p ∷ places) (t ∷ streams) u e le zero s at =
      let x = after_gives (stream_attributes unit g t) (λ own. if same_attributes own schema then are_alike unit g schema places streams else mismatch p) u e in
      let same : t ≡ s = cc in
      elim (same_attributes x.0 schema)
      as (λ b. same_attributes x.0 schema ≡ b → (if b then are_alike unit g schema places streams else mismatch p) ≡ Ok u → slice_get all s ≡ Some schema) [
        | true ↦ λ is rest. ap (slice_get all) (sym same) ∙ each t x.0 x.1 ∙ ap Some (attributes_same x.0 schema is)
        | false ↦ λ is no. absurd cc
      ] refl x.2
  alike schema (p ∷ places) (t ∷ streams) u e le (suc k) s at =
      let x = after_gives (stream_attributes unit g t) (λ own. if same_attributes own schema then are_alike unit g schema places streams else mismatch p) u e in
      let fewer : length streams ≤ length places = omega arith in
      elim (same_attributes x.0 schema)
      as (λ b. (if b then are_alike unit g schema places streams else mismatch p) ≡ Ok u → slice_get all s ≡ Some schema) [
        | true ↦ λ rest. alike schema places streams u rest fewer k s at
        | false ↦ λ no. absurd cc
      ] x.2

  others_behind : (places : List ℕ) (n : ℕ) → suc n ≤ length places → n ≤ length (tail places)
  others_behind [] n le = absurd (omega arith)
  others_behind (p ∷ places) n le = omega arith

  port_has : (b : Body) (q : InputPort) (streams : List ℕ) (schema : Attributes) → length streams ≤ length (name_places b q)
      → port_attributes unit g b q streams ≡ Ok schema → PortHas all streams schema
  port_has b q [] schema le e = absurd cc
  port_has b q (s ∷ streams) schema le e =
      let x = after_gives (stream_attributes unit g s) (λ own. after (are_alike unit g own (tail (name_places b q)) streams) (λ u.
      after (each_name (input_heads (length g.expansions) unit g own b) q.streams) (λ v. Ok own))) schema e in
      let y = after_gives (are_alike unit g x.0 (tail (name_places b q)) streams) (λ u.
      after (each_name (input_heads (length g.expansions) unit g x.0 b) q.streams) (λ v. Ok x.0)) schema x.2 in
      let z = after_gives (each_name (input_heads (length g.expansions) unit g x.0 b) q.streams) (λ v. Ok x.0) schema y.2 in
      let own : x.0 ≡ schema = same_Ok z.2 in
      let fewer : length streams ≤ length (tail (name_places b q)) = others_behind (name_places b q) (length streams) le in
      let others = alike x.0 (tail (name_places b q)) streams y.0 y.1 fewer in
      let at_each = λ (k t : ℕ) (at : slice_get (s ∷ streams) k ≡ Some t). first_or_other streams s x.0 (each s x.0 x.1) others k t at in
      subst (PortHas all (s ∷ streams)) own record { some = omega arith; alike = λ t c. at_each c.0 t (contained_at (s ∷ streams) t c) }
    where
      first_or_other : (streams : List ℕ) (s : ℕ) (own : Attributes) → slice_get all s ≡ Some own
          → ((k t : ℕ) → slice_get streams k ≡ Some t → slice_get all t ≡ Some own)
          → (k t : ℕ) → slice_get (s ∷ streams) k ≡ Some t → slice_get all t ≡ Some own
      first_or_other streams s own first others zero t at = let same : s ≡ t = cc in ap (slice_get all) (sym same) ∙ first
      first_or_other streams s own first others (suc k) t at = others k t at

  pub ports_have : (b : Body) (qs : List InputPort) (ins : List (List ℕ)) (schemas : List Attributes) → length ins ≡ length qs
      → ((k : ℕ) (q : InputPort) (streams : List ℕ) → slice_get qs k ≡ Some q → slice_get ins k ≡ Some streams → length streams ≤ length (name_places b q))
      → ports_attributes unit g b qs ins ≡ Ok schemas → PortsHave all ins schemas × (length schemas ≡ length qs)
  ports_have b [] [] schemas same enough e =
      let none : [] ≡ schemas = same_Ok e in subst (λ (l : List Attributes). PortsHave all [] l × (length l ≡ 0)) none (no_ports, refl)
  ports_have b [] (streams ∷ ins) schemas same enough e = absurd (omega arith)
  ports_have b (q ∷ qs) [] schemas same enough e = absurd (omega arith)
  ports_have b (q ∷ qs) (streams ∷ ins) schemas same enough e =
      let x = after_gives (port_attributes unit g b q streams) (λ schema. after (ports_attributes unit g b qs ins) (λ rest. Ok (schema ∷ rest))) schemas e in
      let y = after_gives (ports_attributes unit g b qs ins) (λ rest. Ok (x.0 ∷ rest)) schemas x.2 in
      let whole : x.0 ∷ y.0 ≡ schemas = same_Ok y.2 in
      let fewer : length ins ≡ length qs = omega arith in
      let here = port_has b q streams x.0 (enough 0 q streams refl refl) x.1 in
      let rest = ports_have b qs ins y.0 fewer (λ k r ss at_q at_in. enough (suc k) r ss at_q at_in) y.1 in
      subst (λ (l : List Attributes). PortsHave all (streams ∷ ins) l × (length l ≡ suc (length qs))) whole
      (one_port streams ins x.0 y.0 here rest.0, ap suc rest.1)
