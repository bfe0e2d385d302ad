-- The numbers of the streams of operators and composites that were expanded: those of an operator stand together, and
-- operators in their order.
use Rattle.std.specs.Prelude.{ℕ, zero, suc, ◌+◌, ◌^◌, ◌==◌, min, Bool, false, ◌&&◌, List, [], ◌∷◌, ◌++◌, map, filter_map, length, take, sum_by, position, Option, Some, None, slice_get}
use Rattle.std.specs.Option.{option_and_then, option_map_or, unwrap_or}
use Rattle.spl_tree.specs.declared.graph.Expansion.{Expansion}
use Rattle.spl_tree.specs.declared.graph.InputStreams.{InputStreams}
use Rattle.spl_tree.specs.declared.graph.Op.{Op}
use Rattle.spl_tree.specs.declared.graph.Site.{Site}
use Rattle.spl_tree.specs.declared.graph.Stream.{Stream}
use Rattle.spl_tree.specs.declared.unit.Composite.{Composite}
use Rattle.spl_tree.specs.declared.unit.Invocation.{Invocation}
use Rattle.language_model.specs.declared.expansion.Operation.{Operation}
use Rattle.language_model.specs.declared.expansion.Source.{Source}
use Rattle.language_model.specs.Declarations.{first_of}
use Rattle.language_model.specs.Expansion.{source, Inlined, Made, place_of, input_sources, sources_of}
use Rattle.language_model.specs.Invoking.{stream_names}

-- this number of numbers, from a number on
abbrev pub numbers_from : ℕ → ℕ → List ℕ
numbers_from n zero = []
numbers_from n (suc count) = n ∷ numbers_from (suc n) count

-- the number of the first stream of the operator at a number
abbrev pub first_stream : List Operation → ℕ → ℕ
first_stream ops n = sum_by (λ op. op.outputs) (take n ops)

-- ---- what a name means

-- an output of an invocation: the number of the invocation, and the place of the output
pub record Output : Type 0 where
  pub invocation : ℕ
  pub output : ℕ

-- those of the names of the streams that invocations make, in the order of the text
abbrev pub outputs_from : ℕ → List Invocation → List Output
outputs_from number [] = []
outputs_from number (i ∷ is) =
    map (λ k. record { invocation = number; output = k }) (numbers_from 0 (length i.outputs))
    ++ outputs_from (suc number) is

abbrev pub is_site : Site → Site → Bool
is_site s t = (s.expansion == t.expansion) && (s.invocation == t.invocation)

abbrev pub site_at : ℕ → Output → Site
site_at number o = record { expansion = number; invocation = o.invocation }

-- the name, in the body of a composite, of one of its head's outputs
abbrev pub output_place : Composite → ℕ → Option ℕ
output_place c k = option_and_then (λ p. place_of p.name.what (stream_names c)) (slice_get c.outputs k)

-- a stream of the operator at the site, where there is one, or else what the output means in the expansion that stands
-- there
abbrev pub operator_or_expansion : (Source → Option ℕ) → Made → Site → ℕ → Option ℕ → Option ℕ
operator_or_expansion inner made s k operator =
    option_map_or (λ n. Some (first_stream made.ops n + k)) operator (option_and_then
    (λ e. option_and_then (λ x. option_and_then (λ place. inner (source e place)) (output_place x.composite.what k))
    (slice_get made.expansions e))
    (position (λ e. option_map_or (is_site s) e.site false) made.expansions))

-- the number of the stream that a name means; outputs of composites are followed at most this number of times
abbrev pub stream_of : ℕ → Made → Source → Option ℕ
stream_of zero made x = None
stream_of (suc count) made x =
    option_and_then (λ e. option_and_then (λ o.
    operator_or_expansion (stream_of count made) made (site_at x.expansion o) o.output
    (position (λ op. is_site op.site (site_at x.expansion o)) made.ops))
    (slice_get (outputs_from 0 e.composite.what.graph) x.place)) (slice_get made.expansions x.expansion)

abbrev pub streams_of : Made → List Source → List ℕ
streams_of made xs = filter_map (stream_of (length made.expansions) made) xs

-- ---- the parts of a graph

-- the operators, from a number on, each with the numbers of its streams
abbrev pub ops_from : Made → ℕ → List Operation → List Op
ops_from made n [] = []
ops_from made n (op ∷ ops) =
    record {
      name = op.name;
      kind = op.kind;
      site = op.site;
      at = op.at;
      ins = map (streams_of made) op.ins;
      outs = numbers_from (first_stream made.ops n) op.outputs;
    } ∷ ops_from made (suc n) ops

abbrev pub streams_from : ℕ → List Operation → List Stream
streams_from n [] = []
streams_from n (op ∷ ops) =
    map (λ port. record { maker = n; port = port }) (numbers_from 0 op.outputs) ++ streams_from (suc n) ops

-- what an input takes: how many streams, as far as they are counted, and the first
abbrev pub input_streams : Made → List Source → InputStreams
input_streams made xs =
    record { count = min (length xs) (2 ^ 30); first = unwrap_or (first_of (streams_of made (take 1 xs))) 0 }

-- the expansions, from a number on, each with the streams that all names of its graph mean, and what its inputs take
abbrev pub expansions_from : Made → ℕ → List Inlined → List Expansion
expansions_from made n [] = []
expansions_from made n (e ∷ es) =
    record {
      composite = e.composite.place;
      site = e.site;
      streams = streams_of made (map (source n) (numbers_from 0 (length (stream_names e.composite.what))));
      inputs = map (λ k. input_streams made (input_sources (sources_of made.expansions) made.expansions e.site k))
          (numbers_from 0 (length e.composite.what.inputs));
    } ∷ expansions_from made (suc n) es
