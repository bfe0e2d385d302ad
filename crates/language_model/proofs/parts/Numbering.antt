-- Words for parts of the numbering of streams.
use Rattle.std.specs.Prelude.{ℕ, false, List, map, length, position, Option}
use Rattle.std.specs.Option.{option_map_or, unwrap_or}
use Rattle.spl_tree.specs.declared.graph.Expansion.{Expansion}
use Rattle.spl_tree.specs.declared.graph.Op.{Op}
use Rattle.spl_tree.specs.declared.graph.Site.{Site}
use Rattle.spl_tree.specs.declared.unit.Composite.{Composite}
use Rattle.language_model.specs.declared.expansion.Operation.{Operation}
use Rattle.language_model.specs.declared.expansion.Source.{Source}
use Rattle.language_model.specs.Declarations.{first_of}
use Rattle.language_model.specs.Expansion.{source, Inlined, Made, input_sources, sources_of}
use Rattle.language_model.specs.Invoking.{stream_names}
use Rattle.language_model.specs.Numbering.{first_stream, input_streams, is_site, numbers_from, streams_of}

-- the operator, and the expansion, that stand at a site
abbrev pub operator_at : Made → Site → Option ℕ
operator_at made s = position (λ op. is_site op.site s) made.ops

abbrev pub expansion_at : Made → Site → Option ℕ
expansion_at made s = position (λ e. option_map_or (is_site s) e.site false) made.expansions

abbrev pub op_of : Made → ℕ → Operation → Op
op_of made n op =
    record {
      name = op.name;
      kind = op.kind;
      ins = map (streams_of made) op.ins;
      outs = numbers_from (first_stream made.ops n) op.outputs;
      site = op.site;
      at = op.at;
    }

-- all names of the graph of an expansion
abbrev pub own_sources : ℕ → Composite → List Source
own_sources number c = map (source number) (numbers_from 0 (length (stream_names c)))

abbrev pub first_or_none : List ℕ → ℕ
first_or_none streams = unwrap_or (first_of streams) 0

abbrev pub expansion_of : Made → ℕ → Inlined → Expansion
expansion_of made number e =
    record {
      composite = e.composite.place;
      site = e.site;
      streams = streams_of made (own_sources number e.composite.what);
      inputs = map (λ k. input_streams made (input_sources (sources_of made.expansions) made.expansions e.site k))
          (numbers_from 0 (length e.composite.what.inputs));
    }
