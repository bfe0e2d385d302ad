-- The operators and expansions that remain of a unit once each invocation of a composite is replaced by its body, or
-- the first refusal, invocation by invocation.
use Rattle.std.specs.Prelude.{ℕ, zero, suc, ◌^◌, ◌==◌, nat_lt, nat_le, ◌&&◌, List, [], ◌∷◌, ◌++◌, map, flat_map, length, sum_by, if◌then◌else◌, codes, Option, Some, None, slice_get, Result, Ok, Err}
use Rattle.std.specs.Option.{option_map, option_map_or}
use Rattle.std.specs.Str.{bytes_eq}
use Rattle.spl_tree.specs.declared.expression.Placed.{Placed}
use Rattle.spl_tree.specs.declared.graph.OpKind.{OpKind}
use Rattle.spl_tree.specs.declared.graph.Site.{Site}
use Rattle.spl_tree.specs.declared.unit.Composite.{Composite}
use Rattle.spl_tree.specs.declared.unit.Definition.{Definition}
use Rattle.spl_tree.specs.declared.unit.Invocation.{Invocation}
use Rattle.spl_tree.specs.Trees.{placed}
use Rattle.language_model.specs.declared.expansion.ExpansionRefusal.{ExpansionRefusal}
use Rattle.language_model.specs.declared.expansion.ExpansionError.TheVariants as E
use Rattle.language_model.specs.Refusals.{named_refusal, unnamed_refusal}
use Rattle.language_model.specs.declared.expansion.Operation.{Operation}
use Rattle.language_model.specs.declared.expansion.Source.{Source}
pub use Rattle.language_model.specs.After.{after}
use Rattle.language_model.specs.Composites.{composites}
use Rattle.language_model.specs.Declarations.{first_of}
use Rattle.language_model.specs.Invoking.{Target, Operator, Body, Nothing, target_of, undeclared, fits_head, stream_names, input_names}
use Rattle.language_model.specs.Scopes.{At, first_from}

-- ---- what is made

abbrev pub source : ℕ → ℕ → Source
source expansion place = record { expansion = expansion; place = place }

-- the body of a composite, and where it is invoked; the main one isn't
pub record Inlined : Type 0 where
  pub composite : At Composite
  pub site : Option Site

pub record Made : Type 0 where
  pub ops : List Operation
  pub expansions : List Inlined

abbrev pub Expanded : Type 0 → Type 0
Expanded A = Result A ExpansionRefusal

-- ---- names

-- the body that is being expanded: its number among the expansions, and what stands in front of each name in it
pub record Opened : Type 0 where
  pub number : ℕ
  pub prefix : List ℕ
  pub body : Inlined

-- the alias or else the first output stream
abbrev pub invocation_name : Invocation → List ℕ
invocation_name i = option_map_or (λ n. n.what) i.alias (option_map_or (λ o. o.name.what) (first_of i.outputs) [])

-- the place of a name in a list
abbrev pub place_of : List ℕ → List (List ℕ) → Option ℕ
place_of name names = option_map (λ n. n.place) (first_from (λ n. bytes_eq n name) 0 names)

-- the names of the streams of an input port of an invocation
abbrev pub names_of_port : ℕ → Invocation → List (Placed (List ℕ))
names_of_port k i = option_map_or (λ q. q.streams) (slice_get i.inputs k) []

-- those of the invocation at a site
abbrev pub port_names : List Inlined → Site → ℕ → List (Placed (List ℕ))
port_names es s k =
    option_map_or (λ e. option_map_or (names_of_port k) (slice_get e.composite.what.graph s.invocation) [])
    (slice_get es s.expansion) []

-- what an input of a head takes: what the names of that port do where the composite is invoked
abbrev pub input_sources : (ℕ → List ℕ → List Source) → List Inlined → Option Site → ℕ → List Source
input_sources outside es site k =
    option_map_or (λ s. flat_map (λ n. outside s.expansion n.what) (port_names es s k)) site []

-- what a name takes: the stream that the graph makes, or else what the input of that name does. Inputs are followed
-- outwards at most this number of times
abbrev pub taken_in : ℕ → List Inlined → ℕ → List ℕ → List Source
taken_in zero es number name = []
taken_in (suc count) es number name =
    option_map_or (λ e. option_map_or (λ k. source number k ∷ []) (place_of name (stream_names e.composite.what))
    (option_map_or (input_sources (taken_in count es) es e.site) (place_of name (input_names e.composite.what)) []))
    (slice_get es number) []

-- what a name takes in the expansion at a number
abbrev pub sources_of : List Inlined → ℕ → List ℕ → List Source
sources_of es number name = taken_in (length es) es number name

-- ---- operators

-- the operator of an invocation. Its label is the first output stream or else the alias, and an input port takes what
-- its names do
abbrev pub operation : List Inlined → Opened → ℕ → Invocation → OpKind → Operation
operation es p number i kind =
    record {
      name = p.prefix ++ invocation_name i;
      label = p.prefix ++ option_map_or (λ o. o.name.what) (first_of i.outputs) (invocation_name i);
      kind = kind;
      outputs = length i.outputs;
      at = i.at;
      ins = map (λ q. flat_map (λ n. sources_of es p.number n.what) q.streams) i.inputs;
      site = record { expansion = p.number; invocation = number };
    }

-- there are at most 256 operators, and their ports take fewer than 2^30 streams together
abbrev pub if_within : ℕ → Made → Expanded Made
if_within at made = if nat_le (length made.ops) 256 && nat_lt (sum_by (λ op. sum_by length op.ins) made.ops) (2 ^ 30)
    then Ok made else Err (unnamed_refusal E.TooMany at)

-- ---- composites

-- the body of the composite that an invocation invokes, at its site
abbrev pub inlined : Opened → ℕ → At Composite → Inlined
inlined p number c = record { composite = c; site = Some (record { expansion = p.number; invocation = number }) }

abbrev pub opened_in : Opened → ℕ → Invocation → At Composite → Made → Opened
opened_in p number i c made =
    record {
      number = length made.expansions;
      prefix = p.prefix ++ invocation_name i ++ codes ".";
      body = inlined p number c;
    }

-- ---- the work

-- how the body at a place is expanded
abbrev pub Expands : Type 0
Expands = Opened → Made → Expanded Made

-- an operator is put after the others, and an expansion that makes no operator isn't kept
abbrev pub expanded_target : Expands → Opened → ℕ → Invocation → Target → Made → Expanded Made
expanded_target expands p number i (Operator kind) made =
    if_within i.at (record {
      ops = made.ops ++ operation made.expansions p number i kind ∷ [];
      expansions = made.expansions;
    })
expanded_target expands p number i (Body c) made =
    if fits_head c.what i
    then after (expands (opened_in p number i c made)
    (record { ops = made.ops; expansions = made.expansions ++ inlined p number c ∷ [] }))
    (λ m. Ok (if length made.ops == length m.ops then made else m))
    else Err (named_refusal E.Ports (placed i.at i.operator.what))
expanded_target expands p number i Nothing made = Err (named_refusal E.Unknown i.operator)

-- what isn't declared is refused first
abbrev pub expanded_invocation : Expands → List Definition → Opened → ℕ → Invocation → Made → Expanded Made
expanded_invocation expands unit p number i made =
    option_map_or (λ n. Err (named_refusal E.Unknown n)) (first_of (undeclared unit p.body.composite.what i))
    (expanded_target expands p number i (target_of unit i.operator.what) made)

-- the invocations of a graph one after another, from a number on
abbrev pub expanded_graph : Expands → List Definition → Opened → ℕ → List Invocation → Made → Expanded Made
expanded_graph expands unit p number [] made = Ok made
expanded_graph expands unit p number (i ∷ is) made =
    after (expanded_invocation expands unit p number i made) (expanded_graph expands unit p (suc number) is)

-- the body at a place, in which others nest at most this deep
abbrev pub expanded : ℕ → List Definition → Expands
expanded zero unit p made = Ok made
expanded (suc depth) unit p made = expanded_graph (expanded depth unit) unit p 0 p.body.composite.what.graph made

abbrev pub main_body : At Composite → Inlined
main_body main = record { composite = main; site = None }

-- where no composite reaches itself, they nest no deeper than there are composites
abbrev pub expanded_main : List Definition → At Composite → Expanded Made
expanded_main unit main =
    expanded (length (composites unit)) unit (record { number = 0; prefix = []; body = main_body main })
    (record { ops = []; expansions = main_body main ∷ [] })
