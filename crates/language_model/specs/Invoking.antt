-- What the names in the graph of a composite mean, and how an invocation is refused by what it names and by the head
-- that it has to fit.
use Rattle.std.specs.Prelude.{ℕ, ◌==◌, Bool, true, false, ◌&&◌, ◌||◌, not, List, [], ◌∷◌, ◌++◌, map, flat_map, filter, length, if◌then◌else◌, is_some, is_none}
use Rattle.std.specs.List.{list_any, list_all}
use Rattle.std.specs.Option.{option_map_or}
use Rattle.std.specs.Str.{bytes_eq}
use Rattle.spl_tree.specs.declared.expression.Placed.{Placed}
use Rattle.spl_tree.specs.declared.graph.OpKind.{OpKind}
use Rattle.spl_tree.specs.declared.unit.Composite.{Composite}
use Rattle.spl_tree.specs.declared.unit.Definition.{Definition}
use Rattle.spl_tree.specs.declared.unit.Invocation.{Invocation}
use Rattle.spl_tree.specs.declared.unit.Parameter.{Parameter}
use Rattle.language_model.specs.Composites.{composite_named, is_empty}
use Rattle.language_model.specs.Declarations.{repeated_names}
use Rattle.language_model.specs.Kinds.{kind_named}
use Rattle.language_model.specs.Mentions.{dollars, clause_mentions}
use Rattle.language_model.specs.Names.{is_named}
use Rattle.language_model.specs.Scopes.{At}

-- ---- names

-- what is invoked by a name: a composite of the unit, or else an operator
pub data Target : Type 0 where
  Operator : OpKind → Target
  Body : At Composite → Target
  Nothing : Target

abbrev pub target_of : List Definition → List ℕ → Target
target_of unit name = option_map_or Body (composite_named unit name) (option_map_or Operator (kind_named name) Nothing)

-- the streams that the invocations of a graph make, in the order of the text
abbrev pub stream_names : Composite → List (List ℕ)
stream_names c = flat_map (λ i. map (λ o. o.name.what) i.outputs) c.graph

abbrev pub input_names : Composite → List (List ℕ)
input_names c = map (λ p. p.name.what) c.inputs

abbrev pub is_parameter : Composite → List ℕ → Bool
is_parameter c name = is_named (map (λ p. p.name.what) c.parameters) name

-- ---- what isn't declared

abbrev pub is_nothing : Target → Bool
is_nothing Nothing = true
is_nothing target = false

-- the names of an invocation that aren't declared: that of the operator, the streams that it reads, each of which an
-- invocation of the composite has to make or an input has to have, and the `$` parameters in its clauses, in this order
abbrev pub undeclared : List Definition → Composite → Invocation → List (Placed (List ℕ))
undeclared unit c i =
    (if is_nothing (target_of unit i.operator.what) then i.operator ∷ [] else [])
    ++ filter (λ n. not (is_named (stream_names c) n.what || is_named (input_names c) n.what))
    (flat_map (λ p. p.streams) i.inputs)
    ++ filter (λ n. not (is_parameter c n.what)) (dollars (clause_mentions i.clauses))

-- ---- heads

-- each argument has one value, and the head has a parameter of its name; no argument is given twice; and each parameter
-- has a default or an argument
abbrev pub fit_parameters : Composite → List Parameter → Bool
fit_parameters c arguments =
    list_all (λ p. (length p.values == 1) && is_parameter c p.name.what) arguments
    && is_empty (repeated_names (map (λ a. a.name) arguments))
    && list_all (λ p. is_some p.default || list_any (λ a. bytes_eq a.name.what p.name.what) arguments) c.parameters

-- an invocation has as many ports as the head, arguments for its parameters, and beside them at most `config`; and the
-- composite makes each of its outputs
abbrev pub fits_head : Composite → Invocation → Bool
fits_head c i =
    (length i.outputs == length c.outputs) && (length i.inputs == length c.inputs)
    && (is_none i.clauses.logic && is_none i.clauses.window && is_none i.clauses.output)
    && fit_parameters c i.clauses.parameters
    && list_all (λ p. is_named (stream_names c) p.name.what) c.outputs
