-- Words for parts of the rules of invocations, each of which says what one function gives.
use Rattle.std.specs.Prelude.{ℕ, ◌==◌, Bool, ◌&&◌, ◌||◌, List, length, is_none}
use Rattle.spl_tree.specs.declared.unit.Clauses.{Clauses}
use Rattle.spl_tree.specs.declared.unit.Composite.{Composite}
use Rattle.spl_tree.specs.declared.unit.Parameter.{Parameter}
use Rattle.language_model.specs.Invoking.{input_names, is_parameter, stream_names}
use Rattle.language_model.specs.Names.{is_named}

-- a stream that an invocation in the composite may read
abbrev pub is_readable : Composite → List ℕ → Bool
is_readable c name = is_named (stream_names c) name || is_named (input_names c) name

-- an argument has one value, and the head has a parameter of its name
abbrev pub is_argument : Composite → Parameter → Bool
is_argument c p = (length p.values == 1) && is_parameter c p.name.what

-- beside arguments an invocation of a composite has at most `config`
abbrev pub has_arguments_alone : Clauses → Bool
has_arguments_alone x = is_none x.logic && is_none x.window && is_none x.output
