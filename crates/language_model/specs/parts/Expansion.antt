-- Words for parts of the rules of the expansion, each of which says what one function gives.
use Rattle.std.specs.Prelude.{ℕ, ◌^◌, ◌==◌, nat_lt, nat_le, Bool, ◌&&◌, List, [], ◌∷◌, ◌++◌, map, flat_map, length, sum_by, if◌then◌else◌}
use Rattle.std.specs.Option.{option_map_or}
use Rattle.spl_tree.specs.declared.unit.Invocation.{Invocation}
use Rattle.spl_tree.specs.declared.unit.OutputStream.{OutputStream}
use Rattle.language_model.specs.declared.expansion.Operation.{Operation}
use Rattle.language_model.specs.declared.expansion.Source.{Source}
use Rattle.language_model.specs.Declarations.{first_of}
use Rattle.language_model.specs.Expansion.{Inlined, Made, invocation_name, sources_of}

-- the first output stream or else the alias
abbrev pub label_of : Invocation → List OutputStream → List ℕ
label_of i outputs = option_map_or (λ o. o.name.what) (first_of outputs) (invocation_name i)

-- what each input port of an invocation takes
abbrev pub ports_of : List Inlined → ℕ → Invocation → List (List Source)
ports_of es number i = map (λ q. flat_map (λ n. sources_of es number n.what) q.streams) i.inputs

-- how many streams the ports of an operator take
abbrev pub connections_of : Operation → ℕ
connections_of op = sum_by length op.ins

-- at most 256 operators, and fewer than 2^30 connections
abbrev pub is_within : List Operation → Bool
is_within ops = nat_le (length ops) 256 && nat_lt (sum_by connections_of ops) (2 ^ 30)

abbrev pub with_expansion : Inlined → Made → Made
with_expansion e made = record { ops = made.ops; expansions = made.expansions ++ e ∷ [] }

-- an expansion that makes no operator isn't kept
abbrev pub if_grown : Made → Made → Made
if_grown before made = if length before.ops == length made.ops then before else made
