-- Words for parts of the rules of the expansion.
use Rattle.std.specs.Prelude.{ℕ, List, [], ◌∷◌, ◌++◌, Option, Err}
use Rattle.std.specs.Option.{option_map_or}
use Rattle.spl_tree.specs.declared.expression.Placed.{Placed}
use Rattle.spl_tree.specs.declared.graph.Site.{Site}
use Rattle.spl_tree.specs.declared.unit.OutputStream.{OutputStream}
use Rattle.language_model.specs.declared.expansion.ExpansionError.TheVariants as E
use Rattle.language_model.specs.Refusals.{named_refusal}
use Rattle.language_model.specs.declared.expansion.Operation.{Operation}
use Rattle.language_model.specs.declared.expansion.Source.{Source}
use Rattle.language_model.specs.Declarations.{first_of}
use Rattle.language_model.specs.Expansion.{Expanded, Inlined, Made, Opened, input_sources, place_of, source}
use Rattle.language_model.specs.Invoking.{input_names}

abbrev pub first_output : List OutputStream → List ℕ
first_output outputs = option_map_or (λ o. o.name.what) (first_of outputs) []

-- what a name takes: the stream that the graph makes, or else what the input of that name does
abbrev pub own_or_input : (ℕ → List ℕ → List Source) → List Inlined → ℕ → Inlined → List ℕ → Option ℕ → List Source
own_or_input outside es number e name own =
    option_map_or (λ k. source number k ∷ []) own (option_map_or (input_sources outside es e.site) (place_of name (input_names e.composite.what)) [])

abbrev pub site_in : Opened → ℕ → Site
site_in p number = record { expansion = p.number; invocation = number }

abbrev pub with_operation : Operation → Made → Made
with_operation op made = record { ops = made.ops ++ op ∷ []; expansions = made.expansions }

-- what isn't declared is refused first
abbrev pub if_declared : Option (Placed (List ℕ)) → Expanded Made → Expanded Made
if_declared undeclared found = option_map_or (λ n. Err (named_refusal E.Unknown n)) undeclared found
