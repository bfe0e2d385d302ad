-- The values of the parameters of an expansion, by where it is invoked.
use Rattle.std.specs.Prelude.{◌≡◌, ℕ, List, [], Option, Some, None, Result, Ok, Err, IfOk, unwrap_or}
use Rattle.std.specs.Borrow.{Bor}
use Rattle.std.specs.Option.{option_copied, option_map, option_map_or}
use Rattle.std.specs.Slice.{IsItemAt}
use Rattle.std.proofs.Common.{refl, ap, sym, subst, ◌∙◌}
use Rattle.std.proofs.lemmas.Option.{slice_get-map}
use Rattle.spl_value.specs.declared.memory.NoMemory.{NoMemory}
use Rattle.spl_tree.specs.declared.graph.Expansion.{Expansion}
use Rattle.spl_tree.specs.declared.unit.Composite.{Composite}
use Rattle.spl_tree.specs.declared.unit.CompositeParameter.{CompositeParameter}
use Rattle.spl_tree.specs.declared.unit.Definition.{Definition}
use Rattle.spl_tree.specs.declared.unit.Parameter.{Parameter}
use Rattle.language_model.specs.declared.scope.Dollar.{Dollar}
use Rattle.language_model.specs.declared.scope.Scope.{Scope}
use Rattle.language_model.specs.Parameters.{Tables, constant_scope, expansion_dollars, table_at}
use Rattle.language_model.specs.parts.Parameters.{parameters_given}
use Rattle.language_model.specs.DollarTargets.{arguments_of, composite_of}
use Rattle.language_model.specs.TypeNames.{Types, composite_types}
use Rattle.written_types.specs.declared.finding.TypeScope.{TypeScope}
use Rattle.written_types.specs.TypeScopes.{types_in}
use Rattle.body_sites.specs.Sites.{MeansTypes}
use Rattle.dollar_rules.specs.steps.Tables.{tables_of}
use Rattle.spl_value.proofs.Lists.{copied_at}

pub settled_for : (r : Result Scope NoMemory) (own given : List Dollar) → IfOk r (λ s. s ≡ constant_scope own) → own ≡ given → IfOk r (λ s. s ≡ constant_scope given)
settled_for (Ok s) own given h e = h ∙ ap constant_scope e
settled_for (Err x) own given h e = tt

-- the table of the outer expansion, where it stands before
pub outer_dollars : (before : List Scope) (number : ℕ) (nothing : Bor Scope) (r : Option (Bor Scope)) → IsItemAt before number r → nothing.now ≡ constant_scope []
    → (unwrap_or r nothing).now.dollars ≡ table_at (tables_of before) number
outer_dollars before number nothing r read none = seen r ∙ ap (λ o. option_map_or (λ table. table) o []) (ap (option_map (λ s. s.dollars)) (copied_at before number r read) ∙ sym (slice_get-map (λ s. s.dollars) before number))
  where
    seen : (r : Option (Bor Scope)) → (unwrap_or r nothing).now.dollars ≡ option_map_or (λ table. table) (option_map (λ (s : Scope). s.dollars) (option_copied r)) []
    seen None = ap (λ s. s.dollars) none
    seen (Some s) = refl

pub means_there : (unit : List Definition) (o : Option Composite) (c : Composite) (types : TypeScope) → Some c ≡ o → MeansTypes unit o (Some types) → types_in types ≡ composite_types unit c
means_there unit o c types e h = subst (λ o. MeansTypes unit o (Some types)) (sym e) h

pub dollars_there : (unit : List Definition) (expansions : List Expansion) (before : Tables) (x : Expansion) (c : Composite)
    (types : Types) (outer : List Dollar) (arguments : List Parameter) (parameters : List CompositeParameter)
    → Some c ≡ composite_of unit x → types ≡ composite_types unit c → outer ≡ option_map_or (λ s. table_at before s.expansion) x.site []
    → arguments ≡ arguments_of unit expansions x → parameters ≡ c.parameters
    → parameters_given types outer arguments parameters ≡ expansion_dollars unit expansions before x
dollars_there unit expansions before x c types outer arguments parameters there t o a p =
    (λ i. parameters_given (t i) (o i) (a i) (p i))
    ∙ ap (λ k. option_map_or (λ (c : Composite). parameters_given (composite_types unit c) (option_map_or (λ s. table_at before s.expansion) x.site []) (arguments_of unit expansions x) c.parameters) k []) there
