-- What the checks of an operator find, by what its calls answer.
use Rattle.std.specs.Prelude.{◌≡◌, ℕ, suc, List, [], ◌∷◌, map, length, Option, Some, None, Ok, Err, slice_get}
use Rattle.std.specs.Option.{option_and_then, option_map, option_map_or}
use Rattle.std.proofs.Common.{refl, sym, ap, ◌∙◌}
use Rattle.std.proofs.lemmas.Option.{same_Some}
use Rattle.spl_tree.specs.declared.graph.Expansion.{Expansion}
use Rattle.spl_tree.specs.declared.graph.Graph.{Graph}
use Rattle.spl_tree.specs.declared.graph.Op.{Op}
use Rattle.spl_tree.specs.declared.unit.Composite.{Composite}
use Rattle.spl_tree.specs.declared.unit.Definition.{Definition}
use Rattle.spl_tree.specs.declared.unit.InputPort.{InputPort}
use Rattle.spl_tree.specs.declared.unit.Invocation.{Invocation}
use Rattle.spl_tree.specs.declared.unit.OutputStream.{OutputStream}
use Rattle.spl_tree.specs.Trees.{Expr}
use Rattle.language_model.specs.declared.checked.CheckedClauses.{CheckedClauses}
use Rattle.language_model.specs.declared.checked.PortTypes.{PortTypes}
use Rattle.language_model.specs.declared.scope.Port.{Port}
use Rattle.language_model.specs.declared.scope.Scope.{Scope}
use Rattle.language_model.specs.Checking.{clauses_checked, invocation_checked, operator_checked, port_name, port_types}
use Rattle.language_model.proofs.parts.Checking.{body_checked}
use Rattle.language_model.specs.parts.Checking.{outputs_checked, ports_checked, ports_of, surroundings}
use Rattle.language_model.specs.FunctionTyping.{unit_scope}
use Rattle.language_model.specs.DollarTargets.{composite_of, expression_meant}
use Rattle.language_model.specs.Parameters.{Tables, table_at}
use Rattle.language_model.specs.StreamTypes.{Attributes, Body, body_at, outputs_attributes, passed, stream_attributes, output_heads, ports_attributes}
use Rattle.language_model.specs.TypeNames.{Types, composite_types}
use Rattle.language_model.specs.Typing.{Found, after, mismatch}
use Rattle.language_model.proofs.FoundAnswers.{after_gives}
use Rattle.clause_rules.specs.steps.Operators.{named}
use Rattle.clause_rules.specs.steps.Programs.{invocation_in}

abbrev as_found : {A : Type 0} → A → Found A
as_found x = Ok x

abbrev value_or : {A : Type 0} → A → Found A → A
value_or y (Ok x) = x
value_or y (Err r) = y

-- one thing is found
pub same_found : {A : Type 0} (x y : A) → as_found x ≡ as_found y → x ≡ y
same_found x y e = ap (value_or x) e

-- ---- names

pub named_ports : (qs : List InputPort) (schemas : List Attributes) → ports_of qs schemas ≡ named (λ q. port_name q) qs schemas
named_ports [] schemas = refl
named_ports (q ∷ qs) [] = refl
named_ports (q ∷ qs) (s ∷ schemas) = ap (λ ps. record { name = port_name q; schema = s } ∷ ps) (named_ports qs schemas)

pub names_of : {A : Type 0} (name : A → List ℕ) (xs : List A) (schemas : List Attributes) → length schemas ≡ length xs
    → map (λ p. p.name) (named name xs schemas) ≡ map name xs
names_of name [] schemas e = refl
names_of name (x ∷ xs) [] e = absurd (no e)
  where
    no : 0 ≡ length (x ∷ xs) → ⊥
    no e = cc
names_of name (x ∷ xs) (s ∷ schemas) e = ap (λ ns. name x ∷ ns) (names_of name xs schemas (less e))
  where
    less : length (s ∷ schemas) ≡ length (x ∷ xs) → length schemas ≡ length xs
    less e = cc

pub schemas_of : {A : Type 0} (name : A → List ℕ) (xs : List A) (schemas : List Attributes) → length schemas ≡ length xs
    → map (λ p. p.schema) (named name xs schemas) ≡ schemas
schemas_of name [] [] e = refl
schemas_of name [] (s ∷ schemas) e = absurd (no e)
  where
    no : length (s ∷ schemas) ≡ 0 → ⊥
    no e = cc
schemas_of name (x ∷ xs) [] e = refl
schemas_of name (x ∷ xs) (s ∷ schemas) e = ap (λ ss. s ∷ ss) (schemas_of name xs schemas (less e))
  where
    less : length (s ∷ schemas) ≡ length (x ∷ xs) → length schemas ≡ length xs
    less e = cc

-- ---- outputs

pub outs_length : (unit : List Definition) (g : Graph) (b : Body) (os : List OutputStream) (outs : List ℕ) (schemas : List Attributes)
    → outputs_attributes unit g b os outs ≡ Ok schemas → length outs ≡ length os → length schemas ≡ length os
outs_length unit g b [] outs schemas e l = ap length (sym (same_found [] schemas e))
outs_length unit g b (o ∷ os) [] schemas e l = absurd (no l)
  where
    no : 0 ≡ length (o ∷ os) → ⊥
    no l = cc
outs_length unit g b (o ∷ os) (s ∷ outs) schemas e l =
    let first = after_gives (stream_attributes unit g s) _ schemas e in
    let heads = after_gives (output_heads (length g.expansions) unit g first.0 b o.name.what) _ schemas first.2 in
    let others = after_gives (outputs_attributes unit g b os outs) (λ rest. Ok (first.0 ∷ rest)) schemas heads.2 in
    ap length (sym (same_found (first.0 ∷ others.0) schemas others.2)) ∙ ap suc (outs_length unit g b os outs others.0 others.1 (less l))
  where
    less : length (s ∷ outs) ≡ length (o ∷ os) → length outs ≡ length os
    less e = cc

abbrev with_types : List Attributes → List Attributes → Unit {0} → Found PortTypes
with_types outs ins u = Ok (record { ins = ins; outs = outs })

abbrev with_ins : Op → Invocation → List Attributes → List Attributes → Found PortTypes
with_ins op i outs ins = after (outputs_checked op.kind i.outputs outs ins) (with_types outs ins)

pub types_length : (unit : List Definition) (g : Graph) (b : Body) (op : Op) (i : Invocation) (types : PortTypes)
    → port_types unit g b op i ≡ Ok types → length op.outs ≡ length i.outputs → length types.outs ≡ length i.outputs
types_length unit g b op i types e l =
    let outs = after_gives (outputs_attributes unit g b i.outputs op.outs) _ types e in
    let ins = after_gives (ports_attributes unit g b i.inputs op.ins) (with_ins op i outs.0) types outs.2 in
    let fit = after_gives (outputs_checked op.kind i.outputs outs.0 ins.0) (with_types outs.0 ins.0) types ins.2 in
    ap (λ t. length t.outs) (sym (same_found (record { ins = ins.0; outs = outs.0 }) types fit.2)) ∙ outs_length unit g b i.outputs op.outs outs.0 outs.1 l

-- ---- an invocation

module _ (unit : List Definition) (g : Graph) (s : Scope) (op : Op) (b : Body) (i : Invocation) where
  abbrev behind : PortTypes → Found CheckedClauses
  behind types =
      let own = record s { ports = ports_of i.inputs types.ins } in
      clauses_checked op (record { scope = own; follow = expression_meant unit g.expansions b.number }) (surroundings unit b i own types.outs) i.clauses

  unrolled : (types : PortTypes) → ports_checked op i ≡ passed → port_types unit g b op i ≡ Ok types → invocation_in unit g s op b i ≡ behind types
  unrolled types passes typed = ap (λ o. after o (λ u. after (port_types unit g b op i) behind)) passes ∙ ap (λ o. after o behind) typed

  pub invocation_is : (types : PortTypes) (ports outs : List Port) (follow : Expr → Option Expr) (meant : Types)
      → ports_checked op i ≡ passed → port_types unit g b op i ≡ Ok types → length op.outs ≡ length i.outputs
      → ports ≡ named (λ q. port_name q) i.inputs types.ins → outs ≡ named (λ o. o.name.what) i.outputs types.outs
      → follow ≡ expression_meant unit g.expansions b.number → meant ≡ composite_types unit b.composite
      → invocation_in unit g s op b i
      ≡ clauses_checked op (record { scope = record s { ports = ports }; follow = follow })
      (record { types = meant; scope = record s { ports = ports }; outputs = map (λ p. p.name) outs; schemas = map (λ p. p.schema) outs }) i.clauses
  invocation_is types ports outs follow meant passes typed l p o f m =
      let p : ports_of i.inputs types.ins ≡ ports = named_ports i.inputs types.ins ∙ sym p in
      let l = types_length unit g b op i types typed l in
      let n : map (λ o. o.name.what) i.outputs ≡ map (λ p. p.name) outs = sym (names_of (λ o. o.name.what) i.outputs types.outs l) ∙ ap (map (λ p. p.name)) (sym o) in
      let s' : types.outs ≡ map (λ p. p.schema) outs = sym (schemas_of (λ o. o.name.what) i.outputs types.outs l) ∙ ap (map (λ p. p.schema)) (sym o) in
      unrolled types passes typed
      ∙ (λ k. clauses_checked op (record { scope = record s { ports = p k }; follow = sym f k })
      (record { types = sym m k; scope = record s { ports = p k }; outputs = n k; schemas = s' k }) i.clauses)

-- ---- an operator

number_in : (n : ℕ) (x : Expansion) (o : Option Composite) (b : Body) → option_map (λ c. record { number = n; expansion = x; composite = c }) o ≡ Some b → b.number ≡ n
number_in n x None b e = cc
number_in n x (Some c) b e = sym (ap (λ b. b.number) (same_Some (record { number = n; expansion = x; composite = c }) b e))

number_at : (n : ℕ) (f : Expansion → Option Composite) (o : Option Expansion) (b : Body)
    → option_and_then (λ x. option_map (λ c. record { number = n; expansion = x; composite = c }) (f x)) o ≡ Some b → b.number ≡ n
number_at n f None b e = cc
number_at n f (Some x) b e = number_in n x (f x) b e

pub number_is : (unit : List Definition) (g : Graph) (n : ℕ) (b : Body) → body_at unit g n ≡ Some b → b.number ≡ n
number_is unit g n b e = number_at n (composite_of unit) (slice_get g.expansions n) b e

pub operator_is : (unit : List Definition) (g : Graph) (tables : Tables) (op : Op) (b : Body) (i : Invocation) (s : Scope)
    → body_at unit g op.site.expansion ≡ Some b → slice_get b.composite.graph op.site.invocation ≡ Some i
    → s ≡ record (unit_scope unit) { dollars = table_at tables op.site.expansion } → operator_checked unit g tables op ≡ invocation_in unit g s op b i
operator_is unit g tables op b i s body there scope =
    ap (body_checked unit g tables op) body ∙ ap (λ o. option_map_or (invocation_checked unit g tables op b) o (mismatch op.at)) there
    ∙ ap (λ s. invocation_in unit g s op b i)
    (ap (λ n. record (unit_scope unit) { dollars = table_at tables n }) (number_is unit g op.site.expansion b body) ∙ sym scope)
