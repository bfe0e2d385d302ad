-- An operator that was checked fits its ports, the streams at these, and its clauses.
use Rattle.std.specs.Prelude.{◌≡◌, ℕ, zero, suc, true, false, List, [], ◌∷◌, map, length, if◌then◌else◌, Option, Some, None, Ok, slice_get}
use Rattle.std.specs.Option.{option_and_then, option_map_or}
use Rattle.std.proofs.Common.{refl, sym, ap, ◌∙◌, subst, arith}
use Rattle.std.proofs.lemmas.Option.{same_Some}
use Rattle.spl_tree.specs.declared.graph.Graph.{Graph}
use Rattle.spl_tree.specs.declared.graph.Op.{Op}
use Rattle.spl_tree.specs.declared.unit.Composite.{Composite}
use Rattle.spl_tree.specs.declared.unit.Definition.{Definition}
use Rattle.spl_tree.specs.declared.unit.InputPort.{InputPort}
use Rattle.spl_tree.specs.declared.unit.Invocation.{Invocation}
use Rattle.language_model.specs.declared.checked.CheckedClauses.{CheckedClauses}
use Rattle.language_model.specs.declared.checked.PortTypes.{PortTypes}
use Rattle.language_model.specs.declared.scope.CheckError.TheVariants as E
use Rattle.language_model.specs.declared.scope.Port.{Port}
use Rattle.language_model.specs.Checking.{clauses_checked, fit_ports, invocation_checked, operator_checked, port_types}
use Rattle.language_model.proofs.parts.Checking.{body_checked, operator_scope, site_of}
use Rattle.language_model.specs.parts.Checking.{operators_checked, outputs_checked, ports_checked, ports_of, surroundings}
use Rattle.language_model.specs.FitLaws.{DollarsFit}
use Rattle.language_model.specs.FlatLaws.{IsInvoked}
use Rattle.language_model.specs.FunctionTyping.{unit_scope}
use Rattle.language_model.specs.Keeping.{OperatorFits, PartFits}
use Rattle.language_model.specs.Parameters.{Tables, table_at}
use Rattle.language_model.specs.DollarTargets.{invocation_at}
use Rattle.language_model.specs.StreamTypes.{Attributes, Body, body_at, outputs_attributes, passed, ports_attributes}
use Rattle.language_model.specs.Typing.{Found, after, mismatch, refused}
use Rattle.check_laws.specs.PartsLaw.{PartsLaw}
use Rattle.language_model.proofs.FoundAnswers.{after_gives, same_Ok}
use Rattle.check_laws.proofs.ExpansionBodies.{body_of}
use Rattle.check_laws.proofs.GraphLimits.{HasPlaces}
use Rattle.check_laws.proofs.StreamSchemas.{EachHas, outputs_have, ports_have}

-- ---- each operator

-- each operator has a part, which was found for it
pub record EachChecked (unit : List Definition) (g : Graph) (tables : Tables) (ops : List Op) (parts : List CheckedClauses) : Type 0 where
  pub count : length parts ≡ length ops
  pub found : (n : ℕ) (op : Op) (part : CheckedClauses) → slice_get ops n ≡ Some op → slice_get parts n ≡ Some part → operator_checked unit g tables op ≡ Ok part

no_operators : (unit : List Definition) (g : Graph) (tables : Tables) → EachChecked unit g tables [] []
no_operators unit g tables = record { count = refl; found = λ n op part at at_part. absurd cc }

one_more : (unit : List Definition) (g : Graph) (tables : Tables) (op : Op) (ops : List Op) (part : CheckedClauses) (parts : List CheckedClauses) → operator_checked unit g tables op ≡ Ok part
    → EachChecked unit g tables ops parts → EachChecked unit g tables (op ∷ ops) (part ∷ parts)
one_more unit g tables op ops part parts e rest = record { count = ap suc rest.count; found = at_each }
  where
    at_each : (n : ℕ) (o : Op) (p : CheckedClauses) → slice_get (op ∷ ops) n ≡ Some o → slice_get (part ∷ parts) n ≡ Some p → operator_checked unit g tables o ≡ Ok p
    at_each zero o p at at_part =
        let same : op ≡ o = same_Some op o at in
        let same_part : part ≡ p = same_Some part p at_part in
        subst (λ (x : Op). operator_checked unit g tables x ≡ Ok p) same (e ∙ ap Ok same_part)
    at_each (suc n) o p at at_part = rest.found n o p at at_part

pub each_checked : (unit : List Definition) (g : Graph) (tables : Tables) (ops : List Op) (parts : List CheckedClauses) → operators_checked unit g tables ops ≡ Ok parts
    → EachChecked unit g tables ops parts
each_checked unit g tables [] parts e = let none : [] ≡ parts = same_Ok e in subst (EachChecked unit g tables []) none (no_operators unit g tables)
each_checked unit g tables (op ∷ ops) parts e =
    let x = after_gives (operator_checked unit g tables op) (λ part. after (operators_checked unit g tables ops) (λ rest. Ok (part ∷ rest))) parts e in
    let y = after_gives (operators_checked unit g tables ops) (λ rest. Ok (x.0 ∷ rest)) parts x.2 in
    let whole : x.0 ∷ y.0 ≡ parts = same_Ok y.2 in
    subst (EachChecked unit g tables (op ∷ ops)) whole (one_more unit g tables op ops x.0 y.0 x.1 (each_checked unit g tables ops y.0 y.1))

-- ---- where an operator stands

found_in : {A B : Type 0} (f : A → Found B) (o : Option A) (at : ℕ) (b : B) → option_map_or f o (mismatch at) ≡ Ok b → (a : A) × (o ≡ Some a) × (f a ≡ Ok b)
found_in f None at b e = absurd cc
found_in f (Some a) at b e = (a, refl, e)

-- the body in which an operator stands, the invocation there, and that it was checked
record StandsAt (unit : List Definition) (g : Graph) (tables : Tables) (op : Op) (part : CheckedClauses) : Type 0 where
  pub body : Body
  pub invocation : Invocation
  pub at_body : body_at unit g op.site.expansion ≡ Some body
  pub at_invocation : slice_get body.composite.graph op.site.invocation ≡ Some invocation
  pub checked : invocation_checked unit g tables op body invocation ≡ Ok part

stands_in : (unit : List Definition) (g : Graph) (tables : Tables) (op : Op) (part : CheckedClauses) (o : Option Body) → body_at unit g op.site.expansion ≡ o
    → body_checked unit g tables op o ≡ Ok part → StandsAt unit g tables op part
stands_in unit g tables op part None at e = absurd cc
stands_in unit g tables op part (Some b) at e =
    let x = found_in (invocation_checked unit g tables op b) (slice_get b.composite.graph op.site.invocation) op.at part e in
    record { body = b; invocation = x.0; at_body = at; at_invocation = x.1; checked = x.2 }

stands_at : (unit : List Definition) (g : Graph) (tables : Tables) (op : Op) (part : CheckedClauses) → operator_checked unit g tables op ≡ Ok part → StandsAt unit g tables op part
stands_at unit g tables op part e = stands_in unit g tables op part (body_at unit g op.site.expansion) refl e

-- the invocation at the site of an operator is the one in its body
invocation_there : (unit : List Definition) (g : Graph) (op : Op) (b : Body) (i : Invocation) → body_at unit g op.site.expansion ≡ Some b
    → slice_get b.composite.graph op.site.invocation ≡ Some i → invocation_at unit g.expansions op.site ≡ Some i
invocation_there unit g op b i at_body at_invocation =
    ap (option_and_then (λ (c : Composite). slice_get c.graph op.site.invocation))
    (body_of unit g op.site.expansion b at_body).composite ∙ at_invocation

-- ---- ports

ports_fit : (op : Op) (i : Invocation) (u : Unit {0}) → ports_checked op i ≡ Ok u → fit_ports op.kind (length i.inputs) (length i.outputs) ≡ true
ports_fit op i u e =
    elim (fit_ports op.kind (length i.inputs) (length i.outputs))
    as (λ b. (if b then passed else refused E.PortCount op.at None) ≡ Ok u → b ≡ true) [ true ↦ λ is. refl | false ↦ λ no. absurd cc ] e

port_schemas : (qs : List InputPort) (ins : List Attributes) → length ins ≡ length qs → map (λ p. p.schema) (ports_of qs ins) ≡ ins
port_schemas [] [] same = refl
port_schemas [] (schema ∷ ins) same = absurd (omega arith)
port_schemas (q ∷ qs) [] same = absurd (omega arith)
port_schemas (q ∷ qs) (schema ∷ ins) same = let fewer : length ins ≡ length qs = omega arith in ap (λ l. schema ∷ l) (port_schemas qs ins fewer)

port_count : (qs : List InputPort) (ins : List Attributes) → length ins ≡ length qs → length (ports_of qs ins) ≡ length qs
port_count [] [] same = refl
port_count [] (schema ∷ ins) same = absurd (omega arith)
port_count (q ∷ qs) [] same = absurd (omega arith)
port_count (q ∷ qs) (schema ∷ ins) same = let fewer : length ins ≡ length qs = omega arith in ap suc (port_count qs ins fewer)

record TypesFound (unit : List Definition) (g : Graph) (b : Body) (op : Op) (i : Invocation) (types : PortTypes) : Type 0 where
  pub outs : outputs_attributes unit g b i.outputs op.outs ≡ Ok types.outs
  pub ins : ports_attributes unit g b i.inputs op.ins ≡ Ok types.ins
  pub passed_on : outputs_checked op.kind i.outputs types.outs types.ins ≡ passed

types_found : (unit : List Definition) (g : Graph) (b : Body) (op : Op) (i : Invocation) (types : PortTypes) → port_types unit g b op i ≡ Ok types
    → TypesFound unit g b op i types
types_found unit g b op i types e =
    let x = after_gives (outputs_attributes unit g b i.outputs op.outs) (λ outs. after (ports_attributes unit g b i.inputs op.ins) (λ ins.
    after (outputs_checked op.kind i.outputs outs ins) (λ u. Ok (record { ins = ins; outs = outs })))) types e in
    let y = after_gives (ports_attributes unit g b i.inputs op.ins) (λ ins.
    after (outputs_checked op.kind i.outputs x.0 ins) (λ u. Ok (record { ins = ins; outs = x.0 }))) types x.2 in
    let z = after_gives (outputs_checked op.kind i.outputs x.0 y.0) (λ u. Ok (record { ins = y.0; outs = x.0 })) types y.2 in
    let whole : ◌≡◌ {A = PortTypes} (record { ins = y.0; outs = x.0 }) types = same_Ok z.2 in
    subst (TypesFound unit g b op i) whole record { outs = x.1; ins = y.1; passed_on = z.1 }

-- ---- one operator

module _ (parts_law : PartsLaw) (unit : List Definition) (g : Graph) (tables : Tables) (dollars : (number : ℕ) → DollarsFit (table_at tables number))
    (all : List Attributes) (each : EachHas unit g all) where
  invocation_fits : (op : Op) (part : CheckedClauses) (b : Body) (i : Invocation) → length op.ins ≡ length i.inputs → length op.outs ≡ length i.outputs → HasPlaces op b i
      → invocation_checked unit g tables op b i ≡ Ok part → OperatorFits all (unit_scope unit).functions op part
  invocation_fits op part b i as_many_ins as_many_outs places e =
      let x = after_gives (ports_checked op i) (λ u. after (port_types unit g b op i) (λ types.
      clauses_checked op (site_of unit g tables b (ports_of i.inputs types.ins))
      (surroundings unit b i (operator_scope unit tables b (ports_of i.inputs types.ins)) types.outs) i.clauses)) part e in
      let y = after_gives (port_types unit g b op i) (λ types.
      clauses_checked op (site_of unit g tables b (ports_of i.inputs types.ins))
      (surroundings unit b i (operator_scope unit tables b (ports_of i.inputs types.ins)) types.outs) i.clauses) part x.2 in
      with_types y.0 (types_found unit g b op i y.0 y.1) (ports_fit op i x.0 x.1) y.2
    where
      with_types : (types : PortTypes) → TypesFound unit g b op i types → fit_ports op.kind (length i.inputs) (length i.outputs) ≡ true
          → clauses_checked op (site_of unit g tables b (ports_of i.inputs types.ins))
          (surroundings unit b i (operator_scope unit tables b (ports_of i.inputs types.ins)) types.outs) i.clauses ≡ Ok part
          → OperatorFits all (unit_scope unit).functions op part
      with_types types t fit clauses =
          let scope = operator_scope unit tables b (ports_of i.inputs types.ins) in
          let gives = outputs_have unit g all each b i.outputs op.outs types.outs as_many_outs t.outs in
          let takes = ports_have unit g all each b i.inputs op.ins types.ins as_many_ins places t.ins in
          let schemas : map (λ (p : Port). p.schema) (ports_of i.inputs types.ins) ≡ types.ins = port_schemas i.inputs types.ins takes.1 in
          let count : length (ports_of i.inputs types.ins) ≡ length i.inputs = port_count i.inputs types.ins takes.1 in
          let fit_types : fit_ports op.kind (length (ports_of i.inputs types.ins)) (length types.outs) ≡ true =
          (λ j. fit_ports op.kind (count j) (gives.1 j)) ∙ fit in
          let fit_op : fit_ports op.kind (length op.ins) (length op.outs) ≡ true = (λ j. fit_ports op.kind (as_many_ins j) (as_many_outs j)) ∙ fit in
          let passed_on : outputs_checked op.kind i.outputs types.outs (map (λ (p : Port). p.schema) (ports_of i.inputs types.ins)) ≡ passed =
          ap (outputs_checked op.kind i.outputs types.outs) schemas ∙ t.passed_on in
          let part_fits : PartFits scope op.kind (map (λ (p : Port). p.schema) (ports_of i.inputs types.ins)) types.outs part =
          parts_law (site_of unit g tables b (ports_of i.inputs types.ins)) op (surroundings unit b i scope types.outs) i.clauses part refl refl refl (dollars b.number)
          fit_types i.outputs (sym gives.1) passed_on clauses in
          record {
            ins = types.ins;
            outs = types.outs;
            scope = scope;
            ports = fit_op;
            takes = takes.0;
            gives = gives.0;
            names = record { vars = refl; ports = schemas; functions = refl; punct = refl };
            clauses = subst (λ (ins : List Attributes). PartFits scope op.kind ins types.outs part) schemas part_fits;
          }

  pub operator_fits : (op : Op) (part : CheckedClauses) → IsInvoked unit g op
      → ((b : Body) (i : Invocation) → body_at unit g op.site.expansion ≡ Some b → slice_get b.composite.graph op.site.invocation ≡ Some i → HasPlaces op b i)
      → operator_checked unit g tables op ≡ Ok part → OperatorFits all (unit_scope unit).functions op part
  operator_fits op part invoked places e =
      let s = stands_at unit g tables op part e in
      let same : invoked.invocation ≡ s.invocation =
      same_Some invoked.invocation s.invocation (sym invoked.there ∙ invocation_there unit g op s.body s.invocation s.at_body s.at_invocation) in
      let ins : length op.ins ≡ length s.invocation.inputs = invoked.ins ∙ ap (λ (i : Invocation). length i.inputs) same in
      let outs : length op.outs ≡ length s.invocation.outputs = invoked.outs ∙ ap (λ (i : Invocation). length i.outputs) same in
      invocation_fits op part s.body s.invocation ins outs (places s.body s.invocation s.at_body s.at_invocation) s.checked
