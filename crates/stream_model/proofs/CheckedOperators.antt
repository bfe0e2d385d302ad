-- The operators of a checked graph, by their numbers.
use Rattle.std.proofs.Common.{◌≡◌, ℕ, zero, suc, ◌+◌, List, [], ◌∷◌, map, refl, sym, ap, subst, ◌∙◌, length, slice_get, Some, arith}
use Rattle.std.specs.Option.{unwrap_or}
use Rattle.std.proofs.lemmas.List.{length-map}
use Rattle.spl_tree.specs.declared.graph.Op.{Op}
use Rattle.language_model.specs.declared.checked.CheckedClauses.{CheckedClauses}
use Rattle.language_model.specs.CheckedGraph.{CheckedGraph}
use Rattle.language_model.specs.Checking.{fit_ports}
use Rattle.language_model.specs.Keeping.{Keeps, NamesPorts, PartFits, PortHas, PortsHave, StreamsHave}
use Rattle.language_model.specs.Keeping as K
use Rattle.language_model.specs.StreamTypes.{Attributes}
use Rattle.stream_model.specs.CheckedMeaning.{first_schema, operators_from, operator_with, schema_at}
use Rattle.stream_model.specs.Operators.{Operator}
use Rattle.stream_model.specs.Fitting.{CheckedFits, IsFitting}

-- an operator of the list is one of the graph with its clauses
pub record OperatorAt (c : CheckedGraph) (from : ℕ) (ops : List Op) (parts : List CheckedClauses) (n : ℕ) (o : Operator) : Type 0 where
  pub op : Op
  pub part : CheckedClauses
  pub there : slice_get ops n ≡ Some op
  pub has : slice_get parts n ≡ Some part
  pub same : o ≡ operator_with c (from + n) op part

pub operator_from : (c : CheckedGraph) (from : ℕ) (ops : List Op) (parts : List CheckedClauses) (n : ℕ) (o : Operator) → slice_get (operators_from c from ops parts) n ≡ Some o
    → OperatorAt c from ops parts n o
operator_from c from [] parts n o at = absurd cc
operator_from c from (op ∷ ops) [] n o at = absurd cc
operator_from c from (op ∷ ops) (part ∷ parts) zero o at =
    let same : o ≡ operator_with c from op part = cc in
    let number : from ≡ from + 0 = omega arith in
    record { op = op; part = part; there = refl; has = refl; same = same ∙ ap (λ k. operator_with c k op part) number }
operator_from c from (op ∷ ops) (part ∷ parts) (suc n) o at =
    let rest = operator_from c (suc from) ops parts n o at in
    let number : suc from + n ≡ from + suc n = omega arith in
    record { op = rest.op; part = rest.part; there = rest.there; has = rest.has; same = rest.same ∙ ap (λ k. operator_with c k rest.op rest.part) number }

pub operators_length : (c : CheckedGraph) (from : ℕ) (ops : List Op) (parts : List CheckedClauses) → length parts ≡ length ops → length (operators_from c from ops parts) ≡ length ops
operators_length c from [] parts l = refl
operators_length c from (op ∷ ops) [] l = absurd (omega (arith, l))
operators_length c from (op ∷ ops) (part ∷ parts) l =
    let same : length parts ≡ length ops = omega (arith, l) in
    let more = operators_length c (suc from) ops parts same in
    omega (arith, more)

-- ---- their attributes

pub first_is : (c : CheckedGraph) (streams : List ℕ) (schema : Attributes) → PortHas c.schemas streams schema → first_schema c streams ≡ schema
first_is c [] schema h = absurd (let some = h.some in omega (arith, some))
first_is c (s ∷ streams) schema h = ap (λ o. unwrap_or o []) (h.alike s (0, omega arith, refl))

ins_are : (c : CheckedGraph) (ports : List (List ℕ)) (ins : List Attributes) → PortsHave c.schemas ports ins → map (first_schema c) ports ≡ ins
ins_are c _ _ K.no_ports = refl
ins_are c _ _ (K.one_port streams ports schema rest h hs) = λ i. first_is c streams schema h i ∷ ins_are c ports rest hs i

outs_are : (c : CheckedGraph) (streams : List ℕ) (outs : List Attributes) → StreamsHave c.schemas streams outs → map (schema_at c) streams ≡ outs
outs_are c _ _ K.no_streams = refl
outs_are c _ _ (K.stream s streams schema rest there hs) = λ i. unwrap_or (there i) [] ∷ outs_are c streams rest hs i

with_fits : (c : CheckedGraph) (n : ℕ) (op : Op) (part : CheckedClauses) (keeps : Keeps c) → K.OperatorFits c.schemas keeps.signatures op part → IsFitting (operator_with c n op part)
with_fits c n op part keeps fit =
    let ins = ins_are c op.ins fit.ins fit.takes in
    let outs = outs_are c op.outs fit.outs fit.gives in
    record {
      kind = op.kind;
      signatures = keeps.signatures;
      scope = fit.scope;
      names = subst (λ schemas. NamesPorts keeps.signatures schemas fit.scope) (sym ins) fit.names;
      functions = keeps.functions;
      clauses = subst (λ schemas. PartFits fit.scope op.kind schemas (map (schema_at c) op.outs) part) (sym ins)
          (subst (λ schemas. PartFits fit.scope op.kind fit.ins schemas part) (sym outs) fit.clauses);
      ports = ap (λ k. fit_ports op.kind k (length (map (schema_at c) op.outs))) (length-map op.ins (first_schema c))
          ∙ ap (fit_ports op.kind (length op.ins)) (length-map op.outs (schema_at c)) ∙ fit.ports;
      ins = sym (length-map op.ins (first_schema c));
      outs = sym (length-map op.outs (schema_at c));
    }

pub checked_fits : CheckedFits
checked_fits c n o keeps at =
    let is = operator_from c 0 c.graph.ops c.parts n o at in
    subst IsFitting (sym is.same) (with_fits c (0 + n) is.op is.part keeps (keeps.operators n is.op is.part is.there is.has))
