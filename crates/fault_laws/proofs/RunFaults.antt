-- The laws on the faults of runs.
use Rattle.std.proofs.Common.{◌≡◌, ℕ, zero, suc, ◌<◌, Bool, true, false, List, [], ◌∷◌, sym, ap, subst, ◌∙◌, length, slice_get, Some, inl, inr}
use Rattle.std.specs.Prelude.{◌⊎◌}
use Rattle.std.specs.List.{list_any}
use Rattle.std.proofs.lemmas.Bool.{or_left, or_right}
use Rattle.std.proofs.lemmas.Option.{slice_get_within}
use Rattle.spl_value.specs.declared.item.Fault.{Fault}
use Rattle.spl_value.specs.declared.item.FaultKind.{FaultKind}
use Rattle.spl_value.specs.declared.item.Item.{Item}
use Rattle.spl_value.specs.declared.item.Item.TheVariants as I
use Rattle.language_model.specs.declared.checked.CheckedClauses.TheVariants as A
use Rattle.language_model.specs.CheckedGraph.{CheckedGraph}
use Rattle.stream_model.specs.Meaning.{Graph, Lists, meaning}
use Rattle.stream_model.specs.Operators.{Operator}
use Rattle.stream_model.specs.PathLaws.{fault_by}
use Rattle.fault_kinds.specs.Kinds.{is_evaluation_kind}
use Rattle.list_engine.specs.RunLaws.{FaultsName, SourcesName, FaultNamesLaw}
use Rattle.list_engine.proofs.GraphOperators.{is_numbered}
use Rattle.fault_laws.specs.RunFaults.{FaultsLaw, IsRowFault, OperatorsPass, SourcesPass, ReadFaultLaw, RowFaultLaw}
use Rattle.fault_laws.proofs.Having.{AllHave, item_has, items_have}
use Rattle.fault_laws.proofs.Running.{each_stream, run_has}

-- ---- a test

abbrev Passes : (Fault → Bool) → Fault → Type 0
Passes test f = test f ≡ true

module _ (test : Fault → Bool) (g : Graph) (rows : Lists) (sources : SourcesPass test g rows) (operators : OperatorsPass test g) where
  rows_pass : (n : ℕ) (op : Operator) (file : List ℕ) (strict : Bool) → slice_get g.ops n ≡ Some op → op.clauses ≡ A.FileSource file strict → AllHave (Passes test) (rows n)
  rows_pass n op file strict at kind = items_have (Passes test) (rows n) (sources n op file strict at kind)

  own_pass : (n : ℕ) (op : Operator) (kind : FaultKind) → slice_get g.ops n ≡ Some op → (Unit {0} → is_evaluation_kind kind ≡ true) → Passes test (fault_by op.number kind)
  own_pass n op kind at known = operators n op kind at (known tt)

pub faults_law : FaultsLaw
faults_law test c g rows entries keeps is fit sources operators = record {
  streams = λ s. item_has (Passes test) ((meaning g rows entries).streams s)
      (each_stream (Passes test) (Unit {0}) c g keeps is rows entries (λ known. fit) (rows_pass test g rows sources operators) (own_pass test g rows sources operators) s);
  run = run_has (Passes test) (Unit {0}) c g keeps is rows entries (λ known. fit) (rows_pass test g rows sources operators) (own_pass test g rows sources operators);
}

-- ---- names

-- a fault in rows that name an operator names it
named_by : (n : ℕ) (items : List Item) → FaultsName n items → (i : ℕ) (f : Fault) → slice_get items i ≡ Some (I.Bad f) → f.op ≡ n
named_by n [] h i f at = absurd cc
named_by n (I.Tuple vs ∷ items) h zero f at = absurd cc
named_by n (I.Window ∷ items) h zero f at = absurd cc
named_by n (I.Final ∷ items) h zero f at = absurd cc
named_by n (I.Bad x ∷ items) h zero f at = let same : x ≡ f = cc in ap (λ (y : Fault). y.op) (sym same) ∙ h.0
named_by n (I.Tuple vs ∷ items) h (suc i) f at = named_by n items h i f at
named_by n (I.Window ∷ items) h (suc i) f at = named_by n items h i f at
named_by n (I.Final ∷ items) h (suc i) f at = named_by n items h i f at
named_by n (I.Bad x ∷ items) h (suc i) f at = named_by n items h.1 i f at

abbrev Within : Graph → Fault → Type 0
Within g f = f.op < length g.ops

-- of the rows nothing else is asked here, so own faults of all kinds count
pub fault_names_law : FaultNamesLaw
fault_names_law c g rows entries f keeps is names q =
    run_has (Within g) ⊥ c g keeps is rows entries (λ none. absurd none)
    (λ n op file strict at kind. items_have (Within g) (rows n) (λ i f there.
    let within : n < length g.ops = slice_get_within g.ops n op at in
    subst (λ k. k < length g.ops) (sym (named_by n (rows n) (names n op file strict at kind) i f there)) within))
    (λ n op kind at none.
    let within : n < length g.ops = slice_get_within g.ops n op at in
    subst (λ k. k < length g.ops) (sym (is_numbered c g is n op at)) within)
    f q

-- ---- faults of rows

module _ (c : CheckedGraph) (g : Graph) (rows : Lists) (names : SourcesName g rows) where
  -- it is one of evaluation, or stands in the rows of the source that it names
  abbrev Whence : Fault → Type 0
  Whence f = (is_evaluation_kind f.kind ≡ true) ⊎ IsRowFault g rows f

  row_fault : (n : ℕ) (op : Operator) (file : List ℕ) (strict : Bool) → slice_get g.ops n ≡ Some op → op.clauses ≡ A.FileSource file strict → (i : ℕ) (f : Fault)
      → slice_get (rows n) i ≡ Some (I.Bad f) → IsRowFault g rows f
  row_fault n op file strict at kind i f there =
      let same : n ≡ f.op = sym (named_by n (rows n) (names n op file strict at kind) i f there) in
      record {
        op = op;
        file = file;
        strict = strict;
        named = subst (λ k. slice_get g.ops k ≡ Some op) same at;
        source = kind;
        place = i;
        there = subst (λ k. slice_get (rows k) i ≡ Some (I.Bad f)) same there;
      }

  other_kind : (f : Fault) → Whence f → is_evaluation_kind f.kind ≡ false → IsRowFault g rows f
  other_kind f (inl own) h = absurd (let clash : true ≡ false = sym own ∙ h in cc)
  other_kind f (inr row) h = row

pub row_fault_law : RowFaultLaw
row_fault_law c g rows entries f keeps is fit names q kind =
    other_kind c g rows names f
    (run_has (Whence c g rows names) (Unit {0}) c g keeps is rows entries (λ known. fit)
    (λ n op file strict at source. items_have (Whence c g rows names) (rows n) (λ i f there. inr (row_fault c g rows names n op file strict at source i f there)))
    (λ n op kind at known. inl (known tt)) f q)
    kind

-- an item that passes a test is found by it
pub found_by : (test : Item → Bool) (items : List Item) (i : ℕ) (x : Item) → slice_get items i ≡ Some x → test x ≡ true → list_any test items ≡ true
found_by test [] i x at h = absurd cc
found_by test (y ∷ items) zero x at h = let same : x ≡ y = cc in or_left (test y) (list_any test items) (ap test (sym same) ∙ h)
found_by test (y ∷ items) (suc i) x at h = or_right (test y) (list_any test items) (found_by test items i x at h)

pub read_fault_law : ReadFaultLaw
read_fault_law c g rows entries f keeps is fit names q kind =
    let row = row_fault_law c g rows entries f keeps is fit names q (ap is_evaluation_kind kind) in
    (row, λ is_read passes. found_by is_read (rows f.op) row.place (I.Bad f) row.there passes)
