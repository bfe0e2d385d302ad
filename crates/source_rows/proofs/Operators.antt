-- The rows of operators, and what a checked graph keeps of its sources.
use Prim.Native.Nat.{zero, suc}
use Rattle.std.proofs.Common.{◌≡◌, ◌≢◌, ◌∙◌, ◌<◌, ◌≤◌, ◌+◌, ◌^◌, ℕ, Bool, true, false, List, [], ◌∷◌, ◌++◌, length, get_or, refl, sym, ap, subst, arith, inl, inr, slice_get, Option, Some, None}
use Rattle.std.specs.Prelude.{IfSome}
use Rattle.std.specs.List.{list_any}
use Rattle.std.specs.Option.{option_map_or, unwrap_or}
use Rattle.std.proofs.lemmas.Bool.{cases_lt}
use Rattle.std.proofs.lemmas.List.{get_or_append_left}
use Rattle.std.proofs.Math.Seq.{get_or-append_seam}
use Rattle.stream_model.proofs.CheckedOperators.{operator_from, operators_length}
use Rattle.stream_model.specs.Runs.{rows_at}
use Rattle.spl_value.specs.declared.item.Item.{Item}
use Rattle.spl_tree.specs.declared.graph.Op.{Op}
use Rattle.spl_tree.specs.declared.graph.OpKind.{OpKind}
use Rattle.feed_pour.specs.Counts.{FaultCounts, PerName, ReadingCounted, Counted, Rose}
use Rattle.feed_pour.specs.Contents.{Told, WhereTold, TellsSame}
use Rattle.language_model.specs.declared.checked.CheckedClauses.{CheckedClauses}
use Rattle.language_model.specs.declared.checked.CheckedClauses.TheVariants as A
use Rattle.language_model.specs.declared.scope.Scope.{Scope}
use Rattle.language_model.specs.CheckedGraph.{CheckedGraph}
use Rattle.language_model.specs.Checking.{has_text_form}
use Rattle.language_model.specs.Keeping as K
use Rattle.language_model.specs.Keeping.{Keeps, PartFits, StreamsHave}
use Rattle.language_model.specs.StreamTypes.{Attributes}
use Rattle.stream_model.specs.CheckedMeaning.{graph_of, operator_with}
use Rattle.stream_model.specs.Meaning.{Graph, rows_of}
use Rattle.stream_model.specs.Operators.{Operator, output_attributes}
use Rattle.stream_model.specs.Rows.{rows}
use Rattle.row_reader.specs.Reading.{setting}
use Rattle.stream_model.specs.SourceFaults.{is_read_fault}
use Rattle.source_rows.specs.Sources.{AreRows, ReadsFail, is_failed, rows_by, rows_told}
use Rattle.source_rows.specs.steps.Steps.{AreClosed, RowsOf, SourceRows}
use Rattle.source_rows.proofs.Reading.{read_fails, counted_grows}
use Rattle.spl_value.proofs.Lists.{same_or_not, get_below, get_within}

-- ---- what a checked graph keeps of a source

pub record SourceHas (c : CheckedGraph) (op : Op) : Type 0 where
  pub stream : ℕ
  pub schema : Attributes
  pub outs : op.outs ≡ stream ∷ []
  pub there : slice_get c.schemas stream ≡ Some schema
  pub form : has_text_form schema ≡ true

no_streams_in : (schemas : List Attributes) (streams : List ℕ) (xs : List Attributes) → xs ≡ [] → StreamsHave schemas streams xs → streams ≡ []
no_streams_in schemas _ _ e K.no_streams = refl
no_streams_in schemas _ _ e (K.stream s streams schema rest at h) = absurd cc

one_stream_in : (c : CheckedGraph) (op : Op) (streams : List ℕ) (xs : List Attributes) (schema : Attributes) → op.outs ≡ streams → xs ≡ schema ∷ [] → has_text_form schema ≡ true → StreamsHave c.schemas streams xs → SourceHas c op
one_stream_in c op _ _ schema outs e form K.no_streams = absurd cc
one_stream_in c op _ _ schema outs e form (K.stream s streams first rest at h) =
    let none : rest ≡ [] = cc in
    let same : first ≡ schema = cc in
    record {
      stream = s;
      schema = schema;
      outs = outs ∙ ap (λ (ss : List ℕ). s ∷ ss) (no_streams_in c.schemas streams rest none h);
      there = at ∙ ap (λ (x : Attributes). Some x) same;
      form = form;
    }

source_fits : (c : CheckedGraph) (op : Op) (scope : Scope) (kind : OpKind) (ins outs : List Attributes) (part : CheckedClauses) (file : List ℕ) (strict : Bool) → part ≡ A.FileSource file strict
    → StreamsHave c.schemas op.outs outs → PartFits scope kind ins outs part → SourceHas c op
source_fits c op scope _ _ _ _ file strict is gives (K.file_source f s schema a b) = one_stream_in c op op.outs (schema ∷ []) schema refl refl b gives
source_fits c op scope _ _ _ _ file strict is gives (K.file_sink f schema a b) = absurd cc
source_fits c op scope _ _ _ _ file strict is gives (K.filter condition schema a) = absurd cc
source_fits c op scope _ _ _ _ file strict is gives (K.functor condition fields input schema a b d) = absurd cc
source_fits c op scope _ _ _ _ file strict is gives (K.punctor condition position schema a) = absurd cc
source_fits c op scope _ _ _ _ file strict is gives (K.split index kind schema outs a b) = absurd cc
source_fits c op scope _ _ _ _ file strict is gives (K.union places ins schema a b) = absurd cc
source_fits c op scope _ _ _ _ file strict is gives (K.custom handlers ins outs a) = absurd cc
source_fits c op scope _ _ _ _ file strict is gives (K.aggregate window partition group output input schema a b d e f) = absurd cc
source_fits c op scope _ _ _ _ file strict is gives (K.join left right condition fields first second schema a b d e f h i) = absurd cc

pub source_has : (c : CheckedGraph) (n : ℕ) (op : Op) (part : CheckedClauses) (file : List ℕ) (strict : Bool) → Keeps c → slice_get c.graph.ops n ≡ Some op → slice_get c.parts n ≡ Some part → part ≡ A.FileSource file strict → SourceHas c op
source_has c n op part file strict k there has is =
    let f = k.operators n op part there has in
    source_fits c op f.scope op.kind f.ins f.outs part file strict is f.gives f.clauses

-- what the first stream's attributes are
pub schema_has : (c : CheckedGraph) (op : Op) (schema : Attributes) → SourceHas c op → ((s : ℕ) (streams : List ℕ) → op.outs ≡ s ∷ streams → slice_get c.schemas s ≡ Some schema) → has_text_form schema ≡ true
schema_has c op schema h is =
    let same : Some schema ≡ Some h.schema = sym (is h.stream [] h.outs) ∙ h.there in
    let e : schema ≡ h.schema = cc in
    ap has_text_form e ∙ h.form

pub attributes_are : (c : CheckedGraph) (n : ℕ) (op : Op) (part : CheckedClauses) (schema : Attributes) → SourceHas c op → ((s : ℕ) (streams : List ℕ) → op.outs ≡ s ∷ streams → slice_get c.schemas s ≡ Some schema)
    → schema ≡ output_attributes (operator_with c n op part) 0
attributes_are c n op part schema h is =
    let at : slice_get c.schemas h.stream ≡ Some schema = is h.stream [] h.outs in
    sym (ap (λ (streams : List ℕ). output_attributes (operator_with c n (record op { outs = streams }) part) 0) h.outs ∙ ap (λ (o : Option Attributes). unwrap_or o []) at)

-- ---- one source

told_rows : (told : Option Told) (n : ℕ) (schema : Attributes) (strict : Bool) (file : List ℕ) (op : Operator) (items : List Item) → schema ≡ output_attributes op 0 → n ≡ op.number
    → IfSome told (λ t. items ≡ rows (setting n schema strict (2 ^ 40)) (t.script file).bytes (t.script file).ending) → IfSome told (λ t. items ≡ rows_of op strict (t.script file))
told_rows None n schema strict file op items e m h = tt
told_rows (Some t) n schema strict file op items e m h = h ∙ (λ i. rows (setting (m i) (e i) strict (2 ^ 40)) (t.script file).bytes (t.script file).ending)

pub source_rows : (told : Option Told) (c : CheckedGraph) (n : ℕ) (op : Op) (part : CheckedClauses) (file : List ℕ) (strict : Bool) (schema : Attributes) (items : List Item) (counts now : PerName) → part ≡ A.FileSource file strict
    → SourceHas c op → ((s : ℕ) (streams : List ℕ) → op.outs ≡ s ∷ streams → slice_get c.schemas s ≡ Some schema) → AreClosed n schema items
    → IfSome told (λ t. items ≡ rows (setting n schema strict (2 ^ 40)) (t.script file).bytes (t.script file).ending) → ReadingCounted (list_any is_read_fault items) counts now file
    → RowsOf part (operator_with c n op part) items told counts now
source_rows told c n op part file strict schema items counts now is has at are rows_are counted =
    let e = attributes_are c n op part schema has at in
    subst (λ (p : CheckedClauses). RowsOf p (operator_with c n op part) items told counts now) (sym is) (record {
      are = subst (λ (s : Attributes). AreClosed n s items) e are;
      told_rows = told_rows told n schema strict file (operator_with c n op part) items e refl rows_are;
      read = λ some. (subst (λ (b : Bool). Counted b (counts file).reading (now file).reading) some counted.count).1;
    })

-- its count of reading changes only where its reader fails
reads_here : (t : Told) (n : ℕ) (schema : Attributes) (strict : Bool) (file : List ℕ) (items : List Item) (counts now : PerName) (b : Bool)
    → items ≡ rows (setting n schema strict (2 ^ 40)) (t.script file).bytes (t.script file).ending → list_any is_read_fault items ≡ b → Counted b (counts file).reading (now file).reading
    → (now file).reading ≢ (counts file).reading → is_failed (t.script file).ending ≡ true
reads_here t n schema strict file items counts now true is some counted differs = read_fails (setting n schema strict (2 ^ 40)) (t.script file) items is some
reads_here t n schema strict file items counts now false is none counted differs = absurd (differs counted)

reads_of : (t : Told) (n : ℕ) (schema : Attributes) (strict : Bool) (file : List ℕ) (items : List Item) (counts now : PerName)
    → items ≡ rows (setting n schema strict (2 ^ 40)) (t.script file).bytes (t.script file).ending → ReadingCounted (list_any is_read_fault items) counts now file → ReadsFail counts now t
reads_of t n schema strict file items counts now is counted m differs = elim (same_or_not m file) as (λ _. is_failed (t.script m).ending ≡ true) [
  | inl e ↦ ap (λ (x : List ℕ). is_failed (t.script x).ending) e
      ∙ reads_here t n schema strict file items counts now (list_any is_read_fault items) is refl counted.count (subst (λ (x : List ℕ). (now x).reading ≢ (counts x).reading) e differs)
  | inr other ↦ absurd (differs (ap (λ (k : FaultCounts). k.reading) (counted.others m other)))
]

pub source_reads : (told : Option Told) (n : ℕ) (schema : Attributes) (strict : Bool) (file : List ℕ) (items : List Item) (counts now : PerName)
    → IfSome told (λ t. items ≡ rows (setting n schema strict (2 ^ 40)) (t.script file).bytes (t.script file).ending) → ReadingCounted (list_any is_read_fault items) counts now file
    → IfSome told (ReadsFail counts now)
source_reads None n schema strict file items counts now is counted = tt
source_reads (Some t) n schema strict file items counts now is counted = reads_of t n schema strict file items counts now is counted

-- ---- all operators

-- the rows of the operators before a place
abbrev pub RowsBefore : CheckedGraph → ℕ → List (List Item) → Option Told → PerName → PerName → Type 0
RowsBefore c i rows told counts now = (k : ℕ) (op : Op) (part : CheckedClauses) → k < i → slice_get c.graph.ops k ≡ Some op → slice_get c.parts k ≡ Some part
    → RowsOf part (operator_with c k op part) (get_or rows k []) told counts now

rose_on : (before mid now : ℕ) → Rose before mid → mid ≤ now → Rose before now
rose_on before mid now rose grows = omega (arith, rose, grows)

rose_from : (before mid now : ℕ) → before ≤ mid → Rose mid now → Rose before now
rose_from before mid now grows rose = omega (arith, grows, rose)

-- what is known of the rows of an operator stays, while counts of reading don't fall
rows_on : (part : CheckedClauses) (op : Operator) (items : List Item) (told : Option Told) (counts mid now : PerName) → ((n : List ℕ) → (mid n).reading ≤ (now n).reading) → RowsOf part op items told counts mid → RowsOf part op items told counts now
rows_on (A.FileSource file strict) op items told counts mid now grows h =
    record { are = h.are; told_rows = h.told_rows; read = λ some. rose_on (counts file).reading (mid file).reading (now file).reading (h.read some) (grows file) }
rows_on (A.FileSink file) op items told counts mid now grows h = h
rows_on (A.Filter condition) op items told counts mid now grows h = h
rows_on (A.Functor condition output) op items told counts mid now grows h = h
rows_on (A.Punctor condition position) op items told counts mid now grows h = h
rows_on (A.Split index) op items told counts mid now grows h = h
rows_on (A.Union places) op items told counts mid now grows h = h
rows_on (A.Custom handlers) op items told counts mid now grows h = h
rows_on (A.Aggregate window partition group output) op items told counts mid now grows h = h
rows_on (A.Join left right condition output) op items told counts mid now grows h = h

told_before : (told mid : Option Told) (file : List ℕ) (strict : Bool) (op : Operator) (items : List Item) → WhereTold told mid TellsSame → IfSome mid (λ t. items ≡ rows_of op strict (t.script file)) → IfSome told (λ t. items ≡ rows_of op strict (t.script file))
told_before None mid file strict op items same h = tt
told_before (Some t) None file strict op items same h = absurd same
told_before (Some t) (Some u) file strict op items same h = h ∙ ap (rows_of op strict) (same.script file)

-- and those that were read after others
rows_behind : (part : CheckedClauses) (op : Operator) (items : List Item) (told between : Option Told) (counts mid now : PerName) → WhereTold told between TellsSame → ((n : List ℕ) → (counts n).reading ≤ (mid n).reading)
    → RowsOf part op items between mid now → RowsOf part op items told counts now
rows_behind (A.FileSource file strict) op items told between counts mid now same grows h = record {
  are = h.are;
  told_rows = told_before told between file strict op items same h.told_rows;
  read = λ some. rose_from (counts file).reading (mid file).reading (now file).reading (grows file) (h.read some);
}
rows_behind (A.FileSink file) op items told between counts mid now same grows h = h
rows_behind (A.Filter condition) op items told between counts mid now same grows h = h
rows_behind (A.Functor condition output) op items told between counts mid now same grows h = h
rows_behind (A.Punctor condition position) op items told between counts mid now same grows h = h
rows_behind (A.Split index) op items told between counts mid now same grows h = h
rows_behind (A.Union places) op items told between counts mid now same grows h = h
rows_behind (A.Custom handlers) op items told between counts mid now same grows h = h
rows_behind (A.Aggregate window partition group output) op items told between counts mid now same grows h = h
rows_behind (A.Join left right condition output) op items told between counts mid now same grows h = h

-- one operator more
pub rows_more : (c : CheckedGraph) (i : ℕ) (op : Op) (part : CheckedClauses) (items : List Item) (rows now_rows : List (List Item)) (told between : Option Told) (counts mid now : PerName) → length rows ≡ i
    → slice_get c.graph.ops i ≡ Some op → slice_get c.parts i ≡ Some part → ((n : List ℕ) → (counts n).reading ≤ (mid n).reading) → ((n : List ℕ) → (mid n).reading ≤ (now n).reading) → WhereTold told between TellsSame
    → now_rows ≡ rows ++ items ∷ [] → RowsBefore c i rows told counts mid → RowsOf part (operator_with c i op part) items between mid now → RowsBefore c (i + 1) now_rows told counts now
rows_more c i op part items rows now_rows told between counts mid now size there has grown grows same more before here k o p less at at_part = elim (cases_lt k i) [
  | inl earlier ↦ subst (λ (xs : List Item). RowsOf p (operator_with c k o p) xs told counts now) (sym (ap (λ (rs : List (List Item)). get_or rs k []) more ∙ get_or_append_left rows (items ∷ []) [] k (omega (arith, size, earlier))))
      (rows_on p (operator_with c k o p) (get_or rows k []) told counts mid now grows (before k o p earlier at at_part))
  | inr later ↦
      let e : k ≡ i = omega arith in
      let same_op : Some o ≡ Some op = sym at ∙ ap (slice_get c.graph.ops) e ∙ there in
      let same_part : Some p ≡ Some part = sym at_part ∙ ap (slice_get c.parts) e ∙ has in
      let ops : o ≡ op = cc in
      let parts : p ≡ part = cc in
      let last : get_or now_rows k [] ≡ items = ap (λ (rs : List (List Item)). get_or rs k []) more ∙ ap (λ (n : ℕ). get_or (rows ++ items ∷ []) n []) (e ∙ sym size) ∙ get_or-append_seam rows items [] [] in
      rw (last, ops, parts, e) (rows_behind part (operator_with c i op part) items told between counts mid now same grown here)
]

-- ---- the whole

at_place : (rows : List (List Item)) (n : ℕ) → rows_at rows n ≡ get_or rows n []
at_place [] n = refl
at_place (items ∷ rows) zero = refl
at_place (items ∷ rows) (suc n) = at_place rows n

-- they are what the shelf tells
told_by : (part : CheckedClauses) (op : Operator) (items : List Item) (t : Told) (counts now : PerName) → RowsOf part op items (Some t) counts now → items ≡ rows_by t part op
told_by (A.FileSource file strict) op items t counts now h = h.told_rows
told_by (A.FileSink file) op items t counts now h = h
told_by (A.Filter condition) op items t counts now h = h
told_by (A.Functor condition output) op items t counts now h = h
told_by (A.Punctor condition position) op items t counts now h = h
told_by (A.Split index) op items t counts now h = h
told_by (A.Union places) op items t counts now h = h
told_by (A.Custom handlers) op items t counts now h = h
told_by (A.Aggregate window partition group output) op items t counts now h = h
told_by (A.Join left right condition output) op items t counts now h = h

none_there : {X : Type 0} (xs : List X) (n : ℕ) → length xs ≤ n → slice_get xs n ≡ None
none_there [] n h = refl
none_there (x ∷ xs) zero h = absurd (omega (arith, h))
none_there (x ∷ xs) (suc n) h = none_there xs n (omega (arith, h))

-- the rows of an operator of the graph
rows_at_operator : (c : CheckedGraph) (rows : List (List Item)) (told : Option Told) (counts now : PerName) (i : ℕ) → length c.parts ≤ i → RowsBefore c i rows told counts now → (n : ℕ) (o : Operator)
    → slice_get (graph_of c).ops n ≡ Some o → RowsOf o.clauses o (rows_at rows n) told counts now
rows_at_operator c rows told counts now i all before n o at =
    let found = operator_from c 0 c.graph.ops c.parts n o at in
    let number : 0 + n ≡ n = omega arith in
    let same : o ≡ operator_with c n found.op found.part = found.same ∙ ap (λ (k : ℕ). operator_with c k found.op found.part) number in
    let small = get_within c.parts n found.part found.has in
    subst (λ (x : Operator). RowsOf x.clauses x (rows_at rows n) told counts now) (sym same)
    (subst (λ (xs : List Item). RowsOf found.part (operator_with c n found.op found.part) xs told counts now) (sym (at_place rows n)) (before n found.op found.part (omega (arith, all, small)) found.there found.has))

all_told : (c : CheckedGraph) (rows : List (List Item)) (told : Option Told) (counts now : PerName) → length rows ≡ length (graph_of c).ops
    → ((n : ℕ) (o : Operator) → slice_get (graph_of c).ops n ≡ Some o → RowsOf o.clauses o (rows_at rows n) told counts now) → IfSome told (λ t. (n : ℕ) → rows_at rows n ≡ rows_told (graph_of c) t n)
all_told c rows None counts now size each = tt
all_told c rows (Some t) counts now size each = λ n. elim (cases_lt n (length (graph_of c).ops)) [
  | inl less ↦
      let o = get_below (graph_of c).ops n less in
      told_by o.0.clauses o.0 (rows_at rows n) t counts now (each n o.0 o.1) ∙ ap (λ (x : Option Operator). option_map_or (λ (op : Operator). rows_by t op.clauses op) x []) (sym o.1)
  | inr more ↦
      ap (λ (x : Option (List Item)). unwrap_or x []) (none_there rows n (omega (arith, size, more)))
      ∙ ap (λ (x : Option Operator). option_map_or (λ (op : Operator). rows_by t op.clauses op) x []) (sym (none_there (graph_of c).ops n more))
]

source_at : (part : CheckedClauses) (op : Operator) (items : List Item) (told : Option Told) (counts now : PerName) (file : List ℕ) (strict : Bool) → part ≡ A.FileSource file strict → RowsOf part op items told counts now
    → SourceRows file strict op items told counts now
source_at part op items told counts now file strict is h = subst (λ (p : CheckedClauses). RowsOf p op items told counts now) is h

pub all_rows : (c : CheckedGraph) (rows : List (List Item)) (told : Option Told) (counts now : PerName) (i : ℕ) → length c.parts ≡ length c.graph.ops → length c.parts ≤ i → length rows ≡ i → i ≤ length c.parts
    → RowsBefore c i rows told counts now → (g : Graph) → graph_of c ≡ g → AreRows g rows told counts now
all_rows c rows told counts now i same all size some before g e = subst (λ (x : Graph). AreRows x rows told counts now) e (record {
  fit = record {
    count = count;
    closed = λ n op file strict at is. (source_at op.clauses op (rows_at rows n) told counts now file strict is (each n op at)).are.closed;
    fit = λ n op file strict at is. (source_at op.clauses op (rows_at rows n) told counts now file strict is (each n op at)).are.fit;
  };
  names = λ n op file strict at is. (source_at op.clauses op (rows_at rows n) told counts now file strict is (each n op at)).are.names;
  same = all_told c rows told counts now count each;
  read = λ n op file strict at is. (source_at op.clauses op (rows_at rows n) told counts now file strict is (each n op at)).read;
})
  where
    count : length rows ≡ length (graph_of c).ops
    count = let ops = operators_length c 0 c.graph.ops c.parts same in omega (arith, ops, same, all, size, some)

    each : (n : ℕ) (o : Operator) → slice_get (graph_of c).ops n ≡ Some o → RowsOf o.clauses o (rows_at rows n) told counts now
    each = rows_at_operator c rows told counts now i all before
