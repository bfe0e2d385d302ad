-- Rows of operators as flat graphs: a source, operators one behind the other, each of which reads the stream of the one before
-- it and makes one, and last a sink. They keep what graphs of checked programs keep.
use Rattle.std.proofs.Common.{ℕ, zero, suc, true, false, IsTrue, ◌<◌, ◌≤◌, ◌^◌, List, [], ◌∷◌, ◌++◌, ◌≡◌, refl, sym, ap, subst, ◌∙◌, arith, length, sum_by, Some, None, slice_get, get_or}
use Rattle.std.specs.List.{concat, Contains}
use Rattle.std.proofs.lemmas.Option.{same_Some, slice_get-get_or, slice_get_within}
use Rattle.spl_value.proofs.Lists.{append_front, get_below}
use Rattle.spl_tree.specs.declared.graph.Graph.{Graph as Flat}
use Rattle.spl_tree.specs.declared.graph.Op.{Op}
use Rattle.spl_tree.specs.declared.graph.Stream.{Stream}
use Rattle.spl_tree.specs.declared.graph.OpKind.{OpKind}
use Rattle.spl_tree.specs.declared.graph.OpKind.TheVariants as O
use Rattle.language_model.specs.declared.checked.CheckedClauses.{CheckedClauses}
use Rattle.language_model.specs.declared.checked.CheckedClauses.TheVariants as A
use Rattle.language_model.specs.declared.scope.Scope.{Scope}
use Rattle.language_model.specs.Checking.{fit_ports, has_text_form}
use Rattle.language_model.specs.FitLaws.{no_names}
use Rattle.language_model.specs.FlatLaws.{IsMadeAs, IsTopological}
use Rattle.language_model.specs.Keeping.{GraphKeeps, OperatorFits}
use Rattle.language_model.specs.Keeping as K
use Rattle.language_model.specs.StreamTypes.{Attributes}
use Rattle.language_model.specs.parts.Literals.{is_file_name}
use Rattle.stream_model.specs.examples.CheckedGraphs.{op_of}
use Rattle.list_engine.proofs.Chained.{only}

-- the stream of the operator with this number
abbrev pub own_stream : ℕ → Stream
own_stream n = record { maker = n; port = 0 }

-- a row of operators: each number stands at its own place in the order, each operator but the last makes the stream with its
-- number, and each reads the stream before that
pub record IsRow (g : Flat) : Type 0 where
  pub operators : length g.ops ≤ 256
  pub connections : sum_by (λ op. sum_by length op.ins) g.ops < 2 ^ 30
  pub size : length g.topo ≡ length g.ops
  pub places : (k n : ℕ) → slice_get g.topo k ≡ Some n → k ≡ n
  pub reads : (n : ℕ) (op : Op) (s : ℕ) → slice_get g.ops n ≡ Some op → Contains (concat op.ins) s → suc s ≡ n
  pub all_made : suc (length g.streams) ≡ length g.ops
  pub streams : (n : ℕ) (s : Stream) → slice_get g.streams n ≡ Some s → s ≡ own_stream n
  pub makes : (n : ℕ) → n < length g.streams → (op : Op) × (slice_get g.ops n ≡ Some op) × (slice_get op.outs 0 ≡ Some n)
  pub only : (n port s : ℕ) (op : Op) → slice_get g.ops n ≡ Some op → slice_get op.outs port ≡ Some s → (port ≡ 0) × (s ≡ n) × (n < length g.streams)

-- no number is in an empty list, and one alone in a list of one
pub none-there : (n : ℕ) → Contains [] n → ⊥
none-there n c = let within : c.0 < 0 = c.1 in omega (arith, within)

pub none-made : (port s : ℕ) → slice_get {X = ℕ} [] port ≡ Some s → ⊥
none-made port s e = cc

pub sole : (out port s : ℕ) → slice_get (out ∷ []) port ≡ Some s → (port ≡ 0) × (s ≡ out)
sole out zero s e = (refl, sym (same_Some out s e))
sole out (suc port) s e = absurd cc

at-place : (ns : List ℕ) (n : ℕ) → (c : Contains ns n) → slice_get ns c.0 ≡ Some n
at-place ns n c = slice_get-get_or ns c.0 n c.1 ∙ ap (λ x. Some x) c.2

behind-front : (before after : List ℕ) (n : ℕ) → slice_get (before ++ n ∷ after) (length before) ≡ Some n
behind-front [] after n = refl
behind-front (b ∷ before) after n = behind-front before after n

module _ (g : Flat) (row : IsRow g) where
  -- as many stand before a number
  before-count : (before after : List ℕ) (n : ℕ) → g.topo ≡ before ++ n ∷ after → length before ≡ n
  before-count before after n e = row.places (length before) n (ap (λ ns. slice_get ns (length before)) e ∙ behind-front before after n)

  before-has : (before after : List ℕ) (n k : ℕ) → g.topo ≡ before ++ n ∷ after → k < n → Contains before k
  before-has before after n k e lt =
      let count : length before ≡ n = before-count before after n e in
      let within : k < length before = omega (arith, count, lt) in
      let at : slice_get before k ≡ Some (get_or before k k) = slice_get-get_or before k k within in
      (k, within, sym (row.places k (get_or before k k) (ap (λ ns. slice_get ns k) e ∙ append_front before (n ∷ after) k (get_or before k k) at)))

  here : (n : ℕ) → n < length g.ops → Contains g.topo n
  here n lt =
      let size : length g.topo ≡ length g.ops = row.size in
      let within : n < length g.topo = omega (arith, size, lt) in
      let x = get_below g.topo n within in
      (n, within, same_Some (get_or g.topo n n) n (sym (slice_get-get_or g.topo n n within) ∙ x.1 ∙ ap (λ m. Some m) (sym (row.places n x.0 x.1))))

  stream-at : (n : ℕ) → n < length g.streams → slice_get g.streams n ≡ Some (own_stream n)
  stream-at n lt = let x = get_below g.streams n lt in x.1 ∙ ap (λ s. Some s) (row.streams n x.0 x.1)

  topological : IsTopological g
  topological = record {
    all = λ n. (
      (λ c. let size : length g.topo ≡ length g.ops = row.size in
          let place : c.0 ≡ n = row.places c.0 n (at-place g.topo n c) in
          let within : c.0 < length g.topo = c.1 in
          let below : n < length g.ops = omega (arith, size, place, within) in below),
      here n,
    );
    once = λ before after n e c. (
        let count : length before ≡ n = before-count before after n e in
        let place : c.0 ≡ n = row.places c.0 n (ap (λ ns. slice_get ns c.0) e ∙ append_front before (n ∷ after) c.0 n (at-place before n c)) in
        let within : c.0 < length before = c.1 in
        omega (arith, count, place, within));
    behind = λ before after n op e at s c. (
        let next : suc s ≡ n = row.reads n op s at c in
        let made : suc (length g.streams) ≡ length g.ops = row.all_made in
        let within : n < length g.ops = slice_get_within g.ops n op at in
        (own_stream s, stream-at s (omega (arith, next, made, within)), before-has before after n s e (omega (arith, next))));
  }

  pub row_keeps : GraphKeeps g
  row_keeps = record {
    operators = row.operators;
    connections = row.connections;
    ordered = topological;
    made = λ n s. (
      (λ at. let m = row.makes n (slice_get_within g.streams n s at) in
          subst (λ z. IsMadeAs g z n) (sym (row.streams n s at)) m),
      λ m. by n s.maker s.port m.0 m.1 m.2,
    );
    taken = λ n op at s c. (
        let next : suc s ≡ n = row.reads n op s at c in
        let made : suc (length g.streams) ≡ length g.ops = row.all_made in
        let within : n < length g.ops = slice_get_within g.ops n op at in
        let below : s < length g.streams = omega (arith, next, made, within) in below);
  }
    where
      by : (n maker port : ℕ) (op : Op) → slice_get g.ops maker ≡ Some op → slice_get op.outs port ≡ Some n → slice_get g.streams n ≡ Some (record { maker = maker; port = port })
      by n maker port op at is =
          let only = row.only maker port n op at is in
          let within : maker < length g.streams = only.2 in
          ap (slice_get g.streams) only.1 ∙ stream-at maker within ∙ ap (λ p. Some (record { maker = maker; port = p })) (sym only.0)

-- ---- their clauses

one-input : (schemas : List Attributes) (schema : Attributes) (s : ℕ) → slice_get schemas s ≡ Some schema → K.PortsHave schemas ((s ∷ []) ∷ []) (schema ∷ [])
one-input schemas schema s at =
    K.one_port (s ∷ []) [] schema [] (record { some = omega arith; alike = λ t c. subst (λ k. slice_get schemas k ≡ Some schema) (only s t c) at }) K.no_ports

-- expressions see a tuple of the one port
abbrev pub one_port : Attributes → Scope
one_port schema = record { vars = []; ports = record { name = []; schema = schema } ∷ []; functions = []; unresolved = []; dollars = []; punct = false }

-- an operator that reads a stream and makes one has these clauses
pub inner-fits : (schemas : List Attributes) (input output : Attributes) (s t : ℕ) (kind : OpKind) (part : CheckedClauses) → slice_get schemas s ≡ Some input → slice_get schemas t ≡ Some output
    → IsTrue (fit_ports kind 1 1) → K.PartFits (one_port input) kind (input ∷ []) (output ∷ []) part → OperatorFits schemas [] (op_of kind ((s ∷ []) ∷ []) (t ∷ [])) part
inner-fits schemas input output s t kind part reads makes ports clauses = record {
  ins = input ∷ [];
  outs = output ∷ [];
  scope = one_port input;
  ports = ports;
  takes = one-input schemas input s reads;
  gives = K.stream t [] output [] makes K.no_streams;
  names = record { vars = refl; ports = refl; functions = refl; punct = refl };
  clauses = clauses;
}

pub source-fits : (schemas : List Attributes) (schema : Attributes) (file : List ℕ) → slice_get schemas 0 ≡ Some schema → IsTrue (is_file_name file) → IsTrue (has_text_form schema)
    → OperatorFits schemas [] (op_of O.FileSource [] (0 ∷ [])) (A.FileSource file true)
source-fits schemas schema file makes named formed = record {
  ins = [];
  outs = schema ∷ [];
  scope = no_names;
  ports = refl;
  takes = K.no_ports;
  gives = K.stream 0 [] schema [] makes K.no_streams;
  names = record { vars = refl; ports = refl; functions = refl; punct = refl };
  clauses = K.file_source file true schema named formed;
}

pub filter-fits : (schemas : List Attributes) (schema : Attributes) → slice_get schemas 0 ≡ Some schema → slice_get schemas 1 ≡ Some schema
    → OperatorFits schemas [] (op_of O.Filter ((0 ∷ []) ∷ []) (1 ∷ [])) (A.Filter None)
filter-fits schemas schema reads makes = inner-fits schemas schema schema 0 1 O.Filter (A.Filter None) reads makes refl (K.filter None schema tt)

pub sink-fits : (schemas : List Attributes) (schema : Attributes) (s : ℕ) (file : List ℕ) → slice_get schemas s ≡ Some schema → IsTrue (is_file_name file) → IsTrue (has_text_form schema)
    → OperatorFits schemas [] (op_of O.FileSink ((s ∷ []) ∷ []) []) (A.FileSink file)
sink-fits schemas schema s file reads named formed = record {
  ins = schema ∷ [];
  outs = [];
  scope = one_port schema;
  ports = refl;
  takes = one-input schemas schema s reads;
  gives = K.no_streams;
  names = record { vars = refl; ports = refl; functions = refl; punct = refl };
  clauses = K.file_sink file schema named formed;
}

-- what stands at a place of both lists is an operator with its clauses
pub fit-both : (schemas : List Attributes) (op own : Op) (part given : CheckedClauses) → Some op ≡ Some own → Some part ≡ Some given → OperatorFits schemas [] op part
    → OperatorFits schemas [] own given
fit-both schemas op own part given same alike fits =
    subst (λ (o : Op). OperatorFits schemas [] o given) (same_Some op own same) (subst (λ (p : CheckedClauses). OperatorFits schemas [] op p) (same_Some part given alike) fits)
