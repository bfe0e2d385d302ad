-- The worked graph keeps what checked graphs keep, and its operators and rows are such as a run takes.
use Rattle.std.specs.Option.{option_map_or}
use Rattle.std.proofs.Common.{◌≡◌, ℕ, zero, suc, ◌<◌, ◌&&◌, pos, Bool, true, false, IsTrue, List, [], ◌∷◌, ◌++◌, refl, sym, ap, subst, ◌∙◌, length, slice_get, get_or, Option, None, Some, codes, inl, arith}
use Rattle.std.specs.List.{AllByRecursion, concat, Contains}
use Rattle.std.proofs.lemmas.Str.{IsUtf8-from_ascii, is_utf8-from_IsUtf8}
use Rattle.std.proofs.lemmas.Option.{slice_get-get_or}
use Rattle.spl_value.specs.declared.types.IntKind.TheVariants.{I32}
use Rattle.spl_value.specs.declared.types.SplType.TheVariants as T
use Rattle.spl_value.specs.declared.value.Value.TheVariants as V
use Rattle.std.specs.Str.{is_utf8}
use Rattle.spl_value.proofs.FitsLaws.{fits_int, fits_tuple}
use Rattle.spl_value.specs.Values.{fits}
use Rattle.spl_tree.specs.declared.code.BinaryCode.TheVariants as D
use Rattle.spl_tree.specs.declared.code.Code.TheVariants as C
use Rattle.spl_tree.specs.declared.code.IntegerOperator.TheVariants.{Divide}
use Rattle.spl_tree.specs.declared.code.OrderOperator.TheVariants.{Less}
use Rattle.spl_tree.specs.declared.code.Slot.TheVariants as L
use Rattle.spl_tree.specs.declared.graph.Graph.{Graph as Flat}
use Rattle.spl_tree.specs.declared.graph.Op.{Op}
use Rattle.spl_tree.specs.declared.graph.OpKind.TheVariants as O
use Rattle.spl_tree.specs.declared.graph.Stream.{Stream}
use Rattle.language_model.specs.declared.checked.CheckedClauses.{CheckedClauses}
use Rattle.language_model.specs.declared.checked.CheckedClauses.TheVariants as A
use Rattle.language_model.specs.declared.scope.Port.{Port}
use Rattle.language_model.specs.declared.scope.Scope.{Scope}
use Rattle.language_model.specs.declared.scope.Signature.{Signature}
use Rattle.stream_model.specs.examples.CheckedGraphs.{op_of}
use Rattle.language_model.specs.Checking.{has_text_form}
use Rattle.language_model.specs.parts.Checking.{level_text_form}
use Rattle.language_model.specs.CodeFits as F
use Rattle.language_model.specs.CodeFits.{CodeFits}
use Rattle.language_model.specs.FitLaws.{no_names}
use Rattle.language_model.specs.FlatLaws.{IsMadeAs, IsTopological}
use Rattle.language_model.specs.Keeping as K
use Rattle.language_model.specs.Keeping.{Keeps, GraphKeeps, OperatorFits, PortsHave}
use Rattle.language_model.specs.parts.Literals.{is_file_name}
use Rattle.stream_model.specs.Operators.{Operator, output_attributes}
use Rattle.stream_model.specs.Stream.{Event, is_closed, TuplesFit}
use Rattle.list_engine.specs.examples.Chain.{numbers, divides, chain, chain_graph, chain_operators, chain_rows}
use Rattle.list_engine.specs.Runs.{AreOperators, is_source}
use Rattle.stream_model.specs.Runs.{RowsFit, rows_at}

abbrev flat : Flat
flat = chain.graph

-- ---- the order

-- each number stands at its own place
own_place : (k n : ℕ) → slice_get flat.topo k ≡ Some n → k ≡ n
own_place zero n e = cc
own_place (suc zero) n e = cc
own_place (suc (suc zero)) n e = cc
own_place (suc (suc (suc zero))) n e = cc
own_place (suc (suc (suc (suc zero)))) n e = cc
own_place (suc (suc (suc (suc (suc k))))) n e = absurd cc

there : (ns : List ℕ) (n : ℕ) → (h : Contains ns n) → slice_get ns h.0 ≡ Some n
there ns n h = slice_get-get_or ns h.0 n h.1 ∙ ap (λ x. Some x) h.2

in_front : (before after : List ℕ) (k n : ℕ) → slice_get before k ≡ Some n → slice_get (before ++ after) k ≡ Some n
in_front [] after k n e = absurd cc
in_front (b ∷ before) after zero n e = e
in_front (b ∷ before) after (suc k) n e = in_front before after k n e

behind_it : (before after : List ℕ) (n : ℕ) → slice_get (before ++ n ∷ after) (length before) ≡ Some n
behind_it [] after n = refl
behind_it (b ∷ before) after n = behind_it before after n

-- so as many stand before a number
count_before : (before after : List ℕ) (n : ℕ) → flat.topo ≡ before ++ n ∷ after → length before ≡ n
count_before before after n e = own_place (length before) n (ap (λ ns. slice_get ns (length before)) e ∙ behind_it before after n)

all_before : (before after : List ℕ) (n k : ℕ) → flat.topo ≡ before ++ n ∷ after → k < n → Contains before k
all_before before after n k e lt =
    let count = count_before before after n e in
    let within : k < length before = omega (arith, count, lt) in
    let at = slice_get-get_or before k k within in
    (k, within, sym (own_place k (get_or before k k) (ap (λ ns. slice_get ns k) e ∙ in_front before (n ∷ after) k (get_or before k k) at)))

below : (n : ℕ) → n < 5 → Contains flat.topo n
below zero h = (0, omega arith, refl)
below (suc zero) h = (1, omega arith, refl)
below (suc (suc zero)) h = (2, omega arith, refl)
below (suc (suc (suc zero))) h = (3, omega arith, refl)
below (suc (suc (suc (suc zero)))) h = (4, omega arith, refl)
below (suc (suc (suc (suc (suc n))))) h = absurd (omega (arith, h))

pub only : (t s : ℕ) → Contains (t ∷ []) s → t ≡ s
only t s h = go h.0 (there (t ∷ []) s h)
  where
    go : (k : ℕ) → slice_get (t ∷ []) k ≡ Some s → t ≡ s
    go zero e = cc
    go (suc k) e = absurd cc

-- a stream that a later operator reads, and its maker
reads_before : (before after : List ℕ) (n t number : ℕ) (op : Op) (s : Stream) → flat.topo ≡ before ++ n ∷ after → op.ins ≡ (t ∷ []) ∷ []
    → slice_get flat.streams t ≡ Some s → s.maker < n → Contains (concat op.ins) number
    → (x : Stream) × (slice_get flat.streams number ≡ Some x) × Contains before x.maker
reads_before before after n t number op s e ins at lt h =
    let same : t ≡ number = only t number (subst (λ ports. Contains (concat ports) number) ins h) in
    (s, subst (λ k. slice_get flat.streams k ≡ Some s) same at, all_before before after n s.maker e lt)

reads_none : (number : ℕ) (op : Op) → op.ins ≡ [] → Contains (concat op.ins) number → ⊥
reads_none number op ins h =
    let none = subst (λ ports. Contains (concat ports) number) ins h in let lt : none.0 < 0 = none.1 in omega (arith, lt)

is_topological : IsTopological flat
is_topological = record {
  all = λ n. (
    (λ h. (let same = own_place h.0 n (there flat.topo n h) in let lt : h.0 < 5 = h.1 in let is : n < 5 = omega (arith, same, lt) in is)),
    below n,
  );
  once = λ before after n e h. (
      let count = count_before before after n e in
      let place = own_place h.0 n (ap (λ ns. slice_get ns h.0) e ∙ in_front before (n ∷ after) h.0 n (there before n h)) in
      let lt : h.0 < length before = h.1 in
      omega (arith, count, place, lt));
  behind = λ before after n op e at number h. by n before after op e at number h;
}
  where
    by : (n : ℕ) (before after : List ℕ) (op : Op) → flat.topo ≡ before ++ n ∷ after → slice_get flat.ops n ≡ Some op → (number : ℕ) → Contains (concat op.ins) number
        → (x : Stream) × (slice_get flat.streams number ≡ Some x) × Contains before x.maker
    by zero before after op e at number h = let ins : op.ins ≡ [] = (let same : op_of O.FileSource [] (0 ∷ []) ≡ op = cc in ap (λ (x : Op). x.ins) (sym same)) in absurd (reads_none number op ins h)
    by (suc zero) before after op e at number h =
        let same : op_of O.Filter ((0 ∷ []) ∷ []) (1 ∷ []) ≡ op = cc in reads_before before after 1 0 number op _ e (ap (λ (x : Op). x.ins) (sym same)) refl (omega arith) h
    by (suc (suc zero)) before after op e at number h =
        let same : op_of O.Filter ((1 ∷ []) ∷ []) (2 ∷ []) ≡ op = cc in reads_before before after 2 1 number op _ e (ap (λ (x : Op). x.ins) (sym same)) refl (omega arith) h
    by (suc (suc (suc zero))) before after op e at number h =
        let same : op_of O.FileSink ((2 ∷ []) ∷ []) [] ≡ op = cc in reads_before before after 3 2 number op _ e (ap (λ (x : Op). x.ins) (sym same)) refl (omega arith) h
    by (suc (suc (suc (suc zero)))) before after op e at number h =
        let same : op_of O.FileSink ((0 ∷ []) ∷ []) [] ≡ op = cc in reads_before before after 4 0 number op _ e (ap (λ (x : Op). x.ins) (sym same)) refl (omega arith) h
    by (suc (suc (suc (suc (suc n))))) before after op e at number h = absurd cc

-- ---- the streams

made : (number : ℕ) (s : Stream) → slice_get flat.streams number ≡ Some s → IsMadeAs flat s number
made zero s e = subst (λ (x : Stream). IsMadeAs flat x 0) (let same : record { maker = 0; port = 0 } ≡ s = cc in same) (_, refl, refl)
made (suc zero) s e = subst (λ (x : Stream). IsMadeAs flat x 1) (let same : record { maker = 1; port = 0 } ≡ s = cc in same) (_, refl, refl)
made (suc (suc zero)) s e = subst (λ (x : Stream). IsMadeAs flat x 2) (let same : record { maker = 2; port = 0 } ≡ s = cc in same) (_, refl, refl)
made (suc (suc (suc number))) s e = absurd cc

-- the one stream of a list of one
given : (outs : List ℕ) (t port number : ℕ) → outs ≡ t ∷ [] → slice_get outs port ≡ Some number → (t ≡ number) × (port ≡ 0)
given outs t zero number e at = let same : Some t ≡ Some number = ap (λ ss. slice_get ss 0) (sym e) ∙ at in let is : t ≡ number = cc in (is, refl)
given outs t (suc port) number e at = let none : slice_get (t ∷ []) (suc port) ≡ Some number = ap (λ ss. slice_get ss (suc port)) (sym e) ∙ at in absurd cc

given_none : (outs : List ℕ) (port number : ℕ) → outs ≡ [] → slice_get outs port ≡ Some number → ⊥
given_none outs port number e at = let none : slice_get {X = ℕ} [] port ≡ Some number = ap (λ ss. slice_get ss port) (sym e) ∙ at in cc

made_there : (maker port number : ℕ) (op : Op) → slice_get flat.ops maker ≡ Some op → slice_get op.outs port ≡ Some number
    → slice_get flat.streams number ≡ Some (record { maker = maker; port = port })
made_there zero port number op e at =
    let same : op_of O.FileSource [] (0 ∷ []) ≡ op = cc in
    let is = given op.outs 0 port number (ap (λ (x : Op). x.outs) (sym same)) at in
    subst (λ n. slice_get flat.streams n ≡ Some (record { maker = 0; port = port })) is.0 (ap (λ p. Some (record { maker = 0; port = p })) (sym is.1))
made_there (suc zero) port number op e at =
    let same : op_of O.Filter ((0 ∷ []) ∷ []) (1 ∷ []) ≡ op = cc in
    let is = given op.outs 1 port number (ap (λ (x : Op). x.outs) (sym same)) at in
    subst (λ n. slice_get flat.streams n ≡ Some (record { maker = 1; port = port })) is.0 (ap (λ p. Some (record { maker = 1; port = p })) (sym is.1))
made_there (suc (suc zero)) port number op e at =
    let same : op_of O.Filter ((1 ∷ []) ∷ []) (2 ∷ []) ≡ op = cc in
    let is = given op.outs 2 port number (ap (λ (x : Op). x.outs) (sym same)) at in
    subst (λ n. slice_get flat.streams n ≡ Some (record { maker = 2; port = port })) is.0 (ap (λ p. Some (record { maker = 2; port = p })) (sym is.1))
made_there (suc (suc (suc zero))) port number op e at =
    let same : op_of O.FileSink ((2 ∷ []) ∷ []) [] ≡ op = cc in absurd (given_none op.outs port number (ap (λ (x : Op). x.outs) (sym same)) at)
made_there (suc (suc (suc (suc zero)))) port number op e at =
    let same : op_of O.FileSink ((0 ∷ []) ∷ []) [] ≡ op = cc in absurd (given_none op.outs port number (ap (λ (x : Op). x.outs) (sym same)) at)
made_there (suc (suc (suc (suc (suc maker))))) port number op e at = absurd cc

taken_there : (n : ℕ) (op : Op) → slice_get flat.ops n ≡ Some op → (number : ℕ) → Contains (concat op.ins) number → number < 3
taken_there zero op e number h =
    let same : op_of O.FileSource [] (0 ∷ []) ≡ op = cc in absurd (reads_none number op (ap (λ (x : Op). x.ins) (sym same)) h)
taken_there (suc zero) op e number h =
    let same : op_of O.Filter ((0 ∷ []) ∷ []) (1 ∷ []) ≡ op = cc in
    let is = only 0 number (subst (λ (x : Op). Contains (concat x.ins) number) (sym same) h) in omega (arith, is)
taken_there (suc (suc zero)) op e number h =
    let same : op_of O.Filter ((1 ∷ []) ∷ []) (2 ∷ []) ≡ op = cc in
    let is = only 1 number (subst (λ (x : Op). Contains (concat x.ins) number) (sym same) h) in omega (arith, is)
taken_there (suc (suc (suc zero))) op e number h =
    let same : op_of O.FileSink ((2 ∷ []) ∷ []) [] ≡ op = cc in
    let is = only 2 number (subst (λ (x : Op). Contains (concat x.ins) number) (sym same) h) in omega (arith, is)
taken_there (suc (suc (suc (suc zero)))) op e number h =
    let same : op_of O.FileSink ((0 ∷ []) ∷ []) [] ≡ op = cc in
    let is = only 0 number (subst (λ (x : Op). Contains (concat x.ins) number) (sym same) h) in omega (arith, is)
taken_there (suc (suc (suc (suc (suc n))))) op e number h = absurd cc

graph_keeps : GraphKeeps flat
graph_keeps = record {
  operators = omega arith;
  connections = omega arith;
  ordered = is_topological;
  made = λ number s. (made number s, λ is. made_there s.maker s.port number is.0 is.1 is.2);
  taken = taken_there;
}

-- ---- the clauses

abbrev port : Port
port = record { name = []; schema = numbers }

-- one port of numbers
abbrev one_port : Scope
one_port = record { vars = []; ports = port ∷ []; functions = []; unresolved = []; dollars = []; punct = false }

divides_fits : CodeFits one_port divides T.Bool
divides_fits =
    F.binary (D.Order Less) (C.Literal (V.Int (pos 1))) (C.Binary (D.Integers Divide I32) (C.Literal (V.Int (pos 12))) (C.Name (L.Attribute 0 0)))
    (T.Int I32) (T.Int I32) T.Bool
    (F.literal (V.Int (pos 1)) (T.Int I32) (fits_int I32 (pos 1)))
    (F.binary (D.Integers Divide I32) (C.Literal (V.Int (pos 12))) (C.Name (L.Attribute 0 0)) (T.Int I32) (T.Int I32) (T.Int I32)
    (F.literal (V.Int (pos 12)) (T.Int I32) (fits_int I32 (pos 12)))
    (F.name (L.Attribute 0 0) (T.Int I32) (F.attribute 0 0 port (record { name = codes "n"; kind = T.Int I32 }) refl refl refl (inl refl)))
    (F.integers Divide I32))
    (F.orders_integers Less I32)

-- the names of the files, and the form of the rows
pub ascii : (bytes : List ℕ) → AllByRecursion (λ b. b < 128) bytes → is_utf8 bytes ≡ true
ascii bytes h = is_utf8-from_IsUtf8 bytes (IsUtf8-from_ascii bytes (each bytes h))
  where
    each : (bs : List ℕ) → AllByRecursion (λ b. b < 128) bs → (i : ℕ) → get_or bs i 0 < 128
    each [] g zero = omega arith
    each [] g (suc i) = omega arith
    each (b ∷ bs) g zero = g.0
    each (b ∷ bs) g (suc i) = each bs g.1 i

pub in_named : IsTrue (is_file_name (codes "in"))
in_named = ap (λ b. b && true && true) (ascii (codes "in") (omega arith, (omega arith, tt)))

some_named : IsTrue (is_file_name (codes "some"))
some_named = ap (λ b. b && true && true) (ascii (codes "some") (omega arith, (omega arith, (omega arith, (omega arith, tt)))))

all_named : IsTrue (is_file_name (codes "all"))
all_named = ap (λ b. b && true && true) (ascii (codes "all") (omega arith, (omega arith, (omega arith, tt))))

rows_formed : IsTrue (has_text_form numbers)
rows_formed = ap (λ k. level_text_form k && true) (T.outs-Int I32)

one_input : (t : ℕ) → slice_get chain.schemas t ≡ Some numbers → PortsHave chain.schemas ((t ∷ []) ∷ []) (numbers ∷ [])
one_input t at =
    K.one_port (t ∷ []) [] numbers [] (record { some = omega arith; alike = λ s h. subst (λ k. slice_get chain.schemas k ≡ Some numbers) (only t s h) at }) K.no_ports

abbrev Fit : Op → CheckedClauses → Type 0
Fit = OperatorFits chain.schemas []

source_fits : Fit (op_of O.FileSource [] (0 ∷ [])) (A.FileSource (codes "in") true)
source_fits = record {
  ins = [];
  outs = numbers ∷ [];
  scope = no_names;
  ports = refl;
  takes = K.no_ports;
  gives = K.stream 0 [] numbers [] refl K.no_streams;
  names = record { vars = refl; ports = refl; functions = refl; punct = refl };
  clauses = K.file_source (codes "in") true numbers in_named rows_formed;
}

first_fits : Fit (op_of O.Filter ((0 ∷ []) ∷ []) (1 ∷ [])) (A.Filter (Some divides))
first_fits = record {
  ins = numbers ∷ [];
  outs = numbers ∷ [];
  scope = one_port;
  ports = refl;
  takes = one_input 0 refl;
  gives = K.stream 1 [] numbers [] refl K.no_streams;
  names = record { vars = refl; ports = refl; functions = refl; punct = refl };
  clauses = K.filter (Some divides) numbers divides_fits;
}

second_fits : Fit (op_of O.Filter ((1 ∷ []) ∷ []) (2 ∷ [])) (A.Filter None)
second_fits = record {
  ins = numbers ∷ [];
  outs = numbers ∷ [];
  scope = one_port;
  ports = refl;
  takes = one_input 1 refl;
  gives = K.stream 2 [] numbers [] refl K.no_streams;
  names = record { vars = refl; ports = refl; functions = refl; punct = refl };
  clauses = K.filter None numbers tt;
}

sink_fits : (t : ℕ) (file : List ℕ) → slice_get chain.schemas t ≡ Some numbers → IsTrue (is_file_name file) → Fit (op_of O.FileSink ((t ∷ []) ∷ []) []) (A.FileSink file)
sink_fits t file at named = record {
  ins = numbers ∷ [];
  outs = [];
  scope = one_port;
  ports = refl;
  takes = one_input t at;
  gives = K.no_streams;
  names = record { vars = refl; ports = refl; functions = refl; punct = refl };
  clauses = K.file_sink file numbers named rows_formed;
}

fit_there : (op o : Op) (part p : CheckedClauses) → Fit op part → Some op ≡ Some o → Some part ≡ Some p → Fit o p
fit_there op o part p h e f =
    let same_op : op ≡ o = cc in
    let same_part : part ≡ p = cc in
    subst (λ x. Fit x p) same_op (subst (λ x. Fit op x) same_part h)

each_fits : (n : ℕ) (op : Op) (part : CheckedClauses) → slice_get flat.ops n ≡ Some op → slice_get chain.parts n ≡ Some part → Fit op part
each_fits zero op part e f = fit_there _ op _ part source_fits e f
each_fits (suc zero) op part e f = fit_there _ op _ part first_fits e f
each_fits (suc (suc zero)) op part e f = fit_there _ op _ part second_fits e f
each_fits (suc (suc (suc zero))) op part e f = fit_there _ op _ part (sink_fits 2 (codes "some") refl some_named) e f
each_fits (suc (suc (suc (suc zero)))) op part e f = fit_there _ op _ part (sink_fits 0 (codes "all") refl all_named) e f
each_fits (suc (suc (suc (suc (suc n))))) op part e f = absurd cc

-- ---- the whole

pub chain_keeps : Keeps chain
chain_keeps = record {
  graph = graph_keeps;
  streams = refl;
  signatures = [];
  functions = λ i s at. absurd (none i s at);
  each_signed = refl;
  parts = refl;
  operators = each_fits;
}
  where
    none : (i : ℕ) (s : Signature) → slice_get {X = Signature} [] i ≡ Some s → ⊥
    none i s at = cc

-- each of its operators is fresh
pub chain_are_operators : AreOperators (λ (o : Operator). o) (λ o h. h ≡ []) chain_graph chain_operators
chain_are_operators = record { count = refl; sources = sources; others = others }
  where
    turned : (x op : Operator) → Some x ≡ Some op → is_source op.clauses ≡ true → is_source x.clauses ≡ true
    turned x op e h = let same : x ≡ op = cc in subst (λ (o : Operator). is_source o.clauses ≡ true) (sym same) h

    not_source : (x op : Operator) → Some x ≡ Some op → is_source op.clauses ≡ false → is_source x.clauses ≡ false
    not_source x op e h = let same : x ≡ op = cc in subst (λ (o : Operator). is_source o.clauses ≡ false) (sym same) h

    sources : (n : ℕ) (op : Operator) → slice_get chain_graph.ops n ≡ Some op → is_source op.clauses ≡ true → slice_get chain_operators n ≡ Some None
    sources zero op e h = refl
    sources (suc zero) op e h = absurd (let clash : false ≡ true = turned _ op e h in cc)
    sources (suc (suc zero)) op e h = absurd (let clash : false ≡ true = turned _ op e h in cc)
    sources (suc (suc (suc zero))) op e h = absurd (let clash : false ≡ true = turned _ op e h in cc)
    sources (suc (suc (suc (suc zero)))) op e h = absurd (let clash : false ≡ true = turned _ op e h in cc)
    sources (suc (suc (suc (suc (suc n))))) op e h = absurd cc

    one : (x op : Operator) → Some x ≡ Some op → x ≡ op
    one x op e = cc

    others : (n : ℕ) (op : Operator) → slice_get chain_graph.ops n ≡ Some op → is_source op.clauses ≡ false
        → (s : Operator) × (slice_get chain_operators n ≡ Some (Some s)) × (s ≡ op) × (◌≡◌ {A = List Event} [] [])
    others zero op e h = absurd (let clash : true ≡ false = not_source _ op e h in cc)
    others (suc zero) op e h = (_, refl, one _ op e, refl)
    others (suc (suc zero)) op e h = (_, refl, one _ op e, refl)
    others (suc (suc (suc zero))) op e h = (_, refl, one _ op e, refl)
    others (suc (suc (suc (suc zero)))) op e h = (_, refl, one _ op e, refl)
    others (suc (suc (suc (suc (suc n))))) op e h = absurd cc

row_fits : (n : ℕ) → IsTrue (fits (T.Int I32) (V.Int (pos n))) → IsTrue (fits (T.Tuple numbers) (V.Tuple (V.Int (pos n) ∷ [])))
row_fits n h = fits_tuple numbers (V.Int (pos n) ∷ []) ∙ ap (λ b. b && true) h

pub chain_rows_fit : RowsFit chain_graph chain_rows
chain_rows_fit = record { count = refl; closed = closed; fit = fit }
  where
    closed : (n : ℕ) (op : Operator) (file : List ℕ) (strict : Bool) → slice_get chain_graph.ops n ≡ Some op → op.clauses ≡ A.FileSource file strict → is_closed (rows_at chain_rows n) ≡ true
    closed zero op file strict e k = refl
    closed (suc zero) op file strict e k = absurd cc
    closed (suc (suc zero)) op file strict e k = absurd cc
    closed (suc (suc (suc zero))) op file strict e k = absurd cc
    closed (suc (suc (suc (suc zero)))) op file strict e k = absurd cc
    closed (suc (suc (suc (suc (suc n))))) op file strict e k = absurd cc

    fit : (n : ℕ) (op : Operator) (file : List ℕ) (strict : Bool) → slice_get chain_graph.ops n ≡ Some op → op.clauses ≡ A.FileSource file strict → TuplesFit (output_attributes op 0) (rows_at chain_rows n)
    fit zero op file strict e k =
        subst (λ (x : Option Operator). TuplesFit (option_map_or (λ (o : Operator). output_attributes o 0) x []) (rows_at chain_rows 0)) e
        (row_fits 3 (fits_int I32 (pos 3)), (row_fits 12 (fits_int I32 (pos 12)), (row_fits 0 (fits_int I32 (pos 0)), (row_fits 4 (fits_int I32 (pos 4)), tt))))
    fit (suc zero) op file strict e k = tt
    fit (suc (suc zero)) op file strict e k = tt
    fit (suc (suc (suc zero))) op file strict e k = tt
    fit (suc (suc (suc (suc zero)))) op file strict e k = tt
    fit (suc (suc (suc (suc (suc n))))) op file strict e k = tt
