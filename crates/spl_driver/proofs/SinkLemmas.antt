-- The sinks of a checked graph, as its graph of operators has them: their files, their texts and their rows.
use Rattle.std.proofs.Common.{◌≡◌, ℕ, suc, ◌+◌, ◌-◌, ◌^◌, ◌<◌, min, Bool, true, false, ◌||◌, List, [], ◌∷◌, ◌++◌, map, length, take, refl, sym, ap, subst, ◌∙◌, slice_get, slice_index_or, Option, Some, None, inl, inr, ◌⊎◌, arith}
use Rattle.std.proofs.Math.Seq.{take-length}
use Rattle.std.proofs.lemmas.List.Elements.{All-weaker}
use Rattle.std.proofs.lemmas.Slice.Eq.{bytes_eq-Decides}
use Rattle.std.specs.List.{All, cons_option, count_by, filter_map}
use Rattle.std.specs.Prelude.{IfSome}
use Rattle.std.specs.Str.{bytes_eq}
use Rattle.spl_value.specs.declared.item.Item.{Item}
use Rattle.feed_pour.specs.Counts.{PerName}
use Rattle.feed_pour.specs.Contents.{Told}
use Rattle.spl_tree.specs.declared.graph.Op.{Op}
use Rattle.language_model.specs.declared.checked.CheckedClauses.{CheckedClauses}
use Rattle.language_model.specs.declared.checked.CheckedClauses.TheVariants as A
use Rattle.stream_model.specs.declared.record.SinkCount.{SinkCount}
use Rattle.language_model.specs.CheckedGraph.{CheckedGraph}
use Rattle.stream_model.specs.CheckedMeaning.{graph_of, operator_with, operators_from}
use Rattle.language_model.specs.Keeping.{Keeps}
use Rattle.stream_model.specs.Meaning.{Graph, Meaning}
use Rattle.stream_model.specs.Operators.{Operator}
use Rattle.stream_model.specs.Rows.{text_of}
use Rattle.stream_model.specs.Stages.{out}
use Rattle.stream_model.specs.Stream.{is_tuple}
use Rattle.language_model.specs.Files.{sink_file, sink_files, OwnFiles}
use Rattle.language_model.specs.Names.{is_named}
use Rattle.file_adapters.specs.declared.sinks.Sink.{Sink}
use Rattle.file_adapters.specs.declared.sinks.Sunk.{Sunk}
use Rattle.file_adapters.specs.declared.sinks.Sunk.TheVariants as W
use Rattle.file_adapters.specs.Sinks as S
use Rattle.file_adapters.specs.Sinks.{AreDistinct, EmptyBefore, HasOwnFile, HoldsFront, SinksCount, SinksHold, names_of, sink_names, sink_rows, stream_at}
use Rattle.list_engine.specs.RunLaws.{SinkLaw}
use Rattle.stream_model.specs.Runs.{SinksGiven, sink_count}
use Rattle.spl_driver.specs.Answer.{EachSink, HoldsPrefix, HoldsText, HoldsUnlessFailed, SameFiles, sink_text}
use Rattle.spl_driver.specs.steps.Steps.{IsNamedBy, counts_from, created_by, last_of, sinks_from, sinks_of}
use Rattle.spl_driver.proofs.Operators.{operator_at, ops_made}

-- ---- files that stay

prefix_at : (m : Meaning) (t u : Told) (o : Option (List ℕ)) (op : Operator) → SameFiles t u → IfSome o (HoldsPrefix m t u op)
prefix_at m t u None op same = tt
prefix_at m t u (Some file) op same = inl (same file)

pub same_prefixes : (m : Meaning) (t u : Told) (ops : List Operator) → SameFiles t u → EachSink (HoldsPrefix m t u) ops
same_prefixes m t u [] same = tt
same_prefixes m t u (op ∷ ops) same = (prefix_at m t u (sink_file op.clauses) op same, same_prefixes m t u ops same)

-- ---- the files of sinks

pub files_from : (n : ℕ) (parts : List CheckedClauses) → map (λ (s : Sink). s.file) (sinks_from n parts) ≡ sink_files parts
files_from n [] = refl
files_from n (A.FileSource file strict ∷ parts) = files_from (suc n) parts
files_from n (A.FileSink file ∷ parts) = ap (λ (files : List (List ℕ)). file ∷ files) (files_from (suc n) parts)
files_from n (A.Filter condition ∷ parts) = files_from (suc n) parts
files_from n (A.Functor condition output ∷ parts) = files_from (suc n) parts
files_from n (A.Punctor condition position ∷ parts) = files_from (suc n) parts
files_from n (A.Split index ∷ parts) = files_from (suc n) parts
files_from n (A.Union places ∷ parts) = files_from (suc n) parts
files_from n (A.Custom handlers ∷ parts) = files_from (suc n) parts
files_from n (A.Aggregate window partition group output ∷ parts) = files_from (suc n) parts
files_from n (A.Join left right condition output ∷ parts) = files_from (suc n) parts

sink_is : (part : CheckedClauses) (file : List ℕ) → sink_file part ≡ Some file → part ≡ A.FileSink file
sink_is (A.FileSource f strict) file e = absurd cc
sink_is (A.FileSink f) file e = let same : f ≡ file = cc in ap (λ x. A.FileSink x) same
sink_is (A.Filter condition) file e = absurd cc
sink_is (A.Functor condition output) file e = absurd cc
sink_is (A.Punctor condition position) file e = absurd cc
sink_is (A.Split index) file e = absurd cc
sink_is (A.Union places) file e = absurd cc
sink_is (A.Custom handlers) file e = absurd cc
sink_is (A.Aggregate window partition group output) file e = absurd cc
sink_is (A.Join left right condition output) file e = absurd cc

-- a sink with this file stands in front of those with these
record Behind (parts : List CheckedClauses) (file : List ℕ) (after : List (List ℕ)) : Type 0 where
  pub front : List CheckedClauses
  pub back : List CheckedClauses
  pub whole : parts ≡ front ++ A.FileSink file ∷ back
  pub rest : sink_files back ≡ after

one_more : (part : CheckedClauses) (parts : List CheckedClauses) (file : List ℕ) (after : List (List ℕ)) → Behind parts file after → Behind (part ∷ parts) file after
one_more part parts file after b = record { front = part ∷ b.front; back = b.back; whole = ap (λ ps. part ∷ ps) b.whole; rest = b.rest }

behind_from : (part : CheckedClauses) (parts : List CheckedClauses) (file : List ℕ) (after : List (List ℕ)) (o : Option (List ℕ)) → sink_file part ≡ o
    → ((before : List (List ℕ)) → sink_files parts ≡ before ++ file ∷ after → Behind parts file after)
    → (before : List (List ℕ)) → cons_option o (sink_files parts) ≡ before ++ file ∷ after → Behind (part ∷ parts) file after
behind_from part parts file after None is more before e = one_more part parts file after (more before e)
behind_from part parts file after (Some f) is more [] e =
    let both : f ∷ sink_files parts ≡ file ∷ after = e in
    let same : f ≡ file = cc in
    let rest : sink_files parts ≡ after = cc in
    record { front = []; back = parts; whole = ap (λ p. p ∷ parts) (sink_is part f is ∙ ap (λ x. A.FileSink x) same); rest = rest }
behind_from part parts file after (Some f) is more (b ∷ before) e =
    let both : f ∷ sink_files parts ≡ b ∷ (before ++ file ∷ after) = e in
    let rest : sink_files parts ≡ before ++ file ∷ after = cc in
    one_more part parts file after (more before rest)

behind : (parts : List CheckedClauses) (file : List ℕ) (after before : List (List ℕ)) → sink_files parts ≡ before ++ file ∷ after → Behind parts file after
behind [] file after [] e = absurd cc
behind [] file after (b ∷ before) e = absurd cc
behind (part ∷ parts) file after before e = behind_from part parts file after (sink_file part) refl (λ b h. behind parts file after b h) before e

-- each sink has a file of its own
pub distinct : (c : CheckedGraph) (names : List (List ℕ)) → OwnFiles names c.parts → AreDistinct (sink_names (sinks_of c))
distinct c names own before after file e =
    let b = behind c.parts file after before (sym (files_from 0 c.parts) ∙ e) in
    ap (λ ns. is_named ns file) (sym b.rest) ∙ own.once b.front b.back file b.whole

-- the names of the files that a run creates
pub names_are : (written : Option (List ℕ)) (text : List ℕ) (c : CheckedGraph) → names_of (sinks_of c) (last_of written text) ≡ created_by written c
names_are None text c = files_from 0 c.parts
names_are (Some file) text c = ap (λ (names : List (List ℕ)). names ++ file ∷ []) (files_from 0 c.parts)

-- a name that is one of those of the command line is no sink's
not_sink : (c : CheckedGraph) (names : List (List ℕ)) (file : List ℕ) (b : Bool) → is_named (sink_files c.parts) file ≡ b → OwnFiles names c.parts → is_named names file ≡ true → is_named (sink_files c.parts) file ≡ false
not_sink c names file false is own named = is
not_sink c names file true is own named = let bad : true ≡ false = sym named ∙ own.free file is in cc

pub own_file : (written : Option (List ℕ)) (text : List ℕ) (c : CheckedGraph) (names : List (List ℕ)) → OwnFiles names c.parts → IsNamedBy written names → HasOwnFile (sinks_of c) (last_of written text)
own_file None text c names own named = tt
own_file (Some file) text c names own named = ap (λ (ns : List (List ℕ)). is_named ns file) (files_from 0 c.parts) ∙ not_sink c names file (is_named (sink_files c.parts) file) refl own named

-- ---- the sinks of a list of operators

abbrev sink_with : ℕ → List ℕ → Sink
sink_with n file = record { file = file; stream = n }

-- a fact of a sink's operator from one of the sink, at each place
abbrev AtPlaces : (Operator → List ℕ → Type 0) → (Sink → Type 0) → CheckedGraph → ℕ → List Op → List CheckedClauses → Type 0
AtPlaces Q P c from ops parts = (n number : ℕ) (op : Op) (file : List ℕ) → number ≡ from + n → slice_get ops n ≡ Some op → slice_get parts n ≡ Some (A.FileSink file)
    → P (sink_with number file) → Q (operator_with c number op (A.FileSink file)) file

at_rest : (Q : Operator → List ℕ → Type 0) (P : Sink → Type 0) (c : CheckedGraph) (from : ℕ) (op : Op) (part : CheckedClauses) (ops : List Op) (parts : List CheckedClauses)
    → AtPlaces Q P c from (op ∷ ops) (part ∷ parts) → AtPlaces Q P c (suc from) ops parts
at_rest Q P c from op part ops parts h n number o file is there has = h (suc n) number o file (omega (arith, is)) there has

at_part : (Q : Operator → List ℕ → Type 0) (P : Sink → Type 0) (c : CheckedGraph) (from : ℕ) (op : Op) (part : CheckedClauses) (parts : List CheckedClauses)
    → ((file : List ℕ) → part ≡ A.FileSink file → P (sink_with from file) → Q (operator_with c from op (A.FileSink file)) file)
    → All P (sinks_from from (part ∷ parts)) → IfSome (sink_file part) (Q (operator_with c from op part)) × All P (sinks_from (suc from) parts)
at_part Q P c from op (A.FileSource file strict) parts h all = (tt, all)
at_part Q P c from op (A.FileSink file) parts h all = (h file refl (all 0 (sink_with from file) (omega arith)), λ i d l. all (suc i) d (omega (arith, l)))
at_part Q P c from op (A.Filter condition) parts h all = (tt, all)
at_part Q P c from op (A.Functor condition output) parts h all = (tt, all)
at_part Q P c from op (A.Punctor condition position) parts h all = (tt, all)
at_part Q P c from op (A.Split index) parts h all = (tt, all)
at_part Q P c from op (A.Union places) parts h all = (tt, all)
at_part Q P c from op (A.Custom handlers) parts h all = (tt, all)
at_part Q P c from op (A.Aggregate window partition group output) parts h all = (tt, all)
at_part Q P c from op (A.Join left right condition output) parts h all = (tt, all)

each_sink : (Q : Operator → List ℕ → Type 0) (P : Sink → Type 0) (c : CheckedGraph) (from : ℕ) (ops : List Op) (parts : List CheckedClauses)
    → AtPlaces Q P c from ops parts → All P (sinks_from from parts) → EachSink Q (operators_from c from ops parts)
each_sink Q P c from [] parts h ps = tt
each_sink Q P c from (op ∷ ops) [] h ps = tt
each_sink Q P c from (op ∷ ops) (part ∷ parts) h ps =
    let first = at_part Q P c from op part parts (λ file is. h 0 from op file (omega arith) refl (ap (λ x. Some x) is)) ps in
    (first.0, each_sink Q P c (suc from) ops parts (at_rest Q P c from op part ops parts h) first.1)

-- each sink of a graph, with its number
each_of : (Q : Operator → List ℕ → Type 0) (P : Sink → Type 0) (c : CheckedGraph) (g : Graph) → graph_of c ≡ g
    → ((n : ℕ) (op : Op) (file : List ℕ) → slice_get c.graph.ops n ≡ Some op → slice_get c.parts n ≡ Some (A.FileSink file) → P (sink_with n file)
    → Q (operator_with c n op (A.FileSink file)) file)
    → All P (sinks_of c) → EachSink Q g.ops
each_of Q P c g e h ps =
    subst (EachSink Q) (ops_made c g e) (each_sink Q P c 0 c.graph.ops c.parts
    (λ n number op file is there has p. let same : n ≡ number = omega (arith, is) in
    subst (λ (k : ℕ). Q (operator_with c k op (A.FileSink file)) file) same (h n op file there has (subst (λ (k : ℕ). P (sink_with k file)) (sym same) p))) ps)

-- ---- their texts

-- what a sink writes is what its operator gives
given : (c : CheckedGraph) (g : Graph) (m : Meaning) (lists : List (List Item)) (n : ℕ) (op : Op) (file : List ℕ) → Keeps c → graph_of c ≡ g → SinkLaw → SinksGiven g m lists
    → slice_get c.graph.ops n ≡ Some op → slice_get c.parts n ≡ Some (A.FileSink file)
    → stream_at lists (sink_with n file) ≡ out (operator_with c n op (A.FileSink file)) 0 (m.events n)
given c g m lists n op file k e law are there has =
    let at = operator_at c g e n op (A.FileSink file) there has in
    are.given n (operator_with c n op (A.FileSink file)) at (law c g n (operator_with c n op (A.FileSink file)) file k e at refl).0

text_is : (c : CheckedGraph) (g : Graph) (m : Meaning) (lists : List (List Item)) (n : ℕ) (op : Op) (file : List ℕ) → Keeps c → graph_of c ≡ g → SinkLaw → SinksGiven g m lists
    → slice_get c.graph.ops n ≡ Some op → slice_get c.parts n ≡ Some (A.FileSink file)
    → sink_text m (operator_with c n op (A.FileSink file)) ≡ S.file_text lists (sink_with n file)
text_is c g m lists n op file k e law are there has = ap text_of (sym (given c g m lists n op file k e law are there has))

-- each sink's file holds its text
pub texts : (c : CheckedGraph) (g : Graph) (m : Meaning) (lists : List (List Item)) → Keeps c → graph_of c ≡ g → SinkLaw → SinksGiven g m lists
    → (ns : List ℕ) (names : List (List ℕ)) (counts now : PerName) (t u : Told) → SinksHold (W.Done ns) (sinks_of c) names lists counts now t u → EachSink (HoldsText m u) g.ops
texts c g m lists k e law are ns names counts now t u holds =
    each_of (HoldsText m u) (λ s. u.holds s.file ≡ Some (S.file_text lists s)) c g e
    (λ n op file there has h. h ∙ ap (λ x. Some x) (sym (text_is c g m lists n op file k e law are there has))) holds

front_held : (m : Meaning) (t u : Told) (op : Operator) (file given : List ℕ) → sink_text m op ≡ given
    → (u.holds file ≡ t.holds file) ⊎ HoldsFront given (u.holds file) → HoldsPrefix m t u op file
front_held m t u op file given e (inl same) = inl same
front_held m t u op file given e (inr front) = inr (front.0, front.1 ∙ ap (λ x. Some (take front.0 x)) (sym e))

-- a name that is one of these stands at one of their places
abbrev SomeNamed : List (List ℕ) → List ℕ → Type 0
SomeNamed names n = (x : List ℕ) × ((k : ℕ) × (k < length names) × (slice_index_or names k x ≡ x)) × (x ≡ n)

named_by : (m : List ℕ) (names : List (List ℕ)) (n : List ℕ) (b : Bool) → bytes_eq m n ≡ b → (is_named names n ≡ true → SomeNamed names n) → is_named (m ∷ names) n ≡ true → SomeNamed (m ∷ names) n
named_by m names n true same rest e = (m, (0, omega arith, refl), (bytes_eq-Decides m n).0 same)
named_by m names n false other rest e =
    let found = rest (ap (λ (b : Bool). b || is_named names n) (sym other) ∙ e) in
    (found.0, (suc found.1.0, omega (arith, found.1.1), found.1.2), found.2)

some_named : (names : List (List ℕ)) (n : List ℕ) → is_named names n ≡ true → SomeNamed names n
some_named [] n e = cc
some_named (m ∷ names) n e = named_by m names n (bytes_eq m n) refl (some_named names n) e

-- what each sink's file holds, by the text of its stream
abbrev FrontOrSame : List (List Item) → Told → Told → Sink → Type 0
FrontOrSame streams t u s = (u.holds s.file ≡ t.holds s.file) ⊎ HoldsFront (S.file_text streams s) (u.holds s.file)

all_fronts : (streams : List (List Item)) (t u : Told) (sinks : List Sink) → All (λ s. u.holds s.file ≡ Some (S.file_text streams s)) sinks → All (FrontOrSame streams t u) sinks
all_fronts streams t u sinks h =
    All-weaker (λ (s : Sink). u.holds s.file ≡ Some (S.file_text streams s)) (FrontOrSame streams t u)
    (λ s e. inr (length (S.file_text streams s), e ∙ ap (λ x. Some x) (sym (take-length (S.file_text streams s))))) sinks h

unless_front : (streams : List (List Item)) (counts now : PerName) (t u : Told) (s : Sink) → S.HoldsUnlessUnwritten (S.file_text streams s) (counts s.file) (now s.file) (u.holds s.file) → FrontOrSame streams t u s
unless_front streams counts now t u s (inl (quiet, e)) = inr (length (S.file_text streams s), e ∙ ap (λ x. Some x) (sym (take-length (S.file_text streams s))))
unless_front streams counts now t u s (inr (rose, front)) = inr front

-- a sink's file is as it was, or empty
abbrev EmptyOrSame : Told → Told → Sink → Type 0
EmptyOrSame t u s = (u.holds s.file ≡ t.holds s.file) ⊎ (u.holds s.file ≡ Some [])

empty_at : (u : Told) (names : List (List ℕ)) (x : List ℕ) → ((k : ℕ) × (k < length names) × (slice_index_or names k x ≡ x)) → All (λ n. u.holds n ≡ Some []) names → u.holds x ≡ Some []
empty_at u names x (k, small, at) all = ap u.holds (sym at) ∙ all k x small

empty_or : (place : ℕ) (names : List (List ℕ)) (t u : Told) → EmptyBefore place names t u → (s : Sink) → EmptyOrSame t u s
empty_or place names t u empty s = go (is_named (take place names) s.file) refl
  where
    go : (b : Bool) → is_named (take place names) s.file ≡ b → EmptyOrSame t u s
    go false out = inl (empty.others s.file out)
    go true named =
        let found = some_named (take place names) s.file named in
        inr (ap u.holds (sym found.2) ∙ empty_at u (take place names) found.0 found.1 empty.empty)

empty_front : (streams : List (List Item)) (place : ℕ) (names : List (List ℕ)) (t u : Told) → EmptyBefore place names t u → (s : Sink) → FrontOrSame streams t u s
empty_front streams place names t u empty s = elim (empty_or place names t u empty s) [ inl same ↦ inl same | inr none ↦ inr (0, none) ]

prefix_or : (m : Meaning) (t u : Told) (op : Operator) (file : List ℕ) → (u.holds file ≡ t.holds file) ⊎ (u.holds file ≡ Some []) → HoldsPrefix m t u op file
prefix_or m t u op file (inl same) = inl same
prefix_or m t u op file (inr none) = inr (0, none)

-- where one couldn't be created, each file is as it was or empty, and so holds a prefix of any text
pub empty_prefixes : (c : CheckedGraph) (g : Graph) (m : Meaning) (place : ℕ) (names : List (List ℕ)) (t u : Told) → graph_of c ≡ g → EmptyBefore place names t u → EachSink (HoldsPrefix m t u) g.ops
empty_prefixes c g m place names t u e empty =
    each_of (HoldsPrefix m t u) (EmptyOrSame t u) c g e (λ n op file there has h. prefix_or m t u (operator_with c n op (A.FileSink file)) file h)
    (λ k d small. empty_or place names t u empty (slice_index_or (sinks_of c) k d))

fronts_of : (r : Sunk) (streams : List (List Item)) (sinks : List Sink) (names : List (List ℕ)) (counts now : PerName) (t u : Told) → SinksHold r sinks names streams counts now t u → All (FrontOrSame streams t u) sinks
fronts_of (W.Done ns) streams sinks names counts now t u holds = all_fronts streams t u sinks holds
fronts_of (W.NotCreated place) streams sinks names counts now t u holds = λ k d small. empty_front streams place names t u holds (slice_index_or sinks k d)
fronts_of (W.NotWritten place) streams sinks names counts now t u holds =
    All-weaker (λ (s : Sink). S.HoldsUnlessUnwritten (S.file_text streams s) (counts s.file) (now s.file) (u.holds s.file)) (FrontOrSame streams t u) (unless_front streams counts now t u) sinks holds
fronts_of W.Memory streams sinks names counts now t u holds = holds

-- each sink's file is as it was, or holds a prefix of its text
pub prefixes : (c : CheckedGraph) (g : Graph) (m : Meaning) (lists : List (List Item)) → Keeps c → graph_of c ≡ g → SinkLaw → SinksGiven g m lists
    → (result : Sunk) (names : List (List ℕ)) (counts now : PerName) (t u : Told) → SinksHold result (sinks_of c) names lists counts now t u → EachSink (HoldsPrefix m t u) g.ops
prefixes c g m lists k e law are result names counts now t u holds =
    each_of (HoldsPrefix m t u) (FrontOrSame lists t u) c g e
    (λ n op file there has h. front_held m t u (operator_with c n op (A.FileSink file)) file (S.file_text lists (sink_with n file))
    (text_is c g m lists n op file k e law are there has) h) (fronts_of result lists (sinks_of c) names counts now t u holds)

unless_held : (m : Meaning) (counts now : PerName) (u : Told) (op : Operator) (file given : List ℕ) → sink_text m op ≡ given → S.HoldsUnlessUnwritten given (counts file) (now file) (u.holds file)
    → HoldsUnlessFailed m counts now u op file
unless_held m counts now u op file given e (inl (quiet, h)) = inl (quiet, h ∙ ap (λ x. Some x) (sym e))
unless_held m counts now u op file given e (inr (rose, front)) = inr (rose, (front.0, front.1 ∙ ap (λ x. Some (take front.0 x)) (sym e)))

-- each holds its text, or a prefix where its count of writing rose
pub wrote_others : (c : CheckedGraph) (g : Graph) (m : Meaning) (lists : List (List Item)) → Keeps c → graph_of c ≡ g → SinkLaw → SinksGiven g m lists
    → (place : ℕ) (names : List (List ℕ)) (counts now : PerName) (t u : Told) → SinksHold (W.NotWritten place) (sinks_of c) names lists counts now t u → EachSink (HoldsUnlessFailed m counts now u) g.ops
wrote_others c g m lists k e law are place names counts now t u holds =
    each_of (HoldsUnlessFailed m counts now u) (λ s. S.HoldsUnlessUnwritten (S.file_text lists s) (counts s.file) (now s.file) (u.holds s.file)) c g e
    (λ n op file there has h. unless_held m counts now u (operator_with c n op (A.FileSink file)) file (S.file_text lists (sink_with n file))
    (text_is c g m lists n op file k e law are there has) h) holds

-- ---- their rows

-- the number of tuples of a sink
abbrev tuples_of : Meaning → Operator → ℕ
tuples_of m op = min (length (out op 0 (m.events op.number))) (2 ^ 64 - 1)

least : (n : ℕ) → n < 2 ^ 64 → min n (2 ^ 64 - 1) ≡ n
least n small = omega (arith, small)

rows_are : (c : CheckedGraph) (g : Graph) (m : Meaning) (lists : List (List Item)) (n : ℕ) (op : Op) (file : List ℕ) → Keeps c → graph_of c ≡ g → SinkLaw → SinksGiven g m lists
    → slice_get c.graph.ops n ≡ Some op → slice_get c.parts n ≡ Some (A.FileSink file) → sink_rows lists (sink_with n file) < 2 ^ 64
    → tuples_of m (operator_with c n op (A.FileSink file)) ≡ sink_rows lists (sink_with n file)
rows_are c g m lists n op file k e law are there has small =
    let sink = operator_with c n op (A.FileSink file) in
    let at = operator_at c g e n op (A.FileSink file) there has in
    let made : length (out sink 0 (m.events n)) ≡ sink_rows lists (sink_with n file) =
    sym ((law c g n sink file k e at refl).1 (m.events n)) ∙ ap (count_by is_tuple) (sym (given c g m lists n op file k e law are there has)) in
    ap (λ (j : ℕ). min j (2 ^ 64 - 1)) made ∙ least (sink_rows lists (sink_with n file)) small

-- the number of tuples of the sink at each place
abbrev CountsAt : Meaning → List (List Item) → CheckedGraph → ℕ → List Op → List CheckedClauses → Type 0
CountsAt m lists c from ops parts = (n number : ℕ) (op : Op) (file : List ℕ) → number ≡ from + n → slice_get ops n ≡ Some op → slice_get parts n ≡ Some (A.FileSink file)
    → sink_rows lists (sink_with number file) < 2 ^ 64 → tuples_of m (operator_with c number op (A.FileSink file)) ≡ sink_rows lists (sink_with number file)

abbrev Small : List ℕ → Type 0
Small ns = All (λ n. n < 2 ^ 64) ns

abbrev rows_from : List (List Item) → ℕ → List CheckedClauses → List ℕ
rows_from lists n parts = map (sink_rows lists) (sinks_from n parts)

count_part : (m : Meaning) (lists : List (List Item)) (c : CheckedGraph) (from : ℕ) (op : Op) (part : CheckedClauses) (parts : List CheckedClauses) (more : List SinkCount)
    → ((file : List ℕ) → part ≡ A.FileSink file → sink_rows lists (sink_with from file) < 2 ^ 64
    → tuples_of m (operator_with c from op (A.FileSink file)) ≡ sink_rows lists (sink_with from file))
    → (Small (rows_from lists (suc from) parts) → counts_from (suc from) parts (rows_from lists (suc from) parts) ≡ more)
    → Small (rows_from lists from (part ∷ parts))
    → counts_from from (part ∷ parts) (rows_from lists from (part ∷ parts)) ≡ cons_option (sink_count m (operator_with c from op part)) more
count_part m lists c from op (A.FileSource file strict) parts more h later small = later small
count_part m lists c from op (A.FileSink file) parts more h later small =
    let tuples = sym (h file refl (small 0 0 (omega arith))) in
    let others = later (λ i d l. small (suc i) d (omega (arith, l))) in
    λ i. record { op = from; tuples = tuples i } ∷ others i
count_part m lists c from op (A.Filter condition) parts more h later small = later small
count_part m lists c from op (A.Functor condition output) parts more h later small = later small
count_part m lists c from op (A.Punctor condition position) parts more h later small = later small
count_part m lists c from op (A.Split index) parts more h later small = later small
count_part m lists c from op (A.Union places) parts more h later small = later small
count_part m lists c from op (A.Custom handlers) parts more h later small = later small
count_part m lists c from op (A.Aggregate window partition group output) parts more h later small = later small
count_part m lists c from op (A.Join left right condition output) parts more h later small = later small

abbrev counts_in : Meaning → List Operator → List SinkCount
counts_in m ops = filter_map (sink_count m) ops

counts_made : (m : Meaning) (lists : List (List Item)) (c : CheckedGraph) (from : ℕ) (ops : List Op) (parts : List CheckedClauses) → length parts ≡ length ops
    → CountsAt m lists c from ops parts → Small (rows_from lists from parts) → counts_from from parts (rows_from lists from parts) ≡ counts_in m (operators_from c from ops parts)
counts_made m lists c from [] [] l h small = refl
counts_made m lists c from [] (part ∷ parts) l h small = absurd (omega (arith, l))
counts_made m lists c from (op ∷ ops) [] l h small = absurd (omega (arith, l))
counts_made m lists c from (op ∷ ops) (part ∷ parts) l h small =
    count_part m lists c from op part parts (counts_in m (operators_from c (suc from) ops parts))
    (λ file is. h 0 from op file (omega arith) refl (ap (λ x. Some x) is))
    (counts_made m lists c (suc from) ops parts (omega (arith, l)) (λ n number o file is there has. h (suc n) number o file (omega (arith, is)) there has))
    small

-- the counts of a run are those of the meaning
pub counts_are : (c : CheckedGraph) (g : Graph) (m : Meaning) (lists : List (List Item)) → Keeps c → graph_of c ≡ g → SinkLaw → SinksGiven g m lists → (ns : List ℕ) → SinksCount (W.Done ns) (sinks_of c) lists
    → counts_from 0 c.parts ns ≡ filter_map (sink_count m) g.ops
counts_are c g m lists k e law are ns count =
    ap (counts_from 0 c.parts) count.0
    ∙ counts_made m lists c 0 c.graph.ops c.parts k.parts
    (λ n number op file is there has small. let same : n ≡ number = omega (arith, is) in
    subst (λ (j : ℕ). tuples_of m (operator_with c j op (A.FileSink file)) ≡ sink_rows lists (sink_with j file)) same
    (rows_are c g m lists n op file k e law are there has (subst (λ (j : ℕ). sink_rows lists (sink_with j file) < 2 ^ 64) (sym same) small)))
    (subst Small count.0 count.1)
    ∙ ap (counts_in m) (ops_made c g e)
