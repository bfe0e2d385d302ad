-- The lines of a record, one after another.
use Rattle.std.specs.List.{AllByRecursion, concat, cons_option, filter_map, flat_map}
use Rattle.std.specs.Option.{option_map_or}
use Rattle.std.proofs.Common.{◌≡◌, ◌∙◌, ◌+◌, ◌^◌, ◌<◌, ◌≤◌, ◌≢◌, ◌++◌, ◌∷◌, [], ℕ, zero, suc, List, Bool, true, false, Option, Some, None, Result, Ok, Err, IfOk, Bor, if◌then◌else◌, length, map, drop, slice_get, sum_by, refl, sym, ap, subst, arith, append_assoc, append-nil, drop_of_length-le}
use Rattle.std.proofs.lemmas.Grind.{flat_map-append}
use Rattle.std.proofs.lemmas.List.{append_cancel_left, map-append}
use Rattle.spl_value.proofs.Lists.{at_most_sum, next_rest, all_more, count_concat}
use Rattle.spl_tree.specs.declared.graph.Op.{Op}
use Rattle.language_model.specs.declared.checked.CheckedClauses.{CheckedClauses}
use Rattle.language_model.specs.CheckedGraph.{CheckedGraph}
use Rattle.language_model.specs.Keeping.{Keeps}
use Rattle.stream_model.specs.declared.record.ArrivalList.{ArrivalList}
use Rattle.stream_model.specs.Arrivals.{has_several, several}
use Rattle.stream_model.proofs.parts.Arrivals.{if_several}
use Rattle.stream_model.specs.CheckedMeaning.{graph_of, operators_from}
use Rattle.stream_model.specs.Operators.{Operator, connections}
use Rattle.stream_model.proofs.CheckedOperators.{operator_from}
use Rattle.arrival_format.specs.declared.answer.ArrivalsAnswer.{ArrivalsAnswer}
use Rattle.arrival_format.specs.ArrivalTexts.{AreInputs, connection_count, inputs_text, line_text, name_at}
use Rattle.arrival_format.specs.steps.Steps.{AreLines, AreReadUpTo, IsLine, IsLineEnd, several_from}
use Rattle.arrival_format.proofs.InputTexts.{same_line_end}

-- ---- the operators with several connections

pub several_are : (c : CheckedGraph) (n : ℕ) (ops : List Op) (parts : List CheckedClauses) → length parts ≡ length ops → filter_map if_several (operators_from c n ops parts) ≡ several_from n ops
several_are c n [] parts l = refl
several_are c n (op ∷ ops) [] l = absurd (omega (arith, l))
several_are c n (op ∷ ops) (part ∷ parts) l =
    ap (cons_option (if has_several (concat op.ins) then Some n else None)) (several_are c (suc n) ops parts (omega (arith, l)))

pub few_connections : (c : CheckedGraph) → Keeps c → (n : ℕ) (op : Op) → slice_get c.graph.ops n ≡ Some op → sum_by length op.ins < 2 ^ 30
few_connections c keeps n op there =
    let most = at_most_sum (λ (x : Op). sum_by length x.ins) c.graph.ops n op there in
    let all = keeps.graph.connections in
    omega (arith, most, all)

abbrev pub count_in : Option Operator → ℕ
count_in o = option_map_or (λ op. length (connections op)) o 0

-- there are fewer than 2^30 connections
count_small : (c : CheckedGraph) → Keeps c → (n : ℕ) → connection_count (graph_of c) n < 2 ^ 30
count_small c keeps n = go (slice_get (graph_of c).ops n) refl
  where
    go : (o : Option Operator) → slice_get (graph_of c).ops n ≡ o → count_in o < 2 ^ 30
    go None at = omega arith
    go (Some o) at =
        let is = operator_from c 0 c.graph.ops c.parts n o at in
        let count : length (connections o) ≡ sum_by length is.op.ins = ap (λ (x : Operator). length (connections x)) is.same ∙ count_concat is.op.ins in
        let few = few_connections c keeps n is.op is.there in
        omega (arith, count, few)

operator_there : (c : CheckedGraph) (from n : ℕ) (ops : List Op) (parts : List CheckedClauses) (op : Op) → length parts ≡ length ops → slice_get ops n ≡ Some op
    → count_in (slice_get (operators_from c from ops parts) n) ≡ length (concat op.ins)
operator_there c from n [] parts op l there = absurd cc
operator_there c from n (o ∷ ops) [] op l there = absurd (omega (arith, l))
operator_there c from zero (o ∷ ops) (part ∷ parts) op l there = let same : o ≡ op = cc in ap (λ (x : Op). length (concat x.ins)) same
operator_there c from (suc n) (o ∷ ops) (part ∷ parts) op l there = operator_there c (suc from) n ops parts op (omega (arith, l)) there

count_of : (c : CheckedGraph) → Keeps c → (n : ℕ) (op : Op) → slice_get c.graph.ops n ≡ Some op → connection_count (graph_of c) n ≡ length (concat op.ins)
count_of c keeps n op there = operator_there c 0 n c.graph.ops c.parts op keeps.parts there

name_of : (c : CheckedGraph) (n : ℕ) (op : Op) → slice_get c.graph.ops n ≡ Some op → name_at c n ≡ op.name
name_of c n op there = ap (λ o. option_map_or (λ (x : Op). x.name) o []) there

-- ---- a line by its name

pub line_of_name : (name bytes numbers : List ℕ) (bound : ℕ) (read : Result (List ℕ × Bor (List ℕ)) ArrivalsAnswer) → bytes ≡ name ++ numbers
    → IfOk read (λ found. IsLineEnd numbers bound found.0 found.1.now) → IfOk read (λ found. IsLine name bound bytes found.0 found.1.now)
line_of_name name bytes numbers bound (Ok found) is h = record { inputs_are = h.inputs_are; text = is ∙ ap (λ xs. name ++ xs) h.text }
line_of_name name bytes numbers bound (Err answer) is h = tt

pub no_line_of_name : (name bytes numbers : List ℕ) (bound : ℕ) → bytes ≡ name ++ numbers → ((inputs rest : List ℕ) → IsLineEnd numbers bound inputs rest → ⊥)
    → (inputs rest : List ℕ) → IsLine name bound bytes inputs rest → ⊥
no_line_of_name name bytes numbers bound is none inputs rest h =
    none inputs rest (record { inputs_are = h.inputs_are; text = append_cancel_left name numbers (inputs_text inputs ++ 10 ∷ rest) (sym is ∙ h.text) })

-- ---- lines in front of others

abbrev pub HaveInputs : CheckedGraph → List ArrivalList → Type 0
HaveInputs c lists = AllByRecursion (λ l. AreInputs (connection_count (graph_of c) l.op) l.inputs) lists

-- a line, and what comes after it
line_before : (c : CheckedGraph) (l : ArrivalList) (lists : List ArrivalList) (rest : List ℕ)
    → flat_map (line_text c) (l ∷ lists) ++ rest ≡ name_at c l.op ++ (inputs_text l.inputs ++ 10 ∷ (flat_map (line_text c) lists ++ rest))
line_before c l lists rest = simp append_assoc

-- where the lines that are read are a front of all, the others are to come
pub front_lines : (c : CheckedGraph) → Keeps c → (done lists : List ArrivalList) (ns rest : List ℕ) → HaveInputs c done → HaveInputs c lists
    → map (λ (l : ArrivalList). l.op) done ++ ns ≡ map (λ (l : ArrivalList). l.op) lists → flat_map (line_text c) done ++ rest ≡ flat_map (line_text c) lists
    → (more : List ArrivalList) × (lists ≡ done ++ more) × (ns ≡ map (λ (l : ArrivalList). l.op) more) × (rest ≡ flat_map (line_text c) more) × HaveInputs c more
front_lines c keeps [] lists ns rest own all ops text = (lists, refl, ops, text, all)
front_lines c keeps (l ∷ done) [] ns rest own all ops text = absurd cc
front_lines c keeps (l ∷ done) (m ∷ lists) ns rest own all ops text =
    let op : l.op ≡ m.op = cc in
    let behind : map (λ (l : ArrivalList). l.op) done ++ ns ≡ map (λ (l : ArrivalList). l.op) lists = cc in
    let small = count_small c keeps l.op in
    let both : name_at c l.op ++ (inputs_text l.inputs ++ 10 ∷ (flat_map (line_text c) done ++ rest)) ≡ name_at c l.op ++ (inputs_text m.inputs ++ 10 ∷ flat_map (line_text c) lists) =
    sym (line_before c l done rest) ∙ text ∙ sym (append-nil (flat_map (line_text c) (m ∷ lists))) ∙ line_before c m lists []
    ∙ (λ i. name_at c (sym op i) ++ (inputs_text m.inputs ++ 10 ∷ append-nil (flat_map (line_text c) lists) i)) in
    let line = same_line_end (connection_count (graph_of c) l.op) (omega (arith, small)) l.inputs m.inputs (flat_map (line_text c) done ++ rest) (flat_map (line_text c) lists)
    own.0.below (subst (λ n. AllByRecursion (λ i. i < connection_count (graph_of c) n) m.inputs) (sym op) all.0.below)
    (append_cancel_left (name_at c l.op) (inputs_text l.inputs ++ 10 ∷ (flat_map (line_text c) done ++ rest)) (inputs_text m.inputs ++ 10 ∷ flat_map (line_text c) lists) both) in
    let more = front_lines c keeps done lists ns rest own.1 all.1 behind line.1 in
    let same : m ≡ l = λ i. record { op = sym op i; inputs = sym line.0 i } in
    (more.0, (λ i. same i ∷ more.1 i), more.2, more.3, more.4)

-- ---- reading on

pub nothing_read : (c : CheckedGraph) (bytes : List ℕ) → Keeps c → AreReadUpTo c 0 bytes [] bytes
nothing_read c bytes keeps = record {
  ops = several_are c 0 c.graph.ops c.parts keeps.parts;
  inputs = tt;
  text = refl;
}

more_than_one : (ss : List ℕ) → 2 ≤ length ss → has_several ss ≡ true
more_than_one [] h = absurd (omega arith)
more_than_one (s ∷ []) h = absurd (omega arith)
more_than_one (s ∷ t ∷ ss) h = refl

at_most_one : (ss : List ℕ) → length ss < 2 → has_several ss ≡ false
at_most_one [] h = refl
at_most_one (s ∷ []) h = refl
at_most_one (s ∷ t ∷ ss) h = absurd (omega arith)

module _ (c : CheckedGraph) (keeps : Keeps c) (n : ℕ) (op : Op) (all : List ℕ) (lists : List ArrivalList) (bytes : List ℕ) (there : slice_get c.graph.ops n ≡ Some op)
    (so_far : AreReadUpTo c n all lists bytes) where
  abbrev left : Bool → List ℕ
  left b = cons_option (if b then Some n else None) (several_from (suc n) (drop (suc n) c.graph.ops))

  left_is : (b : Bool) → has_several (concat op.ins) ≡ b → several_from n (drop n c.graph.ops) ≡ left b
  left_is b is = ap (several_from n) (next_rest c.graph.ops n op there) ∙ ap left is

  next : several_from (suc n) (drop (suc n) c.graph.ops) ≡ several_from (n + 1) (drop (n + 1) c.graph.ops)
  next = let one : suc n ≡ n + 1 = omega arith in ap (λ k. several_from k (drop k c.graph.ops)) one

  -- an operator without several connections has no line
  pub line_passed : length (concat op.ins) < 2 → AreReadUpTo c (n + 1) all lists bytes
  line_passed few = record {
    ops = so_far.ops ∙ ap (λ ns. map (λ (l : ArrivalList). l.op) lists ++ ns) (left_is false (at_most_one (concat op.ins) few) ∙ next);
    inputs = so_far.inputs;
    text = so_far.text;
  }

  pub line_read : (inputs rest : List ℕ) (new : List ArrivalList) → 2 ≤ length (concat op.ins) → IsLine op.name (length (concat op.ins)) bytes inputs rest
      → new ≡ lists ++ record { op = n; inputs = inputs } ∷ [] → AreReadUpTo c (n + 1) all new rest
  line_read inputs rest new many line is =
      let own : ArrivalList = record { op = n; inputs = inputs } in
      subst (λ ls. AreReadUpTo c (n + 1) all ls rest) (sym is) (record {
        ops = so_far.ops ∙ ap (λ ns. map (λ (l : ArrivalList). l.op) lists ++ ns) (left_is true (more_than_one (concat op.ins) many) ∙ ap (λ ns. n ∷ ns) next)
            ∙ sym (append_assoc (map (λ (l : ArrivalList). l.op) lists) (n ∷ []) (several_from (n + 1) (drop (n + 1) c.graph.ops)))
            ∙ ap (λ ns. ns ++ several_from (n + 1) (drop (n + 1) c.graph.ops)) (sym (map-append (λ (l : ArrivalList). l.op) lists (own ∷ [])));
        inputs = all_more (λ (l : ArrivalList). AreInputs (connection_count (graph_of c) l.op) l.inputs) lists own so_far.inputs
            (subst (λ count. AreInputs count inputs) (sym (count_of c keeps n op there)) line.inputs_are);
        text = so_far.text ∙ ap (λ xs. flat_map (line_text c) lists ++ xs) (line.text ∙ ap (λ name. name ++ (inputs_text inputs ++ 10 ∷ rest)) (sym (name_of c n op there)) ∙ sym (line_before c own [] rest))
            ∙ sym (append_assoc (flat_map (line_text c) lists) (flat_map (line_text c) (own ∷ [])) rest)
            ∙ ap (λ xs. xs ++ rest) (sym (flat_map-append (line_text c) lists (own ∷ [])));
      })

  -- where its line isn't there, these are the lines of no record
  pub line_wanting : 2 ≤ length (concat op.ins) → ((inputs rest : List ℕ) → IsLine op.name (length (concat op.ins)) bytes inputs rest → ⊥)
      → (whole : List ArrivalList) → AreLines c all whole → ⊥
  line_wanting many none whole h =
      go (front_lines c keeps lists whole (several_from n (drop n c.graph.ops)) bytes so_far.inputs h.inputs (sym so_far.ops ∙ sym h.ops) (sym so_far.text ∙ h.text))
    where
      go : (more : List ArrivalList) × (whole ≡ lists ++ more) × (several_from n (drop n c.graph.ops) ≡ map (λ (l : ArrivalList). l.op) more) × (bytes ≡ flat_map (line_text c) more) × HaveInputs c more → ⊥
      go (more, is, ops, text, inputs) = with_own more (sym (left_is true (more_than_one (concat op.ins) many)) ∙ ops) text inputs
        where
          with_own : (more : List ArrivalList) → left true ≡ map (λ (l : ArrivalList). l.op) more → bytes ≡ flat_map (line_text c) more → HaveInputs c more → ⊥
          with_own [] ops text inputs = absurd cc
          with_own (l ∷ more) ops text inputs =
              let own : n ≡ l.op = cc in
              let count : connection_count (graph_of c) l.op ≡ length (concat op.ins) = ap (connection_count (graph_of c)) (sym own) ∙ count_of c keeps n op there in
              let name : name_at c l.op ≡ op.name = ap (name_at c) (sym own) ∙ name_of c n op there in
              none l.inputs (flat_map (line_text c) more ++ []) (record {
                inputs_are = subst (λ k. AreInputs k l.inputs) count inputs.0;
                text = text ∙ sym (append-nil (flat_map (line_text c) (l ∷ more))) ∙ line_before c l more []
                    ∙ ap (λ x. x ++ (inputs_text l.inputs ++ 10 ∷ (flat_map (line_text c) more ++ []))) name;
              })

-- ---- the end

module _ (c : CheckedGraph) (n : ℕ) (all : List ℕ) (lists : List ArrivalList) (rest : List ℕ) (past : length c.graph.ops ≤ n) (so_far : AreReadUpTo c n all lists rest) where
  none_left : several_from n (drop n c.graph.ops) ≡ []
  none_left = ap (several_from n) (drop_of_length-le c.graph.ops past)

  pub lines_read : rest ≡ [] → AreLines c all lists
  lines_read empty = record {
    ops = sym (so_far.ops ∙ ap (λ ns. map (λ (l : ArrivalList). l.op) lists ++ ns) none_left ∙ append-nil (map (λ (l : ArrivalList). l.op) lists));
    inputs = so_far.inputs;
    text = so_far.text ∙ ap (λ xs. flat_map (line_text c) lists ++ xs) empty ∙ append-nil (flat_map (line_text c) lists);
  }

  pub lines_behind : Keeps c → rest ≢ [] → (whole : List ArrivalList) → AreLines c all whole → ⊥
  lines_behind keeps some whole h =
      go (front_lines c keeps lists whole [] rest so_far.inputs h.inputs
      (append-nil (map (λ (l : ArrivalList). l.op) lists) ∙ sym lines_ops ∙ sym h.ops) (sym so_far.text ∙ h.text))
    where
      lines_ops : several (graph_of c) ≡ map (λ (l : ArrivalList). l.op) lists
      lines_ops = so_far.ops ∙ ap (λ ns. map (λ (l : ArrivalList). l.op) lists ++ ns) none_left ∙ append-nil (map (λ (l : ArrivalList). l.op) lists)

      go : (more : List ArrivalList) × (whole ≡ lists ++ more) × ([] ≡ map (λ (l : ArrivalList). l.op) more) × (rest ≡ flat_map (line_text c) more) × HaveInputs c more → ⊥
      go ([], is, ops, text, inputs) = some text
      go (l ∷ more, is, ops, text, inputs) = absurd cc
