-- The fault of a run, from what is kept of its ends.
use Rattle.std.proofs.Common.{◌≡◌, ℕ, suc, ◌+◌, ◌<◌, ◌≤◌, ◌||◌, not, Bool, true, false, if◌then◌else◌, List, [], ◌∷◌, map, refl, sym, ap, subst, ◌∙◌, length, drop, slice_get, Option, Some, None, is_some, arith}
use Rattle.std.specs.List.{Contains}
use Rattle.std.specs.Option.{option_or, unwrap_or}
use Rattle.spl_value.specs.declared.item.Fault.{Fault}
use Rattle.spl_value.specs.declared.item.Item.{Item}
use Rattle.spl_tree.specs.declared.graph.Op.{Op}
use Rattle.language_model.specs.CheckedGraph.{CheckedGraph}
use Rattle.language_model.specs.Keeping.{Keeps}
use Rattle.stream_model.specs.CheckedMeaning.{graph_of}
use Rattle.stream_model.specs.Ends as E
use Rattle.stream_model.specs.Ends.{end_fault, first_fault, is_read, run_fault, stream_fault}
use Rattle.stream_model.specs.parts.Ends.{operator_fault}
use Rattle.stream_model.specs.Meaning.{Graph, Entries, Meaning}
use Rattle.stream_model.specs.Operators.{Operator}
use Rattle.spl_value.proofs.Lists.{next_rest as front_of, drop_past}
use Rattle.list_engine.specs.declared.state.State.{State}
use Rattle.stream_model.specs.Runs.{rows_at}
use Rattle.list_engine.specs.steps.Faults.{fault_at, kept_fault, kept_faults, unread_fault, unread_faults}
use Rattle.list_engine.specs.steps.Running.{Means}
use Rattle.list_engine.proofs.GraphOperators.{operator_there}
use Rattle.stream_model.proofs.GraphParts.{same_length, operator_at}

-- ---- the loops

-- where there is no first fault, and where there is one
or_next : (found rest : Option Fault) → is_some found ≡ false → option_or found rest ≡ rest
or_next None rest h = refl
or_next (Some f) rest h = absurd (let clash : true ≡ false = h in cc)

or_first : (found rest : Option Fault) → is_some found ≡ true → option_or found rest ≡ found
or_first None rest h = absurd (let clash : false ≡ true = h in cc)
or_first (Some f) rest h = refl

pub unread_next : (g : Graph) (streams : List (List Item)) (rest behind : List ℕ) (s : ℕ) (found : Option Fault) → rest ≡ s ∷ behind → found ≡ unread_fault g streams s
    → is_some found ≡ false → unread_faults g streams behind ≡ unread_faults g streams rest
unread_next g streams rest behind s found next is none =
    sym (or_next found (unread_faults g streams behind) none)
    ∙ ap (λ x. option_or x (unread_faults g streams behind)) is ∙ ap (unread_faults g streams) (sym next)

kept_more : (g : Graph) (state : State) (i : ℕ) (o : Operator) → slice_get g.ops i ≡ Some o
    → kept_faults g state i (drop i g.ops) ≡ option_or (kept_fault g state i o.outs) (kept_faults g state (suc i) (drop (suc i) g.ops))
kept_more g state i o at = ap (kept_faults g state i) (front_of g.ops i o at)

-- what is found of one operator is the fault of its ends
abbrev pub FoundAt : Graph → State → ℕ → Option Fault → Type 0
FoundAt g state i found = (o : Operator) → slice_get g.ops i ≡ Some o → found ≡ kept_fault g state i o.outs

pub fault_found : (c : CheckedGraph) (g : Graph) (state : State) → Keeps c → graph_of c ≡ g → (i : ℕ) (found : Option Fault) → i < length c.graph.ops → FoundAt g state i found
    → is_some found ≡ true → kept_faults g state i (drop i g.ops) ≡ kept_faults g state 0 g.ops → found ≡ kept_faults g state 0 g.ops
fault_found c g state k e i found lt at is inv =
    let o = operator_there c g k e i lt in
    sym (or_first found (kept_faults g state (suc i) (drop (suc i) g.ops)) is)
    ∙ ap (λ x. option_or x (kept_faults g state (suc i) (drop (suc i) g.ops))) (at o.0 o.1) ∙ sym (kept_more g state i o.0 o.1) ∙ inv

pub fault_later : (c : CheckedGraph) (g : Graph) (state : State) → Keeps c → graph_of c ≡ g → (i : ℕ) (found : Option Fault) → i < length c.graph.ops → FoundAt g state i found
    → is_some found ≡ false → kept_faults g state i (drop i g.ops) ≡ kept_faults g state 0 g.ops → kept_faults g state (i + 1) (drop (i + 1) g.ops) ≡ kept_faults g state 0 g.ops
fault_later c g state k e i found lt at is inv =
    let o = operator_there c g k e i lt in
    let same : suc i ≡ i + 1 = omega arith in
    subst (λ j. kept_faults g state j (drop j g.ops) ≡ kept_faults g state 0 g.ops) same
    (sym (or_next found (kept_faults g state (suc i) (drop (suc i) g.ops)) is)
    ∙ ap (λ x. option_or x (kept_faults g state (suc i) (drop (suc i) g.ops))) (at o.0 o.1) ∙ sym (kept_more g state i o.0 o.1) ∙ inv)

pub fault_over : (c : CheckedGraph) (g : Graph) (state : State) → Keeps c → graph_of c ≡ g → (i : ℕ) → length c.graph.ops ≤ i
    → kept_faults g state i (drop i g.ops) ≡ kept_faults g state 0 g.ops → None ≡ kept_faults g state 0 g.ops
fault_over c g state k e i past inv =
    ap (kept_faults g state i) (sym (drop_past g.ops i (let same = same_length c g k e in omega (arith, same, past)))) ∙ inv

-- ---- the faults of the meaning

module _ (c : CheckedGraph) (g : Graph) (m : Meaning) (entries : Entries) (before : List ℕ) (state : State) (means : Means c g m entries before [] state)
    (all : (n : ℕ) (o : Operator) → slice_get g.ops n ≡ Some o → Contains before n)
    (within : (n : ℕ) (o : Operator) → slice_get g.ops n ≡ Some o → (s : ℕ) → Contains o.outs s → s < length c.graph.streams) where
  one_unread : (s : ℕ) → s < length c.graph.streams → unread_fault g state.streams s ≡ E.unread_fault g m s
  one_unread s lt = go (is_read g.ops s) refl
    where
      go : (b : Bool) → is_read g.ops s ≡ b → (if b then None else stream_fault (rows_at state.streams s)) ≡ (if b then None else stream_fault (m.streams s))
      go true e = refl
      go false e = ap (λ o. stream_fault (unwrap_or o [])) (means.kept s lt refl (ap (λ b. not b || false) e))

  all_unread : (outs : List ℕ) → ((s : ℕ) → Contains outs s → s < length c.graph.streams) → unread_faults g state.streams outs ≡ first_fault (map (E.unread_fault g m) outs)
  all_unread [] each = refl
  all_unread (s ∷ outs) each =
      let first : unread_fault g state.streams s ≡ E.unread_fault g m s = one_unread s (each s (0, omega arith, refl)) in
      let rest : unread_faults g state.streams outs ≡ first_fault (map (E.unread_fault g m) outs) =
      all_unread outs (λ t among. each t (suc among.0, (let lt : among.0 < length outs = among.1 in omega (arith, lt)), among.2)) in
      λ i. option_or (first i) (rest i)

  one_end : (n : ℕ) (o : Operator) → slice_get g.ops n ≡ Some o → kept_fault g state n o.outs ≡ end_fault g m o o.outs
  one_end n o at = go o.outs refl
    where
      go : (outs : List ℕ) → o.outs ≡ outs → kept_fault g state n outs ≡ end_fault g m o outs
      go [] e = means.faults n o (all n o at) at e
      go (s ∷ outs) e = all_unread (s ∷ outs) (subst (λ os. (t : ℕ) → Contains os t → t < length c.graph.streams) e (within n o at))

  all_ends : (ops : List Operator) (k : ℕ) → ((j : ℕ) (o : Operator) → slice_get ops j ≡ Some o → kept_fault g state (k + j) o.outs ≡ end_fault g m o o.outs)
      → kept_faults g state k ops ≡ first_fault (map (λ (o : Operator). end_fault g m o o.outs) ops)
  all_ends [] k each = refl
  all_ends (o ∷ ops) k each =
      let none : k ≡ k + 0 = omega arith in
      let first : kept_fault g state k o.outs ≡ end_fault g m o o.outs = ap (λ j. kept_fault g state j o.outs) none ∙ each 0 o refl in
      let rest : kept_faults g state (suc k) ops ≡ first_fault (map (λ (p : Operator). end_fault g m p p.outs) ops) =
      all_ends ops (suc k) (λ j p at. (let more : suc k + j ≡ k + suc j = omega arith in ap (λ i. kept_fault g state i p.outs) more ∙ each (suc j) p at)) in
      λ i. option_or (first i) (rest i)

  pub faults_are : kept_faults g state 0 g.ops ≡ run_fault g m
  faults_are = all_ends g.ops 0 (λ j o at. (let none : 0 + j ≡ j = omega arith in ap (λ i. kept_fault g state i o.outs) none ∙ one_end j o at))

-- ---- one operator

outs_of : (c : CheckedGraph) (g : Graph) (n : ℕ) (op : Op) (o : Operator) → graph_of c ≡ g → slice_get c.graph.ops n ≡ Some op → slice_get g.ops n ≡ Some o → o.outs ≡ op.outs
outs_of c g n op o e there at =
    let is = operator_at c g e n o at in
    let same : is.op ≡ op = (let both : Some is.op ≡ Some op = sym is.there ∙ there in cc) in
    ap (λ (x : Operator). x.outs) is.same ∙ ap (λ (x : Op). x.outs) same

pub end_of_none : (c : CheckedGraph) (g : Graph) (state : State) (n : ℕ) (op : Op) (o : Operator) → graph_of c ≡ g → slice_get c.graph.ops n ≡ Some op → slice_get g.ops n ≡ Some o
    → op.outs ≡ [] → (found : Option Fault) → found ≡ fault_at state.faults n → found ≡ kept_fault g state n o.outs
end_of_none c g state n op o e there at none found is = is ∙ ap (kept_fault g state n) (sym (outs_of c g n op o e there at ∙ none))

pub end_of_some : (c : CheckedGraph) (g : Graph) (state : State) (n : ℕ) (op : Op) (o : Operator) → graph_of c ≡ g → slice_get c.graph.ops n ≡ Some op → slice_get g.ops n ≡ Some o
    → (op.outs ≡ [] → ⊥) → (found : Option Fault) (outs : List ℕ) → outs ≡ op.outs → found ≡ unread_faults g state.streams outs → found ≡ kept_fault g state n o.outs
end_of_some c g state n op o e there at some found outs same is =
    is ∙ ap (unread_faults g state.streams) same ∙ go op.outs some ∙ ap (kept_fault g state n) (sym (outs_of c g n op o e there at))
  where
    go : (os : List ℕ) → (os ≡ [] → ⊥) → unread_faults g state.streams os ≡ kept_fault g state n os
    go [] h = absurd (h refl)
    go (s ∷ os) h = refl
