-- The order of a graph has each operator once, after those that make the streams that it takes.
use Rattle.std.specs.Prelude.{◌≡◌, ◌+◌, ◌<◌, ◌==◌, ◌⊎◌, ◌||◌, ◌&&◌, not, ℕ, zero, suc, List, [], ◌∷◌, ◌++◌, length, Option, Some, None, slice_get, if◌then◌else◌, Bool, true, false}
use Rattle.std.specs.List.{concat, Contains, list_all}
use Rattle.std.specs.Option.{option_map_or}
use Rattle.std.proofs.Common.{refl, sym, ap, ◌∙◌, subst, arith, inl, inr}
use Rattle.std.proofs.lemmas.Bool.{cases_Bool, eq-eqb, eqb-true}
use Rattle.std.proofs.lemmas.List.Elements.{Contains-append_cases}
use Rattle.std.proofs.lemmas.List.Folds.{list_any_at, list_all_at}
use Rattle.std.proofs.lemmas.Option.{same_Some, slice_get_within}
use Rattle.spl_tree.specs.declared.graph.Op.{Op}
use Rattle.spl_tree.specs.declared.graph.Stream.{Stream}
use Rattle.language_model.specs.Expansion.{Made}
use Rattle.language_model.proofs.parts.Flat.{graph_of}
use Rattle.language_model.specs.FlatLaws.{IsTopological, TopoLaw, ConnectedLaw}
use Rattle.language_model.specs.Numbering.{ops_from, streams_from}
use Rattle.language_model.specs.Taking.{is_taken, is_ready, next_from, taken_on, taken, first_untaken}
use Rattle.graph_laws.proofs.Flattening.{topo_of, made_of}
use Rattle.graph_laws.proofs.ExpansionAnswers.{ops_length}
use Rattle.spl_value.proofs.Lists.{contains_here, contains_later}

-- ---- what is among some numbers

pub taken_there : (ns : List ℕ) (n : ℕ) → is_taken ns n ≡ true → Contains ns n
taken_there [] n e = absurd cc
taken_there (m ∷ ns) n e =
    elim (m == n) as (λ b. (m == n) ≡ b → (b || is_taken ns n) ≡ true → Contains (m ∷ ns) n) [
      | true ↦ λ same h. let is : m ≡ n = eqb-true m n same in subst (λ k. Contains (k ∷ ns) n) (sym is) (contains_here n ns)
      | false ↦ λ other h. contains_later m n ns (taken_there ns n h)
    ] refl e

pub there_taken : (ns : List ℕ) (n : ℕ) → Contains ns n → is_taken ns n ≡ true
there_taken ns n h = list_any_at (λ m. m == n) ns h.0 n h.1 (eq-eqb _ n h.2)

pub not_there : (ns : List ℕ) (n : ℕ) → is_taken ns n ≡ false → Contains ns n → ⊥
not_there ns n e h = let is : is_taken ns n ≡ true = there_taken ns n h in let apart : true ≡ false = sym is ∙ e in cc

pub passes : (p : ℕ → Bool) (ns : List ℕ) (n : ℕ) → list_all p ns ≡ true → Contains ns n → p n ≡ true
passes p ns n e h =
    elim (cases_Bool (p n)) [
      | inl holds ↦ holds
      | inr fails ↦ (let none : list_all p ns ≡ false = list_all_at p ns h.0 n h.1 (ap p h.2 ∙ fails) in let apart : true ≡ false = sym e ∙ none in cc)
    ]

-- ---- lists with one more

not_nil : {A : Type 0} (xs : List A) (m : A) (ys : List A) → [] ≡ xs ++ m ∷ ys → ⊥
not_nil [] m ys e = cc
not_nil (x ∷ xs) m ys e = cc

-- where a list with one more is split, it is at that one, or in the list
split : (xs before behind : List ℕ) (n m : ℕ) → xs ++ n ∷ [] ≡ before ++ m ∷ behind → ((xs ≡ before) × (n ≡ m)) ⊎ ((rest : List ℕ) × (xs ≡ before ++ m ∷ rest))
split [] [] behind n m e = inl (refl, cc)
split [] (b ∷ before) behind n m e = let none : [] ≡ before ++ m ∷ behind = cc in absurd (not_nil before m behind none)
split (x ∷ xs) [] behind n m e = let same : x ≡ m = cc in inr (xs, ap (λ y. y ∷ xs) same)
split (x ∷ xs) (b ∷ before) behind n m e =
    let same : x ≡ b = cc in
    let others : xs ++ n ∷ [] ≡ before ++ m ∷ behind = cc in
    elim (split xs before behind n m others) [
      | inl h ↦ (let rest : xs ≡ before = h.0 in let end : n ≡ m = h.1 in inl (cc, end))
      | inr h ↦ (let rest : xs ≡ before ++ m ∷ h.0 = h.1 in inr (h.0, cc))
    ]

-- what is in a list splits it
split_at : (xs : List ℕ) (n : ℕ) → is_taken xs n ≡ true → (before : List ℕ) × (behind : List ℕ) × (xs ≡ before ++ n ∷ behind)
split_at [] n e = absurd cc
split_at (m ∷ xs) n e =
    elim (m == n) as (λ b. (m == n) ≡ b → (b || is_taken xs n) ≡ true → (before : List ℕ) × (behind : List ℕ) × (m ∷ xs ≡ before ++ n ∷ behind)) [
      | true ↦ λ same h. let is : m ≡ n = eqb-true m n same in ([], xs, ap (λ k. k ∷ xs) is)
      | false ↦ λ other h. (let rest = split_at xs n h in (m ∷ rest.0, rest.1, ap (λ ks. m ∷ ks) rest.2))
    ] refl e

-- ---- what may be taken next

-- an operator that takes some numbers of streams, which are all made by those that are taken
abbrev MadeBy : List Stream → List ℕ → ℕ → Type 0
MadeBy streams ns number = (s : Stream) × (slice_get streams number ≡ Some s) × Contains ns s.maker

pub made_there : (ns : List ℕ) (o : Option Stream) → option_map_or (λ x. is_taken ns x.maker) o false ≡ true → (s : Stream) × (o ≡ Some s) × Contains ns s.maker
made_there ns None e = absurd cc
made_there ns (Some s) e = (s, refl, taken_there ns s.maker e)

ready_takes : (streams : List Stream) (ns : List ℕ) (op : Op) → is_ready streams ns op ≡ true → (number : ℕ) → Contains (concat op.ins) number → MadeBy streams ns number
ready_takes streams ns op e number h =
    made_there ns (slice_get streams number) (passes (λ s. option_map_or (λ x. is_taken ns x.maker) (slice_get streams s) false) (concat op.ins) number e h)

record IsNext (streams : List Stream) (ops : List Op) (ns : List ℕ) (from n : ℕ) : Type 0 where
  pub place : ℕ
  pub is : n ≡ from + place
  pub op : Op
  pub there : slice_get ops place ≡ Some op
  pub new : is_taken ns n ≡ false
  pub ready : is_ready streams ns op ≡ true

both : (b c : Bool) → (not b && c) ≡ true → (b ≡ false) × (c ≡ true)
both true c e = absurd cc
both false c e = (refl, e)

next_is : (streams : List Stream) (ns : List ℕ) (from : ℕ) (ops : List Op) (n : ℕ) → next_from streams ns from ops ≡ Some n → IsNext streams ops ns from n
next_is streams ns from [] n e = absurd cc
next_is streams ns from (op ∷ ops) n e =
    elim (not (is_taken ns from) && is_ready streams ns op)
    as (λ b. (not (is_taken ns from) && is_ready streams ns op) ≡ b → (if b then Some from else next_from streams ns (suc from) ops) ≡ Some n → IsNext streams (op ∷ ops) ns from n) [
      | true ↦ λ holds found. (
          let same : from ≡ n = cc in
          let parts = both (is_taken ns from) (is_ready streams ns op) holds in
          record { place = 0; is = omega arith; op = op; there = refl; new = subst (λ k. is_taken ns k ≡ false) same parts.0; ready = parts.1 })
      | false ↦ λ other found. (
          let rest = next_is streams ns (suc from) ops n found in
          let is : n ≡ suc from + rest.place = rest.is in
          record { place = suc rest.place; is = omega arith; op = rest.op; there = rest.there; new = rest.new; ready = rest.ready })
    ] refl e

-- ---- what is taken

record Fair (streams : List Stream) (ops : List Op) (ns : List ℕ) : Type 0 where
  pub within : (n : ℕ) → Contains ns n → n < length ops
  pub once : (before behind : List ℕ) (n : ℕ) → ns ≡ before ++ n ∷ behind → Contains before n → ⊥
  pub behind : (before behind : List ℕ) (n : ℕ) (op : Op) → ns ≡ before ++ n ∷ behind → slice_get ops n ≡ Some op
      → (number : ℕ) → Contains (concat op.ins) number → MadeBy streams before number

fair_nil : (streams : List Stream) (ops : List Op) → Fair streams ops []
fair_nil streams ops = record {
  within = λ n h. absurd (not_there [] n refl h);
  once = λ before behind n e h. not_nil before n behind e;
  behind = λ before behind n op e at number h. absurd (not_nil before n behind e);
}

contained_one : (n m : ℕ) → Contains (m ∷ []) n → m ≡ n
contained_one n m h = elim (cases_Bool (m == n)) [ inl same ↦ eqb-true m n same | inr other ↦ absurd (not_there (m ∷ []) n (ap (λ b. b || false) other) h) ]

fair_more : (streams : List Stream) (ops : List Op) (ns : List ℕ) (n : ℕ) → Fair streams ops ns → IsNext streams ops ns 0 n → Fair streams ops (ns ++ n ∷ [])
fair_more streams ops ns n f x = record { within = within; once = once; behind = behind }
  where
    at : slice_get ops n ≡ Some x.op
    at = let is : n ≡ 0 + x.place = x.is in let same : n ≡ x.place = omega arith in ap (slice_get ops) same ∙ x.there

    within : (m : ℕ) → Contains (ns ++ n ∷ []) m → m < length ops
    within m h = elim (Contains-append_cases ns (n ∷ []) m h) [
      | inl old ↦ f.within m old
      | inr new ↦ (let same : n ≡ m = contained_one m n new in let lt : n < length ops = slice_get_within ops n x.op at in omega arith)
    ]

    once : (before behind : List ℕ) (m : ℕ) → ns ++ n ∷ [] ≡ before ++ m ∷ behind → Contains before m → ⊥
    once before behind m e h = elim (split ns before behind n m e) [
      | inl s ↦ not_there ns n x.new (subst (Contains ns) (sym s.1) (subst (λ (ks : List ℕ). Contains ks m) (sym s.0) h))
      | inr s ↦ f.once before s.0 m s.1 h
    ]

    behind : (before behind : List ℕ) (m : ℕ) (op : Op) → ns ++ n ∷ [] ≡ before ++ m ∷ behind → slice_get ops m ≡ Some op
        → (number : ℕ) → Contains (concat op.ins) number → MadeBy streams before number
    behind before rest m op e there number h = elim (split ns before rest n m e) [
      | inl s ↦ (
          let same : x.op ≡ op = same_Some x.op op (sym at ∙ ap (slice_get ops) s.1 ∙ there) in
          subst (λ (ks : List ℕ). MadeBy streams ks number) s.0
          (ready_takes streams ns x.op x.ready number (subst (λ (o : Op). Contains (concat o.ins) number) (sym same) h)))
      | inr s ↦ f.behind before s.0 m op s.1 there number h
    ]

fair_on : (streams : List Stream) (ops : List Op) (count : ℕ) (ns : List ℕ) → Fair streams ops ns → Fair streams ops (taken_on count streams ops ns)
fair_on streams ops zero ns f = f
fair_on streams ops (suc count) ns f =
    elim (next_from streams ns 0 ops)
    as (λ o. next_from streams ns 0 ops ≡ o → Fair streams ops (option_map_or (λ n. taken_on count streams ops (ns ++ n ∷ [])) o ns)) [
      | None ↦ λ e. f
      | Some n ↦ λ e. fair_on streams ops count (ns ++ n ∷ []) (fair_more streams ops ns n f (next_is streams ns 0 ops n e))
    ] refl

fair : (streams : List Stream) (ops : List Op) → Fair streams ops (taken streams ops)
fair streams ops = fair_on streams ops (length ops) [] (fair_nil streams ops)

first_or_later : (P : ℕ → Type 0) (from count : ℕ) → P from → ((k : ℕ) → k < count → P (suc from + k)) → (k : ℕ) → k < suc count → P (from + k)
first_or_later P from count here rest zero lt = let same : from ≡ from + 0 = omega arith in subst P same here
first_or_later P from count here rest (suc k) lt = let same : suc from + k ≡ from + suc k = omega arith in subst P same (rest k (omega arith))

all_taken : (ns : List ℕ) (from count : ℕ) → first_untaken ns from count ≡ None → (k : ℕ) → k < count → is_taken ns (from + k) ≡ true
all_taken ns from zero e k lt = absurd (omega arith)
all_taken ns from (suc count) e k lt =
    elim (is_taken ns from) as (λ b. is_taken ns from ≡ b → (if b then first_untaken ns (suc from) count else Some from) ≡ None → is_taken ns (from + k) ≡ true) [
      | true ↦ λ here rest. first_or_later (λ n. is_taken ns n ≡ true) from count here (all_taken ns (suc from) count rest) k lt
      | false ↦ λ here none. absurd cc
    ] refl e

-- ---- the order of a graph

topological : (made : Made) → first_untaken (topo_of made) 0 (length made.ops) ≡ None → IsTopological (graph_of made (topo_of made))
topological made e =
    let f = fair (streams_from 0 made.ops) (ops_from made 0 made.ops) in
    let long : length (ops_from made 0 made.ops) ≡ length made.ops = ops_length made 0 made.ops in
    let each = λ (n : ℕ) (lt : n < length (ops_from made 0 made.ops)).
    (let less : n < length made.ops = omega arith in let zero_more : 0 + n ≡ n = omega arith in
    taken_there (topo_of made) n (subst (λ k. is_taken (topo_of made) k ≡ true) zero_more (all_taken (topo_of made) 0 (length made.ops) e n less))) in
    record { all = λ n. (f.within n, each n); once = f.once; behind = f.behind }

pub topo_law : TopoLaw
topo_law unit names main g e =
    let m = made_of unit names main g e in subst IsTopological (sym m.is) (topological m.made m.all)

pub connected_law : ConnectedLaw
connected_law unit names main g e n op at number h =
    let t = topo_law unit names main g e in
    let parts = split_at g.topo n (there_taken g.topo n ((t.all n).1 (slice_get_within g.ops n op at))) in
    let s = t.behind parts.0 parts.1 n op parts.2 at number h in
    slice_get_within g.streams number s.0 s.1
