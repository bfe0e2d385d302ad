-- The operators of a checked graph, made one after the other.
use Prim.Native.Nat.{zero, suc}
use Rattle.std.proofs.Common.{◌≡◌, ◌∙◌, ◌+◌, ◌++◌, ℕ, Bool, true, false, List, [], ◌∷◌, length, refl, sym, ap, subst, arith, inl, inr, slice_get, Option, Some, None, IsTrue}
use Rattle.std.proofs.lemmas.List.{length_push}
use Rattle.spl_value.proofs.Lists.{append_cases, get_below, get_within}
use Rattle.language_model.specs.declared.checked.CheckedClauses.{CheckedClauses}
use Rattle.language_model.specs.declared.checked.CheckedClauses.TheVariants as A
use Rattle.language_model.specs.CheckedGraph.{CheckedGraph}
use Rattle.language_model.specs.Keeping.{Keeps}
use Rattle.stream_model.specs.CheckedMeaning.{graph_of}
use Rattle.stream_model.specs.Meaning.{Graph}
use Rattle.stream_model.specs.Operators.{Operator}
use Rattle.stream_model.specs.Stream.{Event}
use Rattle.op_kit.specs.Kinds.{is_held}
use Rattle.list_engine.specs.Runs.{AreOperators, is_source}
use Rattle.op_kit.specs.steps.Fresh.{FreshAs, IsFresh}
use Rattle.stream_model.proofs.GraphParts.{same_length, operator_at}

-- ---- one operator

same_part : (x y : CheckedClauses) → Some x ≡ Some y → x ≡ y
same_part x y e = cc

pub fresh_source : {S : Type 0} (spec : S → Operator) (stands : S → List Event → Type 0) (c : CheckedGraph) (n : ℕ) (own : CheckedClauses) (file : List ℕ) (strict : Bool) → slice_get c.parts n ≡ Some own
    → own ≡ A.FileSource file strict → IsFresh spec stands c n None
fresh_source spec stands c n own file strict has is part there =
    let same : part ≡ A.FileSource file strict = same_part part own (sym there ∙ has) ∙ is in
    subst (λ (b : Bool). FreshAs spec stands c n b None) (sym (ap is_source same)) tt

not_source : (part : CheckedClauses) → ((file : List ℕ) (strict : Bool) → part ≡ A.FileSource file strict → ⊥) → is_source part ≡ false
not_source (A.FileSource file strict) other = absurd (other file strict refl)
not_source (A.FileSink file) other = refl
not_source (A.Filter condition) other = refl
not_source (A.Functor condition output) other = refl
not_source (A.Punctor condition position) other = refl
not_source (A.Split index) other = refl
not_source (A.Union places) other = refl
not_source (A.Custom handlers) other = refl
not_source (A.Aggregate window partition group output) other = refl
not_source (A.Join left right condition output) other = refl

pub fresh_other : {S : Type 0} (spec : S → Operator) (stands : S → List Event → Type 0) (c : CheckedGraph) (n : ℕ) (own : CheckedClauses) (s : S) → slice_get c.parts n ≡ Some own
    → ((file : List ℕ) (strict : Bool) → own ≡ A.FileSource file strict → ⊥) → slice_get (graph_of c).ops n ≡ Some (spec s) → stands s [] → IsFresh spec stands c n (Some s)
fresh_other spec stands c n own s has other is begins part there =
    let none : is_source part ≡ false = ap is_source (same_part part own (sym there ∙ has)) ∙ not_source own other in
    subst (λ (b : Bool). FreshAs spec stands c n b (Some s)) (sym none) (is, begins)

held : (part : CheckedClauses) → is_source part ≡ false → IsTrue (is_held part)
held (A.FileSource file strict) e = cc
held (A.FileSink file) e = refl
held (A.Filter condition) e = refl
held (A.Functor condition output) e = refl
held (A.Punctor condition position) e = refl
held (A.Split index) e = refl
held (A.Union places) e = refl
held (A.Custom handlers) e = refl
held (A.Aggregate window partition group output) e = refl
held (A.Join left right condition output) e = refl

-- what is no source is held
pub is_there : (c : CheckedGraph) (n : ℕ) (own : CheckedClauses) → slice_get c.parts n ≡ Some own → ((file : List ℕ) (strict : Bool) → own ≡ A.FileSource file strict → ⊥)
    → (part : CheckedClauses) → slice_get c.parts n ≡ Some part → IsTrue (is_held part)
is_there c n own has other part there = held part (ap is_source (same_part part own (sym there ∙ has)) ∙ not_source own other)

-- ---- one after the other

-- there is an operator for each number before this one
pub record MadeBefore {S : Type 0} (spec : S → Operator) (stands : S → List Event → Type 0) (c : CheckedGraph) (count : ℕ) (operators : List (Option S)) : Type 0 where
  pub size : length operators ≡ count
  pub each : (n : ℕ) (operator : Option S) → slice_get operators n ≡ Some operator → IsFresh spec stands c n operator

pub none_made : {S : Type 0} (spec : S → Operator) (stands : S → List Event → Type 0) (c : CheckedGraph) (operators : List (Option S)) → operators ≡ [] → MadeBefore spec stands c 0 operators
none_made {S = S} spec stands c operators none = subst (MadeBefore spec stands c 0) (sym none) (record { size = refl; each = λ n operator at. absurd (no_item n operator at) })
  where
    no_item : (n : ℕ) (operator : Option S) → slice_get [] n ≡ Some operator → ⊥
    no_item zero operator at = cc
    no_item (suc n) operator at = cc

pub one_more : {S : Type 0} (spec : S → Operator) (stands : S → List Event → Type 0) (c : CheckedGraph) (count : ℕ) (operators new : List (Option S)) (made : Option S)
    → MadeBefore spec stands c count operators → IsFresh spec stands c count made → new ≡ operators ++ made ∷ [] → MadeBefore spec stands c (count + 1) new
one_more {S = S} spec stands c count operators new made before fresh is = subst (MadeBefore spec stands c (count + 1)) (sym is) (record {
  size = length_push operators made ∙ ap (λ k. k + 1) before.size;
  each = λ n operator at. elim (append_cases operators made n operator at) [
    | inl there ↦ before.each n operator there
    | inr last ↦ subst (λ (o : Option S). IsFresh spec stands c n o) last.1 (subst (λ (k : ℕ). IsFresh spec stands c k made) (sym (last.0 ∙ before.size)) fresh)
  ];
})

-- ---- all of them

by_kind : {S : Type 0} (spec : S → Operator) (stands : S → List Event → Type 0) (c : CheckedGraph) (n : ℕ) (b : Bool) (operator : Option S) → FreshAs spec stands c n b operator
    → (b ≡ true → operator ≡ None) × (b ≡ false → (s : S) × (operator ≡ Some s) × (slice_get (graph_of c).ops n ≡ Some (spec s)) × stands s [])
by_kind spec stands c n true None fresh = (λ e. refl, λ e. absurd (let bad : true ≡ false = e in cc))
by_kind spec stands c n true (Some s) fresh = absurd fresh
by_kind spec stands c n false None fresh = absurd fresh
by_kind spec stands c n false (Some s) fresh = (λ e. absurd (let bad : false ≡ true = e in cc), λ e. (s, refl, fresh.0, fresh.1))

same_operator : (x y : Operator) → Some x ≡ Some y → x ≡ y
same_operator x y e = cc

pub all_made : {S : Type 0} (spec : S → Operator) (stands : S → List Event → Type 0) (c : CheckedGraph) (operators : List (Option S)) → Keeps c
    → MadeBefore spec stands c (length c.graph.ops) operators → (g : Graph) → graph_of c ≡ g → AreOperators spec stands g operators
all_made {S = S} spec stands c operators keeps made g e = record {
  count = made.size ∙ sym (same_length c g keeps e);
  sources = λ n op at source. let w = found n op at in w.1 ∙ ap (λ (o : Option S). Some o) (w.2.0 source);
  others = λ n op at other.
      let w = found n op at in
      let x = w.2.1 other in
      (x.0, w.1 ∙ ap (λ (o : Option S). Some o) x.1, same_operator (spec x.0) op (sym x.2 ∙ ap (λ (h : Graph). slice_get h.ops n) e ∙ at), x.3);
}
  where
    found : (n : ℕ) (op : Operator) → slice_get g.ops n ≡ Some op → (o : Option S) × (slice_get operators n ≡ Some o)
        × ((is_source op.clauses ≡ true → o ≡ None) × (is_source op.clauses ≡ false → (s : S) × (o ≡ Some s) × (slice_get (graph_of c).ops n ≡ Some (spec s)) × stands s []))
    found n op at =
        let is = operator_at c g e n op at in
        let within = get_within c.graph.ops n is.op is.there in
        let size = made.size in
        let o = get_below operators n (omega (arith, within, size)) in
        let clauses : op.clauses ≡ is.part = ap (λ (x : Operator). x.clauses) is.same in
        (o.0, o.1, by_kind spec stands c n (is_source op.clauses) o.0 (subst (λ (p : CheckedClauses). FreshAs spec stands c n (is_source p) o.0) (sym clauses) (made.each n o.0 o.1 is.part is.has)))
