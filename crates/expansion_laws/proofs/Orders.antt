-- The order of a graph is the topological one, and no other list is.
use Rattle.std.specs.Prelude.{◌≡◌, ◌+◌, ◌<◌, ◌⊎◌, ◌&&◌, not, ℕ, zero, suc, List, [], ◌∷◌, ◌++◌, length, Some, None, Ok, slice_get, if◌then◌else◌, Bool, true, false}
use Rattle.std.specs.List.{concat, Contains, list_all}
use Rattle.std.specs.Option.{option_map_or}
use Rattle.std.proofs.Common.{refl, sym, ap, ◌∙◌, subst, arith, inl, inr, append_assoc}
use Rattle.std.proofs.lemmas.Bool.{cases_lt, cases_Bool}
use Rattle.std.proofs.lemmas.Option.{same_Some, slice_get_within}
use Rattle.spl_tree.specs.declared.graph.Graph.{Graph}
use Rattle.spl_tree.specs.declared.graph.Op.{Op}
use Rattle.language_model.specs.Taking.{is_taken, is_ready, next_from, taken_on, taken}
use Rattle.graph_laws.proofs.Flattening.{topo_of}
use Rattle.graph_laws.proofs.Ordering.{taken_there, topo_law, passes, made_there, there_taken, not_there}
use Rattle.spl_value.proofs.Lists.{contains_here, contains_later}
use Rattle.expansion_laws.specs.Laws.{OrderLaw}
use Rattle.expansion_laws.specs.Order.{IsFed, IsNext, IsTheOrder}
use Rattle.expansion_laws.proofs.Graphs.{of_flat}

-- ---- what is among some numbers

is_new : (ns : List ℕ) (n : ℕ) → (Contains ns n → ⊥) → is_taken ns n ≡ false
is_new ns n h = elim (cases_Bool (is_taken ns n)) [ inl taken ↦ absurd (h (taken_there ns n taken)) | inr new ↦ new ]

-- ---- what is fed

all_pass : (p : ℕ → Bool) (ns : List ℕ) → ((n : ℕ) → Contains ns n → p n ≡ true) → list_all p ns ≡ true
all_pass p [] h = refl
all_pass p (n ∷ ns) h = λ i. h n (contains_here n ns) i && all_pass p ns (λ m at. h m (contains_later n m ns at)) i

module _ (g : Graph) where
  fed_if_ready : (ns : List ℕ) (op : Op) → is_ready g.streams ns op ≡ true → IsFed g ns op
  fed_if_ready ns op e number h =
      made_there ns (slice_get g.streams number) (passes (λ s. option_map_or (λ x. is_taken ns x.maker) (slice_get g.streams s) false) (concat op.ins) number e h)

  ready_if_fed : (ns : List ℕ) (op : Op) → IsFed g ns op → is_ready g.streams ns op ≡ true
  ready_if_fed ns op fed = all_pass (λ s. option_map_or (λ x. is_taken ns x.maker) (slice_get g.streams s) false) (concat op.ins) each
    where
      each : (number : ℕ) → Contains (concat op.ins) number → option_map_or (λ x. is_taken ns x.maker) (slice_get g.streams number) false ≡ true
      each number h = let s = fed number h in ap (λ o. option_map_or (λ x. is_taken ns x.maker) o false) s.1 ∙ there_taken ns s.0.maker s.2

  -- ---- the next one

  abbrev May : List ℕ → ℕ → Op → Bool
  May ns n op = not (is_taken ns n) && is_ready g.streams ns op

  record IsFirst (ns : List ℕ) (from : ℕ) (ops : List Op) (n : ℕ) : Type 0 where
    pub place : ℕ
    pub is : n ≡ from + place
    pub op : Op
    pub there : slice_get ops place ≡ Some op
    pub may : May ns n op ≡ true
    pub none : (k : ℕ) (o : Op) → k < place → slice_get ops k ≡ Some o → May ns (from + k) o ≡ false

  first_is : (ns : List ℕ) (from : ℕ) (ops : List Op) (n : ℕ) → next_from g.streams ns from ops ≡ Some n → IsFirst ns from ops n
  first_is ns from [] n e = absurd cc
  first_is ns from (op ∷ ops) n e =
      elim (May ns from op) as (λ b. May ns from op ≡ b → (if b then Some from else next_from g.streams ns (suc from) ops) ≡ Some n → IsFirst ns from (op ∷ ops) n) [
        | true ↦ λ may found. (
            let same : from ≡ n = same_Some from n found in
            record { place = 0; is = omega arith; op = op; there = refl; may = ap (λ k. May ns k op) (sym same) ∙ may; none = λ k o lt at. absurd (omega arith) })
        | false ↦ λ fails found. later fails (first_is ns (suc from) ops n found)
      ] refl e
    where
      later : May ns from op ≡ false → IsFirst ns (suc from) ops n → IsFirst ns from (op ∷ ops) n
      later fails f = record { place = suc f.place; is = omega (arith, f.is); op = f.op; there = f.there; may = f.may; none = none }
        where
          none : (k : ℕ) (o : Op) → k < suc f.place → slice_get (op ∷ ops) k ≡ Some o → May ns (from + k) o ≡ false
          none zero o lt at =
              let same : op ≡ o = cc in
              let here : from + 0 ≡ from = omega arith in
              (λ i. May ns (here i) (sym same i)) ∙ fails
          none (suc k) o lt at = let here : from + suc k ≡ suc from + k = omega arith in ap (λ j. May ns j o) here ∙ f.none k o (omega arith) at

  both : (b c : Bool) → (not b && c) ≡ true → (b ≡ false) × (c ≡ true)
  both true c e = absurd cc
  both false c e = (refl, e)

  next_is : (ns : List ℕ) (n : ℕ) → next_from g.streams ns 0 g.ops ≡ Some n → IsNext g ns n
  next_is ns n e =
      let f = first_is ns 0 g.ops n e in
      let parts = both (is_taken ns n) (is_ready g.streams ns f.op) f.may in
      let place : n ≡ f.place = omega (arith, f.is) in
      record {
        op = f.op;
        there = ap (slice_get g.ops) place ∙ f.there;
        new = not_there ns n parts.0;
        fed = fed_if_ready ns f.op parts.1;
        first = λ m o lt at new fed. (
            let may : May ns m o ≡ true = λ i. not (is_new ns m new i) && ready_if_fed ns o fed i in
            let zero_more : 0 + m ≡ m = omega arith in
            let fails : May ns m o ≡ false = ap (λ k. May ns k o) (sym zero_more) ∙ f.none m o (omega (arith, place, lt)) at in
            let apart : true ≡ false = sym may ∙ fails in
            cc);
      }

  -- ---- what is taken one after another

  not_nil : {A : Type 0} (xs : List A) (m : A) (ys : List A) → [] ≡ xs ++ m ∷ ys → ⊥
  not_nil [] m ys e = cc
  not_nil (x ∷ xs) m ys e = cc

  split : (xs before behind : List ℕ) (n m : ℕ) → xs ++ n ∷ [] ≡ before ++ m ∷ behind → ((xs ≡ before) × (n ≡ m)) ⊎ ((rest : List ℕ) × (xs ≡ before ++ m ∷ rest))
  split [] [] behind n m e = inl (refl, cc)
  split [] (b ∷ before) behind n m e = let none : [] ≡ before ++ m ∷ behind = cc in absurd (not_nil before m behind none)
  split (x ∷ xs) [] behind n m e = let same : x ≡ m = cc in inr (xs, ap (λ y. y ∷ xs) same)
  split (x ∷ xs) (b ∷ before) behind n m e =
      let same : x ≡ b = cc in
      let others : xs ++ n ∷ [] ≡ before ++ m ∷ behind = cc in
      elim (split xs before behind n m others) [
        | inl h ↦ (let rest : xs ≡ before = h.0 in let end : n ≡ m = h.1 in inl (cc, end))
        | inr h ↦ (let rest : xs ≡ before ++ m ∷ h.0 = h.1 in inr (h.0, cc))
      ]

  abbrev IsEachNext : List ℕ → Type 0
  IsEachNext ns = (before after : List ℕ) (n : ℕ) → ns ≡ before ++ n ∷ after → IsNext g before n

  more_next : (ns : List ℕ) (n : ℕ) → IsEachNext ns → IsNext g ns n → IsEachNext (ns ++ n ∷ [])
  more_next ns n each next before after m e = elim (split ns before after n m e) [
    | inl s ↦ subst (IsNext g before) s.1 (subst (λ (ks : List ℕ). IsNext g ks n) s.0 next)
    | inr s ↦ each before s.0 m s.1
  ]

  each_next : (count : ℕ) (ns : List ℕ) → IsEachNext ns → IsEachNext (taken_on count g.streams g.ops ns)
  each_next zero ns each = each
  each_next (suc count) ns each =
      elim (next_from g.streams ns 0 g.ops)
      as (λ o. next_from g.streams ns 0 g.ops ≡ o → IsEachNext (option_map_or (λ n. taken_on count g.streams g.ops (ns ++ n ∷ [])) o ns)) [
        | None ↦ λ e. each
        | Some n ↦ λ e. each_next count (ns ++ n ∷ []) (more_next ns n each (next_is ns n e))
      ] refl

  taken_each_next : IsEachNext (taken g.streams g.ops)
  taken_each_next = each_next (length g.ops) [] (λ before after n e. absurd (not_nil before n after e))

  -- ---- no other list

  one_next : (ns : List ℕ) (m n : ℕ) → IsNext g ns m → IsNext g ns n → m ≡ n
  one_next ns m n a b = elim (cases_lt m n) [
    | inl lt ↦ absurd (b.first m a.op lt a.there a.new a.fed)
    | inr le ↦ elim (cases_lt n m) [ inl lt ↦ absurd (a.first n b.op lt b.there b.new b.fed) | inr ge ↦ omega arith ]
  ]

  -- two orders with the same front go on in the same way
  module _ (a b : List ℕ) (first : IsTheOrder g a) (second : IsTheOrder g b) where
    at_end : (front : List ℕ) (n : ℕ) (rest : List ℕ) (order other : List ℕ) → IsTheOrder g order → IsTheOrder g other → order ≡ front → other ≡ front ++ n ∷ rest → ⊥
    at_end front n rest order other is others e f =
        let next = others.next front rest n f in
        let there = (is.all n).1 (slice_get_within g.ops n next.op next.there) in
        next.new (subst (λ (ks : List ℕ). Contains ks n) e there)

    same_rest : (front xs ys : List ℕ) → a ≡ front ++ xs → b ≡ front ++ ys → xs ≡ ys
    same_rest front [] [] e f = refl
    same_rest front [] (y ∷ ys) e f = absurd (at_end front y ys a b first second (e ∙ nothing_more front) f)
      where
        nothing_more : (zs : List ℕ) → zs ++ [] ≡ zs
        nothing_more [] = refl
        nothing_more (z ∷ zs) = ap (λ ws. z ∷ ws) (nothing_more zs)
    same_rest front (x ∷ xs) [] e f = absurd (at_end front x xs b a second first (f ∙ nothing_more front) e)
      where
        nothing_more : (zs : List ℕ) → zs ++ [] ≡ zs
        nothing_more [] = refl
        nothing_more (z ∷ zs) = ap (λ ws. z ∷ ws) (nothing_more zs)
    same_rest front (x ∷ xs) (y ∷ ys) e f =
        let same : x ≡ y = one_next front x y (first.next front xs x e) (second.next front ys y f) in
        let rest = same_rest (front ++ x ∷ []) xs ys (e ∙ sym (append_assoc front (x ∷ []) xs))
        (f ∙ ap (λ z. front ++ z ∷ ys) (sym same) ∙ sym (append_assoc front (x ∷ []) ys)) in
        λ i. same i ∷ rest i

    one_order : a ≡ b
    one_order = same_rest [] a b refl refl

-- ---- the law

pub order_law : OrderLaw
order_law unit names g flat =
    let o = of_flat unit names g (Ok g) flat refl in
    let holds = topo_law unit names o.main g o.flat in
    let of_made : topo_of o.made ≡ g.topo = ap (λ (x : Graph). x.topo) (sym o.is) in
    let taken_is : taken g.streams g.ops ≡ g.topo = (λ i. taken (o.is i).streams (o.is i).ops) ∙ of_made in
    let is : IsTheOrder g g.topo = record { all = holds.all; next = subst (IsEachNext g) taken_is (taken_each_next g) } in
    (is, λ order other. one_order g order g.topo other is)
