-- The chains of every checked graph are sound: each stream has one maker, which stands before its readers, and a chain keeps its key with fewer
-- operators.
use Rattle.std.specs.Prelude.{◌≡◌, ◌<◌, ◌≤◌, ◌==◌, ◌&&◌, ◌+◌, not, ℕ, zero, suc, Bool, true, false, if◌then◌else◌, List, [], ◌∷◌, ◌++◌, length, Option, Some, slice_get}
use Rattle.std.specs.List.{concat, Contains}
use Rattle.std.specs.Option.{option_map_or, unwrap_or}
use Rattle.std.proofs.Common.{refl, sym, ap, ◌∙◌, subst, arith, append_assoc, get_or}
use Rattle.spl_value.proofs.Lists.{contains_here, get_below, get_within}
use Rattle.spl_tree.specs.declared.graph.OpKind.{OpKind}
use Rattle.spl_tree.specs.declared.graph.Stream.{Stream}
use Rattle.language_model.specs.declared.checked.CheckedClauses.{CheckedClauses}
use Rattle.language_model.specs.declared.scope.Scope.{Scope}
use Rattle.language_model.specs.CheckedGraph.{CheckedGraph}
use Rattle.language_model.specs.Keeping.{Keeps, PartFits}
use Rattle.language_model.specs.Keeping as K
use Rattle.language_model.specs.StreamTypes.{Attributes}
use Rattle.stream_model.specs.declared.plan.StateKind.TheVariants as S
use Rattle.stream_model.specs.CheckedMeaning.{graph_of}
use Rattle.stream_model.specs.Meaning.{Graph}
use Rattle.stream_model.specs.Operators.{Operator, connections}
use Rattle.stream_model.specs.Regions.{is_eligible, ops_of}
use Rattle.stream_model.proofs.parts.Regions.{readings}
use Rattle.stream_model.specs.StateKinds.{state_by}
use Rattle.stream_model.specs.parts.StateKinds.{has_mutable}
use Rattle.stream_model.specs.Windows.{flushes_at_markers}
use Rattle.stream_model.proofs.CheckedOperators.{checked_fits}
use Rattle.region_choice.specs.steps.GraphChains.{chains_of, has_key, is_pair}
use Rattle.region_choice.proofs.ChainPlans.{IsSound, one_if, times}
use Rattle.region_choice.proofs.Counts.{one_same, split, times_append}
use Rattle.region_choice.proofs.KeyLaws.{alone_safe, fewer_safe, ops_append}
use Rattle.region_choice.proofs.Links.{eligible_at, pair_of, same_reader}
use Rattle.stream_model.proofs.GraphParts.{same_topo, same_length, operator_at}

-- ---- makers

-- an operator with one output is the maker of its stream
pub made_by : (c : CheckedGraph) (g : Graph) → Keeps c → graph_of c ≡ g → (n s : ℕ) (o : Operator) → slice_get g.ops n ≡ Some o → o.outs ≡ s ∷ []
    → slice_get c.graph.streams s ≡ Some (record { maker = n; port = 0 })
made_by c g k e n s o at gives =
    let is = operator_at c g e n o at in
    let outs : is.op.outs ≡ s ∷ [] = sym (ap (λ (o : Operator). o.outs) is.same) ∙ gives in
    (k.graph.made s (record { maker = n; port = 0 })).1 (is.op, is.there, ap (λ ss. slice_get ss 0) outs)

maker_is : (c : CheckedGraph) (s m n : ℕ) → slice_get c.graph.streams s ≡ Some (record { maker = m; port = 0 }) → slice_get c.graph.streams s ≡ Some (record { maker = n; port = 0 }) → m ≡ n
maker_is c s m n first second =
    let both : Some (record { maker = m; port = 0 }) ≡ Some (record { maker = n; port = 0 }) = sym first ∙ second in
    ap (λ (found : Option Stream). option_map_or (λ (x : Stream). x.maker) found 0) both

-- ---- the order

pub times_contained : (n : ℕ) (ns : List ℕ) → Contains ns n → 1 ≤ times n ns
times_contained n ns h = by_place ns h.0 h.1 h.2 where
  by_place : (ns : List ℕ) (p : ℕ) → p < length ns → get_or ns p n ≡ n → 1 ≤ times n ns
  by_place [] p lt e = absurd (omega arith)
  by_place (m ∷ ns) zero lt e = let one = one_same n m e in omega arith
  by_place (m ∷ ns) (suc p) lt e = let rest = by_place ns p (omega arith) e in omega arith

pub contained_from : (n : ℕ) (front rest : List ℕ) → Contains (front ++ n ∷ rest) n
contained_from n [] rest = contains_here n rest
contained_from n (m ∷ front) rest = let h = contained_from n front rest in (suc h.0, (let lt = h.1 in omega arith), h.2)

topo_once : (c : CheckedGraph) → Keeps c → (x : ℕ) → times x c.graph.topo ≤ 1
topo_once c k x = by_number (times x c.graph.topo) refl where
  by_number : (n : ℕ) → times x c.graph.topo ≡ n → times x c.graph.topo ≤ 1
  by_number zero is = omega arith
  by_number (suc zero) is = omega arith
  by_number (suc (suc n)) is =
      let first = split x c.graph.topo (omega arith) in
      let parts = ap (times x) first.2 ∙ times_append x first.0 (x ∷ first.1) in
      let one = one_same x x refl in
      by_front first.0 first.1 first.2 parts one (times x first.0) refl
    where
      by_front : (front rest : List ℕ) → c.graph.topo ≡ front ++ x ∷ rest → times x c.graph.topo ≡ times x front + times x (x ∷ rest) → one_if (x == x) ≡ 1 → (m : ℕ) → times x front ≡ m
          → times x c.graph.topo ≤ 1
      by_front front rest whole parts one (suc m) has =
          let inner = split x front (omega arith) in
          absurd (k.graph.ordered.once front rest x whole (subst (λ ns. Contains ns x) (sym inner.2) (contained_from x inner.0 inner.1)))
      by_front front rest whole parts one zero has =
          let second = split x rest (omega arith) in
          let turned : c.graph.topo ≡ (front ++ x ∷ second.0) ++ x ∷ second.1 =
          whole ∙ ap (λ ns. front ++ x ∷ ns) second.2 ∙ sym (append_assoc front (x ∷ second.0) (x ∷ second.1)) in
          absurd (k.graph.ordered.once (front ++ x ∷ second.0) second.1 x turned (contained_from x front second.0))

-- ---- keys

key_within : (input : Attributes) (partition : List ℕ) → K.KeysFit input partition → 0 < length partition → (p : ℕ) × (slice_get partition 0 ≡ Some p) × (p < length input)
key_within input [] fit some = absurd (omega arith)
key_within input (p ∷ rest) fit some = let key = fit.keys 0 p refl in (p, refl, get_within input p key.0 key.1)

pub custom_not : (b : Bool) (places : List ℕ) → (if b then S.Whole else S.Stateless) ≡ S.Keyed places → ⊥
custom_not true places h = absurd cc
custom_not false places h = absurd cc

pub aggregate_keyed : (p q : Bool) (partition places : List ℕ) → (if p && q then S.Keyed partition else S.Whole) ≡ S.Keyed places → (p ≡ true) × (partition ≡ places)
aggregate_keyed true true partition places h = let same : partition ≡ places = cc in (refl, same)
aggregate_keyed true false partition places h = absurd cc
aggregate_keyed false q partition places h = absurd cc

-- a Keyed operator has a key among its attributes
first_key : (scope : Scope) (kind : OpKind) (ins outs : List Attributes) (part : CheckedClauses) (places : List ℕ) → PartFits scope kind ins outs part → state_by part ≡ S.Keyed places
    → (p : ℕ) × (slice_get places 0 ≡ Some p) × (p < length (unwrap_or (slice_get ins 0) []))
first_key scope _ _ _ _ places (K.file_source file strict schema a b) is = absurd cc
first_key scope _ _ _ _ places (K.file_sink file schema a b) is = absurd cc
first_key scope _ _ _ _ places (K.filter condition schema a) is = absurd cc
first_key scope _ _ _ _ places (K.functor condition fields input schema a b d) is = absurd cc
first_key scope _ _ _ _ places (K.punctor condition position schema a) is = absurd cc
first_key scope _ _ _ _ places (K.split index kind schema outs a b) is = absurd cc
first_key scope _ _ _ _ places (K.union ps ins schema a b) is = absurd cc
first_key scope _ _ _ _ places (K.custom handlers ins outs a) is = absurd (custom_not (has_mutable handlers) places is)
first_key scope _ _ _ _ places (K.aggregate window partition group output input schema a fit partitioned d e) is =
    let parts = aggregate_keyed window.partitioned (not (flushes_at_markers window.rule)) partition places is in
    subst (λ (ps : List ℕ). (p : ℕ) × (slice_get ps 0 ≡ Some p) × (p < length input)) parts.1 (key_within input partition fit (partitioned.0 parts.0))
first_key scope _ _ _ _ places (K.join left right condition fields first second schema a b d e f h i) is = absurd cc

-- ---- the whole

pub sound : (c : CheckedGraph) (g : Graph) → Keeps c → graph_of c ≡ g → IsSound (chains_of g)
sound c g k e = record {
  once = λ x. subst (λ ns. times x ns ≤ 1) (sym (same_topo c g e)) (topo_once c k x);
  ordered = ordered;
  one_maker = λ a b x first second.
      (let p = pair_of g a x first in
      let q = pair_of g b x second in
      let same_op : p.y ≡ q.y = (let both : Some p.y ≡ Some q.y = sym p.behind ∙ q.behind in cc) in
      let streams : p.link.stream ∷ [] ≡ q.link.stream ∷ [] = sym p.link.reads ∙ ap connections same_op ∙ q.link.reads in
      let same : p.link.stream ≡ q.link.stream = cc in
      maker_is c q.link.stream a b (subst (λ s. slice_get c.graph.streams s ≡ Some (record { maker = a; port = 0 })) same (made_by c g k e a p.link.stream p.x p.at p.link.gives))
      (made_by c g k e b q.link.stream q.x q.at q.link.gives));
  one_reader = λ a x y first second.
      (let p = pair_of g a x first in
      let q = pair_of g a y second in
      let same_op : p.x ≡ q.x = (let both : Some p.x ≡ Some q.x = sym p.at ∙ q.at in cc) in
      let streams : p.link.stream ∷ [] ≡ q.link.stream ∷ [] = sym p.link.gives ∙ ap (λ (o : Operator). o.outs) same_op ∙ q.link.gives in
      let same : q.link.stream ≡ p.link.stream = cc in
      let alone : readings g p.link.stream ≡ 1 = p.link.alone in
      same_reader p.link.stream g.ops x y p.y q.y (omega arith) p.behind q.behind p.link.reads (q.link.reads ∙ ap (λ s. s ∷ []) same));
  readers = λ a b link.
      (let p = pair_of g a b link in (
        ap (λ found. option_map_or is_eligible found false) p.behind ∙ p.link.second,
        times_contained b g.topo (subst (λ ns. Contains ns b) (sym (same_topo c g e))
            ((k.graph.ordered.all b).1 (let within = get_within g.ops b p.y p.behind in let same = same_length c g k e in omega arith))),
      ));
  alone = λ a h.
      (let p = eligible_at g a h in
      let fit = checked_fits c a p.op k (ap (λ (x : Graph). slice_get x.ops a) e ∙ p.there) in
      subst (λ ops. has_key ops ≡ true) (ap (λ found. option_map_or (λ op. op ∷ []) found []) (sym p.there))
      (alone_safe p.op (λ places is. first_key fit.scope fit.kind p.op.types.ins p.op.types.outs p.op.clauses places fit.clauses is)));
  fewer = λ a front rest h. fewer_safe (ops_of g (a ∷ front)) (ops_of g rest) (subst (λ ops. has_key ops ≡ true) (ops_append g (a ∷ front) rest) h);
} where
  ordered : (before after : List ℕ) (a b : ℕ) → g.topo ≡ before ++ b ∷ after → is_pair g a b ≡ true → 1 ≤ times a before
  ordered before after a b whole link =
      let p = pair_of g a b link in
      let is = operator_at c g e b p.y p.behind in
      let ins : concat is.op.ins ≡ p.link.stream ∷ [] = sym (ap connections is.same) ∙ p.link.reads in
      let made = k.graph.ordered.behind before after b is.op (sym (same_topo c g e) ∙ whole) is.there p.link.stream
      (subst (λ ns. Contains ns p.link.stream) (sym ins) (contains_here p.link.stream [])) in
      let both : Some made.0 ≡ Some (record { maker = a; port = 0 }) = sym made.1 ∙ made_by c g k e a p.link.stream p.x p.at p.link.gives in
      let maker : made.0.maker ≡ a = ap (λ (found : Option Stream). option_map_or (λ (x : Stream). x.maker) found 0) both in
      times_contained a before (subst (Contains before) maker made.2)

-- the order has numbers of operators alone
pub all_valid : (c : CheckedGraph) (g : Graph) → Keeps c → graph_of c ≡ g → (n : ℕ) → 1 ≤ times n g.topo → (o : Operator) × (slice_get g.ops n ≡ Some o)
all_valid c g k e n h =
    let at = split n g.topo h in
    let there = (k.graph.ordered.all n).0 (subst (λ ns. Contains ns n) (sym at.2 ∙ same_topo c g e) (contained_from n at.0 at.1)) in
    get_below g.ops n (let same = same_length c g k e in omega arith)
