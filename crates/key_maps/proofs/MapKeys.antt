-- Keys as maps compare them, and the entries of a map that is sorted by them.
use Rattle.std.proofs.Common.{◌+◌, ◌≡◌, Bool, true, false, cond, ◌&&◌, T, true≢false, List, [], ◌∷◌, get_or, Some, refl, sym, ap, subst, ◌∙◌, arith}
use Rattle.std.specs.declared.cmp.Ordering.{Ordering}
use Rattle.std.specs.declared.cmp.Ordering.TheVariants.{Less, Equal, Greater}
use Rattle.std.specs.Ordering.{is_lt, is_eq, eq_by_cmp, ordering_reverse}
use Rattle.std.specs.Cmp.Lexicographic.{slice_cmp, lists_ties}
use Rattle.std.specs.FinMap.{find, is_sorted}
use Rattle.std.specs.FinMap.Entries.{below_all}
use Rattle.std.specs.List.{AllByRecursion, IsDistinct}
use Rattle.std.specs.List.Sorted.{IsSorted, IsStrictlySortedBy}
use Rattle.std.specs.Map.{keys_of, lookup}
use Rattle.std.proofs.lemmas.Map.Keys.{sorted_head, sorted_tail, apart_from_distinct, sorted_from_all_adjacent}
use Rattle.spl_value.specs.declared.value.Value.{Value}
use Rattle.spl_value.specs.contracts.value.ValuePartialEq.TheImpl as DerivedEq
use Rattle.spl_value.specs.contracts.value.ValueOrd.TheImpl as DerivedOrd
use Rattle.spl_value.specs.contracts.value.ValueOrd.TheImpl.Laws as DerivedLaws
use Rattle.spl_value.specs.Order.{value_cmp}
use Rattle.spl_value.proofs.OrderLaws.{derived_cmp}
use Rattle.spl_value.specs.KeyOrder.{same_key, key_cmp}
use Rattle.spl_value.proofs.KeyOrder.{key_total, key_laws}
use Rattle.key_maps.specs.MapKeys.{equal_key}

value_tie : (v w : Value) → (DerivedEq.ghosts).eq v w ≡ eq_by_cmp value_cmp v w
value_tie v w = DerivedLaws.matches_eq-law v w ∙ ap is_eq (derived_cmp v w)

-- the map's comparison is that of the definition
pub key_tie : (k q : List Value) → equal_key k q ≡ same_key k q
key_tie = lists_ties value_cmp value_tie

pub key_turned : (k q : List Value) → equal_key k q ≡ same_key q k
key_turned k q = key_tie k q ∙ key_laws.symm k q

-- the order by which a map is sorted
pub derived_key_cmp : slice_cmp (DerivedOrd.ghosts).cmp ≡ key_cmp
derived_key_cmp = ap (λ (R : Value → Value → Ordering). slice_cmp R) (λ i v w. derived_cmp v w i)

-- ---- a sorted map

pub find-lookup : {X : Type 0} (q : List Value) (es : List (List Value × X)) → find key_cmp q es ≡ lookup (equal_key q) es
find-lookup q [] = refl
find-lookup q (e ∷ es) = λ i. cond (sym (key_tie q e.0) i) (Some e.1) (find-lookup q es i)

less_left : (o : Ordering) → is_lt (ordering_reverse o) ≡ false → is_eq o ≡ false → o ≡ Less
less_left Less a b = refl
less_left Equal a b = absurd (true≢false b)
less_left Greater a b = absurd (true≢false a)

strict_keys : (ks : List (List Value)) → IsSorted key_cmp ks → IsDistinct equal_key ks → IsStrictlySortedBy key_cmp ks
strict_keys ks up apart = sorted_from_all_adjacent key_total ks []
    (λ k within. less_left _
    (ap is_lt (sym (key_total.antisymm (get_or ks (k + 1) []) (get_or ks k []))) ∙ up k [] (omega arith) within)
    (sym (key_tie (get_or ks k []) (get_or ks (k + 1) [])) ∙ apart_from_distinct equal_key ks k (k + 1) [] apart (omega arith) within))

both_T : (a b : Bool) → T a → T b → T (a && b)
both_T true b p q = q
both_T false b p q = p

below_sorted : {X : Type 0} (k : List Value) (es : List (List Value × X)) → AllByRecursion (λ y. key_cmp k y ≡ Less) (keys_of es) → T (below_all key_cmp k es)
below_sorted k [] h = tt
below_sorted k (e ∷ es) h = both_T (is_lt (key_cmp k e.0)) (below_all key_cmp k es) (subst (λ o. T (is_lt o)) (sym h.0) tt) (below_sorted k es h.1)

ascends : {X : Type 0} (es : List (List Value × X)) → IsStrictlySortedBy key_cmp (keys_of es) → T (is_sorted key_cmp es)
ascends [] h = tt
ascends (e ∷ es) h = both_T (below_all key_cmp e.0 es) (is_sorted key_cmp es)
    (below_sorted e.0 es (sorted_head key_cmp e.0 (keys_of es) h)) (ascends es (sorted_tail key_cmp e.0 (keys_of es) h))

pub sorted_entries : {X : Type 0} (es : List (List Value × X)) → IsSorted key_cmp (keys_of es) → IsDistinct equal_key (keys_of es) → T (is_sorted key_cmp es)
sorted_entries es up apart = ascends es (strict_keys (keys_of es) up apart)
