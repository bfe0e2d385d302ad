-- The order of keys, and lists with an entry for each key.
use Rattle.std.proofs.Common.{◌≡◌, Bool, true, false, cond, ◌||◌, T, true≢false, List, [], ◌∷◌, Some, None, refl, sym, ap, ◌∙◌}
use Rattle.std.specs.declared.cmp.Ordering.{Ordering}
use Rattle.std.specs.declared.cmp.Ordering.TheVariants.{Less, Equal, Greater}
use Rattle.std.specs.Ordering.{is_eq}
use Rattle.std.specs.Cmp.{IsTotalOrder, IsEquivalence, tied_itself, eq_by_cmp_equiv}
use Rattle.std.specs.Cmp.Lexicographic.{lists_total}
use Rattle.std.specs.FinMap.{find, is_sorted, IsAntisymmetric, slice_cmp-IsAntisymmetric}
use Rattle.std.specs.FinMap.Entries.{is_sorted-put, find-put, same_entries}
use Rattle.std.specs.List.{list_any}
use Rattle.spl_value.specs.declared.value.Value.{Value}
use Rattle.spl_value.proofs.OrderLaws.{value_cmp_total, value_cmp-IsAntisymmetric}
use Rattle.spl_value.specs.KeyOrder.{key_cmp, same_key, each_key}

pub key_total : IsTotalOrder key_cmp
key_total = lists_total value_cmp_total

pub key_only : IsAntisymmetric key_cmp
key_only = slice_cmp-IsAntisymmetric value_cmp-IsAntisymmetric

-- the test of keys is an equivalence
pub key_laws : IsEquivalence same_key
key_laws = eq_by_cmp_equiv key_total

equal_order : (o : Ordering) → is_eq o ≡ true → o ≡ Equal
equal_order Less e = absurd (true≢false (sym e))
equal_order Equal e = refl
equal_order Greater e = absurd (true≢false (sym e))

pub same_key-equal : (k q : List Value) → same_key k q ≡ true → k ≡ q
same_key-equal k q e = key_only k q (equal_order (key_cmp k q) e)

pub same_key-itself : (k : List Value) → same_key k k ≡ true
same_key-itself k = ap is_eq (tied_itself key_total k)

-- ---- an entry for each key

pub each_key-sorted : {X : Type 0} (f : List Value → X) (ks : List (List Value)) → T (is_sorted key_cmp (each_key f ks))
each_key-sorted f [] = tt
each_key-sorted f (k ∷ ks) = is_sorted-put key_cmp key_total k (f k) (each_key f ks) (each_key-sorted f ks)

one_of : {A : Type 0} (a b : Bool) (x y : A) → (a ≡ true → x ≡ y) → cond a (Some x) (cond b (Some y) None) ≡ cond (a || b) (Some y) None
one_of true b x y e = ap Some (e refl)
one_of false b x y e = refl

pub find-each_key : {X : Type 0} (f : List Value → X) (q : List Value) (ks : List (List Value))
    → find key_cmp q (each_key f ks) ≡ cond (list_any (same_key q) ks) (Some (f q)) None
find-each_key f q [] = refl
find-each_key f q (k ∷ ks) =
    find-put key_cmp key_total q k (f k) (each_key f ks)
    ∙ ap (λ o. cond (same_key q k) (Some (f k)) o) (find-each_key f q ks)
    ∙ one_of (same_key q k) (list_any (same_key q) ks) (f k) (f q) (λ e. ap f (sym (same_key-equal q k e)))

-- entries that ascend, with f of each of the keys and nothing else
pub is_each_key : {X : Type 0} (f : List Value → X) (ks : List (List Value)) (es : List (List Value × X)) → T (is_sorted key_cmp es)
    → ((q : List Value) → find key_cmp q es ≡ cond (list_any (same_key q) ks) (Some (f q)) None) → es ≡ each_key f ks
is_each_key f ks es up found =
    same_entries key_cmp key_total key_only es (each_key f ks) up (each_key-sorted f ks) (λ q. found q ∙ sym (find-each_key f q ks))

pub true_from : (b : Bool) → T b → b ≡ true
true_from true h = refl
true_from false h = absurd h
