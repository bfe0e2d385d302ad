-- The groups of tuples.
use Rattle.std.proofs.Common.{◌≡◌, ℕ, Bool, true, false, cond, ◌||◌, List, [], ◌∷◌, ◌++◌, map, Some, None, refl, ap, ◌∙◌}
use Rattle.std.specs.FinMap.{is_sorted}
use Rattle.std.specs.List.{filter, list_any, cons_option, AllByRecursion}
use Rattle.spl_value.specs.declared.value.Value.{Value}
use Rattle.spl_value.specs.Key.{key_of}
use Rattle.stream_model.specs.Stream.{is_empty}
use Rattle.spl_value.specs.KeyOrder.{key_cmp, same_key, each_key}
use Rattle.stream_model.specs.Groups.{groups}
use Rattle.stream_model.specs.parts.Groups.{of_group}
use Rattle.stream_model.specs.GroupLaws.{AscendingLaw, GroupLaw, MemberLaw, MappedGroupsLaw, KeyBehindLaw}
use Rattle.stream_model.proofs.MappedWindows.{map_each_key, get_behind, tuples_if}
use Rattle.spl_value.proofs.KeyOrder.{each_key-sorted, find-each_key, true_from}

pub ascending_law : AscendingLaw
ascending_law places ts =
    true_from (is_sorted key_cmp (groups places ts)) (each_key-sorted (of_group places ts) (map (λ t. key_of t places) ts))

-- a key is that of a tuple exactly where its group has one
some_with : {X : Type 0} (places : List ℕ) (ts : List (List Value)) (k : List Value) (x : X)
    → cond (list_any (same_key k) (map (λ t. key_of t places) ts)) (Some x) None ≡ cond (is_empty (of_group places ts k)) None (Some x)
some_with places [] k x = refl
some_with {X = X} places (t ∷ ts) k x = go (same_key k (key_of t places)) (some_with places ts k x)
  where
    go : (b : Bool) → cond (list_any (same_key k) (map (λ u. key_of u places) ts)) (Some x) None ≡ cond (is_empty (of_group places ts k)) None (Some x)
        → cond (b || list_any (same_key k) (map (λ u. key_of u places) ts)) (Some x) None
        ≡ cond (is_empty (cond b (t ∷ of_group places ts k) (of_group places ts k))) None (Some x)
    go true e = refl
    go false e = e

pub group_law : GroupLaw
group_law places ts k =
    find-each_key (of_group places ts) k (map (λ t. key_of t places) ts) ∙ some_with places ts k (of_group places ts k)

filter_around : {X : Type 0} (p : X → Bool) (before after : List X) (t : X) → filter p (before ++ t ∷ after) ≡ filter p before ++ cond (p t) (t ∷ filter p after) (filter p after)
filter_around p [] after t = refl
filter_around p (x ∷ before) after t = go (p x) (filter_around p before after t)
  where
    go : (b : Bool) → filter p (before ++ t ∷ after) ≡ filter p before ++ cond (p t) (t ∷ filter p after) (filter p after)
        → cond b (x ∷ filter p (before ++ t ∷ after)) (filter p (before ++ t ∷ after))
        ≡ cond b (x ∷ filter p before) (filter p before) ++ cond (p t) (t ∷ filter p after) (filter p after)
    go true e = ap (λ zs. x ∷ zs) e
    go false e = e

pub member_law : MemberLaw
member_law places before after t k = filter_around (λ u. same_key k (key_of u places)) before after t

-- ---- mapped tuples

map_group : (places : List ℕ) (f : List Value → List Value) (ts : List (List Value)) (k : List Value) → AllByRecursion (λ t. key_of (f t) places ≡ key_of t places) ts
    → of_group places (map f ts) k ≡ map f (of_group places ts k)
map_group places f [] k all = refl
map_group places f (t ∷ ts) k all =
    ap (λ q. cond (same_key k q) (f t ∷ of_group places (map f ts) k) (of_group places (map f ts) k)) all.0
    ∙ tuples_if (same_key k (key_of t places)) f t (of_group places ts k) (of_group places (map f ts) k) (map_group places f ts k all.1)

map_keys : (places : List ℕ) (f : List Value → List Value) (ts : List (List Value)) → AllByRecursion (λ t. key_of (f t) places ≡ key_of t places) ts
    → map (λ t. key_of t places) (map f ts) ≡ map (λ t. key_of t places) ts
map_keys places f [] all = refl
map_keys places f (t ∷ ts) all = λ i. all.0 i ∷ map_keys places f ts all.1 i

pub mapped_groups_law : MappedGroupsLaw
mapped_groups_law places f ts all =
    ap (λ ks. each_key (of_group places (map f ts)) ks) (map_keys places f ts all)
    ∙ map_each_key f (of_group places (map f ts)) (of_group places ts) (λ k. map_group places f ts k all) (map (λ t. key_of t places) ts)

pub key_behind_law : KeyBehindLaw
key_behind_law [] t more all = refl
key_behind_law (p ∷ places) t more all = λ i. cons_option (get_behind t more p all.0 i) (key_behind_law places t more all.1 i)
