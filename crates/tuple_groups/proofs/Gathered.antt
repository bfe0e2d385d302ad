-- Groups that are gathered tuple by tuple.
use Rattle.std.proofs.Common.{◌≡◌, ℕ, Bool, true, false, cond, T, List, [], ◌∷◌, ◌++◌, length, map, Option, Some, None, refl, sym, ap, subst, ◌∙◌, append-nil, length-append, arith}
use Rattle.std.specs.Borrow.{Bor}
use Rattle.std.specs.Global.{Vec}
use Rattle.std.specs.FinMap.{find, is_sorted, put}
use Rattle.std.specs.Option.{option_map}
use Rattle.spl_value.specs.declared.value.Value.{Value}
use Rattle.spl_value.specs.Key.{key_of}
use Rattle.stream_model.specs.Stream.{is_empty}
use Rattle.spl_value.specs.KeyOrder.{each_key, key_cmp, same_key}
use Rattle.stream_model.specs.Groups.{groups}
use Rattle.stream_model.specs.parts.Groups.{of_group}
use Rattle.stream_model.proofs.Groups.{group_law, member_law}
use Rattle.spl_value.proofs.KeyOrder.{find-each_key, is_each_key, same_key-equal}
use Rattle.key_maps.proofs.MapKeys.{key_turned}
use Rattle.tuple_groups.specs.Seen.{entry_of, seen}
use Rattle.key_maps.specs.MapKeys.{equal_key}
use Rattle.tuple_groups.specs.steps.Gathering.{At}
use Rattle.tuple_groups.proofs.Entries.{find-mapped, sorted-mapped}

abbrev Members : Type 0
Members = Vec (Bor (List Value))

-- ---- one tuple more

at_key : (places : List ℕ) (ts : List (List Value)) (t key k : List Value) (new : Members) (o : Option Members) (b : Bool) → same_key k key ≡ b
    → At (Some new) (of_group places ts key ++ t ∷ []) → At o (of_group places ts k) → At (cond b (Some new) o) (of_group places ts k ++ cond b (t ∷ []) [])
at_key places ts t key k new o true same at stood = let equal = same_key-equal k key same in subst (λ q. At (Some new) (of_group places ts q ++ t ∷ [])) (sym equal) at
at_key places ts t key k new o false same at stood = subst (At o) (sym (append-nil (of_group places ts k))) stood

-- each group is right after a tuple that goes into its own
pub gathered : (places : List ℕ) (ts : List (List Value)) (t key : List Value) → key ≡ key_of t places → (new : Members) → At (Some new) (of_group places ts key ++ t ∷ [])
    → (m n : List Value → Option Members) → ((q : List Value) → n q ≡ cond (equal_key key q) (Some new) (m q)) → ((q : List Value) → At (m q) (of_group places ts q))
    → (k : List Value) → At (n k) (of_group places (ts ++ t ∷ []) k)
gathered places ts t key is new at m n updates stood k =
    let grown : of_group places (ts ++ t ∷ []) k ≡ of_group places ts k ++ cond (same_key k key) (t ∷ []) [] =
    member_law places ts [] t k ∙ ap (λ q. of_group places ts k ++ cond (same_key k q) (t ∷ []) []) (sym is) in
    let changed : n k ≡ cond (same_key k key) (Some new) (m k) = updates k ∙ ap (λ b. cond b (Some new) (m k)) (key_turned key k) in
    subst (λ us. At (n k) us) (sym grown)
    (subst (λ o. At o (of_group places ts k ++ cond (same_key k key) (t ∷ []) [])) (sym changed) (at_key places ts t key k new (m k) (same_key k key) refl at (stood k)))

pub more_members : (ts : List (List Value)) (t : List Value) (o : Option Members) (old new : Members) → o ≡ Some old → At o ts → seen new.items ≡ seen old.items ++ t ∷ []
    → At (Some new) (ts ++ t ∷ [])
more_members ts t o old new is at added =
    let was = subst (λ p. At p ts) is at in
    (added ∙ ap (λ us. us ++ t ∷ []) was.0, omega (arith, length-append ts (t ∷ [])))

pub first_member : (ts : List (List Value)) (t : List Value) (o : Option Members) (new : Members) → o ≡ None → At o ts → seen new.items ≡ t ∷ [] → At (Some new) (ts ++ t ∷ [])
first_member ts t o new is at only =
    let none = subst (λ p. At p ts) is at in
    subst (λ us. At (Some new) (us ++ t ∷ [])) (sym none) (only, omega arith)

-- ---- the groups

found_at : (o : Option Members) (ts : List (List Value)) → At o ts → option_map (λ (v : Members). seen v.items) o ≡ cond (is_empty ts) None (Some ts)
found_at None ts at = ap (λ (us : List (List Value)). cond (is_empty us) None (Some us)) (sym at)
found_at (Some v) [] at = absurd (omega (arith, at.1))
found_at (Some v) (t ∷ ts) at = ap Some at.0

pub are_groups : (places : List ℕ) (ts : List (List Value)) (es : List (List Value × Members)) (m : List Value → Option Members) → T (is_sorted key_cmp es)
    → ((q : List Value) → find key_cmp q es ≡ m q) → ((q : List Value) → At (m q) (of_group places ts q)) → map entry_of es ≡ groups places ts
are_groups places ts es m up found stood =
    is_each_key (of_group places ts) (map (λ t. key_of t places) ts) (map entry_of es) (subst T (sym (sorted-mapped (λ (v : Members). seen v.items) es)) up)
    (λ q. find-mapped (λ (v : Members). seen v.items) q es ∙ ap (option_map (λ (v : Members). seen v.items)) (found q) ∙ found_at (m q) (of_group places ts q) (stood q)
    ∙ sym (group_law places ts q) ∙ find-each_key (of_group places ts) q (map (λ t. key_of t places) ts))

-- ---- without places

one_key : {X : Type 0} (f : List Value → X) (us : List (List Value)) → each_key f ([] ∷ map (λ t. key_of t []) us) ≡ ([], f []) ∷ []
one_key f [] = refl
one_key f (u ∷ us) = ap (put key_cmp [] (f [])) (one_key f us)

all_of_them : (us : List (List Value)) → of_group [] us [] ≡ us
all_of_them [] = refl
all_of_them (u ∷ us) = ap (λ ts. u ∷ ts) (all_of_them us)

-- all tuples, where there are some, are one group
pub one_group : (us : List (List Value)) → (length us ≡ 0 → ⊥) → groups [] us ≡ ([], us) ∷ []
one_group [] some = absurd (some refl)
one_group (u ∷ us) some = one_key (of_group [] (u ∷ us)) us ∙ ap (λ ts. ([], ts) ∷ []) (all_of_them (u ∷ us))
