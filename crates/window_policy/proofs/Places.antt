-- Where a key stands in a map.
use Rattle.std.proofs.Common.{◌≡◌, ℕ, Bool, true, false, cond, List, [], ◌∷◌, ◌++◌, length, slice_get, position, Option, None, Some, is_some, true≢false, refl, sym, ap, subst, ◌∙◌}
use Rattle.std.proofs.lemmas.Option.{slice_get-map}
use Rattle.std.specs.Cmp.{IsEquivalence}
use Rattle.std.specs.Map.{lookup_key, values_of}
use Rattle.std.specs.Option.{option_map}
use Rattle.indexmap.specs.IndexMap.{IndexMap, IsUnique, get, keys, values, with_value_at}
use Rattle.indexmap.proofs.CallerLemmas.{keys-with_value_at, updates-with_value_at}
use Rattle.indexmap.proofs.MapLemmas.{Found-position}
use Rattle.spl_value.specs.declared.value.Value.{Value}
use Rattle.spl_value.proofs.KeyOrder.{key_laws, same_key-equal}
use Rattle.key_maps.specs.MapKeys.{equal_key}
use Rattle.key_maps.proofs.MapKeys.{key_tie}

key_equivalence : IsEquivalence equal_key
key_equivalence = subst IsEquivalence (λ i k q. sym (key_tie k q) i) key_laws

same : (k q : List Value) → equal_key k q ≡ true → k ≡ q
same k q e = same_key-equal k q (sym (key_tie k q) ∙ e)

-- what is kept at a place
pub values_at : {P : Type 0} (es : List (List Value × P)) (i : ℕ) (o : Option (List Value × P)) → slice_get es i ≡ o
    → slice_get (values_of es) i ≡ option_map (λ (e : List Value × P). e.1) o
values_at {P = P} es i o is = slice_get-map (λ (e : List Value × P). e.1) es i ∙ ap (option_map (λ (e : List Value × P). e.1)) is

-- ---- a new key, which goes last

pub nothing : {P : Type 0} (o : Option P) → false ≡ is_some o → o ≡ None
nothing None none = refl
nothing (Some part) none = absurd (true≢false (sym none))

pushed : {P : Type 0} (es : List (List Value × P)) (key : List Value) (part : P) → slice_get (values_of (es ++ (key, part) ∷ [])) (length es) ≡ Some part
pushed [] key part = refl
pushed (e ∷ es) key part = pushed es key part

module _ {P S : Type 0} (m n : IndexMap (List Value) P S) (key : List Value) (part : P) where
  pub place_of_new : n.entries ≡ m.entries ++ (key, part) ∷ [] → get equal_key n key ≡ Some part → slice_get (values n) (length m.entries) ≡ get equal_key n key
  place_of_new last there = ap (λ es. slice_get (values_of es) (length m.entries)) last ∙ pushed m.entries key part ∙ sym there

-- ---- a key that is there

found_passes : {P : Type 0} (t : List Value → Bool) (es : List (List Value × P)) (k : List Value) → lookup_key t es ≡ Some k → t k ≡ true
found_passes t [] k e = absurd cc
found_passes t (x ∷ es) k e = by (t x.0) refl e (found_passes t es k)
  where
    by : (b : Bool) → t x.0 ≡ b → cond b (Some x.0) (lookup_key t es) ≡ Some k → (lookup_key t es ≡ Some k → t k ≡ true) → t k ≡ true
    by true is e rest = let here : x.0 ≡ k = cc in ap t (sym here) ∙ is
    by false is e rest = rest e

module _ {P S : Type 0} (m : IndexMap (List Value) P S) (key : List Value) (i : ℕ) (index : position (equal_key key) (keys m) ≡ Some i) where
  -- a write by the place leaves it the key's
  pub place_stays : (part : P) → slice_get (values (with_value_at m i part)) i ≡ get equal_key (with_value_at m i part) key
  place_stays part =
      sym (Found-position (equal_key key) (with_value_at m i part).entries i (ap (position (equal_key key)) (keys-with_value_at m i part) ∙ index)).value

  module _ (k : List Value) (old : P) (at : slice_get m.entries i ≡ Some (k, old)) where
    is_key : key ≡ k
    is_key =
        same key k
        (found_passes (equal_key key) m.entries k
        ((Found-position (equal_key key) m.entries i index).key ∙ slice_get-map (λ (e : List Value × P). e.0) m.entries i ∙ ap (option_map (λ (e : List Value × P). e.0)) at))

    -- what is kept of the key stands there
    pub kept_there : get equal_key m key ≡ Some old
    kept_there =
        (Found-position (equal_key key) m.entries i index).value ∙ values_at m.entries i (Some (k, old)) at

    -- a write there changes what is kept of the key alone
    pub updates_there : IsUnique equal_key m → (part : P) (q : List Value)
        → get equal_key (with_value_at m i part) q ≡ cond (equal_key key q) (Some part) (get equal_key m q)
    updates_there unique part q =
        (updates-with_value_at m i part key_equivalence unique k old at).0 q ∙ ap (λ x. cond (equal_key x q) (Some part) (get equal_key m q)) (sym is_key)
