-- The bytes of a key, one value more.
use Rattle.std.specs.Prelude.{◌≡◌, ℕ, ◌+◌, ◌<◌, ◌++◌, ◌==◌, ◌||◌, true, false, Bool, List, [], ◌∷◌, length, map, filter, fold, slice_get}
use Rattle.std.specs.List.{enumerate_from, list_all}
use Rattle.std.proofs.Common.{refl, sym, ap, ◌∙◌, take, get_or, cond, subst, arith}
use Rattle.std.proofs.lemmas.Bool.{eqb-true}
use Rattle.std.proofs.lemmas.List.{append-nil, length-take-le, map-append}
use Rattle.std.proofs.lemmas.List.Elements.{filter-append}
use Rattle.std.proofs.lemmas.List.Sums.{fold-append}
use Rattle.std.proofs.lemmas.Grind.{flat_map-append}
use Rattle.std.proofs.lemmas.Option.{slice_get_read, get_or_from_slice_get}
use Rattle.spl_value.specs.declared.value.Value.{Value}
use Rattle.spl_value.proofs.Bools.{and_left as first, and_right as second}
use Rattle.spl_value.proofs.Lists.{take_at, get_below}
use Rattle.spl_value.specs.Key.{fnv_step, fnv, is_key_value, is_key_option, are_key_places, has_place, values_of_key, enc_value, enc_values, enc}

-- what holds at the key's places holds at one of them
at_place : (f : ℕ → Bool) (key : List ℕ) (p : ℕ) → list_all f key ≡ true → has_place key p ≡ true → f p ≡ true
at_place f [] p h g = absurd cc
at_place f (q ∷ key) p h g = go (q == p) refl g (at_place f key p (second (f q) (list_all f key) h)) where
  go : (b : Bool) → (q == p) ≡ b → (b || has_place key p) ≡ true → (has_place key p ≡ true → f p ≡ true) → f p ≡ true
  go true is g rest = subst (λ z. f z ≡ true) (eqb-true q p is) (first (f q) (list_all f key) h)
  go false is g rest = rest g

pub place_holds : (tuple : List Value) (key : List ℕ) (i : ℕ) (v : Value) → are_key_places tuple key ≡ true → has_place key i ≡ true
    → i < length tuple → v ≡ get_or tuple i v → is_key_value v ≡ true
place_holds tuple key i v h has within is =
    ap is_key_option (sym (slice_get_read tuple (length tuple) i v refl within is))
    ∙ at_place (λ p. is_key_option (slice_get tuple p)) key i h has

enumerate-append : (n : ℕ) (xs : List Value) (v : Value) → enumerate_from n (xs ++ v ∷ []) ≡ enumerate_from n xs ++ (n + length xs, v) ∷ []
enumerate-append n [] v = ap (λ m. (m, v) ∷ []) (omega arith)
enumerate-append n (x ∷ xs) v = ap (λ l. (n, x) ∷ l) (enumerate-append (n + 1) xs v ∙ ap (λ m. enumerate_from (n + 1) xs ++ (m, v) ∷ []) (omega arith))

-- the bytes of one more value, where the key has its place
abbrev pub bytes_at : Bool → Value → List ℕ
bytes_at true v = enc_value v
bytes_at false v = []

chosen_more : (tuple : List Value) (key : List ℕ) (v : Value) → values_of_key (tuple ++ v ∷ []) key ≡ values_of_key tuple key ++ cond (has_place key (length tuple)) (v ∷ []) []
chosen_more tuple key v =
    ap (λ l. map (λ (at : ℕ × Value). at.1) (filter (λ (at : ℕ × Value). has_place key at.0) l)) (enumerate-append 0 tuple v)
    ∙ ap (map (λ (at : ℕ × Value). at.1)) (filter-append (λ (at : ℕ × Value). has_place key at.0) (enumerate_from 0 tuple) ((0 + length tuple, v) ∷ []))
    ∙ map-append (λ (at : ℕ × Value). at.1) (filter (λ at. has_place key at.0) (enumerate_from 0 tuple)) (filter (λ at. has_place key at.0) ((0 + length tuple, v) ∷ []))
    ∙ ap (λ l. values_of_key tuple key ++ l) (ap (λ n. map (λ (at : ℕ × Value). at.1) (filter (λ (at : ℕ × Value). has_place key at.0) ((n, v) ∷ []))) (omega arith) ∙ pick (has_place key (length tuple))) where
      pick : (b : Bool) → map (λ (at : ℕ × Value). at.1) (cond b ((length tuple, v) ∷ []) []) ≡ cond b (v ∷ []) []
      pick true = refl
      pick false = refl

enc_more : (tuple : List Value) (key : List ℕ) (v : Value) → enc (tuple ++ v ∷ []) key ≡ enc tuple key ++ bytes_at (has_place key (length tuple)) v
enc_more tuple key v =
    ap enc_values (chosen_more tuple key v)
    ∙ flat_map-append enc_value (values_of_key tuple key) (cond (has_place key (length tuple)) (v ∷ []) [])
    ∙ ap (λ l. enc tuple key ++ l) (pick (has_place key (length tuple))) where
      pick : (b : Bool) → enc_values (cond b (v ∷ []) []) ≡ bytes_at b v
      pick true = append-nil (enc_value v)
      pick false = refl

pub hash_more : (tuple : List Value) (key : List ℕ) (i s r : ℕ) (v : Value) → i < length tuple → v ≡ get_or tuple i v
    → s ≡ fnv (enc (take i tuple) key) → r ≡ fold fnv_step s (bytes_at (has_place key i) v) → r ≡ fnv (enc (take (i + 1) tuple) key)
hash_more tuple key i s r v within is before after =
    after ∙ ap (λ z. fold fnv_step z (bytes_at (has_place key i) v)) before
    ∙ sym (fold-append fnv_step 14695981039346656037 (enc (take i tuple) key) (bytes_at (has_place key i) v))
    ∙ ap (λ n. fnv (enc (take i tuple) key ++ bytes_at (has_place key n) v)) (sym (length-take-le i tuple (omega arith)))
    ∙ ap fnv (sym (enc_more (take i tuple) key v))
    ∙ ap (λ l. fnv (enc l key)) (sym (take_at tuple i v within is))

-- where the key has the place
pub hash_chosen : (tuple : List Value) (key : List ℕ) (i s r : ℕ) (v : Value) → has_place key i ≡ true → i < length tuple → v ≡ get_or tuple i v
    → s ≡ fnv (enc (take i tuple) key) → r ≡ fold fnv_step s (enc_value v) → r ≡ fnv (enc (take (i + 1) tuple) key)
hash_chosen tuple key i s r v has within is before after =
    hash_more tuple key i s r v within is before (after ∙ ap (λ b. fold fnv_step s (bytes_at b v)) (sym has))

-- and where it doesn't
pub hash_passed : (tuple : List Value) (key : List ℕ) (i s : ℕ) → has_place key i ≡ false → i < length tuple
    → s ≡ fnv (enc (take i tuple) key) → s ≡ fnv (enc (take (i + 1) tuple) key)
hash_passed tuple key i s hasnt within before =
    let here = get_below tuple i within in
    hash_more tuple key i s s here.0 within (sym (get_or_from_slice_get tuple i here.0 here.0 here.1)) before (ap (λ b. fold fnv_step s (bytes_at b here.0)) (sym hasnt))
