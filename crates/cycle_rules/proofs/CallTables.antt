-- A table of the places of names, a name more.
use Rattle.std.proofs.Common.{◌≡◌, ◌∙◌, ◌<◌, ◌+◌, length, arith, ℕ, zero, suc, Bool, true, false, List, [], ◌∷◌, drop, Option, Some, None, refl, ap, sym, map, cond}
use Rattle.std.specs.Prelude.{slice_get, filter_map, if◌then◌else◌}
use Rattle.std.specs.Option.{option_map}
use Rattle.std.specs.Str.{bytes_eq}
use Rattle.std.specs.Map.{update}
use Rattle.spl_tree.specs.declared.expression.Placed.{Placed}
use Rattle.language_model.specs.Scopes.{At, at_place, first_from}
use Rattle.language_model.specs.Recursion as D
use Rattle.language_model.specs.Recursion.{calls_among}
use Rattle.language_model.proofs.parts.Recursion.{call_among}
use Rattle.cycle_rules.specs.declared.recursion.Caller.{Caller}
use Rattle.cycle_rules.specs.steps.Named.{caller_seen, callers_seen, place_from, found_place}
use Rattle.spl_value.proofs.Lists.{next_rest}

map_if : {A B : Type 0} (f : A → B) (b : Bool) (x : A) (o : Option A) → option_map f (if b then Some x else o) ≡ cond b (Some (f x)) (option_map f o)
map_if f true x o = refl
map_if f false x o = refl

pub get_map : {A B : Type 0} (f : A → B) (xs : List A) (n : ℕ) (x : A) → slice_get xs n ≡ Some x → slice_get (map f xs) n ≡ Some (f x)
get_map f [] n x e = cc
get_map f (y ∷ ys) zero x e = let s : y ≡ x = cc in ap (λ z. Some (f z)) s
get_map f (y ∷ ys) (suc n) x e = get_map f ys n x e

pub get_back : {A B : Type 0} (f : A → B) (xs : List A) (n : ℕ) (y : B) → slice_get (map f xs) n ≡ Some y → n < length xs
get_back f [] n y e = cc
get_back f (x ∷ xs) zero y e = omega arith
get_back f (x ∷ xs) (suc n) y e = let h = get_back f xs n y e in omega arith

pub table_more : (get get' : List ℕ → Option ℕ) (callers : List Caller) (n : ℕ) (c : Caller) (name : List ℕ) → slice_get callers n ≡ Some c → name ≡ c.name.now
    → ((q : List ℕ) → get' q ≡ update bytes_eq get name (Some n) q)
    → ((q : List ℕ) → get q ≡ place_from (suc n) (callers_seen (drop (suc n) callers)) q)
    → (q : List ℕ) → get' q ≡ place_from n (callers_seen (drop n callers)) q
table_more get get' callers n c name e named put h q =
    put q ∙ ap (λ m. update bytes_eq get m (Some n) q) named ∙ ap (λ o. cond (bytes_eq c.name.now q) (Some n) o) (h q)
    ∙ sym (map_if (λ a. a.place) (bytes_eq c.name.now q) (at_place n (caller_seen c)) (first_from (λ d. bytes_eq d.name q) (suc n) (callers_seen (drop (suc n) callers))))
    ∙ ap (λ cs. place_from n (callers_seen cs) q) (sym (next_rest callers n c e))

option_map_twice : {A B C : Type 0} (f : A → B) (g : B → C) (o : Option A) → option_map g (option_map f o) ≡ option_map (λ x. g (f x)) o
option_map_twice f g None = refl
option_map_twice f g (Some x) = refl

-- the table of all callers gives the calls among them
pub calls_by_table : (table : List ℕ → Option ℕ) (all : List D.Caller) → ((q : List ℕ) → table q ≡ place_from 0 all q)
    → map (λ c. filter_map (found_place table) c.called) all ≡ calls_among all
calls_by_table table all h =
    let same : (n : Placed (List ℕ)) → found_place table n ≡ call_among all n =
    λ n. ap (option_map (λ p. record { at = n.at; what = p })) (h n.what) ∙ option_map_twice (λ c. c.place) (λ p. record { at = n.at; what = p }) (first_from (λ c. bytes_eq c.name n.what) 0 all) in
    λ i. map (λ c. filter_map (λ n. same n i) c.called) all
