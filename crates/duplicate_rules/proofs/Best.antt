-- The best of several rows is found by going through them one after the other.
use Rattle.std.specs.Prelude.{◌≡◌, ◌<◌, ◌≤◌, Bool, true, false, List, [], ◌∷◌, ◌++◌, flat_map, if◌then◌else◌, nat_lt, Option, Some, None}
use Rattle.std.specs.Option.{option_map_or}
use Rattle.std.proofs.Common.{refl, sym, ap, ◌∙◌, arith, lt-ltb, le-ltb, ltb-true, ltb-false}
use Rattle.std.proofs.lemmas.Grind.{flat_map-append}
use Rattle.language_model.specs.Declarations.{Name, Sets, repeated_names, first_in_text}
use Rattle.duplicate_rules.specs.steps.Earliest.{earlier, earliest, earliest_in}

pub earliest-append : (best : Option Name) (xs ys : List Name) → earliest best (xs ++ ys) ≡ earliest (earliest best xs) ys
earliest-append best [] ys = refl
earliest-append best (x ∷ xs) ys = earliest-append (Some (earlier best x)) xs ys

pub earliest_in-append : (best : Option Name) (xs ys : Sets) → earliest_in best (xs ++ ys) ≡ earliest_in (earliest_in best xs) ys
earliest_in-append best xs ys =
    ap (earliest best) (flat_map-append repeated_names xs ys) ∙ earliest-append best (flat_map repeated_names xs) (flat_map repeated_names ys)

pub earliest_in-cons : (best : Option Name) (names : List Name) (sets : Sets) → earliest_in best (names ∷ sets) ≡ earliest_in (earliest best (repeated_names names)) sets
earliest_in-cons best names sets = earliest-append best (repeated_names names) (flat_map repeated_names sets)

pub ruleset best_laws = (earliest_in-append, earliest_in-cons)

-- ---- with nothing before, it is the first in the text

abbrev over : Name → Option Name → Name
over n o = option_map_or (λ m. if nat_lt m.at n.at then m else n) o n

of_three : (m n k : Name) (a b : Bool) → nat_lt n.at m.at ≡ a → nat_lt k.at n.at ≡ b
    → over (if a then n else m) (Some k) ≡ over m (Some (if b then k else n))
of_three m n k true true p q =
    let h : n.at < m.at = ltb-true n.at m.at p in let g : k.at < n.at = ltb-true k.at n.at q in
    ap (λ t. if t then k else n) q ∙ sym (ap (λ t. if t then k else m) (lt-ltb k.at m.at (omega arith)))
of_three m n k true false p q = ap (λ t. if t then k else n) q ∙ sym (ap (λ t. if t then n else m) p)
of_three m n k false true p q = refl
of_three m n k false false p q =
    let h : m.at ≤ n.at = ltb-false n.at m.at p in let g : n.at ≤ k.at = ltb-false k.at n.at q in
    ap (λ t. if t then k else m) (le-ltb k.at m.at (omega arith)) ∙ sym (ap (λ t. if t then n else m) p)

over_both : (m n : Name) (o : Option Name) → over (if nat_lt n.at m.at then n else m) o ≡ over m (Some (over n o))
over_both m n None = refl
over_both m n (Some k) = of_three m n k (nat_lt n.at m.at) (nat_lt k.at n.at) refl refl

earliest_over : (m : Name) (ns : List Name) → earliest (Some m) ns ≡ Some (over m (first_in_text ns))
earliest_over m [] = refl
earliest_over m (n ∷ ns) = earliest_over (earlier (Some m) n) ns ∙ ap Some (over_both m n (first_in_text ns))

pub earliest_is_first : (ns : List Name) → earliest None ns ≡ first_in_text ns
earliest_is_first [] = refl
earliest_is_first (n ∷ ns) = earliest_over n ns
