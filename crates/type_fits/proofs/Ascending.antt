-- Keys that rise, seen pair by pair.
use Rattle.std.proofs.Common.{Bool, true, false, ◌&&◌, List, [], ◌∷◌, ◌≡◌, Option, None, Some, refl, sym, ap, ◌∙◌}
use Rattle.spl_value.proofs.Bools.{and_parts}
use Rattle.std.specs.declared.cmp.Ordering.{Ordering}
use Rattle.std.specs.declared.cmp.Ordering.TheVariants.{Less, Equal, Greater}
use Rattle.std.specs.Ordering.{is_lt}
use Rattle.std.specs.FinMap.Entries.{below_all, is_sorted}
use Rattle.spl_value.specs.declared.value.Value.{Value}
use Rattle.spl_value.specs.Order.{value_cmp}
use Rattle.spl_value.specs.Pairs.{are_pairs}
use Rattle.spl_value.proofs.OrderLaws.{value_cmp_total}

-- each key is above the one before it
abbrev pub rise_from : Option Value → List (Value × Value) → Bool
rise_from before [] = true
rise_from None (p ∷ ps) = rise_from (Some p.0) ps
rise_from (Some k) (p ∷ ps) = is_lt (value_cmp k p.0) && rise_from (Some p.0) ps

less : (o : Ordering) → is_lt o ≡ true → o ≡ Less
less Less e = refl
less Equal e = let clash : false ≡ true = e in cc
less Greater e = let clash : false ≡ true = e in cc

below_less : (x y : Value) (es : List (Value × Value)) → value_cmp x y ≡ Less → below_all value_cmp y es ≡ true → below_all value_cmp x es ≡ true
below_less x y [] p h = refl
below_less x y (e ∷ es) p h =
    let both = and_parts (is_lt (value_cmp y e.0)) (below_all value_cmp y es) h in
    ap (λ r. is_lt r && below_all value_cmp x es) (value_cmp_total.trans x y e.0 p (less (value_cmp y e.0) both.0)) ∙ below_less x y es p both.1

rise_some : (k : Value) (ps : List (Value × Value)) → (below_all value_cmp k ps && is_sorted value_cmp ps) ≡ rise_from (Some k) ps
rise_some k [] = refl
rise_some k (p ∷ ps) = go (value_cmp k p.0) refl ∙ ap (λ s. is_lt (value_cmp k p.0) && s) (rise_some p.0 ps)
  where
    no : (b : Bool) → (b && false) ≡ false
    no true = refl
    no false = refl

    inner : value_cmp k p.0 ≡ Less → (b : Bool) → below_all value_cmp p.0 ps ≡ b → (below_all value_cmp k ps && (b && is_sorted value_cmp ps)) ≡ (b && is_sorted value_cmp ps)
    inner q true h = ap (λ c. c && is_sorted value_cmp ps) (below_less k p.0 ps q h)
    inner q false h = no (below_all value_cmp k ps)

    go : (r : Ordering) → value_cmp k p.0 ≡ r → ((is_lt r && below_all value_cmp k ps) && (below_all value_cmp p.0 ps && is_sorted value_cmp ps)) ≡ (is_lt r && (below_all value_cmp p.0 ps && is_sorted value_cmp ps))
    go Less q = inner q (below_all value_cmp p.0 ps) refl
    go Equal q = refl
    go Greater q = refl

pub rise_all : (ps : List (Value × Value)) → rise_from None ps ≡ are_pairs ps
rise_all [] = refl
rise_all (p ∷ ps) = sym (rise_some p.0 ps)
