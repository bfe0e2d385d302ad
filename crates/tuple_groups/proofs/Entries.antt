-- Entries whose values are mapped.
use Rattle.std.proofs.Common.{◌≡◌, Bool, true, false, cond, ◌&&◌, List, [], ◌∷◌, map, Some, refl, ap, ◌∙◌}
use Rattle.std.specs.Option.{option_map}
use Rattle.std.specs.Ordering.{is_lt, eq_by_cmp}
use Rattle.std.specs.FinMap.{find, is_sorted}
use Rattle.std.specs.FinMap.Entries.{below_all}
use Rattle.spl_value.specs.declared.value.Value.{Value}
use Rattle.spl_value.specs.KeyOrder.{key_cmp}

module _ {X Y : Type 0} (f : X → Y) where
  abbrev pub with_value : List Value × X → List Value × Y
  with_value e = (e.0, f e.1)

  pub find-mapped : (q : List Value) (es : List (List Value × X)) → find key_cmp q (map with_value es) ≡ option_map f (find key_cmp q es)
  find-mapped q [] = refl
  find-mapped q (e ∷ es) = ap (λ o. cond (eq_by_cmp key_cmp q e.0) (Some (f e.1)) o) (find-mapped q es) ∙ by (eq_by_cmp key_cmp q e.0)
    where
      by : (b : Bool) → cond b (Some (f e.1)) (option_map f (find key_cmp q es)) ≡ option_map f (cond b (Some e.1) (find key_cmp q es))
      by true = refl
      by false = refl

  below-mapped : (k : List Value) (es : List (List Value × X)) → below_all key_cmp k (map with_value es) ≡ below_all key_cmp k es
  below-mapped k [] = refl
  below-mapped k (e ∷ es) = ap (λ b. is_lt (key_cmp k e.0) && b) (below-mapped k es)

  pub sorted-mapped : (es : List (List Value × X)) → is_sorted key_cmp (map with_value es) ≡ is_sorted key_cmp es
  sorted-mapped [] = refl
  sorted-mapped (e ∷ es) = λ i. below-mapped e.0 es i && sorted-mapped es i
