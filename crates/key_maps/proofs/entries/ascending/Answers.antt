use Rattle.std.proofs.Common.{rules, ◌≡◌, T, sym, ap, subst, ◌∙◌}
use Rattle.std.specs.FinMap.{find, is_sorted}
use Rattle.std.specs.List.Sorted.{IsSorted}
use Rattle.std.specs.Map.{keys_of}
use Rattle.spl_value.specs.KeyOrder.{key_cmp}
use Rattle.key_maps.proofs.MapKeys.{sorted_entries, derived_key_cmp, find-lookup}
use Rattle.key_maps.proofs.entries.ascending.Goals as goal

pub returns-clause-sorted : goal.returns-clause-sorted
returns-clause-sorted g c =
    let items : c.in_ok-pairs.pairs.items ≡ c.sort_keys.new.self.entries = search rules in
    subst (λ es. T (is_sorted key_cmp es)) (sym items)
    (sorted_entries c.sort_keys.new.self.entries
    (subst (λ R. IsSorted R (keys_of c.sort_keys.new.self.entries)) derived_key_cmp c.in_ok-sort_keys.ensures.sorted)
    c.in_ok-sort_keys.ensures.unique)

pub returns-clause-found : goal.returns-clause-found
returns-clause-found g c q =
    let items : c.in_ok-pairs.pairs.items ≡ c.sort_keys.new.self.entries = search rules in
    ap (find key_cmp q) items ∙ find-lookup q c.sort_keys.new.self.entries ∙ c.in_ok-sort_keys.ensures.reordered.2 q
