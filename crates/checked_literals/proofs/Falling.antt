-- A unit whose functions and composites call those before them alone has no recursion.
use Rattle.std.specs.Prelude.{◌≡◌, ◌<◌, ◌+◌, ℕ, zero, suc, nat_lt, Bool, true, ◌&&◌, List, [], ◌∷◌, length, Some}
use Rattle.std.specs.Cmp.{first_so, second_so}
use Rattle.std.specs.List.{Contains, list_all, slice_get}
use Rattle.std.proofs.Common.{sym, subst, arith, get_or}
use Rattle.std.proofs.lemmas.Bool.{ltb-true}
use Rattle.std.proofs.lemmas.Option.{same_Some}
use Rattle.spl_tree.specs.declared.expression.Placed.{Placed}
use Rattle.spl_tree.specs.declared.unit.Definition.{Definition}
use Rattle.language_model.specs.Recursion.{Calls, IsCall, Leads, directly, through, IsNotRecursive, calls_among, composite_callers, function_callers}
use Rattle.language_model.specs.parts.Recursion.{IsAcyclic}

abbrev is_below : ℕ → List (Placed ℕ) → Bool
is_below n list = list_all (λ c. nat_lt c.what n) list

-- each of these callers, from a place on, calls those before it alone
abbrev pub fall_from : ℕ → Calls → Bool
fall_from n [] = true
fall_from n (list ∷ calls) = is_below n list && fall_from (suc n) calls

below_at : (n : ℕ) (list : List (Placed ℕ)) → is_below n list ≡ true → (k : ℕ) (c : Placed ℕ) → k < length list → get_or list k c ≡ c → c.what < n
below_at n [] e k c within there = absurd (omega arith)
below_at n (x ∷ list) e zero c within there = subst (λ (c : Placed ℕ). c.what < n) there (ltb-true x.what n (first_so (nat_lt x.what n) (is_below n list) e))
below_at n (x ∷ list) e (suc k) c within there = below_at n list (second_so (nat_lt x.what n) (is_below n list) e) k c (omega arith) there

below : (n : ℕ) (list : List (Placed ℕ)) → is_below n list ≡ true → (c : Placed ℕ) → Contains list c → c.what < n
below n list e c h = below_at n list e h.0 c h.1 h.2

falls_at : (n : ℕ) (calls : Calls) → fall_from n calls ≡ true → (from : ℕ) (list : List (Placed ℕ)) → slice_get calls from ≡ Some list
    → (c : Placed ℕ) → Contains list c → c.what < n + from
falls_at n [] e zero list of_caller c h = absurd cc
falls_at n [] e (suc from) list of_caller c h = absurd cc
falls_at n (x ∷ calls) e zero list of_caller c h =
    let less = below n x (first_so (is_below n x) (fall_from (suc n) calls) e) c (subst (λ list. Contains list c) (sym (same_Some _ _ of_caller)) h) in omega arith
falls_at n (x ∷ calls) e (suc from) list of_caller c h =
    let less = falls_at (suc n) calls (second_so (is_below n x) (fall_from (suc n) calls) e) from list of_caller c h in omega arith

falls : (calls : Calls) → fall_from 0 calls ≡ true → (from to : ℕ) → IsCall calls from to → to < from
falls calls e from to call = let less = falls_at 0 calls e from call.list call.of_caller call.call call.among in omega (arith, less, call.callee)

leads_down : (calls : Calls) → fall_from 0 calls ≡ true → (from to : ℕ) → Leads calls from to → to < from
leads_down calls e from to (directly f t call) = falls calls e from to call
leads_down calls e from to (through f mid t call on) =
    let first = falls calls e from mid call in let rest = leads_down calls e mid to on in omega arith

acyclic : (calls : Calls) → fall_from 0 calls ≡ true → IsAcyclic calls
acyclic calls e i leads = let less = leads_down calls e i i leads in omega arith

pub not_recursive : (unit : List Definition) → fall_from 0 (calls_among (function_callers unit)) ≡ true → fall_from 0 (calls_among (composite_callers unit)) ≡ true
    → IsNotRecursive unit
not_recursive unit functions composites = record {
  functions = acyclic (calls_among (function_callers unit)) functions;
  composites = acyclic (calls_among (composite_callers unit)) composites;
}
