-- The composites of a program call those before them alone, so none reaches itself.
use Rattle.std.specs.Prelude.{◌≡◌, ◌<◌, ℕ, zero, suc, [], ◌∷◌}
use Rattle.std.specs.List.{Contains}
use Rattle.std.proofs.Common.{sym, ap, subst, arith, get_or}
use Rattle.std.proofs.lemmas.Option.{same_Some}
use Rattle.spl_tree.specs.declared.expression.Placed.{Placed}
use Rattle.spl_tree.specs.Trees.{placed}
use Rattle.language_model.specs.examples.FlatGraphs.{reversed}
use Rattle.language_model.specs.Recursion.{IsCall, Leads, directly, through, calls_among, composite_callers}
use Rattle.graph_laws.proofs.laws.graphs_on_literals.Goals as goal

none_there : (c : Placed ℕ) → Contains [] c → ⊥
none_there c h = let within : h.0 < 0 = h.1 in omega arith

one_of_two : (a b k : ℕ) (c : Placed ℕ) → k < 2 → get_or (placed a 0 ∷ placed b 0 ∷ []) k c ≡ c → c.what ≡ 0
one_of_two a b zero c lt e = ap (λ (p : Placed ℕ). p.what) (sym e)
one_of_two a b (suc zero) c lt e = ap (λ (p : Placed ℕ). p.what) (sym e)
one_of_two a b (suc (suc k)) c lt e = absurd (omega arith)

either : (a b : ℕ) (c : Placed ℕ) → Contains (placed a 0 ∷ placed b 0 ∷ []) c → c.what ≡ 0
either a b c h = let within : h.0 < 2 = h.1 in one_of_two a b h.0 c within h.2

before : (from to : ℕ) → IsCall (calls_among (composite_callers reversed)) from to → to < from
before zero to call = absurd (none_there call.call (subst (λ list. Contains list call.call) (sym (same_Some _ _ call.of_caller)) call.among))
before (suc zero) to call =
    let first : call.call.what ≡ 0 = either _ _ call.call (subst (λ list. Contains list call.call) (sym (same_Some _ _ call.of_caller)) call.among) in omega (arith, first, call.callee)
before (suc (suc from)) to call = let none = call.of_caller in absurd cc

all_before : (from to : ℕ) → Leads (calls_among (composite_callers reversed)) from to → to < from
all_before from to (directly f t call) = before from to call
all_before from to (through f mid t call on) = let first = before from mid call in let rest = all_before mid to on in omega arith

pub returns-clause-acyclic : goal.returns-clause-acyclic
returns-clause-acyclic c i leads = let below = all_before i i leads in omega arith
