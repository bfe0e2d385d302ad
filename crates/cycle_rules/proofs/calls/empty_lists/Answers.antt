use Rattle.std.proofs.Common.{◌≡◌, ◌∙◌, ◌++◌, ◌∷◌, [], suc, add-one, ap, sym, subst}
use Rattle.cycle_rules.specs.steps.Callers.{AreEmpty}
use Rattle.cycle_rules.proofs.Calling.{empty_more}
use Rattle.cycle_rules.proofs.calls.empty_lists.Goals as goal

pub loop-preserved : goal.loop-preserved
loop-preserved c =
    let e : c.push.new.self.items ≡ c.loop.lists.items ++ ([] ∷ []) = c.in_ok-push.ensures.items ∙ ap (λ l. c.loop.lists.items ++ (l ∷ [])) c.new.ensures in
    rw add-one (subst (λ xs. AreEmpty (suc c.loop.counter) xs) (sym e) (empty_more c.loop.counter c.loop.lists.items c.loop.invariant))
