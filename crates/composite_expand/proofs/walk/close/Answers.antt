use Rattle.std.proofs.Common.{◌∙◌, refl, sym, inl, inr}
use Rattle.composite_expand.proofs.Steps.{ends_without, idle_popped, same_walk}
use Rattle.composite_expand.proofs.walk.close.Goals as goal
use Rattle.composite_expand.proofs.walk.close.Goals.{then-is_empty-via-then-is_empty, then-is_empty-via-else-is_empty+then-len-top}

pub returns-then-is_empty : goal.returns-then-is_empty
returns-then-is_empty c = λ unit main comp is.
    ends_without unit main c.args.walk.now _ c.args.top comp is (same_walk c.args.walk.now c.args.walk.now.opened) refl
    (elim c.then-is_empty.branch [
      | then-is_empty-via-then-is_empty w ↦ inl (w.if-is_empty.ensures.0 refl)
      | then-is_empty-via-else-is_empty+then-len-top w ↦ inr (λ same. w.if-len-top.true (w.len.ensures ∙ sym same))
    ])

pub returns : goal.returns
returns c = λ unit main comp is.
    idle_popped unit main c.args.walk.now _ c.args.top comp is c.pop.result c.pop-2.result refl (λ none. let h = c.if-is_empty.ensures.1 none in absurd cc)
    (sym (sym c.len.ensures ∙ c.if-len-top.false)) refl c.set.ensures refl c.pop.ensures c.pop-2.ensures refl
