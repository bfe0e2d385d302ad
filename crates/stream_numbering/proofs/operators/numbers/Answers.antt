use Rattle.std.proofs.Common.{ap, sym, ◌∙◌, ◌++◌, ◌+◌, ◌∷◌, []}
use Rattle.stream_numbering.proofs.Numbers.{numbers_more}
use Rattle.stream_numbering.proofs.operators.numbers.Goals as goal

pub loop-k-preserved : goal.loop-k-preserved
loop-k-preserved c =
    c.in_ok-push.ensures.ok ∙ ap (λ ids. ids ++ (c.args.first + c.loop-k.k) ∷ []) c.loop-k.invariant ∙ sym (numbers_more c.args.first c.loop-k.k)
