use Rattle.std.proofs.Common.{◌∙◌, sym, ap, arith}
use Rattle.language_model.specs.Taking.{first_untaken}
use Rattle.composite_expand.proofs.Comes.{untaken_within}
use Rattle.composite_expand.proofs.graph.first_waiting.Goals as goal

pub remove-requires : goal.remove-requires
remove-requires c =
    let h = untaken_within c.args.order.now 0 c.len.result c.in-Some.op (sym c.in-Some.ensures) in
    let n = c.len.ensures in
    omega (arith, h, n)

pub returns-in-Some : goal.returns-in-Some
returns-in-Some c = (
  c.in-Some.op,
  ap (λ n. first_untaken c.args.order.now 0 n) (sym c.len.ensures) ∙ sym c.in-Some.ensures,
  c.remove.ensures.item,
)

pub returns : goal.returns
returns c = ap (λ n. first_untaken c.args.order.now 0 n) (sym c.len.ensures) ∙ sym c.first_outside.ensures ∙ c.in-None.is
