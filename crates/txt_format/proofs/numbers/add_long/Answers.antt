use Rattle.std.proofs.Common.{sym, ap, take, drop, ◌-◌, ◌∙◌, ◌++◌, ◌∷◌, []}
use Rattle.spl_value.specs.declared.value.Value.TheVariants as V
use Rattle.txt_format.proofs.Steps.{int_none, int_some, kept}
use Rattle.txt_format.proofs.numbers.add_long.Goals as goal

pub returns-in-None : goal.returns-in-None
returns-in-None c =
    int_none c.args.kind c.args.line.now c.args.at c.number_end-end.result c.args.values.now c.number_end-end.ensures.end (sym c.read_integer.ensures ∙ c.in-None.is)

pub returns-in_ok-push-in-Some : goal.returns-in_ok-push-in-Some
returns-in_ok-push-in-Some c =
    let is = sym c.read_integer.ensures ∙ c.in-Some.is in
    let n = c.in-Some.n in (
      c.number_end-end.ensures.within,
      int_some c.args.kind c.args.line.now c.args.at c.number_end-end.result c.args.values.now _ n c.number_end-end.ensures.end is
          (c.in_ok-push-in-Some.ensures.ok ∙ ap (λ z. c.args.values.now ++ V.Int z ∷ []) (kept c.args.kind (take (c.number_end-end.result - c.args.at) (drop c.args.at c.args.line.now)) n is)),
    )
