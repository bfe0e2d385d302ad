use Rattle.std.proofs.Common.{pos, subst, take}
use Rattle.spl_value.specs.declared.value.Value.TheVariants as V
use Rattle.row_reader.specs.steps.Adding.{IsPut}
use Rattle.row_reader.proofs.FieldValues.{is_number, kept_short}
use Rattle.row_reader.proofs.unmarked.put_short.Goals as goal

pub returns-in_ok-put_number-in-Some-clause-put : goal.returns-in_ok-put_number-in-Some-clause-put
returns-in_ok-put_number-in-Some-clause-put c =
    let short = c.in-Some.ensures.short in
    record {
      v = V.Int (pos c.in-Some.n);
      cut = short.cut;
      value = is_number c.args.kind (take c.in-Some.end c.args.line.now) (pos c.in-Some.n) short.value;
      put = subst (λ z. IsPut c.args.at (V.Int z) c.args.tuple.now c.put_number.new.tuple) (kept_short c.in-Some.n c.from.result c.from.ensures c.in-Some.ensures.small) c.in_ok-put_number-in-Some.ensures;
    }
