use Rattle.std.proofs.Common.{sym, subst, ◌∙◌}
use Rattle.spl_value.specs.declared.value.Value.TheVariants as V
use Rattle.row_reader.specs.steps.Adding.{IsPut}
use Rattle.row_reader.proofs.FieldValues.{an_integer, kept}
use Rattle.row_reader.proofs.columns.put_integer_field.Goals as goal

pub returns-in_ok-put_number-in-Some : goal.returns-in_ok-put_number-in-Some
returns-in_ok-put_number-in-Some c =
    let read = sym c.in-Some.is ∙ c.read_integer.ensures in
    an_integer c.args.kind c.args.field.now c.in-Some.n c.args.at c.args.tuple.now c.put_number.new.tuple read
    (subst (λ n. IsPut c.args.at (V.Int n) c.args.tuple.now c.put_number.new.tuple) (kept c.args.kind c.args.field.now c.in-Some.n read) c.in_ok-put_number-in-Some.ensures)
