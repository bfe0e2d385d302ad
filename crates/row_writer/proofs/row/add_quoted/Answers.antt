use Rattle.std.proofs.Common.{◌∙◌, ◌++◌, ◌∷◌, [], ap, sym, get_or}
use Rattle.std.proofs.lemmas.List.{append-nil}
use Rattle.std.proofs.lemmas.Bool.{ne_eqb}
use Rattle.row_writer.proofs.RowSteps.{escaped_none, quote_step, other_step}
use Rattle.row_writer.proofs.row.add_quoted.Goals as goal
use Rattle.row_writer.proofs.row.add_quoted.Goals.{then-b-eq34+in_ok-add_byte-2, else-b-eq34}

pub loop-b-init : goal.loop-b-init
loop-b-init c = rw escaped_none (c.in_ok-add_byte.ensures ∙ sym (append-nil (c.args.row.now.items ++ 34 ∷ [])))

pub loop-b-preserved : goal.loop-b-preserved
loop-b-preserved c =
    let xs = c.args.field.now in
    let i = c.loop-b.b-index in
    elim c.if-b-eq34.branch [
      | then-b-eq34+in_ok-add_byte-2 w ↦
          c.in_ok-add_byte-3.ensures ∙ quote_step (c.args.row.now.items ++ 34 ∷ []) xs c.loop-b.row.items c.if-b-eq34.row.items i c.loop-b-test.true w.if-b-eq34.true
          (ap (λ v. v.items) w.row-is ∙ w.in_ok-add_byte-2.ensures) c.loop-b.invariant
      | else-b-eq34 w ↦
          c.in_ok-add_byte-3.ensures ∙ other_step (c.args.row.now.items ++ 34 ∷ []) xs c.loop-b.row.items c.if-b-eq34.row.items i c.loop-b-test.true (ne_eqb (get_or xs i 0) 34 w.if-b-eq34.false)
          (ap (λ v. v.items) w.row-is) c.loop-b.invariant
    ]
