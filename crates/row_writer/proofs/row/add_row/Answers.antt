use Rattle.std.proofs.Common.{◌==◌, ◌∙◌, ap, sym, ℕ, List, length, arith}
use Rattle.std.proofs.lemmas.List.{append-nil}
use Rattle.row_writer.proofs.RowSteps.{row_ends_blank, row_ends, value_step, later_is}
use Rattle.row_writer.proofs.row.add_row.Goals as goal
use Rattle.row_writer.proofs.row.add_row.Goals.{then-later+in_ok-add_byte, else-later, then-is_empty+in_ok-extend_from_slice, else-is_empty}

pub loop-value-preserved : goal.loop-value-preserved
loop-value-preserved c =
    let i = c.loop-value.value-index in
    let t = c.args.tuple.now in
    record {
      text = elim c.if-later.branch [
        | then-later+in_ok-add_byte w ↦
            value_step t i c.value-item.result c.loop-value.row.items c.if-later.row.items c.add_value.new.row.items c.loop-value.later c.loop-value-test.true c.value-item.is c.loop-value.invariant.first c.loop-value.invariant.text
            (ap (λ v. v.items) w.row-is ∙ rw w.if-later.true (w.in_ok-add_byte.ensures)) c.in_ok-add_value.ensures
        | else-later w ↦
            value_step t i c.value-item.result c.loop-value.row.items c.if-later.row.items c.add_value.new.row.items c.loop-value.later c.loop-value-test.true c.value-item.is c.loop-value.invariant.first c.loop-value.invariant.text
            (ap (λ v. v.items) w.row-is ∙ rw w.if-later.false (sym (append-nil c.loop-value.row.items))) c.in_ok-add_value.ensures
      ];
      first = later_is i;
    }

pub returns : goal.returns
returns c =
    let t = c.args.tuple.now in
    let i = c.loop-value.value-index in
    let size = ap (λ (z : List ℕ). length z == 0) (sym c.as_slice.ensures.value) in
    elim c.if-is_empty.branch [
      | then-is_empty+in_ok-extend_from_slice w ↦
          row_ends_blank t i c.loop-value.row.items c.if-is_empty.row.items c.add_byte-2.new.row.items (omega arith) c.loop-value.invariant.text (size ∙ sym c.is_empty.ensures ∙ w.if-is_empty.true)
          (ap (λ v. v.items) w.row-is ∙ w.in_ok-extend_from_slice.ensures.items) c.in_ok-add_byte-2.ensures
      | else-is_empty w ↦
          row_ends t i c.loop-value.row.items c.if-is_empty.row.items c.add_byte-2.new.row.items (omega arith) c.loop-value.invariant.text (size ∙ sym c.is_empty.ensures ∙ w.if-is_empty.false)
          (ap (λ v. v.items) w.row-is) c.in_ok-add_byte-2.ensures
    ]
