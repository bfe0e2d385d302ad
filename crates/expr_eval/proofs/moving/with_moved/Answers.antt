use Rattle.std.proofs.Common.{None, Some, length, refl}
use Rattle.std.proofs.lemmas.Option.{slice_get_read}
use Rattle.expr_eval.proofs.MovedFields.{attribute_there, but_moved, but_none, but_on, left_after, left_on, place_there, told}
use Rattle.expr_eval.proofs.moving.with_moved.Goals as goal

pub move_value-requires-clause-place : goal.move_value-requires-clause-place
move_value-requires-clause-place c =
    let tuple = c.requires.there in
    place_there c.args.fields.now c.args.moves.now c.requires.moves c.args.came.now c.loop-i.i c.loop-i.came c.loop-i.invariant.left c.in-Some.attribute
    (told c.args.fields.now c.args.moves.now c.requires.moves.each c.loop-i.i c.loop-i-test.true (Some c.in-Some.attribute) c.in-Some.is) c.index-fields-i.result
    (slice_get_read c.args.fields.now (length c.args.fields.now) c.loop-i.i c.index-fields-i.result refl c.loop-i-test.true c.index-fields-i.is)
    tuple.0 c.loop-i.values (c.loop-i.invariant.but tuple.0 tuple.1 tuple.2) tuple.2

pub move_value-requires-clause-attribute : goal.move_value-requires-clause-attribute
move_value-requires-clause-attribute c =
    let tuple = c.requires.there in
    attribute_there c.args.fields.now c.args.moves.now c.requires.moves c.args.came.now c.loop-i.i c.loop-i.came c.loop-i.invariant.left c.in-Some.attribute
    (told c.args.fields.now c.args.moves.now c.requires.moves.each c.loop-i.i c.loop-i-test.true (Some c.in-Some.attribute) c.in-Some.is) c.index-fields-i.result
    (slice_get_read c.args.fields.now (length c.args.fields.now) c.loop-i.i c.index-fields-i.result refl c.loop-i-test.true c.index-fields-i.is)
    tuple.0 c.loop-i.values (c.loop-i.invariant.but tuple.0 tuple.1 tuple.2) tuple.2

pub returns : goal.returns
returns c = λ tuple but to.
    but_none c.args.fields.now c.args.moves.now c.requires.moves c.args.came.now c.loop-i.i tuple c.loop-i.values c.loop-i-test.false (c.loop-i.invariant.but tuple but to)

pub loop-i-preserved : goal.loop-i-preserved
loop-i-preserved c =
    let fs = c.args.fields.now in
    let ms = c.args.moves.now in
    let m = told fs ms c.requires.moves.each c.loop-i.i c.loop-i-test.true (Some c.in-Some.attribute) c.in-Some.is in
    let at = slice_get_read fs (length fs) c.loop-i.i c.index-fields-i.result refl c.loop-i-test.true c.index-fields-i.is in
    record {
      but = λ tuple but to.
          but_moved fs ms c.requires.moves c.args.came.now c.loop-i.i c.loop-i.came c.loop-i.invariant.left c.in-Some.attribute m c.index-fields-i.result at tuple c.loop-i.values
          (c.loop-i.invariant.but tuple but to) to c.move_value.ensures.moved.0 c.move_value.new.values c.move_value.ensures.moved.1 c.move_value.ensures.moved.2;
      left = left_after fs ms c.requires.moves c.args.came.now c.loop-i.i c.loop-i.came c.loop-i.invariant.left c.in-Some.attribute m c.move_value.ensures.left.0 c.move_value.new.came c.move_value.ensures.left.1;
    }

pub loop-i-init : goal.loop-i-init
loop-i-init c = record { but = λ tuple but to. but; left = λ a none. refl }

pub loop-i-preserved-in_default : goal.loop-i-preserved-in_default
loop-i-preserved-in_default c =
    let fs = c.args.fields.now in
    let ms = c.args.moves.now in
    let m = told fs ms c.requires.moves.each c.loop-i.i c.loop-i-test.true None c.in_default.is in
    record {
      but = λ tuple but to. but_on fs ms c.requires.moves c.args.came.now c.loop-i.i c.loop-i.came c.loop-i.invariant.left m tuple c.loop-i.values (c.loop-i.invariant.but tuple but to);
      left = left_on fs ms c.requires.moves c.args.came.now c.loop-i.i c.loop-i.came c.loop-i.invariant.left m;
    }
