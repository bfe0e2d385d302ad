use Rattle.std.proofs.Common.{rules}
use Rattle.std.specs.Prelude.{FitsSigned}
use Rattle.std.specs.Int.{w128}
use Rattle.std.proofs.lemmas.Int.{to_z-of_z}
use Rattle.window_policy.proofs.Parts.{fills, tumbles, shifts, slides}
use Rattle.window_policy.proofs.part.Part.add.Goals as goal

pub returns-in_ok-fired-in-TumblingCount : goal.returns-in_ok-fired-in-TumblingCount
returns-in_ok-fired-in-TumblingCount c ts =
    fills c.args.tuple ts c.in-TumblingCount.count c.args.rule c.in-TumblingCount.is c.args.self.now _ _
    c.in_ok-fired-in-TumblingCount.ensures.kept c.in_ok-fired-in-TumblingCount.ensures.fired

pub returns-in_ok-fired-in-TumblingDelta : goal.returns-in_ok-fired-in-TumblingDelta
returns-in_ok-fired-in-TumblingDelta c ts =
    let fits : FitsSigned w128 c.in-TumblingDelta.limit = search rules in
    tumbles c.args.tuple ts c.in-TumblingDelta.attr c.in-TumblingDelta.limit c.args.rule c.in-TumblingDelta.is c.args.self.now _ _
    (simp to_z-of_z at c.in_ok-fired-in-TumblingDelta.ensures.kept)
    (simp to_z-of_z at c.in_ok-fired-in-TumblingDelta.ensures.fired)

pub returns-in_ok-shift-in-SlidingCount : goal.returns-in_ok-shift-in-SlidingCount
returns-in_ok-shift-in-SlidingCount c ts =
    shifts c.args.tuple ts c.in-SlidingCount.keep c.in-SlidingCount.every c.args.rule c.in-SlidingCount.is c.args.self.now _ _
    c.in_ok-shift-in-SlidingCount.ensures c.count_tuple.ensures

pub returns-in_ok-slide-in-SlidingDelta : goal.returns-in_ok-slide-in-SlidingDelta
returns-in_ok-slide-in-SlidingDelta c ts =
    let fits : FitsSigned w128 c.in-SlidingDelta.limit = search rules in
    slides c.args.tuple ts c.in-SlidingDelta.attr c.in-SlidingDelta.limit c.in-SlidingDelta.every c.args.rule c.in-SlidingDelta.is c.args.self.now _ _
    (simp to_z-of_z at c.in_ok-slide-in-SlidingDelta.ensures.kept)
    c.in_ok-slide-in-SlidingDelta.ensures.rises
    c.count_tuple-in-SlidingDelta.ensures
