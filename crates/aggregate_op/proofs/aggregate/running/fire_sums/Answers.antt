use Rattle.std.proofs.Common.{sym, ◌∙◌}
use Rattle.aggregate_op.proofs.SumsSteps.{folds_many, tuple_stands, tuple_sums}
use Rattle.aggregate_op.specs.Kept.{folds_of}
use Rattle.aggregate_op.proofs.aggregate.running.fire_sums.Goals as goal

pub given_summed-requires : goal.given_summed-requires
given_summed-requires c =
    let x = c.args.clauses.now in
    let a = c.args in
    let t = c.requires.gives in
    let many = folds_many x a.args c.requires.many in (
      t.2,
      tuple_sums x t.0 a.running.now t.1 t.3 a.key.now a.tuple a.args c.requires.long c.requires.many c.in_ok-summed.summed
          (c.in_ok-summed.ensures.summed t.0 (folds_of x.output.now) t.1 t.3.runs many (t.3.reaches a.tuple c.requires.long)) ∙ t.4,
    )

pub returns-clause-outs : goal.returns-clause-outs
returns-clause-outs c rule h stood =
    let x = c.args.clauses.now in
    let a = c.args in
    let many = folds_many x a.args c.requires.many in
    sym (tuple_sums x rule a.running.now h stood a.key.now a.tuple a.args c.requires.long c.requires.many c.in_ok-summed.summed
    (c.in_ok-summed.ensures.summed rule (folds_of x.output.now) h stood.runs many (stood.reaches a.tuple c.requires.long))) ∙ c.in_ok-outs.ensures

pub returns-clause-stands : goal.returns-clause-stands
returns-clause-stands c rule h stood =
    let x = c.args.clauses.now in
    let a = c.args in
    let many = folds_many x a.args c.requires.many in
    tuple_stands x rule a.running.now h stood a.key.now a.tuple a.args c.requires.long c.requires.many _
    (c.in_ok-summed.ensures.runs rule (folds_of x.output.now) h stood.runs many (stood.reaches a.tuple c.requires.long))
