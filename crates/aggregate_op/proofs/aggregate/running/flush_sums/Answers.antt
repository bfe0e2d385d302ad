use Rattle.std.proofs.Common.{◌++◌, Some, map, sym, ap, ◌∙◌}
use Rattle.aggregate_op.specs.Kept.{folds_of}
use Rattle.aggregate_op.specs.steps.Summing.{made_by, sums_given}
use Rattle.aggregate_op.proofs.SumsSteps.{mark_stands, mark_sums}
use Rattle.aggregate_op.proofs.aggregate.running.flush_sums.Goals as goal

pub give_sums-requires : goal.give_sums-requires
give_sums-requires c =
    let x = c.args.clauses.now in
    let t = c.requires in (
      t.2,
      ap (λ list. sums_given x (map made_by list)) c.as_slice.ensures
          ∙ mark_sums x t.0 c.args.running.now t.1 t.3 c.in_ok-list.list (c.in_ok-list.ensures.summed t.0 (folds_of x.output.now) t.1 t.3.runs) ∙ t.4,
    )

pub returns-clause-outs : goal.returns-clause-outs
returns-clause-outs c rule h stood =
    let x = c.args.clauses.now in
    let t = c.requires in
    let are = ap (λ list. sums_given x (map made_by list)) c.as_slice.ensures in
    let all = are ∙ mark_sums x t.0 c.args.running.now t.1 t.3 c.in_ok-list.list (c.in_ok-list.ensures.summed t.0 (folds_of x.output.now) t.1 t.3.runs) ∙ t.4 in
    sym (are ∙ mark_sums x rule c.args.running.now h stood c.in_ok-list.list (c.in_ok-list.ensures.summed rule (folds_of x.output.now) h stood.runs))
    ∙ all ∙ ap Some (sym (c.in_ok-give_sums.ensures t.2 all ∙ ap (λ os. os ++ t.2) c.new-outs.ensures))

pub returns-clause-stands : goal.returns-clause-stands
returns-clause-stands c rule h stood =
    mark_stands c.args.clauses.now rule c.args.running.now h stood _ (c.in_ok-list.ensures.runs rule (folds_of c.args.clauses.now.output.now) h stood.runs)
